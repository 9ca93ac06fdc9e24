-- The records of a file, read one after another.
use Rattle.std.proofs.Common.{◌≡◌, ◌+◌, ℕ, suc, true, false, List, [], ◌∷◌, ◌++◌, length, Some, None, Result, Ok, Err, refl, sym, ◌∙◌, ap, arith, append_assoc}
use Rattle.std.proofs.lemmas.List.{append-nil}
use Rattle.std.specs.Prelude.{if◌then◌else◌}
use Rattle.ap_journal.specs.Records.{standing, has_bad_header, size_of, record_at}
use Rattle.ap_journal.specs.Walking.{next_record, no_record, size_behind}
use Rattle.ap_db.specs.Stored.{Stored, nothing_stored, after_payload, Fault, after_payloads, stored_in}

-- ---- what a record brings

record_good : (place : ℕ) (stored next : Stored) (payload : List ℕ) (payloads : List (List ℕ)) → after_payload stored payload ≡ Ok next → after_payloads place stored (payload ∷ payloads) ≡ after_payloads (suc place) next payloads
unfolding after_payloads
record_good place stored next payload payloads e = rw e refl

record_bad : (place offset : ℕ) (stored : Stored) (payload : List ℕ) (payloads : List (List ℕ)) → after_payload stored payload ≡ Err offset → after_payloads place stored (payload ∷ payloads) ≡ Err (record { place = place; offset = offset })
unfolding after_payloads
record_bad place offset stored payload payloads e = rw e refl

no_records : (place : ℕ) (stored : Stored) → after_payloads place stored [] ≡ Ok stored
unfolding after_payloads
no_records place stored = refl

-- ---- reading on

-- the records before an offset are read, the next one has this number, and what is left comes to what all do
pub record HasRead (file : List ℕ) (at number : ℕ) (stored : Stored) : Type 0 where
  pub done : List (List ℕ)
  pub rest : List (List ℕ)
  pub are : standing file ≡ done ++ rest
  pub here : at ≡ 16 + size_of done
  pub read : after_payloads 1 nothing_stored (standing file) ≡ after_payloads number stored rest

-- nothing is read yet
pub none_read : (file : List ℕ) → HasRead file 16 1 nothing_stored
none_read file = record { done = []; rest = standing file; are = refl; here = omega arith; read = refl }

-- the record here is the first of the rest
record Here (file payload : List ℕ) (next : ℕ) (done rest : List (List ℕ)) : Type 0 where
  behind : List (List ℕ)
  first : rest ≡ payload ∷ behind
  are : standing file ≡ done ++ (payload ∷ behind)
  place : next ≡ 16 + size_of done + 5 + length payload

parts_of : (x y : List ℕ × ℕ) → Some x ≡ Some y → (x.0 ≡ y.0) × (x.1 ≡ y.1)
parts_of x y is =
    let inside : x ≡ y = cc in
    (ap (λ (p : List ℕ × ℕ). p.0) inside, ap (λ (p : List ℕ × ℕ). p.1) inside)

here_is : (file payload : List ℕ) (at next : ℕ) (done rest : List (List ℕ)) → standing file ≡ done ++ rest → at ≡ 16 + size_of done → Some (payload, next) ≡ record_at file at → Here file payload next done rest
here_is file payload at next done [] are here found =
    let nothing : record_at file at ≡ None = ap (λ (n : ℕ). record_at file n) here ∙ no_record file done (are ∙ append-nil done) in
    absurd (cc (found, nothing))
here_is file payload at next done (first ∷ behind) are here found =
    let is : Some (payload, next) ≡ Some (first, 16 + size_of done + 5 + length first) = found ∙ ap (λ (n : ℕ). record_at file n) here ∙ next_record file done first behind are in
    let parts = parts_of (payload, next) (first, 16 + size_of done + 5 + length first) is in
    let same : first ≡ payload = sym parts.0 in
    record {
      behind = behind;
      first = ap (λ (l : List ℕ). l ∷ behind) same;
      are = are ∙ ap (λ (l : List ℕ). done ++ (l ∷ behind)) same;
      place = parts.1 ∙ ap (λ (l : List ℕ). 16 + size_of done + 5 + length l) same;
    }

-- one more is read
pub read_more : (file payload : List ℕ) (at next number : ℕ) (stored later : Stored) → after_payload stored payload ≡ Ok later → HasRead file at number stored → Some (payload, next) ≡ record_at file at → HasRead file next (number + 1) later
read_more file payload at next number stored later good so_far found =
    let this = here_is file payload at next so_far.done so_far.rest so_far.are so_far.here found in
    let more : suc number ≡ number + 1 = omega arith in
    record {
      done = so_far.done ++ payload ∷ [];
      rest = this.behind;
      are = this.are ∙ sym (append_assoc so_far.done (payload ∷ []) this.behind);
      here = omega (arith, this.place, size_behind so_far.done payload);
      read = so_far.read ∙ ap (after_payloads number stored) this.first ∙ record_good number stored later payload this.behind good
          ∙ ap (λ (k : ℕ). after_payloads k later this.behind) more;
    }

-- the record here is the first bad one
pub bad_here : (file payload : List ℕ) (at next number offset : ℕ) (stored : Stored) → after_payload stored payload ≡ Err offset → HasRead file at number stored → Some (payload, next) ≡ record_at file at
    → after_payloads 1 nothing_stored (standing file) ≡ Err (record { place = number; offset = offset })
bad_here file payload at next number offset stored bad so_far found =
    let this = here_is file payload at next so_far.done so_far.rest so_far.are so_far.here found in
    so_far.read ∙ ap (after_payloads number stored) this.first ∙ record_bad number offset stored payload this.behind bad

-- all are read
pub all_read : (file : List ℕ) (at number : ℕ) (stored : Stored) → HasRead file at number stored → None ≡ record_at file at → after_payloads 1 nothing_stored (standing file) ≡ Ok stored
all_read file at number stored so_far nothing = ended so_far.done so_far.rest so_far.are so_far.here so_far.read
  where
    ended : (done rest : List (List ℕ)) → standing file ≡ done ++ rest → at ≡ 16 + size_of done → after_payloads 1 nothing_stored (standing file) ≡ after_payloads number stored rest → after_payloads 1 nothing_stored (standing file) ≡ Ok stored
    ended done [] are here read = read ∙ no_records number stored
    ended done (first ∷ behind) are here read =
        let is : record_at file at ≡ Some (first, 16 + size_of done + 5 + length first) = ap (λ (n : ℕ). record_at file n) here ∙ next_record file done first behind are in
        absurd (cc (nothing, is))

-- ---- with the header

pub with_header : (file : List ℕ) (r : Result Stored Fault) → has_bad_header file ≡ false → after_payloads 1 nothing_stored (standing file) ≡ r → stored_in file ≡ r
unfolding stored_in
with_header file r good e = ap (λ b. if b then Err (record { place = 0; offset = 0 }) else after_payloads 1 nothing_stored (standing file)) good ∙ e

pub without_header : (file : List ℕ) → has_bad_header file ≡ true → stored_in file ≡ Err (record { place = 0; offset = 0 })
unfolding stored_in
without_header file bad = ap (λ b. if b then Err (record { place = 0; offset = 0 }) else after_payloads 1 nothing_stored (standing file)) bad
