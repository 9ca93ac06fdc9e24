-- The places of a file's records.
use Rattle.std.proofs.Common.{◌≡◌, ℕ, ◌+◌, ◌≤◌, ◌<◌, Bool, true, false, List, [], ◌∷◌, ◌++◌, length, take, drop, Option, Some, None, ◌==◌, if◌then◌else◌, refl, sym, ◌∙◌, ap, subst, arith, append_assoc}
use Rattle.std.proofs.lemmas.List.{take_at, drop_at, drop-drop, drop_all, append-nil}
use Rattle.std.proofs.lemmas.Option.{none-some}
use Rattle.ap_journal.specs.Records.{first_record, with_others, records, standing, size_of, end_of, record_from, record_at}
use Rattle.ap_journal.specs.State.{IsPlace, length_of}
use Rattle.ap_journal.specs.Walking.{skip_before, size_behind}
use Rattle.ap_journal.proofs.Standing.{IsFirst, first_is, unfolded, too_short}

-- behind a first record the others stand
behind_first : (bytes payload : List ℕ) (others : List (List ℕ)) → records bytes ≡ payload ∷ others → (first_record bytes ≡ Some (payload, drop (5 + length payload) bytes)) × (records (drop (5 + length payload) bytes) ≡ others)
behind_first bytes payload others are = by_first (first_record bytes) refl (unfolded bytes)
  where
    at_first : (f : List ℕ × List ℕ) → IsFirst bytes f → payload ∷ others ≡ f.0 ∷ records f.1 → first_record bytes ≡ Some f → (first_record bytes ≡ Some (payload, drop (5 + length payload) bytes)) × (records (drop (5 + length payload) bytes) ≡ others)
    at_first f first same is =
        let head : payload ≡ f.0 = cc same in
        let tail : others ≡ records f.1 = cc same in
        let rest : drop (5 + length payload) bytes ≡ f.1 =
        ap (λ (n : ℕ). drop (5 + n) bytes) (ap length head) ∙ ap (drop (5 + length f.0)) first.is
        ∙ drop_at (1 ∷ first.a ∷ first.b ∷ first.c ∷ first.d ∷ f.0) f.1 (5 + length f.0) (omega arith) in
        let pair : (f.0, f.1) ≡ (payload, drop (5 + length payload) bytes) = ap (λ (l : List ℕ). (l, f.1)) (sym head) ∙ ap (λ (l : List ℕ). (payload, l)) (sym rest) in
        (is ∙ ap Some pair, ap records rest ∙ sym tail)

    by_first : (found : Option (List ℕ × List ℕ)) → first_record bytes ≡ found → records bytes ≡ with_others records found → (first_record bytes ≡ Some (payload, drop (5 + length payload) bytes)) × (records (drop (5 + length payload) bytes) ≡ others)
    by_first None is step = absurd (cc (sym are ∙ step))
    by_first (Some f) is step = at_first f (first_is bytes f is) (sym are ∙ step) is

-- behind so many records the others stand
behind_all : (bytes : List ℕ) (before behind : List (List ℕ)) → records bytes ≡ before ++ behind → records (drop (size_of before) bytes) ≡ behind
behind_all bytes [] behind are = are
behind_all bytes (payload ∷ before) behind are =
    ap records (sym (drop-drop (size_of before) (5 + length payload) bytes)) ∙ behind_all (drop (5 + length payload) bytes) before behind (behind_first bytes payload (before ++ behind) are).1

-- at a place of a file stands the next record
pub behind_place : (file : List ℕ) (at : ℕ) (is : IsPlace file at) → records (drop at file) ≡ is.behind
behind_place file at is =
    ap (λ (n : ℕ). records (drop n file)) is.here ∙ ap records (sym (drop-drop (size_of is.before) 16 file)) ∙ behind_all (drop 16 file) is.before is.behind is.are

pub first_place : (file : List ℕ) → IsPlace file 16
first_place file = record { before = []; behind = standing file; are = refl; here = refl }

-- behind it is the next place
pub next_place : (file : List ℕ) (at count : ℕ) → IsPlace file at → Some count ≡ length_of (first_record (drop at file)) → IsPlace file (at + (5 + count))
next_place file at count is said = by_first (first_record (drop at file)) (unfolded (drop at file)) said
  where
    by_first : (found : Option (List ℕ × List ℕ)) → records (drop at file) ≡ with_others records found → Some count ≡ length_of found → IsPlace file (at + (5 + count))
    by_first None step says = absurd (none-some count (sym says))
    by_first (Some f) step says =
        let long : count ≡ length f.0 = cc says in
        let behind : is.behind ≡ f.0 ∷ records f.1 = sym (behind_place file at is) ∙ step in
        record {
          before = is.before ++ f.0 ∷ [];
          behind = records f.1;
          are = is.are ∙ ap (λ (l : List (List ℕ)). is.before ++ l) behind ∙ sym (append_assoc is.before (f.0 ∷ []) (records f.1));
          here = omega (arith, is.here, long, size_behind is.before f.0);
        }

-- where no further record stands, they end
pub last_place : (file : List ℕ) (at : ℕ) → IsPlace file at → None ≡ length_of (first_record (drop at file)) → at ≡ end_of file
last_place file at is said = by_first (first_record (drop at file)) (unfolded (drop at file)) said
  where
    by_first : (found : Option (List ℕ × List ℕ)) → records (drop at file) ≡ with_others records found → None ≡ length_of found → at ≡ end_of file
    by_first (Some f) step says = absurd (none-some (length f.0) says)
    by_first None step says =
        let behind : is.behind ≡ [] = sym (behind_place file at is) ∙ step in
        let all : standing file ≡ is.before = is.are ∙ ap (λ (l : List (List ℕ)). is.before ++ l) behind ∙ append-nil is.before in
        is.here ∙ ap (λ (l : List (List ℕ)). 16 + size_of l) (sym all)

-- an offset before the place of all these records is none of theirs
none_before : (payloads : List (List ℕ)) (place at : ℕ) → at < place → record_from payloads place at ≡ None
none_before [] place at lt = refl
none_before (payload ∷ others) place at lt =
    let no : (place == at) ≡ false = grind (arith, lt) in
    ap (λ (t : Bool). if t then Some (payload, place + 5 + length payload) else record_from others (place + 5 + length payload) at) no ∙ none_before others (place + 5 + length payload) at (omega (arith, lt))

-- the record at an offset no less than a place is one of those behind the place
at_or_behind : (file : List ℕ) (place at : ℕ) (is : IsPlace file place) → place ≤ at → record_at file at ≡ record_from is.behind place at
at_or_behind file place at is le =
    ap (λ (l : List (List ℕ)). record_from l 16 at) is.are ∙ skip_before is.before is.behind 16 at (omega (arith, le, is.here)) ∙ ap (λ (n : ℕ). record_from is.behind n at) (sym is.here)

-- what stands at a place
at_place : (file : List ℕ) (place : ℕ) (is : IsPlace file place) → is.behind ≡ with_others records (first_record (drop place file))
at_place file place is = sym (behind_place file place is) ∙ unfolded (drop place file)

none_behind : (file : List ℕ) (place at : ℕ) (is : IsPlace file place) → place ≤ at → is.behind ≡ [] → record_at file at ≡ None
none_behind file place at is le nothing = at_or_behind file place at is le ∙ ap (λ (l : List (List ℕ)). record_from l place at) nothing

-- past the end of the file stands no record
pub none_past_end : (file : List ℕ) (place at : ℕ) → IsPlace file place → length file < place → place ≤ at → None ≡ length_of (record_at file at)
none_past_end file place at is past le =
    let nothing : is.behind ≡ [] = sym (behind_place file place is) ∙ ap records (drop_all place file (omega (arith, past))) ∙ too_short [] (omega arith) in
    sym (ap length_of (none_behind file place at is le nothing))

-- where none stands at a place, none stands behind it
pub none_here : (file : List ℕ) (place at : ℕ) → IsPlace file place → None ≡ length_of (first_record (drop place file)) → place ≤ at → None ≡ length_of (record_at file at)
none_here file place at is said le = sym (ap length_of (none_behind file place at is le (by_first (first_record (drop place file)) (at_place file place is) said)))
  where
    by_first : (found : Option (List ℕ × List ℕ)) → is.behind ≡ with_others records found → None ≡ length_of found → is.behind ≡ []
    by_first None step says = step
    by_first (Some f) step says = absurd (none-some (length f.0) says)

-- what stands at a place is what stands at that offset
pub found_here : (file : List ℕ) (at : ℕ) (found : Option ℕ) → IsPlace file at → found ≡ length_of (first_record (drop at file)) → found ≡ length_of (record_at file at)
found_here file at found is said = said ∙ by_first (first_record (drop at file)) (at_place file at is) ∙ sym (ap length_of (at_or_behind file at at is (omega arith)))
  where
    by_first : (found : Option (List ℕ × List ℕ)) → is.behind ≡ with_others records found → length_of found ≡ length_of (record_from is.behind at at)
    by_first None step = sym (ap (λ (l : List (List ℕ)). length_of (record_from l at at)) step)
    by_first (Some f) step =
        let same : (at == at) ≡ true = grind arith in
        sym (ap (λ (l : List (List ℕ)). length_of (record_from l at at)) step ∙ ap (λ (t : Bool). length_of (if t then Some (f.0, at + 5 + length f.0) else record_from (records f.1) (at + 5 + length f.0) at)) same)

-- no record stands at an offset that the next place is past
pub passed_here : (file : List ℕ) (here count at : ℕ) → IsPlace file here → Some count ≡ length_of (first_record (drop here file)) → here < at → at < here + (5 + count) → record_at file at ≡ None
passed_here file here count at is said lt past = at_or_behind file here at is (omega (arith, lt)) ∙ by_first (first_record (drop here file)) (at_place file here is) said
  where
    by_first : (found : Option (List ℕ × List ℕ)) → is.behind ≡ with_others records found → Some count ≡ length_of found → record_from is.behind here at ≡ None
    by_first None step says = absurd (none-some count (sym says))
    by_first (Some f) step says =
        let long : count ≡ length f.0 = cc says in
        let no : (here == at) ≡ false = grind (arith, lt) in
        ap (λ (l : List (List ℕ)). record_from l here at) step
        ∙ ap (λ (t : Bool). if t then Some (f.0, here + 5 + length f.0) else record_from (records f.1) (here + 5 + length f.0) at) no
        ∙ none_before (records f.1) (here + 5 + length f.0) at (omega (arith, past, long))

-- a record that was found is one of these, where it is said to be
pub record IsFound (payloads : List (List ℕ)) (start at : ℕ) (found : List ℕ × ℕ) : Type 0 where
  pub before : List (List ℕ)
  pub behind : List (List ℕ)
  pub are : payloads ≡ before ++ found.0 ∷ behind
  pub here : at ≡ start + size_of before
  pub next : found.1 ≡ at + 5 + length found.0

pub found_is : (payloads : List (List ℕ)) (start at : ℕ) (found : List ℕ × ℕ) → record_from payloads start at ≡ Some found → IsFound payloads start at found
found_is [] start at found is = absurd (none-some found is)
found_is (payload ∷ others) start at found is = by_place (start == at) (λ same. grind (arith, same)) is (found_is others (start + 5 + length payload) at found)
  where
    here : start ≡ at → (payload, start + 5 + length payload) ≡ found → IsFound (payload ∷ others) start at found
    here same is =
        let P : List ℕ × ℕ → Type 0 = λ f. IsFound (payload ∷ others) start at f in
        subst P is (record { before = []; behind = others; are = refl; here = omega (arith, same); next = omega (arith, same) })

    by_place : (test : Bool) → (test ≡ true → start ≡ at) → (if test then Some (payload, start + 5 + length payload) else record_from others (start + 5 + length payload) at) ≡ Some found
        → (record_from others (start + 5 + length payload) at ≡ Some found → IsFound others (start + 5 + length payload) at found) → IsFound (payload ∷ others) start at found
    by_place true same is again = here (same refl) (cc is)
    by_place false same is again =
        let other = again is in
        record { before = payload ∷ other.before; behind = other.behind; are = ap (λ (l : List (List ℕ)). payload ∷ l) other.are; here = omega (arith, other.here); next = other.next }

-- the place behind a record that was found
pub place_behind : (file : List ℕ) (at : ℕ) (payload : List ℕ) (next : ℕ) → record_at file at ≡ Some (payload, next) → IsPlace file next
place_behind file at payload next is =
    let found = found_is (standing file) 16 at (payload, next) is in
    record {
      before = found.before ++ payload ∷ [];
      behind = found.behind;
      are = found.are ∙ sym (append_assoc found.before (payload ∷ []) found.behind);
      here = omega (arith, found.here, found.next, size_behind found.before payload);
    }

-- the record of a length that stands at an offset is the file's bytes behind its head
pub payload_at : (file : List ℕ) (at count : ℕ) → Some count ≡ length_of (record_at file at) → record_at file at ≡ Some (take count (drop (at + 5) file), at + 5 + count)
payload_at file at count said = by_found (record_at file at) refl said
  where
    bytes_at : (found : List ℕ × ℕ) → IsFound (standing file) 16 at found → (count ≡ length found.0) → found ≡ (take count (drop (at + 5) file), at + 5 + count)
    bytes_at found is long =
        let behind : records (drop at file) ≡ found.0 ∷ is.behind = behind_place file at (record { before = is.before; behind = found.0 ∷ is.behind; are = is.are; here = is.here }) in
        let first = first_is (drop at file) _ (behind_first (drop at file) found.0 is.behind behind).0 in
        let rest : drop (at + 5) file ≡ found.0 ++ drop (5 + length found.0) (drop at file) = sym (drop-drop 5 at file) ∙ ap (drop 5) first.is in
        let payload : take count (drop (at + 5) file) ≡ found.0 = ap (take count) rest ∙ take_at found.0 (drop (5 + length found.0) (drop at file)) count (sym long) in
        ap (λ (n : ℕ). (found.0, n)) (is.next ∙ ap (λ (n : ℕ). at + 5 + n) (sym long)) ∙ ap (λ (l : List ℕ). (l, at + 5 + count)) (sym payload)

    by_found : (found : Option (List ℕ × ℕ)) → record_at file at ≡ found → Some count ≡ length_of found → found ≡ Some (take count (drop (at + 5) file), at + 5 + count)
    by_found None is says = absurd (none-some count (sym says))
    by_found (Some found) is says = ap Some (bytes_at found (found_is (standing file) 16 at found is) (cc says))

-- no record stands within the header
pub none_in_header : (file : List ℕ) (at : ℕ) → at < 16 → record_at file at ≡ None
none_in_header file at lt = none_before (standing file) 16 at lt
