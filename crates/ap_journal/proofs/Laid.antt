-- Files by their parts: a header, whole records, and a rest.
use Rattle.std.proofs.Common.{◌≡◌, ℕ, ◌+◌, ◌≤◌, Bool, true, false, not, ◌&&◌, List, [], ◌∷◌, ◌++◌, length, take, drop, bytes_eq, codes, refl, sym, ◌∙◌, ap, arith, append_assoc, length-append, take-append-drop}
use Rattle.std.proofs.lemmas.List.{take_at, drop_at, length-take-le, length-drop, take-append-le}
use Rattle.ap_journal.specs.Records.{records, standing, end_of, is_marked, is_some_record, has_bad_header, IsSameStore}
use Rattle.ap_journal.proofs.Standing.{IsRun, splits, behind_run, run_size, too_short}

-- a file of these parts
pub record Laid (file header run : List ℕ) (payloads : List (List ℕ)) (rest : List ℕ) : Type 0 where
  pub is : file ≡ header ++ (run ++ rest)
  pub long : length header ≡ 16
  pub whole : IsRun payloads run

module _ (file header run : List ℕ) (payloads : List (List ℕ)) where
  pub behind_header : (rest : List ℕ) → Laid file header run payloads rest → drop 16 file ≡ run ++ rest
  behind_header rest laid = ap (drop 16) laid.is ∙ drop_at header (run ++ rest) 16 laid.long

  -- what stands in it
  pub stands : (y : ℕ) (rest : List ℕ) → Laid file header run payloads (y ∷ rest) → standing file ≡ payloads ++ records (y ∷ rest)
  stands y rest laid = ap records (behind_header (y ∷ rest) laid) ∙ behind_run payloads run laid.whole y rest

  -- its mark is its header's
  pub marked_as : (rest : List ℕ) → Laid file header run payloads rest → is_marked file ≡ is_marked header
  marked_as rest laid =
      ap is_marked laid.is ∙ ap (λ (l : List ℕ). bytes_eq l (codes "APSTORE1")) (take-append-le 8 header (run ++ rest) (omega (arith, laid.long)))

-- a file that is long enough has such parts
pub record Parts (file : List ℕ) : Type 0 where
  pub run : List ℕ
  pub rest : List ℕ
  pub laid : Laid file (take 16 file) run (standing file) rest
  pub last : records rest ≡ []
  pub front : take (end_of file) file ≡ take 16 file ++ run
  pub back : drop (end_of file) file ≡ rest
  pub end : end_of file ≡ 16 + length run

pub parts : (file : List ℕ) → 16 ≤ length file → Parts file
parts file long =
    let split = splits (drop 16 file) in
    let header : length (take 16 file) ≡ 16 = length-take-le 16 file long in
    let size : end_of file ≡ 16 + length split.run = ap (λ (n : ℕ). 16 + n) (sym (run_size (standing file) split.run split.whole)) in
    let is : file ≡ take 16 file ++ (split.run ++ split.rest) = sym (take-append-drop 16 file) ∙ ap (λ (l : List ℕ). take 16 file ++ l) split.is in
    let both : file ≡ (take 16 file ++ split.run) ++ split.rest = is ∙ sym (append_assoc (take 16 file) split.run split.rest) in
    let reach : length (take 16 file ++ split.run) ≡ end_of file = length-append (take 16 file) split.run ∙ ap (λ (n : ℕ). n + length split.run) header ∙ sym size in
    record {
      run = split.run;
      rest = split.rest;
      laid = record { is = is; long = header; whole = split.whole };
      last = split.last;
      front = ap (take (end_of file)) both ∙ take_at (take 16 file ++ split.run) split.rest (end_of file) reach;
      back = ap (drop (end_of file)) both ∙ drop_at (take 16 file ++ split.run) split.rest (end_of file) reach;
      end = size;
    }

-- too short a file stands for no record
pub nothing_stands : (file : List ℕ) → length file ≤ 21 → standing file ≡ []
nothing_stands file few = too_short (drop 16 file) (omega (arith, length-drop 16 file, few))

-- the header is as good where there are the same records and the same mark
pub same_header : (old new : List ℕ) → standing new ≡ standing old → is_marked new ≡ is_marked old → has_bad_header new ≡ has_bad_header old
same_header old new same mark = ap (λ (l : List (List ℕ)). is_some_record l && not (is_marked new)) same ∙ ap (λ (b : Bool). is_some_record (standing old) && not b) mark

no_header : (file : List ℕ) → standing file ≡ [] → has_bad_header file ≡ false
no_header file none = ap (λ (l : List (List ℕ)). is_some_record l && not (is_marked file)) none

pub same_where_none : (old new : List ℕ) → standing old ≡ [] → standing new ≡ [] → IsSameStore old new
same_where_none old new none none' = record { same = none' ∙ sym none; header = no_header new none' ∙ sym (no_header old none) }

pub good_header : (file : List ℕ) → is_marked file ≡ true → has_bad_header file ≡ false
good_header file mark = ap (λ (b : Bool). is_some_record (standing file) && not b) mark ∙ by_record (is_some_record (standing file))
  where
    by_record : (b : Bool) → (b && false) ≡ false
    by_record true = refl
    by_record false = refl
