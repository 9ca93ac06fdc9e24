-- Laws for those who walk over a file's records from the first on.
use Rattle.std.proofs.Common.{◌≡◌, ℕ, ◌+◌, ◌≤◌, true, false, Bool, List, [], ◌∷◌, ◌++◌, length, Some, None, ◌==◌, if◌then◌else◌, sym, ◌∙◌, ap, arith}
use Rattle.std.proofs.lemmas.List.{append-nil}
use Rattle.ap_journal.specs.Records.{standing, size_of, record_from, record_at}

-- an offset behind these records is one of the others'
pub skip_before : (before behind : List (List ℕ)) (place at : ℕ) → place + size_of before ≤ at → record_from (before ++ behind) place at ≡ record_from behind (place + size_of before) at
skip_before [] behind place at le = ap (λ (n : ℕ). record_from behind n at) (omega arith)
skip_before (payload ∷ before) behind place at le =
    let no : (place == at) ≡ false = grind (arith, le) in
    ap (λ (t : Bool). if t then Some (payload, place + 5 + length payload) else record_from (before ++ behind) (place + 5 + length payload) at) no
    ∙ skip_before before behind (place + 5 + length payload) at (omega (arith, le))
    ∙ ap (λ (n : ℕ). record_from behind n at) (omega arith)

pub size_behind : (before : List (List ℕ)) (payload : List ℕ) → size_of (before ++ payload ∷ []) ≡ size_of before + (5 + length payload)
size_behind [] payload = omega arith
size_behind (first ∷ before) payload = omega (arith, size_behind before payload)

first_here : (payload : List ℕ) (behind : List (List ℕ)) (place : ℕ) → record_from (payload ∷ behind) place place ≡ Some (payload, place + 5 + length payload)
first_here payload behind place =
    let here : (place == place) ≡ true = grind arith in
    ap (λ (t : Bool). if t then Some (payload, place + 5 + length payload) else record_from behind (place + 5 + length payload) place) here

-- behind these records stands the next one
pub next_record : (file : List ℕ) (before : List (List ℕ)) (payload : List ℕ) (behind : List (List ℕ)) → standing file ≡ before ++ (payload ∷ behind) → record_at file (16 + size_of before) ≡ Some (payload, 16 + size_of before + 5 + length payload)
next_record file before payload behind are =
    ap (λ l. record_from l 16 (16 + size_of before)) are ∙ skip_before before (payload ∷ behind) 16 (16 + size_of before) (omega arith)
    ∙ first_here payload behind (16 + size_of before)

-- and behind all of them none
pub no_record : (file : List ℕ) (all : List (List ℕ)) → standing file ≡ all → record_at file (16 + size_of all) ≡ None
no_record file all are =
    ap (λ l. record_from l 16 (16 + size_of all)) (are ∙ sym (append-nil all)) ∙ skip_before all [] 16 (16 + size_of all) (omega arith)
