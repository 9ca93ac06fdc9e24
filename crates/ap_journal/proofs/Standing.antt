-- The records of bytes that begin with whole records.
use Rattle.std.proofs.Common.{◌≡◌, ℕ, zero, suc, ◌≤◌, ◌<◌, ◌⊎◌, inl, inr, Bool, true, false, List, [], ◌∷◌, ◌++◌, length, take, drop, Option, Some, None, nat_lt, ◌==◌, if◌then◌else◌, refl, sym, ◌∙◌, ap, subst, arith, append_assoc, length-append, take-append-drop}
use Rattle.std.proofs.lemmas.List.{take_at, drop_at, append-nil, length-take-le, length-drop}
use Rattle.std.proofs.lemmas.Option.{none-some}
use Rattle.std.specs.Int.{w32, from_be_bytes}
use Rattle.ap_journal.specs.Records.{split_payload, first_record, with_others, records_up_to, records, size_of}

-- a test that let something through
pub passed : {X : Type 0} (test : Bool) (x found : X) → (if test then Some x else None) ≡ Some found → (test ≡ true) × (x ≡ found)
passed true x found is = (refl, cc)
passed false x found is = absurd (none-some found is)

-- what a first record is
pub record IsFirst (bytes : List ℕ) (found : List ℕ × List ℕ) : Type 0 where
  pub a : ℕ
  pub b : ℕ
  pub c : ℕ
  pub d : ℕ
  pub is : bytes ≡ 1 ∷ a ∷ b ∷ c ∷ d ∷ found.0 ++ found.1
  pub count : from_be_bytes w32 (a ∷ b ∷ c ∷ d ∷ []) ≡ length found.0
  pub next : 0 < length found.1

split_is : (count : ℕ) (rest : List ℕ) (found : List ℕ × List ℕ) → split_payload count rest ≡ Some found → (rest ≡ found.0 ++ found.1) × (count ≡ length found.0) × (0 < length found.1)
split_is count rest found is =
    let both = passed (nat_lt count (length rest)) (take count rest, drop count rest) found is in
    let lt : count < length rest = grind (arith, both.0) in
    let P : List ℕ × List ℕ → Type 0 = λ f. (rest ≡ f.0 ++ f.1) × (count ≡ length f.0) × (0 < length f.1) in
    let whole : rest ≡ take count rest ++ drop count rest = sym (take-append-drop count rest) in
    let here : P (take count rest, drop count rest) = (whole, sym (length-take-le count rest (omega (arith, lt))), omega (arith, lt, length-drop count rest)) in
    subst P both.1 here

gate_is : (g a b c d : ℕ) (rest : List ℕ) (found : List ℕ × List ℕ) → (if g == 1 then split_payload (from_be_bytes w32 (a ∷ b ∷ c ∷ d ∷ [])) rest else None) ≡ Some found → (g ≡ 1) × (split_payload (from_be_bytes w32 (a ∷ b ∷ c ∷ d ∷ [])) rest ≡ Some found)
gate_is g a b c d rest found is = by_gate (g == 1) (λ same. grind (arith, same)) is
  where
    by_gate : (test : Bool) → (test ≡ true → g ≡ 1) → (if test then split_payload (from_be_bytes w32 (a ∷ b ∷ c ∷ d ∷ [])) rest else None) ≡ Some found
        → (g ≡ 1) × (split_payload (from_be_bytes w32 (a ∷ b ∷ c ∷ d ∷ [])) rest ≡ Some found)
    by_gate true one is = (one refl, is)
    by_gate false one is = absurd (none-some found is)

pub first_is : (bytes : List ℕ) (found : List ℕ × List ℕ) → first_record bytes ≡ Some found → IsFirst bytes found
unfolding first_record
first_is [] found is = absurd (none-some found is)
first_is (g ∷ []) found is = absurd (none-some found is)
first_is (g ∷ a ∷ []) found is = absurd (none-some found is)
first_is (g ∷ a ∷ b ∷ []) found is = absurd (none-some found is)
first_is (g ∷ a ∷ b ∷ c ∷ []) found is = absurd (none-some found is)
first_is (g ∷ a ∷ b ∷ c ∷ d ∷ rest) found is =
    let gate = gate_is g a b c d rest found is in
    let split = split_is (from_be_bytes w32 (a ∷ b ∷ c ∷ d ∷ [])) rest found gate.1 in
    record {
      a = a;
      b = b;
      c = c;
      d = d;
      is = ap (λ (g : ℕ). g ∷ a ∷ b ∷ c ∷ d ∷ rest) gate.0 ∙ ap (λ (l : List ℕ). 1 ∷ a ∷ b ∷ c ∷ d ∷ l) split.0;
      count = split.1;
      next = split.2;
    }

-- a whole record with a byte behind it is the first
pub first_of_whole : (a b c d : ℕ) (payload : List ℕ) (y : ℕ) (rest : List ℕ) → from_be_bytes w32 (a ∷ b ∷ c ∷ d ∷ []) ≡ length payload
    → first_record (1 ∷ a ∷ b ∷ c ∷ d ∷ payload ++ y ∷ rest) ≡ Some (payload, y ∷ rest)
unfolding first_record
first_of_whole a b c d payload y rest count = ap (λ (n : ℕ). split_payload n (payload ++ y ∷ rest)) count ∙ split
  where
    fits : nat_lt (length payload) (length (payload ++ y ∷ rest)) ≡ true
    fits = grind (arith, length-append payload (y ∷ rest))

    split : split_payload (length payload) (payload ++ y ∷ rest) ≡ Some (payload, y ∷ rest)
    split =
        ap (λ (test : Bool). if test then Some (take (length payload) (payload ++ y ∷ rest), drop (length payload) (payload ++ y ∷ rest)) else None) fits
        ∙ ap (λ (l : List ℕ). Some (l, drop (length payload) (payload ++ y ∷ rest))) (take_at payload (y ∷ rest) (length payload) refl)
        ∙ ap (λ (l : List ℕ). Some (payload, l)) (drop_at payload (y ∷ rest) (length payload) refl)

-- what follows a record is shorter
shorter : (bytes : List ℕ) (found : List ℕ × List ℕ) → first_record bytes ≡ Some found → length found.1 < length bytes
shorter bytes found is =
    let first = first_is bytes found is in
    omega (arith, ap length first.is, length-append found.0 found.1)

nothing_first : first_record [] ≡ None
unfolding first_record
nothing_first = refl

-- the bound on the number doesn't matter where it is no less than the bytes
enough : (n m : ℕ) (bytes : List ℕ) → length bytes ≤ n → length bytes ≤ m → records_up_to n bytes ≡ records_up_to m bytes
unfolding records_up_to
enough zero zero bytes le le' = refl
enough zero (suc m) [] le le' = sym (ap (with_others (records_up_to m)) nothing_first)
enough zero (suc m) (x ∷ bytes) le le' = absurd (omega (arith, le))
enough (suc n) zero [] le le' = ap (with_others (records_up_to n)) nothing_first
enough (suc n) zero (x ∷ bytes) le le' = absurd (omega (arith, le'))
enough (suc n) (suc m) bytes le le' = by_first (first_record bytes) (enough n m) (shorter bytes)
  where
    by_first : (found : Option (List ℕ × List ℕ)) → ((rest : List ℕ) → length rest ≤ n → length rest ≤ m → records_up_to n rest ≡ records_up_to m rest)
        → ((f : List ℕ × List ℕ) → found ≡ Some f → length f.1 < length bytes) → with_others (records_up_to n) found ≡ with_others (records_up_to m) found
    by_first None again less = refl
    by_first (Some f) again less = ap (λ (l : List (List ℕ)). f.0 ∷ l) (again f.1 (omega (arith, less f refl, le)) (omega (arith, less f refl, le')))

-- the records are the first one and those of what follows it
pub unfolded : (bytes : List ℕ) → records bytes ≡ with_others records (first_record bytes)
unfolding records records_up_to
unfolded [] = sym (ap (with_others records) nothing_first)
unfolded (x ∷ bytes) = by_first (first_record (x ∷ bytes)) (shorter (x ∷ bytes))
  where
    by_first : (found : Option (List ℕ × List ℕ)) → ((f : List ℕ × List ℕ) → found ≡ Some f → length f.1 < length (x ∷ bytes)) → with_others (records_up_to (length bytes)) found ≡ with_others records found
    by_first None less = refl
    by_first (Some f) less = ap (λ (l : List (List ℕ)). f.0 ∷ l) (enough (length bytes) (length f.1) f.1 (omega (arith, less f refl)) (omega arith))

-- behind a gate that isn't open no record stands
pub closed_gate : (gate : ℕ) (rest : List ℕ) → (gate ≡ 1 → ⊥) → records (gate ∷ rest) ≡ []
closed_gate gate rest closed = unfolded (gate ∷ rest) ∙ none (first_record (gate ∷ rest)) (first_is (gate ∷ rest))
  where
    first_item : (x y : ℕ) (xs ys : List ℕ) → x ∷ xs ≡ y ∷ ys → x ≡ y
    first_item x y xs ys is = cc

    none : (found : Option (List ℕ × List ℕ)) → ((f : List ℕ × List ℕ) → found ≡ Some f → IsFirst (gate ∷ rest) f) → with_others records found ≡ []
    none None is = refl
    none (Some f) is = let first = is f refl in absurd (closed (first_item gate 1 rest _ first.is))

-- of too few bytes no record stands
pub too_short : (bytes : List ℕ) → length bytes ≤ 5 → records bytes ≡ []
too_short bytes few = unfolded bytes ∙ none (first_record bytes) (first_is bytes)
  where
    none : (found : Option (List ℕ × List ℕ)) → ((f : List ℕ × List ℕ) → found ≡ Some f → IsFirst bytes f) → with_others records found ≡ []
    none None is = refl
    none (Some f) is = let first = is f refl in absurd (omega (arith, ap length first.is, length-append f.0 f.1, first.next, few))

-- bytes that are whole records of these payloads
pub data IsRun : List (List ℕ) → List ℕ → Type 0 where
  none : IsRun [] []
  more : (a b c d : ℕ) (payload : List ℕ) (others : List (List ℕ)) (rest : List ℕ) → from_be_bytes w32 (a ∷ b ∷ c ∷ d ∷ []) ≡ length payload → IsRun others rest
      → IsRun (payload ∷ others) (1 ∷ a ∷ b ∷ c ∷ d ∷ payload ++ rest)

-- behind whole records the others stand
pub behind_run : (payloads : List (List ℕ)) (run : List ℕ) → IsRun payloads run → (y : ℕ) (rest : List ℕ) → records (run ++ y ∷ rest) ≡ payloads ++ records (y ∷ rest)
behind_run payloads run none y rest = refl
behind_run payloads run (more a b c d payload others front count is) y rest =
    unfolded (1 ∷ a ∷ b ∷ c ∷ d ∷ ((payload ++ front) ++ (y ∷ rest)))
    ∙ ap (λ (l : List ℕ). with_others records (first_record (1 ∷ a ∷ b ∷ c ∷ d ∷ l))) (append_assoc payload front (y ∷ rest))
    ∙ with_next front is (behind_run others front is y rest)
  where
    with_next : (front : List ℕ) → IsRun others front → records (front ++ y ∷ rest) ≡ others ++ records (y ∷ rest)
        → with_others records (first_record (1 ∷ a ∷ b ∷ c ∷ d ∷ (payload ++ (front ++ (y ∷ rest))))) ≡ payload ∷ (others ++ records (y ∷ rest))
    with_next [] is again = ap (with_others records) (first_of_whole a b c d payload y rest count) ∙ ap (λ (l : List (List ℕ)). payload ∷ l) again
    with_next (x ∷ front) is again = ap (with_others records) (first_of_whole a b c d payload x (front ++ y ∷ rest) count) ∙ ap (λ (l : List (List ℕ)). payload ∷ l) again

-- whole records have their size
pub run_size : (payloads : List (List ℕ)) (run : List ℕ) → IsRun payloads run → length run ≡ size_of payloads
run_size payloads run none = refl
run_size payloads run (more a b c d payload others rest count is) = omega (arith, run_size others rest is, length-append payload rest)

-- one more record behind whole ones
pub run_and_one : (payloads : List (List ℕ)) (run : List ℕ) (a b c d : ℕ) (payload : List ℕ) → IsRun payloads run → from_be_bytes w32 (a ∷ b ∷ c ∷ d ∷ []) ≡ length payload
    → IsRun (payloads ++ payload ∷ []) (run ++ 1 ∷ a ∷ b ∷ c ∷ d ∷ payload)
run_and_one payloads run a b c d payload none count = subst (λ (l : List ℕ). IsRun (payload ∷ []) (1 ∷ a ∷ b ∷ c ∷ d ∷ l)) (append-nil payload) (more a b c d payload [] [] count none)
run_and_one payloads run a b c d payload (more a' b' c' d' first others rest count' is) count =
    subst (λ (l : List ℕ). IsRun (first ∷ others ++ payload ∷ []) (1 ∷ a' ∷ b' ∷ c' ∷ d' ∷ l)) (sym (append_assoc first rest (1 ∷ a ∷ b ∷ c ∷ d ∷ payload)))
    (more a' b' c' d' first (others ++ payload ∷ []) (rest ++ 1 ∷ a ∷ b ∷ c ∷ d ∷ payload) count' (run_and_one others rest a b c d payload is count))

-- bytes are whole records, and a rest of which none stands; where there is a record there is a rest
pub record Splits (bytes : List ℕ) : Type 0 where
  pub run : List ℕ
  pub rest : List ℕ
  pub is : bytes ≡ run ++ rest
  pub whole : IsRun (records bytes) run
  pub last : records rest ≡ []
  pub next : (records bytes ≡ []) ⊎ (0 < length rest)

splits_up_to : (n : ℕ) (bytes : List ℕ) → length bytes ≤ n → Splits bytes
splits_up_to zero bytes le =
    let nothing = too_short bytes (omega (arith, le)) in
    record { run = []; rest = bytes; is = refl; whole = subst (λ (l : List (List ℕ)). IsRun l []) (sym nothing) none; last = nothing; next = inl nothing }
splits_up_to (suc n) bytes le = by_first (first_record bytes) (unfolded bytes) (first_is bytes) (splits_up_to n)
  where
    behind : (f : List ℕ × List ℕ) → records bytes ≡ f.0 ∷ records f.1 → IsFirst bytes f → Splits f.1 → Splits bytes
    behind f are first others =
        record {
          run = 1 ∷ first.a ∷ first.b ∷ first.c ∷ first.d ∷ f.0 ++ others.run;
          rest = others.rest;
          is = first.is ∙ ap (λ (l : List ℕ). 1 ∷ first.a ∷ first.b ∷ first.c ∷ first.d ∷ f.0 ++ l) others.is
              ∙ ap (λ (l : List ℕ). 1 ∷ first.a ∷ first.b ∷ first.c ∷ first.d ∷ l) (sym (append_assoc f.0 others.run others.rest));
          whole = subst (λ (l : List (List ℕ)). IsRun l (1 ∷ first.a ∷ first.b ∷ first.c ∷ first.d ∷ f.0 ++ others.run)) (sym are)
              (more first.a first.b first.c first.d f.0 (records f.1) others.run first.count others.whole);
          last = others.last;
          next = inr (some_rest others.next);
        }
      where
        some_rest : (records f.1 ≡ []) ⊎ (0 < length others.rest) → 0 < length others.rest
        some_rest (inr some) = some
        some_rest (inl nothing) =
            let size : length others.run ≡ 0 = run_size (records f.1) others.run others.whole ∙ ap size_of nothing in
            omega (arith, size, ap length others.is, length-append others.run others.rest, first.next)

    by_first : (found : Option (List ℕ × List ℕ)) → records bytes ≡ with_others records found → ((f : List ℕ × List ℕ) → found ≡ Some f → IsFirst bytes f)
        → ((rest : List ℕ) → length rest ≤ n → Splits rest) → Splits bytes
    by_first None are is again = record { run = []; rest = bytes; is = refl; whole = subst (λ (l : List (List ℕ)). IsRun l []) (sym are) none; last = are; next = inl are }
    by_first (Some f) are is again =
        let first = is f refl in
        behind f are first (again f.1 (omega (arith, ap length first.is, length-append f.0 f.1, le)))

pub splits : (bytes : List ℕ) → Splits bytes
splits bytes = splits_up_to (length bytes) bytes (omega arith)
