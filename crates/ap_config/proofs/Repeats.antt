-- What stands a second time, by the set of what stood before.
use Rattle.std.proofs.Common.{◌≡◌, ◌++◌, ℕ, Bool, true, false, not, cond, List, [], ◌∷◌, Result, Ok, refl, sym, ap, ◌∙◌, arith}
use Rattle.std.specs.Prelude.{◌||◌, bytes_eq, nat_eq}
use Rattle.std.specs.List.{list_any}
use Rattle.std.specs.Ordering.{nat_cmp, is_eq}
use Rattle.std.specs.Cmp.Lexicographic.{slice_cmp}
use Rattle.std.proofs.lemmas.List.Folds.{list_any-append}
use Rattle.std.proofs.lemmas.Map.Text.{is_eq-slice_cmp}
use Rattle.std.proofs.lemmas.Grind.{common_steps}
use Rattle.ap_config.specs.declared.fault.ConfigFault.{ConfigFault}
use Rattle.ap_config.specs.declared.fault.ConfigFault.TheVariants.{BadPlatform}
use Rattle.ap_config.specs.Configuration.{next, passes, is_platform, platforms_of}

nat_eq-either_way : (a b : ℕ) → nat_eq a b ≡ nat_eq b a
nat_eq-either_way a b = grind (arith, common_steps)

bytes_eq-either_way : (xs ys : List ℕ) → bytes_eq xs ys ≡ bytes_eq ys xs
bytes_eq-either_way [] [] = refl
bytes_eq-either_way [] (y ∷ ys) = refl
bytes_eq-either_way (x ∷ xs) [] = refl
bytes_eq-either_way (x ∷ xs) (y ∷ ys) = rw (nat_eq-either_way x y, bytes_eq-either_way xs ys)

by_cases : (b c : Bool) → cond b true c ≡ (c || b)
by_cases true true = refl
by_cases true false = refl
by_cases false true = refl
by_cases false false = refl

last_by_cases : (b : Bool) → b ≡ (b || false)
last_by_cases true = refl
last_by_cases false = refl

-- one more text is in the set
pub texts-more : (has had : List ℕ → Bool) (before : List (List ℕ)) (text : List ℕ) →
    ((q : List ℕ) → has q ≡ cond (is_eq (slice_cmp nat_cmp text q)) true (had q)) → ((q : List ℕ) → had q ≡ list_any (bytes_eq q) before) →
    (q : List ℕ) → has q ≡ list_any (bytes_eq q) (before ++ text ∷ [])
texts-more has had before text adds was q =
    adds q ∙ ap (λ b. cond b true (had q)) (is_eq-slice_cmp text q ∙ bytes_eq-either_way text q) ∙ by_cases (bytes_eq q text) (had q)
    ∙ ap (λ c. c || bytes_eq q text) (was q) ∙ ap (λ c. list_any (bytes_eq q) before || c) (last_by_cases (bytes_eq q text)) ∙ sym (list_any-append (bytes_eq q) before (text ∷ []))

accepted : (good : Bool) (text made : List ℕ) → next (passes (not good) (BadPlatform text)) (λ _. Ok text) ≡ Ok made → (good ≡ true) × (made ≡ text)
accepted true text made h = (refl, cc)
accepted false text made h = cc

-- one more platform stands for the first time
pub platforms-more : (before : List (List ℕ)) (text made : List ℕ) (texts : List (List ℕ)) →
    next (passes (not (is_platform text)) (BadPlatform text)) (λ _. Ok text) ≡ Ok made → list_any (bytes_eq text) before ≡ false →
    platforms_of (before ++ made ∷ []) texts ≡ platforms_of before (text ∷ texts)
platforms-more before text made texts read first =
    let good = accepted (is_platform text) text made read in
    rw (good.0, first, good.1)

-- one more platform was read, and is in the set
pub platforms-step : (has had : List ℕ → Bool) (before after rest others : List (List ℕ)) (text made key : List ℕ) (whole : Result (List (List ℕ)) ConfigFault) →
    ((q : List ℕ) → had q ≡ list_any (bytes_eq q) before) × (platforms_of before rest ≡ whole) →
    ((q : List ℕ) → has q ≡ cond (is_eq (slice_cmp nat_cmp key q)) true (had q)) →
    next (passes (not (is_platform text)) (BadPlatform text)) (λ _. Ok text) ≡ Ok made →
    key ≡ text → had key ≡ false → after ≡ before ++ made ∷ [] → rest ≡ text ∷ others →
    ((q : List ℕ) → has q ≡ list_any (bytes_eq q) after) × (platforms_of after others ≡ whole)
platforms-step has had before after rest others text made key whole was adds read same new more split =
    let good = accepted (is_platform text) text made read in
    let first : list_any (bytes_eq text) before ≡ false = sym (was.0 text) ∙ ap had (sym same) ∙ new in
    let last : after ≡ before ++ key ∷ [] = more ∙ ap (λ t. before ++ t ∷ []) (good.1 ∙ sym same) in (
      λ q. texts-more has had before key adds was.0 q ∙ ap (list_any (bytes_eq q)) (sym last),
      ap (λ t. platforms_of t others) more ∙ platforms-more before text made others read first ∙ ap (platforms_of before) (sym split) ∙ was.1,
    )
