-- A change that is read item by item.
use Rattle.std.proofs.Common.{◌≡◌, ℕ, zero, suc, ◌+◌, ◌-◌, ◌<◌, List, [], ◌∷◌, ◌++◌, length, Bool, true, false, ◌==◌, Some, None, Result, Ok, Err, refl, ap, sym, ◌∙◌, append_assoc, arith}
use Rattle.std.proofs.lemmas.Bool.Decides.{Decides-eqb}
use Rattle.ap_rows.specs.declared.change.Item.{Item}
use Rattle.ap_rows.specs.Grammar.{item, items_from, decoded, behind}
use Rattle.ap_rows.specs.Listing.{change_behind}

change-behind : (front : List Item) (x : Item) (rest : Result (List Item) ℕ) → change_behind front (behind x rest) ≡ change_behind (front ++ x ∷ []) rest
change-behind front x (Ok items) = ap Ok (sym (append_assoc front (x ∷ []) items))
change-behind front x (Err offset) = refl

-- one item, and then the others
pub items-step : (n offset : ℕ) (front : List Item) (x : Item) (old new : List ℕ) → 0 < n → 0 < length old → item old ≡ Some (x, new)
    → change_behind front (items_from n offset old) ≡ change_behind (front ++ x ∷ []) (items_from (n - 1) (offset + (length old - length new)) new)
unfolding items_from
items-step zero offset front x old new some more e = absurd (omega arith)
items-step (suc k) offset front x [] new some more e = absurd (omega arith)
items-step (suc k) offset front x (b ∷ bytes) new some more e =
    let same : suc k - 1 ≡ k = omega arith in
    rw (e, same) (change-behind front x (items_from k (offset + (length (b ∷ bytes) - length new)) new))

-- no item
pub items-bad : (n offset : ℕ) (old : List ℕ) → 0 < n → 0 < length old → item old ≡ None → items_from n offset old ≡ Err offset
unfolding items_from
items-bad zero offset old some more e = absurd (omega arith)
items-bad (suc k) offset [] some more e = absurd (omega arith)
items-bad (suc k) offset (b ∷ bytes) some more e = rw e refl

-- nothing is left
pub items-done : (n offset : ℕ) (old : List ℕ) → length old ≡ 0 → items_from n offset old ≡ Ok []
unfolding items_from
items-done zero offset old e = refl
items-done (suc k) offset [] e = refl
items-done (suc k) offset (b ∷ bytes) e = absurd (omega arith)

pub start : (bytes reader : List ℕ) (items : List Item) → reader ≡ bytes → items ≡ []
    → decoded bytes ≡ change_behind items (items_from (length bytes - length items) (length bytes - length reader) reader)
unfolding decoded
start bytes reader items same none =
    let n : length bytes - length items ≡ length bytes = let e = ap length none in omega arith in
    let zero_now : length bytes - length reader ≡ 0 = let e = ap length same in omega arith in
    sym (front (items_from (length bytes) 0 bytes))
    ∙ ap (λ k. change_behind [] (items_from k 0 bytes)) (sym n)
    ∙ ap (λ o. change_behind [] (items_from (length bytes - length items) o bytes)) (sym zero_now)
    ∙ ap (λ r. change_behind [] (items_from (length bytes - length items) (length bytes - length reader) r)) (sym same)
    ∙ ap (λ xs. change_behind xs (items_from (length bytes - length items) (length bytes - length reader) reader)) (sym none)
  where
    front : (rest : Result (List Item) ℕ) → change_behind [] rest ≡ rest
    front (Ok items) = refl
    front (Err offset) = refl

pub something : (bytes : List ℕ) (empty : Bool) → empty ≡ (length bytes == 0) → empty ≡ false → 0 < length bytes
something [] empty e h = absurd (never (sym e ∙ h))
  where
    never : true ≡ false → ⊥
    never e = cc
something (b ∷ bytes) empty e h = omega arith

pub nothing : (bytes : List ℕ) (empty : Bool) → empty ≡ (length bytes == 0) → empty ≡ true → length bytes ≡ 0
nothing bytes empty e h = (Decides-eqb (length bytes) 0).0 (sym e ∙ h)
