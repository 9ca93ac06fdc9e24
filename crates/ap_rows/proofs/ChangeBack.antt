-- A change is read back from its spelling.
use Rattle.std.proofs.Common.{◌≡◌, ◌≤◌, ◌+◌, ◌-◌, ℕ, zero, suc, true, List, [], ◌∷◌, ◌++◌, length, get_or, All, Some, Ok, refl, arith}
use Rattle.std.specs.List.{flat_map}
use Rattle.std.proofs.lemmas.List.{length-append}
use Rattle.ap_rows.specs.declared.change.Item.{Item}
use Rattle.ap_rows.specs.declared.change.Item.TheVariants.{Define, Drop, PutSource, RemoveSource, PutCreate, RemoveCreate, PutJob, RemoveJob, PutFolders}
use Rattle.ap_rows.specs.Grammar.{item, items_from, decoded}
use Rattle.ap_rows.specs.Spelling.{item_field, spelled}
use Rattle.ap_rows.specs.Typed.{TypedItem}
use Rattle.ap_rows.specs.Folded.{is_folded_item, are_folded}
use Rattle.ap_rows.proofs.ChangeByItem.{items-done}
use Rattle.ap_rows.proofs.Chains.{ReadsBack}
use Rattle.ap_rows.proofs.ReadBack.{each, item-back}

pub item-some : (x : Item) → 1 ≤ length (item_field x)
item-some (Define tag text kids) = omega arith
item-some (Drop thing) = omega arith
item-some (PutSource row) = omega arith
item-some (RemoveSource p) = omega arith
item-some (PutCreate row) = omega arith
item-some (RemoveCreate p) = omega arith
item-some (PutJob row) = omega arith
item-some (RemoveJob id) = omega arith
item-some (PutFolders rows) = omega arith

one-item : (n offset : ℕ) (x : Item) (items : List Item) (old new : List ℕ) → 1 ≤ length old → item old ≡ Some (x, new) → items_from n (offset + (length old - length new)) new ≡ Ok items → items_from (suc n) offset old ≡ Ok (x ∷ items)
unfolding items_from
one-item n offset x items [] new some e h = absurd (omega arith)
one-item n offset x items (b ∷ bytes) new some e h = rw (e, h) refl

items-back : (items : List Item) → All (ReadsBack item item_field) items → (n offset : ℕ) → length (flat_map item_field items) ≤ n → items_from n offset (flat_map item_field items) ≡ Ok items
items-back [] h n offset enough = items-done n offset [] refl
items-back (x ∷ items) h zero offset enough = absurd (omega (arith, item-some x, length-append (item_field x) (flat_map item_field items)))
items-back (x ∷ items) h (suc n) offset enough =
    let rest = flat_map item_field items in
    let old = item_field x ++ rest in
    let long = length-append (item_field x) rest in
    let some = item-some x in
    one-item n offset x items old rest (omega arith) (h 0 x (omega arith) rest) (items-back items (λ k d within. h (suc k) d (omega arith)) n (offset + (length old - length rest)) (omega arith))

pub decoded-back : (items : List Item) → All TypedItem items → are_folded items ≡ true → decoded (spelled items) ≡ Ok items
unfolding decoded
decoded-back items typed folded =
    let folds = each is_folded_item items folded in
    items-back items (λ k d within. item-back (get_or items k d) (typed k d within) (folds k d within)) (length (spelled items)) 0 (omega arith)
