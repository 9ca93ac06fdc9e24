-- A search by a key finds a row exactly where there is one.
use Rattle.std.proofs.Common.{◌≡◌, ℕ, Bool, List, Some, None, Result, Ok, Err, is_some, is_ok, refl, sym, ap}
use Rattle.std.specs.Prelude.{find}
use Rattle.std.specs.List.{remove}
use Rattle.std.specs.List.Sorted.{IsSearchInRange}
use Rattle.std.specs.declared.cmp.Ordering.{Ordering}
use Rattle.std.specs.Ordering.{is_eq}
use Rattle.std.proofs.Common.{length}
use Rattle.ap_db.specs.Listed.{IsPlaceOf}
use Rattle.ap_db.proofs.Places.{split, taken_placed}

pub found_placed : {X : Type 0} (rank : X → Ordering) (test : X → Bool) (tests : (y : X) → test y ≡ is_eq (rank y)) (items : List X) (place : Result ℕ ℕ) → IsSearchInRange place (length items) → IsPlaceOf rank items place
    → is_ok place ≡ is_some (find test items)
found_placed rank test tests items (Ok i) range is =
    let cut = split items i range in
    ap is_some (taken_placed rank test tests items (Ok i) (remove items i) (Some cut.0) is (refl, cut.0, refl, sym (cut.1 cut.0))).1
found_placed rank test tests items (Err i) range is = ap is_some (taken_placed rank test tests items (Err i) items None is (refl, refl)).1
