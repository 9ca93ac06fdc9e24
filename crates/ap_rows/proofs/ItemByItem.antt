-- A list that is read item by item.
use Rattle.std.proofs.Common.{◌≡◌, ℕ, zero, suc, ◌-◌, ◌<◌, List, [], ◌∷◌, ◌++◌, Option, Some, None, option_and_then, refl, ap, sym, ◌∙◌, append_assoc, arith}
use Rattle.ap_rows.specs.Readers.{Reader, times, gives, ◌>>=◌}
use Rattle.ap_rows.specs.Listing.{items_behind}

module _ {X : Type 0} (form : Reader X) where
  rest_behind : (front : List X) (x : X) (rest : Option (List X × List ℕ))
      → items_behind front (option_and_then (λ read. Some (x ∷ read.0, read.1)) rest) ≡ items_behind (front ++ x ∷ []) rest
  rest_behind front x None = refl
  rest_behind front x (Some read) = ap (λ xs. Some (xs, read.1)) (sym (append_assoc front (x ∷ []) read.0))

  -- one item, and then the others
  pub times-step : (n : ℕ) (front : List X) (x : X) (old new : List ℕ) → 0 < n → form old ≡ Some (x, new)
      → items_behind front (times form n old) ≡ items_behind (front ++ x ∷ []) (times form (n - 1) new)
  times-step zero front x old new some e = absurd (omega arith)
  times-step (suc k) front x old new some e =
      let same : suc k - 1 ≡ k = omega arith in
      ap (λ first. items_behind front (option_and_then (λ read. (times form k >>= λ xs. gives (read.0 ∷ xs)) read.1) first)) e
      ∙ rest_behind front x (times form k new)
      ∙ ap (λ m. items_behind (front ++ x ∷ []) (times form m new)) (sym same)
