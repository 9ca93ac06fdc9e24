-- The members of a list, from its front.
use Rattle.std.proofs.Common.{◌≡◌, ◌⊎◌, ◌<◌, List, [], ◌∷◌, ◌++◌, Contains, map, refl, subst, inl, inr, arith, ⊎_elim}
use Rattle.std.specs.List.{AllByRecursion}
use Rattle.std.proofs.lemmas.List.Elements.{Contains-append_right, Contains-append_cases, Contains-push_cases}

module _ {X : Type 0} where
  pub Contains-none : (q : X) → Contains [] q → ⊥
  Contains-none q h = let low : h.0 < 0 = h.1 in omega arith

  pub Contains-cons_cases : (x : X) (xs : List X) (q : X) → Contains (x ∷ xs) q → (x ≡ q) ⊎ Contains xs q
  Contains-cons_cases x xs q h = ⊎_elim first inr (Contains-append_cases (x ∷ []) xs q h)
    where
      first : Contains (x ∷ []) q → (x ≡ q) ⊎ Contains xs q
      first h = ⊎_elim (λ none. absurd (Contains-none q none)) inl (Contains-push_cases [] x q h)

  pub Contains-head : (x : X) (xs : List X) → Contains (x ∷ xs) x
  Contains-head x xs = (0, omega arith, refl)

  pub Contains-tail_of : (x : X) (xs : List X) (q : X) → Contains xs q → Contains (x ∷ xs) q
  Contains-tail_of x xs q h = Contains-append_right (x ∷ []) xs q h

  -- what holds of all holds of each member
  pub AllByRecursion-at : (P : X → Type 0) (xs : List X) (q : X) → AllByRecursion P xs → Contains xs q → P q
  AllByRecursion-at P [] q h k = absurd (Contains-none q k)
  AllByRecursion-at P (x ∷ xs) q h k = ⊎_elim (λ s. subst P s h.0) (λ later. AllByRecursion-at P xs q h.1 later) (Contains-cons_cases x xs q k)

  -- what holds of each member holds of all
  pub AllByRecursion-from : (P : X → Type 0) (xs : List X) → ((q : X) → Contains xs q → P q) → AllByRecursion P xs
  AllByRecursion-from P [] h = tt
  AllByRecursion-from P (x ∷ xs) h = (h x (Contains-head x xs), AllByRecursion-from P xs (λ q m. h q (Contains-tail_of x xs q m)))

-- what holds of all of two lists holds of all of both
pub AllByRecursion-join : {X : Type 0} (P : X → Type 0) (xs ys : List X) → AllByRecursion P xs → AllByRecursion P ys → AllByRecursion P (xs ++ ys)
AllByRecursion-join P [] ys all more = more
AllByRecursion-join P (x ∷ xs) ys all more = (all.0, AllByRecursion-join P xs ys all.1 more)

-- a member's image is a member of the images
pub Contains-map : {X Y : Type 0} (f : X → Y) (xs : List X) (x : X) → Contains xs x → Contains (map f xs) (f x)
Contains-map f [] x h = absurd (Contains-none x h)
Contains-map f (z ∷ xs) x h = ⊎_elim
    (λ e. subst (λ w. Contains (f z ∷ map f xs) (f w)) e (Contains-head (f z) (map f xs)))
    (λ later. Contains-tail_of (f z) (map f xs) (f x) (Contains-map f xs x later))
    (Contains-cons_cases z xs x h)

-- a member of the images is the image of a member
pub Contains-map_cases : {X Y : Type 0} (f : X → Y) (xs : List X) (y : Y) → Contains (map f xs) y → (x : X) × Contains xs x × (f x ≡ y)
Contains-map_cases f [] y h = absurd (Contains-none y h)
Contains-map_cases f (z ∷ xs) y h = ⊎_elim
    (λ e. (z, Contains-head z xs, e))
    (λ later. let r = Contains-map_cases f xs y later in (r.0, Contains-tail_of z xs r.0 r.1, r.2))
    (Contains-cons_cases (f z) (map f xs) y h)
