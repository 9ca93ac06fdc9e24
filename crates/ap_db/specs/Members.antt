-- What is in a list.
use Rattle.std.proofs.Common.{◌≡◌, Bool, true, false, cond, ◌&&◌, List, [], ◌∷◌, ◌++◌, map, Some, refl, sym, ◌∙◌, ap, subst, ◌⊎◌, inl, inr, ⊎_elim, filter, find}
use Rattle.std.specs.List.{flat_map, AllByRecursion, list_all}

-- x is in the list
abbrev pub Has : {X : Type 0} → List X → X → Type 0
Has [] x = ⊥
Has (y ∷ ys) x = (y ≡ x) ⊎ Has ys x

-- what is in one list is in another
abbrev pub AreIn : {X : Type 0} → List X → List X → Type 0
AreIn {X} xs ys = (x : X) → Has xs x → Has ys x

module _ {X : Type 0} where
  pub in_front : (xs ys : List X) (x : X) → Has xs x → Has (xs ++ ys) x
  in_front [] ys x h = absurd h
  in_front (y ∷ xs) ys x (inl e) = inl e
  in_front (y ∷ xs) ys x (inr h) = inr (in_front xs ys x h)

  pub in_back : (xs ys : List X) (x : X) → Has ys x → Has (xs ++ ys) x
  in_back [] ys x h = h
  in_back (y ∷ xs) ys x h = inr (in_back xs ys x h)

  pub in_either : (xs ys : List X) (x : X) → Has (xs ++ ys) x → Has xs x ⊎ Has ys x
  in_either [] ys x h = inr h
  in_either (y ∷ xs) ys x (inl e) = inl (inl e)
  in_either (y ∷ xs) ys x (inr h) = ⊎_elim (λ a. inl (inr a)) (λ b. inr b) (in_either xs ys x h)

  -- an item between two lists
  pub in_middle : (xs ys : List X) (x : X) → Has (xs ++ x ∷ ys) x
  in_middle xs ys x = in_back xs (x ∷ ys) x (inl refl)

  -- what is true of all is true of what is in the list, and the other way round
  pub true_of : (P : X → Type 0) (xs : List X) → AllByRecursion P xs → (x : X) → Has xs x → P x
  true_of P [] all x h = absurd h
  true_of P (y ∷ xs) all x (inl e) = subst P e all.0
  true_of P (y ∷ xs) all x (inr h) = true_of P xs all.1 x h

  pub true_of_all : (P : X → Type 0) (xs : List X) → ((x : X) → Has xs x → P x) → AllByRecursion P xs
  true_of_all P [] each = tt
  true_of_all P (y ∷ xs) each = (each y (inl refl), true_of_all P xs (λ x h. each x (inr h)))

  module _ (p : X → Bool) where
    pub in_filter : (xs : List X) (x : X) → Has xs x → p x ≡ true → Has (filter p xs) x
    in_filter [] x h e = h
    in_filter (y ∷ xs) x (inl same) e = subst (λ b. Has (cond b (y ∷ filter p xs) (filter p xs)) x) (sym (ap p same ∙ e)) (inl same)
    in_filter (y ∷ xs) x (inr h) e = step (p y) (in_filter xs x h e)
      where
        step : (b : Bool) → Has (filter p xs) x → Has (cond b (y ∷ filter p xs) (filter p xs)) x
        step true rest = inr rest
        step false rest = rest

    pub from_filter : (xs : List X) (x : X) → Has (filter p xs) x → Has xs x × (p x ≡ true)
    from_filter [] x h = absurd h
    from_filter (y ∷ xs) x h = step (p y) refl (λ m. let r = from_filter xs x m in (inr r.0, r.1)) h
      where
        step : (b : Bool) → p y ≡ b → (Has (filter p xs) x → Has (y ∷ xs) x × (p x ≡ true)) → Has (cond b (y ∷ filter p xs) (filter p xs)) x → Has (y ∷ xs) x × (p x ≡ true)
        step true e later (inl same) = (inl same, sym (ap p same) ∙ e)
        step true e later (inr more) = later more
        step false e later more = later more

    pub find_there : (xs : List X) (x : X) → Has xs x → p x ≡ true → (y : X) × (find p xs ≡ Some y)
    find_there [] x h e = absurd h
    find_there (y ∷ xs) x h e = step (p y) refl (λ m. find_there xs x m e) h
      where
        step : (b : Bool) → p y ≡ b → (Has xs x → (z : X) × (find p xs ≡ Some z)) → Has (y ∷ xs) x → (z : X) × (cond b (Some y) (find p xs) ≡ Some z)
        step true is later at = (y, refl)
        step false is later (inl same) = absurd (cc (e, is, ap p same))
        step false is later (inr more) = later more

    pub found_in : (xs : List X) (y : X) → find p xs ≡ Some y → Has xs y × (p y ≡ true)
    found_in [] y e = absurd (cc e)
    found_in (x ∷ xs) y e = step (p x) refl (λ m. let r = found_in xs y m in (inr r.0, r.1)) e
      where
        step : (b : Bool) → p x ≡ b → (find p xs ≡ Some y → Has (x ∷ xs) y × (p y ≡ true)) → cond b (Some x) (find p xs) ≡ Some y → Has (x ∷ xs) y × (p y ≡ true)
        step true is later some = let same : x ≡ y = cc some in (inl same, sym (ap p same) ∙ is)
        step false is later some = later some

    pub passes_each : (xs : List X) → list_all p xs ≡ true → (x : X) → Has xs x → p x ≡ true
    passes_each [] all x h = absurd h
    passes_each (y ∷ xs) all x h = step (p y) refl (λ rest m. passes_each xs rest x m) all h
      where
        step : (b : Bool) → p y ≡ b → (list_all p xs ≡ true → Has xs x → p x ≡ true) → (b && list_all p xs) ≡ true → Has (y ∷ xs) x → p x ≡ true
        step true is later rest (inl same) = sym (ap p same) ∙ is
        step true is later rest (inr more) = later rest more
        step false is later rest at = absurd (cc rest)

module _ {X Y : Type 0} where
  pub in_map : (f : X → Y) (xs : List X) (x : X) → Has xs x → Has (map f xs) (f x)
  in_map f [] x h = h
  in_map f (y ∷ xs) x (inl e) = inl (ap f e)
  in_map f (y ∷ xs) x (inr h) = inr (in_map f xs x h)

  pub from_map : (f : X → Y) (xs : List X) (y : Y) → Has (map f xs) y → (x : X) × Has xs x × (f x ≡ y)
  from_map f [] y h = absurd h
  from_map f (x ∷ xs) y (inl e) = (x, inl refl, e)
  from_map f (x ∷ xs) y (inr h) = let r = from_map f xs y h in (r.0, inr r.1, r.2)

  pub in_flat_map : (f : X → List Y) (xs : List X) (x : X) (y : Y) → Has xs x → Has (f x) y → Has (flat_map f xs) y
  in_flat_map f [] x y h at = absurd h
  in_flat_map f (z ∷ xs) x y (inl e) at = in_front (f z) (flat_map f xs) y (subst (λ w. Has (f w) y) (sym e) at)
  in_flat_map f (z ∷ xs) x y (inr h) at = in_back (f z) (flat_map f xs) y (in_flat_map f xs x y h at)

  pub from_flat_map : (f : X → List Y) (xs : List X) (y : Y) → Has (flat_map f xs) y → (x : X) × Has xs x × Has (f x) y
  from_flat_map f [] y h = absurd h
  from_flat_map f (x ∷ xs) y h = ⊎_elim
      (λ a. (x, inl refl, a))
      (λ b. let r = from_flat_map f xs y b in (r.0, inr r.1, r.2))
      (in_either (f x) (flat_map f xs) y h)
