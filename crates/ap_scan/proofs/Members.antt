-- Lists with the same members.
use Rattle.std.proofs.Common.{◌≡◌, ◌∙◌, ◌<◌, ◌≤◌, ◌-◌, length, get_or, take, drop, ap, arith, List, [], ◌∷◌, ◌++◌, Contains, refl, sym, subst, ⊎_elim, append_assoc, append-nil}
use Rattle.std.specs.Prelude.{Option, Some, None, IfSome, IsPermutation}
use Rattle.std.specs.List.{AllByRecursion, flat_map}
use Rattle.std.proofs.Math.Seq.{take-length}
use Rattle.std.proofs.lemmas.List.Sorted.{Contains-permutation, IsPermutation-sym}
use Rattle.ap_text.proofs.Members.{Contains-none, Contains-head, Contains-tail_of, Contains-cons_cases, AllByRecursion-join}
use Rattle.std.proofs.lemmas.List.Elements.{Contains-append_left, Contains-append_right, Contains-append_cases}
use Rattle.ap_scan.specs.Candidates.{SameMembers}

module _ {X : Type 0} where
  -- what was made of the front of the rest stands for it
  pub same-step : (all old one rest new : List X) → SameMembers all (old ++ (one ++ rest)) → SameMembers (old ++ one) new → SameMembers all (new ++ rest)
  same-step all old one rest new same step x = (
    λ member. ⊎_elim
        (λ front. Contains-append_left new rest x ((step x).0 front))
        (λ behind. Contains-append_right new rest x behind)
        (Contains-append_cases (old ++ one) rest x (subst (λ l. Contains l x) (sym (append_assoc old one rest)) ((same x).0 member))),
    λ member. (same x).1 (subst (λ l. Contains l x) (append_assoc old one rest) (⊎_elim
        (λ front. Contains-append_left (old ++ one) rest x ((step x).1 front))
        (λ behind. Contains-append_right (old ++ one) rest x behind)
        (Contains-append_cases new rest x member))),
  )

  pub same-behind : (old xs ys : List X) → SameMembers xs ys → SameMembers (old ++ xs) (old ++ ys)
  same-behind old xs ys same x = (
    λ member. ⊎_elim (Contains-append_left old ys x) (λ behind. Contains-append_right old ys x ((same x).0 behind)) (Contains-append_cases old xs x member),
    λ member. ⊎_elim (Contains-append_left old xs x) (λ behind. Contains-append_right old xs x ((same x).1 behind)) (Contains-append_cases old ys x member),
  )

  pub same-end : (all new : List X) → SameMembers all (new ++ []) → SameMembers all new
  same-end all new same = subst (λ l. SameMembers all l) (append-nil new) same

-- a member of what is made of each is made of some member
module _ {X Y : Type 0} (f : X → List Y) where
  pub made-from : (xs : List X) (y : Y) → Contains (flat_map f xs) y → (x : X) × Contains xs x × Contains (f x) y
  made-from [] y member = absurd (Contains-none y member)
  made-from (x ∷ xs) y member = ⊎_elim
      (λ here. (x, Contains-head x xs, here))
      (λ behind. let r = made-from xs y behind in (r.0, Contains-tail_of x xs r.0 r.1, r.2))
      (Contains-append_cases (f x) (flat_map f xs) y member)

  pub made-in : (xs : List X) (x : X) (y : Y) → Contains xs x → Contains (f x) y → Contains (flat_map f xs) y
  made-in [] x y member here = absurd (Contains-none x member)
  made-in (z ∷ xs) x y member here = ⊎_elim
      (λ e. Contains-append_left (f z) (flat_map f xs) y (subst (λ w. Contains (f w) y) (sym e) here))
      (λ behind. Contains-append_right (f z) (flat_map f xs) y (made-in xs x y behind here))
      (Contains-cons_cases z xs x member)

  -- the same is made of the same
  pub made-same : (xs ys : List X) → IsPermutation xs ys → SameMembers (flat_map f xs) (flat_map f ys)
  made-same xs ys moved y = (
    λ member. let r = made-from xs y member in made-in ys r.0 y (Contains-permutation xs ys r.0 moved r.1) r.2,
    λ member. let r = made-from ys y member in made-in xs r.0 y (Contains-permutation ys xs r.0 (IsPermutation-sym xs ys moved) r.1) r.2,
  )

-- what is made of the listed names, behind what was there
pub listed-same : {F X Y : Type 0} (f : X → List Y) (below : F → List X) (told : Option F) (names : List X) (old new : List Y) →
    IfSome told (λ t. IsPermutation (below t) names) → new ≡ old ++ flat_map f names → IfSome told (λ t. SameMembers (old ++ flat_map f (below t)) new)
listed-same f below None names old new lists is = tt
listed-same f below (Some t) names old new lists is = subst (λ l. SameMembers (old ++ flat_map f (below t)) l) (sym is) (same-behind old (flat_map f (below t)) (flat_map f names) (made-same f (below t) names lists))

pub all-made : {X Y : Type 0} (P : Y → Type 0) (f : X → List Y) (xs : List X) → ((x : X) → AllByRecursion P (f x)) → AllByRecursion P (flat_map f xs)
all-made P f [] each = tt
all-made P f (x ∷ xs) each = AllByRecursion-join P (f x) (flat_map f xs) (each x) (all-made P f xs each)

-- a list is its first and the rest
first-rest : {X : Type 0} (xs : List X) (x : X) → 1 ≤ length xs → x ≡ get_or xs 0 x → xs ≡ x ∷ drop 1 xs
first-rest [] x some is = let low : 1 ≤ 0 = some in absurd (omega arith)
first-rest (y ∷ xs) x some is = ap (λ z. z ∷ xs) (sym is)

none-left : {X : Type 0} (xs : List X) → length xs < 1 → xs ≡ []
none-left [] few = refl
none-left (x ∷ xs) few = absurd (omega arith)

-- what a pattern leaves behind the first
all-behind : {X : Type 0} (xs : List X) → 1 ≤ length xs → take (length xs - 1) (drop 1 xs) ≡ drop 1 xs
all-behind [] some = let low : 1 ≤ 0 = some in absurd (omega arith)
all-behind (x ∷ xs) some =
    let e : length (x ∷ xs) - 1 ≡ length xs = omega arith in
    ap (λ n. take n xs) e ∙ take-length xs

-- the folders so far, where it is told what is below them
module _ {F G X : Type 0} (all : F → List X) (made : G → F → List X) where
  pub told-step : (told now : Option F) (rest : List G) (folder : G) (old new : List X) → now ≡ told → 1 ≤ length rest → folder ≡ get_or rest 0 folder →
      IfSome told (λ t. SameMembers (all t) (old ++ flat_map (λ g. made g t) rest)) → IfSome now (λ t. SameMembers (old ++ made folder t) new) →
      IfSome told (λ t. SameMembers (all t) (new ++ flat_map (λ g. made g t) (take (length rest - 1) (drop 1 rest))))
  told-step None now rest folder old new stays some is same step = tt
  told-step (Some t) now rest folder old new stays some is same step =
      subst (λ l. SameMembers (all t) (new ++ flat_map (λ g. made g t) l)) (sym (all-behind rest some)) (same-step (all t) old (made folder t) (flat_map (λ g. made g t) (drop 1 rest)) new
      (subst (λ l. SameMembers (all t) (old ++ flat_map (λ g. made g t) l)) (first-rest rest folder some is) same)
      (subst (λ (o : Option F). IfSome o (λ u. SameMembers (old ++ made folder u) new)) stays step))

  pub told-end : (told : Option F) (rest : List G) (new : List X) → length rest < 1 →
      IfSome told (λ t. SameMembers (all t) (new ++ flat_map (λ g. made g t) rest)) → IfSome told (λ t. SameMembers (all t) new)
  told-end None rest new few same = tt
  told-end (Some t) rest new few same = same-end (all t) new (subst (λ l. SameMembers (all t) (new ++ flat_map (λ g. made g t) l)) (none-left rest few) same)
