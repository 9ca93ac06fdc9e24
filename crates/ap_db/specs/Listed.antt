-- Lists that stand for one another item by item, totals over lists, and rows in order.
use Rattle.std.specs.Prelude.{◌≡◌, ⊤, ℕ, ◌+◌, List, [], ◌∷◌, ◌++◌, length, Option, Some, None, Result, Ok, Err, slice_set, slice_index_or}
use Rattle.std.specs.declared.cmp.Ordering.{Ordering}
use Rattle.std.specs.declared.cmp.Ordering.TheVariants.{Less, Equal, Greater}
use Rattle.std.specs.Ordering.{match_ordering}
use Rattle.std.specs.List.{AllByRecursion, insert, remove}

-- item by item the lists stand so to each other, and they are as long
abbrev pub AreAll : {X Y : Type 0} → (X → Y → Type 0) → List X → List Y → Type 0
AreAll Is [] [] = ⊤
AreAll Is [] (y ∷ ys) = ⊥
AreAll Is (x ∷ xs) [] = ⊥
AreAll Is (x ∷ xs) (y ∷ ys) = Is x y × AreAll Is xs ys

-- both or neither is there, and they stand so to each other
abbrev pub AreBoth : {X Y : Type 0} → (X → Y → Type 0) → Option X → Option Y → Type 0
AreBoth Is None None = ⊤
AreBoth Is None (Some y) = ⊥
AreBoth Is (Some x) None = ⊥
AreBoth Is (Some x) (Some y) = Is x y

-- what a function gives, over all of a list
abbrev pub total : {X : Type 0} → (X → ℕ) → List X → ℕ
total f [] = 0
total f (x ∷ xs) = f x + total f xs

-- and where there is something
abbrev pub part : {X : Type 0} → (X → ℕ) → Option X → ℕ
part f None = 0
part f (Some x) = f x

-- what a put in order replaces
abbrev pub replaced : {X : Type 0} → (X → X → Ordering) → X → List X → Option X
replaced cmp x [] = None
replaced cmp x (y ∷ ys) = match_ordering (cmp x y) None (Some y) (replaced cmp x ys)

-- the items with this one in this place: in that of the item of its rank, or between two
abbrev pub IsPutAt : {X : Type 0} → List X → Result ℕ ℕ → X → List X → Option X → Type 0
IsPutAt items (Ok place) x new old = (new ≡ slice_set items place x) × (old ≡ Some (slice_index_or items place x))
IsPutAt items (Err place) x new old = (new ≡ insert items place x) × (old ≡ None)

-- the items without that of this place, where it has one
abbrev pub IsTakenAt : {X : Type 0} → List X → Result ℕ ℕ → List X → Option X → Type 0
IsTakenAt {X} items (Ok place) new old = (new ≡ remove items place) × (x : X) × (old ≡ Some x) × (x ≡ slice_index_or items place x)
IsTakenAt items (Err place) new old = (new ≡ items) × (old ≡ None)

-- the item of this rank is at this place, or would be, among those below and those above it
pub record IsPresent {X : Type 0} (rank : X → Ordering) (items : List X) (place : ℕ) : Type 0 where
  pub front : List X
  pub here : X
  pub back : List X
  pub are : items ≡ front ++ here ∷ back
  pub long : length front ≡ place
  pub below : AllByRecursion (λ x. rank x ≡ Less) front
  pub same : rank here ≡ Equal
  pub above : AllByRecursion (λ x. rank x ≡ Greater) back

pub record IsAbsent {X : Type 0} (rank : X → Ordering) (items : List X) (place : ℕ) : Type 0 where
  pub front : List X
  pub back : List X
  pub are : items ≡ front ++ back
  pub long : length front ≡ place
  pub below : AllByRecursion (λ x. rank x ≡ Less) front
  pub above : AllByRecursion (λ x. rank x ≡ Greater) back

abbrev pub IsPlaceOf : {X : Type 0} → (X → Ordering) → List X → Result ℕ ℕ → Type 0
IsPlaceOf rank items (Ok place) = IsPresent rank items place
IsPlaceOf rank items (Err place) = IsAbsent rank items place
