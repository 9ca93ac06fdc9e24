-- Lists that a test parts in two.
use Rattle.std.proofs.lemmas.Bool.{cases_lt}
use Rattle.std.proofs.Common.{◌≡◌, ◌⊎◌, inl, inr, ◌≤◌, ◌<◌, ℕ, zero, suc, Bool, true, false, not, cond, List, [], ◌∷◌, length, take, drop, filter, refl, ap, subst, arith, slice_index_or}
use Rattle.std.specs.List.Sorted.{IsPartitionPoint, IsPartitionedBy}

module _ {X : Type 0} (p : X → Bool) where
  -- a front that passes and a rest that fails are what the test selects and leaves
  pub front_of : (xs : List X) (k : ℕ) → k ≤ length xs → IsPartitionPoint (λ y. p y ≡ true) (λ y. p y ≡ false) xs k → take k xs ≡ filter p xs
  front_of [] zero le parts = refl
  front_of [] (suc k) le parts = absurd (omega (arith, le))
  front_of (x ∷ xs) zero le parts =
      step (p x) (parts.1 0 x (omega arith) (omega arith)) (front_of xs zero (omega arith) ((λ n d low high. absurd (omega (arith, high))), (λ n d low high. parts.1 (suc n) d (omega arith) (omega (arith, high)))))
    where
      step : (b : Bool) → b ≡ false → [] ≡ filter p xs → [] ≡ cond b (x ∷ filter p xs) (filter p xs)
      step true is rest = absurd (cc is)
      step false is rest = rest
  front_of (x ∷ xs) (suc k) le parts =
      step (p x) (parts.0 0 x (omega arith) (omega arith)) (front_of xs k (omega (arith, le)) ((λ n d low high. parts.0 (suc n) d (omega arith) (omega (arith, high))), (λ n d low high. parts.1 (suc n) d (omega (arith, low)) (omega (arith, high)))))
    where
      step : (b : Bool) → b ≡ true → take k xs ≡ filter p xs → x ∷ take k xs ≡ cond b (x ∷ filter p xs) (filter p xs)
      step true is rest = ap (λ l. x ∷ l) rest
      step false is rest = absurd (cc is)

  pub rest_of : (xs : List X) (k : ℕ) → k ≤ length xs → IsPartitionPoint (λ y. p y ≡ true) (λ y. p y ≡ false) xs k → drop k xs ≡ filter (λ y. not (p y)) xs
  rest_of [] zero le parts = refl
  rest_of [] (suc k) le parts = absurd (omega (arith, le))
  rest_of (x ∷ xs) zero le parts =
      step (p x) (parts.1 0 x (omega arith) (omega arith)) (rest_of xs zero (omega arith) ((λ n d low high. absurd (omega (arith, high))), (λ n d low high. parts.1 (suc n) d (omega arith) (omega (arith, high)))))
    where
      step : (b : Bool) → b ≡ false → xs ≡ filter (λ y. not (p y)) xs → x ∷ xs ≡ cond (not b) (x ∷ filter (λ y. not (p y)) xs) (filter (λ y. not (p y)) xs)
      step true is rest = absurd (cc is)
      step false is rest = ap (λ l. x ∷ l) rest
  rest_of (x ∷ xs) (suc k) le parts =
      step (p x) (parts.0 0 x (omega arith) (omega arith)) (rest_of xs k (omega (arith, le)) ((λ n d low high. parts.0 (suc n) d (omega arith) (omega (arith, high))), (λ n d low high. parts.1 (suc n) d (omega (arith, low)) (omega (arith, high)))))
    where
      step : (b : Bool) → b ≡ true → drop k xs ≡ filter (λ y. not (p y)) xs → drop k xs ≡ cond (not b) (x ∷ filter (λ y. not (p y)) xs) (filter (λ y. not (p y)) xs)
      step true is rest = rest
      step false is rest = absurd (cc is)

  -- what isn't below can't pass behind what fails
  pub parted : (xs : List X) → ((i j : ℕ) (d : X) → i < j → j < length xs → p (slice_index_or xs j d) ≡ true → p (slice_index_or xs i d) ≡ true) → IsPartitionedBy p xs
  parted xs earlier i j d le lt is = by_case (cases_lt i j)
    where
      by_case : (i < j) ⊎ (j ≤ i) → p (slice_index_or xs i d) ≡ true
      by_case (inl less) = earlier i j d less lt is
      by_case (inr more) = let same : j ≡ i = omega (arith, le, more) in subst (λ (n : ℕ). p (slice_index_or xs n d) ≡ true) same is
