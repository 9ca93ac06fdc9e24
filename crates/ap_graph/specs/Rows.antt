-- Arrows between numbers: for each number, those that it leads to.
use Rattle.std.specs.Prelude.{◌≡◌, ◌≢◌, ◌<◌, ◌+◌, ◌==◌, ℕ, cond, List, [], ◌∷◌, length, Contains, slice_index_or}

-- where a number leads
abbrev pub row_at : List (List ℕ) → ℕ → List ℕ
row_at rows i = slice_index_or rows i []

-- each number leads to numbers that have a row
abbrev pub IsClosed : List (List ℕ) → Type 0
IsClosed rows = (i j : ℕ) → Contains (row_at rows i) j → j < length rows

-- how often a number stands in a list
abbrev pub count_of : ℕ → List ℕ → ℕ
count_of x [] = 0
count_of x (y ∷ ys) = cond (y == x) (1 + count_of x ys) (count_of x ys)

-- the targets each lead back to a number, as often as they stand there
pub record AddsBack (old new : List (List ℕ)) (from : ℕ) (targets : List ℕ) : Type 0 where
  pub places : length new ≡ length old
  pub counts : (j : ℕ) → count_of from (row_at new j) ≡ count_of from (row_at old j) + count_of j targets
  pub others : (i j : ℕ) → i ≢ from → count_of i (row_at new j) ≡ count_of i (row_at old j)

-- the arrows the other way round, each as often
pub record IsReverse (rows back : List (List ℕ)) : Type 0 where
  pub places : length back ≡ length rows
  pub counts : (i j : ℕ) → count_of i (row_at back j) ≡ count_of j (row_at rows i)
