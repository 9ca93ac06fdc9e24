-- A contest of numbers, each with a priority: which of those that take part is first.
use Rattle.std.specs.Prelude.{◌≡◌, ◌≢◌, ◌≤◌, ◌<◌, ◌+◌, ◌*◌, ◌⊎◌, ◌==◌, ℕ, ℤ, Bool, not, cond, List, length, map, drop, slice_index, slice_index_or, All, pos}
use Rattle.std.specs.declared.cmp.Ordering.{Ordering}
use Rattle.std.specs.Ordering.{int_cmp, nat_cmp, ordering_then, is_lt}

-- the priorities, and who takes part
pub record Contest : Type 0 where
  pub priorities : List ℤ
  pub entered : List Bool

-- the priority of a number
abbrev pub priority_at : List ℤ → ℕ → ℤ
priority_at priorities i = slice_index_or priorities i (pos 0)

-- the order of numbers: the greater priority goes first, and of equal ones the lesser number
abbrev pub contest_cmp : List ℤ → ℕ → ℕ → Ordering
contest_cmp priorities a b = ordering_then (int_cmp (priority_at priorities b) (priority_at priorities a)) (nat_cmp a b)

abbrev pub goes_before : List ℤ → ℕ → ℕ → Bool
goes_before priorities a b = is_lt (contest_cmp priorities a b)

-- the first of two, where the count of all stands for none
abbrev pub first_of : List ℤ → ℕ → ℕ → ℕ
first_of priorities a b = cond (a == length priorities) b (cond (b == length priorities) a (cond (goes_before priorities b a) b a))

-- above each two nodes stands the first of them, but perhaps not at one place
pub record IsTreeBut (priorities : List ℤ) (nodes : List ℕ) (at : ℕ) : Type 0 where
  pub places : length nodes ≡ 2 * length priorities
  pub low : All (λ node. node ≤ length priorities) nodes
  pub inner : (k : ℕ) → 1 ≤ k → k < length priorities → k ≢ at → slice_index nodes k ≡ first_of priorities (slice_index nodes (2 * k)) (slice_index nodes (2 * k + 1))

-- the leaves, from the count on, are those who take part, each at its place; and above each two nodes stands the first of them
pub record IsTree (priorities : List ℤ) (nodes : List ℕ) : Type 0 where
  pub decided : IsTreeBut priorities nodes 0
  pub leaves : (i : ℕ) → i < length priorities → (slice_index nodes (length priorities + i) ≡ length priorities) ⊎ (slice_index nodes (length priorities + i) ≡ i)

-- who takes part
abbrev pub entered_in : ℕ → List ℕ → List Bool
entered_in count nodes = map (λ leaf. not (leaf == count)) (drop count nodes)
