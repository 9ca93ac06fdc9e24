-- What is true of an arena. No public clause cites this module.
use Rattle.std.specs.Prelude.{◌≡◌, ℕ, ◌^◌, ◌<◌, ◌≤◌, List, [], ◌∷◌, ◌++◌, length, map, Option, Some, None, IsSome, vec_capacity}
use Rattle.slab.specs.Slab.{Slab, get}
use Rattle.ap_content.specs.Things.{Thing, digest}
use Rattle.ap_content.specs.Entries.{Entry, Stands}
use Rattle.ap_content.specs.Finding.{Finds}
use Rattle.ap_content.specs.Counting.{total, times, kid_times, parent_times, living, spent}
use Rattle.ap_content.specs.declared.node.Number.{Number}
use Rattle.ap_content.specs.declared.node.Node.{Node}
use Rattle.ap_content.specs.declared.index.Index.{Index}
use Rattle.ap_content.specs.declared.slots.Interned.{Interned}
use Rattle.ap_content.specs.declared.arena.Arena.{Arena}

-- what contracts see of a slot
abbrev pub seen : Option Interned → Option Entry
seen None = None
seen (Some x) = Some (record { node = x.node; holds = x.holds })

abbrev pub entries : Slab Interned → List (Option Entry)
entries slots = map seen slots.slots

abbrev pub number : ℕ → Number
number n = record { 0 = n }

-- the slot has this node
pub record HasNode (slots : Slab Interned) (n : ℕ) (node : Node) : Type 0 where
  pub interned : Interned
  pub there : get slots n ≡ Some interned
  pub same : interned.node ≡ node

-- the digests of kids, one after another
abbrev pub digest_at : Option Interned → List ℕ
digest_at None = []
digest_at (Some x) = x.digest

abbrev pub kid_digests : Slab Interned → List Number → List ℕ
kid_digests slots [] = []
kid_digests slots (kid ∷ kids) = digest_at (get slots kid.0) ++ kid_digests slots kids

-- each slot has a node of its own with kids that live, counts its parents, stands for a thing, keeps
-- its digest, and is found under it
pub record IsLinked (slots : Slab Interned) (index : Index) : Type 0 where
  pub one_number : (n m : ℕ) (x y : Interned) → get slots n ≡ Some x → get slots m ≡ Some y → x.node ≡ y.node → n ≡ m
  pub kids_live : (n k : ℕ) (x : Interned) → get slots n ≡ Some x → 0 < kid_times k x.node.kids → IsSome (get slots k)
  pub parents : (n : ℕ) (x : Interned) → get slots n ≡ Some x → x.parents ≡ total (parent_times n) slots.slots
  pub fit : (n : ℕ) (x : Interned) → get slots n ≡ Some x → x.parents < 2 ^ 64
  pub stands : (n : ℕ) (x : Interned) → get slots n ≡ Some x → (t : Thing) × Stands (entries slots) (number n) t × (x.digest ≡ digest t)
  pub found : (n : ℕ) (x : Interned) → get slots n ≡ Some x → Finds index x.digest n
  pub finds : (d : List ℕ) (n : ℕ) → Finds index d n → (x : Interned) × (get slots n ≡ Some x) × (x.digest ≡ d)

-- the list has each slot with neither a hold nor a parent once, and nothing else, and its room is enough
-- for all that lives
pub record IsListed (slots : Slab Interned) (dying : List ℕ) (room : ℕ) : Type 0 where
  pub listed : (n : ℕ) → times n dying ≡ spent (get slots n)
  pub as_long : length dying ≡ total spent slots.slots
  pub enough : total living slots.slots ≤ room

-- what lives in new has the node and the holds that it had in old, and what doesn't live any more had no
-- hold
pub record Thins (old new : Slab Interned) : Type 0 where
  pub kept : (n : ℕ) (y : Interned) → get new n ≡ Some y → (x : Interned) × (get old n ≡ Some x) × (y.node ≡ x.node) × (y.holds ≡ x.holds)
  pub gone : (n : ℕ) (x : Interned) → get old n ≡ Some x → get new n ≡ None → x.holds ≡ 0

pub record IsSound (arena : Arena) : Type 0 where
  pub linked : IsLinked arena.slots arena.index
  pub listed : IsListed arena.slots arena.dying.items (vec_capacity arena.dying)
  pub idle : arena.dying.items ≡ []
