-- What the slots of an arena count. No public clause cites this module.
use Rattle.std.specs.Prelude.{ℕ, ◌+◌, ◌-◌, ◌==◌, List, [], ◌∷◌, Option, Some, None, if◌then◌else◌}
use Rattle.ap_content.specs.Entries.{one_less, one_more}
use Rattle.ap_content.specs.declared.node.Number.{Number}
use Rattle.ap_content.specs.declared.slots.Interned.{Interned}

-- what a function gives, over all of a list
abbrev pub total : {X : Type 0} → (X → ℕ) → List X → ℕ
total f [] = 0
total f (x ∷ xs) = f x + total f xs

-- one where two numbers are the same
abbrev pub one_if : ℕ → ℕ → ℕ
one_if n m = if n == m then 1 else 0

-- how many times a number is in a list
abbrev pub times : ℕ → List ℕ → ℕ
times n = total (one_if n)

-- how many times it is among kids
abbrev pub kid_times : ℕ → List Number → ℕ
kid_times n = total (λ kid. one_if n kid.0)

-- how many times it is a kid of what a slot has
abbrev pub parent_times : ℕ → Option Interned → ℕ
parent_times n None = 0
parent_times n (Some x) = kid_times n x.node.kids

-- one where something lives in the slot
abbrev pub living : Option Interned → ℕ
living None = 0
living (Some x) = 1

-- one where what is in the slot has neither a hold nor a parent
abbrev pub spent : Option Interned → ℕ
spent None = 0
spent (Some x) = one_if (x.holds + x.parents) 0

-- the slot with so many more parents, or fewer
abbrev pub raised : ℕ → Option Interned → Option Interned
raised k None = None
raised k (Some x) = Some (record x { parents = x.parents + k })

abbrev pub lowered : ℕ → Option Interned → Option Interned
lowered k None = None
lowered k (Some x) = Some (record x { parents = x.parents - k })

-- the slot with one hold less
abbrev pub with_less : Option Interned → Option Interned
with_less None = None
with_less (Some x) = Some (record x { holds = one_less x.holds })

-- the slot with one hold more
abbrev pub with_more : Option Interned → Option Interned
with_more None = None
with_more (Some x) = Some (record x { holds = one_more x.holds })
