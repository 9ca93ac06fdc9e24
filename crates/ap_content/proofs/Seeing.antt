-- What contracts see of slots, and the things that numbers stand for.
use Rattle.std.proofs.Common.{◌≡◌, ℕ, zero, suc, ◌<◌, List, [], ◌∷◌, ◌++◌, map, length, get_or, Option, Some, None, IsSome, option_map, Contains, refl, ap, subst, ◌∙◌, ⊎_elim, arith}
use Rattle.slab.specs.Slab.{Slab, get}
use Rattle.ap_content.specs.declared.node.Number.{Number}
use Rattle.ap_content.specs.declared.node.Node.{Node}
use Rattle.ap_content.specs.declared.slots.Interned.{Interned}
use Rattle.ap_content.specs.Things.{Thing, Kids, no_kids, kid, digest, digests, number_of_kids}
use Rattle.ap_content.specs.Entries.{entry_at, node_at, Lives, Stands, StandEach}
use Rattle.ap_content.specs.Counting.{kid_times, one_if}
use Rattle.ap_content.specs.Sound.{seen, entries, digest_at, kid_digests}
use Rattle.ap_content.proofs.Members.{Contains-none, Contains-cons_cases, Contains-head, Contains-tail_of}
use Rattle.ap_content.proofs.Totals.{one_if-same}

get_or-seen : (xs : List (Option Interned)) (n : ℕ) → get_or (map seen xs) n None ≡ seen (get_or xs n None)
get_or-seen [] n = refl
get_or-seen (x ∷ xs) zero = refl
get_or-seen (x ∷ xs) (suc n) = get_or-seen xs n

-- what contracts see under a number
pub entry_at-entries : (slots : Slab Interned) (n : Number) → entry_at (entries slots) n ≡ seen (get slots n.0)
entry_at-entries slots n = get_or-seen slots.slots n.0

abbrev pub node_of : Option Interned → Option Node
node_of None = None
node_of (Some x) = Some x.node

pub node_of-seen : (s : Option Interned) → option_map (λ e. e.node) (seen s) ≡ node_of s
node_of-seen None = refl
node_of-seen (Some x) = refl

pub node_at-entries : (slots : Slab Interned) (n : Number) → node_at (entries slots) n ≡ node_of (get slots n.0)
node_at-entries slots n = ap (option_map (λ e. e.node)) (entry_at-entries slots n) ∙ node_of-seen (get slots n.0)

-- a slot with a node has something
pub from_node_of : (s : Option Interned) (node : Node) → node_of s ≡ Some node → (x : Interned) × (s ≡ Some x) × (x.node ≡ node)
from_node_of None node e = absurd (cc)
from_node_of (Some x) node e = (x, refl, cc)

pub from_is_some : {X : Type 0} (o : Option X) → IsSome o → (x : X) × (o ≡ Some x)
from_is_some None h = absurd (cc)
from_is_some (Some x) h = (x, refl)

-- a number is a kid where it is among the kids at least once
pub kid_times-member : (kids : List Number) (n : Number) → Contains kids n → 0 < kid_times n.0 kids
kid_times-member [] n h = absurd (Contains-none n h)
kid_times-member (k ∷ kids) n h = ⊎_elim
    (λ e. let one : one_if n.0 k.0 ≡ 1 = ap (λ m. one_if n.0 m.0) e ∙ one_if-same n.0 in omega arith)
    (λ later. let low = kid_times-member kids n later in omega arith)
    (Contains-cons_cases k kids n h)

-- kids of which each stands for a thing stand for kids, and have their digests
pub each-stands : (slots : Slab Interned) (ns : List Number)
    → ((k : Number) → Contains ns k → (x : Interned) × (get slots k.0 ≡ Some x) × (t : Thing) × Stands (entries slots) k t × (x.digest ≡ digest t))
    → (ts : Kids) × StandEach (entries slots) ns ts × (kid_digests slots ns ≡ digests ts) × (length ns ≡ number_of_kids ts)
each-stands slots [] h = (no_kids, tt, refl, refl)
each-stands slots (n ∷ ns) h =
    let here = h n (Contains-head n ns) in
    let later = each-stands slots ns (λ k m. h k (Contains-tail_of n ns k m)) in (
      kid here.2 later.0,
      (here.3, later.1),
      ap (λ d. d ++ kid_digests slots ns) (ap digest_at here.1 ∙ here.4) ∙ ap (λ ds. digest here.2 ++ ds) later.2,
      ap suc later.3,
    )

-- a number that lives has its slot
pub lives-get : (slots : Slab Interned) (n : Number) → Lives (entries slots) n → IsSome (get slots n.0)
lives-get slots n lives = there (get slots n.0) (subst IsSome (entry_at-entries slots n) lives)
  where
    there : (s : Option Interned) → IsSome (seen s) → IsSome s
    there None h = h
    there (Some x) h = refl
