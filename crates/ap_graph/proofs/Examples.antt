-- The definitions at small graphs. Each line is proved by computing.
use Rattle.std.proofs.Common.{◌≡◌, ℕ, pos, Bool, true, false, List, [], ◌∷◌, map, refl}
use Rattle.std.specs.Prelude.{codes}
use Rattle.ap_rows.specs.declared.job.DepKind.TheVariants.{Order, OrderOnce, Fingerprint}
use Rattle.ap_text.specs.declared.job_id.JobId.{JobId}
use Rattle.ap_graph.specs.declared.node.JobNode.{JobNode}
use Rattle.ap_graph.specs.declared.node.Progress.TheVariants.{Pending, Issued, Settled}
use Rattle.ap_graph.specs.declared.node.State.TheVariants.{Waiting, Ready, Settled as SettledState}
use Rattle.ap_graph.specs.Waits.{Kind}
use Rattle.ap_graph.specs.Jobs.{GraphJob, state_of, with_progress}
use Rattle.ap_graph.proofs.CycleTest.{is_on_cycle}

abbrev base : JobId
base = record { source = codes "base.mat"; key = codes "flat"; platform = codes "pc" }

abbrev use_it : JobId
use_it = record { source = codes "use.join"; key = codes "join"; platform = codes "pc" }

-- a job on its own, and one that depends on it in some way, of priority 9
abbrev two : Kind → Bool → List JobNode
two kind processed = record { id = base; priority = pos 0; edges = []; processed = processed }
    ∷ record { id = use_it; priority = pos 9; edges = (kind, base) ∷ []; processed = processed } ∷ []

abbrev begun : List JobNode → List GraphJob
begun nodes = map (λ node. record { node = node; progress = Pending }) nodes

-- Order and Fingerprint wait always
pub after_waits : state_of (begun (two Order true)) use_it ≡ Waiting
after_waits = refl

pub after_is_ready : state_of (with_progress base Settled (begun (two Order true))) use_it ≡ Ready
after_is_ready = refl

pub issued_is_not_settled : state_of (with_progress base Issued (begun (two Order true))) use_it ≡ Waiting
issued_is_not_settled = refl

pub print_waits : state_of (begun (two Fingerprint true)) use_it ≡ Waiting
print_waits = refl

-- OrderOnce waits only until the job was processed
pub once_waits : state_of (begun (two OrderOnce false)) use_it ≡ Waiting
once_waits = refl

pub once_waited : state_of (begun (two OrderOnce true)) use_it ≡ Ready
once_waited = refl

pub the_base_is_ready : state_of (begun (two OrderOnce false)) base ≡ Ready
the_base_is_ready = refl

abbrev join : List ℕ → JobId
join path = record { source = path; key = codes "join"; platform = codes "pc" }

abbrev after : List ℕ → List ℕ → JobNode
after path other = record { id = join path; priority = pos 0; edges = (Order, join other) ∷ []; processed = false }

abbrev alone : List ℕ → JobNode
alone path = record { id = join path; priority = pos 0; edges = []; processed = false }

-- a chain of three has no cycle; once the last leads to the first, all three are on one, and who leads into it isn't
abbrev chain : List JobNode
chain = after (codes "a") (codes "b") ∷ after (codes "b") (codes "c") ∷ alone (codes "c") ∷ []

abbrev ring : List JobNode
ring = after (codes "a") (codes "b") ∷ after (codes "b") (codes "c") ∷ after (codes "c") (codes "a") ∷ after (codes "d") (codes "a") ∷ []

pub the_chain_has_none : is_on_cycle chain (join (codes "a")) ≡ false
the_chain_has_none = refl

pub the_first_of_the_ring : is_on_cycle ring (join (codes "a")) ≡ true
the_first_of_the_ring = refl

pub the_second_of_the_ring : is_on_cycle ring (join (codes "b")) ≡ true
the_second_of_the_ring = refl

pub the_third_of_the_ring : is_on_cycle ring (join (codes "c")) ≡ true
the_third_of_the_ring = refl

pub leading_into_it : is_on_cycle ring (join (codes "d")) ≡ false
leading_into_it = refl

-- a job that depends on itself is on a cycle
pub itself : is_on_cycle (after (codes "a") (codes "a") ∷ []) (join (codes "a")) ≡ true
itself = refl

-- in the chain the last is ready first, then the second, then the first
pub the_chain_begins : map (state_of (begun chain)) (join (codes "a") ∷ join (codes "b") ∷ join (codes "c") ∷ []) ≡ Waiting ∷ Waiting ∷ Ready ∷ []
the_chain_begins = refl

pub the_chain_goes_on : map (state_of (with_progress (join (codes "c")) Settled (begun chain))) (join (codes "a") ∷ join (codes "b") ∷ join (codes "c") ∷ []) ≡ Waiting ∷ Ready ∷ SettledState ∷ []
the_chain_goes_on = refl

pub the_chain_ends : map (state_of (with_progress (join (codes "b")) Settled (with_progress (join (codes "c")) Settled (begun chain)))) (join (codes "a") ∷ []) ≡ Ready ∷ []
the_chain_ends = refl
