-- The jobs of a graph: how far each has come, and which is next.
use Rattle.std.specs.Prelude.{◌≡◌, ◌⊎◌, Bool, true, false, not, cond, ◌||◌, List, map, find, Contains, Option, Some, None, is_some}
use Rattle.std.specs.List.{list_all, AllByRecursion}
use Rattle.std.specs.declared.cmp.Ordering.{Ordering}
use Rattle.std.specs.Ordering.{int_cmp, ordering_then, is_lt}
use Rattle.ap_text.specs.declared.job_id.JobId.{JobId}
use Rattle.ap_text.specs.Order.{Lists}
use Rattle.ap_graph.specs.declared.node.JobNode.{JobNode}
use Rattle.ap_graph.specs.declared.node.Progress.{Progress}
use Rattle.ap_graph.specs.declared.node.Progress.TheVariants.{Pending, Issued, Settled}
use Rattle.ap_graph.specs.declared.node.State.{State}
use Rattle.ap_graph.specs.declared.node.State.TheVariants.{Waiting, Ready, Issued as IssuedState, Settled as SettledState}
use Rattle.ap_text.specs.JobOrder.{job_cmp, same_job}
use Rattle.ap_graph.specs.Waits.{waits_for}
use Rattle.ap_graph.specs.Nodes.{node_cmp, IsOnCycle}

-- a node, and how far its job has come
pub record GraphJob : Type 0 where
  pub node : JobNode
  pub progress : Progress

abbrev pub nodes_of : List GraphJob → List JobNode
nodes_of jobs = map (λ job. job.node) jobs

-- the job of an id
abbrev pub job_at : List GraphJob → JobId → Option GraphJob
job_at jobs id = find (λ job. same_job job.node.id id) jobs

-- some job has this id
abbrev pub is_job : List GraphJob → JobId → Bool
is_job jobs id = is_some (job_at jobs id)

abbrev pub has_settled : Progress → Bool
has_settled Pending = false
has_settled Issued = false
has_settled Settled = true

abbrev pub has_settled_at : Option GraphJob → Bool
has_settled_at None = false
has_settled_at (Some job) = has_settled job.progress

-- the job of this id is settled
abbrev pub is_settled : List GraphJob → JobId → Bool
is_settled jobs id = has_settled_at (job_at jobs id)

-- each edge that the job waits for leads to a settled job
abbrev pub is_free : List GraphJob → JobNode → Bool
is_free jobs node = list_all (λ edge. not (waits_for edge.0 node.processed) || is_settled jobs edge.1) node.edges

-- the state of a job that has come so far, and is free or not
abbrev pub state_by : Progress → Bool → State
state_by Pending free = cond free Ready Waiting
state_by Issued free = IssuedState
state_by Settled free = SettledState

abbrev pub state_at : List GraphJob → Option GraphJob → State
state_at jobs None = Waiting
state_at jobs (Some job) = state_by job.progress (is_free jobs job.node)

-- the state of the job of an id
abbrev pub state_of : List GraphJob → JobId → State
state_of jobs id = state_at jobs (job_at jobs id)

-- the jobs once the one of this id has come so far
abbrev pub with_progress : JobId → Progress → List GraphJob → List GraphJob
with_progress id progress jobs = map (λ job. cond (same_job job.node.id id) (record job { progress = progress }) job) jobs

-- the order of issue: the greater priority goes first, and of equal ones the lesser id
abbrev pub issue_cmp : JobNode → JobNode → Ordering
issue_cmp a b = ordering_then (int_cmp b.priority a.priority) (job_cmp a.id b.id)

-- the ready job of this id is the first of all that are ready
pub record IsNext (jobs : List GraphJob) (id : JobId) : Type 0 where
  pub job : GraphJob
  pub has : Contains jobs job
  pub named : job.node.id ≡ id
  pub ready : state_of jobs id ≡ Ready
  pub first : (other : GraphJob) → Contains jobs other → state_of jobs other.node.id ≡ Ready → is_lt (issue_cmp other.node job.node) ≡ false

-- all nodes, by id, of which no job has come any way
pub record AreNew (nodes : List JobNode) (jobs : List GraphJob) : Type 0 where
  pub lists : Lists node_cmp (Contains nodes) (nodes_of jobs)
  pub pending : AllByRecursion (λ job. job.progress ≡ Pending) jobs

-- a job that may be settled is ready or issued, or it is on a cycle
abbrev pub MayBeSettled : List GraphJob → JobId → Type 0
MayBeSettled jobs id = (state_of jobs id ≡ Ready) ⊎ ((state_of jobs id ≡ IssuedState) ⊎ IsOnCycle (nodes_of jobs) id)
