-- How a graph keeps its nodes: each by a number, its place among the ids.
use Rattle.std.specs.Prelude.{◌≡◌, ◌<◌, ◌+◌, ◌==◌, ◌&&◌, ℕ, Bool, true, false, cond, List, [], ◌∷◌, length, map, All, slice_index, slice_index_or}
use Rattle.std.specs.List.Sorted.{IsStrictlySortedBy}
use Rattle.ap_text.specs.declared.job_id.JobId.{JobId}
use Rattle.ap_graph.specs.declared.node.JobNode.{JobNode}
use Rattle.ap_graph.specs.declared.node.Progress.{Progress}
use Rattle.ap_graph.specs.declared.node.Progress.TheVariants.{Pending, Issued, Settled}
use Rattle.ap_graph.specs.declared.job.Job.{Job}
use Rattle.ap_text.specs.JobOrder.{job_cmp}
use Rattle.ap_graph.specs.Ids.{name_at}
use Rattle.ap_graph.specs.Waits.{Kind, waits_for}
use Rattle.ap_graph.specs.Rows.{row_at, IsReverse}
use Rattle.ap_graph.specs.Groups.{TellsCycles}
use Rattle.ap_graph.specs.Contest.{Contest}
use Rattle.ap_graph.specs.Jobs.{GraphJob, has_settled}

-- edges to places, as edges to ids
abbrev pub named : List JobId → List (Kind × ℕ) → List (Kind × JobId)
named ids edges = map (λ edge. (edge.0, name_at ids edge.1)) edges

-- the node of an id
abbrev pub node_of : List JobId → JobId → Job → JobNode
node_of ids id job = record { id = id; priority = job.priority; edges = named ids job.edges.items; processed = job.processed }

-- the nodes of the ids in the second list
abbrev pub nodes_held : List JobId → List JobId → List Job → List JobNode
nodes_held ids [] jobs = []
nodes_held ids (id ∷ rest) [] = []
nodes_held ids (id ∷ rest) (job ∷ jobs) = node_of ids id job ∷ nodes_held ids rest jobs

-- nodes with how far each has come
abbrev pub marked : List JobNode → List Progress → List GraphJob
marked [] progress = []
marked (node ∷ nodes) [] = []
marked (node ∷ nodes) (p ∷ progress) = record { node = node; progress = p } ∷ marked nodes progress

-- the places that a job leads to
abbrev pub targets_in : List (Kind × ℕ) → List ℕ
targets_in edges = map (λ edge. edge.1) edges

-- those of them that it waits for
abbrev pub waits_in : Bool → List (Kind × ℕ) → List ℕ
waits_in processed [] = []
waits_in processed (edge ∷ edges) = cond (waits_for edge.0 processed) (edge.1 ∷ waits_in processed edges) (waits_in processed edges)

abbrev pub all_targets : List Job → List (List ℕ)
all_targets jobs = map (λ job. targets_in job.edges.items) jobs

abbrev pub all_waits : List Job → List (List ℕ)
all_waits jobs = map (λ job. waits_in job.processed job.edges.items) jobs

-- how many of the places have a job that isn't settled
abbrev pub open_count : List Progress → List ℕ → ℕ
open_count progress [] = 0
open_count progress (i ∷ places) = cond (has_settled (slice_index_or progress i Pending)) (open_count progress places) (1 + open_count progress places)

abbrev pub is_pending : Progress → Bool
is_pending Pending = true
is_pending Issued = false
is_pending Settled = false

-- a job of this progress that waits for so many can be issued
abbrev pub can_start : Progress → ℕ → Bool
can_start progress waiting = is_pending progress && waiting == 0

-- those take part that can start
pub record MatchesWaits (progress : List Progress) (waiting : List ℕ) (entered : List Bool) : Type 0 where
  pub places : length entered ≡ length waiting
  pub each : (i : ℕ) → i < length waiting → slice_index_or entered i false ≡ can_start (slice_index_or progress i Pending) (slice_index waiting i)

-- each edge leads to a place
abbrev pub EdgesWithin : ℕ → List Job → Type 0
EdgesWithin n jobs = All (λ job. All (λ edge. edge.1 < n) job.edges.items) jobs

-- what doesn't change: the ids rise, each edge leads to one, and cycles and dependents are told of the edges
pub record IsPlan (ids : List JobId) (jobs : List Job) (dependents : List (List ℕ)) (cyclic : List Bool) : Type 0 where
  pub rises : IsStrictlySortedBy job_cmp ids
  pub places : length jobs ≡ length ids
  pub within : EdgesWithin (length ids) jobs
  pub reversed : IsReverse (all_waits jobs) dependents
  pub cycles : TellsCycles (all_targets jobs) cyclic

-- what changes: for each job how many of those that it waits for aren't settled, and whether it can be issued
pub record IsCount (jobs : List Job) (progress : List Progress) (waiting : List ℕ) (ready : Contest) : Type 0 where
  pub progressed : length progress ≡ length jobs
  pub counted : length waiting ≡ length jobs
  pub waits : (i : ℕ) → i < length jobs → slice_index waiting i ≡ open_count progress (row_at (all_waits jobs) i)
  pub priorities : ready.priorities ≡ map (λ job. job.priority) jobs
  pub matches : MatchesWaits progress waiting ready.entered
