-- The places of ids in a list.
use Rattle.std.specs.Prelude.{List, Contains}
use Rattle.std.specs.List.{AllByRecursion}
use Rattle.ap_text.specs.declared.job_id.JobId.{JobId}
use Rattle.ap_graph.specs.Waits.{Kind}

-- each edge leads to an id of the list
abbrev pub HavePlaces : List JobId → List (Kind × JobId) → Type 0
HavePlaces ids edges = AllByRecursion (λ edge. Contains ids edge.1) edges
