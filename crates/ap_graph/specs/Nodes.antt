-- The nodes of the graph, and its cycles.
use Rattle.std.specs.Prelude.{◌≡◌, Bool, true, List, [], map, find, Option, Some, None, is_some}
use Rattle.std.specs.List.{IsDistinct, AllByRecursion}
use Rattle.std.specs.declared.cmp.Ordering.{Ordering}
use Rattle.ap_text.specs.declared.job_id.JobId.{JobId}
use Rattle.ap_graph.specs.declared.node.JobNode.{JobNode}
use Rattle.ap_text.specs.JobOrder.{job_cmp, same_job}
use Rattle.ap_text.specs.Chain.{Chain}

-- the node of an id
abbrev pub node_at : List JobNode → JobId → Option JobNode
node_at nodes id = find (λ node. same_job node.id id) nodes

-- some node has this id
abbrev pub is_node : List JobNode → JobId → Bool
is_node nodes id = is_some (node_at nodes id)

-- no two nodes have one id
abbrev pub HasDistinctIds : List JobNode → Type 0
HasDistinctIds nodes = IsDistinct same_job (map (λ node. node.id) nodes)

-- each edge leads to a node
abbrev pub IsResolved : List JobNode → Type 0
IsResolved nodes = AllByRecursion (λ node. AllByRecursion (λ edge. is_node nodes edge.1 ≡ true) node.edges) nodes

-- where a node leads
abbrev pub targets_of : Option JobNode → List JobId
targets_of None = []
targets_of (Some node) = map (λ edge. edge.1) node.edges

-- the jobs that a job depends on, in any way
abbrev pub edges : List JobNode → JobId → List JobId
edges nodes id = targets_of (node_at nodes id)

-- a chain of one or more edges leads from the job to itself
abbrev pub IsOnCycle : List JobNode → JobId → Type 0
IsOnCycle nodes id = Chain (edges nodes) id id

-- the order of nodes: by id
abbrev pub node_cmp : JobNode → JobNode → Ordering
node_cmp a b = job_cmp a.id b.id
