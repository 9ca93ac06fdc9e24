-- Jobs stay in a graph, and how a list of nodes is seen to make one.
use Rattle.std.proofs.Common.{◌≡◌, ◌+◌, ℕ, Bool, true, false, cond, List, [], ◌∷◌, length, map, get_or, Contains, Some, Result, Ok, Err, refl, sym, ◌∙◌, ap, arith, add-one, inl, inr, ◌⊎◌}
use Rattle.std.specs.Prelude.{is_some, is_ok}
use Rattle.std.specs.List.{find, AllByRecursion, AllAdjacentBelow, IsDistinct}
use Rattle.std.specs.List.Sorted.{IsStrictlySortedBy, IsBinarySearchResult, IsSearchInRange}
use Rattle.std.specs.declared.cmp.Ordering.TheVariants.{Less}
use Rattle.std.specs.Ordering.{is_eq}
use Rattle.std.proofs.lemmas.Bool.{true≢false}
use Rattle.std.proofs.lemmas.List.{get_or_default}
use Rattle.ap_text.specs.declared.job_id.JobId.{JobId}
use Rattle.ap_graph.specs.declared.node.JobNode.{JobNode}
use Rattle.ap_graph.specs.declared.node.Progress.{Progress}
use Rattle.ap_text.specs.JobOrder.{job_cmp, same_job}
use Rattle.ap_graph.specs.Nodes.{node_cmp, is_node, HasDistinctIds}
use Rattle.ap_graph.specs.Jobs.{GraphJob, job_at, is_job, with_progress, AreNew}
use Rattle.ap_text.proofs.Members.{Contains-none, Contains-cons_cases, Contains-map_cases, AllByRecursion-from}
use Rattle.ap_graph.proofs.IdOrder.{node_total, same_job-itself}

is_job-with_progress : (id : JobId) (p : Progress) (jobs : List GraphJob) (x : JobId) → is_job (with_progress id p jobs) x ≡ is_job jobs x
is_job-with_progress id p [] x = refl
is_job-with_progress id p (job ∷ jobs) x = by_case (same_job job.node.id id) (is_job-with_progress id p jobs x)
  where
    by_case : (t : Bool) → is_job (with_progress id p jobs) x ≡ is_job jobs x →
        is_some (find (λ job. same_job job.node.id x) (cond t (record job { progress = p }) job ∷ with_progress id p jobs)) ≡ is_some (find (λ job. same_job job.node.id x) (job ∷ jobs))
    by_case true h = at_head (same_job job.node.id x) (record job { progress = p }) job h
      where
        at_head : (s : Bool) (one other : GraphJob) → is_job (with_progress id p jobs) x ≡ is_job jobs x → is_some (cond s (Some one) (job_at (with_progress id p jobs) x)) ≡ is_some (cond s (Some other) (job_at jobs x))
        at_head true one other h = refl
        at_head false one other h = h
    by_case false h = at_head (same_job job.node.id x) job job h
      where
        at_head : (s : Bool) (one other : GraphJob) → is_job (with_progress id p jobs) x ≡ is_job jobs x → is_some (cond s (Some one) (job_at (with_progress id p jobs) x)) ≡ is_some (cond s (Some other) (job_at jobs x))
        at_head true one other h = refl
        at_head false one other h = h

-- who is in the graph is in it after a change
pub known_after : (nodes : List JobNode) (jobs jobs' : List GraphJob) (id : JobId) (p : Progress) → jobs' ≡ with_progress id p jobs →
    AllByRecursion (λ node. is_job jobs node.id ≡ true) nodes → AllByRecursion (λ node. is_job jobs' node.id ≡ true) nodes
known_after [] jobs jobs' id p is known = tt
known_after (node ∷ nodes) jobs jobs' id p is known =
    (ap (λ (l : List GraphJob). is_job l node.id) is ∙ is_job-with_progress id p jobs node.id ∙ known.0, known_after nodes jobs jobs' id p is known.1)

-- one that passes is found
finds : {X : Type 0} (test : X → Bool) (xs : List X) (x : X) → Contains xs x → test x ≡ true → is_some (find test xs) ≡ true
finds test [] x has passes = absurd (Contains-none x has)
finds test (y ∷ ys) x has passes = by_case (test y) refl (finds test ys x) (Contains-cons_cases y ys x has)
  where
    by_case : (t : Bool) → test y ≡ t → (Contains ys x → test x ≡ true → is_some (find test ys) ≡ true) → (y ≡ x) ⊎ Contains ys x → is_some (cond t (Some y) (find test ys)) ≡ true
    by_case true e later which = refl
    by_case false e later (inl same) = absurd (true≢false (sym passes ∙ ap test (sym same) ∙ e))
    by_case false e later (inr rest) = later rest passes

-- all nodes of a new graph are in it
pub new_known : (nodes : List JobNode) (jobs : List GraphJob) → AreNew nodes jobs → AllByRecursion (λ node. is_job jobs node.id ≡ true) nodes
new_known nodes jobs new = AllByRecursion-from (λ (node : JobNode). is_job jobs node.id ≡ true) nodes
    (λ node has. let r = Contains-map_cases (λ (job : GraphJob). job.node) jobs node ((new.lists.holds node).1 has) in
    finds (λ job. same_job job.node.id node.id) jobs r.0 r.1 (ap (λ (w : JobNode). same_job w.id node.id) r.2 ∙ same_job-itself node.id))

-- neighbours that rise make a list that rises
all_after : (a b : JobNode) (nodes : List JobNode) → node_cmp a b ≡ Less → AllByRecursion (λ w. node_cmp b w ≡ Less) nodes → AllByRecursion (λ w. node_cmp a w ≡ Less) nodes
all_after a b [] less after = tt
all_after a b (c ∷ nodes) less after = (node_total.trans a b c less after.0, all_after a b nodes less after.1)

pub adjacent_rises : (nodes : List JobNode) → AllAdjacentBelow (λ a b. node_cmp a b ≡ Less) nodes (length nodes) → IsStrictlySortedBy node_cmp nodes
unfolding IsStrictlySortedBy
adjacent_rises [] rise = tt
adjacent_rises (a ∷ []) rise = (tt, tt)
adjacent_rises (a ∷ b ∷ rest) rise =
    let after : IsStrictlySortedBy node_cmp (b ∷ rest) = adjacent_rises (b ∷ rest) (λ k d within. at_next k d (rise (k + 1) d (omega arith))) in
    let less : node_cmp a b ≡ Less = rise 0 a (omega arith) in
    ((less, all_after a b rest less after.0), after)
  where
    next_of : (i : ℕ) (d : JobNode) → get_or (a ∷ b ∷ rest) (i + 1) d ≡ get_or (b ∷ rest) i d
    next_of i d = rw (add-one i) refl

    at_next : (k : ℕ) (d : JobNode) → node_cmp (get_or (a ∷ b ∷ rest) (k + 1) d) (get_or (a ∷ b ∷ rest) (k + 1 + 1) d) ≡ Less → node_cmp (get_or (b ∷ rest) k d) (get_or (b ∷ rest) (k + 1) d) ≡ Less
    at_next k d h = rw (next_of k d, next_of (k + 1) d) at h

pub rises_distinct : (nodes : List JobNode) → IsStrictlySortedBy node_cmp nodes → HasDistinctIds nodes
unfolding IsStrictlySortedBy IsDistinct
rises_distinct [] rises = tt
rises_distinct (node ∷ nodes) rises = (all_differ nodes rises.0, rises_distinct nodes rises.1)
  where
    all_differ : (others : List JobNode) → AllByRecursion (λ w. node_cmp node w ≡ Less) others → AllByRecursion (λ w. same_job node.id w ≡ false) (map (λ other. other.id) others)
    all_differ [] h = tt
    all_differ (other ∷ others) h = (ap is_eq h.0, all_differ others h.1)

-- what a search finds is a node
pub found_is_node : (nodes : List JobNode) (id : JobId) (r : Result ℕ ℕ) → IsBinarySearchResult (λ node. job_cmp node.id id) nodes r → IsSearchInRange r (length nodes) → is_ok r ≡ true → is_node nodes id ≡ true
found_is_node [] id (Ok i) searched inside h = absurd (omega arith)
found_is_node (node ∷ nodes) id (Ok i) searched inside h = finds (λ other. same_job other.id id) (node ∷ nodes) (get_or (node ∷ nodes) i node) (i, inside, get_or_default (node ∷ nodes) i (get_or (node ∷ nodes) i node) node inside) (ap is_eq (searched node))
found_is_node nodes id (Err i) searched inside h = absurd (true≢false (sym h))
