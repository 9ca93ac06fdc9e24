-- A graph keeps its nodes by places: what is told of ids, told of places.
use Rattle.std.proofs.Common.{◌≡◌, ◌≢◌, ◌<◌, ◌+◌, ◌==◌, ◌||◌, ◌&&◌, ◌↔◌, ℕ, zero, suc, ℤ, pos, Bool, true, false, not, cond, List, [], ◌∷◌, ◌++◌, length, map, set, get_or, take, Contains, Some, Bor, refl, sym, ◌∙◌, ap, subst, arith, inl, inr, ◌⊎◌, ⊎_elim, All, length-set}
use Rattle.std.specs.List.{find, list_all}
use Rattle.std.specs.Prelude.{is_some, nat_lt}
use Rattle.std.specs.List.Sorted.{IsSortedBy, IsStrictlySortedBy}
use Rattle.std.specs.declared.cmp.Ordering.{Ordering}
use Rattle.std.specs.declared.cmp.Ordering.TheVariants.{Less, Equal, Greater}
use Rattle.std.specs.Ordering.{int_cmp, nat_cmp, ordering_then, ordering_reverse}
use Rattle.std.proofs.lemmas.Cmp.{tied_itself, nat_cmp_total}
use Rattle.std.proofs.lemmas.Bool.{true≢false, cases_order, cases_eq, lt-ltb, ne_eqb, cond-true, cond-false}
use Rattle.std.proofs.lemmas.List.{get_or_default, get_or-map, length-map, get_or-set_same, get_or-set_other, take_more, map_push, same_lists, length-take, append-nil}
use Rattle.std.proofs.lemmas.List.Elements.{All-tail, All-contains, All-push}
use Rattle.ap_text.specs.declared.job_id.JobId.{JobId}
use Rattle.ap_graph.specs.declared.node.JobNode.{JobNode}
use Rattle.ap_graph.specs.declared.node.Progress.{Progress}
use Rattle.ap_graph.specs.declared.node.Progress.TheVariants.{Pending}
use Rattle.ap_graph.specs.declared.job.Job.{Job}
use Rattle.ap_text.specs.Chain.{Chain, step, through}
use Rattle.ap_text.specs.JobOrder.{job_cmp, same_job, job_total}
use Rattle.ap_graph.specs.Ids.{nobody, name_at}
use Rattle.ap_rows.specs.declared.job.DepKind.TheVariants.{Order}
use Rattle.ap_graph.specs.Waits.{Kind, waits_for}
use Rattle.ap_graph.specs.Rows.{row_at}
use Rattle.ap_graph.specs.Nodes.{node_at, targets_of, edges, IsOnCycle}
use Rattle.ap_graph.specs.Jobs.{GraphJob, nodes_of, job_at, is_job, has_settled, has_settled_at, is_settled, state_by, state_at, state_of, with_progress, issue_cmp}
use Rattle.ap_graph.specs.Held.{named, node_of, nodes_held, marked, targets_in, waits_in, all_targets, all_waits, open_count, EdgesWithin}
use Rattle.ap_graph.specs.Contest.{priority_at, contest_cmp}
use Rattle.ap_text.proofs.Members.{Contains-map, Contains-map_cases}
use Rattle.ap_graph.proofs.IdOrder.{same_job-Decides, same_job-itself, not_same_job, rises_at, one_place}

-- sorted by what a function gives is sorted once it is applied
pub sorted_map : {X Y : Type 0} (f : X → Y) (lt : Y → Y → Bool) (xs : List X) → IsSortedBy (λ a b. lt (f a) (f b)) xs → IsSortedBy lt (map f xs)
sorted_map f lt [] sorted k d low within = absurd (omega arith)
sorted_map f lt (x ∷ xs) sorted k d low within =
    let inside : k + 1 < length (x ∷ xs) = omega (arith, length-map (x ∷ xs) f) in
    ap (λ w. lt w (get_or (map f (x ∷ xs)) k d)) (get_or-map f (x ∷ xs) (k + 1) x d inside) ∙ ap (λ w. lt (f (get_or (x ∷ xs) (k + 1) x)) w) (get_or-map f (x ∷ xs) k x d (omega arith)) ∙ sorted k x low inside

-- what the graph keeps, with one node more
nodes_held-push : (ids rest : List JobId) (id : JobId) (jobs : List Job) (job : Job) → length rest ≡ length jobs → nodes_held ids (rest ++ id ∷ []) (jobs ++ job ∷ []) ≡ nodes_held ids rest jobs ++ node_of ids id job ∷ []
nodes_held-push ids [] id [] job same = refl
nodes_held-push ids [] id (other ∷ jobs) job same = absurd (omega arith)
nodes_held-push ids (first ∷ rest) id [] job same = absurd (omega arith)
nodes_held-push ids (first ∷ rest) id (other ∷ jobs) job same = ap (λ (l : List JobNode). node_of ids first other ∷ l) (nodes_held-push ids rest id jobs job (omega arith))

pub node_path : (ids : List JobId) (node : JobNode) (job : Job) → job.priority ≡ node.priority → job.processed ≡ node.processed → named ids job.edges.items ≡ node.edges → node_of ids node.id job ≡ node
node_path ids node job p q e = λ i. record { id = node.id; priority = p i; edges = e i; processed = q i }

pub resolved_more : (ids : List JobId) (nodes : List (Bor JobNode)) (i : ℕ) (node : Bor JobNode) (jobs jobs' : List Job) (job : Job) → ids ≡ map (λ node. node.now.id) nodes → i < length nodes →
    node ≡ get_or nodes i node → jobs' ≡ jobs ++ job ∷ [] → node_of ids node.now.id job ≡ node.now → length jobs ≡ i →
    nodes_held ids (take i ids) jobs ≡ map (λ node. node.now) (take i nodes) → nodes_held ids (take (i + 1) ids) jobs' ≡ map (λ node. node.now) (take (i + 1) nodes)
resolved_more ids nodes i node jobs jobs' job are within read pushed is places so_far =
    let inside : i < length ids = omega (arith, ap length are, length-map nodes (λ (node : Bor JobNode). node.now.id)) in
    let name : get_or ids i node.now.id ≡ node.now.id = ap (λ (l : List JobId). get_or l i node.now.id) are ∙ get_or-map (λ (node : Bor JobNode). node.now.id) nodes i node node.now.id within ∙ ap (λ (w : Bor JobNode). w.now.id) (sym read) in
    let more_ids : take (i + 1) ids ≡ take i ids ++ node.now.id ∷ [] = take_more ids i node.now.id inside ∙ ap (λ (w : JobId). take i ids ++ w ∷ []) name in
    let more_nodes : take (i + 1) nodes ≡ take i nodes ++ node ∷ [] = take_more nodes i node within ∙ ap (λ (w : Bor JobNode). take i nodes ++ w ∷ []) (sym read) in
    ap (λ (l : List JobId). nodes_held ids l jobs') more_ids ∙ ap (λ (l : List Job). nodes_held ids (take i ids ++ node.now.id ∷ []) l) pushed
    ∙ nodes_held-push ids (take i ids) node.now.id jobs job (omega (arith, length-take i ids, places))
    ∙ ap (λ (l : List JobNode). l ++ node_of ids node.now.id job ∷ []) so_far ∙ ap (λ (w : JobNode). map (λ node. node.now) (take i nodes) ++ w ∷ []) is
    ∙ sym (map_push (λ (node : Bor JobNode). node.now) (take i nodes) node) ∙ ap (map (λ node. node.now)) (sym more_nodes)

pub edges_pushed : (n : ℕ) (jobs jobs' : List Job) (job : Job) → jobs' ≡ jobs ++ job ∷ [] → EdgesWithin n jobs → All (λ edge. edge.1 < n) job.edges.items → EdgesWithin n jobs'
edges_pushed n jobs jobs' job pushed within one = subst (λ (l : List Job). EdgesWithin n l) (sym pushed) (All-push (λ (job : Job). All (λ edge. edge.1 < n) job.edges.items) jobs job within one)

-- what a loop reads of edges
abbrev pub edge_in : List (Kind × ℕ) → ℕ → Kind × ℕ
edge_in edges i = get_or edges i (Order, 0)

pub edge_read : (edges : List (Kind × ℕ)) (i : ℕ) → i < length edges → edge_in edges i ≡ get_or edges i (edge_in edges i)
edge_read edges i within = get_or_default edges i (Order, 0) (edge_in edges i) within

-- one edge more is waited for, or not
waits_in-push : (processed : Bool) (edges : List (Kind × ℕ)) (edge : Kind × ℕ) → waits_in processed (edges ++ edge ∷ []) ≡ waits_in processed edges ++ cond (waits_for edge.0 processed) (edge.1 ∷ []) []
waits_in-push processed [] edge = refl
waits_in-push processed (first ∷ edges) edge = by_case (waits_for first.0 processed) (waits_in-push processed edges edge)
  where
    by_case : (t : Bool) → waits_in processed (edges ++ edge ∷ []) ≡ waits_in processed edges ++ cond (waits_for edge.0 processed) (edge.1 ∷ []) [] →
        cond t (first.1 ∷ waits_in processed (edges ++ edge ∷ [])) (waits_in processed (edges ++ edge ∷ [])) ≡ cond t (first.1 ∷ waits_in processed edges) (waits_in processed edges) ++ cond (waits_for edge.0 processed) (edge.1 ∷ []) []
    by_case true h = ap (λ (l : List ℕ). first.1 ∷ l) h
    by_case false h = h

pub waited_more : (processed : Bool) (edges : List (Kind × ℕ)) (i : ℕ) (edge : Kind × ℕ) (waited waited' : List ℕ) → i < length edges → edge ≡ get_or edges i edge → waits_for edge.0 processed ≡ true →
    waited' ≡ waited ++ edge.1 ∷ [] → waited ≡ waits_in processed (take i edges) → waited' ≡ waits_in processed (take (i + 1) edges)
waited_more processed edges i edge waited waited' within read told pushed so_far =
    pushed ∙ ap (λ (l : List ℕ). l ++ edge.1 ∷ []) so_far ∙ ap (λ (t : Bool). waits_in processed (take i edges) ++ cond t (edge.1 ∷ []) []) (sym told) ∙ sym (waits_in-push processed (take i edges) edge)
    ∙ ap (waits_in processed) (ap (λ (e : Kind × ℕ). take i edges ++ e ∷ []) read ∙ sym (take_more edges i edge within))

pub waited_same : (processed : Bool) (edges : List (Kind × ℕ)) (i : ℕ) (edge : Kind × ℕ) (waited : List ℕ) → i < length edges → edge ≡ get_or edges i edge → waits_for edge.0 processed ≡ false →
    waited ≡ waits_in processed (take i edges) → waited ≡ waits_in processed (take (i + 1) edges)
waited_same processed edges i edge waited within read told so_far =
    so_far ∙ sym (append-nil (waits_in processed (take i edges))) ∙ ap (λ (t : Bool). waits_in processed (take i edges) ++ cond t (edge.1 ∷ []) []) (sym told) ∙ sym (waits_in-push processed (take i edges) edge)
    ∙ ap (waits_in processed) (ap (λ (e : Kind × ℕ). take i edges ++ e ∷ []) read ∙ sym (take_more edges i edge within))

module _ (ids : List JobId) where
  -- the job at a place
  abbrev pub job_of : JobId → Job → Progress → GraphJob
  job_of id job p = record { node = node_of ids id job; progress = p }

  pub length-marked : (rest : List JobId) (jobs : List Job) (progress : List Progress) → length rest ≡ length jobs → length progress ≡ length jobs → length (marked (nodes_held ids rest jobs) progress) ≡ length jobs
  length-marked [] jobs progress same known = same
  length-marked (id ∷ rest) [] progress same known = absurd (omega arith)
  length-marked (id ∷ rest) (job ∷ jobs) [] same known = absurd (omega arith)
  length-marked (id ∷ rest) (job ∷ jobs) (p ∷ progress) same known = omega (arith, length-marked rest jobs progress (omega arith) (omega arith))

  pub marked_at : (rest : List JobId) (jobs : List Job) (progress : List Progress) (i : ℕ) (d : GraphJob) (j : Job) → length rest ≡ length jobs → length progress ≡ length jobs → i < length jobs →
      get_or (marked (nodes_held ids rest jobs) progress) i d ≡ job_of (get_or rest i nobody) (get_or jobs i j) (get_or progress i Pending)
  marked_at [] jobs progress i d j same known within = absurd (omega arith)
  marked_at (id ∷ rest) [] progress i d j same known within = absurd (omega arith)
  marked_at (id ∷ rest) (job ∷ jobs) [] i d j same known within = absurd (omega arith)
  marked_at (id ∷ rest) (job ∷ jobs) (p ∷ progress) zero d j same known within = refl
  marked_at (id ∷ rest) (job ∷ jobs) (p ∷ progress) (suc i) d j same known within = marked_at rest jobs progress i d j (omega arith) (omega arith) (omega arith)

  pub nodes_of-marked : (rest : List JobId) (jobs : List Job) (progress : List Progress) → length rest ≡ length jobs → length progress ≡ length jobs → nodes_of (marked (nodes_held ids rest jobs) progress) ≡ nodes_held ids rest jobs
  nodes_of-marked [] jobs progress same known = refl
  nodes_of-marked (id ∷ rest) [] progress same known = refl
  nodes_of-marked (id ∷ rest) (job ∷ jobs) [] same known = absurd (omega arith)
  nodes_of-marked (id ∷ rest) (job ∷ jobs) (p ∷ progress) same known = ap (λ (l : List JobNode). node_of ids id job ∷ l) (nodes_of-marked rest jobs progress (omega arith) (omega arith))

-- the first that passes
find_at : {X : Type 0} (test : X → Bool) (xs : List X) (i : ℕ) (d : X) → i < length xs → ((k : ℕ) → k < i → test (get_or xs k d) ≡ false) → test (get_or xs i d) ≡ true → find test xs ≡ Some (get_or xs i d)
find_at test [] i d within before here = absurd (omega arith)
find_at test (x ∷ xs) zero d within before here = cond-true (test x) (Some x) (find test xs) here
find_at test (x ∷ xs) (suc i) d within before here = cond-false (test x) (Some x) (find test xs) (before 0 (omega arith)) ∙ find_at test xs i d (omega arith) (λ k low. before (suc k) (omega arith)) here

-- one that passes
found_by : {X : Type 0} (test : X → Bool) (xs : List X) (d : X) → is_some (find test xs) ≡ true → (k : ℕ) × (k < length xs) × (test (get_or xs k d) ≡ true)
found_by test [] d h = absurd (true≢false (sym h))
found_by test (x ∷ xs) d h = by_case (test x) refl (found_by test xs d) h
  where
    by_case : (t : Bool) → test x ≡ t → (is_some (find test xs) ≡ true → (k : ℕ) × (k < length xs) × (test (get_or xs k d) ≡ true)) → is_some (cond t (Some x) (find test xs)) ≡ true →
        (k : ℕ) × (k < length (x ∷ xs)) × (test (get_or (x ∷ xs) k d) ≡ true)
    by_case true e later h = (0, omega arith, e)
    by_case false e later h = let r = later h in (suc r.0, omega (arith, r.1), r.2)

module _ (ids : List JobId) (jobs : List Job) (progress : List Progress) (rises : IsStrictlySortedBy job_cmp ids) (places : length jobs ≡ length ids) (known : length progress ≡ length jobs) (no_job : Job) where
  -- what contracts see
  abbrev pub view : List GraphJob
  view = marked (nodes_held ids ids jobs) progress

  abbrev pub at : ℕ → GraphJob
  at i = job_of ids (name_at ids i) (get_or jobs i no_job) (get_or progress i Pending)

  pub view_at : (i : ℕ) (d : GraphJob) → i < length ids → get_or view i d ≡ at i
  view_at i d within = marked_at ids ids jobs progress i d no_job (sym places) known (omega (arith, places))

  pub length-view : length view ≡ length ids
  length-view = length-marked ids ids jobs progress (sym places) known ∙ places

  pub names_differ : (k i : ℕ) → k < length ids → i < length ids → k ≢ i → same_job (name_at ids k) (name_at ids i) ≡ false
  names_differ k i in_k in_i differs = not_same_job (name_at ids k) (name_at ids i) (λ e. differs (one_place ids rises k i in_k in_i e))

  pub job_at_place : (i : ℕ) → i < length ids → job_at view (name_at ids i) ≡ Some (at i)
  job_at_place i within =
      let d : GraphJob = at i in
      find_at (λ job. same_job job.node.id (name_at ids i)) view i (at i) (omega (arith, length-view))
      (λ k low. ap (λ (w : GraphJob). same_job w.node.id (name_at ids i)) (view_at k (at i) (omega arith)) ∙ names_differ k i (omega arith) within (λ e. omega arith))
      (ap (λ (w : GraphJob). same_job w.node.id (name_at ids i)) (view_at i (at i) within) ∙ same_job-itself (name_at ids i))
      ∙ ap Some (view_at i (at i) within)

  -- an id of the graph has a place
  pub has_place : (id : JobId) → is_job view id ≡ true → Contains ids id
  has_place id h =
      let r = found_by (λ job. same_job job.node.id id) view (at 0) h in
      let within : r.0 < length ids = omega (arith, r.1, length-view) in
      let is : name_at ids r.0 ≡ id = (same_job-Decides (name_at ids r.0) id).0 (ap (λ (w : GraphJob). same_job w.node.id id) (sym (view_at r.0 (at 0) within)) ∙ r.2) in
      (r.0, within, get_or_default ids r.0 id nobody within ∙ is)

  pub settled_at : (i : ℕ) → i < length ids → is_settled view (name_at ids i) ≡ has_settled (get_or progress i Pending)
  settled_at i within = ap has_settled_at (job_at_place i within)

  -- a job is free where none that it waits for is open
  free_by : (processed : Bool) (edges : List (Kind × ℕ)) → All (λ edge. edge.1 < length ids) edges →
      list_all (λ edge. not (waits_for edge.0 processed) || is_settled view edge.1) (named ids edges) ≡ (open_count progress (waits_in processed edges) == 0)
  free_by processed [] within = refl
  free_by processed (edge ∷ edges) within =
      by_case (waits_for edge.0 processed) (has_settled (get_or progress edge.1 Pending)) refl (settled_at edge.1 (within 0 edge (omega arith))) (free_by processed edges (All-tail (λ edge. edge.1 < length ids) edge edges within))
    where
      by_case : (w s : Bool) → has_settled (get_or progress edge.1 Pending) ≡ s → is_settled view (name_at ids edge.1) ≡ s →
          list_all (λ edge. not (waits_for edge.0 processed) || is_settled view edge.1) (named ids edges) ≡ (open_count progress (waits_in processed edges) == 0) →
          ((not w || is_settled view (name_at ids edge.1)) && list_all (λ edge. not (waits_for edge.0 processed) || is_settled view edge.1) (named ids edges))
          ≡ (open_count progress (cond w (edge.1 ∷ waits_in processed edges) (waits_in processed edges)) == 0)
      by_case false s h e rest = rest
      by_case true true h e rest =
          let left : Bool = list_all (λ edge. not (waits_for edge.0 processed) || is_settled view edge.1) (named ids edges) in
          let still : ℕ = open_count progress (waits_in processed edges) in
          ap (λ (t : Bool). t && left) e ∙ rest ∙ ap (λ (t : Bool). cond t still (1 + still) == 0) (sym h)
      by_case true false h e rest =
          let left : Bool = list_all (λ edge. not (waits_for edge.0 processed) || is_settled view edge.1) (named ids edges) in
          let still : ℕ = open_count progress (waits_in processed edges) in
          ap (λ (t : Bool). t && left) e ∙ sym (ne_eqb (1 + still) 0 (λ e. omega arith)) ∙ ap (λ (t : Bool). cond t still (1 + still) == 0) (sym h)

  pub waits_at : (i : ℕ) → i < length ids → row_at (all_waits jobs) i ≡ waits_in (get_or jobs i no_job).processed (get_or jobs i no_job).edges.items
  waits_at i within = get_or-map (λ (job : Job). waits_in job.processed job.edges.items) jobs i no_job [] (omega (arith, places))

  pub state_at_place : (i : ℕ) → i < length ids → EdgesWithin (length ids) jobs → state_of view (name_at ids i) ≡ state_by (get_or progress i Pending) (open_count progress (row_at (all_waits jobs) i) == 0)
  state_at_place i within edges_in =
      ap (state_at view) (job_at_place i within)
      ∙ ap (state_by (get_or progress i Pending)) (free_by (get_or jobs i no_job).processed (get_or jobs i no_job).edges.items (edges_in i no_job (omega (arith, places)))
      ∙ ap (λ (row : List ℕ). open_count progress row == 0) (sym (waits_at i within)))

  pub with_progress_at : (i : ℕ) (p : Progress) → i < length ids → with_progress (name_at ids i) p view ≡ marked (nodes_held ids ids jobs) (set progress i p)
  with_progress_at i p within = same_lists (with_progress (name_at ids i) p view) (marked (nodes_held ids ids jobs) (set progress i p)) (omega (arith, first, length-view, second, places))
      (λ k d inside. by_place k d (omega (arith, first, length-view)) (cases_eq k i))
    where
      change : GraphJob → GraphJob
      change = λ job. cond (same_job job.node.id (name_at ids i)) (record job { progress = p }) job

      first : length (with_progress (name_at ids i) p view) ≡ length view
      first = length-map view (λ (job : GraphJob). cond (same_job job.node.id (name_at ids i)) (record job { progress = p }) job)

      known' : length (set progress i p) ≡ length jobs
      known' = length-set progress i p ∙ known

      second : length (marked (nodes_held ids ids jobs) (set progress i p)) ≡ length jobs
      second = length-marked ids ids jobs (set progress i p) (sym places) known'

      by_place : (k : ℕ) (d : GraphJob) → k < length ids → (k ≡ i) ⊎ (k ≡ i → ⊥) → get_or (with_progress (name_at ids i) p view) k d ≡ get_or (marked (nodes_held ids ids jobs) (set progress i p)) k d
      by_place k d inside which =
          get_or-map (λ (job : GraphJob). cond (same_job job.node.id (name_at ids i)) (record job { progress = p }) job) view k d d (omega (arith, length-view))
          ∙ ap (λ (job : GraphJob). cond (same_job job.node.id (name_at ids i)) (record job { progress = p }) job) (view_at k d inside)
          ∙ changed which
          ∙ sym (marked_at ids ids jobs (set progress i p) k d no_job (sym places) known' (omega (arith, places)))
        where
          changed : (k ≡ i) ⊎ (k ≡ i → ⊥) →
              cond (same_job (name_at ids k) (name_at ids i)) (job_of ids (name_at ids k) (get_or jobs k no_job) p) (job_of ids (name_at ids k) (get_or jobs k no_job) (get_or progress k Pending))
              ≡ job_of ids (name_at ids k) (get_or jobs k no_job) (get_or (set progress i p) k Pending)
          changed (inl e) =
              cond-true (same_job (name_at ids k) (name_at ids i)) (job_of ids (name_at ids k) (get_or jobs k no_job) p) (job_of ids (name_at ids k) (get_or jobs k no_job) (get_or progress k Pending))
              (subst (λ (w : ℕ). same_job (name_at ids w) (name_at ids i) ≡ true) (sym e) (same_job-itself (name_at ids i)))
              ∙ ap (λ (q : Progress). job_of ids (name_at ids k) (get_or jobs k no_job) q) (sym (ap (λ (w : ℕ). get_or (set progress i p) w Pending) e ∙ get_or-set_same progress i p Pending (omega (arith, known, places))))
          changed (inr differs) =
              cond-false (same_job (name_at ids k) (name_at ids i)) (job_of ids (name_at ids k) (get_or jobs k no_job) p) (job_of ids (name_at ids k) (get_or jobs k no_job) (get_or progress k Pending))
              (names_differ k i inside within differs)
              ∙ ap (λ (q : Progress). job_of ids (name_at ids k) (get_or jobs k no_job) q) (sym (get_or-set_other progress i k p Pending differs))

  -- cycles
  nodes_at : (rest : List JobId) (held : List Job) (i : ℕ) (d : JobNode) → length rest ≡ length held → i < length held → get_or (nodes_held ids rest held) i d ≡ node_of ids (get_or rest i nobody) (get_or held i no_job)
  nodes_at [] held i d same within = absurd (omega arith)
  nodes_at (id ∷ rest) [] i d same within = absurd (omega arith)
  nodes_at (id ∷ rest) (job ∷ held) zero d same within = refl
  nodes_at (id ∷ rest) (job ∷ held) (suc i) d same within = nodes_at rest held i d (omega arith) (omega arith)

  length-nodes : (rest : List JobId) (held : List Job) → length rest ≡ length held → length (nodes_held ids rest held) ≡ length held
  length-nodes [] held same = same
  length-nodes (id ∷ rest) [] same = absurd (omega arith)
  length-nodes (id ∷ rest) (job ∷ held) same = omega (arith, length-nodes rest held (omega arith))

  node_at_place : (i : ℕ) → i < length ids → node_at (nodes_held ids ids jobs) (name_at ids i) ≡ Some (node_of ids (name_at ids i) (get_or jobs i no_job))
  node_at_place i within =
      let d : JobNode = node_of ids (name_at ids i) (get_or jobs i no_job) in
      find_at (λ node. same_job node.id (name_at ids i)) (nodes_held ids ids jobs) i (node_of ids (name_at ids i) (get_or jobs i no_job)) (omega (arith, length-nodes ids jobs (sym places), places))
      (λ k low. ap (λ (w : JobNode). same_job w.id (name_at ids i)) (nodes_at ids jobs k (node_of ids (name_at ids i) (get_or jobs i no_job)) (sym places) (omega (arith, places))) ∙ names_differ k i (omega arith) within (λ e. omega arith))
      (ap (λ (w : JobNode). same_job w.id (name_at ids i)) (nodes_at ids jobs i (node_of ids (name_at ids i) (get_or jobs i no_job)) (sym places) (omega (arith, places))) ∙ same_job-itself (name_at ids i))
      ∙ ap Some (nodes_at ids jobs i (node_of ids (name_at ids i) (get_or jobs i no_job)) (sym places) (omega (arith, places)))

  targets_named : (es : List (Kind × ℕ)) → map (λ edge. edge.1) (named ids es) ≡ map (name_at ids) (targets_in es)
  targets_named [] = refl
  targets_named (edge ∷ es) = ap (λ (l : List JobId). name_at ids edge.1 ∷ l) (targets_named es)

  pub targets_at : (i : ℕ) → i < length ids → row_at (all_targets jobs) i ≡ targets_in (get_or jobs i no_job).edges.items
  targets_at i within = get_or-map (λ (job : Job). targets_in job.edges.items) jobs i no_job [] (omega (arith, places))

  edges_at : (i : ℕ) → i < length ids → edges (nodes_held ids ids jobs) (name_at ids i) ≡ map (name_at ids) (row_at (all_targets jobs) i)
  edges_at i within = ap targets_of (node_at_place i within) ∙ targets_named (get_or jobs i no_job).edges.items ∙ ap (map (name_at ids)) (sym (targets_at i within))

  target_within : EdgesWithin (length ids) jobs → (i j : ℕ) → i < length ids → Contains (row_at (all_targets jobs) i) j → j < length ids
  target_within edges_in i j within arrow =
      let r = Contains-map_cases (λ (edge : Kind × ℕ). edge.1) (get_or jobs i no_job).edges.items j (subst (λ (l : List ℕ). Contains l j) (targets_at i within) arrow) in
      subst (λ (w : ℕ). w < length ids) r.2 (All-contains (λ (edge : Kind × ℕ). edge.1 < length ids) (get_or jobs i no_job).edges.items r.0 (edges_in i no_job (omega (arith, places))) r.1)

  chain_names : EdgesWithin (length ids) jobs → {i j : ℕ} → i < length ids → Chain (row_at (all_targets jobs)) i j → Chain (edges (nodes_held ids ids jobs)) (name_at ids i) (name_at ids j)
  chain_names edges_in {i = i} {j = j} within (step h) =
      step (subst (λ (l : List JobId). Contains l (name_at ids j)) (sym (edges_at i within)) (Contains-map (name_at ids) (row_at (all_targets jobs) i) j h))
  chain_names edges_in {i = i} within (through {b = k} h more) =
      through (subst (λ (l : List JobId). Contains l (name_at ids k)) (sym (edges_at i within)) (Contains-map (name_at ids) (row_at (all_targets jobs) i) k h))
      (chain_names edges_in (target_within edges_in i k within h) more)

  chain_places : EdgesWithin (length ids) jobs → {a b : JobId} → Chain (edges (nodes_held ids ids jobs)) a b → (i : ℕ) → i < length ids → a ≡ name_at ids i → (j : ℕ) × (j < length ids) × (b ≡ name_at ids j) × Chain (row_at (all_targets jobs)) i j
  chain_places edges_in {a = a} {b = b} (step h) i within is =
      let r = Contains-map_cases (name_at ids) (row_at (all_targets jobs) i) b (subst (λ (l : List JobId). Contains l b) (edges_at i within) (subst (λ (w : JobId). Contains (edges (nodes_held ids ids jobs) w) b) is h)) in
      (r.0, target_within edges_in i r.0 within r.1, sym r.2, step r.1)
  chain_places edges_in {a = a} (through {b = u} h more) i within is =
      let r = Contains-map_cases (name_at ids) (row_at (all_targets jobs) i) u (subst (λ (l : List JobId). Contains l u) (edges_at i within) (subst (λ (w : JobId). Contains (edges (nodes_held ids ids jobs) w) u) is h)) in
      let rest = chain_places edges_in more r.0 (target_within edges_in i r.0 within r.1) (sym r.2) in
      (rest.0, rest.1, rest.2, through r.1 rest.3)

  -- a job is on a cycle where its place is
  pub on_cycle_at : EdgesWithin (length ids) jobs → (i : ℕ) → i < length ids → Chain (row_at (all_targets jobs)) i i ↔ IsOnCycle (nodes_of view) (name_at ids i)
  on_cycle_at edges_in i within =
      let same : nodes_of view ≡ nodes_held ids ids jobs = nodes_of-marked ids ids jobs progress (sym places) known in (
        λ chain. subst (λ (l : List JobNode). IsOnCycle l (name_at ids i)) (sym same) (chain_names edges_in within chain),
        λ cycle. let r = chain_places edges_in (subst (λ (l : List JobNode). IsOnCycle l (name_at ids i)) same cycle) i within refl in
            subst (λ (w : ℕ). Chain (row_at (all_targets jobs)) i w) (sym (one_place ids rises i r.0 within r.1 r.2)) r.3,
      )

  -- the order of places is that of ids
  place_cmp : (a b : ℕ) → a < length ids → b < length ids → nat_cmp a b ≡ job_cmp (name_at ids a) (name_at ids b)
  place_cmp a b in_a in_b = ⊎_elim
      (λ e. ap (λ (w : ℕ). nat_cmp w b) e ∙ tied_itself nat_cmp_total b ∙ sym (ap (λ (w : ℕ). job_cmp (name_at ids w) (name_at ids b)) e ∙ tied_itself job_total (name_at ids b)))
      (⊎_elim (λ before. nat_less a b before ∙ sym (rises_at ids rises a b before in_b))
      (λ after. nat_more a b after ∙ sym (job_total.antisymm (name_at ids a) (name_at ids b) ∙ ap ordering_reverse (rises_at ids rises b a after in_a))))
      (cases_order a b)
    where
      nat_less : (m n : ℕ) → m < n → nat_cmp m n ≡ Less
      nat_less m n low = cond-true (nat_lt m n) Less (cond (m == n) Equal Greater) (lt-ltb m n low)

      nat_more : (m n : ℕ) → n < m → nat_cmp m n ≡ Greater
      nat_more m n low = nat_cmp_total.antisymm m n ∙ ap ordering_reverse (nat_less n m low)

  pub issue_order : (a b : ℕ) → a < length ids → b < length ids → issue_cmp (at a).node (at b).node ≡ contest_cmp (map (λ job. job.priority) jobs) a b
  issue_order a b in_a in_b =
      let pa : priority_at (map (λ job. job.priority) jobs) a ≡ (get_or jobs a no_job).priority = get_or-map (λ (job : Job). job.priority) jobs a no_job (pos 0) (omega (arith, places)) in
      let pb : priority_at (map (λ job. job.priority) jobs) b ≡ (get_or jobs b no_job).priority = get_or-map (λ (job : Job). job.priority) jobs b no_job (pos 0) (omega (arith, places)) in
      ap (λ (o : Ordering). ordering_then (int_cmp (get_or jobs b no_job).priority (get_or jobs a no_job).priority) o) (sym (place_cmp a b in_a in_b))
      ∙ sym (ap (λ (z : ℤ). ordering_then (int_cmp z (priority_at (map (λ job. job.priority) jobs) a)) (nat_cmp a b)) pb
      ∙ ap (λ (z : ℤ). ordering_then (int_cmp (get_or jobs b no_job).priority z) (nat_cmp a b)) pa)

  -- who is in the graph has a place
  pub place_of_job : (job : GraphJob) → Contains view job → (i : ℕ) × (i < length ids) × (job ≡ at i)
  place_of_job job has = (has.0, omega (arith, has.1, length-view), sym has.2 ∙ view_at has.0 job (omega (arith, has.1, length-view)))

  pub at_is_there : (i : ℕ) → i < length ids → Contains view (at i)
  at_is_there i within = (i, omega (arith, length-view), view_at i (at i) within)
