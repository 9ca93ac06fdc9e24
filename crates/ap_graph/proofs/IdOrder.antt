-- Ids in order, and the places of ids in a list that rises.
use Rattle.std.proofs.Common.{◌≡◌, ◌≢◌, ◌<◌, ◌≤◌, ◌+◌, ℕ, zero, suc, Bool, true, false, cond, List, [], ◌∷◌, length, map, get_or, Contains, Decides, Ok, Err, Result, IsPermutation, refl, sym, ◌∙◌, ap, subst, arith, ⊎_elim, add-one, pos}
use Rattle.std.specs.List.{AllByRecursion, IsDistinct, count_by}
use Rattle.std.specs.List.Sorted.{IsSortedBy, IsStrictlySortedBy, IsBinarySearchResult}
use Rattle.std.specs.Cmp.{IsTotalOrder}
use Rattle.std.specs.Prelude.{is_ok}
use Rattle.std.specs.declared.cmp.Ordering.{Ordering}
use Rattle.std.specs.declared.cmp.Ordering.TheVariants.{Less, Equal, Greater}
use Rattle.std.specs.Ordering.{is_lt, is_eq, ordering_then, ordering_reverse}
use Rattle.std.proofs.lemmas.Cmp.{on_total, tied_itself}
use Rattle.std.proofs.lemmas.Bool.{true≢false, cases_order, cases_lt}
use Rattle.std.proofs.lemmas.List.{get_or_default, get_or-map, length-map}
use Rattle.std.proofs.lemmas.List.Sums.{sum_by-cons}
use Rattle.std.proofs.lemmas.List.Sorted.{searchable_from_sorted, sum_by-IsPermutation, IsPermutation-sym, IsPermutation-map, Contains-permutation}
use Rattle.std.proofs.lemmas.Slice.Eq.{bytes_eq-Decides}
use Rattle.std.proofs.lemmas.Map.Text.{is_eq-slice_cmp}
use Rattle.ap_text.specs.declared.job_id.JobId.{JobId}
use Rattle.ap_text.specs.Order.{bytes_cmp, Lists}
use Rattle.ap_graph.specs.declared.node.JobNode.{JobNode}
use Rattle.ap_text.specs.JobOrder.{job_cmp, same_job, job_total}
use Rattle.ap_graph.specs.Ids.{nobody, name_at}
use Rattle.ap_graph.specs.Nodes.{node_cmp, HasDistinctIds}
use Rattle.ap_text.proofs.Members.{AllByRecursion-at}

pub node_total : IsTotalOrder node_cmp
node_total = on_total (λ (a : JobNode). a.id) job_total

-- ids of one rank are one id
then_first : (x y : Ordering) → is_eq (ordering_then x y) ≡ true → is_eq x ≡ true
then_first Less y h = h
then_first Equal y h = refl
then_first Greater y h = h

then_second : (x y : Ordering) → is_eq (ordering_then x y) ≡ true → is_eq y ≡ true
then_second Less y h = absurd (true≢false (sym h))
then_second Equal y h = h
then_second Greater y h = absurd (true≢false (sym h))

bytes_same : (x y : List ℕ) → is_eq (bytes_cmp x y) ≡ true → x ≡ y
bytes_same x y h = (bytes_eq-Decides x y).0 (sym (is_eq-slice_cmp x y) ∙ h)

job_path : (a b : JobId) → a.source ≡ b.source → a.key ≡ b.key → a.platform ≡ b.platform → a ≡ b
job_path a b p q r = λ i. record { source = p i; key = q i; platform = r i }

pub same_job-Decides : (a b : JobId) → Decides (same_job a b) (a ≡ b)
same_job-Decides a b = (
  λ h. let rest = then_second (bytes_cmp a.source b.source) (ordering_then (bytes_cmp a.key b.key) (bytes_cmp a.platform b.platform)) h in
      job_path a b
      (bytes_same a.source b.source (then_first (bytes_cmp a.source b.source) (ordering_then (bytes_cmp a.key b.key) (bytes_cmp a.platform b.platform)) h))
      (bytes_same a.key b.key (then_first (bytes_cmp a.key b.key) (bytes_cmp a.platform b.platform) rest))
      (bytes_same a.platform b.platform (then_second (bytes_cmp a.key b.key) (bytes_cmp a.platform b.platform) rest)),
  λ e. subst (λ (w : JobId). same_job a w ≡ true) e (ap is_eq (tied_itself job_total a)),
)

pub same_job-itself : (a : JobId) → same_job a a ≡ true
same_job-itself a = (same_job-Decides a a).1 refl

pub not_same_job : (a b : JobId) → a ≢ b → same_job a b ≡ false
not_same_job a b differs = by_case (same_job a b) refl
  where
    by_case : (t : Bool) → same_job a b ≡ t → same_job a b ≡ false
    by_case true e = absurd (differs ((same_job-Decides a b).0 e))
    by_case false e = e

pub less_differs : (a b : JobId) → job_cmp a b ≡ Less → a ≢ b
less_differs a b less e =
    let tied : job_cmp a b ≡ Equal = ap (λ (w : JobId). job_cmp w b) e ∙ tied_itself job_total b in
    cc

-- of ids that rise an earlier one is less than a later one
pub rises_at : (ids : List JobId) → IsStrictlySortedBy job_cmp ids → (i j : ℕ) → i < j → j < length ids → job_cmp (name_at ids i) (name_at ids j) ≡ Less
unfolding IsStrictlySortedBy
rises_at [] rises i j before within = absurd (omega arith)
rises_at (id ∷ ids) rises i zero before within = absurd (omega arith)
rises_at (id ∷ ids) rises zero (suc j) before within = AllByRecursion-at (λ (other : JobId). job_cmp id other ≡ Less) ids (name_at ids j) rises.0 (j, omega arith, get_or_default ids j (name_at ids j) nobody (omega arith))
rises_at (id ∷ ids) rises (suc i) (suc j) before within = rises_at ids rises.1 i j (omega arith) (omega arith)

-- so each id has one place
pub one_place : (ids : List JobId) → IsStrictlySortedBy job_cmp ids → (i j : ℕ) → i < length ids → j < length ids → name_at ids i ≡ name_at ids j → i ≡ j
one_place ids rises i j in_i in_j e = ⊎_elim (λ same. same)
    (⊎_elim (λ before. absurd (less_differs (name_at ids i) (name_at ids j) (rises_at ids rises i j before in_j) e))
    (λ after. absurd (less_differs (name_at ids j) (name_at ids i) (rises_at ids rises j i after in_i) (sym e))))
    (cases_order i j)

pub sorted_ids : (ids : List JobId) → IsStrictlySortedBy job_cmp ids → IsSortedBy (λ a b. is_lt (job_cmp a b)) ids
sorted_ids ids rises k d low within =
    let e : get_or ids (k + 1) d ≡ name_at ids (k + 1) = get_or_default ids (k + 1) d nobody within in
    let f : get_or ids k d ≡ name_at ids k = get_or_default ids k d nobody (omega arith) in
    ap (λ (w : JobId). is_lt (job_cmp w (get_or ids k d))) e ∙ ap (λ (w : JobId). is_lt (job_cmp (name_at ids (k + 1)) w)) f
    ∙ ap is_lt (job_total.antisymm (name_at ids (k + 1)) (name_at ids k) ∙ ap ordering_reverse (rises_at ids rises k (k + 1) (omega arith) within))

-- a search finds an id that is there
pub found : (ids : List JobId) (id : JobId) (r : Result ℕ ℕ) → IsStrictlySortedBy job_cmp ids → Contains ids id → IsBinarySearchResult (λ other. job_cmp other id) ids r → is_ok r ≡ true
found ids id (Ok i) rises has searched = refl
found ids id (Err i) rises has searched =
    let point = searched (searchable_from_sorted job_total (λ (other : JobId). other) ids id (sorted_ids ids rises)) in
    let tied : job_cmp (get_or ids has.0 id) id ≡ Equal = ap (λ (w : JobId). job_cmp w id) has.2 ∙ tied_itself job_total id in
    ⊎_elim
    (λ before. let less : job_cmp (get_or ids has.0 id) id ≡ Less = point.0 has.0 id (omega arith) before in absurd (less_not_equal (sym less ∙ tied)))
    (λ after. let more : job_cmp (get_or ids has.0 id) id ≡ Greater = point.1 has.0 id after has.1 in absurd (greater_not_equal (sym more ∙ tied)))
    (cases_lt has.0 i)
  where
    less_not_equal : Less ≡ Equal → ⊥
    less_not_equal e = cc

    greater_not_equal : Greater ≡ Equal → ⊥
    greater_not_equal e = cc

pub found_at : (ids : List JobId) (id : JobId) (r : Result ℕ ℕ) (i : ℕ) → IsBinarySearchResult (λ other. job_cmp other id) ids r → r ≡ Ok i → name_at ids i ≡ id
found_at ids id (Ok j) i searched e =
    let same : j ≡ i = cc in
    (same_job-Decides (name_at ids i) id).0 (ap (λ (w : ℕ). same_job (name_at ids w) id) (sym same) ∙ ap is_eq (searched nobody))
found_at ids id (Err j) i searched e = cc

-- nodes with distinct ids: each id is counted at most once
count_none : (id : JobId) (ids : List JobId) → AllByRecursion (λ other. same_job id other ≡ false) ids → count_by (same_job id) ids ≡ 0
count_none id [] differ = refl
count_none id (other ∷ ids) differ =
    let step : count_by (same_job id) (other ∷ ids) ≡ cond (same_job id other) 1 0 + count_by (same_job id) ids = sum_by-cons (λ (w : JobId). cond (same_job id w) 1 0) other ids in
    let nothing : cond {A = ℕ} (same_job id other) 1 0 ≡ 0 = ap (λ (t : Bool). cond t 1 0) differ.0 in
    omega (arith, step, nothing, count_none id ids differ.1)

count_once : (id : JobId) (ids : List JobId) → IsDistinct same_job ids → count_by (same_job id) ids ≤ 1
unfolding IsDistinct
count_once id [] distinct = omega arith
count_once id (other ∷ ids) distinct = by_case (same_job id other) refl (count_once id ids distinct.1)
  where
    step : count_by (same_job id) (other ∷ ids) ≡ cond (same_job id other) 1 0 + count_by (same_job id) ids
    step = sum_by-cons (λ (w : JobId). cond (same_job id w) 1 0) other ids

    by_case : (t : Bool) → same_job id other ≡ t → count_by (same_job id) ids ≤ 1 → count_by (same_job id) (other ∷ ids) ≤ 1
    by_case true e rest =
        let same : id ≡ other = (same_job-Decides id other).0 e in
        let none : count_by (same_job id) ids ≡ 0 = subst (λ (w : JobId). count_by (same_job w) ids ≡ 0) (sym same) (count_none other ids distinct.0) in
        let one : cond {A = ℕ} (same_job id other) 1 0 ≡ 1 = ap (λ (t : Bool). cond t 1 0) e in
        omega (arith, step, none, one)
    by_case false e rest =
        let nothing : cond {A = ℕ} (same_job id other) 1 0 ≡ 0 = ap (λ (t : Bool). cond t 1 0) e in
        omega (arith, step, nothing, rest)

-- a sorted list of ids each of which is counted once rises
all_below : (a b : JobId) (ids : List JobId) → job_cmp a b ≡ Less → AllByRecursion (λ w. job_cmp b w ≡ Less) ids → AllByRecursion (λ w. job_cmp a w ≡ Less) ids
all_below a b [] less after = tt
all_below a b (c ∷ ids) less after = (job_total.trans a b c less after.0, all_below a b ids less after.1)

rising : (ids : List JobId) → ((k : ℕ) → k + 1 < length ids → is_lt (job_cmp (name_at ids (k + 1)) (name_at ids k)) ≡ false) → ((id : JobId) → count_by (same_job id) ids ≤ 1) → IsStrictlySortedBy job_cmp ids
unfolding IsStrictlySortedBy
rising [] sorted once = tt
rising (a ∷ []) sorted once = (tt, tt)
rising (a ∷ b ∷ rest) sorted once =
    let after : IsStrictlySortedBy job_cmp (b ∷ rest) = rising (b ∷ rest) (λ k within. at_next k (sorted (k + 1) (omega arith)))
    (λ id. let step : count_by (same_job id) (a ∷ b ∷ rest) ≡ cond (same_job id a) 1 0 + count_by (same_job id) (b ∷ rest) = sum_by-cons (λ (w : JobId). cond (same_job id w) 1 0) a (b ∷ rest) in
    omega (arith, once id)) in
    let less : job_cmp a b ≡ Less = by_case (job_cmp a b) refl (sorted 0 (omega arith)) in
    ((less, all_below a b rest less after.0), after)
  where
    at_next : (k : ℕ) → is_lt (job_cmp (name_at (a ∷ b ∷ rest) (k + 1 + 1)) (name_at (a ∷ b ∷ rest) (k + 1))) ≡ false → is_lt (job_cmp (name_at (b ∷ rest) (k + 1)) (name_at (b ∷ rest) k)) ≡ false
    at_next k h = rw (next_of (k + 1), next_of k) at h
      where
        next_of : (i : ℕ) → name_at (a ∷ b ∷ rest) (i + 1) ≡ name_at (b ∷ rest) i
        next_of i = rw (add-one i) refl

    by_case : (o : Ordering) → job_cmp a b ≡ o → is_lt (job_cmp b a) ≡ false → job_cmp a b ≡ Less
    by_case Less e h = e
    by_case Equal e h =
        let same : a ≡ b = (same_job-Decides a b).0 (ap is_eq e) in
        let two : count_by (same_job a) (a ∷ b ∷ rest) ≡ cond (same_job a a) 1 0 + count_by (same_job a) (b ∷ rest) = sum_by-cons (λ (w : JobId). cond (same_job a w) 1 0) a (b ∷ rest) in
        let one : count_by (same_job a) (b ∷ rest) ≡ cond (same_job a b) 1 0 + count_by (same_job a) rest = sum_by-cons (λ (w : JobId). cond (same_job a w) 1 0) b rest in
        let itself : cond {A = ℕ} (same_job a a) 1 0 ≡ 1 = ap (λ (t : Bool). cond t 1 0) (same_job-itself a) in
        let other : cond {A = ℕ} (same_job a b) 1 0 ≡ 1 = ap (λ (t : Bool). cond t 1 0) (ap is_eq e) in
        absurd (omega (arith, once a, two, one, itself, other))
    by_case Greater e h =
        let back : job_cmp b a ≡ Less = job_total.antisymm b a ∙ ap ordering_reverse e in
        absurd (true≢false (ap is_lt (sym back) ∙ h))

rises_nodes : (nodes : List JobNode) → IsStrictlySortedBy job_cmp (map (λ node. node.id) nodes) → IsStrictlySortedBy node_cmp nodes
unfolding IsStrictlySortedBy
rises_nodes [] rises = tt
rises_nodes (node ∷ nodes) rises = (all_after node nodes rises.0, rises_nodes nodes rises.1)
  where
    all_after : (first : JobNode) (others : List JobNode) → AllByRecursion (λ w. job_cmp first.id w ≡ Less) (map (λ other. other.id) others) → AllByRecursion (λ w. node_cmp first w ≡ Less) others
    all_after first [] h = tt
    all_after first (other ∷ others) h = (h.0, all_after first others h.1)

pub rises_ids : (nodes : List JobNode) → IsStrictlySortedBy node_cmp nodes → IsStrictlySortedBy job_cmp (map (λ node. node.id) nodes)
unfolding IsStrictlySortedBy
rises_ids [] rises = tt
rises_ids (node ∷ nodes) rises = (all_after node nodes rises.0, rises_ids nodes rises.1)
  where
    all_after : (first : JobNode) (others : List JobNode) → AllByRecursion (λ w. node_cmp first w ≡ Less) others → AllByRecursion (λ w. job_cmp first.id w ≡ Less) (map (λ other. other.id) others)
    all_after first [] h = tt
    all_after first (other ∷ others) h = (h.0, all_after first others h.1)

-- nodes with distinct ids, sorted by these
pub listed : (nodes sorted : List JobNode) → HasDistinctIds nodes → IsPermutation nodes sorted → IsSortedBy (λ a b. is_lt (node_cmp a b)) sorted → Lists node_cmp (Contains nodes) sorted
listed nodes sorted distinct moved order = record {
  rises = rises_nodes sorted (rising (map (λ node. node.id) sorted)
      (λ k within. let inside : k + 1 < length sorted = omega (arith, length-map sorted (λ (node : JobNode). node.id)) in by_index k inside)
      (λ id. let e : count_by (same_job id) (map (λ node. node.id) sorted) ≡ count_by (same_job id) (map (λ node. node.id) nodes) =
      sum_by-IsPermutation (λ (w : JobId). cond (same_job id w) 1 0) (map (λ node. node.id) nodes) (map (λ node. node.id) sorted) (IsPermutation-map (λ node. node.id) nodes sorted moved) in
      omega (arith, e, count_once id (map (λ node. node.id) nodes) distinct)));
  holds = λ node. (λ on. Contains-permutation sorted nodes node (IsPermutation-sym nodes sorted moved) on, λ on. Contains-permutation nodes sorted node moved on);
}
  where
    no_node : JobNode
    no_node = record { id = nobody; priority = pos 0; edges = []; processed = false }

    id_at : (i : ℕ) → i < length sorted → name_at (map (λ node. node.id) sorted) i ≡ (get_or sorted i no_node).id
    id_at i inside = get_or-map (λ node. node.id) sorted i no_node nobody inside

    by_index : (k : ℕ) → k + 1 < length sorted → is_lt (job_cmp (name_at (map (λ node. node.id) sorted) (k + 1)) (name_at (map (λ node. node.id) sorted) k)) ≡ false
    by_index k inside = ap (λ (w : JobId). is_lt (job_cmp w (name_at (map (λ node. node.id) sorted) k))) (id_at (k + 1) inside)
        ∙ ap (λ (w : JobId). is_lt (job_cmp (get_or sorted (k + 1) no_node).id w)) (id_at k (omega arith)) ∙ order k no_node (omega arith) inside
