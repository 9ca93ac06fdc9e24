-- A tournament tree: the root has the first of those who take part.
use Rattle.std.proofs.Common.{◌≡◌, ◌≢◌, ◌<◌, ◌≤◌, ◌+◌, ◌-◌, ◌*◌, ◌/◌, ◌==◌, ℕ, zero, suc, ℤ, Bool, true, false, not, cond, List, length, map, drop, set, get_or, replicate, refl, sym, ◌∙◌, ap, subst, arith, inl, inr, ◌⊎◌, ⊎_elim, length-set}
use Rattle.std.proofs.lemmas.List.{get_or-set_same, get_or-set_other, get_or-drop, get_or-map, get_or-replicate, length-map, length-drop, length-replicate, drop-set-add, map-set, same_lists, get_or_default}
use Rattle.std.proofs.lemmas.Bool.{cases_eq, cases_lt, cases_Bool, eq-eqb, ne_eqb, cond-true, cond-false, true≢false}
use Rattle.std.proofs.lemmas.Cmp.{upto, tied_itself, then_total, back_total, on_total, int_cmp_total, nat_cmp_total}
use Rattle.std.specs.Cmp.{IsTotalOrder}
use Rattle.std.specs.declared.cmp.Ordering.{Ordering}
use Rattle.std.specs.declared.cmp.Ordering.TheVariants.{Less, Equal, Greater}
use Rattle.std.specs.Ordering.{is_lt, is_gt, ordering_reverse}
use Rattle.ap_graph.specs.Contest.{priority_at, contest_cmp, goes_before, first_of, IsTreeBut, IsTree, entered_in}

contest_total : (priorities : List ℤ) → IsTotalOrder (contest_cmp priorities)
contest_total priorities = then_total (back_total (on_total (priority_at priorities) int_cmp_total)) nat_cmp_total

flipped : (a b : Ordering) → a ≡ ordering_reverse b → is_lt a ≡ false → is_gt b ≡ false
flipped Less Greater e h = h
flipped Less Less e h = refl
flipped Less Equal e h = refl
flipped Equal Greater e h = cc
flipped Equal Less e h = refl
flipped Equal Equal e h = refl
flipped Greater Greater e h = cc
flipped Greater Less e h = refl
flipped Greater Equal e h = refl

flipped_back : (a b : Ordering) → a ≡ ordering_reverse b → is_gt b ≡ false → is_lt a ≡ false
flipped_back Less Greater e h = h
flipped_back Less Less e h = cc
flipped_back Less Equal e h = cc
flipped_back Equal b e h = refl
flipped_back Greater b e h = refl

-- who doesn't go before one that doesn't go before a third, doesn't go before the third
not_before_trans : (priorities : List ℤ) (a b c : ℕ) → goes_before priorities a b ≡ false → goes_before priorities b c ≡ false → goes_before priorities a c ≡ false
not_before_trans priorities a b c ab bc =
    let order = contest_total priorities in
    flipped_back (contest_cmp priorities a c) (contest_cmp priorities c a) (order.antisymm a c)
    (upto order c b a (flipped (contest_cmp priorities b c) (contest_cmp priorities c b) (order.antisymm b c) bc) (flipped (contest_cmp priorities a b) (contest_cmp priorities b a) (order.antisymm a b) ab))

not_before_itself : (priorities : List ℤ) (a : ℕ) → goes_before priorities a a ≡ false
not_before_itself priorities a = ap is_lt (tied_itself (contest_total priorities) a)

-- of two of which the first goes before, the second doesn't
before_once : (priorities : List ℤ) (a b : ℕ) → goes_before priorities a b ≡ true → goes_before priorities b a ≡ false
before_once priorities a b h = by_case (contest_cmp priorities a b) (contest_cmp priorities b a) ((contest_total priorities).antisymm b a) h
  where
    by_case : (x y : Ordering) → y ≡ ordering_reverse x → is_lt x ≡ true → is_lt y ≡ false
    by_case Less Less e t = cc
    by_case Less Equal e t = refl
    by_case Less Greater e t = refl
    by_case Equal y e t = cc
    by_case Greater y e t = cc

-- the first of two is one of them
first_of_cases : (priorities : List ℤ) (a b : ℕ) → (first_of priorities a b ≡ a) ⊎ (first_of priorities a b ≡ b)
first_of_cases priorities a b = by_case (a == length priorities) (b == length priorities) (goes_before priorities b a)
  where
    by_case : (s t u : Bool) → (cond s b (cond t a (cond u b a)) ≡ a) ⊎ (cond s b (cond t a (cond u b a)) ≡ b)
    by_case true t u = inr refl
    by_case false true u = inl refl
    by_case false false true = inr refl
    by_case false false false = inl refl

pub first_of-le : (priorities : List ℤ) (a b : ℕ) → a ≤ length priorities → b ≤ length priorities → first_of priorities a b ≤ length priorities
first_of-le priorities a b low_a low_b = ⊎_elim (λ e. omega (arith, e)) (λ e. omega (arith, e)) (first_of_cases priorities a b)

-- where the first of two is none, neither is there
first_of_none : (priorities : List ℤ) (a b : ℕ) → first_of priorities a b ≡ length priorities → (a ≡ length priorities) × (b ≡ length priorities)
first_of_none priorities a b none = by_case (cases_eq a (length priorities)) (cases_eq b (length priorities))
  where
    by_case : (a ≡ length priorities) ⊎ (a ≡ length priorities → ⊥) → (b ≡ length priorities) ⊎ (b ≡ length priorities → ⊥) → (a ≡ length priorities) × (b ≡ length priorities)
    by_case (inl ea) b_case = (ea, sym (cond-true (a == length priorities) b (cond (b == length priorities) a (cond (goes_before priorities b a) b a)) (eq-eqb a (length priorities) ea)) ∙ none)
    by_case (inr na) (inl eb) = absurd (na (
        sym (cond-false (a == length priorities) b (cond (b == length priorities) a (cond (goes_before priorities b a) b a)) (ne_eqb a (length priorities) na)
        ∙ cond-true (b == length priorities) a (cond (goes_before priorities b a) b a) (eq-eqb b (length priorities) eb)) ∙ none))
    by_case (inr na) (inr nb) = ⊎_elim (λ e. absurd (na (sym e ∙ none))) (λ e. absurd (nb (sym e ∙ none))) (first_of_cases priorities a b)

-- neither of two goes before the first of them
first_of_is_first : (priorities : List ℤ) (a b : ℕ) →
    (a ≢ length priorities → goes_before priorities a (first_of priorities a b) ≡ false) × (b ≢ length priorities → goes_before priorities b (first_of priorities a b) ≡ false)
first_of_is_first priorities a b = by_case (cases_eq a (length priorities)) (cases_eq b (length priorities)) (cases_Bool (goes_before priorities b a))
  where
    by_case : (a ≡ length priorities) ⊎ (a ≡ length priorities → ⊥) → (b ≡ length priorities) ⊎ (b ≡ length priorities → ⊥) → (goes_before priorities b a ≡ true) ⊎ (goes_before priorities b a ≡ false) →
        (a ≢ length priorities → goes_before priorities a (first_of priorities a b) ≡ false) × (b ≢ length priorities → goes_before priorities b (first_of priorities a b) ≡ false)
    by_case (inl ea) b_case u =
        let is : first_of priorities a b ≡ b = cond-true (a == length priorities) b (cond (b == length priorities) a (cond (goes_before priorities b a) b a)) (eq-eqb a (length priorities) ea) in
        (λ differs. absurd (differs ea), λ differs. ap (λ (w : ℕ). goes_before priorities b w) is ∙ not_before_itself priorities b)
    by_case (inr na) (inl eb) u =
        let is : first_of priorities a b ≡ a = cond-false (a == length priorities) b (cond (b == length priorities) a (cond (goes_before priorities b a) b a)) (ne_eqb a (length priorities) na)
        ∙ cond-true (b == length priorities) a (cond (goes_before priorities b a) b a) (eq-eqb b (length priorities) eb) in
        (λ differs. ap (λ (w : ℕ). goes_before priorities a w) is ∙ not_before_itself priorities a, λ differs. absurd (differs eb))
    by_case (inr na) (inr nb) (inl u) =
        let is : first_of priorities a b ≡ b = cond-false (a == length priorities) b (cond (b == length priorities) a (cond (goes_before priorities b a) b a)) (ne_eqb a (length priorities) na)
        ∙ cond-false (b == length priorities) a (cond (goes_before priorities b a) b a) (ne_eqb b (length priorities) nb) ∙ cond-true (goes_before priorities b a) b a u in
        (λ differs. ap (λ (w : ℕ). goes_before priorities a w) is ∙ before_once priorities b a u, λ differs. ap (λ (w : ℕ). goes_before priorities b w) is ∙ not_before_itself priorities b)
    by_case (inr na) (inr nb) (inr u) =
        let is : first_of priorities a b ≡ a = cond-false (a == length priorities) b (cond (b == length priorities) a (cond (goes_before priorities b a) b a)) (ne_eqb a (length priorities) na)
        ∙ cond-false (b == length priorities) a (cond (goes_before priorities b a) b a) (ne_eqb b (length priorities) nb) ∙ cond-false (goes_before priorities b a) b a u in
        (λ differs. ap (λ (w : ℕ). goes_before priorities a w) is ∙ not_before_itself priorities a, λ differs. ap (λ (w : ℕ). goes_before priorities b w) is ∙ u)

-- a half, once and back
half_of : (k p : ℕ) → k / 2 ≡ p → (k ≡ 2 * p) ⊎ (k ≡ 2 * p + 1)
half_of k p h = ⊎_elim (λ e. inl e) (λ differs. inr (omega arith)) (cases_eq k (2 * p))

-- one place above is decided, and then only the place above that may be wrong
pub decided : (priorities : List ℤ) (nodes nodes' : List ℕ) (at : ℕ) → 1 ≤ at → at < length priorities →
    nodes' ≡ set nodes at (first_of priorities (get_or nodes (2 * at) 0) (get_or nodes (2 * at + 1) 0)) → IsTreeBut priorities nodes at → IsTreeBut priorities nodes' (at / 2)
decided priorities nodes nodes' at one inside is tree = record {
  places = ap length is ∙ length-set nodes at won ∙ tree.places;
  low = λ k d within. subst (λ (l : List ℕ). get_or l k d ≤ length priorities) (sym is) (low k d (omega (arith, ap length is, length-set nodes at won)) (cases_eq k at));
  inner = λ k some within other. inner k some within other (cases_eq k at);
}
  where
    won : ℕ
    won = first_of priorities (get_or nodes (2 * at) 0) (get_or nodes (2 * at + 1) 0)

    in_nodes : at < length nodes
    in_nodes = omega (arith, tree.places)

    won_low : first_of priorities (get_or nodes (2 * at) 0) (get_or nodes (2 * at + 1) 0) ≤ length priorities
    won_low = first_of-le priorities (get_or nodes (2 * at) 0) (get_or nodes (2 * at + 1) 0) (tree.low (2 * at) 0 (omega (arith, tree.places))) (tree.low (2 * at + 1) 0 (omega (arith, tree.places)))

    low : (k d : ℕ) → k < length nodes → (k ≡ at) ⊎ (k ≡ at → ⊥) → get_or (set nodes at (first_of priorities (get_or nodes (2 * at) 0) (get_or nodes (2 * at + 1) 0))) k d ≤ length priorities
    low k d within (inl e) =
        let here : get_or (set nodes at (first_of priorities (get_or nodes (2 * at) 0) (get_or nodes (2 * at + 1) 0))) k d ≡ first_of priorities (get_or nodes (2 * at) 0) (get_or nodes (2 * at + 1) 0) =
        ap (λ (w : ℕ). get_or (set nodes at (first_of priorities (get_or nodes (2 * at) 0) (get_or nodes (2 * at + 1) 0))) w d) e ∙ get_or-set_same nodes at (first_of priorities (get_or nodes (2 * at) 0) (get_or nodes (2 * at + 1) 0)) d in_nodes in
        omega (arith, won_low, here)
    low k d within (inr differs) =
        let there : get_or (set nodes at (first_of priorities (get_or nodes (2 * at) 0) (get_or nodes (2 * at + 1) 0))) k d ≡ get_or nodes k d = get_or-set_other nodes at k (first_of priorities (get_or nodes (2 * at) 0) (get_or nodes (2 * at + 1) 0)) d differs in
        omega (arith, tree.low k d within)

    other : (k : ℕ) → (k ≡ at → ⊥) → get_or nodes' k 0 ≡ get_or nodes k 0
    other k differs = ap (λ (l : List ℕ). get_or l k 0) is ∙ get_or-set_other nodes at k (first_of priorities (get_or nodes (2 * at) 0) (get_or nodes (2 * at + 1) 0)) 0 differs

    here : get_or nodes' at 0 ≡ first_of priorities (get_or nodes (2 * at) 0) (get_or nodes (2 * at + 1) 0)
    here = ap (λ (l : List ℕ). get_or l at 0) is ∙ get_or-set_same nodes at (first_of priorities (get_or nodes (2 * at) 0) (get_or nodes (2 * at + 1) 0)) 0 in_nodes

    same_below : (k : ℕ) → (2 * k ≡ at → ⊥) → (2 * k + 1 ≡ at → ⊥) →
        first_of priorities (get_or nodes' (2 * k) 0) (get_or nodes' (2 * k + 1) 0) ≡ first_of priorities (get_or nodes (2 * k) 0) (get_or nodes (2 * k + 1) 0)
    same_below k left right = ap (λ (w : ℕ). first_of priorities w (get_or nodes' (2 * k + 1) 0)) (other (2 * k) left) ∙ ap (λ (w : ℕ). first_of priorities (get_or nodes (2 * k) 0) w) (other (2 * k + 1) right)

    inner : (k : ℕ) → 1 ≤ k → k < length priorities → k ≢ at / 2 → (k ≡ at) ⊎ (k ≡ at → ⊥) → get_or nodes' k 0 ≡ first_of priorities (get_or nodes' (2 * k) 0) (get_or nodes' (2 * k + 1) 0)
    inner k some within above (inl e) = subst (λ (w : ℕ). get_or nodes' w 0 ≡ first_of priorities (get_or nodes' (2 * w) 0) (get_or nodes' (2 * w + 1) 0)) (sym e)
        (here ∙ sym (same_below at (λ h. omega arith) (λ h. omega arith)))
    inner k some within above (inr differs) =
        other k differs ∙ tree.inner k some within differs ∙ sym (same_below k (λ h. above (omega arith)) (λ h. above (omega arith)))

-- where only inner nodes differ, the same take part
pub entered_same : (n : ℕ) (nodes nodes' : List ℕ) → length nodes' ≡ length nodes → ((k : ℕ) → n ≤ k → get_or nodes' k 0 ≡ get_or nodes k 0) → entered_in n nodes' ≡ entered_in n nodes
entered_same n nodes nodes' places same = ap (map (λ leaf. not (leaf == n))) (same_lists (drop n nodes') (drop n nodes) (omega (arith, length-drop n nodes', length-drop n nodes))
    (λ k d within. get_or_default (drop n nodes') k d 0 within ∙ get_or-drop n nodes' k 0 ∙ same (n + k) (omega arith) ∙ sym (get_or-drop n nodes k 0)
    ∙ get_or_default (drop n nodes) k 0 d (omega (arith, length-drop n nodes', length-drop n nodes))))

pub entered-set : (n : ℕ) (nodes : List ℕ) (i leaf : ℕ) (t : Bool) → not (leaf == n) ≡ t → entered_in n (set nodes (n + i) leaf) ≡ set (entered_in n nodes) i t
entered-set n nodes i leaf t is =
    ap (map (λ leaf. not (leaf == n))) (drop-set-add n nodes i leaf) ∙ map-set (λ leaf. not (leaf == n)) (drop n nodes) i leaf ∙ ap (λ (b : Bool). set (entered_in n nodes) i b) is

-- who takes part, read of the leaf
pub entered_at : (n : ℕ) (nodes : List ℕ) (i : ℕ) → length nodes ≡ 2 * n → i < n → get_or (entered_in n nodes) i false ≡ not (get_or nodes (n + i) 0 == n)
entered_at n nodes i places inside =
    get_or-map (λ leaf. not (leaf == n)) (drop n nodes) i 0 false (omega (arith, length-drop n nodes)) ∙ ap (λ (w : ℕ). not (w == n)) (get_or-drop n nodes i 0)

module _ (priorities : List ℤ) (nodes : List ℕ) (tree : IsTree priorities nodes) where
  -- what the root is, all nodes have above them
  none_below : get_or nodes 1 0 ≡ length priorities → (fuel k : ℕ) → k ≤ fuel → 1 ≤ k → k < 2 * length priorities → get_or nodes k 0 ≡ length priorities
  none_below root zero k below some within = absurd (omega arith)
  none_below root (suc fuel) k below some within = by_case (cases_eq k 1) (half_of k (k / 2) refl)
      (λ more. none_below root fuel (k / 2) (omega arith) (omega arith) (omega arith))
    where
      by_case : (k ≡ 1) ⊎ (k ≡ 1 → ⊥) → (k ≡ 2 * (k / 2)) ⊎ (k ≡ 2 * (k / 2) + 1) → (2 ≤ k → get_or nodes (k / 2) 0 ≡ length priorities) → get_or nodes k 0 ≡ length priorities
      by_case (inl e) side above = ap (λ (w : ℕ). get_or nodes w 0) e ∙ root
      by_case (inr differs) side above =
          let parent = above (omega arith) in
          let both = first_of_none priorities (get_or nodes (2 * (k / 2)) 0) (get_or nodes (2 * (k / 2) + 1) 0) (sym (tree.decided.inner (k / 2) (omega arith) (omega arith) (λ h. omega arith)) ∙ parent) in
          ⊎_elim (λ left. ap (λ (w : ℕ). get_or nodes w 0) left ∙ both.0) (λ right. ap (λ (w : ℕ). get_or nodes w 0) right ∙ both.1) side

  -- a node has none, or one who takes part
  from_leaf : (fuel k : ℕ) → 2 * length priorities ≤ k + fuel → 1 ≤ k → k < 2 * length priorities →
      (get_or nodes k 0 ≡ length priorities) ⊎ ((get_or nodes k 0 < length priorities) × (get_or nodes (length priorities + get_or nodes k 0) 0 ≡ get_or nodes k 0))
  from_leaf zero k enough some within = absurd (omega arith)
  from_leaf (suc fuel) k enough some within = by_case (cases_lt k (length priorities)) (λ inner. from_leaf fuel (2 * k) (omega arith) (omega arith) (omega arith)) (λ inner. from_leaf fuel (2 * k + 1) (omega arith) (omega arith) (omega arith))
    where
      by_case : (k < length priorities) ⊎ (length priorities ≤ k) →
          (k < length priorities → (get_or nodes (2 * k) 0 ≡ length priorities) ⊎ ((get_or nodes (2 * k) 0 < length priorities) × (get_or nodes (length priorities + get_or nodes (2 * k) 0) 0 ≡ get_or nodes (2 * k) 0))) →
          (k < length priorities → (get_or nodes (2 * k + 1) 0 ≡ length priorities) ⊎ ((get_or nodes (2 * k + 1) 0 < length priorities) × (get_or nodes (length priorities + get_or nodes (2 * k + 1) 0) 0 ≡ get_or nodes (2 * k + 1) 0))) →
          (get_or nodes k 0 ≡ length priorities) ⊎ ((get_or nodes k 0 < length priorities) × (get_or nodes (length priorities + get_or nodes k 0) 0 ≡ get_or nodes k 0))
      by_case (inl inner) left right =
          let is = tree.decided.inner k some inner (λ h. omega arith) in
          subst (λ (x : ℕ). (x ≡ length priorities) ⊎ ((x < length priorities) × (get_or nodes (length priorities + x) 0 ≡ x))) (sym is)
          (⊎_elim (λ e. subst (λ (x : ℕ). (x ≡ length priorities) ⊎ ((x < length priorities) × (get_or nodes (length priorities + x) 0 ≡ x))) (sym e) (left inner))
          (λ e. subst (λ (x : ℕ). (x ≡ length priorities) ⊎ ((x < length priorities) × (get_or nodes (length priorities + x) 0 ≡ x))) (sym e) (right inner))
          (first_of_cases priorities (get_or nodes (2 * k) 0) (get_or nodes (2 * k + 1) 0)))
      by_case (inr leaf) left right =
          let at : length priorities + (k - length priorities) ≡ k = omega arith in
          subst (λ (w : ℕ). (get_or nodes w 0 ≡ length priorities) ⊎ ((get_or nodes w 0 < length priorities) × (get_or nodes (length priorities + get_or nodes w 0) 0 ≡ get_or nodes w 0))) at
          (⊎_elim inl
          (λ e. inr (omega (arith, e), ap (λ (w : ℕ). get_or nodes (length priorities + w) 0) e))
          (tree.leaves (k - length priorities) (omega arith)))

  -- nobody goes before the root
  root_first : (fuel k : ℕ) → k ≤ fuel → 1 ≤ k → k < 2 * length priorities → get_or nodes k 0 ≢ length priorities → (get_or nodes 1 0 ≢ length priorities) × (goes_before priorities (get_or nodes k 0) (get_or nodes 1 0) ≡ false)
  root_first zero k below some within there = absurd (omega arith)
  root_first (suc fuel) k below some within there = by_case (cases_eq k 1) (half_of k (k / 2) refl)
      (λ more. root_first fuel (k / 2) (omega arith) (omega arith) (omega arith))
    where
      by_case : (k ≡ 1) ⊎ (k ≡ 1 → ⊥) → (k ≡ 2 * (k / 2)) ⊎ (k ≡ 2 * (k / 2) + 1) →
          (2 ≤ k → get_or nodes (k / 2) 0 ≢ length priorities → (get_or nodes 1 0 ≢ length priorities) × (goes_before priorities (get_or nodes (k / 2) 0) (get_or nodes 1 0) ≡ false)) →
          (get_or nodes 1 0 ≢ length priorities) × (goes_before priorities (get_or nodes k 0) (get_or nodes 1 0) ≡ false)
      by_case (inl e) side above = (
        λ none. there (ap (λ (w : ℕ). get_or nodes w 0) e ∙ none),
        ap (λ (w : ℕ). goes_before priorities (get_or nodes w 0) (get_or nodes 1 0)) e ∙ not_before_itself priorities (get_or nodes 1 0),
      )
      by_case (inr differs) side above =
          let p : ℕ = k / 2 in
          let is = tree.decided.inner (k / 2) (omega arith) (omega arith) (λ h. omega arith) in
          let neither = first_of_is_first priorities (get_or nodes (2 * (k / 2)) 0) (get_or nodes (2 * (k / 2) + 1) 0) in
          let parent_there : get_or nodes (k / 2) 0 ≢ length priorities = λ none.
          let both = first_of_none priorities (get_or nodes (2 * (k / 2)) 0) (get_or nodes (2 * (k / 2) + 1) 0) (sym is ∙ none) in
          there (⊎_elim (λ left. ap (λ (w : ℕ). get_or nodes w 0) left ∙ both.0) (λ right. ap (λ (w : ℕ). get_or nodes w 0) right ∙ both.1) side) in
          let up = above (omega arith) parent_there in
          let here : goes_before priorities (get_or nodes k 0) (get_or nodes (k / 2) 0) ≡ false =
          ap (λ (w : ℕ). goes_before priorities (get_or nodes k 0) w) is ∙ ⊎_elim
          (λ left. ap (λ (w : ℕ). goes_before priorities (get_or nodes w 0) (first_of priorities (get_or nodes (2 * (k / 2)) 0) (get_or nodes (2 * (k / 2) + 1) 0))) left
          ∙ neither.0 (λ e. there (ap (λ (w : ℕ). get_or nodes w 0) left ∙ e)))
          (λ right. ap (λ (w : ℕ). goes_before priorities (get_or nodes w 0) (first_of priorities (get_or nodes (2 * (k / 2)) 0) (get_or nodes (2 * (k / 2) + 1) 0))) right
          ∙ neither.1 (λ e. there (ap (λ (w : ℕ). get_or nodes w 0) right ∙ e)))
          side in
          (up.0, not_before_trans priorities (get_or nodes k 0) (get_or nodes (k / 2) 0) (get_or nodes 1 0) here up.1)

  places : length nodes ≡ 2 * length priorities
  places = tree.decided.places

  -- nobody takes part
  pub nobody : get_or nodes 1 0 ≡ length priorities → (i : ℕ) → i < length priorities → get_or (entered_in (length priorities) nodes) i false ≡ false
  nobody root i inside = entered_at (length priorities) nodes i places inside
      ∙ ap not (eq-eqb (get_or nodes (length priorities + i) 0) (length priorities) (none_below root (length priorities + i) (length priorities + i) (omega arith) (omega arith) (omega arith)))

  -- the root takes part
  pub root_entered : get_or nodes 1 0 < length priorities → get_or (entered_in (length priorities) nodes) (get_or nodes 1 0) false ≡ true
  root_entered low = entered_at (length priorities) nodes (get_or nodes 1 0) places low ∙ ⊎_elim
      (λ e. absurd (omega (arith, e)))
      (λ leaf. ap not (ne_eqb (get_or nodes (length priorities + get_or nodes 1 0) 0) (length priorities) (λ e. omega (arith, e, leaf.1))))
      (from_leaf (2 * length priorities) 1 (omega arith) (omega arith) (omega arith))

  -- and nobody who takes part goes before it
  pub root_goes_first : (j : ℕ) → j < length priorities → get_or (entered_in (length priorities) nodes) j false ≡ true → goes_before priorities j (get_or nodes 1 0) ≡ false
  root_goes_first j inside there =
      let leaf = entered_at (length priorities) nodes j places inside in
      ⊎_elim
      (λ none. absurd (true≢false (sym there ∙ leaf ∙ ap not (eq-eqb (get_or nodes (length priorities + j) 0) (length priorities) none))))
      (λ e. subst (λ (w : ℕ). goes_before priorities w (get_or nodes 1 0) ≡ false) e
      (root_first (length priorities + j) (length priorities + j) (omega arith) (omega arith) (omega arith) (λ none. omega (arith, none, e))).1)
      (tree.leaves j inside)

pub entered_start : (n : ℕ) (nodes : List ℕ) → nodes ≡ replicate (2 * n) n → entered_in n nodes ≡ replicate n false
entered_start n nodes is = same_lists (entered_in n nodes) (replicate n false) (omega (arith, lengths, length-replicate {A = Bool} n false))
    (λ k d within. by_place k d (omega (arith, lengths)))
  where
    places : length nodes ≡ 2 * n
    places = ap length is ∙ length-replicate (2 * n) n

    lengths : length (entered_in n nodes) ≡ n
    lengths = omega (arith, length-map (drop n nodes) (λ leaf. not (leaf == n)), length-drop n nodes, places)

    by_place : (k : ℕ) (d : Bool) → k < n → get_or (entered_in n nodes) k d ≡ get_or (replicate n false) k d
    by_place k d inside = get_or_default (entered_in n nodes) k d false (omega (arith, lengths)) ∙ entered_at n nodes k places inside
        ∙ ap not (eq-eqb (get_or nodes (n + k) 0) n (ap (λ (l : List ℕ). get_or l (n + k) 0) is ∙ get_or-replicate (2 * n) (n + k) n 0 (omega arith)))
        ∙ sym (get_or-replicate n k false d inside)
