-- A test that computes whether a node is on a cycle, and that it decides the relation: where only the nodes of
-- a list have steps, a chain need be no longer than the list.
use Rattle.std.proofs.Common.{◌≡◌, ◌⊎◌, ℕ, zero, suc, ◌≤◌, Bool, true, false, ◌||◌, List, [], ◌∷◌, length, Contains, Decides, flat_map, map, Option, None, Some, refl, sym, ap, subst, inl, inr, arith, ⊎_elim, cond}
use Rattle.std.specs.Bool.{one_answer}
use Rattle.std.specs.List.{list_any, IsDistinct, AllByRecursion}
use Rattle.std.specs.Cmp.{IsEquivalence}
use Rattle.std.proofs.lemmas.List.Elements.{Contains-append_left, Contains-append_right, Contains-append_cases}
use Rattle.std.proofs.lemmas.List.{length-map}
use Rattle.std.proofs.lemmas.Map.Made.{length-le_from_is_member, is_member-Decides}
use Rattle.std.proofs.lemmas.Bool.{true≢false, or_cases, or_left, or_right}
use Rattle.ap_text.specs.declared.job_id.JobId.{JobId}
use Rattle.ap_graph.specs.declared.node.JobNode.{JobNode}
use Rattle.ap_text.specs.Chain.{Chain, step, through}
use Rattle.ap_text.specs.JobOrder.{same_job}
use Rattle.ap_graph.specs.Nodes.{node_at, edges, targets_of, IsOnCycle}
use Rattle.ap_text.proofs.Members.{Contains-none, Contains-cons_cases, Contains-head, Contains-tail_of}
use Rattle.ap_graph.proofs.IdOrder.{same_job-Decides}

-- the ends of the chains of at most n steps
abbrev pub ends : {X : Type 0} → (X → List X) → ℕ → X → List X
ends next zero a = []
ends next (suc n) a = flat_map (λ b. b ∷ ends next n b) (next a)

-- whether a chain of no more steps than there are nodes leads from a job back to it
abbrev pub is_on_cycle : List JobNode → JobId → Bool
is_on_cycle nodes id = list_any (same_job id) (ends (edges nodes) (length nodes) id)

pub Contains-flat_map : {X Y : Type 0} (f : X → List Y) (xs : List X) (x : X) (y : Y) → Contains xs x → Contains (f x) y → Contains (flat_map f xs) y
Contains-flat_map f [] x y h k = absurd (Contains-none x h)
Contains-flat_map f (z ∷ xs) x y h k = ⊎_elim
    (λ e. Contains-append_left (f z) (flat_map f xs) y (subst (λ w. Contains (f w) y) (sym e) k))
    (λ later. Contains-append_right (f z) (flat_map f xs) y (Contains-flat_map f xs x y later k))
    (Contains-cons_cases z xs x h)

pub Contains-flat_map_cases : {X Y : Type 0} (f : X → List Y) (xs : List X) (y : Y) → Contains (flat_map f xs) y → (x : X) × Contains xs x × Contains (f x) y
Contains-flat_map_cases f [] y h = absurd (Contains-none y h)
Contains-flat_map_cases f (z ∷ xs) y h = ⊎_elim
    (λ here. (z, Contains-head z xs, here))
    (λ later. let r = Contains-flat_map_cases f xs y later in (r.0, Contains-tail_of z xs r.0 r.1, r.2))
    (Contains-append_cases (f z) (flat_map f xs) y h)

-- what `ends` lists are ends of chains
pub chain_from_ends : {X : Type 0} (next : X → List X) (n : ℕ) (a b : X) → Contains (ends next n a) b → Chain next a b
chain_from_ends next zero a b h = absurd (Contains-none b h)
chain_from_ends next (suc n) a b h =
    let r = Contains-flat_map_cases (λ c. c ∷ ends next n c) (next a) b h in
    ⊎_elim (λ e. subst (λ w. Chain next a w) e (step r.1)) (λ later. through r.1 (chain_from_ends next n r.0 b later)) (Contains-cons_cases r.0 (ends next n r.0) b r.2)

-- a chain with the nodes that its steps are taken from
pub data Walk {X : Type 0} (next : X → List X) : X → List X → X → Type 0 where
  last_step : {a b : X} → Contains (next a) b → Walk next a (a ∷ []) b
  then_on : {a b c : X} {path : List X} → Contains (next a) c → Walk next c path b → Walk next a (a ∷ path) b

pub walk_of : {X : Type 0} {next : X → List X} {a b : X} → Chain next a b → (path : List X) × Walk next a path b
walk_of {a = a} (step h) = (a ∷ [], last_step h)
walk_of {a = a} (through h more) = (a ∷ (walk_of more).0, then_on h (walk_of more).1)

-- a walk of at most n steps ends among the ends of n steps
pub ends_of_walk : {X : Type 0} (next : X → List X) (n : ℕ) {a b : X} {path : List X} → Walk next a path b → length path ≤ n → Contains (ends next n a) b
ends_of_walk next zero {b = b} (last_step h) le = absurd (omega arith)
ends_of_walk next zero {b = b} (then_on h more) le = absurd (omega arith)
ends_of_walk next (suc n) {b = b} (last_step {a = a} h) le = Contains-flat_map (λ c. c ∷ ends next n c) (next a) b b h (Contains-head b (ends next n b))
ends_of_walk next (suc n) {b = b} (then_on {a = a} {c = c} h more) le =
    Contains-flat_map (λ c. c ∷ ends next n c) (next a) c b h (Contains-tail_of c (ends next n c) b (ends_of_walk next n more (omega arith)))

module _ {X : Type 0} (eq : X → X → Bool) (same : (a b : X) → Decides (eq a b) (a ≡ b)) (next : X → List X) where
  pub not_among : (a : X) (path : List X) → list_any (eq a) path ≡ false → AllByRecursion (λ y. eq a y ≡ false) path
  not_among a [] h = tt
  not_among a (x ∷ path) h = both (eq a x) refl h (not_among a path)
    where
      both : (t : Bool) → eq a x ≡ t → (t || list_any (eq a) path) ≡ false → (list_any (eq a) path ≡ false → AllByRecursion (λ y. eq a y ≡ false) path) → (eq a x ≡ false) × AllByRecursion (λ y. eq a y ≡ false) path
      both true e h more = absurd (true≢false h)
      both false e h more = (e, more h)

  -- a walk from a to b whose steps are taken from different nodes
  abbrev Direct : X → X → Type 0
  Direct a b = (path : List X) × Walk next a path b × IsDistinct eq path

  moved : {a c : X} (b : X) → a ≡ c → Direct c b → Direct a b
  moved b e d = subst (λ w. Direct w b) (sym e) d

  -- a direct walk that passes a node is direct from there on
  from_there : {c b : X} {path : List X} (a : X) → Walk next c path b → list_any (eq a) path ≡ true → IsDistinct eq path → Direct a b
  unfolding IsDistinct
  from_there {b = b} a (last_step {a = c} h) m d = ⊎_elim (λ e. moved b ((same a c).0 e) (c ∷ [], last_step h, d)) (λ none. absurd (true≢false (sym none))) (or_cases (eq a c) false m)
  from_there {b = b} a (then_on {a = c} {path = path} h more) m d =
      ⊎_elim (λ e. moved b ((same a c).0 e) (c ∷ path, then_on h more, d)) (λ later. from_there a more later d.1) (or_cases (eq a c) (list_any (eq a) path) m)

  direct_after : {a c b : X} → Contains (next a) c → (w : Direct c b) (t : Bool) → list_any (eq a) w.0 ≡ t → Direct a b
  unfolding IsDistinct
  direct_after {a = a} h w true m = from_there a w.1 m w.2
  direct_after {a = a} h w false m = (a ∷ w.0, then_on h w.1, (not_among a w.0 m, w.2))

  no_node_twice : {a b : X} → Chain next a b → Direct a b
  unfolding IsDistinct
  no_node_twice {a = a} (step h) = (a ∷ [], last_step h, (tt, tt))
  no_node_twice {a = a} (through h more) = direct_after h (no_node_twice more) (list_any (eq a) (no_node_twice more).0) refl

  -- only the nodes of a list have steps
  module _ (nodes : List X) (all : (a b : X) → Contains (next a) b → list_any (eq a) nodes ≡ true) where
    among : {a b : X} {path : List X} (q : X) → Walk next a path b → list_any (eq q) path ≡ true → list_any (eq q) nodes ≡ true
    among {b = b} q (last_step {a = c} h) m = ⊎_elim (λ e. subst (λ w. list_any (eq w) nodes ≡ true) (sym ((same q c).0 e)) (all c b h)) (λ none. absurd (true≢false (sym none))) (or_cases (eq q c) false m)
    among q (then_on {a = c} {c = d} {path = path} h more) m = ⊎_elim (λ e. subst (λ w. list_any (eq w) nodes ≡ true) (sym ((same q c).0 e)) (all c d h)) (λ later. among q more later) (or_cases (eq q c) (list_any (eq q) path) m)

    -- then the end of any chain is among the ends of as many steps
    pub ends_from_chain : (laws : IsEquivalence eq) {a b : X} → Chain next a b → Contains (ends next (length nodes) a) b
    ends_from_chain laws chain =
        let d = no_node_twice chain in
        ends_of_walk next (length nodes) d.1 (length-le_from_is_member laws d.0 nodes d.2 (λ q m. among q d.1 m))

equivalence_from_Decides : {K : Type 0} {eq : K → K → Bool} → ((a b : K) → Decides (eq a b) (a ≡ b)) → IsEquivalence eq
equivalence_from_Decides {eq = eq} same = record {
  refl = λ x. (same x x).1 refl;
  symm = λ x y. one_answer (eq x y) (eq y x) (same x y) (λ t. sym ((same y x).0 t), λ e. (same y x).1 (sym e));
  congr = λ x y z t. ap (λ w. eq w z) ((same x y).0 t);
}

-- only what has a node has edges
has_node : (nodes : List JobNode) (id : JobId) → (list_any (same_job id) (map (λ node. node.id) nodes) ≡ true) ⊎ (node_at nodes id ≡ None)
has_node [] id = inr refl
has_node (node ∷ nodes) id = by_case (same_job node.id id) refl (has_node nodes id)
  where
    by_case : (t : Bool) → same_job node.id id ≡ t → (list_any (same_job id) (map (λ node. node.id) nodes) ≡ true) ⊎ (node_at nodes id ≡ None) →
        ((same_job id node.id || list_any (same_job id) (map (λ node. node.id) nodes)) ≡ true) ⊎ (cond t (Some node) (node_at nodes id) ≡ None)
    by_case true e rest = inl (or_left (same_job id node.id) (list_any (same_job id) (map (λ node. node.id) nodes)) ((same_job-Decides id node.id).1 (sym ((same_job-Decides node.id id).0 e))))
    by_case false e rest = ⊎_elim (λ there. inl (or_right (same_job id node.id) (list_any (same_job id) (map (λ node. node.id) nodes)) there)) inr rest

only_nodes : (nodes : List JobNode) (a b : JobId) → Contains (edges nodes a) b → list_any (same_job a) (map (λ node. node.id) nodes) ≡ true
only_nodes nodes a b h = ⊎_elim (λ there. there) (λ none. absurd (Contains-none b (subst (λ (n : Option JobNode). Contains (targets_of n) b) none h))) (has_node nodes a)

pub is_on_cycle-Decides : (nodes : List JobNode) (id : JobId) → Decides (is_on_cycle nodes id) (IsOnCycle nodes id)
is_on_cycle-Decides nodes id = (
  λ h. chain_from_ends (edges nodes) (length nodes) id id ((is_member-Decides same_job-Decides (ends (edges nodes) (length nodes) id) id).0 h),
  λ chain. (is_member-Decides same_job-Decides (ends (edges nodes) (length nodes) id) id).1
      (subst (λ n. Contains (ends (edges nodes) n id) id) (length-map nodes (λ (node : JobNode). node.id))
      (ends_from_chain same_job same_job-Decides (edges nodes) (map (λ node. node.id) nodes) (only_nodes nodes) (equivalence_from_Decides same_job-Decides) chain)),
)
