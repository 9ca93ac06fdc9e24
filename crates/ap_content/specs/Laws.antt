-- What becomes of the things that numbers stand for, when a hold is gained or lost.
use Rattle.std.specs.Prelude.{◌≡◌, ◌≢◌, ℕ, ◌≤◌, List, [], ◌∷◌, Option, Some, None, IsSome, Contains, option_map, refl}
use Rattle.std.proofs.Common.{◌⊎◌, arith, sym, ap, ◌∙◌, inl, inr, ⊎_elim, ◌==◌, Bool, true, false}
use Rattle.std.proofs.lemmas.List.Elements.{Contains-append_left, Contains-append_right, Contains-push}
use Rattle.std.proofs.lemmas.Bool.Decides.{Decides-eqb, not_from_Decides, nat_tests}
use Rattle.ap_content.specs.Things.{Thing, Kids, thing, no_kids, kid}
use Rattle.ap_content.specs.Entries.{Entry, entry_at, node_at, holds_at, holds_in, one_more, Lives, Stands, StandEach, IsTidy, Gains, Loses}
use Rattle.ap_content.specs.declared.node.Number.{Number}
use Rattle.ap_content.specs.declared.node.Node.{Node}

-- old and new agree on the nodes of the numbers of a set, which has the kids of each of its numbers
module _ (old new : List (Option Entry)) (In : Number → Type 0)
    (closed : (n k : Number) (node : Node) → In n → node_at old n ≡ Some node → Contains node.kids k → In k)
    (same : (n : Number) → In n → node_at new n ≡ node_at old n) where
  mutual
    -- what such a number stood for, it stands for
    pub Stands-carried : (t : Thing) (n : Number) → In n → Stands old n t → Stands new n t
    Stands-carried (thing tag text kids) n in_it h =
        (h.0, same n in_it ∙ h.1, h.2, h.3, StandEach-carried kids h.0.kids (λ k m. closed n k h.0 in_it h.1 m) h.4)

    pub StandEach-carried : (ts : Kids) (ns : List Number) → ((k : Number) → Contains ns k → In k) → StandEach old ns ts → StandEach new ns ts
    StandEach-carried no_kids [] in_it h = h
    StandEach-carried no_kids (n ∷ ns) in_it h = absurd h
    StandEach-carried (kid t ts) [] in_it h = absurd h
    StandEach-carried (kid t ts) (n ∷ ns) in_it h = (
      Stands-carried t n (in_it n (Contains-append_left (n ∷ []) ns n (Contains-push [] n))) h.0,
      StandEach-carried ts ns (λ k m. in_it k (Contains-append_right (n ∷ []) ns k m)) h.1,
    )

equal_or_not : (m n : Number) → (m ≡ n) ⊎ (m ≢ n)
equal_or_not m n = step (m.0 == n.0) refl
  where
    step : (b : Bool) → m.0 == n.0 ≡ b → (m ≡ n) ⊎ (m ≢ n)
    step true e = inl (ap (λ k. record { 0 = k }) ((Decides-eqb m.0 n.0).0 e))
    step false e = inr (λ same. not_from_Decides (m.0 == n.0) (Decides-eqb m.0 n.0) e (ap (λ k. k.0) same))

some_node : (contents : List (Option Entry)) (n : Number) → Lives contents n → (e : Entry) × (entry_at contents n ≡ Some e)
some_node contents n lives = some (entry_at contents n) lives
  where
    some : (o : Option Entry) → IsSome o → (e : Entry) × (o ≡ Some e)
    some None h = absurd (cc)
    some (Some e) h = (e, refl)

one_more-le : (h : ℕ) → h ≤ one_more h
one_more-le h = grind (arith, nat_tests)

module _ (old new : List (Option Entry)) (n : Number) (node : Node) (gains : Gains old new n node) where
  -- what lived keeps its node
  pub node_at-gained : (m : Number) → Lives old m → node_at new m ≡ node_at old m
  node_at-gained m lives = ⊎_elim
      (λ same.
      let e = some_node old m lives in
      let was = gains.was e.0 (sym (ap (entry_at old) same) ∙ e.1) in
      ap (node_at new) same ∙ ap (option_map (λ e. e.node)) gains.held ∙ ap (λ w. Some w) (sym was) ∙ sym (ap (option_map (λ e. e.node)) e.1))
      (λ apart. ap (option_map (λ e. e.node)) (gains.others m apart))
      (equal_or_not m n)

  -- what a number that lived stood for, it stands for
  pub Stands-gained : IsTidy old → (t : Thing) (m : Number) → Lives old m → Stands old m t → Stands new m t
  Stands-gained tidy = Stands-carried old new (Lives old)
      (λ m k w lives e has. tidy.kids_live m k (record { node = w; lives = e; has = has })) node_at-gained

  pub StandEach-gained : IsTidy old → (ts : Kids) (ns : List Number) → ((k : Number) → Contains ns k → Lives old k) → StandEach old ns ts → StandEach new ns ts
  StandEach-gained tidy = StandEach-carried old new (Lives old)
      (λ m k w lives e has. tidy.kids_live m k (record { node = w; lives = e; has = has })) node_at-gained

  -- no number has fewer holds
  pub holds_at-gained : (m : Number) → holds_at old m ≤ holds_at new m
  holds_at-gained m = ⊎_elim
      (λ same.
      let before : holds_at old m ≡ holds_at old n = ap (holds_at old) same in
      let now : holds_at new m ≡ one_more (holds_at old n) = ap (holds_at new) same ∙ ap holds_in gains.held in
      let more = one_more-le (holds_at old n) in
      omega arith)
      (λ apart. let now : holds_at new m ≡ holds_at old m = ap holds_in (gains.others m apart) in omega arith)
      (equal_or_not m n)

-- what still lives stands for what it stood for
pub Stands-kept : (old new : List (Option Entry)) (n : Number) → Loses old new n → IsTidy new → (t : Thing) (m : Number) → Lives new m → Stands old m t → Stands new m t
Stands-kept old new n loses tidy = Stands-carried old new (Lives new)
    (λ m k w lives e has. tidy.kids_live m k (record { node = w; lives = loses.nodes m lives ∙ e; has = has })) loses.nodes
