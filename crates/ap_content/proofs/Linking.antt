-- What is true of the slots of an arena, after some of them changed.
use Rattle.std.proofs.Common.{◌≡◌, ◌≢◌, ◌⊎◌, ℕ, zero, suc, ◌+◌, ◌-◌, ◌^◌, ◌<◌, List, [], length, Option, Some, None, IsSome, Contains, refl, sym, ap, subst, ◌∙◌, inl, inr, ⊎_elim, arith}
use Rattle.std.specs.Prelude.{⊤}
use Rattle.slab.specs.Slab.{Slab, get}
use Rattle.sha1.specs.Sha1.{sha1}
use Rattle.ap_content.specs.declared.node.Number.{Number}
use Rattle.ap_content.specs.declared.node.Node.{Node}
use Rattle.ap_content.specs.declared.index.Index.{Index}
use Rattle.ap_content.specs.declared.slots.Interned.{Interned}
use Rattle.ap_content.specs.Things.{Thing, thing, digest, digested, digests}
use Rattle.ap_content.specs.Entries.{node_at, Stands}
use Rattle.ap_content.specs.Counting.{total, kid_times, parent_times, raised, lowered}
use Rattle.ap_content.specs.Laws.{Stands-carried, StandEach-carried}
use Rattle.ap_content.specs.Finding.{Finds, Forgets, FindsToo, FindsSame}
use Rattle.ap_content.specs.Sound.{entries, number, kid_digests, IsLinked}
use Rattle.ap_content.proofs.Totals.{total-at, total-same, total-none, total-some, equal_or_not}
use Rattle.ap_content.proofs.Seeing.{node_at-entries, node_of, from_node_of, from_is_some, kid_times-member, each-stands}
use Rattle.ap_content.proofs.Tidying.{parent-there}

-- what stays of a slot whose count of holds changes
abbrev pub bare : Option Interned → Option Interned
bare None = None
bare (Some x) = Some (record x { holds = 0 })

pub record Alike (x y : Interned) : Type 0 where
  pub node : y.node ≡ x.node
  pub digest : y.digest ≡ x.digest
  pub parents : y.parents ≡ x.parents

pub from_bare : (s : Option Interned) (x : Interned) → bare (Some x) ≡ bare s → (y : Interned) × (s ≡ Some y) × Alike x y
from_bare None x e = absurd (cc)
from_bare (Some y) x e = (
  y,
  refl,
  record {
    node = ap (λ o. node_in o) (sym e);
    digest = ap (λ o. digest_in o) (sym e);
    parents = ap (λ o. parents_in o) (sym e);
  },
)
  where
    node_in : Option Interned → Node
    node_in None = x.node
    node_in (Some z) = z.node

    digest_in : Option Interned → List ℕ
    digest_in None = []
    digest_in (Some z) = z.digest

    parents_in : Option Interned → ℕ
    parents_in None = 0
    parents_in (Some z) = z.parents

parent_times-bare : (a : ℕ) (s : Option Interned) → parent_times a (bare s) ≡ parent_times a s
parent_times-bare a None = refl
parent_times-bare a (Some x) = refl

node_of-bare : (s : Option Interned) → node_of (bare s) ≡ node_of s
node_of-bare None = refl
node_of-bare (Some x) = refl

-- only holds changed, and the index finds the same
module _ (old new : Slab Interned) (index later : Index) (linked : IsLinked old index) (found : FindsSame index later)
    (same : (n : ℕ) → bare (get new n) ≡ bare (get old n)) where
  back : (n : ℕ) (x : Interned) → get new n ≡ Some x → (y : Interned) × (get old n ≡ Some y) × Alike x y
  back n x e = from_bare (get old n) x (ap bare (sym e) ∙ same n)

  forth : (n : ℕ) (x : Interned) → get old n ≡ Some x → (y : Interned) × (get new n ≡ Some y) × Alike x y
  forth n x e = from_bare (get new n) x (ap bare (sym e) ∙ sym (same n))

  same_nodes : (n : Number) → node_at (entries new) n ≡ node_at (entries old) n
  same_nodes n =
      node_at-entries new n ∙ sym (node_of-bare (get new n.0)) ∙ ap node_of (same n.0) ∙ node_of-bare (get old n.0) ∙ sym (node_at-entries old n)

  pub linked-same : IsLinked new later
  linked-same = record {
    one_number = λ n m x y e f node.
        let a = back n x e in
        let b = back m y f in
        linked.one_number n m a.0 b.0 a.1 b.1 (a.2.node ∙ node ∙ sym b.2.node);
    kids_live = λ n k x e low.
        let a = back n x e in
        let live = linked.kids_live n k a.0 a.1 (subst (λ node. 0 < kid_times k node.kids) (sym a.2.node) low) in
        let b = from_is_some (get old k) live in
        let c = forth k b.0 b.1 in
        subst IsSome (sym c.1) refl;
    parents = λ n x e.
        let a = back n x e in
        let counted = linked.parents n a.0 a.1 in
        let all = total-same (parent_times n) refl old.slots new.slots
        (λ j. sym (parent_times-bare n (get new j)) ∙ ap (parent_times n) (same j) ∙ parent_times-bare n (get old j)) in
        sym a.2.parents ∙ counted ∙ sym all;
    fit = λ n x e.
        let a = back n x e in
        subst (λ p. p < 2 ^ 64) a.2.parents (linked.fit n a.0 a.1);
    stands = λ n x e.
        let a = back n x e in
        let s = linked.stands n a.0 a.1 in
        (s.0, Stands-carried (entries old) (entries new) (λ _. ⊤) (λ _ _ _ _ _ _. tt) (λ m _. same_nodes m) s.0 (number n) tt s.1, sym a.2.digest ∙ s.2);
    found = λ n x e.
        let a = back n x e in
        subst (λ d. Finds later d n) a.2.digest (found.still a.0.digest n (linked.found n a.0 a.1));
    finds = λ d n f.
        let a = linked.finds d n (found.only d n f) in
        let b = forth n a.0 a.1 in
        (b.0, b.1, b.2.digest ∙ a.2);
  }

parent_times-raised : (a k : ℕ) (s : Option Interned) → parent_times a (raised k s) ≡ parent_times a s
parent_times-raised a k None = refl
parent_times-raised a k (Some x) = refl

parent_times-lowered : (a k : ℕ) (s : Option Interned) → parent_times a (lowered k s) ≡ parent_times a s
parent_times-lowered a k None = refl
parent_times-lowered a k (Some x) = refl

from_raised : (k : ℕ) (s : Option Interned) (x : Interned) → Some x ≡ raised k s → (y : Interned) × (s ≡ Some y) × (x ≡ record y { parents = y.parents + k })
from_raised k None x e = absurd (cc)
from_raised k (Some y) x e = (y, refl, cc)

from_lowered : (k : ℕ) (s : Option Interned) (x : Interned) → Some x ≡ lowered k s → (y : Interned) × (s ≡ Some y) × (x ≡ record y { parents = y.parents - k })
from_lowered k None x e = absurd (cc)
from_lowered k (Some y) x e = (y, refl, cc)

node_of-raised : (k : ℕ) (s : Option Interned) → node_of (raised k s) ≡ node_of s
node_of-raised k None = refl
node_of-raised k (Some x) = refl

node_of-lowered : (k : ℕ) (s : Option Interned) → node_of (lowered k s) ≡ node_of s
node_of-lowered k None = refl
node_of-lowered k (Some x) = refl

IsSome-raised : (k : ℕ) (s : Option Interned) → IsSome s → IsSome (raised k s)
IsSome-raised k None h = h
IsSome-raised k (Some x) h = refl

IsSome-lowered : (k : ℕ) (s : Option Interned) → IsSome s → IsSome (lowered k s)
IsSome-lowered k None h = h
IsSome-lowered k (Some x) h = refl

-- one slot was taken out, and each of its kids has so many parents less
module _ (old new : Slab Interned) (index later : Index) (n : ℕ) (i : Interned) (linked : IsLinked old index)
    (was : get old n ≡ Some i) (alone : i.parents ≡ 0) (gone : get new n ≡ None)
    (others : (m : ℕ) → m ≢ n → get new m ≡ lowered (kid_times m i.node.kids) (get old m)) (forgets : Forgets index later n) where
  none_there : (x : Interned) → get new n ≡ Some x → ⊥
  none_there x e = let never : None ≡ Some x = sym gone ∙ e in cc

  apart : (m : ℕ) (x : Interned) → get new m ≡ Some x → m ≢ n
  apart m x e same = none_there x (subst (λ k. get new k ≡ Some x) same e)

  was_there : (m : ℕ) (x : Interned) → get new m ≡ Some x → (y : Interned) × (get old m ≡ Some y) × (x ≡ record y { parents = y.parents - kid_times m i.node.kids })
  was_there m x e = from_lowered (kid_times m i.node.kids) (get old m) x (sym e ∙ others m (apart m x e))

  -- what is taken out is no kid
  no_kid : (m : ℕ) (y : Interned) → get old m ≡ Some y → kid_times n y.node.kids ≡ 0
  no_kid m y e = ap (parent_times n) (sym e) ∙ total-none (parent_times n) refl old.slots (sym (linked.parents n i was) ∙ alone) m

  still_live : (m k : ℕ) (y : Interned) → get old m ≡ Some y → 0 < kid_times k y.node.kids → IsSome (get new k)
  still_live m k y e low =
      let differ : k ≢ n = λ same. let none = no_kid m y e in let some : 0 < kid_times n y.node.kids = subst (λ a. 0 < kid_times a y.node.kids) same low in omega arith in
      subst IsSome (sym (others k differ)) (IsSome-lowered (kid_times k i.node.kids) (get old k) (linked.kids_live m k y e low))

  counted : (a : ℕ) → total (parent_times a) new.slots + kid_times a i.node.kids ≡ total (parent_times a) old.slots
  counted a =
      let all = total-at (parent_times a) refl n old.slots new.slots (λ j ne. ap (parent_times a) (others j ne) ∙ parent_times-lowered a (kid_times j i.node.kids) (get old j)) in
      let here : parent_times a (get old n) ≡ kid_times a i.node.kids = ap (parent_times a) was in
      let none : parent_times a (get new n) ≡ 0 = ap (parent_times a) gone in
      omega arith

  same_node_at : (m : Number) → IsSome (get new m.0) → node_at (entries new) m ≡ node_at (entries old) m
  same_node_at m live =
      let x = from_is_some (get new m.0) live in
      node_at-entries new m ∙ ap node_of (others m.0 (apart m.0 x.0 x.1)) ∙ node_of-lowered (kid_times m.0 i.node.kids) (get old m.0) ∙ sym (node_at-entries old m)

  closed : (m k : Number) (node : Node) → IsSome (get new m.0) → node_at (entries old) m ≡ Some node → Contains node.kids k → IsSome (get new k.0)
  closed m k node live e has =
      let y = from_node_of (get old m.0) node (sym (node_at-entries old m) ∙ e) in
      still_live m.0 k.0 y.0 y.1 (subst (λ w. 0 < kid_times k.0 w.kids) (sym y.2) (kid_times-member node.kids k has))

  pub linked-shrunk : IsLinked new later
  linked-shrunk = record {
    one_number = λ a b x y e f node.
        let p = was_there a x e in
        let q = was_there b y f in
        linked.one_number a b p.0 q.0 p.1 q.1 (sym (ap (λ z. z.node) p.2) ∙ node ∙ ap (λ z. z.node) q.2);
    kids_live = λ a k x e low.
        let p = was_there a x e in
        still_live a k p.0 p.1 (subst (λ z. 0 < kid_times k z.node.kids) p.2 low);
    parents = λ a x e.
        let p = was_there a x e in
        let before = linked.parents a p.0 p.1 in
        let all = counted a in
        let now : x.parents ≡ p.0.parents - kid_times a i.node.kids = ap (λ z. z.parents) p.2 in
        omega arith;
    fit = λ a x e.
        let p = was_there a x e in
        let before = linked.fit a p.0 p.1 in
        let now : x.parents ≡ p.0.parents - kid_times a i.node.kids = ap (λ z. z.parents) p.2 in
        omega arith;
    stands = λ a x e.
        let p = was_there a x e in
        let s = linked.stands a p.0 p.1 in
        (s.0, Stands-carried (entries old) (entries new) (λ m. IsSome (get new m.0)) closed same_node_at s.0 (number a) (subst IsSome (sym e) refl) s.1, ap (λ z. z.digest) p.2 ∙ s.2);
    found = λ a x e.
        let p = was_there a x e in
        subst (λ d. Finds later d a) (sym (ap (λ z. z.digest) p.2)) (forgets.still p.0.digest a (apart a x e) (linked.found a p.0 p.1));
    finds = λ d a f.
        let p = linked.finds d a (forgets.only d a f) in
        let differ : a ≢ n = λ same. forgets.gone d (subst (λ k. Finds later d k) same f) in
        (record p.0 { parents = p.0.parents - kid_times a i.node.kids }, others a differ ∙ ap (lowered (kid_times a i.node.kids)) p.1, p.2);
  }

-- one slot was filled, and each of its kids has so many parents more
module _ (old new : Slab Interned) (index later : Index) (n : ℕ) (i : Interned) (linked : IsLinked old index)
    (vacant : get old n ≡ None) (here : get new n ≡ Some i) (young : i.parents ≡ 0)
    (others : (m : ℕ) → m ≢ n → get new m ≡ raised (kid_times m i.node.kids) (get old m)) (finds : FindsToo index later i.digest n)
    (kids_live : (k : ℕ) → 0 < kid_times k i.node.kids → IsSome (get old k))
    (fresh : (m : ℕ) (x : Interned) → get old m ≡ Some x → x.node ≢ i.node)
    (room : (m : ℕ) (x : Interned) → get old m ≡ Some x → x.parents + kid_times m i.node.kids < 2 ^ 64)
    (digested_so : i.digest ≡ sha1 (digested i.node.tag i.node.text (length i.node.kids) (kid_digests old i.node.kids))) where
  not_there : (x : Interned) → get old n ≡ Some x → ⊥
  not_there x e = let never : None ≡ Some x = sym vacant ∙ e in cc

  another : (m : ℕ) (x : Interned) → get old m ≡ Some x → m ≢ n
  another m x e same = not_there x (subst (λ k. get old k ≡ Some x) same e)

  -- what is there is the new one, or was there
  there : (m : ℕ) (x : Interned) → get new m ≡ Some x
      → ((m ≡ n) × (x ≡ i)) ⊎ ((y : Interned) × (get old m ≡ Some y) × (x ≡ record y { parents = y.parents + kid_times m i.node.kids }))
  there m x e = ⊎_elim
      (λ same. let two : Some x ≡ Some i = sym e ∙ ap (get new) same ∙ here in inl (same, cc))
      (λ apart. inr (from_raised (kid_times m i.node.kids) (get old m) x (sym e ∙ others m apart)))
      (equal_or_not m n)

  stays : (m : ℕ) (y : Interned) → get old m ≡ Some y → get new m ≡ Some (record y { parents = y.parents + kid_times m i.node.kids })
  stays m y e = others m (another m y e) ∙ ap (raised (kid_times m i.node.kids)) e

  live_too : (k : ℕ) → IsSome (get old k) → IsSome (get new k)
  live_too k live = let y = from_is_some (get old k) live in subst IsSome (sym (stays k y.0 y.1)) refl

  more : (a : ℕ) → total (parent_times a) new.slots ≡ total (parent_times a) old.slots + kid_times a i.node.kids
  more a =
      let all = total-at (parent_times a) refl n old.slots new.slots (λ j ne. ap (parent_times a) (others j ne) ∙ parent_times-raised a (kid_times j i.node.kids) (get old j)) in
      let now : parent_times a (get new n) ≡ kid_times a i.node.kids = ap (parent_times a) here in
      let before : parent_times a (get old n) ≡ 0 = ap (parent_times a) vacant in
      omega arith

  -- nothing has the new one as a kid
  no_parent : (p : ℕ) → total (parent_times n) old.slots ≡ p → total (parent_times n) old.slots ≡ 0
  no_parent zero e = e
  no_parent (suc p) e =
      let some = total-some (parent_times n) refl old.slots (omega arith) in
      let y = parent-there n (get old some.0) some.1 in
      let live = from_is_some (get old n) (linked.kids_live some.0 n y.0 y.1 y.2) in
      absurd (not_there live.0 live.1)

  not_own_kid : (k : ℕ) → kid_times n i.node.kids ≡ k → kid_times n i.node.kids ≡ 0
  not_own_kid zero e = e
  not_own_kid (suc k) e = let live = from_is_some (get old n) (kids_live n (omega arith)) in absurd (not_there live.0 live.1)

  same_node_before : (m : Number) → IsSome (get old m.0) → node_at (entries new) m ≡ node_at (entries old) m
  same_node_before m live =
      let y = from_is_some (get old m.0) live in
      node_at-entries new m ∙ ap node_of (others m.0 (another m.0 y.0 y.1)) ∙ node_of-raised (kid_times m.0 i.node.kids) (get old m.0) ∙ sym (node_at-entries old m)

  kept_in : (m k : Number) (node : Node) → IsSome (get old m.0) → node_at (entries old) m ≡ Some node → Contains node.kids k → IsSome (get old k.0)
  kept_in m k node live e has =
      let y = from_node_of (get old m.0) node (sym (node_at-entries old m) ∙ e) in
      linked.kids_live m.0 k.0 y.0 y.1 (subst (λ w. 0 < kid_times k.0 w.kids) (sym y.2) (kid_times-member node.kids k has))

  member_lives : (k : Number) → Contains i.node.kids k → IsSome (get old k.0)
  member_lives k has = kids_live k.0 (kid_times-member i.node.kids k has)

  -- the new one stands for a thing, and its digest is the thing's
  new_stands : (t : Thing) × Stands (entries new) (number n) t × (i.digest ≡ digest t)
  new_stands =
      let each = each-stands old i.node.kids (λ k has.
      let y = from_is_some (get old k.0) (member_lives k has) in
      let s = linked.stands k.0 y.0 y.1 in
      (y.0, y.1, s.0, s.1, s.2)) in (
        thing i.node.tag i.node.text each.0,
        (
          i.node,
          node_at-entries new (number n) ∙ ap node_of here,
          refl,
          refl,
          StandEach-carried (entries old) (entries new) (λ m. IsSome (get old m.0)) kept_in same_node_before each.0 i.node.kids member_lives each.1,
        ),
        digested_so ∙ ap (λ ds. sha1 (digested i.node.tag i.node.text (length i.node.kids) ds)) each.2
            ∙ ap (λ count. sha1 (digested i.node.tag i.node.text count (digests each.0))) each.3,
      )

  pub linked-grown : IsLinked new later
  linked-grown = record {
    one_number = λ a b x y e f node. ⊎_elim
        (λ p. ⊎_elim
        (λ q. p.0 ∙ sym q.0)
        (λ q. absurd (fresh b q.0 q.1 (sym (ap (λ z. z.node) q.2) ∙ sym node ∙ ap (λ z. z.node) p.1)))
        (there b y f))
        (λ p. ⊎_elim
        (λ q. absurd (fresh a p.0 p.1 (sym (ap (λ z. z.node) p.2) ∙ node ∙ ap (λ z. z.node) q.1)))
        (λ q. linked.one_number a b p.0 q.0 p.1 q.1 (sym (ap (λ z. z.node) p.2) ∙ node ∙ ap (λ z. z.node) q.2))
        (there b y f))
        (there a x e);
    kids_live = λ a k x e low. ⊎_elim
        (λ p. live_too k (kids_live k (subst (λ z. 0 < kid_times k z.node.kids) p.1 low)))
        (λ p. live_too k (linked.kids_live a k p.0 p.1 (subst (λ z. 0 < kid_times k z.node.kids) p.2 low)))
        (there a x e);
    parents = λ a x e. ⊎_elim
        (λ p. ap (λ z. z.parents) p.1 ∙ young ∙ sym (ap (λ m. total (parent_times m) new.slots) p.0 ∙ nothing))
        (λ p.
        let before = linked.parents a p.0 p.1 in
        let now : x.parents ≡ p.0.parents + kid_times a i.node.kids = ap (λ z. z.parents) p.2 in
        let all = more a in
        omega arith)
        (there a x e);
    fit = λ a x e. ⊎_elim
        (λ p. let none : x.parents ≡ 0 = ap (λ z. z.parents) p.1 ∙ young in omega arith)
        (λ p. let now : x.parents ≡ p.0.parents + kid_times a i.node.kids = ap (λ z. z.parents) p.2 in let low = room a p.0 p.1 in omega arith)
        (there a x e);
    stands = λ a x e. ⊎_elim
        (λ p. (new_stands.0, subst (λ m. Stands (entries new) (number m) new_stands.0) (sym p.0) new_stands.1, ap (λ z. z.digest) p.1 ∙ new_stands.2))
        (λ p. let s = linked.stands a p.0 p.1 in
        (s.0, Stands-carried (entries old) (entries new) (λ m. IsSome (get old m.0)) kept_in same_node_before s.0 (number a) (subst IsSome (sym p.1) refl) s.1, ap (λ z. z.digest) p.2 ∙ s.2))
        (there a x e);
    found = λ a x e. ⊎_elim
        (λ p. subst (λ m. Finds later x.digest m) (sym p.0) (subst (λ d. Finds later d n) (sym (ap (λ z. z.digest) p.1)) finds.finds))
        (λ p. subst (λ d. Finds later d a) (sym (ap (λ z. z.digest) p.2)) (finds.still p.0.digest a (linked.found a p.0 p.1)))
        (there a x e);
    finds = λ d a f. ⊎_elim
        (λ before. let y = linked.finds d a before in
        (record y.0 { parents = y.0.parents + kid_times a i.node.kids }, stays a y.0 y.1, y.2))
        (λ now. (i, ap (get new) now.1 ∙ here, sym now.0))
        (finds.only d a f);
  }
    where
      nothing : total (parent_times n) new.slots ≡ 0
      nothing =
          let a = more n in
          let b = no_parent (total (parent_times n) old.slots) refl in
          let c = not_own_kid (kid_times n i.node.kids) refl in
          omega arith
