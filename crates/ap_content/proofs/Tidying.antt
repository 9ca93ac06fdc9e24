-- What is true of an arena's entries at all times.
use Rattle.std.proofs.Common.{◌≡◌, ◌⊎◌, ℕ, zero, suc, ◌+◌, ◌<◌, List, [], ◌∷◌, Option, Some, None, IsSome, Contains, refl, sym, ap, subst, ◌∙◌, inl, inr, arith, vec_capacity}
use Rattle.slab.specs.Slab.{Slab, get}
use Rattle.ap_content.specs.declared.node.Number.{Number}
use Rattle.ap_content.specs.declared.node.Node.{Node}
use Rattle.ap_content.specs.declared.arena.Arena.{Arena}
use Rattle.ap_content.specs.declared.index.Index.{Index}
use Rattle.ap_content.specs.declared.slots.Interned.{Interned}
use Rattle.ap_content.specs.Things.{Thing, Kids, thing, no_kids, kid}
use Rattle.ap_content.specs.Entries.{Entry, node_at, holds_at, holds_in, Lives, Stands, StandEach, HasKid, IsTidy}
use Rattle.ap_content.specs.Counting.{kid_times, parent_times, one_if, spent}
use Rattle.ap_content.specs.Sound.{seen, entries, number, IsLinked, IsListed, IsSound}
use Rattle.ap_content.proofs.Members.{Contains-head, Contains-tail_of}
use Rattle.ap_content.proofs.Totals.{one_if-same, same-one_if, total-some}
use Rattle.ap_content.proofs.Seeing.{entry_at-entries, node_at-entries, node_of, from_node_of, from_is_some, kid_times-member}

-- a number stands for one thing
module _ (contents : List (Option Entry)) where
  mutual
    pub one_thing : (t u : Thing) (n : Number) → Stands contents n t → Stands contents n u → t ≡ u
    one_thing (thing tag text kids) (thing tag' text' kids') n h k =
        let same : h.0 ≡ k.0 = one_node h.0 k.0 (sym h.1 ∙ k.1) in
        let tags : tag ≡ tag' = sym h.2 ∙ ap (λ node. node.tag) same ∙ k.2 in
        let texts : text ≡ text' = sym h.3 ∙ ap (λ node. node.text) same ∙ k.3 in
        let each : kids ≡ kids' = same_kids kids kids' h.0.kids h.4 (subst (λ ns. StandEach contents ns kids') (ap (λ node. node.kids) (sym same)) k.4) in
        ap (λ a. thing a text kids) tags ∙ ap (λ b. thing tag' b kids) texts ∙ ap (λ c. thing tag' text' c) each
      where
        one_node : (a b : Node) → Some a ≡ Some b → a ≡ b
        one_node a b e = cc

    same_kids : (ts us : Kids) (ns : List Number) → StandEach contents ns ts → StandEach contents ns us → ts ≡ us
    same_kids no_kids no_kids [] h k = refl
    same_kids no_kids (kid u us) [] h k = absurd k
    same_kids (kid t ts) us [] h k = absurd h
    same_kids no_kids us (n ∷ ns) h k = absurd h
    same_kids (kid t ts) no_kids (n ∷ ns) h k = absurd k
    same_kids (kid t ts) (kid u us) (n ∷ ns) h k =
        ap (λ x. kid x ts) (one_thing t u n h.0 k.0) ∙ ap (λ xs. kid u xs) (same_kids ts us ns h.1 k.1)

-- where no two numbers have one node, no two stand for one thing
module _ (contents : List (Option Entry)) (one_each : (n m : Number) (node : Node) → node_at contents n ≡ Some node → node_at contents m ≡ Some node → n ≡ m) where
  mutual
    pub one_number : (t : Thing) (n m : Number) → Stands contents n t → Stands contents m t → n ≡ m
    one_number (thing tag text kids) n m h k =
        let kids_same : h.0.kids ≡ k.0.kids = one_list kids h.0.kids k.0.kids h.4 k.4 in
        let same : h.0 ≡ k.0 = same_node h.0 k.0 (h.2 ∙ sym k.2) (h.3 ∙ sym k.3) kids_same in
        one_each n m k.0 (h.1 ∙ ap (λ node. Some node) same) k.1
      where
        same_node : (a b : Node) → a.tag ≡ b.tag → a.text ≡ b.text → a.kids ≡ b.kids → a ≡ b
        same_node a b e f g = ap (λ t. record a { tag = t }) e ∙ ap (λ t. record { tag = b.tag; text = t; kids = a.kids }) f ∙ ap (λ k. record { tag = b.tag; text = b.text; kids = k }) g

    one_list : (ts : Kids) (ns ms : List Number) → StandEach contents ns ts → StandEach contents ms ts → ns ≡ ms
    one_list no_kids [] [] h k = refl
    one_list no_kids [] (m ∷ ms) h k = absurd k
    one_list no_kids (n ∷ ns) ms h k = absurd h
    one_list (kid t ts) [] ms h k = absurd h
    one_list (kid t ts) (n ∷ ns) [] h k = absurd k
    one_list (kid t ts) (n ∷ ns) (m ∷ ms) h k =
        ap (λ x. x ∷ ns) (one_number t n m h.0 k.0) ∙ ap (λ xs. m ∷ xs) (one_list ts ns ms h.1 k.1)

-- what is counted among kids is one of them
pub member-kid_times : (kids : List Number) (n : ℕ) → 0 < kid_times n kids → Contains kids (number n)
member-kid_times [] n h = absurd (omega arith)
member-kid_times (k ∷ kids) n h = step (one_if n k.0) refl (member-kid_times kids n)
  where
    step : (o : ℕ) → one_if n k.0 ≡ o → (0 < kid_times n kids → Contains kids (number n)) → Contains (k ∷ kids) (number n)
    step zero e later = Contains-tail_of k kids (number n) (later (omega arith))
    step (suc o) e later =
        let same : k ≡ number n = ap (λ a. record { 0 = a }) (sym (same-one_if n k.0 (omega arith))) in
        subst (λ a. Contains (k ∷ kids) a) same (Contains-head k kids)

-- a slot that has a number as a kid has something
pub parent-there : (n : ℕ) (s : Option Interned) → 0 < parent_times n s → (x : Interned) × (s ≡ Some x) × (0 < kid_times n x.node.kids)
parent-there n None h = absurd (omega arith)
parent-there n (Some x) h = (x, refl, h)

pub tidy : (slots : Slab Interned) (index : Index) (room : ℕ) → IsLinked slots index → IsListed slots [] room → IsTidy (entries slots)
tidy slots index room linked listed = record {
  one_number = λ n m t. one_number (entries slots) one_each t n m;
  one_thing = λ n t u. one_thing (entries slots) t u n;
  stands = λ n lives.
      let r = there n lives in
      let s = linked.stands n.0 r.0 r.1 in
      (s.0, s.1);
  kids_live = λ m n has.
      let r = from_node_of (get slots m.0) has.node (sym (node_at-entries slots m) ∙ has.lives) in
      let low = kid_times-member has.node.kids n has.has in
      let live = linked.kids_live m.0 n.0 r.0 r.1 (subst (λ node. 0 < kid_times n.0 node.kids) (sym r.2) low) in
      subst IsSome (sym (entry_at-entries slots n)) (seen_lives (get slots n.0) live);
  needed = λ n lives.
      let r = there n lives in
      needed n r.0 r.1 r.0.holds refl;
}
  where
    seen_lives : (s : Option Interned) → IsSome s → IsSome (seen s)
    seen_lives None h = h
    seen_lives (Some x) h = refl

    lives_seen : (s : Option Interned) → IsSome (seen s) → IsSome s
    lives_seen None h = h
    lives_seen (Some x) h = refl

    there : (n : Number) → Lives (entries slots) n → (x : Interned) × (get slots n.0 ≡ Some x)
    there n lives = from_is_some (get slots n.0) (lives_seen (get slots n.0) (subst IsSome (entry_at-entries slots n) lives))

    one_each : (n m : Number) (node : Node) → node_at (entries slots) n ≡ Some node → node_at (entries slots) m ≡ Some node → n ≡ m
    one_each n m node e f =
        let a = from_node_of (get slots n.0) node (sym (node_at-entries slots n) ∙ e) in
        let b = from_node_of (get slots m.0) node (sym (node_at-entries slots m) ∙ f) in
        let same = linked.one_number n.0 m.0 a.0 b.0 a.1 b.1 (a.2 ∙ sym b.2) in
        ap (λ k. record { 0 = k }) same

    needed : (n : Number) (x : Interned) → get slots n.0 ≡ Some x → (holds : ℕ) → x.holds ≡ holds → (0 < holds_at (entries slots) n) ⊎ ((m : Number) × HasKid (entries slots) m n)
    needed n x e (suc holds) h =
        let same : holds_at (entries slots) n ≡ x.holds = ap holds_in (entry_at-entries slots n ∙ ap seen e) in
        inl (omega arith)
    needed n x e zero h =
        let none : spent (Some x) ≡ 0 = ap spent (sym e) ∙ sym (listed.listed n.0) in
        let some : 0 < x.parents = more x.parents refl none in
        let counted = linked.parents n.0 x e in
        let p = total-some (parent_times n.0) refl slots.slots (omega arith) in
        let q = parent-there n.0 (get slots p.0) p.1 in
        inr (
          number p.0,
          record {
            node = q.0.node;
            lives = node_at-entries slots (number p.0) ∙ ap node_of q.1;
            has = member-kid_times q.0.node.kids n.0 q.2;
          },
        )
      where
        more : (parents : ℕ) → x.parents ≡ parents → spent (Some x) ≡ 0 → 0 < x.parents
        more zero f none =
            let sum : x.holds + x.parents ≡ 0 = omega arith in
            let one : one_if (x.holds + x.parents) 0 ≡ 1 = ap (λ k. one_if k 0) sum ∙ one_if-same 0 in
            omega arith
        more (suc parents) f none = omega arith

pub tidy-from_sound : (arena : Arena) → IsSound arena → IsTidy (entries arena.slots)
tidy-from_sound arena sound =
    tidy arena.slots arena.index (vec_capacity arena.dying) sound.linked (subst (λ dying. IsListed arena.slots dying (vec_capacity arena.dying)) sound.idle sound.listed)
