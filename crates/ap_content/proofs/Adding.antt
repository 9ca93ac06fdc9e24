-- An arena with nothing in it, with more room, and with one thing more.
use Rattle.std.proofs.Common.{◌≡◌, ◌≢◌, ℕ, zero, suc, ◌+◌, ◌^◌, ◌<◌, ◌≤◌, List, [], Option, Some, None, IsSome, get_or, refl, sym, ap, subst, ◌∙◌, ⊎_elim, arith, length}
use Rattle.slab.specs.Slab.{Slab, get, slab_len, Updates}
use Rattle.sha1.specs.Sha1.{sha1}
use Rattle.ap_content.specs.declared.node.Number.{Number}
use Rattle.ap_content.specs.declared.node.Node.{Node}
use Rattle.ap_content.specs.declared.index.Index.{Index}
use Rattle.ap_content.specs.declared.slots.Interned.{Interned}
use Rattle.ap_content.specs.Things.{thing, digested, digest, number_of_kids}
use Rattle.ap_content.specs.Entries.{holds_at, holds_in, one_more, Gains, Stands}
use Rattle.ap_content.specs.Counting.{total, times, kid_times, living, spent, raised, one_if}
use Rattle.ap_content.specs.Finding.{Finds, FindsSame, FindsToo}
use Rattle.ap_content.specs.Sound.{seen, entries, number, kid_digests, IsLinked, IsListed}
use Rattle.ap_content.proofs.Totals.{equal_or_not, total-same, total-zero, one_if-same, one_if-apart}
use Rattle.ap_content.proofs.Listing.{spent-not}
use Rattle.ap_content.proofs.Seeing.{entry_at-entries, node_at-entries, node_of, from_is_some, each-stands}
use Rattle.ap_content.proofs.Tidying.{one_thing}
use Rattle.ap_content.proofs.Seeing.{kid_times-member}
use Rattle.ap_content.proofs.Linking.{bare, linked-same, linked-grown}
use Rattle.ap_content.proofs.Changing.{total-living, apart_number}

-- nothing lives in no slots
module _ (slots : Slab Interned) (index : Index) (none : slots.slots ≡ []) (finds_none : (d : List ℕ) (n : ℕ) → Finds index d n → ⊥) where
  no_slot : (n : ℕ) (x : Interned) → get slots n ≡ Some x → ⊥
  no_slot n x e = let never : None ≡ Some x = sym (ap (λ xs. get_or xs n None) none) ∙ e in cc

  pub linked-empty : IsLinked slots index
  linked-empty = record {
    one_number = λ n m x y e f node. absurd (no_slot n x e);
    kids_live = λ n k x e low. absurd (no_slot n x e);
    parents = λ n x e. absurd (no_slot n x e);
    fit = λ n x e. absurd (no_slot n x e);
    stands = λ n x e. absurd (no_slot n x e);
    found = λ n x e. absurd (no_slot n x e);
    finds = λ d n f. absurd (finds_none d n f);
  }

  pub listed-empty : (dying : List ℕ) (room : ℕ) → dying ≡ [] → IsListed slots dying room
  listed-empty dying room idle = record {
    listed = λ n. ap (times n) idle ∙ sym (ap (λ xs. spent (get_or xs n None)) none);
    as_long = ap length idle ∙ sym (ap (total spent) none);
    enough = let nothing : total living slots.slots ≡ 0 = ap (total living) none in omega arith;
  }

-- more room for the slots and for what is listed
pub linked-moved : (old new : Slab Interned) (index later : Index) → new.slots ≡ old.slots → IsLinked old index → FindsSame index later → IsLinked new later
linked-moved old new index later same linked found = linked-same old new index later linked found (λ n. ap (λ xs. bare (get_or xs n None)) same)

pub listed-moved : (old new : Slab Interned) (dying moved : List ℕ) (room more : ℕ) → new.slots ≡ old.slots → moved ≡ dying → room ≤ more → IsListed old dying room → IsListed new moved more
listed-moved old new dying moved room more same items grows listed = record {
  listed = λ n. ap (times n) items ∙ listed.listed n ∙ sym (ap (λ xs. spent (get_or xs n None)) same);
  as_long = ap length items ∙ listed.as_long ∙ sym (ap (total spent) same);
  enough = let low = listed.enough in let all : total living new.slots ≡ total living old.slots = ap (total living) same in omega arith;
}

-- the digest of what lives, from its node
pub digest-from_node : (slots : Slab Interned) (index : Index) → IsLinked slots index → (n : ℕ) (x : Interned) → get slots n ≡ Some x
    → x.digest ≡ sha1 (digested x.node.tag x.node.text (length x.node.kids) (kid_digests slots x.node.kids))
digest-from_node slots index linked n x e =
    let s = linked.stands n x e in
    let each = each-stands slots x.node.kids (λ k has.
    let y = from_is_some (get slots k.0) (linked.kids_live n k.0 x e (kid_times-member x.node.kids k has)) in
    let t = linked.stands k.0 y.0 y.1 in
    (y.0, y.1, t.0, t.1, t.2)) in
    let whole : Stands (entries slots) (number n) (thing x.node.tag x.node.text each.0) = (x.node, node_at-entries slots (number n) ∙ ap node_of e, refl, refl, each.1) in
    let same = one_thing (entries slots) s.0 (thing x.node.tag x.node.text each.0) (number n) s.1 whole in
    s.2 ∙ ap digest same
    ∙ ap (λ ds. sha1 (digested x.node.tag x.node.text (number_of_kids each.0) ds)) (sym each.2)
    ∙ ap (λ count. sha1 (digested x.node.tag x.node.text count (kid_digests slots x.node.kids))) (sym each.3)

-- one thing more: the slots are moved, one is filled, and each kid has its parents more
module _ (old moved mid new : Slab Interned) (index later : Index) (n : ℕ) (i : Interned) (kids : List Number) (linked : IsLinked old index)
    (same : moved.slots ≡ old.slots) (vacant : get moved n ≡ None) (puts : Updates moved mid n (Some i)) (young : i.parents ≡ 0) (held_once : i.holds ≡ 1)
    (kids_are : i.node.kids ≡ kids) (raises : (m : ℕ) → get new m ≡ raised (kid_times m kids) (get mid m))
    (kids_live : (k : ℕ) → 0 < kid_times k kids → IsSome (get old k)) where
  at_old : (m : ℕ) → get moved m ≡ get old m
  at_old m = ap (λ xs. get_or xs m None) same

  vacant_old : get old n ≡ None
  vacant_old = sym (at_old n) ∙ vacant

  live_then : (k : ℕ) → 0 < kid_times k i.node.kids → IsSome (get old k)
  live_then k low = kids_live k (subst (λ ks. 0 < kid_times k ks) kids_are low)

  none_own : (k : ℕ) → kid_times n kids ≡ k → kid_times n kids ≡ 0
  none_own zero e = e
  none_own (suc k) e =
      let live = from_is_some (get old n) (kids_live n (omega arith)) in
      let never : None ≡ Some live.0 = sym vacant_old ∙ live.1 in
      absurd (cc)

  raised-none : (k : ℕ) (s : Option Interned) → k ≡ 0 → raised k s ≡ s
  raised-none k None e = refl
  raised-none k (Some x) e = let p : x.parents + k ≡ x.parents = omega arith in ap (λ q. Some (record x { parents = q })) p

  here : get new n ≡ Some i
  here = raises n ∙ raised-none (kid_times n kids) (get mid n) (none_own (kid_times n kids) refl) ∙ puts.changed

  others : (m : ℕ) → m ≢ n → get new m ≡ raised (kid_times m i.node.kids) (get old m)
  others m apart = raises m ∙ ap (λ ks. raised (kid_times m ks) (get mid m)) (sym kids_are) ∙ ap (raised (kid_times m i.node.kids)) (puts.others m apart ∙ at_old m)

  pub linked-added : (node : Node) → i.node ≡ node → FindsToo index later i.digest n
      → ((m : ℕ) (x : Interned) → get old m ≡ Some x → x.node ≢ node)
      → ((m : ℕ) (x : Interned) → get old m ≡ Some x → x.parents + kid_times m kids < 2 ^ 64)
      → i.digest ≡ sha1 (digested node.tag node.text (length node.kids) (kid_digests old node.kids))
      → IsLinked new later
  linked-added node node_is finds fresh room digested_so =
      linked-grown old new index later n i linked vacant_old here young others finds live_then
      (λ m x e f. fresh m x e (f ∙ node_is))
      (λ m x e. subst (λ ks. x.parents + kid_times m ks < 2 ^ 64) (sym kids_are) (room m x e))
      (digested_so ∙ ap (λ w. sha1 (digested w.tag w.text (length w.kids) (kid_digests old w.kids))) (sym node_is))

  spent-raised : (k : ℕ) (s : Option Interned) → spent s ≡ 0 → spent (raised k s) ≡ 0
  spent-raised k None e = refl
  spent-raised k (Some x) e = spent-not (Some (record x { parents = x.parents + k })) (λ y f. still y (x.holds + x.parents) refl f)
    where
      still : (y : Interned) (sum : ℕ) → x.holds + x.parents ≡ sum → Some (record x { parents = x.parents + k }) ≡ Some y → 0 < y.holds + y.parents
      still y zero s f = let one : spent (Some x) ≡ 1 = ap (λ h. one_if h 0) s ∙ one_if-same 0 in absurd (omega arith)
      still y (suc sum) s f = let same : x.holds + (x.parents + k) ≡ y.holds + y.parents = ap (λ z. sum_of z) f in omega arith
        where
          sum_of : Option Interned → ℕ
          sum_of None = 0
          sum_of (Some z) = z.holds + z.parents

  living-raised : (k : ℕ) (s : Option Interned) → living (raised k s) ≡ living s
  living-raised k None = refl
  living-raised k (Some x) = refl

  pub listed-added : (dying later_dying : List ℕ) (room more : ℕ) → IsListed old dying room → dying ≡ [] → later_dying ≡ [] → slab_len mid ≤ more → IsListed new later_dying more
  listed-added dying later_dying room more listed idle later_idle enough = record {
    listed = λ m. ap (times m) later_idle ∙ sym (nothing m);
    as_long = ap length later_idle ∙ sym (total-zero spent refl new.slots nothing);
    enough =
        let all = total-same living refl mid.slots new.slots (λ j. ap living (raises j) ∙ living-raised (kid_times j kids) (get mid j)) in
        let count = total-living mid in
        omega arith;
  }
    where
      nothing : (m : ℕ) → spent (get new m) ≡ 0
      nothing m = ⊎_elim
          (λ at. ap (λ k. spent (get new k)) at ∙ ap spent here ∙ held)
          (λ apart. ap spent (others m apart) ∙ spent-raised (kid_times m i.node.kids) (get old m) (sym (listed.listed m) ∙ ap (times m) idle))
          (equal_or_not m n)
        where
          held : spent (Some i) ≡ 0
          held = one_if-apart (i.holds + i.parents) 0 (λ e. omega arith)

  pub gains-added : (node : Node) → i.node ≡ node → Gains (entries old) (entries new) (number n) node
  gains-added node node_is = record {
    held = entry_at-entries new (number n) ∙ ap seen here ∙ ap (λ w. Some (record { node = w; holds = i.holds })) node_is
        ∙ ap (λ h. Some (record { node = node; holds = h })) (held_once ∙ sym (ap one_more none_before));
    was = λ entry f. let never : Some entry ≡ None = sym f ∙ entry_at-entries old (number n) ∙ ap seen vacant_old in absurd (cc);
    others = λ m apart. entry_at-entries new m ∙ ap seen (others m.0 (apart_number m n apart)) ∙ seen-raised (kid_times m.0 i.node.kids) (get old m.0) ∙ sym (entry_at-entries old m);
  }
    where
      none_before : holds_at (entries old) (number n) ≡ 0
      none_before = ap holds_in (entry_at-entries old (number n) ∙ ap seen vacant_old)

      seen-raised : (k : ℕ) (s : Option Interned) → seen (raised k s) ≡ seen s
      seen-raised k None = refl
      seen-raised k (Some x) = refl
