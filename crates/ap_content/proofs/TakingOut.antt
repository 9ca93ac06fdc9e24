-- Taking out what has neither a hold nor a parent.
use Rattle.std.proofs.Common.{◌≡◌, ◌≢◌, ℕ, ◌+◌, ◌≤◌, List, [], ◌∷◌, ◌++◌, Option, Some, None, IsSome, refl, sym, ap, ◌∙◌, ⊎_elim, arith, length-append}
use Rattle.slab.specs.Slab.{Slab, get, Updates}
use Rattle.ap_content.specs.declared.node.Number.{Number}
use Rattle.ap_content.specs.declared.node.Node.{Node}
use Rattle.ap_content.specs.declared.index.Index.{Index}
use Rattle.ap_content.specs.declared.slots.Interned.{Interned}
use Rattle.ap_content.specs.Counting.{total, times, kid_times, parent_times, living, spent, lowered, one_if}
use Rattle.ap_content.specs.Finding.{Forgets}
use Rattle.ap_content.specs.Sound.{IsLinked, IsListed, Thins}
use Rattle.ap_content.proofs.Totals.{equal_or_not, total-at, total-same, total-append, one_if-same, one_if-apart, same-one_if}
use Rattle.ap_content.proofs.Listing.{spent-le}
use Rattle.ap_content.proofs.Linking.{linked-shrunk}

-- what is listed last is listed once, and has neither a hold nor a parent
pub last-spent : (slots : Slab Interned) (dying : List ℕ) (n room : ℕ) → IsListed slots (dying ++ n ∷ []) room → (spent (get slots n) ≡ 1) × (times n dying ≡ 0)
last-spent slots dying n room listed =
    let at : times n dying + times n (n ∷ []) ≡ spent (get slots n) = sym (total-append (one_if n) dying (n ∷ [])) ∙ listed.listed n in
    let one = one_if-same n in
    let most = spent-le (get slots n) in
    (omega arith, omega arith)

pub some-spent : (s : Option Interned) → spent s ≡ 1 → IsSome s
some-spent None h = absurd (omega arith)
some-spent (Some x) h = refl

pub alone-spent : (slots : Slab Interned) (n : ℕ) (i : Interned) → get slots n ≡ Some i → spent (get slots n) ≡ 1 → (i.holds ≡ 0) × (i.parents ≡ 0)
alone-spent slots n i was h =
    let one : one_if (i.holds + i.parents) 0 ≡ 1 = sym (ap spent was) ∙ h in
    let none = same-one_if (i.holds + i.parents) 0 (omega arith) in
    (omega arith, omega arith)

module _ (old mid : Slab Interned) (n : ℕ) (i : Interned) (was : get old n ≡ Some i) (out : Updates old mid n None) where
  pub listed-out : (dying : List ℕ) (room : ℕ) → IsListed old (dying ++ n ∷ []) room → IsListed mid dying room
  listed-out dying room listed = record {
    listed = λ m. ⊎_elim
        (λ same. ap (λ k. times k dying) same ∙ last.1 ∙ sym (ap spent (ap (get mid) same ∙ out.changed)))
        (λ apart.
        let none = one_if-apart m n apart in
        let all : times m dying + times m (n ∷ []) ≡ spent (get old m) = sym (total-append (one_if m) dying (n ∷ [])) ∙ listed.listed m in
        let now : spent (get mid m) ≡ spent (get old m) = ap spent (out.others m apart) in
        omega arith)
        (equal_or_not m n);
    as_long =
        let long = listed.as_long in
        let more = length-append dying (n ∷ []) in
        let at : total spent mid.slots + spent (get old n) ≡ total spent old.slots + spent (get mid n) = total-at spent refl n old.slots mid.slots (λ j ne. ap spent (out.others j ne)) in
        let none : spent (get mid n) ≡ 0 = ap spent out.changed in
        let one = last.0 in
        omega arith;
    enough = let one = fewer in let low = listed.enough in omega arith;
  }
    where
      last : (spent (get old n) ≡ 1) × (times n dying ≡ 0)
      last = last-spent old dying n room listed

      fewer : total living mid.slots + 1 ≡ total living old.slots
      fewer =
          let at : total living mid.slots + living (get old n) ≡ total living old.slots + living (get mid n) = total-at living refl n old.slots mid.slots (λ j ne. ap living (out.others j ne)) in
          let none : living (get mid n) ≡ 0 = ap living out.changed in
          let one : living (get old n) ≡ 1 = ap living was in
          omega arith

  -- what is left has each kid of what was taken out as one parent more for each time
  pub parents-enough : (index : Index) → IsLinked old index → (m : ℕ) (x : Interned) → get mid m ≡ Some x → kid_times m i.node.kids ≤ x.parents
  parents-enough index linked m x e =
      let apart : m ≢ n = λ same. differ (sym out.changed ∙ ap (get mid) (sym same) ∙ e) in
      let counted = linked.parents m x (sym (out.others m apart) ∙ e) in
      let at : total (parent_times m) mid.slots + parent_times m (get old n) ≡ total (parent_times m) old.slots + parent_times m (get mid n) =
      total-at (parent_times m) refl n old.slots mid.slots (λ j ne. ap (parent_times m) (out.others j ne)) in
      let here : parent_times m (get old n) ≡ kid_times m i.node.kids = ap (parent_times m) was in
      let none : parent_times m (get mid n) ≡ 0 = ap (parent_times m) out.changed in
      omega arith
    where
      differ : None ≡ Some x → ⊥
      differ e = cc

  module _ (new : Slab Interned) (kids : List Number) (kids_are : kids ≡ i.node.kids) (lowers : (m : ℕ) → get new m ≡ lowered (kid_times m kids) (get mid m)) where
    gone_now : get new n ≡ None
    gone_now = lowers n ∙ ap (lowered (kid_times n kids)) out.changed

    others_now : (m : ℕ) → m ≢ n → get new m ≡ lowered (kid_times m i.node.kids) (get old m)
    others_now m apart = lowers m ∙ ap (λ ks. lowered (kid_times m ks) (get mid m)) kids_are ∙ ap (lowered (kid_times m i.node.kids)) (out.others m apart)

    pub linked-out : (index later : Index) → IsLinked old index → i.parents ≡ 0 → Forgets index later n → IsLinked new later
    linked-out index later linked alone forgets = linked-shrunk old new index later n i linked was alone gone_now others_now forgets

    pub fewer-out : total living new.slots + 1 ≡ total living old.slots
    fewer-out =
        let at : total living mid.slots + living (get old n) ≡ total living old.slots + living (get mid n) = total-at living refl n old.slots mid.slots (λ j ne. ap living (out.others j ne)) in
        let none : living (get mid n) ≡ 0 = ap living out.changed in
        let one : living (get old n) ≡ 1 = ap living was in
        let same = total-same living refl mid.slots new.slots (λ j. ap living (lowers j) ∙ living-lowered (kid_times j kids) (get mid j)) in
        omega arith
      where
        living-lowered : (k : ℕ) (s : Option Interned) → living (lowered k s) ≡ living s
        living-lowered k None = refl
        living-lowered k (Some x) = refl

    pub thins-out : i.holds ≡ 0 → Thins old new
    thins-out unheld = record {
      kept = λ m y e. ⊎_elim
          (λ same. let never : None ≡ Some y = sym gone_now ∙ ap (get new) (sym same) ∙ e in absurd (cc))
          (λ apart. kept (kid_times m i.node.kids) (get old m) y (sym (others_now m apart) ∙ e))
          (equal_or_not m n);
      gone = λ m x e f. ⊎_elim
          (λ same. ap (λ s. holds_of s) (sym e ∙ ap (get old) same ∙ was) ∙ unheld)
          (λ apart. let never : None ≡ lowered (kid_times m i.node.kids) (Some x) = sym f ∙ others_now m apart ∙ ap (lowered (kid_times m i.node.kids)) e in absurd (cc))
          (equal_or_not m n);
    }
      where
        holds_of : Option Interned → ℕ
        holds_of None = 0
        holds_of (Some z) = z.holds

        kept : (k : ℕ) (s : Option Interned) (y : Interned) → lowered k s ≡ Some y → (x : Interned) × (s ≡ Some x) × (y.node ≡ x.node) × (y.holds ≡ x.holds)
        kept k None y e = absurd (cc)
        kept k (Some x) y e = (x, refl, node_same, ap (λ s. holds_of s) (sym e))
          where
            node_same : y.node ≡ x.node
            node_same = ap (λ s. node_of s) (sym e)
              where
                node_of : Option Interned → Node
                node_of None = x.node
                node_of (Some z) = z.node
