-- What contracts see of a change of one slot's holds, and of slots that are taken out.
use Rattle.std.proofs.Common.{◌≡◌, ◌≢◌, ℕ, ◌+◌, ◌<◌, List, [], ◌∷◌, Option, Some, None, IsSome, is_some, refl, sym, ap, subst, ◌∙◌, ⊎_elim, arith, cond}
use Rattle.std.proofs.lemmas.Bool.Decides.{nat_tests}
use Rattle.std.proofs.lemmas.List.Recursion.{is_count_by}
use Rattle.slab.specs.Slab.{Slab, get, slab_len}
use Rattle.ap_content.specs.declared.node.Number.{Number}
use Rattle.ap_content.specs.declared.node.Node.{Node}
use Rattle.ap_content.specs.declared.index.Index.{Index}
use Rattle.ap_content.specs.declared.slots.Interned.{Interned}
use Rattle.ap_content.specs.Entries.{Entry, entry_at, holds_at, holds_in, one_more, one_less, Gains, Loses}
use Rattle.ap_content.specs.Counting.{total, times, living, spent, with_more, with_less}
use Rattle.ap_content.specs.Finding.{FindsSame}
use Rattle.ap_content.specs.Sound.{seen, entries, number, IsLinked, IsListed, Thins}
use Rattle.ap_content.proofs.Totals.{equal_or_not, one_if-apart}
use Rattle.ap_content.proofs.Listing.{listed-same}
use Rattle.ap_content.proofs.Seeing.{entry_at-entries, node_at-entries, node_of}
use Rattle.ap_content.proofs.Linking.{bare, linked-same}

pub finds_itself : (index : Index) → FindsSame index index
finds_itself index = record { still = λ d m f. f; only = λ d m f. f }

one_more-some : (h : ℕ) → 0 < one_more h
one_more-some h = grind (arith, nat_tests)

bare-more : (s : Option Interned) → bare (with_more s) ≡ bare s
bare-more None = refl
bare-more (Some x) = refl

bare-less : (s : Option Interned) → bare (with_less s) ≡ bare s
bare-less None = refl
bare-less (Some x) = refl

pub apart_number : (m : Number) (n : ℕ) → m ≢ number n → m.0 ≢ n
apart_number m n apart same = apart (ap (λ k. record { 0 = k }) same)

-- one slot has one hold more or less, and the others are as before
module _ (old new : Slab Interned) (index : Index) (n : ℕ) (change : Option Interned → Option Interned) (keeps : (s : Option Interned) → bare (change s) ≡ bare s)
    (linked : IsLinked old index) (here : get new n ≡ change (get old n)) (others : (m : ℕ) → m ≢ n → get new m ≡ get old m) where
  pub linked-changed : IsLinked new index
  linked-changed = linked-same old new index index linked (finds_itself index) (λ m. ⊎_elim
      (λ same. ap (λ k. bare (get new k)) same ∙ ap bare here ∙ keeps (get old n) ∙ ap (λ k. bare (get old k)) (sym same))
      (λ apart. ap bare (others m apart))
      (equal_or_not m n))

pub linked-more : (old new : Slab Interned) (index : Index) (n : ℕ) → IsLinked old index → get new n ≡ with_more (get old n) → ((m : ℕ) → m ≢ n → get new m ≡ get old m) → IsLinked new index
linked-more old new index n = linked-changed old new index n with_more bare-more

pub linked-less : (old new : Slab Interned) (index : Index) (n : ℕ) → IsLinked old index → get new n ≡ with_less (get old n) → ((m : ℕ) → m ≢ n → get new m ≡ get old m) → IsLinked new index
linked-less old new index n = linked-changed old new index n with_less bare-less

module _ (old new : Slab Interned) (n : ℕ) (here : get new n ≡ with_more (get old n)) (others : (m : ℕ) → m ≢ n → get new m ≡ get old m) where
  pub gains-more : (x : Interned) → get old n ≡ Some x → Gains (entries old) (entries new) (number n) x.node
  gains-more x e = record {
    held = entry_at-entries new (number n) ∙ ap seen (here ∙ ap with_more e)
        ∙ ap (λ h. Some (record { node = x.node; holds = one_more h })) (sym (ap holds_in before));
    was = λ entry f. let same : Some entry ≡ Some (record { node = x.node; holds = x.holds }) = sym f ∙ before in node_same entry same;
    others = λ m apart. entry_at-entries new m ∙ ap seen (others m.0 (apart_number m n apart)) ∙ sym (entry_at-entries old m);
  }
    where
      before : entry_at (entries old) (number n) ≡ seen (Some x)
      before = entry_at-entries old (number n) ∙ ap seen e

      node_in : Option Entry → Node
      node_in None = x.node
      node_in (Some entry) = entry.node

      node_same : (entry : Entry) → Some entry ≡ Some (record { node = x.node; holds = x.holds }) → entry.node ≡ x.node
      node_same entry same = ap node_in same

  pub listed-held : (dying : List ℕ) (room : ℕ) → IsListed old dying room → dying ≡ [] → IsListed new dying room
  listed-held dying room listed idle =
      let before : spent (get old n) ≡ 0 = sym (listed.listed n) ∙ ap (times n) idle in
      listed-same old new dying room n listed others (ap living here ∙ living-more (get old n)) before (ap spent here ∙ held (get old n))
    where
      living-more : (s : Option Interned) → living (with_more s) ≡ living s
      living-more None = refl
      living-more (Some x) = refl

      held : (s : Option Interned) → spent (with_more s) ≡ 0
      held None = refl
      held (Some x) = let low = one_more-some x.holds in one_if-apart (one_more x.holds + x.parents) 0 (λ e. omega arith)

-- thinning
pub thins-none : (slots : Slab Interned) → Thins slots slots
thins-none slots = record {
  kept = λ n y e. (y, e, refl, refl);
  gone = λ n x e f. let never : Some x ≡ None = sym e ∙ f in absurd (cc);
}

pub thins-more : (a b c : Slab Interned) → Thins a b → Thins b c → Thins a c
thins-more a b c first second = record {
  kept = λ n z e.
      let y = second.kept n z e in
      let x = first.kept n y.0 y.1 in
      (x.0, x.1, y.2 ∙ x.2, y.3 ∙ x.3);
  gone = λ n x e f. between n x e f (get b n) refl;
}
  where
    between : (n : ℕ) (x : Interned) → get a n ≡ Some x → get c n ≡ None → (s : Option Interned) → get b n ≡ s → x.holds ≡ 0
    between n x e f None g = first.gone n x e g
    between n x e f (Some y) g =
        let p = first.kept n y g in
        let same : Some x ≡ Some p.0 = sym e ∙ p.1 in
        holds_same x p.0 same ∙ sym p.3 ∙ second.gone n y g f
      where
        holds_same : (x y : Interned) → Some x ≡ Some y → x.holds ≡ y.holds
        holds_same x y e = ap (λ s. holds_of s) e
          where
            holds_of : Option Interned → ℕ
            holds_of None = 0
            holds_of (Some z) = z.holds

-- a hold less, and then some are taken out
module _ (old mid new : Slab Interned) (n : ℕ) (here : get mid n ≡ with_less (get old n)) (others : (m : ℕ) → m ≢ n → get mid m ≡ get old m) (thins : Thins mid new) where
  holds_seen : (slots : Slab Interned) (m : Number) → holds_at (entries slots) m ≡ holds_in (seen (get slots m.0))
  holds_seen slots m = ap holds_in (entry_at-entries slots m)

  thinned : (m : ℕ) (s t : Option Interned) → get mid m ≡ s → get new m ≡ t → holds_in (seen t) ≡ holds_in (seen s)
  thinned m None None e f = refl
  thinned m None (Some y) e f = let p = thins.kept m y f in let never : None ≡ Some p.0 = sym e ∙ p.1 in absurd (cc)
  thinned m (Some x) None e f = sym (thins.gone m x e f)
  thinned m (Some x) (Some y) e f = let p = thins.kept m y f in let same : Some x ≡ Some p.0 = sym e ∙ p.1 in p.3 ∙ sym (ap (λ s. holds_in (seen s)) same)

  less : (s : Option Interned) → holds_in (seen (with_less s)) ≡ one_less (holds_in (seen s))
  less None = refl
  less (Some x) = refl

  node_of-less : (s : Option Interned) → node_of (with_less s) ≡ node_of s
  node_of-less None = refl
  node_of-less (Some x) = refl

  node_mid : (m : ℕ) → node_of (get mid m) ≡ node_of (get old m)
  node_mid m = ⊎_elim
      (λ same. ap (λ k. node_of (get mid k)) same ∙ ap node_of here ∙ node_of-less (get old n) ∙ ap (λ k. node_of (get old k)) (sym same))
      (λ apart. ap node_of (others m apart))
      (equal_or_not m n)

  node_thin : (m : ℕ) (t : Option Interned) → get new m ≡ t → IsSome (seen t) → node_of t ≡ node_of (get mid m)
  node_thin m None e lives = absurd (cc)
  node_thin m (Some y) e lives = let p = thins.kept m y e in ap (λ node. Some node) p.2 ∙ sym (ap node_of p.1)

  pub loses-less : Loses (entries old) (entries new) (number n)
  loses-less = record {
    held = holds_seen new (number n) ∙ thinned n (get mid n) (get new n) refl refl ∙ ap (λ s. holds_in (seen s)) here ∙ less (get old n)
        ∙ ap one_less (sym (holds_seen old (number n)));
    others = λ m apart. holds_seen new m ∙ thinned m.0 (get mid m.0) (get new m.0) refl refl ∙ ap (λ s. holds_in (seen s)) (others m.0 (apart_number m n apart))
        ∙ sym (holds_seen old m);
    nodes = λ m lives. node_at-entries new m ∙ node_thin m.0 (get new m.0) refl (subst IsSome (entry_at-entries new m) lives) ∙ node_mid m.0 ∙ sym (node_at-entries old m);
  }

-- as many live as the slab counts
pub total-living : (slots : Slab Interned) → total living slots.slots ≡ slab_len slots
total-living slots = is_count_by (total living) is_some refl step slots.slots
  where
    step : (x : Option Interned) (xs : List (Option Interned)) → total living (x ∷ xs) ≡ cond (is_some x) (1 + total living xs) (total living xs)
    step None xs = omega arith
    step (Some x) xs = refl
