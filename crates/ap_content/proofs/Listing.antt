-- The list of what has neither a hold nor a parent, after one slot changed.
use Rattle.std.proofs.Common.{◌≡◌, ◌≢◌, ℕ, ◌+◌, ◌<◌, ◌≤◌, List, [], ◌∷◌, ◌++◌, length, Option, Some, None, refl, sym, ap, subst, ◌∙◌, arith, Bool, true, false, cond, ◌==◌, length-append}
use Rattle.std.proofs.lemmas.Bool.Decides.{Decides-eqb, not_from_Decides}
use Rattle.slab.specs.Slab.{Slab, get}
use Rattle.ap_content.specs.declared.slots.Interned.{Interned}
use Rattle.ap_content.specs.Counting.{total, one_if, times, living, spent}
use Rattle.ap_content.specs.Sound.{IsListed}
use Rattle.ap_content.proofs.Totals.{total-at, total-le, total-append, spent-le-living, one_if-apart, one_if-le}

pub spent-le : (s : Option Interned) → spent s ≤ 1
spent-le None = omega arith
spent-le (Some x) = one_if-le (x.holds + x.parents) 0

pub spent-not : (s : Option Interned) → ((x : Interned) → s ≡ Some x → 0 < x.holds + x.parents) → spent s ≡ 0
spent-not None h = refl
spent-not (Some x) h = let low = h x refl in one_if-apart (x.holds + x.parents) 0 (λ e. omega arith)

module _ (old new : Slab Interned) (dying : List ℕ) (room k : ℕ) (was : IsListed old dying room)
    (others : (m : ℕ) → m ≢ k → get new m ≡ get old m) (lives : living (get new k) ≡ living (get old k)) (before : spent (get old k) ≡ 0) where
  enough : total living new.slots ≤ room
  enough =
      let at : total living new.slots + living (get old k) ≡ total living old.slots + living (get new k) = total-at living refl k old.slots new.slots (λ j ne. ap living (others j ne)) in
      let low = was.enough in
      omega arith

  spent_now : total spent new.slots + 0 ≡ total spent old.slots + spent (get new k)
  spent_now = subst (λ s. total spent new.slots + s ≡ total spent old.slots + spent (get new k)) before (total-at spent refl k old.slots new.slots (λ j ne. ap spent (others j ne)))

  -- where something holds it still, the list stays
  pub listed-same : spent (get new k) ≡ 0 → IsListed new dying room
  listed-same after = record {
    listed = λ n. step n (n == k) refl;
    as_long = let now = spent_now in let long = was.as_long in omega arith;
    enough = enough;
  }
    where
      step : (n : ℕ) (b : Bool) → n == k ≡ b → times n dying ≡ spent (get new n)
      step n true e =
          let same = (Decides-eqb n k).0 e in
          was.listed n ∙ ap (λ m. spent (get old m)) same ∙ before ∙ sym after ∙ ap (λ m. spent (get new m)) (sym same)
      step n false e =
          let apart : n ≢ k = not_from_Decides (n == k) (Decides-eqb n k) e in
          was.listed n ∙ ap spent (sym (others n apart))

  -- where nothing does, it is listed too
  pub listed-more : spent (get new k) ≡ 1 → IsListed new (dying ++ k ∷ []) room
  listed-more after = record {
    listed = λ n. total-append (one_if n) dying (k ∷ []) ∙ step n (n == k) refl;
    as_long = let now = spent_now in let long = was.as_long in let more = length-append dying (k ∷ []) in omega arith;
    enough = enough;
  }
    where
      step : (n : ℕ) (b : Bool) → n == k ≡ b → times n dying + times n (k ∷ []) ≡ spent (get new n)
      step n true e =
          let same = (Decides-eqb n k).0 e in
          let none : times n dying ≡ 0 = was.listed n ∙ ap (λ m. spent (get old m)) same ∙ before in
          let one : one_if n k ≡ 1 = ap (λ b. cond b 1 0) e in
          let now : spent (get new n) ≡ 1 = ap (λ m. spent (get new m)) same ∙ after in
          omega arith
      step n false e =
          let apart : n ≢ k = not_from_Decides (n == k) (Decides-eqb n k) e in
          let none : one_if n k ≡ 0 = one_if-apart n k apart in
          let same : times n dying ≡ spent (get new n) = was.listed n ∙ ap spent (sym (others n apart)) in
          omega arith

  pub list-room : spent (get new k) ≡ 1 → length dying < room
  list-room after =
      let now = spent_now in
      let long = was.as_long in
      let most = total-le spent living spent-le-living new.slots in
      let low = enough in
      omega arith
