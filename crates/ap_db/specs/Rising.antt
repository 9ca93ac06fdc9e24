-- Rows that rise by their keys still do after a put and after a removal.
use Rattle.std.proofs.Common.{◌≡◌, Bool, true, false, cond, List, [], ◌∷◌, map, refl, ◌∙◌, ap, ◌⊎◌, inl, inr, filter}
use Rattle.std.specs.List.{AllByRecursion}
use Rattle.std.specs.List.Sorted.{IsStrictlySortedBy}
use Rattle.std.specs.Cmp.{IsTotalOrder}
use Rattle.std.specs.declared.cmp.Ordering.{Ordering}
use Rattle.std.specs.declared.cmp.Ordering.TheVariants.{Less, Equal, Greater}
use Rattle.std.specs.Ordering.{on, ordering_reverse, match_ordering}
use Rattle.ap_text.specs.Order.{put_in_order}
use Rattle.ap_db.specs.Members.{Has}

-- what is in a list after a put was put or was there
pub from_put : {X : Type 0} (cmp : X → X → Ordering) (x : X) (ys : List X) (z : X) → Has (put_in_order cmp x ys) z → (x ≡ z) ⊎ Has ys z
from_put cmp x [] z h = h
from_put cmp x (y ∷ ys) z h = step (cmp x y) (from_put cmp x ys z) h
  where
    step : (o : Ordering) → (Has (put_in_order cmp x ys) z → (x ≡ z) ⊎ Has ys z) → Has (match_ordering o (x ∷ y ∷ ys) (x ∷ ys) (y ∷ put_in_order cmp x ys)) z → (x ≡ z) ⊎ Has (y ∷ ys) z
    step Less later m = m
    step Equal later (inl e) = inl e
    step Equal later (inr m) = inr (inr m)
    step Greater later (inl e) = inr (inl e)
    step Greater later (inr m) = sort (later m)
      where
        sort : (x ≡ z) ⊎ Has ys z → (x ≡ z) ⊎ Has (y ∷ ys) z
        sort (inl e) = inl e
        sort (inr n) = inr (inr n)

module _ {X K : Type 0} (cmp : K → K → Ordering) (total_order : IsTotalOrder cmp) (key : X → K) where
  all_put : (P : K → Type 0) (x : X) (ys : List X) → P (key x) → AllByRecursion P (map key ys) → AllByRecursion P (map key (put_in_order (on key cmp) x ys))
  all_put P x [] p h = (p, tt)
  all_put P x (y ∷ ys) p h = step (cmp (key x) (key y)) (all_put P x ys p h.1)
    where
      step : (o : Ordering) → AllByRecursion P (map key (put_in_order (on key cmp) x ys)) → AllByRecursion P (map key (match_ordering o (x ∷ y ∷ ys) (x ∷ ys) (y ∷ put_in_order (on key cmp) x ys)))
      step Less rest = (p, h)
      step Equal rest = (p, h.1)
      step Greater rest = (h.0, rest)

  behind_all : (P Q : K → Type 0) (ys : List X) → ((k : K) → P k → Q k) → AllByRecursion P (map key ys) → AllByRecursion Q (map key ys)
  behind_all P Q [] f h = tt
  behind_all P Q (y ∷ ys) f h = (f (key y) h.0, behind_all P Q ys f h.1)

  pub put_keeps : (x : X) (ys : List X) → IsStrictlySortedBy cmp (map key ys) → IsStrictlySortedBy cmp (map key (put_in_order (on key cmp) x ys))
  unfolding IsStrictlySortedBy
  put_keeps x [] h = (tt, tt)
  put_keeps x (y ∷ ys) h = step (cmp (key x) (key y)) refl (put_keeps x ys h.1)
    where
      step : (o : Ordering) → cmp (key x) (key y) ≡ o → IsStrictlySortedBy cmp (map key (put_in_order (on key cmp) x ys)) → IsStrictlySortedBy cmp (map key (match_ordering o (x ∷ y ∷ ys) (x ∷ ys) (y ∷ put_in_order (on key cmp) x ys)))
      step Less e rest = ((e, behind_all (λ k. cmp (key y) k ≡ Less) (λ k. cmp (key x) k ≡ Less) ys (λ k less. total_order.trans (key x) (key y) k e less) h.0), h)
      step Equal e rest = (behind_all (λ k. cmp (key y) k ≡ Less) (λ k. cmp (key x) k ≡ Less) ys (λ k less. total_order.congr (key x) (key y) k e ∙ less) h.0, h.1)
      step Greater e rest = (all_put (λ k. cmp (key y) k ≡ Less) x ys (total_order.antisymm (key y) (key x) ∙ ap ordering_reverse e) h.0, rest)

  all_filter : (P : K → Type 0) (p : X → Bool) (ys : List X) → AllByRecursion P (map key ys) → AllByRecursion P (map key (filter p ys))
  all_filter P p [] h = tt
  all_filter P p (y ∷ ys) h = step (p y) (all_filter P p ys h.1)
    where
      step : (b : Bool) → AllByRecursion P (map key (filter p ys)) → AllByRecursion P (map key (cond b (y ∷ filter p ys) (filter p ys)))
      step true rest = (h.0, rest)
      step false rest = rest

  pub filter_keeps : (p : X → Bool) (ys : List X) → IsStrictlySortedBy cmp (map key ys) → IsStrictlySortedBy cmp (map key (filter p ys))
  unfolding IsStrictlySortedBy
  filter_keeps p [] h = tt
  filter_keeps p (y ∷ ys) h = step (p y) (filter_keeps p ys h.1)
    where
      step : (b : Bool) → IsStrictlySortedBy cmp (map key (filter p ys)) → IsStrictlySortedBy cmp (map key (cond b (y ∷ filter p ys) (filter p ys)))
      step true rest = (all_filter (λ k. cmp (key y) k ≡ Less) p ys h.0, rest)
      step false rest = rest
