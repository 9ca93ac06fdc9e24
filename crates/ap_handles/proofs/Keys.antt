-- The order of keys, and what is found in an index.
use Rattle.std.proofs.Common.{◌≡◌, ℕ, zero, suc, ◌<◌, ◌==◌, ◌&&◌, List, [], ◌∷◌, length, map, get_or, Bool, true, false, Some, None, refl, sym, ap, ◌∙◌, subst, arith, cond, eq-eqb, ◌||◌, ◌⊎◌}
use mathlib.Core.Bool.{false≢true}
use Rattle.std.proofs.lemmas.List.{length-map, get_or-map, get_or_default}
use Rattle.std.proofs.lemmas.Bool.{cases_lt}
use Rattle.std.proofs.lemmas.Bool.Decides.{Decides-eqb}
use Rattle.std.proofs.Common.{inl, inr, ⊎_elim}
use Rattle.std.specs.Prelude.{find, Contains, bytes_eq}
use Rattle.std.specs.List.{list_any}
use Rattle.std.specs.List.Sorted.{IsNonDecreasingBy, IsPartitionPoint}
use Rattle.std.specs.Ordering.{ordering_then, ordering_index}
use Rattle.std.specs.Cmp.{IsTotalOrder}
use Rattle.std.specs.declared.cmp.Ordering.{Ordering}
use Rattle.std.specs.declared.cmp.Ordering.TheVariants.{Less, Equal, Greater}
use Rattle.std.proofs.lemmas.Cmp.{on_total, then_total, nat_cmp_total, nat_list_cmp_total, tied_itself}
use Rattle.std.proofs.lemmas.Map.Lookups.{exact_bytes, exact_unsigned}
use Rattle.std.proofs.lemmas.List.Sorted.{Contains-permutation, IsPermutation-sym, length_permutation, searchable_from_sorted}
use Rattle.std.proofs.lemmas.Slice.Eq.{bytes_eq-Decides}
use Rattle.ap_text.specs.declared.job_id.AssetId.{AssetId}
use Rattle.ap_handles.specs.declared.entry.HallEntry.{HallEntry}
use Rattle.ap_handles.specs.Machine.{is_of}
use Rattle.ap_handles.specs.Publishing.{AreDistinct}
use Rattle.ap_handles.specs.Index.{key, key_of, key_cmp, IsIndexOf}

pub key_cmp_total : IsTotalOrder key_cmp
key_cmp_total = then_total (on_total (λ k. k.platform) nat_list_cmp_total) (then_total (on_total (λ k. k.id.uuid) nat_list_cmp_total) (on_total (λ k. k.id.sub) nat_cmp_total))

then_equal : (a b : Ordering) → ordering_then a b ≡ Equal → (a ≡ Equal) × (b ≡ Equal)
then_equal Less b e = (e, absurd (cc e))
then_equal Equal b e = (refl, e)
then_equal Greater b e = (e, absurd (cc e))

-- where keys tie, the entry is the one that is asked for
pub same_key : (platform : List ℕ) (id : AssetId) (e : HallEntry) → key_cmp (key_of e) (key platform id) ≡ Equal → is_of platform id e ≡ true
same_key platform id e t =
    let parts = then_equal _ _ t in
    let parts' = then_equal _ _ parts.1 in
    let a : bytes_eq e.platform platform ≡ true = (bytes_eq-Decides e.platform platform).1 (exact_bytes _ _ parts.0) in
    let b : bytes_eq e.id.uuid id.uuid ≡ true = (bytes_eq-Decides e.id.uuid id.uuid).1 (exact_bytes _ _ parts'.0) in
    let c : (e.id.sub == id.sub) ≡ true = eq-eqb e.id.sub id.sub (exact_unsigned _ _ parts'.1) in
    rw (a, b, c) refl

-- the parts of the key of an entry that is asked for
same_parts : (platform : List ℕ) (id : AssetId) (e : HallEntry) → is_of platform id e ≡ true → (e.platform ≡ platform) × (e.id.uuid ≡ id.uuid) × (e.id.sub ≡ id.sub)
same_parts platform id e is =
    let a = both_true (bytes_eq e.platform platform) (bytes_eq e.id.uuid id.uuid && e.id.sub == id.sub) is in
    let b = both_true (bytes_eq e.id.uuid id.uuid) (e.id.sub == id.sub) a.1 in
    ((bytes_eq-Decides e.platform platform).0 a.0, (bytes_eq-Decides e.id.uuid id.uuid).0 b.0, (Decides-eqb e.id.sub id.sub).0 b.1)
  where
    both_true : (a b : Bool) → (a && b) ≡ true → (a ≡ true) × (b ≡ true)
    both_true true b e = (refl, e)
    both_true false b e = absurd (false≢true e)

-- the keys of entries that are asked for tie
asked_ties : (platform : List ℕ) (id : AssetId) (e : HallEntry) → is_of platform id e ≡ true → key_cmp (key_of e) (key platform id) ≡ Equal
asked_ties platform id e is = let p = same_parts platform id e is in rw (p.0, p.1, p.2) (tied_itself key_cmp_total (key platform id))

-- two entries that are asked for have one key
one_key : (platform : List ℕ) (id : AssetId) (x e : HallEntry) → is_of platform id x ≡ true → is_of platform id e ≡ true → is_of x.platform x.id e ≡ true
one_key platform id x e is is' = let p = same_parts platform id x is in rw (p.0, p.1, p.2) is'

any_at : {X : Type 0} (p : X → Bool) (xs : List X) (k : ℕ) (d : X) → k < length xs → p (get_or xs k d) ≡ true → list_any p xs ≡ true
any_at p [] k d lt is = absurd (omega (arith, lt))
any_at p (x ∷ xs) zero d lt is = rw is refl
any_at p (x ∷ xs) (suc k) d lt is = first_or (p x) (list_any p xs) (any_at p xs k d (omega (arith, lt)) is)
  where
    first_or : (a b : Bool) → b ≡ true → (a || b) ≡ true
    first_or true b e = refl
    first_or false b e = e

-- of entries with different keys the one that is asked for is found
find_only : (es : List HallEntry) → AreDistinct es → (platform : List ℕ) (id : AssetId) (e : HallEntry) (k : ℕ) → k < length es → get_or es k e ≡ e → is_of platform id e ≡ true
    → find (is_of platform id) es ≡ Some e
find_only [] d platform id e k lt at is = absurd (omega (arith, lt))
find_only (x ∷ xs) d platform id e zero lt at is = ap (λ (b : Bool). cond b (Some x) (find (is_of platform id) xs)) (subst (λ y. is_of platform id y ≡ true) (sym at) is) ∙ ap (λ y. Some y) at
find_only (x ∷ xs) d platform id e (suc k) lt at is =
    by_first platform id x xs e (λ first. false≢true (sym d.0 ∙ any_at (is_of x.platform x.id) xs k e (omega (arith, lt)) (subst (λ y. is_of x.platform x.id y ≡ true) (sym at) (one_key platform id x e first is))))
    (find_only xs d.1 platform id e k (omega (arith, lt)) at is) (is_of platform id x) refl
  where
    by_first : (platform : List ℕ) (id : AssetId) (x : HallEntry) (xs : List HallEntry) (e : HallEntry) → (is_of platform id x ≡ true → ⊥) → find (is_of platform id) xs ≡ Some e
        → (b : Bool) → is_of platform id x ≡ b → find (is_of platform id) (x ∷ xs) ≡ Some e
    by_first platform id x xs e no_first rest true first = absurd (no_first first)
    by_first platform id x xs e no_first rest false first = ap (λ (b : Bool). cond b (Some x) (find (is_of platform id) xs)) first ∙ rest

find_none : (p : HallEntry → Bool) (es : List HallEntry) → ((k : ℕ) (d : HallEntry) → k < length es → p (get_or es k d) ≡ false) → find p es ≡ None
find_none p [] none = refl
find_none p (x ∷ xs) none = ap (λ (b : Bool). cond b (Some x) (find p xs)) (none 0 x (omega arith)) ∙ find_none p xs (λ k d lt. none (suc k) d (omega (arith, lt)))

map_at : {A : Type 0} (value : A → HallEntry) (xs : List A) (j : ℕ) (e : HallEntry) → j < length xs → (a : A) × ((d : A) → get_or xs j d ≡ a) × (get_or (map value xs) j e ≡ value a)
map_at value [] j e lt = absurd (omega (arith, lt))
map_at value (x ∷ xs) zero e lt = (x, λ d. refl, refl)
map_at value (x ∷ xs) (suc j) e lt = map_at value xs j e (omega (arith, lt))

-- an entry whose key doesn't tie isn't the one that is asked for
untied : (platform : List ℕ) (id : AssetId) (e : HallEntry) → (key_cmp (key_of e) (key platform id) ≡ Less) ⊎ (key_cmp (key_of e) (key platform id) ≡ Greater) → is_of platform id e ≡ false
untied platform id e apart = by_answer (is_of platform id e) refl
  where
    by_answer : (b : Bool) → is_of platform id e ≡ b → is_of platform id e ≡ false
    by_answer false is = is
    by_answer true is = absurd (⊎_elim (λ less. cc (sym less ∙ asked_ties platform id e is)) (λ greater. cc (sym greater ∙ asked_ties platform id e is)) apart)

module _ {A : Type 0} (value : A → HallEntry) (published : List HallEntry) (by_key : List A) (index : IsIndexOf value published by_key) where
  pub index_length : length by_key ≡ length published
  index_length = sym (length-map by_key value) ∙ length_permutation published (map value by_key) index.same

  pub index_found : (platform : List ℕ) (id : AssetId) (i : ℕ) (a : A) → i < length by_key → get_or by_key i a ≡ a → key_cmp (key_of (value a)) (key platform id) ≡ Equal
      → find (is_of platform id) published ≡ Some (value a)
  index_found platform id i a lt at tie =
      let in_map : Contains (map value by_key) (value a) = (i, rw (length-map by_key value) lt, get_or-map value by_key i a (value a) lt ∙ ap value at) in
      let in_list = Contains-permutation (map value by_key) published (value a) (IsPermutation-sym published (map value by_key) index.same) in_map in
      find_only published index.distinct platform id (value a) in_list.0 in_list.1 in_list.2 (same_key platform id (value a) tie)

  pub index_absent : (platform : List ℕ) (id : AssetId) (i : ℕ)
      → (IsNonDecreasingBy (λ a. ordering_index (key_cmp (key_of (value a)) (key platform id))) by_key
      → IsPartitionPoint (λ a. key_cmp (key_of (value a)) (key platform id) ≡ Less) (λ a. key_cmp (key_of (value a)) (key platform id) ≡ Greater) by_key i)
      → find (is_of platform id) published ≡ None
  index_absent platform id i parted =
      let parts = parted (searchable_from_sorted key_cmp_total (λ a. key_of (value a)) by_key (key platform id) index.sorted) in
      find_none (is_of platform id) published (λ k d lt.
      let e = get_or published k d in
      let there : Contains (map value by_key) e = Contains-permutation published (map value by_key) e index.same (k, lt, get_or_default published k e d lt) in
      let at = map_at value by_key there.0 e (rw (sym (length-map by_key value)) there.1) in
      subst (λ x. is_of platform id x ≡ false) (sym at.2 ∙ there.2) (untied platform id (value at.0) (elim (cases_lt there.0 i) [
        | inl below ↦ inl (subst (λ a. key_cmp (key_of (value a)) (key platform id) ≡ Less) (at.1 at.0) (parts.0 there.0 at.0 (omega arith) below))
        | inr above ↦ inr (subst (λ a. key_cmp (key_of (value a)) (key platform id) ≡ Greater) (at.1 at.0) (parts.1 there.0 at.0 above (rw (sym (length-map by_key value)) there.1)))
      ])))
