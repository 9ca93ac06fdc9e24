-- Two things are the same exactly where they are one.
use Rattle.std.proofs.Common.{◌≡◌, ◌≢◌, ◌==◌, ◌&&◌, ℕ, Bool, true, false, List, refl}
use Rattle.std.specs.Prelude.{bytes_eq}
use Rattle.std.proofs.lemmas.Bool.Decides.{Decides-eqb}
use Rattle.std.proofs.lemmas.Slice.Eq.{bytes_eq-Decides}
use Rattle.ap_content.specs.Things.{Thing, Kids, thing, no_kids, kid}
use Rattle.ap_db.specs.Same.{same_thing, same_kids}

pub both_true : (a b : Bool) → a ≡ true → b ≡ true → (a && b) ≡ true
both_true true b p q = q
both_true false b p q = absurd (cc p)

pub both_parts : (a b : Bool) → (a && b) ≡ true → (a ≡ true) × (b ≡ true)
both_parts true true h = (refl, refl)
both_parts true false h = absurd (cc h)
both_parts false b h = absurd (cc h)

mutual
  pub itself_same : (x : Thing) → same_thing x x ≡ true
  itself_same (thing tag text kids) = both_true (tag == tag && bytes_eq text text) (same_kids kids kids)
      (both_true (tag == tag) (bytes_eq text text) ((Decides-eqb tag tag).1 refl) ((bytes_eq-Decides text text).1 refl)) (kids_same_as_selves kids)

  kids_same_as_selves : (xs : Kids) → same_kids xs xs ≡ true
  kids_same_as_selves no_kids = refl
  kids_same_as_selves (kid x xs) = both_true (same_thing x x) (same_kids xs xs) (itself_same x) (kids_same_as_selves xs)

thing_of_parts : (tag tag' : ℕ) (text text' : List ℕ) (kids kids' : Kids) → tag ≡ tag' → text ≡ text' → kids ≡ kids' → thing tag text kids ≡ thing tag' text' kids'
thing_of_parts tag tag' text text' kids kids' p q r = λ i. thing (p i) (q i) (r i)

mutual
  pub one_if_same : (x y : Thing) → same_thing x y ≡ true → x ≡ y
  one_if_same (thing tag text kids) (thing tag' text' kids') h =
      let last = both_parts (tag == tag' && bytes_eq text text') (same_kids kids kids') h in
      let first = both_parts (tag == tag') (bytes_eq text text') last.0 in
      thing_of_parts tag tag' text text' kids kids' ((Decides-eqb tag tag').0 first.0) ((bytes_eq-Decides text text').0 first.1) (kids_if_same kids kids' last.1)

  kids_if_same : (xs ys : Kids) → same_kids xs ys ≡ true → xs ≡ ys
  kids_if_same no_kids no_kids h = refl
  kids_if_same no_kids (kid y ys) h = absurd (cc h)
  kids_if_same (kid x xs) no_kids h = absurd (cc h)
  kids_if_same (kid x xs) (kid y ys) h =
      let parts = both_parts (same_thing x y) (same_kids xs ys) h in
      λ i. kid (one_if_same x y parts.0 i) (kids_if_same xs ys parts.1 i)

pub not_same : (x y : Thing) → x ≢ y → same_thing x y ≡ false
not_same x y apart = step (same_thing x y) refl
  where
    step : (b : Bool) → same_thing x y ≡ b → same_thing x y ≡ false
    step true e = absurd (apart (one_if_same x y e))
    step false e = e
