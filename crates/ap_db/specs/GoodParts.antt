-- Whether the parts of a thing are in the file or have the form of their tag, from the top down, and how far down it goes.
use Rattle.std.proofs.Common.{◌≡◌, ◌<◌, ◌≤◌, ◌==◌, ◌&&◌, ◌||◌, ℕ, zero, suc, Bool, true, false, not, cond, List, [], ◌∷◌, length, Option, refl, sym, ◌∙◌, ap, subst, arith, inl, inr, filter}
use Rattle.std.specs.Bool.{⊤}
use Rattle.std.specs.List.{list_all, flat_map}
use Rattle.std.proofs.lemmas.List.Folds.{list_all-append}
use Rattle.ap_content.specs.Things.{Thing, Kids, thing, no_kids, kid}
use Rattle.ap_content.specs.Entries.{Entry, Stands, StandEach, IsTidy}
use Rattle.ap_content.specs.declared.node.Number.{Number}
use Rattle.ap_rows.specs.Forms.{kids_in, has_form, HaveForms}
use Rattle.ap_db.specs.Same.{is_among}
use Rattle.ap_db.specs.Stored.{Stored, values, kids_of_thing}
use Rattle.ap_db.specs.Commit.{with_below, all_below}
use Rattle.ap_db.specs.States.{IsSound}
use Rattle.ap_db.specs.Members.{Has, in_flat_map, true_of, from_filter}
use Rattle.ap_db.specs.SameThings.{has_if_among, among_if_has, both_parts}
use Rattle.ap_db.specs.LiveLaws.{number_is, equal_numbers}
use Rattle.ap_db.specs.NewThings.{size, sizes}

-- ---- good parts

-- a part that is in the file or has the form of its tag
abbrev pub is_good_part : Stored → Thing → Bool
is_good_part stored part = is_among (values stored) part || has_form part

-- it is in the file, or its kids are good and it has the form of its tag
abbrev mutual
  pub has_good_parts : Stored → Thing → Bool
  has_good_parts stored (thing tag text kids) = is_among (values stored) (thing tag text kids) || (have_good_parts stored kids && has_form (thing tag text kids))

  pub have_good_parts : Stored → Kids → Bool
  have_good_parts stored no_kids = true
  have_good_parts stored (kid x xs) = has_good_parts stored x && have_good_parts stored xs

module _ (stored : Stored) (sound : IsSound stored) where
  kid_lives : (x k : Thing) → Has (values stored) x → Has (kids_of_thing x) k → Has (values stored) k
  kid_lives x k lives m =
      has_if_among (values stored) k
      (true_of (λ k. is_among (values stored) k ≡ true) (flat_map kids_of_thing (values stored)) sound.closed k (in_flat_map kids_of_thing (values stored) x k lives m))

  mutual
    parts_live : (x : Thing) → Has (values stored) x → list_all (is_good_part stored) (with_below x) ≡ true
    parts_live (thing tag text kids) lives =
        two_true (is_good_part stored (thing tag text kids)) (list_all (is_good_part stored) (all_below kids))
        (ap (λ b. b || has_form (thing tag text kids)) (among_if_has (values stored) (thing tag text kids) lives))
        (all_parts_live kids (λ k m. kid_lives (thing tag text kids) k lives m))
      where
        two_true : (a b : Bool) → a ≡ true → b ≡ true → (a && b) ≡ true
        two_true true b p q = q
        two_true false b p q = absurd (cc p)

    all_parts_live : (xs : Kids) → ((k : Thing) → Has (kids_in xs) k → Has (values stored) k) → list_all (is_good_part stored) (all_below xs) ≡ true
    all_parts_live no_kids live = refl
    all_parts_live (kid x xs) live =
        list_all-append (is_good_part stored) (with_below x) (all_below xs)
        ∙ ap (λ b. b && list_all (is_good_part stored) (all_below xs)) (parts_live x (live x (inl refl)))
        ∙ all_parts_live xs (λ k m. live k (inr m))

  mutual
    -- the parts of a thing are good where all at and below it are
    pub good_parts : (x : Thing) → has_good_parts stored x ≡ list_all (is_good_part stored) (with_below x)
    good_parts (thing tag text kids) = step (is_among (values stored) (thing tag text kids)) refl (all_good_parts kids)
      where
        turned : (a b c : Bool) → a ≡ b → (a && c) ≡ (c && b)
        turned true true true e = refl
        turned true true false e = refl
        turned false false true e = refl
        turned false false false e = refl
        turned true false c e = absurd (cc e)
        turned false true c e = absurd (cc e)

        step : (b : Bool) → is_among (values stored) (thing tag text kids) ≡ b → have_good_parts stored kids ≡ list_all (is_good_part stored) (all_below kids)
            → (is_among (values stored) (thing tag text kids) || (have_good_parts stored kids && has_form (thing tag text kids))) ≡ list_all (is_good_part stored) (with_below (thing tag text kids))
        step true is rest =
            ap (λ b. b || (have_good_parts stored kids && has_form (thing tag text kids))) is
            ∙ sym (parts_live (thing tag text kids) (has_if_among (values stored) (thing tag text kids) is))
        step false is rest =
            ap (λ b. b || (have_good_parts stored kids && has_form (thing tag text kids))) is
            ∙ turned (have_good_parts stored kids) (list_all (is_good_part stored) (all_below kids)) (has_form (thing tag text kids)) rest
            ∙ ap (λ b. (b || has_form (thing tag text kids)) && list_all (is_good_part stored) (all_below kids)) (sym is)

    all_good_parts : (xs : Kids) → have_good_parts stored xs ≡ list_all (is_good_part stored) (all_below xs)
    all_good_parts no_kids = refl
    all_good_parts (kid x xs) = (λ i. good_parts x i && all_good_parts xs i) ∙ sym (list_all-append (is_good_part stored) (with_below x) (all_below xs))

  -- things with good parts have the forms of their tags
  pub good_has_form : (x : Thing) → has_good_parts stored x ≡ true → has_form x ≡ true
  good_has_form (thing tag text kids) good = step (is_among (values stored) (thing tag text kids)) refl good
    where
      step : (b : Bool) → is_among (values stored) (thing tag text kids) ≡ b → (b || (have_good_parts stored kids && has_form (thing tag text kids))) ≡ true → has_form (thing tag text kids) ≡ true
      step true is rest = true_of (λ x. has_form x ≡ true) (values stored) sound.formed (thing tag text kids) (has_if_among (values stored) (thing tag text kids) is)
      step false is rest = (both_parts (have_good_parts stored kids) (has_form (thing tag text kids)) rest).1

  pub good_have_forms : (xs : Kids) → have_good_parts stored xs ≡ true → HaveForms xs
  good_have_forms no_kids good = tt
  good_have_forms (kid x xs) good = let parts = both_parts (has_good_parts stored x) (have_good_parts stored xs) good in (good_has_form x parts.0, good_have_forms xs parts.1)

-- ---- how far down it goes

-- each number is another
abbrev pub AreApart : List ℕ → Type 0
AreApart [] = ⊤
AreApart (n ∷ ns) = (Has ns n → ⊥) × AreApart ns

-- each is below a bound
abbrev pub AreBelow : ℕ → List ℕ → Type 0
AreBelow bound [] = ⊤
AreBelow bound (n ∷ ns) = (n < bound) × AreBelow bound ns

apart_filter : (p : ℕ → Bool) (ns : List ℕ) → AreApart ns → AreApart (filter p ns)
apart_filter p [] apart = tt
apart_filter p (n ∷ ns) apart = step (p n) (apart_filter p ns apart.1)
  where
    step : (b : Bool) → AreApart (filter p ns) → AreApart (cond b (n ∷ filter p ns) (filter p ns))
    step true rest = ((λ m. apart.0 (from_filter p ns n m).0), rest)
    step false rest = rest

-- without the last number below a bound they are below the one before
less_below : (bound : ℕ) (ns : List ℕ) → AreBelow (suc bound) ns → AreBelow bound (filter (λ n. not (n == bound)) ns)
less_below bound [] below = tt
less_below bound (n ∷ ns) below = step (n == bound) refl (less_below bound ns below.1)
  where
    differs : n == bound ≡ false → n ≡ bound → ⊥
    differs is e = let same = equal_numbers n bound e in absurd (cc (is, same))

    step : (b : Bool) → n == bound ≡ b → AreBelow bound (filter (λ n. not (n == bound)) ns) → AreBelow bound (cond (not b) (n ∷ filter (λ n. not (n == bound)) ns) (filter (λ n. not (n == bound)) ns))
    step true is rest = rest
    step false is rest = (less, rest)
      where
        less : n < bound
        less = let other = differs is in let low = below.0 in omega (arith, other, low)

-- one at most goes with it
one_goes : (bound : ℕ) (ns : List ℕ) → AreApart ns → length ns ≤ suc (length (filter (λ n. not (n == bound)) ns))
one_goes bound [] apart = omega arith
one_goes bound (n ∷ ns) apart = step (n == bound) refl (one_goes bound ns apart.1)
  where
    all_stay : (ms : List ℕ) → (Has ms bound → ⊥) → filter (λ n. not (n == bound)) ms ≡ ms
    all_stay [] out = refl
    all_stay (m ∷ ms) out = case_of (m == bound) refl (all_stay ms (λ h. out (inr h)))
      where
        case_of : (b : Bool) → m == bound ≡ b → filter (λ n. not (n == bound)) ms ≡ ms → cond (not b) (m ∷ filter (λ n. not (n == bound)) ms) (filter (λ n. not (n == bound)) ms) ≡ m ∷ ms
        case_of true is rest = absurd (out (inl (number_is m bound is)))
        case_of false is rest = ap (λ l. m ∷ l) rest

    step : (b : Bool) → n == bound ≡ b → length ns ≤ suc (length (filter (λ n. not (n == bound)) ns)) → suc (length ns) ≤ suc (length (cond (not b) (n ∷ filter (λ n. not (n == bound)) ns) (filter (λ n. not (n == bound)) ns)))
    step true is rest =
        let stay : length (filter (λ n. not (n == bound)) ns) ≡ length ns = ap length (all_stay ns (λ h. apart.0 (subst (Has ns) (sym (number_is n bound is)) h))) in
        omega (arith, stay)
    step false is rest = omega (arith, rest)

-- so many numbers below a bound, each another, are no more than it
pub few_apart : (bound : ℕ) (ns : List ℕ) → AreApart ns → AreBelow bound ns → length ns ≤ bound
few_apart zero [] apart below = omega arith
few_apart zero (n ∷ ns) apart below = let low = below.0 in absurd (omega (arith, low))
few_apart (suc bound) ns apart below =
    let rest = few_apart bound (filter (λ n. not (n == bound)) ns) (apart_filter (λ n. not (n == bound)) ns apart) (less_below bound ns below) in
    let one = one_goes bound ns apart in
    omega (arith, rest, one)

-- numbers of 64 bits from a thing of this size upwards, each of a greater thing than the one before
abbrev pub IsDescent : List (Option Entry) → ℕ → List ℕ → Type 0
IsDescent contents least [] = ⊤
IsDescent contents least (n ∷ above) = ((x : Thing) × Stands contents (record { 0 = n }) x × (least < size x) × (n < 18446744073709551616) × IsDescent contents (size x) above)

module _ (contents : List (Option Entry)) (tidy : IsTidy contents) where
  -- a number further up is that of a greater thing
  greater_above : (least : ℕ) (above : List ℕ) (n : ℕ) → IsDescent contents least above → Has above n → (y : Thing) × Stands contents (record { 0 = n }) y × (least < size y)
  greater_above least [] n down h = absurd h
  greater_above least (m ∷ above) n down (inl e) = (down.0, subst (λ (k : ℕ). Stands contents (record { 0 = k }) down.0) e down.1, down.2)
  greater_above least (m ∷ above) n down (inr h) =
      let rest = greater_above (size down.0) above n down.4 h in
      let low = down.2 in
      (rest.0, rest.1, let high = rest.2 in omega (arith, low, high))

  descent_apart : (least : ℕ) (above : List ℕ) → IsDescent contents least above → AreApart above
  descent_apart least [] down = tt
  descent_apart least (n ∷ above) down = (
    (λ h.
        let other = greater_above (size down.0) above n down.4 h in
        let same : down.0 ≡ other.0 = tidy.one_thing (record { 0 = n }) down.0 other.0 down.1 other.1 in
        let high = other.2 in
        let sizes_same : size down.0 ≡ size other.0 = ap size same in
        absurd (omega (arith, high, sizes_same))),
    descent_apart (size down.0) above down.4,
  )

  descent_below : (least : ℕ) (above : List ℕ) → IsDescent contents least above → AreBelow 18446744073709551616 above
  descent_below least [] down = tt
  descent_below least (n ∷ above) down = (down.3, descent_below (size down.0) above down.4)

  -- so it goes down no further than there are numbers
  pub descent_ends : (least : ℕ) (above : List ℕ) → IsDescent contents least above → length above ≤ 18446744073709551616
  descent_ends least above down = few_apart 18446744073709551616 above (descent_apart least above down) (descent_below least above down)

-- the kids of a thing
abbrev pub kids_part : Thing → Kids
kids_part (thing tag text kids) = kids

-- of the kids of a thing these numbers are left, where those before them are good
pub record KidsLeft (stored : Stored) (contents : List (Option Entry)) (x : Thing) (rest : List Number) : Type 0 where
  pub kids : Kids
  pub stand : StandEach contents rest kids
  pub good : have_good_parts stored (kids_part x) ≡ have_good_parts stored kids
  pub smaller : sizes kids < size x
