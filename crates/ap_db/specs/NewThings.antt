-- The things that a change adds: each is new and has its kids before it, and all that it names are there then.
use Rattle.std.proofs.Common.{◌≡◌, ◌≤◌, ◌+◌, ℕ, suc, Bool, true, false, cond, List, [], ◌∷◌, ◌++◌, length, drop, refl, sym, ◌∙◌, ap, subst, arith, ◌⊎◌, inl, inr, ⊎_elim, fold, append_assoc}
use Rattle.std.specs.Bool.{⊤}
use Rattle.std.specs.List.{flat_map}
use Rattle.ap_content.specs.Things.{Thing, Kids, thing, no_kids, kid}
use Rattle.ap_rows.specs.Forms.{kids_in, has_form}
use Rattle.ap_db.specs.Same.{is_among}
use Rattle.ap_db.specs.Commit.{with_new, with_new_kids, with_below, all_below}
use Rattle.ap_db.specs.Members.{Has, AreIn, in_front, in_back, in_either}
use Rattle.ap_db.specs.SameThings.{has_if_among, has_not}
use Rattle.ap_db.specs.WellStored.{IsBuiltOn}

-- each is built on the known things and those before it
abbrev pub AreAdded : List Thing → List Thing → Type 0
AreAdded known [] = ⊤
AreAdded known (x ∷ xs) = IsBuiltOn known x × AreAdded (known ++ x ∷ []) xs

-- behind the known things are new ones, which are some of these parts
pub record Adds (known parts after : List Thing) : Type 0 where
  pub added : List Thing
  pub are : after ≡ known ++ added
  pub built : AreAdded known added
  pub parts_of : AreIn added parts

-- each of these parts is known or has the form of its tag
abbrev pub AreGood : List Thing → List Thing → Type 0
AreGood known parts = (y : Thing) → Has parts y → Has known y ⊎ (has_form y ≡ true)

pub no_more : {X : Type 0} (xs : List X) → xs ≡ xs ++ []
no_more [] = refl
no_more (x ∷ xs) = ap (λ l. x ∷ l) (no_more xs)

-- ---- how many things a thing is made of; so it isn't below itself

abbrev mutual
  pub size : Thing → ℕ
  size (thing tag text kids) = suc (sizes kids)

  pub sizes : Kids → ℕ
  sizes no_kids = 0
  sizes (kid x xs) = size x + sizes xs

mutual
  below_size : (x y : Thing) → Has (with_below x) y → size y ≤ size x
  below_size (thing tag text kids) y (inl e) = subst (λ z. size z ≤ suc (sizes kids)) e (omega arith)
  below_size (thing tag text kids) y (inr h) = let less = below_sizes kids y h in omega (arith, less)

  below_sizes : (xs : Kids) (y : Thing) → Has (all_below xs) y → size y ≤ sizes xs
  below_sizes no_kids y h = absurd h
  below_sizes (kid x xs) y h = ⊎_elim
      (λ a. let less = below_size x y a in omega (arith, less))
      (λ b. let less = below_sizes xs y b in omega (arith, less))
      (in_either (with_below x) (all_below xs) y h)

pub not_below_itself : (tag : ℕ) (text : List ℕ) (kids : Kids) → Has (all_below kids) (thing tag text kids) → ⊥
not_below_itself tag text kids h = let less : suc (sizes kids) ≤ sizes kids = below_sizes kids (thing tag text kids) h in absurd (omega (arith, less))

-- ---- additions one after another

pub added_append : (known xs ys : List Thing) → AreAdded known xs → AreAdded (known ++ xs) ys → AreAdded known (xs ++ ys)
added_append known [] ys first next = subst (λ l. AreAdded l ys) (sym (no_more known)) next
added_append known (x ∷ xs) ys first next = (first.0, added_append (known ++ x ∷ []) xs ys first.1 (subst (λ l. AreAdded l ys) (sym (append_assoc known (x ∷ []) xs)) next))

pub adds_nothing : (known parts : List Thing) → Adds known parts known
adds_nothing known parts = record { added = []; are = no_more known; built = tt; parts_of = λ x m. absurd m }

pub adds_more : (known parts after : List Thing) → Adds known parts after → AreIn known after
adds_more known parts after adds x m = subst (λ l. Has l x) (sym adds.are) (in_front known adds.added x m)

adds_then : (known mid after parts parts' : List Thing) → Adds known parts mid → Adds mid parts' after → Adds known (parts ++ parts') after
adds_then known mid after parts parts' first next = record {
  added = first.added ++ next.added;
  are = next.are ∙ ap (λ l. l ++ next.added) first.are ∙ append_assoc known first.added next.added;
  built = added_append known first.added next.added first.built (subst (λ l. AreAdded l next.added) first.are next.built);
  parts_of = λ x m. ⊎_elim
      (λ a. in_front parts parts' x (first.parts_of x a))
      (λ b. in_back parts parts' x (next.parts_of x b))
      (in_either first.added next.added x m);
}

-- what is good beside fewer things is good beside more
pub still_good : (known more parts : List Thing) → AreIn known more → AreGood known parts → AreGood more parts
still_good known more parts all good y m = ⊎_elim (λ a. inl (all y a)) (λ b. inr b) (good y m)

-- a new thing behind its kids
adds_itself : (known after : List Thing) (tag : ℕ) (text : List ℕ) (kids : Kids) → (Has known (thing tag text kids) → ⊥) → AreGood known (with_below (thing tag text kids))
    → Adds known (all_below kids) after → AreIn (kids_in kids) after → Adds known (with_below (thing tag text kids)) (after ++ thing tag text kids ∷ [])
adds_itself known after tag text kids unknown good adds kids_there = record {
  added = adds.added ++ itself ∷ [];
  are = ap (λ l. l ++ itself ∷ []) adds.are ∙ append_assoc known adds.added (itself ∷ []);
  built = added_append known adds.added (itself ∷ []) adds.built (
    record {
      formed = ⊎_elim (λ a. absurd (unknown a)) (λ b. b) (good itself (inl refl));
      fresh = λ m. ⊎_elim unknown (λ b. not_below_itself tag text kids (adds.parts_of itself b)) (in_either known adds.added itself m);
      kids = λ k m. subst (λ l. Has l k) adds.are (kids_there k m);
    },
    tt,
  );
  parts_of = λ x m. ⊎_elim (λ a. inr (adds.parts_of x a)) (λ b. only x b) (in_either adds.added (itself ∷ []) x m);
}
  where
    itself : Thing
    itself = thing tag text kids

    only : (x : Thing) → Has (thing tag text kids ∷ []) x → Has (with_below (thing tag text kids)) x
    only x (inl e) = inl e
    only x (inr none) = absurd none

mutual
  -- the new things at and below a thing come behind the known ones
  pub new_adds : (x : Thing) (known : List Thing) → AreGood known (with_below x) → Adds known (with_below x) (with_new known x) × Has (with_new known x) x
  new_adds (thing tag text kids) known good =
      let rest = new_kids_add kids known (λ y m. good y (inr m)) in
      step (is_among known (thing tag text kids)) refl rest.0 rest.1
    where
      step : (b : Bool) → is_among known (thing tag text kids) ≡ b → Adds known (all_below kids) (with_new_kids known kids) → AreIn (kids_in kids) (with_new_kids known kids)
          → Adds known (with_below (thing tag text kids)) (cond b known (with_new_kids known kids ++ thing tag text kids ∷ [])) × Has (cond b known (with_new_kids known kids ++ thing tag text kids ∷ [])) (thing tag text kids)
      step true is adds there = (adds_nothing known (with_below (thing tag text kids)), has_if_among known (thing tag text kids) is)
      step false is adds there = (
        adds_itself known (with_new_kids known kids) tag text kids (has_not known (thing tag text kids) is) good adds there,
        in_back (with_new_kids known kids) (thing tag text kids ∷ []) (thing tag text kids) (inl refl),
      )

  pub new_kids_add : (xs : Kids) (known : List Thing) → AreGood known (all_below xs) → Adds known (all_below xs) (with_new_kids known xs) × AreIn (kids_in xs) (with_new_kids known xs)
  new_kids_add no_kids known good = (adds_nothing known [], λ x m. absurd m)
  new_kids_add (kid x xs) known good =
      let first = new_adds x known (λ y m. good y (in_front (with_below x) (all_below xs) y m)) in
      let more = adds_more known (with_below x) (with_new known x) first.0 in
      let rest = new_kids_add xs (with_new known x) (λ y m. still_good known (with_new known x) (all_below xs) more (λ z n. good z (in_back (with_below x) (all_below xs) z n)) y m) in (
        adds_then known (with_new known x) (with_new_kids (with_new known x) xs) (with_below x) (all_below xs) first.0 rest.0,
        λ y m. either y (adds_more (with_new known x) (all_below xs) (with_new_kids (with_new known x) xs) rest.0 x first.1) (rest.1 y) m,
      )
    where
      either : (y : Thing) → Has (with_new_kids (with_new known x) xs) x → (Has (kids_in xs) y → Has (with_new_kids (with_new known x) xs) y) → Has (x ∷ kids_in xs) y → Has (with_new_kids (with_new known x) xs) y
      either y head rest (inl e) = subst (Has (with_new_kids (with_new known x) xs)) e head
      either y head rest (inr m) = rest m

-- and so do those of several things
pub all_new_add : (xs known : List Thing) → AreGood known (flat_map with_below xs) → Adds known (flat_map with_below xs) (fold with_new known xs) × AreIn xs (fold with_new known xs)
all_new_add [] known good = (adds_nothing known [], λ x m. absurd m)
all_new_add (x ∷ xs) known good =
    let first = new_adds x known (λ y m. good y (in_front (with_below x) (flat_map with_below xs) y m)) in
    let more = adds_more known (with_below x) (with_new known x) first.0 in
    let rest = all_new_add xs (with_new known x) (λ y m. still_good known (with_new known x) (flat_map with_below xs) more (λ z n. good z (in_back (with_below x) (flat_map with_below xs) z n)) y m) in (
      adds_then known (with_new known x) (fold with_new (with_new known x) xs) (with_below x) (flat_map with_below xs) first.0 rest.0,
      λ y m. either y (adds_more (with_new known x) (flat_map with_below xs) (fold with_new (with_new known x) xs) rest.0 x first.1) (rest.1 y) m,
    )
  where
    either : (y : Thing) → Has (fold with_new (with_new known x) xs) x → (Has xs y → Has (fold with_new (with_new known x) xs) y) → Has (x ∷ xs) y → Has (fold with_new (with_new known x) xs) y
    either y head rest (inl e) = subst (Has (fold with_new (with_new known x) xs)) e head
    either y head rest (inr m) = rest m

pub drop_front : {X : Type 0} (xs ys : List X) → drop (length xs) (xs ++ ys) ≡ ys
drop_front [] ys = refl
drop_front (x ∷ xs) ys = drop_front xs ys
