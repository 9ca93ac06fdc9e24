-- The state when the latest things of the file are so no more.
use Rattle.std.proofs.Common.{◌≡◌, ◌≤◌, ◌+◌, ◌-◌, ◌==◌, ℕ, suc, length, take, get_or, Bool, not, cond, List, [], ◌∷◌, ◌++◌, Option, Some, refl, sym, ◌∙◌, ap, subst, arith, inl, inr, ⊎_elim, fold, filter, option_map, length-append}
use Rattle.std.proofs.lemmas.List.{take_all}
use Rattle.std.proofs.Math.Seq.{take-suc}
use Rattle.std.specs.List.{AllByRecursion, flat_map}
use Rattle.ap_content.specs.Things.{Thing}
use Rattle.ap_content.specs.Entries.{Entry, Stands}
use Rattle.ap_content.specs.declared.node.Number.{Number}
use Rattle.ap_db.specs.declared.things.FileThing.{FileThing}
use Rattle.ap_db.specs.declared.state.State.{State}
use Rattle.ap_db.specs.Same.{same_thing}
use Rattle.ap_db.specs.Stored.{Live, Stored, values, kids_of_thing, named_things, row_things, and_thing, and_no_thing}
use Rattle.ap_db.specs.Listed.{AreAll}
use Rattle.ap_db.specs.States.{StandsFor, IsUnnamed, IsFound, IsKnown, times_in, file_thing, file_number}
use Rattle.ap_db.specs.Members.{Has, in_either, from_map, from_flat_map}
use Rattle.ap_db.specs.SameThings.{not_same}
use Rattle.ap_db.specs.WellStored.{IsBuiltOn, IsWellStored}
use Rattle.ap_db.specs.LiveLaws.{falls_below, equal_numbers, gone_by_number, kids_live}
use Rattle.ap_db.specs.DefineLaws.{AreGrown, all_keep}
use Rattle.ap_db.proofs.FileNumbers.{fold_append, grown_before}

-- what isn't among things is so no time
pub never_in : (xs : List Thing) (x : Thing) → (Has xs x → ⊥) → times_in xs x ≡ 0
never_in [] x out = refl
never_in (y ∷ xs) x out =
    let here : cond {A = ℕ} (same_thing x y) 1 0 ≡ 0 = ap (λ (b : Bool). cond b 1 0) (not_same x y (λ e. out (inl (sym e)))) in
    let others = never_in xs x (λ h. out (inr h)) in
    omega (arith, here, others)

module _ (stored : Stored) (x : Thing) (well : IsWellStored stored) (built : IsBuiltOn (values stored) x) where
  abbrev next : Stored
  next = and_thing stored x

  no_kid : Has (flat_map kids_of_thing (values stored)) x → ⊥
  no_kid h =
      let parent = from_flat_map kids_of_thing (values stored) x h in
      let live = from_map (λ (l : Live). l.value) stored.live parent.0 parent.1 in
      built.fresh (kids_live stored.live live.0 well.built live.1 x (subst (λ y. Has (kids_of_thing y) x) (sym live.2) parent.2))

  -- nothing names the latest thing
  unnamed : times_in (named_things next) x ≡ 0
  unnamed = never_in (named_things next) x (λ h. ⊎_elim
      (λ row. built.fresh (well.named x row))
      (λ kid. ⊎_elim (λ own. built.fresh (built.kids x own)) no_kid (in_either (kids_of_thing x) (flat_map kids_of_thing (values stored)) x kid))
      (in_either (row_things stored.tables) (flat_map kids_of_thing (values next)) x h))

  left : filter (λ live. not (live.number == suc stored.defined)) next.live ≡ stored.live
  left =
      ap (λ b. cond (not b) (record { number = suc stored.defined; value = x } ∷ filter (λ live. not (live.number == suc stored.defined)) stored.live) (filter (λ live. not (live.number == suc stored.defined)) stored.live))
      (equal_numbers (suc stored.defined) (suc stored.defined) refl)
      ∙ gone_by_number (suc stored.defined) stored.live (λ live h e. let below = falls_below (suc stored.defined) stored.live live well.falls h in absurd (omega (arith, below, e)))

  module _ (state : State) (contents : List (Option Entry)) (m : Number) (stands : StandsFor state contents next) (s : Stands contents m x) where
    -- the latest thing is under its number
    latest : (t : FileThing) × (file_thing state.things.items m ≡ Some t) × (t.number ≡ suc stored.defined)
    latest =
        let found = stands.found.0 in
        (found.thing, ap (file_thing state.things.items) (stands.tidy.one_number m found.number x s found.stands) ∙ found.file, found.same)

    pub latest_unnamed : IsUnnamed state m
    latest_unnamed =
        let known = stands.known m latest.0 latest.1 in
        (latest.0, latest.1, known.named ∙ ap (times_in (named_things next)) (stands.tidy.one_thing m known.value x known.stands s) ∙ unnamed)

    pub latest_number : file_number state.things.items m ≡ Some (suc stored.defined)
    latest_number = ap (option_map (λ (t : FileThing). t.number)) latest.1 ∙ ap (λ (n : ℕ). Some n) latest.2

  -- with one less defined, and the thing taken out, the state is as it was
  pub is_undefined : (state new : State) (contents : List (Option Entry)) → StandsFor state contents (and_no_thing next (suc stored.defined)) → new.things ≡ state.things → new.tables ≡ state.tables → new.names ≡ state.names → new.defined ≡ state.defined - 1
      → StandsFor new contents stored
  is_undefined state new contents stands things tables names defined = as_stored (subst (λ l. StandsFor state contents (record { defined = suc stored.defined; live = l; tables = stored.tables })) left stands)
    where
      as_stored : StandsFor state contents (record { defined = suc stored.defined; live = stored.live; tables = stored.tables }) → StandsFor new contents stored
      as_stored is = record {
        sound = record { falls = well.falls; rise = is.sound.rise; formed = is.sound.formed; closed = is.sound.closed };
        tidy = is.tidy;
        defined = let was = is.defined in omega (arith, was, defined);
        names = names ∙ is.names;
        tables = subst (λ t. Rattle.ap_db.specs.States.TablesAre (Rattle.ap_db.specs.States.Names t.items contents) new.tables stored.tables) (sym things)
            (subst (λ t. Rattle.ap_db.specs.States.TablesAre (Rattle.ap_db.specs.States.Names state.things.items contents) t stored.tables) (sym tables) is.tables);
        found = subst (λ t. AllByRecursion (IsFound t.items contents) stored.live) (sym things) is.found;
        known = λ k t e.
            let known = is.known k t (ap (λ l. file_thing l.items k) (sym things) ∙ e) in
            record { value = known.value; live = known.live; stands = known.stands; named = known.named };
      }

-- ---- from the last to the first

pub record EndsIn (Is : Number → Thing → Type 0) (front : List Number) (m : Number) (xs : List Thing) : Type 0 where
  pub before : List Thing
  pub last : Thing
  pub are : xs ≡ before ++ last ∷ []
  pub each : AreAll Is front before
  pub is : Is m last

pub ends_in : (Is : Number → Thing → Type 0) (front : List Number) (m : Number) (xs : List Thing) → AreAll Is (front ++ m ∷ []) xs → EndsIn Is front m xs
ends_in Is [] m [] all = absurd all
ends_in Is [] m (x ∷ []) all = record { before = []; last = x; are = refl; each = tt; is = all.0 }
ends_in Is [] m (x ∷ y ∷ xs) all = absurd all.1
ends_in Is (n ∷ front) m [] all = absurd all
ends_in Is (n ∷ front) m (x ∷ xs) all =
    let rest = ends_in Is front m xs all.1 in
    record { before = x ∷ rest.before; last = rest.last; are = ap (λ l. x ∷ l) rest.are; each = (all.0, rest.each); is = rest.is }

pub grown_last : (stored : Stored) (xs : List Thing) (x : Thing) → AreGrown stored (xs ++ x ∷ []) → IsBuiltOn (values (fold and_thing stored xs)) x
grown_last stored [] x are = are.0
grown_last stored (y ∷ xs) x are = grown_last (and_thing stored y) xs x are.1

-- these things are still defined, under these numbers
pub record StillDefined (contents : List (Option Entry)) (stored : Stored) (state : State) (rest : List Number) : Type 0 where
  pub things : List Thing
  pub grown : AreGrown stored things
  pub stands : StandsFor state contents (fold and_thing stored things)
  pub each : AreAll (Stands contents) rest things

module _ (contents : List (Option Entry)) (stored : Stored) (well : IsWellStored stored) (state : State) (front : List Number) (m : Number) (still : StillDefined contents stored state (front ++ m ∷ [])) where
  abbrev ends : EndsIn (Stands contents) front m still.things
  ends = ends_in (Stands contents) front m still.things still.each

  abbrev grown : AreGrown stored (ends.before ++ ends.last ∷ [])
  grown = subst (AreGrown stored) ends.are still.grown

  abbrev pub last_stored : Stored
  last_stored = fold and_thing stored ends.before

  abbrev pub last_thing : Thing
  last_thing = ends.last

  pub last_can : IsWellStored last_stored × IsBuiltOn (values last_stored) ends.last × StandsFor state contents (and_thing last_stored ends.last) × Stands contents m ends.last
  last_can = (
    all_keep stored ends.before well (grown_before stored ends.before (ends.last ∷ []) grown),
    grown_last stored ends.before ends.last grown,
    subst (StandsFor state contents) (ap (fold and_thing stored) ends.are ∙ fold_append stored ends.before (ends.last ∷ [])) still.stands,
    ends.is,
  )

  pub last_undefined : (new : State) → StandsFor new contents last_stored → StillDefined contents stored new front
  last_undefined new stands = record { things = ends.before; grown = grown_before stored ends.before (ends.last ∷ []) grown; stands = stands; each = ends.each }

pub none_still : (contents : List (Option Entry)) (stored : Stored) (state : State) → StillDefined contents stored state [] → StandsFor state contents stored
none_still contents stored state still = step still.things still.stands still.each
  where
    step : (xs : List Thing) → StandsFor state contents (fold and_thing stored xs) → AreAll (Stands contents) [] xs → StandsFor state contents stored
    step [] stands each = stands
    step (x ∷ xs) stands each = absurd each

-- the last of a list, and the others
pub last_again : {X : Type 0} (d : X) (xs : List X) → 1 ≤ length xs → xs ≡ take (length xs - 1) xs ++ get_or xs (length xs - 1) d ∷ []
last_again d xs h =
    let one : suc (length xs - 1) ≡ length xs = omega (arith, h) in
    sym (take_all (length xs) xs (omega arith)) ∙ ap (λ (n : ℕ). take n xs) (sym one) ∙ take-suc xs (length xs - 1) d (omega (arith, h))

pub front_short : {X : Type 0} (d : X) (xs : List X) (bound : ℕ) → 1 ≤ length xs → length xs ≤ bound → length (take (length xs - 1) xs) ≤ bound
front_short {X} d xs bound h le =
    let front : List X = take (length xs - 1) xs in
    let all : length xs ≡ length (front ++ get_or xs (length xs - 1) d ∷ []) = ap length (last_again d xs h) in
    let parts : length (front ++ get_or xs (length xs - 1) d ∷ []) ≡ length front + 1 = length-append front (get_or xs (length xs - 1) d ∷ []) in
    omega (arith, all, parts, le)
