-- The database's holds on the things of the file.
use Rattle.std.proofs.Common.{◌≡◌, ◌≢◌, ◌<◌, ℕ, List, Option, Some, None, refl, sym, ◌∙◌, ap, subst, arith}
use Rattle.std.specs.Prelude.{IsSome, option_map}
use Rattle.std.proofs.lemmas.Bool.Decides.{nat_tests}
use Rattle.ap_content.specs.Things.{Thing}
use Rattle.ap_content.specs.Entries.{Entry, IsTidy, Stands, holds_at, holds_in, entry_at, one_more, Lives, Gains, Loses}
use Rattle.ap_content.specs.Laws.{Stands-kept, holds_at-gained}
use Rattle.ap_content.specs.declared.node.Number.{Number}
use Rattle.ap_content.specs.declared.node.Node.{Node}
use Rattle.ap_db.specs.declared.things.FileThing.{FileThing}
use Rattle.ap_db.specs.declared.state.State.{State}
use Rattle.ap_db.specs.Stored.{Stored, nothing_stored}
use Rattle.ap_db.specs.States.{file_thing, file_number, Names, IsFound, StandsFor, AreHeld, SameNumbers}
use Rattle.ap_db.proofs.Renaming.{tables_follow, all_follow}
use Rattle.ap_db.proofs.Defining.{equal_or_not}

pub lives_if_held : (contents : List (Option Entry)) (k : Number) → 0 < holds_at contents k → Lives contents k
lives_if_held contents k held = step (entry_at contents k) held
  where
    step : (o : Option Entry) → 0 < holds_in o → IsSome o
    step None h = absurd (omega (arith, h))
    step (Some e) h = refl

-- what has the same number is there too
there_too : (o p : Option FileThing) → option_map (λ t. t.number) p ≡ option_map (λ t. t.number) o → IsSome p → IsSome o
there_too None None e h = h
there_too None (Some t) e h = absurd (cc e)
there_too (Some u) p e h = refl

not_there : (o : Option FileThing) → option_map (λ t. t.number) o ≡ None → o ≡ None
not_there None e = refl
not_there (Some t) e = absurd (cc e)

-- ---- other things, the same holds

pub still_held : (old new : State) (contents : List (Option Entry)) → SameNumbers old new → AreHeld old.things.items contents → AreHeld new.things.items contents
still_held old new contents same held = λ m some. held m (there_too (file_thing old.things.items m) (file_thing new.things.items m) (same m) some)

pub none_held : (state : State) (contents : List (Option Entry)) → StandsFor state contents nothing_stored → AreHeld state.things.items contents
none_held state contents stands = λ m some. step m (file_thing state.things.items m) refl some
  where
    step : (m : Number) (o : Option FileThing) → file_thing state.things.items m ≡ o → IsSome o → 0 < holds_at contents m
    step m None e h = absurd (cc h)
    step m (Some t) e h = absurd (cc (stands.known m t e).live)

-- one of them is held by itself
pub held_with : (old new : State) (contents : List (Option Entry)) (m : Number) → ((k : Number) → k ≢ m → file_number new.things.items k ≡ file_number old.things.items k) → 0 < holds_at contents m → AreHeld old.things.items contents
    → AreHeld new.things.items contents
held_with old new contents m others here held = λ k some. equal_or_not k m
    (λ same. subst (λ (j : Number). 0 < holds_at contents j) (sym same) here)
    (λ apart. held k (there_too (file_thing old.things.items k) (file_thing new.things.items k) (others k apart) some))

-- one of them is there no more
pub held_without : (old new : State) (contents : List (Option Entry)) (m : Number) → ((k : Number) → k ≢ m → file_number new.things.items k ≡ file_number old.things.items k) → file_number new.things.items m ≡ None → AreHeld old.things.items contents
    → AreHeld new.things.items contents
held_without old new contents m others gone held = λ k some. equal_or_not k m
    (λ same. let none = ap (λ (j : Number). file_thing new.things.items j) same ∙ not_there (file_thing new.things.items m) gone in absurd (cc (subst IsSome none some)))
    (λ apart. held k (there_too (file_thing old.things.items k) (file_thing new.things.items k) (others k apart) some))

-- ---- one hold more

pub held_gained : (things : List (Option FileThing)) (old new : List (Option Entry)) (n : Number) (node : Node) → Gains old new n node → AreHeld things old → AreHeld things new
held_gained things old new n node gains held = λ m some. omega (arith, held m some, holds_at-gained old new n node gains m)

more_than_none : (h : ℕ) → 0 < one_more h
more_than_none h = grind (arith, nat_tests)

pub held_then : (old new : List (Option Entry)) (n : Number) (node : Node) → Gains old new n node → 0 < holds_at new n
held_then old new n node gains =
    let e : holds_at new n ≡ one_more (holds_at old n) = ap holds_in gains.held in
    omega (arith, e, more_than_none (holds_at old n))

-- ---- the hold on what is in the file no more is released

module _ (state : State) (before after : List (Option Entry)) (m : Number) (gone : file_number state.things.items m ≡ None) (loses : Loses before after m) (held : AreHeld state.things.items before) where
  abbrev things : List (Option FileThing)
  things = state.things.items

  apart_from : (k : Number) → IsSome (file_thing things k) → k ≢ m
  apart_from k some same =
      let none = ap (λ (j : Number). file_thing things j) same ∙ not_there (file_thing things m) gone in
      absurd (cc (subst IsSome none some))

  pub held_after : AreHeld state.things.items after
  held_after = λ k some.
      let before_it : 0 < holds_at before k = held k some in
      let same : holds_at after k ≡ holds_at before k = loses.others k (apart_from k some) in
      omega (arith, before_it, same)

  module _ (stored : Stored) (stands : StandsFor state before stored) (tidy : IsTidy after) where
    -- the others live on, and stand for what they stood for
    still_stands : (k : Number) (y : Thing) → IsSome (file_thing things k) → Stands before k y → Stands after k y
    still_stands k y some s = Stands-kept before after m loses tidy y k (lives_if_held after k (held_after k some)) s

    pub stands_after : StandsFor state after stored
    stands_after = record {
      sound = stands.sound;
      tidy = tidy;
      defined = stands.defined;
      names = stands.names;
      tables = tables_follow (Names things before) (Names things after) (λ k y h. record { file = h.file; stands = still_stands k y h.file h.stands }) state.tables stored.tables stands.tables;
      found = all_follow (IsFound things before) (IsFound things after) stored.live
          (λ live h. record { number = h.number; thing = h.thing; file = h.file; same = h.same; stands = still_stands h.number live.value (subst IsSome (sym h.file) refl) h.stands }) stands.found;
      known = λ k t e.
          let known = stands.known k t e in
          record { value = known.value; live = known.live; stands = still_stands k known.value (subst IsSome (sym e) refl) known.stands; named = known.named };
    }
