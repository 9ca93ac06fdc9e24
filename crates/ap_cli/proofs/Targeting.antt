-- Which sources declare targets.
use Rattle.std.proofs.Common.{◌≡◌, ◌≢◌, ◌≤◌, ◌<◌, length, get_or, ℕ, Bool, true, false, ◌&&◌, List, [], ◌∷◌, ◌++◌, ◌||◌, Contains, refl, sym, ◌∙◌, ap, subst, ⊎_elim}
use Rattle.std.specs.Prelude.{Option, Some, None, Result, Ok, Err, IfOk, bytes_eq}
use Rattle.std.specs.List.{find, flat_map, list_any}
use Rattle.std.proofs.lemmas.Slice.Eq.{bytes_eq-Decides}
use Rattle.ap_text.specs.Wild.{some_matches_lem}
use Rattle.ap_text.specs.declared.seen.Seen.{Seen}
use Rattle.ap_text.specs.declared.seen.Seen.TheVariants.{Bytes, Absent, TooLarge}
use Rattle.ap_text.proofs.Members.{Contains-none, Contains-cons_cases, Contains-head, Contains-tail_of}
use Rattle.ap_content.proofs.Members.{Contains-filter, Contains-filtered}
use Rattle.ap_config.specs.declared.config.Config.{Config}
use Rattle.ap_config.specs.declared.offer.Offer.{Offer}
use Rattle.ap_scan.specs.declared.results.Winner.{Winner}
use Rattle.ap_builder.specs.Meanings.{Meanings}
use Rattle.ap_sources.specs.Sources.{matching, is_some_item, sources, bytes_seen, seen_of, seen_at, named_by, targets_seen, targets}
use Rattle.ap_engine.proofs.LookUps.{found_passes}
use Rattle.ap_engine.proofs.SliceSteps.{after, first_of, none_of}
use Rattle.ap_cli.specs.Unbuilt.{IsTargeted}

-- ---- items that pass a test

-- some item passes
record Passing {X : Type 0} (test : X → Bool) (items : List X) : Type 0 where
  pub item : X
  pub member : Contains items item
  pub passes : test item ≡ true

passing : {X : Type 0} (test : X → Bool) (items : List X) → list_any test items ≡ true → Passing test items
passing test [] any = cc
passing {X = X} test (x ∷ items) any = by_case (test x) refl any (passing test items)
  where
    by_case : (first : Bool) → test x ≡ first → (first || list_any test items) ≡ true → (list_any test items ≡ true → Passing test items) → Passing test (x ∷ items)
    by_case true is any more = record { item = x; member = Contains-head x items; passes = is }
    by_case false is any more = let r = more any in record { item = r.item; member = Contains-tail_of x items r.item r.member; passes = r.passes }

passed : {X : Type 0} (test : X → Bool) (items : List X) (item : X) → Contains items item → test item ≡ true → list_any test items ≡ true
passed test [] item member is = absurd (Contains-none item member)
passed test (x ∷ items) item member is = ⊎_elim
    (λ here. ap (λ y. test y || list_any test items) here ∙ ap (λ b. b || list_any test items) is)
    (λ later. by_case (test x) (passed test items item later is))
    (Contains-cons_cases x items item member)
  where
    by_case : (first : Bool) → list_any test items ≡ true → (first || list_any test items) ≡ true
    by_case true more = refl
    by_case false more = more

both : (a b : Bool) → (a && b) ≡ true → (a ≡ true) × (b ≡ true)
both true b h = (refl, h)
both false b h = cc

pub one_bytes : (a b : List ℕ) → Bytes a ≡ Bytes b → a ≡ b
one_bytes a b same = ap bytes_seen same

-- ---- lists with an item

some_item : {X : Type 0} (items : List X) (item : X) → Contains items item → is_some_item items ≡ true
some_item [] item member = absurd (Contains-none item member)
some_item (x ∷ items) item member = refl

not_none : {X : Type 0} (items : List X) → is_some_item items ≡ true → items ≢ []
not_none [] is = λ _. cc
not_none (x ∷ items) is = λ none. cc

some_where_not_none : {X : Type 0} (items : List X) → items ≢ [] → is_some_item items ≡ true
some_where_not_none [] some = absurd (some refl)
some_where_not_none (x ∷ items) some = refl

none_or_not : {X : Type 0} (items : List X) → (items ≢ [] → ⊥) → items ≡ []
none_or_not [] some = refl
none_or_not (x ∷ items) some = absurd (some (λ none. cc))

nothing_flat : {X Y : Type 0} (f : X → List Y) (items : List X) → ((item : X) → Contains items item → f item ≡ []) → flat_map f items ≡ []
nothing_flat f [] none = refl
nothing_flat f (x ∷ items) none =
    ap (λ front. front ++ flat_map f items) (none x (Contains-head x items)) ∙ nothing_flat f items (λ item member. none item (Contains-tail_of x items item member))

module _ (builders : Meanings) (config : Config) where
  is_source : Winner → Bool
  is_source winner = is_some_item (matching config winner.path)

  -- ---- one winner after another

  -- whose source declares a target is one of the winners
  there : (winners : List Winner) (targeted : IsTargeted builders config winners) → Contains winners targeted.winner
  there winners targeted = (Contains-filtered (λ winner. is_some_item (matching config winner.path)) winners targeted.winner targeted.is).0

  among : (winners others : List Winner) (targeted : IsTargeted builders config winners) → Contains others targeted.winner → IsTargeted builders config others
  among winners others targeted member = record {
    winner = targeted.winner;
    is = Contains-filter (λ winner. is_some_item (matching config winner.path)) others targeted.winner
        (Contains-filtered (λ winner. is_some_item (matching config winner.path)) winners targeted.winner targeted.is).1 member;
    bytes = targeted.bytes;
    seen = targeted.seen;
    builder = targeted.builder;
    matches = targeted.matches;
    declared = targeted.declared;
  }

  none_is_targeted : ¬ IsTargeted builders config []
  none_is_targeted targeted = Contains-none targeted.winner (there [] targeted)

  targeted_first : (winner : Winner) (rest : List Winner) → IsTargeted builders config (winner ∷ []) → IsTargeted builders config (winner ∷ rest)
  targeted_first winner rest targeted = among (winner ∷ []) (winner ∷ rest) targeted
      (⊎_elim (λ here. subst (Contains (winner ∷ rest)) here (Contains-head winner rest)) (λ later. absurd (Contains-none targeted.winner later))
      (Contains-cons_cases winner [] targeted.winner (there (winner ∷ []) targeted)))

  targeted_later : (winner : Winner) (rest : List Winner) → IsTargeted builders config rest → IsTargeted builders config (winner ∷ rest)
  targeted_later winner rest targeted = among rest (winner ∷ rest) targeted (Contains-tail_of winner rest targeted.winner (there rest targeted))

  targeted_behind : (winner : Winner) (rest : List Winner) → (¬ IsTargeted builders config (winner ∷ [])) → IsTargeted builders config (winner ∷ rest) → IsTargeted builders config rest
  targeted_behind winner rest not_first targeted = ⊎_elim
      (λ here. absurd (not_first (among (winner ∷ rest) (winner ∷ []) targeted (subst (Contains (winner ∷ [])) here (Contains-head winner [])))))
      (λ later. among (winner ∷ rest) rest targeted later)
      (Contains-cons_cases winner rest targeted.winner (there (winner ∷ rest) targeted))

  -- the same of the first winner and those after it
  module _ (rest : List Winner) (winner : Winner) (some : 1 ≤ length rest) (is : winner ≡ get_or rest 0 winner) where
    pub first_targeted : IsTargeted builders config (winner ∷ []) → IsTargeted builders config rest
    first_targeted targeted = subst (IsTargeted builders config) (sym (first_of rest winner some is)) (targeted_first winner (after rest) targeted)

    pub after_targeted : IsTargeted builders config (after rest) → IsTargeted builders config rest
    after_targeted targeted = subst (IsTargeted builders config) (sym (first_of rest winner some is)) (targeted_later winner (after rest) targeted)

    pub targeted_after : (¬ IsTargeted builders config (winner ∷ [])) → IsTargeted builders config rest → IsTargeted builders config (after rest)
    targeted_after not_first targeted = targeted_behind winner (after rest) not_first (subst (IsTargeted builders config) (first_of rest winner some is) targeted)

  pub none_left : (rest : List Winner) → length rest < 1 → ¬ IsTargeted builders config rest
  none_left rest none targeted = none_is_targeted (subst (IsTargeted builders config) (none_of rest none) targeted)

  -- ---- what the builders answer for one winner

  module _ (winner : Winner) where
    pub unseen : ((bytes : List ℕ) → winner.seen ≡ Bytes bytes → ⊥) → ¬ IsTargeted builders config (winner ∷ [])
    unseen not_read targeted = ⊎_elim
        (λ here. not_read targeted.bytes (ap (λ (w : Winner). w.seen) here ∙ targeted.seen))
        (λ later. Contains-none targeted.winner later)
        (Contains-cons_cases winner [] targeted.winner (there (winner ∷ []) targeted))

    module _ (bytes : List ℕ) (seen : winner.seen ≡ Bytes bytes) where
      -- a builder matches the path, and declares a target
      abbrev pub does_declare : Offer → Bool
      does_declare offer = some_matches_lem offer.patterns winner.path && is_some_item (builders.declares offer.name winner.path bytes)

      pub targeted_where_declared : list_any does_declare config.builders ≡ true → IsTargeted builders config (winner ∷ [])
      targeted_where_declared any =
          let r = passing does_declare config.builders any in
          let parts = both (some_matches_lem r.item.patterns winner.path) (is_some_item (builders.declares r.item.name winner.path bytes)) r.passes in
          let member = Contains-filter (λ (builder : Offer). some_matches_lem builder.patterns winner.path) config.builders r.item parts.0 r.member in
          record {
            winner = winner;
            is = Contains-filter (λ (w : Winner). is_some_item (matching config w.path)) (winner ∷ []) winner (some_item (matching config winner.path) r.item member) (Contains-head winner []);
            bytes = bytes;
            seen = seen;
            builder = r.item;
            matches = member;
            declared = not_none (builders.declares r.item.name winner.path bytes) parts.1;
          }

      pub untargeted_where_not : list_any does_declare config.builders ≡ false → ¬ IsTargeted builders config (winner ∷ [])
      untargeted_where_not none targeted = ⊎_elim
          (λ here. at_it here)
          (λ later. Contains-none targeted.winner later)
          (Contains-cons_cases winner [] targeted.winner (there (winner ∷ []) targeted))
        where
          at_it : winner ≡ targeted.winner → ⊥
          at_it here =
              let path : targeted.winner.path ≡ winner.path = ap (λ (w : Winner). w.path) (sym here) in
              let same : targeted.bytes ≡ bytes = one_bytes targeted.bytes bytes (sym targeted.seen ∙ ap (λ (w : Winner). w.seen) (sym here) ∙ seen) in
              let kept = Contains-filtered (λ (builder : Offer). some_matches_lem builder.patterns winner.path) config.builders targeted.builder (subst (λ p. Contains (matching config p) targeted.builder) path targeted.matches) in
              let declared : builders.declares targeted.builder.name winner.path bytes ≢ [] =
              subst (λ b. builders.declares targeted.builder.name winner.path b ≢ []) same (subst (λ p. builders.declares targeted.builder.name p targeted.bytes ≢ []) path targeted.declared) in
              let passes : does_declare targeted.builder ≡ true =
              ap (λ m. m && is_some_item (builders.declares targeted.builder.name winner.path bytes)) kept.1 ∙ some_where_not_none (builders.declares targeted.builder.name winner.path bytes) declared in
              let any = passed does_declare config.builders targeted.builder kept.0 passes in
              cc (sym any ∙ none)

      -- the answer for the bytes, as it is got for equal lists
      module _ {E : Type 0} (answer : Result Bool E) (offers : List Offer) (content : List ℕ) (same : offers ≡ config.builders) (read : content ≡ bytes)
          (says : IfOk answer (λ some. some ≡ list_any (λ offer. some_matches_lem offer.patterns winner.path && is_some_item (builders.declares offer.name winner.path content)) offers)) where
        says_so : IfOk answer (λ some. some ≡ list_any does_declare config.builders)
        says_so = subst (λ b. IfOk answer (λ some. some ≡ list_any (λ offer. some_matches_lem offer.patterns winner.path && is_some_item (builders.declares offer.name winner.path b)) config.builders)) read
            (subst (λ os. IfOk answer (λ some. some ≡ list_any (λ offer. some_matches_lem offer.patterns winner.path && is_some_item (builders.declares offer.name winner.path content)) os)) same says)

        pub targeted_where_true : IfOk answer (λ is. is ≡ true → IsTargeted builders config (winner ∷ []))
        targeted_where_true = by_answer answer says_so
          where
            by_answer : (a : Result Bool E) → IfOk a (λ some. some ≡ list_any does_declare config.builders) → IfOk a (λ is. is ≡ true → IsTargeted builders config (winner ∷ []))
            by_answer (Ok some) says = λ is. targeted_where_declared (sym says ∙ is)
            by_answer (Err fault) says = tt

        pub untargeted_where_false : IfOk answer (λ is. is ≡ false → ¬ IsTargeted builders config (winner ∷ []))
        untargeted_where_false = by_answer answer says_so
          where
            by_answer : (a : Result Bool E) → IfOk a (λ some. some ≡ list_any does_declare config.builders) → IfOk a (λ is. is ≡ false → ¬ IsTargeted builders config (winner ∷ []))
            by_answer (Ok some) says = λ is. untargeted_where_not (sym says ∙ is)
            by_answer (Err fault) says = tt

  -- ---- where no target is declared, no source has a target

  module _ (winners : List Winner) (untargeted : ¬ IsTargeted builders config winners) where
    nothing_declared : (path bytes : List ℕ) → is_some_item (matching config path) ≡ true → (winner : Winner) → Contains winners winner → winner.path ≡ path → winner.seen ≡ Bytes bytes →
        (builder : Offer) → Contains (matching config path) builder → builders.declares builder.name path bytes ≡ []
    nothing_declared path bytes some winner member at seen builder matches = none_or_not (builders.declares builder.name path bytes)
        (λ declared. untargeted (record {
          winner = winner;
          is = Contains-filter (λ (w : Winner). is_some_item (matching config w.path)) winners winner (ap (λ p. is_some_item (matching config p)) at ∙ some) member;
          bytes = bytes;
          seen = seen;
          builder = builder;
          matches = subst (λ p. Contains (matching config p) builder) (sym at) matches;
          declared = subst (λ p. builders.declares builder.name p bytes ≢ []) (sym at) declared;
        }))

    targets_by : (path : List ℕ) → is_some_item (matching config path) ≡ true → (found : Option Winner) → find (λ winner. bytes_eq winner.path path) winners ≡ found →
        (seen : Seen) → seen_of found ≡ seen → targets_seen builders config winners path seen ≡ []
    targets_by path some found at Absent seen = refl
    targets_by path some found at TooLarge seen = refl
    targets_by path some None at (Bytes bytes) seen = cc
    targets_by path some (Some other) at (Bytes bytes) seen =
        let r = found_passes (λ winner. bytes_eq winner.path path) winners other at in
        nothing_flat (λ builder. flat_map (named_by winners) (builders.declares builder.name path bytes)) (matching config path)
        (λ builder matches. ap (flat_map (named_by winners)) (nothing_declared path bytes some other r.0 ((bytes_eq-Decides other.path path).0 r.1) seen builder matches))

    pub no_targets : (winner : Winner) → Contains (sources config winners) winner → targets builders config winners winner.path ≡ []
    no_targets winner is = targets_by winner.path
        (Contains-filtered (λ (w : Winner). is_some_item (matching config w.path)) winners winner is).1
        (find (λ w. bytes_eq w.path winner.path) winners) refl (seen_at winners winner.path) refl
