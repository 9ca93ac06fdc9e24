-- The sources whose creations are needed, one after another.
use Rattle.std.proofs.Common.{◌≡◌, ℕ, Bool, not, cond, List, [], ◌∷◌, ◌++◌, Contains, Option, Some, None, refl, sym, ◌∙◌, ap, subst, append_assoc}
use Rattle.std.specs.Prelude.{IsSome, option_map, bytes_eq}
use Rattle.std.specs.List.{AllByRecursion, filter}
use Rattle.std.specs.Cmp.Lexicographic.{nat_list_cmp_total}
use Rattle.std.proofs.lemmas.List.{append-nil}
use Rattle.std.proofs.lemmas.List.Elements.{filter-append, Contains-append_right}
use Rattle.std.proofs.lemmas.Slice.Eq.{bytes_eq-Decides}
use Rattle.ap_text.specs.Order.{bytes_cmp}
use Rattle.ap_text.specs.declared.seen.Seen.TheVariants.{Bytes}
use Rattle.ap_text.proofs.Members.{Contains-head}
use Rattle.ap_content.specs.Things.{Thing, thing, bytes_thing}
use Rattle.ap_content.specs.Entries.{Entry, Stands, Lives, entry_at}
use Rattle.ap_content.specs.declared.node.Number.{Number}
use Rattle.ap_content.proofs.Members.{Contains-filtered}
use Rattle.ap_config.specs.declared.config.Config.{Config}
use Rattle.ap_scan.specs.declared.results.Winner.{Winner}
use Rattle.ap_rows.specs.Inputs.{create_thing}
use Rattle.ap_builder.specs.Meanings.{Meanings}
use Rattle.ap_db.specs.declared.db.Db.{Db}
use Rattle.ap_db.specs.Changes.{create_row_at}
use Rattle.ap_db.specs.Listed.{AreAll}
use Rattle.ap_db.specs.Tables.{PlainTables}
use Rattle.ap_sources.specs.Sources.{matching, is_some_item, sources, seen_of, seen_at}
use Rattle.ap_create.specs.Creation.{create_from, create_input_of}
use Rattle.ap_engine.specs.Need.{creation_stands}
use Rattle.ap_engine.specs.Worlds.{AreQuiet}
use Rattle.ap_engine.specs.Ledgers.{IsHeld, StayHeld}
use Rattle.ap_engine.specs.Interned.{IsSourceOf, AreSourcesOf}
use Rattle.ap_engine.specs.declared.source.Source.{Source}
use Rattle.ap_engine.specs.declared.creations.NeededCreation.{NeededCreation}
use Rattle.ap_engine.specs.Asked.{plain_from, AreNeeds, HasHeldBytes, needed_sources, IsNeeded}
use Rattle.ap_engine.proofs.LookUps.{is_row_at}
use Rattle.ap_engine.proofs.RisingLists.{keys_rise}
use Rattle.ap_engine.proofs.Quiet.{source_reaches_nothing}

-- ---- what is held lives

pub held_lives : (db : Db) (contents : List (Option Entry)) (n : Number) (x : Thing) → IsHeld db contents n x → Lives contents n
held_lives db contents n (thing tag text kids) held = by_entry (entry_at contents n) held.stands.1
  where
    by_entry : (e : Option Entry) → option_map (λ e. e.node) e ≡ Some held.stands.0 → IsSome e
    by_entry None is = absurd (cc is)
    by_entry (Some e) is = refl

pub stays_held_bytes : (db : Db) (contents : List (Option Entry)) (db' : Db) (contents' : List (Option Entry)) → StayHeld db contents db' contents'
    → (all : List Source) → AllByRecursion (HasHeldBytes db contents) all → AllByRecursion (HasHeldBytes db' contents') all
stays_held_bytes db contents db' contents' stay [] held = tt
stays_held_bytes db contents db' contents' stay (source ∷ all) held = ((held.0.0, stay source.content (bytes_thing held.0.0) held.0.1), stays_held_bytes db contents db' contents' stay all held.1)

pub sources_are_held : (db : Db) (contents : List (Option Entry)) (all : List Source) (winners : List Winner) → AreSourcesOf db contents all winners → AllByRecursion (HasHeldBytes db contents) all
sources_are_held db contents [] winners are = tt
sources_are_held db contents (source ∷ all) [] are = absurd are
sources_are_held db contents (source ∷ all) (winner ∷ winners) are = ((are.0.bytes, are.0.held), sources_are_held db contents all winners are.1)

-- ---- what a source's jobs are created from

module _ (builders : Meanings) (config : Config) (winners : List Winner) (quiet : AreQuiet builders config winners) where
  pub source_wins : (winner : Winner) → Contains (sources config winners) winner → Contains winners winner
  source_wins winner is = (Contains-filtered (λ winner. is_some_item (matching config winner.path)) winners winner is).0

  seen_there : (winner : Winner) → Contains (sources config winners) winner → seen_at winners winner.path ≡ winner.seen
  seen_there winner is = ap seen_of (is_row_at bytes_cmp nat_list_cmp_total bytes_eq bytes_eq-Decides (λ winner. winner.path) winners winner (keys_rise bytes_cmp (λ winner. winner.path) winners quiet.rise) (source_wins winner is))

  pub from_is_plain : (winner : Winner) → Contains (sources config winners) winner → (bytes : List ℕ) → winner.seen ≡ Bytes bytes → create_from builders config winners winner.path ≡ plain_from config winner.path bytes
  from_is_plain winner is bytes seen =
      let now = seen_there winner is ∙ seen in
      let nothing = source_reaches_nothing builders config winners quiet winner is in
      λ i. record { builders = (plain_from config winner.path bytes).builders; platforms = config.platforms; path = winner.path; seen = now i; reached = nothing i }

  pub input_is_plain : (winner : Winner) → Contains (sources config winners) winner → (path bytes : List ℕ) → path ≡ winner.path → winner.seen ≡ Bytes bytes
      → create_thing (plain_from config path bytes) ≡ create_input_of builders config winners winner.path
  input_is_plain winner is path bytes same seen = ap (λ path. create_thing (plain_from config path bytes)) same ∙ ap create_thing (sym (from_is_plain winner is bytes seen))

module _ (builders : Meanings) (config : Config) (winners : List Winner) where
  -- ---- what stays

  pub stays_source : (db : Db) (contents : List (Option Entry)) (db' : Db) (contents' : List (Option Entry)) → StayHeld db contents db' contents'
      → (source : Source) (winner : Winner) → IsSourceOf db contents source winner → IsSourceOf db' contents' source winner
  stays_source db contents db' contents' stay source winner is = record {
    path = is.path;
    order = is.order;
    name = is.name;
    bytes = is.bytes;
    seen = is.seen;
    held = stay source.content (bytes_thing is.bytes) is.held;
  }

  pub stay_sources : (db : Db) (contents : List (Option Entry)) (db' : Db) (contents' : List (Option Entry)) → StayHeld db contents db' contents'
      → (all : List Source) (wins : List Winner) → AreSourcesOf db contents all wins → AreSourcesOf db' contents' all wins
  stay_sources db contents db' contents' stay [] [] are = tt
  stay_sources db contents db' contents' stay [] (winner ∷ wins) are = absurd are
  stay_sources db contents db' contents' stay (source ∷ all) [] are = absurd are
  stay_sources db contents db' contents' stay (source ∷ all) (winner ∷ wins) are = (stays_source db contents db' contents' stay source winner are.0, stay_sources db contents db' contents' stay all wins are.1)

  pub stay_needed : (db : Db) (contents : List (Option Entry)) (db' : Db) (contents' : List (Option Entry)) → StayHeld db contents db' contents'
      → (all : List NeededCreation) (wins : List Winner) → AreAll (IsNeeded builders config winners db contents) all wins → AreAll (IsNeeded builders config winners db' contents') all wins
  stay_needed db contents db' contents' stay [] [] are = tt
  stay_needed db contents db' contents' stay [] (winner ∷ wins) are = absurd are
  stay_needed db contents db' contents' stay (needed ∷ all) [] are = absurd are
  stay_needed db contents db' contents' stay (needed ∷ all) (winner ∷ wins) are = (
    record {
      of = stays_source db contents db' contents' stay needed.source.now winner are.0.of;
      input = stay needed.input (create_input_of builders config winners winner.path) are.0.input;
    },
    stay_needed db contents db' contents' stay all wins are.1,
  )

  -- ---- one source after another

  module _ (tables : PlainTables) where
    abbrev is_open : Winner → Bool
    is_open winner = not (creation_stands builders config winners tables winner.path)

    -- the needed ones of the sources so far
    pub record AreFound (db : Db) (contents : List (Option Entry)) (rest : List Source) (needed : List NeededCreation) : Type 0 where
      pub before : List Winner
      pub after : List Winner
      pub joined : before ++ after ≡ sources config winners
      pub behind : AreSourcesOf db contents rest after
      pub found : AreAll (IsNeeded builders config winners db contents) needed (filter is_open before)

    pub none_found : (db : Db) (contents : List (Option Entry)) (all : List Source) → AreSourcesOf db contents all (sources config winners) → AreFound db contents all []
    none_found db contents all are = record { before = []; after = sources config winners; joined = refl; behind = are; found = tt }

    pub all_found : (db : Db) (contents : List (Option Entry)) (needed : List NeededCreation) → AreFound db contents [] needed → AreAll (IsNeeded builders config winners db contents) needed (needed_sources builders config winners tables)
    all_found db contents needed are = by_rest are.after are.joined are.behind
      where
        by_rest : (after : List Winner) → are.before ++ after ≡ sources config winners → AreSourcesOf db contents [] after → AreAll (IsNeeded builders config winners db contents) needed (needed_sources builders config winners tables)
        by_rest [] joined behind = subst (λ wins. AreAll (IsNeeded builders config winners db contents) needed (filter is_open wins)) (sym (append-nil are.before) ∙ joined) are.found
        by_rest (winner ∷ after) joined behind = absurd behind

    both_all : {X Y : Type 0} (R : X → Y → Type 0) (xs : List X) (ys : List Y) (us : List X) (vs : List Y) → AreAll R xs ys → AreAll R us vs → AreAll R (xs ++ us) (ys ++ vs)
    both_all R [] [] us vs one two = two
    both_all R [] (y ∷ ys) us vs one two = absurd one
    both_all R (x ∷ xs) [] us vs one two = absurd one
    both_all R (x ∷ xs) (y ∷ ys) us vs one two = (one.0, both_all R xs ys us vs one.1 two)

    module _ (quiet : AreQuiet builders config winners) (db : Db) (contents : List (Option Entry)) (db' : Db) (contents' : List (Option Entry)) (stay : StayHeld db contents db' contents') (source : Source) where
      needs_are : (winner : Winner) → Contains (sources config winners) winner → (is : IsSourceOf db contents source winner) (more : List NeededCreation)
          → AreNeeds db' contents' source (create_thing (plain_from config source.path is.bytes)) (create_row_at tables source.path) more
          → AreAll (IsNeeded builders config winners db' contents') more (filter is_open (winner ∷ []))
      needs_are winner has is more needs = by_more more
          (subst (λ input. AreNeeds db' contents' source input (create_row_at tables winner.path) more) (input_is_plain builders config winners quiet winner has source.path is.bytes is.path is.seen)
          (subst (λ path. AreNeeds db' contents' source (create_thing (plain_from config source.path is.bytes)) (create_row_at tables path) more) is.path needs))
        where
          by_more : (more : List NeededCreation) → AreNeeds db' contents' source (create_input_of builders config winners winner.path) (create_row_at tables winner.path) more
              → AreAll (IsNeeded builders config winners db' contents') more (cond (is_open winner) (winner ∷ []) [])
          by_more [] stands = subst (λ b. AreAll (IsNeeded builders config winners db' contents') [] (cond (not b) (winner ∷ []) [])) (sym stands) tt
          by_more (needed ∷ []) lacks = subst (λ b. AreAll (IsNeeded builders config winners db' contents') (needed ∷ []) (cond (not b) (winner ∷ []) [])) (sym lacks.1)
              (record { of = subst (λ source. IsSourceOf db' contents' source winner) (sym lacks.0) (stays_source db contents db' contents' stay source winner is); input = lacks.2 }, tt)
          by_more (needed ∷ another ∷ others) never = absurd never

      pub one_found : (rest : List Source) (needed more : List NeededCreation) → AreFound db contents (source ∷ rest) needed
          → ((bytes : List ℕ) → Stands contents source.content (bytes_thing bytes) → AreNeeds db' contents' source (create_thing (plain_from config source.path bytes)) (create_row_at tables source.path) more)
          → AreFound db' contents' rest (needed ++ more)
      one_found rest needed more are needs = by_rest are.after are.joined are.behind
        where
          by_rest : (after : List Winner) → are.before ++ after ≡ sources config winners → AreSourcesOf db contents (source ∷ rest) after → AreFound db' contents' rest (needed ++ more)
          by_rest [] joined behind = absurd behind
          by_rest (winner ∷ after) joined behind =
              let has : Contains (sources config winners) winner = subst (λ wins. Contains wins winner) joined (Contains-append_right are.before (winner ∷ after) winner (Contains-head winner after)) in
              record {
                before = are.before ++ winner ∷ [];
                after = after;
                joined = append_assoc are.before (winner ∷ []) after ∙ joined;
                behind = stay_sources db contents db' contents' stay rest after behind.1;
                found = subst (AreAll (IsNeeded builders config winners db' contents') (needed ++ more)) (sym (filter-append is_open are.before (winner ∷ [])))
                    (both_all (IsNeeded builders config winners db' contents') needed (filter is_open are.before) more (filter is_open (winner ∷ []))
                    (stay_needed db contents db' contents' stay needed (filter is_open are.before) are.found)
                    (needs_are winner has behind.0 more (needs behind.0.bytes behind.0.held.stands)));
              }
