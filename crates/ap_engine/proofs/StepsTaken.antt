-- Steps that are taken one after another, each by a commit of its change.
use Rattle.std.proofs.Common.{◌≡◌, ℕ, true, List, [], ◌∷◌, ◌++◌, Option, Some, refl, sym, ◌∙◌, ap, subst, append_assoc, Bor}
use Rattle.std.proofs.lemmas.List.{append-nil}
use Rattle.ap_content.specs.Things.{bytes_thing}
use Rattle.ap_content.specs.Entries.{Entry, Stands}
use Rattle.ap_scan.specs.declared.results.Winner.{Winner}
use Rattle.ap_rows.specs.Readers.{is_folded}
use Rattle.ap_rows.specs.declared.row.SourceRow.{SourceRow}
use Rattle.ap_rows.specs.declared.row.SeenRow.TheVariants.{Bytes as WithBytes}
use Rattle.ap_db.specs.declared.db.Db.{Db}
use Rattle.ap_db.specs.Changes.{Whole, put_folders, put_source, remove_source, put_create, put_job, after}
use Rattle.ap_db.specs.States.{SeenIs, SourceIs}
use Rattle.ap_db.specs.Stored.{Stored}
use Rattle.ap_db.specs.WholeItems.{committed, all_committed}
use Rattle.ap_engine.specs.declared.source.Source.{Source}
use Rattle.ap_engine.specs.declared.source_rows.Step.{Step}
use Rattle.ap_engine.specs.declared.source_rows.Step.TheVariants.{Put, Remove}
use Rattle.ap_engine.specs.Goods.{IsGoodContent, IsGoodSource}
use Rattle.ap_engine.specs.Interned.{IsSourceOf}
use Rattle.ap_engine.specs.Ledgers.{IsReady, StayHeld, HasCommitted, HasStopped}
use Rattle.ap_engine.specs.Settled.{content_thing, source_row}
use Rattle.ap_engine.specs.SourceSteps.{IsStepFor, AreStepsFor, IsThere, AreThere}
use Rattle.ap_engine.proofs.Following.{both_committed, none_committed, one_committed, all_follow, stopped_behind, stopped_before, nothing_committed}
use Rattle.ap_engine.proofs.Formed.{bytes_formed}
use Rattle.ap_engine.proofs.WholeTables.{tables_after_one}

-- ---- the put of a source's row

pub record IsPutOf (db : Db) (contents : List (Option Entry)) (source : Source) (change : Whole) : Type 0 where
  pub winner : Winner
  pub of : IsSourceOf db contents source winner
  pub folded : is_folded winner.path ≡ true
  pub same : change ≡ put_source (source_row winner)

put_of : (db : Db) (contents : List (Option Entry)) (source : Bor Source) (change : Whole) → IsStepFor db contents (Put source) change → IsPutOf db contents source.now change
put_of db contents source (put_source plain) for = record { winner = for.0; of = for.1; folded = for.2; same = ap put_source for.3 }
put_of db contents source (put_folders rows) for = absurd for
put_of db contents source (remove_source path) for = absurd for
put_of db contents source (put_create plain) for = absurd for
put_of db contents source (put_job plain) for = absurd for

pub is_put : (db : Db) (contents : List (Option Entry)) (step : Step) (source : Bor Source) → step ≡ Put source → (change : Whole) → IsStepFor db contents step change → IsPutOf db contents source.now change
is_put db contents step source is change for = put_of db contents source change (subst (λ (step : Step). IsStepFor db contents step change) is for)

module _ (db : Db) (contents : List (Option Entry)) (source : Source) (winner : Winner) (of : IsSourceOf db contents source winner) where
  its_content : content_thing winner.seen ≡ Some (bytes_thing of.bytes)
  its_content = ap content_thing of.seen

  pub row_stands : (row : SourceRow) → row ≡ record { path = source.path; order = source.order; name = source.name; seen = WithBytes source.content } → SourceIs (Stands contents) row (source_row winner)
  row_stands row is = subst (λ (row : SourceRow). SourceIs (Stands contents) row (source_row winner)) (sym is) (record {
    path = of.path;
    order = of.order;
    name = of.name;
    seen = subst (SeenIs (Stands contents) (WithBytes source.content)) (sym its_content) of.held.stands;
  })

  pub row_good : is_folded winner.path ≡ true → IsGoodSource (source_row winner)
  row_good folded = record { folded = folded; content = subst IsGoodContent (sym its_content) (bytes_formed of.bytes) }

-- ---- what stays

stays_step : (db : Db) (contents : List (Option Entry)) (db' : Db) (contents' : List (Option Entry)) → StayHeld db contents db' contents' → (step : Step) (change : Whole) → IsStepFor db contents step change → IsStepFor db' contents' step change
stays_step db contents db' contents' stay (Put source) (put_source plain) for = (
  for.0,
  record { path = for.1.path; order = for.1.order; name = for.1.name; bytes = for.1.bytes; seen = for.1.seen; held = stay source.now.content (bytes_thing for.1.bytes) for.1.held },
  for.2,
  for.3,
)
stays_step db contents db' contents' stay (Put source) (put_folders rows) for = absurd for
stays_step db contents db' contents' stay (Put source) (remove_source path) for = absurd for
stays_step db contents db' contents' stay (Put source) (put_create plain) for = absurd for
stays_step db contents db' contents' stay (Put source) (put_job plain) for = absurd for
stays_step db contents db' contents' stay (Remove path) (remove_source gone) for = for
stays_step db contents db' contents' stay (Remove path) (put_folders rows) for = absurd for
stays_step db contents db' contents' stay (Remove path) (put_source plain) for = absurd for
stays_step db contents db' contents' stay (Remove path) (put_create plain) for = absurd for
stays_step db contents db' contents' stay (Remove path) (put_job plain) for = absurd for

stay_steps : (db : Db) (contents : List (Option Entry)) (db' : Db) (contents' : List (Option Entry)) → StayHeld db contents db' contents' → (steps : List Step) (changes : List Whole) → AreStepsFor db contents steps changes → AreStepsFor db' contents' steps changes
stay_steps db contents db' contents' stay [] [] are = tt
stay_steps db contents db' contents' stay [] (change ∷ changes) are = absurd are
stay_steps db contents db' contents' stay (step ∷ steps) [] are = absurd are
stay_steps db contents db' contents' stay (step ∷ steps) (change ∷ changes) are = (stays_step db contents db' contents' stay step change are.0, stay_steps db contents db' contents' stay steps changes are.1)

-- ---- one after another

module _ {D : Type 0} (seen : D → Option (List ℕ)) (may_leave : D → List ℕ → Type 0) (clock : D → Option ℕ) (left_at : D → ℕ → List ℕ → Type 0) (room faults : D → ℕ) where
  -- some of the steps are taken, and the others are left
  pub record AreTaken (db : Db) (contents : List (Option Entry)) (db' : Db) (contents' : List (Option Entry)) (old new : D × D) (stored : Stored) (changes : List Whole) (rest : List Step) : Type 0 where
    pub done : List Whole
    pub behind : List Whole
    pub joined : done ++ behind ≡ changes
    pub each : AreStepsFor db' contents' rest behind
    pub there : AreThere (all_committed stored done).tables behind
    pub committed : HasCommitted seen may_leave clock left_at room faults db contents db' contents' old new stored done

  pub none_taken : (db : Db) (contents : List (Option Entry)) (store : D × D) (stored : Stored) → IsReady seen may_leave room db contents store stored → (changes : List Whole) (steps : List Step) → AreStepsFor db contents steps changes → AreThere stored.tables changes
      → AreTaken db contents db contents store store stored changes steps
  none_taken db contents store stored ready changes steps each there = record {
    done = [];
    behind = changes;
    joined = refl;
    each = each;
    there = subst (λ (s : Stored). AreThere s.tables changes) (sym (none_committed stored)) there;
    committed = nothing_committed seen may_leave clock left_at room faults db contents store stored ready;
  }

  module _ (db : Db) (contents : List (Option Entry)) (db' : Db) (contents' : List (Option Entry)) (old new : D × D) (stored : Stored) (changes : List Whole) where
    pub all_taken : AreTaken db contents db' contents' old new stored changes [] → HasCommitted seen may_leave clock left_at room faults db contents db' contents' old new stored changes
    all_taken taken = by_behind taken.behind taken.joined taken.each
      where
        by_behind : (behind : List Whole) → taken.done ++ behind ≡ changes → AreStepsFor db' contents' [] behind → HasCommitted seen may_leave clock left_at room faults db contents db' contents' old new stored changes
        by_behind [] joined each = subst (HasCommitted seen may_leave clock left_at room faults db contents db' contents' old new stored) (sym (append-nil taken.done) ∙ joined) taken.committed
        by_behind (change ∷ behind) joined each = absurd each

    module _ (step : Step) (rest : List Step) (taken : AreTaken db contents db' contents' old new stored changes (step ∷ rest)) where
      -- the first of those that are left
      pub record HasNext : Type 0 where
        pub change : Whole
        pub others : List Whole
        pub joined : taken.done ++ change ∷ others ≡ changes
        pub first : IsStepFor db' contents' step change
        pub each : AreStepsFor db' contents' rest others
        pub there : IsThere (all_committed stored taken.done).tables change
        pub others_there : AreThere (after (all_committed stored taken.done).tables change) others

      pub next : HasNext
      next = by_behind taken.behind taken.joined taken.each taken.there
        where
          by_behind : (behind : List Whole) → taken.done ++ behind ≡ changes → AreStepsFor db' contents' (step ∷ rest) behind → AreThere (all_committed stored taken.done).tables behind → HasNext
          by_behind [] joined each there = absurd each
          by_behind (change ∷ others) joined each there = record { change = change; others = others; joined = joined; first = each.0; each = each.1; there = there.0; others_there = there.1 }

      abbrev pub stored_now : Stored
      stored_now = all_committed stored taken.done

      all_joined : (taken.done ++ next.change ∷ []) ++ next.others ≡ changes
      all_joined = append_assoc taken.done (next.change ∷ []) next.others ∙ next.joined

      stored_then : all_committed stored (taken.done ++ next.change ∷ []) ≡ committed stored_now next.change
      stored_then = both_committed stored taken.done (next.change ∷ []) ∙ one_committed stored_now next.change

      pub one_taken : (db'' : Db) (contents'' : List (Option Entry)) (last : D × D) → HasCommitted seen may_leave clock left_at room faults db' contents' db'' contents'' new last stored_now (next.change ∷ [])
          → AreTaken db contents db'' contents'' old last stored changes rest
      one_taken db'' contents'' last is = record {
        done = taken.done ++ next.change ∷ [];
        behind = next.others;
        joined = all_joined;
        each = stay_steps db' contents' db'' contents'' is.stay rest next.others next.each;
        there = subst (λ t. AreThere t next.others) (sym (ap (λ (s : Stored). s.tables) stored_then ∙ tables_after_one stored_now next.change taken.committed.ready.beside.well is.commits.lawful.0)) next.others_there;
        committed = all_follow seen may_leave clock left_at room faults db contents db' contents' db'' contents'' old new last stored taken.done (next.change ∷ []) taken.committed is;
      }

      pub one_stopped : (last : D × D) → HasStopped seen may_leave clock left_at room faults new last stored_now (next.change ∷ []) → HasStopped seen may_leave clock left_at room faults old last stored changes
      one_stopped last stopped = subst (HasStopped seen may_leave clock left_at room faults old last stored) all_joined
          (stopped_before seen may_leave clock left_at room faults old last stored (taken.done ++ next.change ∷ []) next.others
          (stopped_behind seen may_leave clock left_at room faults db contents db' contents' old new last stored taken.done (next.change ∷ []) taken.committed stopped))
