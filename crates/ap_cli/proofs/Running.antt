-- A run from its parts: an opening, and then changes, all or the first of them.
use Rattle.std.proofs.Common.{◌≡◌, ◌⊎◌, inl, inr, zero, suc, ℕ, List, [], ◌∷◌, ◌++◌, length, drop, refl, sym, ◌∙◌, ap, subst}
use Rattle.std.specs.Prelude.{Option, Some, None, Ok, IfSome}
use Rattle.std.proofs.lemmas.List.{drop_at}
use Rattle.ap_disk.specs.Calls.{TellsAs}
use Rattle.ap_journal.specs.Records.{IsSameStore}
use Rattle.ap_journal.specs.Moments.{Opens}
use Rattle.ap_journal.specs.Told.{one as each}
use Rattle.ap_config.specs.declared.config.Config.{Config}
use Rattle.ap_config.specs.declared.offer.Offer.{Offer}
use Rattle.ap_scan.specs.declared.results.Scan.{Scan}
use Rattle.ap_content.specs.Entries.{Entry as ContentEntry}
use Rattle.ap_rows.specs.declared.row.Tables.{Tables}
use Rattle.ap_builder.specs.Meanings.{Meanings}
use Rattle.ap_builder.specs.declared.entry.Entry.{Entry}
use Rattle.ap_db.specs.declared.db.Db.{Db}
use Rattle.ap_db.specs.Changes.{Whole}
use Rattle.ap_db.specs.States.{Names, TablesAre}
use Rattle.ap_db.specs.Stored.{Stored, stored_in}
use Rattle.ap_db.specs.Tables.{PlainTables}
use Rattle.ap_db.specs.WholeItems.{all_committed}
use Rattle.ap_engine.specs.Changes.{front_changes, changes, job_changes, with_creations}
use Rattle.ap_engine.specs.Ledgers.{Commits, HasStopped, RunsOn, LeavesOnly}
use Rattle.ap_engine.specs.Need.{need}
use Rattle.ap_engine.specs.Settled.{settled}
use Rattle.ap_engine.specs.Sound.{IsSound, IsSoundStored}
use Rattle.ap_engine.specs.Stops.{IsFrontOf}
use Rattle.ap_engine.proofs.Following.{stopped_before}
use Rattle.ap_engine.proofs.ImagesSound.{EachFrontIsSound, runs_leave_sound}
use Rattle.ap_engine.proofs.Openings.{runs_on, opens_alone}
use Rattle.ap_engine.proofs.Runs.{all_are_front, told_soundly, opening_leaves_sound, opened_run_stays_sound, opened_stop_stays_sound, opened_early_stop_stays_sound, run_settles, reads_settled, crash_leaves_settled}
use Rattle.ap_cli.specs.declared.other_files.OtherFiles.{OtherFiles}
use Rattle.ap_cli.specs.declared.report.Counts.{Counts}
use Rattle.ap_cli.specs.Project.{IsProject, others_of}
use Rattle.ap_cli.specs.Run.{counts_of, AreFirst, Ran, Stopped}
use Rattle.ap_scan.specs.Winners.{Files}
use Rattle.ap_cli.specs.Unbuilt.{IsUnbuilt}
use Rattle.ap_cli.specs.Working.{AreRowsOf, IsFound, Settled, Halted, at_once, early, late, IsUndeliverable, Delivered}
use Rattle.ap_cli.proofs.Building.{is_built, undelivered}

pub where_told : {X : Type 0} (told : Option X) (P : X → Type 0) → ((x : X) → told ≡ Some x → P x) → IfSome told P
where_told None P p = tt
where_told (Some x) P p = p x refl

-- they were delivered, and this holds too
pub also_told : (Laid : Files → Type 0) (Told : Counts → Type 0) (Also : Type 0) (tables : PlainTables) → Delivered Laid Told tables → Also → Delivered Laid (λ counts. Told counts × Also) tables
also_told Laid Told Also tables delivered also = record { made = delivered.made; apart = delivered.apart; distinct = delivered.distinct; laid = delivered.laid; told = (delivered.told, also) }

none_in_front : (given rest : List Whole) → given ++ rest ≡ [] → given ≡ []
none_in_front [] rest is = refl
none_in_front (change ∷ given) rest is = absurd (cc is)

module _ {D : Type 0} (seen : D → Option (List ℕ)) (may_leave : D → List ℕ → Type 0) (clock : D → Option ℕ) (left_at : D → ℕ → List ℕ → Type 0) (room faults : D → ℕ)
    (builders : Meanings) (offers : List Offer) (path : List ℕ) (tree : Option Files) (old mid : D × D) (file : List ℕ) (tells : seen old.0 ≡ Some file) (sound : IsSound builders file)
    (opens : Opens seen may_leave clock left_at room faults old mid (may_leave old.0) (λ c. IfSome (seen old.0) (λ f. IsSameStore f c))) where
  stands_when : (stored : Stored) → stored_in file ≡ Ok stored → IfSome (seen old.0) (λ f. stored_in f ≡ Ok stored)
  stands_when stored is = subst (λ (o : Option (List ℕ)). IfSome o (λ f. stored_in f ≡ Ok stored)) (sym tells) is

  -- an opening alone
  pub opened_alone : Stopped seen may_leave clock left_at room faults old mid builders offers path tree file
  opened_alone = record {
    stored = sound.stored;
    lawful = sound.lawful;
    given = [];
    answered = 0;
    runs = opens_alone seen may_leave clock left_at room faults old mid sound.stored opens (stands_when sound.stored sound.lawful);
    first = inl refl;
  }

  pub opened_soundly : LeavesOnly seen may_leave clock left_at room faults old mid (IsSound builders)
  opened_soundly = opening_leaves_sound seen may_leave clock left_at room faults builders old file tells mid sound opens

  -- and what follows on it
  module _ (stored : Stored) (stands : IfSome (seen old.0) (λ f. stored_in f ≡ Ok stored)) (telling : TellsAs (seen old.0) (seen mid.0) (λ _ _. Unit {0})) (new : D × D) where
    is_stored : stored_in file ≡ Ok stored
    is_stored = subst (λ (o : Option (List ℕ)). IfSome o (λ f. stored_in f ≡ Ok stored)) tells stands

    pub stored_soundly : IsSoundStored builders stored
    stored_soundly = told_soundly builders stored (seen old.0) file tells sound stands

    stopped_with : (given : List Whole) (answered : ℕ) → Commits seen may_leave clock left_at room faults mid new stored given answered → (given ≡ []) ⊎ IfSome tree (AreFirst builders offers path stored.tables given)
        → Stopped seen may_leave clock left_at room faults old new builders offers path tree file
    stopped_with given answered commits first = record {
      stored = stored;
      lawful = is_stored;
      given = given;
      answered = answered;
      runs = runs_on seen may_leave clock left_at room faults old mid stored opens stands new given answered telling commits;
      first = first;
    }

    first_of : (config : Config) (scan : Scan) → IsFound builders offers path tree config scan → (given : List Whole) → IsFrontOf given (changes builders config scan.winners stored.tables)
        → IfSome tree (AreFirst builders offers path stored.tables given)
    first_of config scan found given front = each tree (λ files. IsProject offers path files config scan) (AreFirst builders offers path stored.tables given) found.told
        (λ files on. record { config = config; scan = scan; on = on; front = front })

    -- a run that was stopped
    pub halted_run : Halted builders offers path tree seen may_leave clock left_at room faults mid new stored → Stopped seen may_leave clock left_at room faults old new builders offers path tree file
    halted_run (at_once stop) = stopped_with stop.given stop.answered stop.commits (inl (none_in_front stop.given stop.front.rest stop.front.joined))
    halted_run (early config scan found inputs stop) =
        let whole : HasStopped seen may_leave clock left_at room faults mid new stored (changes builders config scan.winners stored.tables) =
        stopped_before seen may_leave clock left_at room faults mid new stored (front_changes builders config scan.winners stored.tables) (job_changes builders config scan.winners (with_creations builders config scan.winners stored.tables)) stop in
        stopped_with whole.given whole.answered whole.commits (inr (first_of config scan found whole.given whole.front))
    halted_run (late config scan found free typed stop) = stopped_with stop.given stop.answered stop.commits (inr (first_of config scan found stop.given stop.front))

    none_of : EachFrontIsSound builders stored []
    none_of zero = stored_soundly.rows
    none_of (suc k) = stored_soundly.rows

    pub halted_soundly : Halted builders offers path tree seen may_leave clock left_at room faults mid new stored → LeavesOnly seen may_leave clock left_at room faults old new (IsSound builders)
    halted_soundly (at_once stop) = runs_leave_sound builders stored stored_soundly [] tt none_of seen may_leave clock left_at room faults old new stop.answered file tells
        (subst (λ (given : List Whole). RunsOn seen may_leave clock left_at room faults old new stored given stop.answered) (none_in_front stop.given stop.front.rest stop.front.joined)
        (runs_on seen may_leave clock left_at room faults old mid stored opens stands new stop.given stop.answered telling stop.commits))
    halted_soundly (early config scan found inputs stop) =
        opened_early_stop_stays_sound seen may_leave clock left_at room faults builders old file tells config scan.winners found.quiet new stored sound mid opens stands telling inputs stop
    halted_soundly (late config scan found free typed stop) =
        opened_stop_stays_sound seen may_leave clock left_at room faults builders old file tells config scan.winners found.quiet new stored sound mid opens stands telling free typed stop

    -- one that went to its end
    module _ (db db' : Db) (contents contents' : List (Option ContentEntry)) (bench bench' : List Entry) (others : OtherFiles)
        (ran : Settled builders offers path tree seen may_leave clock left_at room faults db db' contents contents' mid new stored bench bench' others) where
      abbrev all_changes : List Whole
      all_changes = changes builders ran.config ran.scan.winners stored.tables

      pub settled_run : Stopped seen may_leave clock left_at room faults old new builders offers path tree file
      settled_run = stopped_with all_changes (length all_changes) ran.committed.commits
          (inr (first_of ran.config ran.scan ran.found all_changes (all_are_front all_changes)))

      pub settled_soundly : LeavesOnly seen may_leave clock left_at room faults old new (IsSound builders)
      settled_soundly = opened_run_stays_sound seen may_leave clock left_at room faults builders old file tells ran.config ran.scan.winners ran.found.quiet new stored sound mid opens stands telling ran.free ran.typed db db' contents contents' ran.committed

      -- its tables
      pub tables_are : (all_committed stored all_changes).tables ≡ settled builders ran.config ran.scan.winners
      tables_are = run_settles builders ran.config ran.scan.winners ran.found.quiet ran.free ran.typed stored stored_soundly seen may_leave clock left_at room faults db db' contents contents' mid new ran.committed

      -- the rows by number stand for them
      pub rows_are : (tables : Tables) (numbers : List (Option ContentEntry)) → tables ≡ db'.state.tables → numbers ≡ contents' → AreRowsOf tables numbers (all_committed stored all_changes).tables
      rows_are tables numbers same_tables same_numbers = (
        db'.state.things.items,
        subst (λ (t : Tables). TablesAre (Names db'.state.things.items numbers) t (all_committed stored all_changes).tables) (sym same_tables)
            (subst (λ (n : List (Option ContentEntry)). TablesAre (Names db'.state.things.items n) db'.state.tables (all_committed stored all_changes).tables) (sym same_numbers) ran.committed.ready.beside.stands.tables),
      )

      -- they were delivered, or why not
      pub built_at_end : (Laid : Files → Type 0) (Told : Counts → Type 0) → Delivered Laid Told (all_committed stored all_changes).tables → IfSome tree (λ files. ¬ IsUnbuilt builders offers path files)
      built_at_end Laid Told delivered = let of_settled : Delivered Laid Told (settled builders ran.config ran.scan.winners) = subst (Delivered Laid Told) tables_are delivered in
          is_built builders offers path tree ran.config ran.scan ran.found ran.free of_settled.made of_settled.apart of_settled.distinct

      pub unbuilt_at_end : IsUndeliverable (all_committed stored all_changes).tables → IfSome tree (IsUnbuilt builders offers path)
      unbuilt_at_end why = undelivered builders offers path tree ran.config ran.scan ran.found ran.free (subst IsUndeliverable tables_are why)

      -- and all that it did
      module _ (entries : List Entry) (are : entries ≡ drop (length bench) bench') (Laid : Files → Type 0) (Told : List Entry → OtherFiles → Counts → Type 0)
          (delivered : Delivered Laid (Told entries others) (all_committed stored all_changes).tables) where
        entries_are : entries ≡ need builders ran.config ran.scan.winners stored.tables
        entries_are = are ∙ ap (drop (length bench)) ran.asked ∙ drop_at bench (need builders ran.config ran.scan.winners stored.tables) (length bench) refl

        settled_delivered : Delivered Laid (Told entries others) (settled builders ran.config ran.scan.winners)
        settled_delivered = subst (Delivered Laid (Told entries others)) tables_are delivered

        pub ran_to_end : IfSome tree (λ files. Ran seen may_leave clock left_at room faults old new builders offers path bench bench' Laid Told files file)
        ran_to_end = each tree (λ files. IsProject offers path files ran.config ran.scan) (λ files. Ran seen may_leave clock left_at room faults old new builders offers path bench bench' Laid Told files file)
            ran.found.told (λ files on. record {
              config = ran.config;
              scan = ran.scan;
              on = on;
              stored = stored;
              lawful = is_stored;
              asked = ran.asked;
              runs = runs_on seen may_leave clock left_at room faults old mid stored opens stands new all_changes (length all_changes) telling ran.committed.commits;
              settles = record {
                read = reads_settled builders ran.config ran.scan.winners ran.found.quiet ran.free ran.typed stored stored_soundly seen may_leave clock left_at room faults db db' contents contents' mid new ran.committed;
                left = crash_leaves_settled builders ran.config ran.scan.winners ran.found.quiet ran.free ran.typed stored stored_soundly seen may_leave clock left_at room faults db db' contents contents' mid new ran.committed;
              };
              apart = settled_delivered.apart;
              distinct = settled_delivered.distinct;
              laid = settled_delivered.laid;
              told = subst (λ (o : OtherFiles). Told (need builders ran.config ran.scan.winners stored.tables) o (counts_of (settled builders ran.config ran.scan.winners))) ran.passed
                  (subst (λ (l : List Entry). Told l others (counts_of (settled builders ran.config ran.scan.winners))) entries_are settled_delivered.told);
            })

-- what is told of a run may be told otherwise
module _ {D : Type 0} (seen : D → Option (List ℕ)) (may_leave : D → List ℕ → Type 0) (clock : D → Option ℕ) (left_at : D → ℕ → List ℕ → Type 0) (room faults : D → ℕ) (old new : D × D)
    (builders : Meanings) (offers : List Offer) (path : List ℕ) (bench bench' : List Entry) (Laid : Files → Type 0) (Told Too : List Entry → OtherFiles → Counts → Type 0)
    (follows : (entries : List Entry) (others : OtherFiles) (counts : Counts) → Told entries others counts → Too entries others counts) where
  pub told_too : (files : Files) (file : List ℕ) → Ran seen may_leave clock left_at room faults old new builders offers path bench bench' Laid Told files file
      → Ran seen may_leave clock left_at room faults old new builders offers path bench bench' Laid Too files file
  told_too files file ran = record {
    config = ran.config;
    scan = ran.scan;
    on = ran.on;
    stored = ran.stored;
    lawful = ran.lawful;
    asked = ran.asked;
    runs = ran.runs;
    settles = ran.settles;
    apart = ran.apart;
    distinct = ran.distinct;
    laid = ran.laid;
    told = follows (need builders ran.config ran.scan.winners ran.stored.tables) (others_of ran.scan) (counts_of (settled builders ran.config ran.scan.winners)) ran.told;
  }
