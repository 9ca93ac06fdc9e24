-- A run as a whole: its tables are the settled ones at its end, and each image of each moment is of before or sound.
use Rattle.std.proofs.Common.{◌≡◌, ◌<◌, ◌≤◌, ℕ, zero, suc, List, [], length, Option, Some, Ok, ◌∙◌, subst, sym}
use Rattle.std.specs.Prelude.{IfSome}
use Rattle.std.proofs.lemmas.List.{append-nil}
use Rattle.ap_config.specs.declared.config.Config.{Config}
use Rattle.ap_scan.specs.declared.results.Winner.{Winner}
use Rattle.ap_builder.specs.Meanings.{Meanings}
use Rattle.ap_content.specs.Entries.{Entry}
use Rattle.ap_disk.specs.Calls.{TellsAs}
use Rattle.ap_journal.specs.Moments.{BetweenClocks, Opens}
use Rattle.ap_journal.specs.Records.{IsSameStore}
use Rattle.ap_journal.specs.Told.{one}
use Rattle.ap_db.specs.declared.db.Db.{Db}
use Rattle.ap_db.specs.Changes.{Whole}
use Rattle.ap_db.specs.Stored.{Stored, stored_in}
use Rattle.ap_db.specs.WholeItems.{all_committed}
use Rattle.ap_engine.specs.Changes.{front_changes, changes}
use Rattle.ap_engine.specs.Ledgers.{AreLawful, HasCommitted, HasStopped, LeavesOnly}
use Rattle.ap_engine.specs.Settled.{settled}
use Rattle.ap_engine.specs.Sound.{IsSoundStored, IsSound, HasTables, IsLeft}
use Rattle.ap_engine.specs.Stops.{IsFrontOf}
use Rattle.ap_engine.specs.Worlds.{AreQuiet, AreFree, AreCreateInputs, IsTyped}
use Rattle.ap_engine.proofs.Following.{image_now}
use Rattle.ap_engine.proofs.ImagesSound.{EachFrontIsSound, stored_soundly, file_is_sound, all_stored_soundly, moments_sound, runs_leave_sound, fronts_of_all, all_leaves_sound, crash_of_all_is_sound, run_of_all_leaves_sound, before_jobs_leaves_sound, run_before_jobs_leaves_sound}
use Rattle.ap_engine.proofs.Openings.{runs_on, opens_alone}
use Rattle.ap_engine.proofs.Settles.{tables_settle}
use Rattle.ap_engine.proofs.WholeTables.{tables_after_all}

-- all changes are a front of themselves
pub all_are_front : (given : List Whole) → IsFrontOf given given
all_are_front given = record { rest = []; joined = append-nil given }

-- what was stored in a sound file that the disk told
pub told_soundly : (builders : Meanings) (stored : Stored) (told : Option (List ℕ)) (file : List ℕ) → told ≡ Some file → IsSound builders file → IfSome told (λ f. stored_in f ≡ Ok stored) → IsSoundStored builders stored
told_soundly builders stored told file tells sound stands =
    stored_soundly builders file stored sound (subst (λ (o : Option (List ℕ)). IfSome o (λ f. stored_in f ≡ Ok stored)) tells stands)

-- ---- what is stored at the end

module _ (builders : Meanings) (config : Config) (winners : List Winner) (quiet : AreQuiet builders config winners) (are_free : AreFree builders config winners) (typed : IsTyped builders config winners)
    (stored : Stored) (sound : IsSoundStored builders stored) where
  -- the tables are the settled ones
  pub stored_settles : AreLawful stored (changes builders config winners stored.tables) → (all_committed stored (changes builders config winners stored.tables)).tables ≡ settled builders config winners
  stored_settles lawful = tables_after_all (changes builders config winners stored.tables) stored sound.well lawful
      ∙ tables_settle builders config winners quiet are_free typed stored.tables sound.rows sound.well.rise

  -- and they are sound
  pub stored_stays_sound : AreLawful stored (changes builders config winners stored.tables) → IsSoundStored builders (all_committed stored (changes builders config winners stored.tables))
  stored_stays_sound lawful = all_stored_soundly builders stored sound (changes builders config winners stored.tables) lawful
      (fronts_of_all builders config winners stored sound (changes builders config winners stored.tables) quiet are_free typed (all_are_front (changes builders config winners stored.tables)))

  module _ {D : Type 0} (seen : D → Option (List ℕ)) (may_leave : D → List ℕ → Type 0) (clock : D → Option ℕ) (left_at : D → ℕ → List ℕ → Type 0) (room faults : D → ℕ)
      (db db' : Db) (contents contents' : List (Option Entry)) (old new : D × D)
      (ran : HasCommitted seen may_leave clock left_at room faults db contents db' contents' old new stored (changes builders config winners stored.tables)) where
    pub run_settles : (all_committed stored (changes builders config winners stored.tables)).tables ≡ settled builders config winners
    run_settles = stored_settles ran.commits.lawful

    of_file : (file : List ℕ) → stored_in file ≡ Ok (all_committed stored (changes builders config winners stored.tables)) → HasTables (settled builders config winners) file
    of_file file is = record { stored = all_committed stored (changes builders config winners stored.tables); lawful = is; tables = run_settles }

    -- so has the file that the store reads
    pub reads_settled : IfSome (seen new.0) (HasTables (settled builders config winners))
    reads_settled = one (seen new.0) (λ file. stored_in file ≡ Ok (all_committed stored (changes builders config winners stored.tables))) (HasTables (settled builders config winners)) ran.ready.file of_file

    -- and each that a crash may leave
    pub crash_leaves_settled : (c : List ℕ) → may_leave new.0 c → IfSome (seen new.0) (λ _. HasTables (settled builders config winners) c)
    crash_leaves_settled c left = one (seen new.0) (λ _. stored_in c ≡ Ok (all_committed stored (changes builders config winners stored.tables))) (λ _. HasTables (settled builders config winners) c)
        (image_now seen may_leave clock left_at room faults db' contents' new (all_committed stored (changes builders config winners stored.tables)) ran.ready c left) (λ file is. of_file c is)

    -- the file is sound for the next run
    pub reads_sound : IfSome (seen new.0) (IsSound builders)
    reads_sound = one (seen new.0) (λ file. stored_in file ≡ Ok (all_committed stored (changes builders config winners stored.tables))) (IsSound builders) ran.ready.file
        (λ file is. file_is_sound builders file (all_committed stored (changes builders config winners stored.tables)) (stored_stays_sound ran.commits.lawful) is)

-- ---- images

module _ {D : Type 0} (seen : D → Option (List ℕ)) (may_leave : D → List ℕ → Type 0) (clock : D → Option ℕ) (left_at : D → ℕ → List ℕ → Type 0) (room faults : D → ℕ)
    (builders : Meanings) (old : D × D) (file : List ℕ) (tells : seen old.0 ≡ Some file) where
  -- an opening alone, be it refused or not, leaves sound stores
  pub opening_leaves_sound : (mid : D × D) → IsSound builders file → Opens seen may_leave clock left_at room faults old mid (may_leave old.0) (λ c. IfSome (seen old.0) (λ f. IsSameStore f c))
      → LeavesOnly seen may_leave clock left_at room faults old mid (IsSound builders)
  opening_leaves_sound mid sound opens =
      let here : IsSoundStored builders sound.stored = stored_soundly builders file sound.stored sound sound.lawful in
      runs_leave_sound builders sound.stored here [] tt none_of seen may_leave clock left_at room faults old mid 0 file tells
      (opens_alone seen may_leave clock left_at room faults old mid sound.stored opens (subst (λ (o : Option (List ℕ)). IfSome o (λ f. stored_in f ≡ Ok sound.stored)) (sym tells) sound.lawful))
    where
      none_of : EachFrontIsSound builders sound.stored []
      none_of zero = sound.rows
      none_of (suc k) = sound.rows

  module _ (config : Config) (winners : List Winner) (quiet : AreQuiet builders config winners) (new : D × D) (stored : Stored) where
    -- a run from its first commit on, that committed all or stopped anywhere
    module _ (sound : IsSoundStored builders stored) where
      pub run_stays_sound : (are_free : AreFree builders config winners) (typed : IsTyped builders config winners) (db db' : Db) (contents contents' : List (Option Entry))
          → HasCommitted seen may_leave clock left_at room faults db contents db' contents' old new stored (changes builders config winners stored.tables) → LeavesOnly seen may_leave clock left_at room faults old new (IsSound builders)
      run_stays_sound are_free typed db db' contents contents' ran = all_leaves_sound builders config winners stored sound (changes builders config winners stored.tables) quiet are_free typed (all_are_front (changes builders config winners stored.tables))
          seen may_leave clock left_at room faults old new (length (changes builders config winners stored.tables)) file tells ran.commits

      -- none of its images needs to be one of before
      pub run_crash_is_sound : (are_free : AreFree builders config winners) (typed : IsTyped builders config winners) (db db' : Db) (contents contents' : List (Option Entry))
          → HasCommitted seen may_leave clock left_at room faults db contents db' contents' old new stored (changes builders config winners stored.tables) → IsLeft builders (may_leave new.0)
      run_crash_is_sound are_free typed db db' contents contents' ran = crash_of_all_is_sound builders config winners stored sound (changes builders config winners stored.tables) quiet are_free typed (all_are_front (changes builders config winners stored.tables))
          seen may_leave clock left_at room faults old new (length (changes builders config winners stored.tables)) file tells ran.commits

      pub run_moments_are_sound : (are_free : AreFree builders config winners) (typed : IsTyped builders config winners) (db db' : Db) (contents contents' : List (Option Entry))
          → HasCommitted seen may_leave clock left_at room faults db contents db' contents' old new stored (changes builders config winners stored.tables)
          → BetweenClocks (clock old.0) (clock new.0) (λ was now. (t : ℕ) (c : List ℕ) → was < t → t ≤ now → left_at new.0 t c → IsSound builders c)
      run_moments_are_sound are_free typed db db' contents contents' ran = moments_sound builders stored sound (changes builders config winners stored.tables) ran.commits.lawful
          (fronts_of_all builders config winners stored sound (changes builders config winners stored.tables) quiet are_free typed (all_are_front (changes builders config winners stored.tables)))
          seen may_leave clock left_at room faults old new (length (changes builders config winners stored.tables)) file tells ran.commits

      pub stop_stays_sound : (are_free : AreFree builders config winners) (typed : IsTyped builders config winners)
          → HasStopped seen may_leave clock left_at room faults old new stored (changes builders config winners stored.tables) → LeavesOnly seen may_leave clock left_at room faults old new (IsSound builders)
      stop_stays_sound are_free typed stop = all_leaves_sound builders config winners stored sound stop.given quiet are_free typed stop.front seen may_leave clock left_at room faults old new stop.answered file tells stop.commits

      -- one that stopped before its jobs
      pub early_stop_stays_sound : (inputs : AreCreateInputs builders config winners)
          → HasStopped seen may_leave clock left_at room faults old new stored (front_changes builders config winners stored.tables) → LeavesOnly seen may_leave clock left_at room faults old new (IsSound builders)
      early_stop_stays_sound inputs stop = before_jobs_leaves_sound builders config winners stored sound stop.given quiet inputs stop.front seen may_leave clock left_at room faults old new stop.answered file tells stop.commits

    -- a run from its opening on
    module _ (sound : IsSound builders file) (mid : D × D) (opens : Opens seen may_leave clock left_at room faults old mid (may_leave old.0) (λ c. IfSome (seen old.0) (λ f. IsSameStore f c)))
        (stands : IfSome (seen old.0) (λ f. stored_in f ≡ Ok stored)) (telling : TellsAs (seen old.0) (seen mid.0) (λ _ _. Unit {0})) where
      soundly : IsSoundStored builders stored
      soundly = told_soundly builders stored (seen old.0) file tells sound stands

      pub opened_run_stays_sound : (are_free : AreFree builders config winners) (typed : IsTyped builders config winners) (db db' : Db) (contents contents' : List (Option Entry))
          → HasCommitted seen may_leave clock left_at room faults db contents db' contents' mid new stored (changes builders config winners stored.tables) → LeavesOnly seen may_leave clock left_at room faults old new (IsSound builders)
      opened_run_stays_sound are_free typed db db' contents contents' ran = run_of_all_leaves_sound builders config winners stored soundly (changes builders config winners stored.tables) quiet are_free typed (all_are_front (changes builders config winners stored.tables))
          seen may_leave clock left_at room faults old new (length (changes builders config winners stored.tables)) file tells
          (runs_on seen may_leave clock left_at room faults old mid stored opens stands new (changes builders config winners stored.tables) (length (changes builders config winners stored.tables)) telling ran.commits)

      pub opened_stop_stays_sound : (are_free : AreFree builders config winners) (typed : IsTyped builders config winners)
          → HasStopped seen may_leave clock left_at room faults mid new stored (changes builders config winners stored.tables) → LeavesOnly seen may_leave clock left_at room faults old new (IsSound builders)
      opened_stop_stays_sound are_free typed stop = run_of_all_leaves_sound builders config winners stored soundly stop.given quiet are_free typed stop.front seen may_leave clock left_at room faults old new stop.answered file tells
          (runs_on seen may_leave clock left_at room faults old mid stored opens stands new stop.given stop.answered telling stop.commits)

      pub opened_early_stop_stays_sound : (inputs : AreCreateInputs builders config winners)
          → HasStopped seen may_leave clock left_at room faults mid new stored (front_changes builders config winners stored.tables) → LeavesOnly seen may_leave clock left_at room faults old new (IsSound builders)
      opened_early_stop_stays_sound inputs stop = run_before_jobs_leaves_sound builders config winners stored soundly stop.given quiet inputs stop.front seen may_leave clock left_at room faults old new stop.answered file tells
          (runs_on seen may_leave clock left_at room faults old mid stored opens stands new stop.given stop.answered telling stop.commits)
