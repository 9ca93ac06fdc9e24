-- Each image that a run of whole changes leaves of a sound store is sound.
use Rattle.std.proofs.Common.{◌≡◌, ℕ, ◌+◌, ◌≤◌, ◌<◌, ◌⊎◌, inl, inr, List, length, take, Option, Some, Ok, sym, ◌∙◌, subst, arith}
use Rattle.std.specs.Prelude.{IfSome}
use Rattle.std.proofs.lemmas.Bool.{cases_lt}
use Rattle.std.proofs.Math.Seq.{take-length}
use Rattle.ap_config.specs.declared.config.Config.{Config}
use Rattle.ap_scan.specs.declared.results.Winner.{Winner}
use Rattle.ap_builder.specs.Meanings.{Meanings}
use Rattle.ap_journal.specs.Commits.{count_before, Started}
use Rattle.ap_journal.specs.Moments.{BetweenClocks}
use Rattle.ap_db.specs.Changes.{Whole, after_all}
use Rattle.ap_db.specs.PayloadLaws.{file_is_well_stored}
use Rattle.ap_db.specs.Stored.{Stored, stored_in}
use Rattle.ap_db.specs.WholeItems.{all_committed}
use Rattle.ap_engine.specs.Changes.{front_changes, changes}
use Rattle.ap_engine.specs.Ledgers.{AreLawful, IsAfter, IsAbout, Commits, RunsOn, LeavesOnly}
use Rattle.ap_engine.specs.Sound.{AreSoundTables, IsSoundStored, IsSound, IsLeft}
use Rattle.ap_engine.specs.Stops.{IsFrontOf}
use Rattle.ap_engine.specs.Worlds.{AreQuiet, AreFree, AreCreateInputs, IsTyped}
use Rattle.ap_engine.proofs.Following.{clock as at_clocks}
use Rattle.ap_engine.proofs.StaysSound.{given_front_stays_sound, given_stays_sound}
use Rattle.ap_engine.proofs.WholeTables.{tables_after_front, well_after_front, reached_after_front}

-- ---- files and what is stored

-- what a sound file stands for is soundly stored
pub stored_soundly : (builders : Meanings) (file : List ℕ) (stored : Stored) → IsSound builders file → stored_in file ≡ Ok stored → IsSoundStored builders stored
stored_soundly builders file stored is lawful =
    let same : is.stored ≡ stored = cc (sym is.lawful ∙ lawful) in
    subst (IsSoundStored builders) same (record { rows = is.rows; reached = is.reached; well = file_is_well_stored file is.stored is.lawful })

pub file_is_sound : (builders : Meanings) (file : List ℕ) (stored : Stored) → IsSoundStored builders stored → stored_in file ≡ Ok stored → IsSound builders file
file_is_sound builders file stored is lawful = record { stored = stored; lawful = lawful; rows = is.rows; reached = is.reached }

-- ---- what is stored after each front of changes

-- each front of these changes leaves sound tables
abbrev pub EachFrontIsSound : Meanings → Stored → List Whole → Type 0
EachFrontIsSound builders stored given = (k : ℕ) → AreSoundTables builders (after_all stored.tables (take k given))

module _ (builders : Meanings) (stored : Stored) (sound : IsSoundStored builders stored) (given : List Whole) (lawful : AreLawful stored given) (fronts : EachFrontIsSound builders stored given) where
  pub front_stored_soundly : (k : ℕ) → IsSoundStored builders (all_committed stored (take k given))
  front_stored_soundly k = record {
    rows = subst (AreSoundTables builders) (sym (tables_after_front given stored sound.well lawful k)) (fronts k);
    reached = reached_after_front given stored sound.well lawful k sound.reached;
    well = well_after_front given stored sound.well lawful k;
  }

  pub all_stored_soundly : IsSoundStored builders (all_committed stored given)
  all_stored_soundly = subst (λ (l : List Whole). IsSoundStored builders (all_committed stored l)) (take-length given) (front_stored_soundly (length given))

  after_is_sound : (count : ℕ) (c : List ℕ) → IsAfter stored given count c → IsSound builders c
  after_is_sound count c is = file_is_sound builders c (all_committed stored (take count given)) (front_stored_soundly count) is

  pub about_is_sound : (count : ℕ) (c : List ℕ) → IsAbout stored given count c → IsSound builders c
  about_is_sound count c (inl is) = after_is_sound count c is
  about_is_sound count c (inr is) = after_is_sound (count + 1) c is

  -- ---- images

  module _ {D : Type 0} (seen : D → Option (List ℕ)) (may_leave : D → List ℕ → Type 0) (clock : D → Option ℕ) (left_at : D → ℕ → List ℕ → Type 0) (room faults : D → ℕ)
      (old new : D × D) (answered : ℕ) (file : List ℕ) (tells : seen old.0 ≡ Some file) where
    -- where the disk tells its file
    sound_if_about : (count : ℕ) (c : List ℕ) → IfSome (seen old.0) (λ _. IsAbout stored given count c) → IsSound builders c
    sound_if_about count c is = about_is_sound count c (subst (λ (o : Option (List ℕ)). IfSome o (λ _. IsAbout stored given count c)) tells is)

    -- a crash at the end leaves a sound file, and so does each moment since
    pub commits_left_sound : Commits seen may_leave clock left_at room faults old new stored given answered → IsLeft builders (may_leave new.0)
    commits_left_sound run c left = sound_if_about answered c (run.crash c left)

    pub moments_sound : Commits seen may_leave clock left_at room faults old new stored given answered
        → BetweenClocks (clock old.0) (clock new.0) (λ was now. (t : ℕ) (c : List ℕ) → was < t → t ≤ now → left_at new.0 t c → IsSound builders c)
    moments_sound run = at_clocks (clock old.0) (clock new.0) _ (λ was now. (t : ℕ) (c : List ℕ) → was < t → t ≤ now → left_at new.0 t c → IsSound builders c) run.moments
        (λ was now here t c lt le left. sound_if_about (count_before t here.exits) c (here.since t c lt le left))

    pub commits_leave_sound : Commits seen may_leave clock left_at room faults old new stored given answered → LeavesOnly seen may_leave clock left_at room faults old new (IsSound builders)
    commits_leave_sound run = record {
      crash = λ c left. inr (commits_left_sound run c left);
      moments = at_clocks (clock old.0) (clock new.0) _ (λ was now. (t : ℕ) (c : List ℕ) → was < t → t ≤ now → left_at new.0 t c → may_leave old.0 c ⊎ IsSound builders c) (moments_sound run)
          (λ was now each t c lt le left. inr (each t c lt le left));
    }

    pub runs_leave_sound : RunsOn seen may_leave clock left_at room faults old new stored given answered → LeavesOnly seen may_leave clock left_at room faults old new (IsSound builders)
    runs_leave_sound run = record {
      crash = λ c left. at_end c (run.crash c left);
      moments = at_clocks (clock old.0) (clock new.0) _ (λ was now. (t : ℕ) (c : List ℕ) → was < t → t ≤ now → left_at new.0 t c → may_leave old.0 c ⊎ IsSound builders c) run.moments
          (λ was now here t c lt le left. at_moment was now t c here lt le left (cases_lt (was + 1) t));
    }
      where
        at_end : (c : List ℕ) → may_leave old.0 c ⊎ IfSome (seen old.0) (λ _. IsAbout stored given answered c) → may_leave old.0 c ⊎ IsSound builders c
        at_end c (inl before) = inl before
        at_end c (inr is) = inr (sound_if_about answered c is)

        at_moment : (was now t : ℕ) (c : List ℕ) → (here : Started (left_at old.0) (left_at new.0) (may_leave old.0) (λ count c. IfSome (seen old.0) (λ _. IsAbout stored given count c)) answered was now)
            → was < t → t ≤ now → left_at new.0 t c → (was + 1 < t) ⊎ (t ≤ was + 1) → may_leave old.0 c ⊎ IsSound builders c
        at_moment was now t c here lt le left (inl later) = inr (sound_if_about (count_before t here.exits) c (here.since t c later le left))
        at_moment was now t c here lt le left (inr first) =
            let same : t ≡ was + 1 = omega (arith, lt, first) in
            inl (here.first c (subst (λ (m : ℕ). left_at new.0 m c) same left))

-- ---- the changes of a run

module _ (builders : Meanings) (config : Config) (winners : List Winner) (stored : Stored) (sound : IsSoundStored builders stored) (given : List Whole) where
  -- up to the creations: it isn't asked what jobs are made from
  module _ (quiet : AreQuiet builders config winners) (inputs : AreCreateInputs builders config winners) (front : IsFrontOf given (front_changes builders config winners stored.tables)) where
    pub fronts_before_jobs : EachFrontIsSound builders stored given
    fronts_before_jobs = given_front_stays_sound builders config winners quiet inputs stored.tables sound.rows given front

    pub about_before_jobs_is_sound : AreLawful stored given → (count : ℕ) (c : List ℕ) → IsAbout stored given count c → IsSound builders c
    about_before_jobs_is_sound lawful = about_is_sound builders stored sound given lawful fronts_before_jobs

    module _ {D : Type 0} (seen : D → Option (List ℕ)) (may_leave : D → List ℕ → Type 0) (clock : D → Option ℕ) (left_at : D → ℕ → List ℕ → Type 0) (room faults : D → ℕ)
        (old new : D × D) (answered : ℕ) (file : List ℕ) (tells : seen old.0 ≡ Some file) where
      pub before_jobs_leaves_sound : Commits seen may_leave clock left_at room faults old new stored given answered → LeavesOnly seen may_leave clock left_at room faults old new (IsSound builders)
      before_jobs_leaves_sound run = commits_leave_sound builders stored sound given run.lawful fronts_before_jobs seen may_leave clock left_at room faults old new answered file tells run

      pub crash_before_jobs_is_sound : Commits seen may_leave clock left_at room faults old new stored given answered → IsLeft builders (may_leave new.0)
      crash_before_jobs_is_sound run = commits_left_sound builders stored sound given run.lawful fronts_before_jobs seen may_leave clock left_at room faults old new answered file tells run

      pub run_before_jobs_leaves_sound : RunsOn seen may_leave clock left_at room faults old new stored given answered → LeavesOnly seen may_leave clock left_at room faults old new (IsSound builders)
      run_before_jobs_leaves_sound run = runs_leave_sound builders stored sound given run.lawful fronts_before_jobs seen may_leave clock left_at room faults old new answered file tells run

  -- of all of them
  module _ (quiet : AreQuiet builders config winners) (are_free : AreFree builders config winners) (typed : IsTyped builders config winners) (front : IsFrontOf given (changes builders config winners stored.tables)) where
    pub fronts_of_all : EachFrontIsSound builders stored given
    fronts_of_all = given_stays_sound builders config winners quiet typed.creations stored.tables sound.rows are_free typed.jobs given front

    pub about_all_is_sound : AreLawful stored given → (count : ℕ) (c : List ℕ) → IsAbout stored given count c → IsSound builders c
    about_all_is_sound lawful = about_is_sound builders stored sound given lawful fronts_of_all

    module _ {D : Type 0} (seen : D → Option (List ℕ)) (may_leave : D → List ℕ → Type 0) (clock : D → Option ℕ) (left_at : D → ℕ → List ℕ → Type 0) (room faults : D → ℕ)
        (old new : D × D) (answered : ℕ) (file : List ℕ) (tells : seen old.0 ≡ Some file) where
      pub all_leaves_sound : Commits seen may_leave clock left_at room faults old new stored given answered → LeavesOnly seen may_leave clock left_at room faults old new (IsSound builders)
      all_leaves_sound run = commits_leave_sound builders stored sound given run.lawful fronts_of_all seen may_leave clock left_at room faults old new answered file tells run

      pub crash_of_all_is_sound : Commits seen may_leave clock left_at room faults old new stored given answered → IsLeft builders (may_leave new.0)
      crash_of_all_is_sound run = commits_left_sound builders stored sound given run.lawful fronts_of_all seen may_leave clock left_at room faults old new answered file tells run

      pub run_of_all_leaves_sound : RunsOn seen may_leave clock left_at room faults old new stored given answered → LeavesOnly seen may_leave clock left_at room faults old new (IsSound builders)
      run_of_all_leaves_sound run = runs_leave_sound builders stored sound given run.lawful fronts_of_all seen may_leave clock left_at room faults old new answered file tells run
