-- What an answer of the engine says of a folder's run.
use Rattle.std.proofs.Common.{◌≡◌, ◌⊎◌, inl, inr, not, ℕ, List, [], ◌++◌, refl, ◌∙◌, ap, subst}
use Rattle.std.specs.Prelude.{Option, IfSome}
use Rattle.ap_config.specs.declared.config.Config.{Config}
use Rattle.ap_config.specs.declared.offer.Offer.{Offer}
use Rattle.ap_scan.specs.declared.results.Scan.{Scan}
use Rattle.ap_scan.specs.declared.results.Winner.{Winner}
use Rattle.ap_content.specs.Entries.{Entry as ContentEntry}
use Rattle.ap_builder.specs.declared.entry.Entry.{Entry}
use Rattle.ap_db.specs.declared.db.Db.{Db as TheDb}
use Rattle.ap_text.specs.declared.seen.Which.{Which}
use Rattle.ap_builder.specs.Meanings.{Meanings}
use Rattle.ap_journal.specs.Told.{one as each}
use Rattle.ap_content.proofs.Members.{Contains-filtered}
use Rattle.ap_create.specs.Creation.{all_jobs}
use Rattle.ap_db.specs.declared.fault.DbFault.TheVariants.{OutOfMemory, DiskFault, BadStore as BadDb, StoreFull, Spent}
use Rattle.ap_db.specs.Stored.{Stored}
use Rattle.ap_engine.specs.declared.fault.EngineFault.{EngineFault}
use Rattle.ap_engine.specs.declared.fault.EngineFault.TheVariants.{Db, Unbuilt as EngineUnbuilt}
use Rattle.ap_engine.specs.Changes.{front_changes, changes, with_creations}
use Rattle.ap_engine.specs.Ledgers.{HasCommitted, HasStopped}
use Rattle.ap_engine.specs.Need.{job_stands, need}
use Rattle.ap_engine.specs.Recorded.{IsUnfree, IsUnmade}
use Rattle.ap_engine.specs.Worlds.{AreFree, AreCreateInputs, IsTyped}
use Rattle.ap_cli.specs.declared.stop.Stop.{Stop}
use Rattle.ap_cli.specs.declared.stop.Stop.TheVariants.{Tree, Disk, Memory, Limit, Full, Unbuilt}
use Rattle.ap_cli.specs.Project.{IsProject, HasProject, others_of}
use Rattle.ap_cli.specs.Refusals.{of_engine}
use Rattle.ap_scan.specs.Winners.{Files}
use Rattle.ap_cli.specs.Unbuilt.{unfree, unmade, IsUnbuilt}
use Rattle.ap_cli.specs.Working.{IsFound, Settled, Halted, at_once, early, late}
use Rattle.ap_cli.proofs.Building.{refused_where_told}

-- ---- which answer it was

pub engine_unbuilt : (fault : EngineFault) (stop : Stop) → stop ≡ of_engine fault → stop ≡ Unbuilt → fault ≡ EngineUnbuilt
engine_unbuilt (Db OutOfMemory) stop is why = absurd (cc (is, why))
engine_unbuilt (Db DiskFault) stop is why = absurd (cc (is, why))
engine_unbuilt (Db (BadDb n o)) stop is why = absurd (cc (is, why))
engine_unbuilt (Db (StoreFull l w)) stop is why = absurd (cc (is, why))
engine_unbuilt (Db Spent) stop is why = absurd (cc (is, why))
engine_unbuilt EngineUnbuilt stop is why = refl

pub engine_only : (fault : EngineFault) (stop : Stop) → stop ≡ of_engine fault → (fault ≡ EngineUnbuilt) ⊎ (fault ≡ Db OutOfMemory) ⊎ (fault ≡ Db DiskFault) ⊎ ((l : ℕ) × (w : ℕ) × (fault ≡ Db (StoreFull l w)))
    → (stop ≡ Memory) ⊎ (stop ≡ Tree) ⊎ (stop ≡ Unbuilt) ⊎ (stop ≡ Disk) ⊎ ((l : ℕ) × (w : ℕ) × (stop ≡ Full l w)) ⊎ ((which : Which) × (count : ℕ) × (stop ≡ Limit which count))
engine_only fault stop is (inl unbuilt) = inr (inr (inl (is ∙ ap of_engine unbuilt)))
engine_only fault stop is (inr (inl memory)) = inl (is ∙ ap of_engine memory)
engine_only fault stop is (inr (inr (inl disk))) = inr (inr (inr (inl (is ∙ ap of_engine disk))))
engine_only fault stop is (inr (inr (inr (l, w, full)))) = inr (inr (inr (inr (inl (l, w, is ∙ ap of_engine full)))))

-- it isn't a tree's, and no limit
pub engine_apart : (fault : EngineFault) (stop : Stop) → stop ≡ of_engine fault → (stop ≡ Tree) ⊎ ((which : Which) × (count : ℕ) × (stop ≡ Limit which count)) → ⊥
engine_apart (Db OutOfMemory) stop is (inl why) = cc (is, why)
engine_apart (Db OutOfMemory) stop is (inr (which, count, why)) = cc (is, why)
engine_apart (Db DiskFault) stop is (inl why) = cc (is, why)
engine_apart (Db DiskFault) stop is (inr (which, count, why)) = cc (is, why)
engine_apart (Db (BadDb n o)) stop is (inl why) = cc (is, why)
engine_apart (Db (BadDb n o)) stop is (inr (which, count, why)) = cc (is, why)
engine_apart (Db (StoreFull l w)) stop is (inl why) = cc (is, why)
engine_apart (Db (StoreFull l w)) stop is (inr (which, count, why)) = cc (is, why)
engine_apart (Db Spent) stop is (inl why) = cc (is, why)
engine_apart (Db Spent) stop is (inr (which, count, why)) = cc (is, why)
engine_apart EngineUnbuilt stop is (inl why) = cc (is, why)
engine_apart EngineUnbuilt stop is (inr (which, count, why)) = cc (is, why)

-- ---- what it says

-- the project passes no limit
pub has_project : (builders : Meanings) (offers : List Offer) (path : List ℕ) (tree : Option Files) (config : Config) (scan : Scan) → IsFound builders offers path tree config scan → IfSome tree (HasProject offers path)
has_project builders offers path tree config scan found = each tree (λ files. IsProject offers path files config scan) (HasProject offers path) found.told (λ files on. (config, scan, on))

module _ (builders : Meanings) (offers : List Offer) (path : List ℕ) (tree : Option Files) (config : Config) (scan : Scan) (found : IsFound builders offers path tree config scan)
    (stored : Stored) where
  -- a run that stopped anywhere
  pub halted_by : {D : Type 0} (seen : D → Option (List ℕ)) (may_leave : D → List ℕ → Type 0) (clock : D → Option ℕ) (left_at : D → ℕ → List ℕ → Type 0) (room faults : D → ℕ) (old new : D × D)
      → HasStopped seen may_leave clock left_at room faults old new stored []
      ⊎ (AreCreateInputs builders config scan.winners × HasStopped seen may_leave clock left_at room faults old new stored (front_changes builders config scan.winners stored.tables))
      ⊎ (AreFree builders config scan.winners × IsTyped builders config scan.winners × HasStopped seen may_leave clock left_at room faults old new stored (changes builders config scan.winners stored.tables))
      → Halted builders offers path tree seen may_leave clock left_at room faults old new stored
  halted_by seen may_leave clock left_at room faults old new (inl stop) = at_once stop
  halted_by seen may_leave clock left_at room faults old new (inr (inl (inputs, stop))) = early config scan found inputs stop
  halted_by seen may_leave clock left_at room faults old new (inr (inr (free, typed, stop))) = late config scan found free typed stop

  -- one that was refused
  pub unbuilt_by : IsUnfree builders config scan.winners ⊎ IsUnmade builders config scan.winners (with_creations builders config scan.winners stored.tables) → IfSome tree (IsUnbuilt builders offers path)
  unbuilt_by (inl why) = refused_where_told builders offers path tree config scan found.told (unfree why)
  unbuilt_by (inr why) = refused_where_told builders offers path tree config scan found.told
      (unmade why.job (Contains-filtered (λ job. not (job_stands builders config scan.winners (with_creations builders config scan.winners stored.tables) job)) (all_jobs builders config scan.winners) why.job why.is).0 why.other)

  -- the same of the winners that the engine was given
  module _ (winners : List Winner) (are : winners ≡ scan.winners) where
    pub given_unbuilt : IsUnfree builders config winners ⊎ IsUnmade builders config winners (with_creations builders config winners stored.tables) → IfSome tree (IsUnbuilt builders offers path)
    given_unbuilt why = unbuilt_by (subst (λ (l : List Winner). IsUnfree builders config l ⊎ IsUnmade builders config l (with_creations builders config l stored.tables)) are why)

    module _ {D : Type 0} (seen : D → Option (List ℕ)) (may_leave : D → List ℕ → Type 0) (clock : D → Option ℕ) (left_at : D → ℕ → List ℕ → Type 0) (room faults : D → ℕ) (old new : D × D) where
      pub given_halted : HasStopped seen may_leave clock left_at room faults old new stored []
          ⊎ (AreCreateInputs builders config winners × HasStopped seen may_leave clock left_at room faults old new stored (front_changes builders config winners stored.tables))
          ⊎ (AreFree builders config winners × IsTyped builders config winners × HasStopped seen may_leave clock left_at room faults old new stored (changes builders config winners stored.tables))
          → Halted builders offers path tree seen may_leave clock left_at room faults old new stored
      given_halted stop = halted_by seen may_leave clock left_at room faults old new
          (subst (λ (l : List Winner). HasStopped seen may_leave clock left_at room faults old new stored []
          ⊎ (AreCreateInputs builders config l × HasStopped seen may_leave clock left_at room faults old new stored (front_changes builders config l stored.tables))
          ⊎ (AreFree builders config l × IsTyped builders config l × HasStopped seen may_leave clock left_at room faults old new stored (changes builders config l stored.tables))) are stop)

      pub given_settled : (db db' : TheDb) (contents contents' : List (Option ContentEntry)) (bench bench' : List Entry)
          → AreFree builders config winners × IsTyped builders config winners × HasCommitted seen may_leave clock left_at room faults db contents db' contents' old new stored (changes builders config winners stored.tables)
          → bench' ≡ bench ++ need builders config winners stored.tables
          → Settled builders offers path tree seen may_leave clock left_at room faults db db' contents contents' old new stored bench bench' (others_of scan)
      given_settled db db' contents contents' bench bench' done asked =
          let all = subst (λ (l : List Winner). AreFree builders config l × IsTyped builders config l × HasCommitted seen may_leave clock left_at room faults db contents db' contents' old new stored (changes builders config l stored.tables)) are done in
          record {
            config = config;
            scan = scan;
            found = found;
            free = all.0;
            typed = all.1;
            committed = all.2;
            asked = subst (λ (l : List Winner). bench' ≡ bench ++ need builders config l stored.tables) are asked;
            passed = refl;
          }
