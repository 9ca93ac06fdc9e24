use Rattle.std.proofs.Common.{◌≡◌, ◌+◌, ◌++◌, ◌<◌, ◌⊎◌, inl, inr, ⊎_elim, ℕ, List, [], map, subst, sym, ap, ◌∙◌, append_assoc}
use Rattle.ap_text.specs.Causes.{Rose}
use Rattle.ap_rows.specs.Jobs.{id_of}
use Rattle.ap_scan.specs.declared.results.Winner.{Winner}
use Rattle.ap_builder.specs.declared.entry.Entry.{Entry}
use Rattle.ap_builder.specs.declared.entry.Entry.TheVariants.{Process}
use Rattle.ap_db.specs.declared.fault.DbFault.TheVariants.{DiskFault, StoreFull}
use Rattle.ap_db.specs.Stored.{Stored}
use Rattle.ap_db.specs.Tables.{PlainTables}
use Rattle.ap_db.specs.WholeItems.{all_committed}
use Rattle.ap_sources.specs.Sources.{sources}
use Rattle.ap_engine.specs.declared.fault.EngineFault.TheVariants.{Db, Unbuilt}
use Rattle.ap_engine.specs.declared.source.Source.{Source}
use Rattle.ap_engine.specs.Asked.{meanings_of, needed_sources, asked_of}
use Rattle.ap_engine.specs.Changes.{front_changes, job_changes, changes, with_source_rows, with_creations}
use Rattle.ap_engine.specs.Interned.{AreSourcesOf}
use Rattle.ap_engine.specs.Ledgers.{IsReady, HasCommitted, HasStopped}
use Rattle.ap_engine.specs.Need.{need}
use Rattle.ap_engine.specs.Recorded.{AreThere, AreRecorded, IsUnfree, IsUnmade, open_jobs}
use Rattle.ap_engine.specs.Sound.{IsSoundStored}
use Rattle.ap_engine.specs.Worlds.{AreFree, AreCreateInputs, AreJobInputs, IsTyped}
use Rattle.ap_engine.proofs.CreationsPut.{on_err_to, if_err_to, rose_on, ready_on, committed_from}
use Rattle.ap_engine.proofs.Following.{nothing_given}
use Rattle.ap_engine.proofs.NeededSources.{stay_sources}
use Rattle.ap_engine.proofs.Outcomes.{on_three}
use Rattle.ap_engine.proofs.PutCreations.{inputs_are}
use Rattle.ap_engine.proofs.RunPhases.{jobs_follow, jobs_stop, tables_behind_creations}
use Rattle.ap_engine.proofs.Settles.{need_by_phases}
use Rattle.ap_engine.proofs.SettlePhases.{creations_recorded, stopped_between}
use Rattle.ap_engine.proofs.engine.Engine.settle.Goals as goal

pub returns-in-Err-clause-stopped : goal.returns-in-Err-clause-stopped
returns-in-Err-clause-stopped g c =
    let d = g.D.Disk in
    let m = meanings_of g.B.Builders.declares g.B.Builders.creates g.B.Builders.makes in
    let config = c.args.config.now in
    let winners = c.args.winners.items in
    let start = c.args.self.now.ledger in
    let first = c.args.store.now in
    let quiet = c.requires.world.2 in
    λ stored ready sound. inl (nothing_given d.seen d.may_leave d.clock d.left_at d.room d.faults start.db start.contents first stored ready [])

pub returns-in-Err-put_front-clause-stopped : goal.returns-in-Err-put_front-clause-stopped
returns-in-Err-put_front-clause-stopped g c =
    let d = g.D.Disk in
    let m = meanings_of g.B.Builders.declares g.B.Builders.creates g.B.Builders.makes in
    let config = c.args.config.now in
    let winners = c.args.winners.items in
    let start = c.args.self.now.ledger in
    let first = c.args.store.now in
    let quiet = c.requires.world.2 in
    let held = c.intern_sources.new.ledger in
    let all = c.as_slice-all.result.now in
    let e = c.in-Ok.ensures in
    let front = c.put_front.new in
    λ stored ready sound.
    let are = subst (λ (l : List Source). AreSourcesOf held.db held.contents l (sources config winners)) (sym c.as_slice-all.ensures.value) (e.interned stored ready.beside quiet.read) in
    let inputs = inputs_are m config winners quiet held.db held.contents all are c.read_ranges.ensures in
    let ready_held = ready_on m config winners d.seen d.may_leave d.clock d.left_at d.room d.faults start.db start.contents held.db held.contents e.db first stored ready (e.beside stored ready.beside) in
    inr (inl (inputs, c.in-Err-put_front.ensures.stopped winners stored ready_held quiet are))

pub returns-in-Err-put_front-clause-unbuilt : goal.returns-in-Err-put_front-clause-unbuilt
returns-in-Err-put_front-clause-unbuilt g c =
    let d = g.D.Disk in
    let m = meanings_of g.B.Builders.declares g.B.Builders.creates g.B.Builders.makes in
    let config = c.args.config.now in
    let winners = c.args.winners.items in
    let start = c.args.self.now.ledger in
    let first = c.args.store.now in
    let quiet = c.requires.world.2 in
    let held = c.intern_sources.new.ledger in
    let e = c.in-Ok.ensures in
    λ is stored ready sound.
    let are = subst (λ (l : List Source). AreSourcesOf held.db held.contents l (sources config winners)) (sym c.as_slice-all.ensures.value) (e.interned stored ready.beside quiet.read) in
    let ready_held = ready_on m config winners d.seen d.may_leave d.clock d.left_at d.room d.faults start.db start.contents held.db held.contents e.db first stored ready (e.beside stored ready.beside) in
    let bad = c.in-Err-put_front.ensures.unbuilt is winners stored ready_held quiet are in
    inl (record { winner = bad.0; is = bad.1; other = bad.2 })

pub put_jobs-requires-clause-there : goal.put_jobs-requires-clause-there
put_jobs-requires-clause-there g c =
    let d = g.D.Disk in
    let m = meanings_of g.B.Builders.declares g.B.Builders.creates g.B.Builders.makes in
    let config = c.args.config.now in
    let winners = c.args.winners.items in
    let start = c.args.self.now.ledger in
    let first = c.args.store.now in
    let quiet = c.requires.world.2 in
    let held = c.intern_sources.new.ledger in
    let all = c.as_slice-all.result.now in
    let e = c.in-Ok.ensures in
    let front = c.put_front.new in
    let stored = c.requires.world.0 in
    let ready = c.requires.world.1 in
    let are = subst (λ (l : List Source). AreSourcesOf held.db held.contents l (sources config winners)) (sym c.as_slice-all.ensures.value) (e.interned stored ready.beside quiet.read) in
    let inputs = inputs_are m config winners quiet held.db held.contents all are c.read_ranges.ensures in
    let ready_held = ready_on m config winners d.seen d.may_leave d.clock d.left_at d.room d.faults start.db start.contents held.db held.contents e.db first stored ready (e.beside stored ready.beside) in
    let one = c.in-Ok-put_front.ensures.committed winners stored ready_held quiet are in
    let whole = committed_from m config winners d.seen d.may_leave d.clock d.left_at d.room d.faults start.db start.contents held.db held.contents e.db front.ledger.db front.ledger.contents first front.store stored (front_changes m config winners stored.tables) (e.stay stored ready.beside) one in
    let there : AreThere m config winners front.ledger.db front.ledger.contents all = record {
      quiet = quiet;
      short = c.requires.world.3;
      sources = stay_sources m config winners held.db held.contents front.ledger.db front.ledger.contents one.stay all (sources config winners) are;
    } in
    (all_committed stored (front_changes m config winners stored.tables), one.ready, winners, there)

pub returns-clause-settled : goal.returns-clause-settled
returns-clause-settled g c =
    let d = g.D.Disk in
    let m = meanings_of g.B.Builders.declares g.B.Builders.creates g.B.Builders.makes in
    let config = c.args.config.now in
    let winners = c.args.winners.items in
    let start = c.args.self.now.ledger in
    let first = c.args.store.now in
    let quiet = c.requires.world.2 in
    let held = c.intern_sources.new.ledger in
    let all = c.as_slice-all.result.now in
    let e = c.in-Ok.ensures in
    let front = c.put_front.new in
    let last = c.put_jobs.new in
    on_three c.put_jobs.result
    ((stored : Stored) → IsReady d.seen d.may_leave d.room front.ledger.db front.ledger.contents front.store stored → (winners : List Winner) → AreThere m config winners front.ledger.db front.ledger.contents all → AreRecorded m config winners stored.tables → AreFree m config winners)
    ((stored : Stored) → IsReady d.seen d.may_leave d.room front.ledger.db front.ledger.contents front.store stored → (winners : List Winner) → AreThere m config winners front.ledger.db front.ledger.contents all → AreRecorded m config winners stored.tables → AreJobInputs m config winners)
    ((stored : Stored) → IsReady d.seen d.may_leave d.room front.ledger.db front.ledger.contents front.store stored → (winners : List Winner) → AreThere m config winners front.ledger.db front.ledger.contents all → AreRecorded m config winners stored.tables → HasCommitted d.seen d.may_leave d.clock d.left_at d.room d.faults front.ledger.db front.ledger.contents last.ledger.db last.ledger.contents front.store last.store stored (job_changes m config winners stored.tables))
    ((stored : Stored) → IsReady d.seen d.may_leave d.room start.db start.contents first stored → IsSoundStored m stored → AreFree m config winners × IsTyped m config winners × HasCommitted d.seen d.may_leave d.clock d.left_at d.room d.faults start.db start.contents last.ledger.db last.ledger.contents first last.store stored (changes m config winners stored.tables))
    c.put_jobs.ensures.free c.put_jobs.ensures.inputs c.put_jobs.ensures.committed
    (λ free typed committed stored ready sound.
    let are = subst (λ (l : List Source). AreSourcesOf held.db held.contents l (sources config winners)) (sym c.as_slice-all.ensures.value) (e.interned stored ready.beside quiet.read) in
    let inputs = inputs_are m config winners quiet held.db held.contents all are c.read_ranges.ensures in
    let ready_held = ready_on m config winners d.seen d.may_leave d.clock d.left_at d.room d.faults start.db start.contents held.db held.contents e.db first stored ready (e.beside stored ready.beside) in
    let one = c.in-Ok-put_front.ensures.committed winners stored ready_held quiet are in
    let whole = committed_from m config winners d.seen d.may_leave d.clock d.left_at d.room d.faults start.db start.contents held.db held.contents e.db front.ledger.db front.ledger.contents first front.store stored (front_changes m config winners stored.tables) (e.stay stored ready.beside) one in
    let there : AreThere m config winners front.ledger.db front.ledger.contents all = record {
      quiet = quiet;
      short = c.requires.world.3;
      sources = stay_sources m config winners held.db held.contents front.ledger.db front.ledger.contents one.stay all (sources config winners) are;
    } in
    let then = all_committed stored (front_changes m config winners stored.tables) in
    let tables = tables_behind_creations d.seen d.may_leave d.clock d.left_at d.room d.faults start.db front.ledger.db start.contents front.ledger.contents first front.store front.store stored ready.beside.well m config winners whole in
    let recorded = subst (λ (t : PlainTables). AreRecorded m config winners t) (sym tables) (creations_recorded m config winners quiet inputs stored.tables sound.rows) in (
      free then one.ready winners there recorded,
      record { creations = inputs; jobs = typed then one.ready winners there recorded },
      jobs_follow d.seen d.may_leave d.clock d.left_at d.room d.faults start.db front.ledger.db start.contents front.ledger.contents first front.store last.store stored ready.beside.well m config winners whole last.ledger.db last.ledger.contents (committed then one.ready winners there recorded),
    ))

pub returns-clause-asked : goal.returns-clause-asked
returns-clause-asked g c =
    let d = g.D.Disk in
    let m = meanings_of g.B.Builders.declares g.B.Builders.creates g.B.Builders.makes in
    let config = c.args.config.now in
    let winners = c.args.winners.items in
    let start = c.args.self.now.ledger in
    let first = c.args.store.now in
    let quiet = c.requires.world.2 in
    let held = c.intern_sources.new.ledger in
    let all = c.as_slice-all.result.now in
    let e = c.in-Ok.ensures in
    let front = c.put_front.new in
    let last = c.put_jobs.new in
    let before = c.args.bench.now in
    on_three c.put_jobs.result
    ((stored : Stored) → IsReady d.seen d.may_leave d.room front.ledger.db front.ledger.contents front.store stored → (winners : List Winner) → AreThere m config winners front.ledger.db front.ledger.contents all → AreRecorded m config winners stored.tables → AreFree m config winners)
    ((stored : Stored) → IsReady d.seen d.may_leave d.room front.ledger.db front.ledger.contents front.store stored → (winners : List Winner) → AreThere m config winners front.ledger.db front.ledger.contents all → AreRecorded m config winners stored.tables → AreJobInputs m config winners)
    ((stored : Stored) → IsReady d.seen d.may_leave d.room front.ledger.db front.ledger.contents front.store stored → (winners : List Winner) → AreThere m config winners front.ledger.db front.ledger.contents all → AreRecorded m config winners stored.tables → last.bench ≡ front.bench ++ map (λ job. Process (id_of job)) (open_jobs m config winners stored.tables))
    ((stored : Stored) → IsReady d.seen d.may_leave d.room start.db start.contents first stored → IsSoundStored m stored → last.bench ≡ before ++ need m config winners stored.tables)
    c.put_jobs.ensures.free c.put_jobs.ensures.inputs c.put_jobs.ensures.asked
    (λ free typed asked stored ready sound.
    let are = subst (λ (l : List Source). AreSourcesOf held.db held.contents l (sources config winners)) (sym c.as_slice-all.ensures.value) (e.interned stored ready.beside quiet.read) in
    let inputs = inputs_are m config winners quiet held.db held.contents all are c.read_ranges.ensures in
    let ready_held = ready_on m config winners d.seen d.may_leave d.clock d.left_at d.room d.faults start.db start.contents held.db held.contents e.db first stored ready (e.beside stored ready.beside) in
    let one = c.in-Ok-put_front.ensures.committed winners stored ready_held quiet are in
    let whole = committed_from m config winners d.seen d.may_leave d.clock d.left_at d.room d.faults start.db start.contents held.db held.contents e.db front.ledger.db front.ledger.contents first front.store stored (front_changes m config winners stored.tables) (e.stay stored ready.beside) one in
    let there : AreThere m config winners front.ledger.db front.ledger.contents all = record {
      quiet = quiet;
      short = c.requires.world.3;
      sources = stay_sources m config winners held.db held.contents front.ledger.db front.ledger.contents one.stay all (sources config winners) are;
    } in
    let then = all_committed stored (front_changes m config winners stored.tables) in
    let tables = tables_behind_creations d.seen d.may_leave d.clock d.left_at d.room d.faults start.db front.ledger.db start.contents front.ledger.contents first front.store front.store stored ready.beside.well m config winners whole in
    let recorded = subst (λ (t : PlainTables). AreRecorded m config winners t) (sym tables) (creations_recorded m config winners quiet inputs stored.tables sound.rows) in
    let creates = asked_of m config winners (needed_sources m config winners (with_source_rows m config winners stored.tables)) in
    let jobs = map (λ job. Process (id_of job)) (open_jobs m config winners (with_creations m config winners stored.tables)) in
    subst (λ (t : PlainTables). last.bench ≡ front.bench ++ map (λ job. Process (id_of job)) (open_jobs m config winners t)) tables (asked then one.ready winners there recorded)
    ∙ ap (λ (entries : List Entry). entries ++ jobs) (c.in-Ok-put_front.ensures.asked winners stored ready_held quiet are)
    ∙ append_assoc before creates jobs
    ∙ ap (λ (entries : List Entry). before ++ entries) (sym (need_by_phases m config winners quiet (free then one.ready winners there recorded) inputs stored.tables sound.rows)))

pub returns-clause-stopped : goal.returns-clause-stopped
returns-clause-stopped g c =
    let d = g.D.Disk in
    let m = meanings_of g.B.Builders.declares g.B.Builders.creates g.B.Builders.makes in
    let config = c.args.config.now in
    let winners = c.args.winners.items in
    let start = c.args.self.now.ledger in
    let first = c.args.store.now in
    let quiet = c.requires.world.2 in
    let held = c.intern_sources.new.ledger in
    let all = c.as_slice-all.result.now in
    let e = c.in-Ok.ensures in
    let front = c.put_front.new in
    let last = c.put_jobs.new in
    on_err_to c.put_jobs.result
    ((stored : Stored) → IsReady d.seen d.may_leave d.room front.ledger.db front.ledger.contents front.store stored → (winners : List Winner) → AreThere m config winners front.ledger.db front.ledger.contents all → AreRecorded m config winners stored.tables → HasStopped d.seen d.may_leave d.clock d.left_at d.room d.faults front.store last.store stored [] ⊎ (AreFree m config winners × AreJobInputs m config winners × HasStopped d.seen d.may_leave d.clock d.left_at d.room d.faults front.store last.store stored (job_changes m config winners stored.tables)))
    ((stored : Stored) → IsReady d.seen d.may_leave d.room start.db start.contents first stored → IsSoundStored m stored → HasStopped d.seen d.may_leave d.clock d.left_at d.room d.faults first last.store stored [] ⊎ (AreCreateInputs m config winners × HasStopped d.seen d.may_leave d.clock d.left_at d.room d.faults first last.store stored (front_changes m config winners stored.tables)) ⊎ (AreFree m config winners × IsTyped m config winners × HasStopped d.seen d.may_leave d.clock d.left_at d.room d.faults first last.store stored (changes m config winners stored.tables)))
    c.put_jobs.ensures.stopped
    (λ stopped stored ready sound.
    let are = subst (λ (l : List Source). AreSourcesOf held.db held.contents l (sources config winners)) (sym c.as_slice-all.ensures.value) (e.interned stored ready.beside quiet.read) in
    let inputs = inputs_are m config winners quiet held.db held.contents all are c.read_ranges.ensures in
    let ready_held = ready_on m config winners d.seen d.may_leave d.clock d.left_at d.room d.faults start.db start.contents held.db held.contents e.db first stored ready (e.beside stored ready.beside) in
    let one = c.in-Ok-put_front.ensures.committed winners stored ready_held quiet are in
    let whole = committed_from m config winners d.seen d.may_leave d.clock d.left_at d.room d.faults start.db start.contents held.db held.contents e.db front.ledger.db front.ledger.contents first front.store stored (front_changes m config winners stored.tables) (e.stay stored ready.beside) one in
    let there : AreThere m config winners front.ledger.db front.ledger.contents all = record {
      quiet = quiet;
      short = c.requires.world.3;
      sources = stay_sources m config winners held.db held.contents front.ledger.db front.ledger.contents one.stay all (sources config winners) are;
    } in
    let then = all_committed stored (front_changes m config winners stored.tables) in
    let tables = tables_behind_creations d.seen d.may_leave d.clock d.left_at d.room d.faults start.db front.ledger.db start.contents front.ledger.contents first front.store front.store stored ready.beside.well m config winners whole in
    let recorded = subst (λ (t : PlainTables). AreRecorded m config winners t) (sym tables) (creations_recorded m config winners quiet inputs stored.tables sound.rows) in
    ⊎_elim
    (λ none. inr (inl (inputs, stopped_between m config winners d.seen d.may_leave d.clock d.left_at d.room d.faults start.db start.contents front.ledger.db front.ledger.contents first front.store last.store stored whole none)))
    (λ some. inr (inr (
      some.0,
      record { creations = inputs; jobs = some.1 },
      jobs_stop d.seen d.may_leave d.clock d.left_at d.room d.faults start.db front.ledger.db start.contents front.ledger.contents first front.store last.store stored ready.beside.well m config winners whole some.2,
    )))
    (stopped then one.ready winners there recorded))

pub returns-clause-unbuilt : goal.returns-clause-unbuilt
returns-clause-unbuilt g c =
    let d = g.D.Disk in
    let m = meanings_of g.B.Builders.declares g.B.Builders.creates g.B.Builders.makes in
    let config = c.args.config.now in
    let winners = c.args.winners.items in
    let start = c.args.self.now.ledger in
    let first = c.args.store.now in
    let quiet = c.requires.world.2 in
    let held = c.intern_sources.new.ledger in
    let all = c.as_slice-all.result.now in
    let e = c.in-Ok.ensures in
    let front = c.put_front.new in
    let last = c.put_jobs.new in
    if_err_to c.put_jobs.result
    (λ stop. stop ≡ Unbuilt → (stored : Stored) → IsReady d.seen d.may_leave d.room front.ledger.db front.ledger.contents front.store stored → (winners : List Winner) → AreThere m config winners front.ledger.db front.ledger.contents all → AreRecorded m config winners stored.tables → IsUnfree m config winners ⊎ IsUnmade m config winners stored.tables)
    (λ stop. stop ≡ Unbuilt → (stored : Stored) → IsReady d.seen d.may_leave d.room start.db start.contents first stored → IsSoundStored m stored → IsUnfree m config winners ⊎ IsUnmade m config winners (with_creations m config winners stored.tables))
    c.put_jobs.ensures.unbuilt
    (λ stop unbuilt is stored ready sound.
    let are = subst (λ (l : List Source). AreSourcesOf held.db held.contents l (sources config winners)) (sym c.as_slice-all.ensures.value) (e.interned stored ready.beside quiet.read) in
    let inputs = inputs_are m config winners quiet held.db held.contents all are c.read_ranges.ensures in
    let ready_held = ready_on m config winners d.seen d.may_leave d.clock d.left_at d.room d.faults start.db start.contents held.db held.contents e.db first stored ready (e.beside stored ready.beside) in
    let one = c.in-Ok-put_front.ensures.committed winners stored ready_held quiet are in
    let whole = committed_from m config winners d.seen d.may_leave d.clock d.left_at d.room d.faults start.db start.contents held.db held.contents e.db front.ledger.db front.ledger.contents first front.store stored (front_changes m config winners stored.tables) (e.stay stored ready.beside) one in
    let there : AreThere m config winners front.ledger.db front.ledger.contents all = record {
      quiet = quiet;
      short = c.requires.world.3;
      sources = stay_sources m config winners held.db held.contents front.ledger.db front.ledger.contents one.stay all (sources config winners) are;
    } in
    let then = all_committed stored (front_changes m config winners stored.tables) in
    let tables = tables_behind_creations d.seen d.may_leave d.clock d.left_at d.room d.faults start.db front.ledger.db start.contents front.ledger.contents first front.store front.store stored ready.beside.well m config winners whole in
    let recorded = subst (λ (t : PlainTables). AreRecorded m config winners t) (sym tables) (creations_recorded m config winners quiet inputs stored.tables sound.rows) in
    subst (λ (t : PlainTables). IsUnfree m config winners ⊎ IsUnmade m config winners t) tables (unbuilt is then one.ready winners there recorded))

pub returns-clause-full : goal.returns-clause-full
returns-clause-full g c =
    let d = g.D.Disk in
    let m = meanings_of g.B.Builders.declares g.B.Builders.creates g.B.Builders.makes in
    let config = c.args.config.now in
    let winners = c.args.winners.items in
    let start = c.args.self.now.ledger in
    let first = c.args.store.now in
    let quiet = c.requires.world.2 in
    let held = c.intern_sources.new.ledger in
    let all = c.as_slice-all.result.now in
    let e = c.in-Ok.ensures in
    let front = c.put_front.new in
    let stored = c.requires.world.0 in
    let ready = c.requires.world.1 in
    let are = subst (λ (l : List Source). AreSourcesOf held.db held.contents l (sources config winners)) (sym c.as_slice-all.ensures.value) (e.interned stored ready.beside quiet.read) in
    let inputs = inputs_are m config winners quiet held.db held.contents all are c.read_ranges.ensures in
    let ready_held = ready_on m config winners d.seen d.may_leave d.clock d.left_at d.room d.faults start.db start.contents held.db held.contents e.db first stored ready (e.beside stored ready.beside) in
    let one = c.in-Ok-put_front.ensures.committed winners stored ready_held quiet are in
    let whole = committed_from m config winners d.seen d.may_leave d.clock d.left_at d.room d.faults start.db start.contents held.db held.contents e.db front.ledger.db front.ledger.contents first front.store stored (front_changes m config winners stored.tables) (e.stay stored ready.beside) one in
    if_err_to c.put_jobs.result
    (λ stop. (l w : ℕ) → stop ≡ Db (StoreFull l w) → front.ledger.db.journal.limit < l + w)
    (λ stop. (l w : ℕ) → stop ≡ Db (StoreFull l w) → start.db.journal.limit < l + w)
    c.put_jobs.ensures.full
    (λ stop full l w is. subst (λ limit. limit < l + w) whole.limit (full l w is))

pub returns-clause-disk : goal.returns-clause-disk
returns-clause-disk g c =
    let d = g.D.Disk in
    let m = meanings_of g.B.Builders.declares g.B.Builders.creates g.B.Builders.makes in
    let config = c.args.config.now in
    let winners = c.args.winners.items in
    let start = c.args.self.now.ledger in
    let first = c.args.store.now in
    let quiet = c.requires.world.2 in
    let held = c.intern_sources.new.ledger in
    let all = c.as_slice-all.result.now in
    let e = c.in-Ok.ensures in
    let front = c.put_front.new in
    let stored = c.requires.world.0 in
    let ready = c.requires.world.1 in
    let are = subst (λ (l : List Source). AreSourcesOf held.db held.contents l (sources config winners)) (sym c.as_slice-all.ensures.value) (e.interned stored ready.beside quiet.read) in
    let inputs = inputs_are m config winners quiet held.db held.contents all are c.read_ranges.ensures in
    let ready_held = ready_on m config winners d.seen d.may_leave d.clock d.left_at d.room d.faults start.db start.contents held.db held.contents e.db first stored ready (e.beside stored ready.beside) in
    let one = c.in-Ok-put_front.ensures.committed winners stored ready_held quiet are in
    let whole = committed_from m config winners d.seen d.may_leave d.clock d.left_at d.room d.faults start.db start.contents held.db held.contents e.db front.ledger.db front.ledger.contents first front.store stored (front_changes m config winners stored.tables) (e.stay stored ready.beside) one in
    if_err_to c.put_jobs.result
    (λ stop. stop ≡ Db DiskFault → Rose (d.faults front.store.0) (d.faults c.put_jobs.new.store.0))
    (λ stop. stop ≡ Db DiskFault → Rose (d.faults first.0) (d.faults c.put_jobs.new.store.0))
    c.put_jobs.ensures.disk
    (λ stop disk is. rose_on (d.faults first.0) (d.faults front.store.0) (d.faults c.put_jobs.new.store.0) whole.commits.later (disk is))
