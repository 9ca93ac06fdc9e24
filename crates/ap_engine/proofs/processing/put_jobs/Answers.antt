use Rattle.std.proofs.Common.{◌≡◌, ◌++◌, List, [], map, inl, inr, sym, ◌∙◌, ap, subst, ◌⊎◌, Contains}
use Rattle.std.specs.List.{AllByRecursion}
use Rattle.ap_scan.specs.declared.results.Winner.{Winner}
use Rattle.ap_rows.specs.Inputs.{MadeFrom}
use Rattle.ap_rows.specs.Jobs.{id_of}
use Rattle.ap_builder.specs.Views.{job_view}
use Rattle.ap_builder.specs.declared.entry.Entry.TheVariants.{Process}
use Rattle.ap_db.specs.Listed.{AreAll}
use Rattle.ap_db.specs.Stored.{Stored}
use Rattle.ap_sources.specs.Sources.{sources}
use Rattle.ap_create.specs.Creation.{all_jobs}
use Rattle.ap_engine.specs.declared.fault.EngineFault.{EngineFault}
use Rattle.ap_engine.specs.declared.fault.EngineFault.TheVariants.{Unbuilt}
use Rattle.ap_engine.specs.Changes.{job_changes}
use Rattle.ap_engine.specs.Ledgers.{IsReady, HasCommitted, HasStopped}
use Rattle.ap_engine.specs.Worlds.{AreFree, AreJobInputs}
use Rattle.ap_engine.specs.NeededJobs.{IsJobOf, needed_in, IsNeededJob, IsOneProduct, IsBuilt, puts_made, work_of}
use Rattle.ap_engine.specs.Asked.{meanings_of}
use Rattle.ap_engine.specs.Recorded.{AreThere, AreRecorded, open_jobs, MakesOne, IsUnfree, IsUnmade}
use Rattle.ap_engine.proofs.Outcomes.{on_map, err_map, if_err, err_of}
use Rattle.ap_engine.proofs.Following.{nothing_given}
use Rattle.ap_engine.proofs.ProcessSteps.{ready_on, committed_from}
use Rattle.ap_engine.proofs.FoundJobs.{made, all_images, read_jobs, other_source, other_recorded, found_free, found_jobs, found_inputs, same_needed, same_changes, same_work}
use Rattle.ap_engine.proofs.OfferedJobs.{unmade}
use Rattle.ap_engine.proofs.processing.put_jobs.Goals as goal

pub returns-in-Err-clause-stopped : goal.returns-in-Err-clause-stopped
returns-in-Err-clause-stopped g c = λ stored ready winners are recorded.
    let d = g.D.Disk in
    let B = meanings_of g.B.Builders.declares g.B.Builders.creates g.B.Builders.makes in
    let old = c.args.ledger.now in
    let store = c.args.store.now in
    let config = c.args.config.now in
    let all = c.args.sources.now in
    inl (nothing_given d.seen d.may_leave d.clock d.left_at d.room d.faults old.db old.contents store stored ready [])

pub returns-in-Err-clause-unbuilt : goal.returns-in-Err-clause-unbuilt
returns-in-Err-clause-unbuilt g c = λ unbuilt stored ready winners are recorded.
    let d = g.D.Disk in
    let B = meanings_of g.B.Builders.declares g.B.Builders.creates g.B.Builders.makes in
    let old = c.args.ledger.now in
    let store = c.args.store.now in
    let config = c.args.config.now in
    let all = c.args.sources.now in
    let none = c.in-Err.ensures.unbuilt unbuilt in
    let there = other_source B config winners old.db old.contents all stored ready.beside are recorded all (sources config winners) are.sources none.0 none.1 in
    inl (record { winner = there.0; is = there.1; other = other_recorded B config winners old.db old.contents all stored ready.beside are recorded none.0 there.0 there.2 there.1 none.2 })

pub needed_jobs-requires : goal.needed_jobs-requires
needed_jobs-requires g c =
    let d = g.D.Disk in
    let B = meanings_of g.B.Builders.declares g.B.Builders.creates g.B.Builders.makes in
    let old = c.args.ledger.now in
    let store = c.args.store.now in
    let config = c.args.config.now in
    let all = c.args.sources.now in
    let r = c.requires.there in
    let read = read_jobs B config r.2 old.db old.contents all r.3 c.in-Ok.jobs.items c.in-Ok.ensures.jobs in
    (r.0, r.1.beside, read.0, (subst (λ jobs. AreAll (IsJobOf old.db old.contents) jobs read.0) (sym c.deref.ensures.value) read.1))

pub returns-in-Err-needed_jobs-clause-stopped : goal.returns-in-Err-needed_jobs-clause-stopped
returns-in-Err-needed_jobs-clause-stopped g c = λ stored ready winners are recorded.
    let d = g.D.Disk in
    let B = meanings_of g.B.Builders.declares g.B.Builders.creates g.B.Builders.makes in
    let old = c.args.ledger.now in
    let store = c.args.store.now in
    let config = c.args.config.now in
    let all = c.args.sources.now in
    inl (nothing_given d.seen d.may_leave d.clock d.left_at d.room d.faults old.db old.contents store stored ready [])

pub process_each-requires : goal.process_each-requires
process_each-requires g c =
    let d = g.D.Disk in
    let B = meanings_of g.B.Builders.declares g.B.Builders.creates g.B.Builders.makes in
    let old = c.args.ledger.now in
    let store = c.args.store.now in
    let config = c.args.config.now in
    let all = c.args.sources.now in
    let mid = c.needed_jobs.new.ledger in
    let got = c.in-Ok-needed_jobs.ensures in
    let r = c.requires.there in
    let read = read_jobs B config r.2 old.db old.contents all r.3 c.in-Ok.jobs.items c.in-Ok.ensures.jobs in (
      r.0,
      (ready_on d.seen d.may_leave d.clock d.left_at d.room d.faults old.db old.contents mid.db mid.contents store r.0 got.db (got.beside r.0 r.1.beside) r.1),
      (needed_in r.0.tables read.0),
      (subst (λ needed. AreAll (IsNeededJob mid.db mid.contents) needed (needed_in r.0.tables read.0)) (sym c.deref-2.ensures.value) (got.needed r.0 r.1.beside read.0 (subst (λ jobs. AreAll (IsJobOf old.db old.contents) jobs read.0) (sym c.deref.ensures.value) read.1))),
    )

pub returns-clause-committed : goal.returns-clause-committed
returns-clause-committed g c =
    let d = g.D.Disk in
    let B = meanings_of g.B.Builders.declares g.B.Builders.creates g.B.Builders.makes in
    let old = c.args.ledger.now in
    let store = c.args.store.now in
    let config = c.args.config.now in
    let all = c.args.sources.now in
    let mid = c.needed_jobs.new.ledger in
    let new = c.process_each.new.ledger in
    let store' = c.process_each.new.store in
    let got = c.in-Ok-needed_jobs.ensures in
    on_map c.process_each.result
    ((stored : Stored) → IsReady d.seen d.may_leave d.room mid.db mid.contents store stored → (froms : List MadeFrom) → AreAll (IsNeededJob mid.db mid.contents) c.deref-2.result.now froms → HasCommitted d.seen d.may_leave d.clock d.left_at d.room d.faults mid.db mid.contents new.db new.contents store store' stored (puts_made g.B.Builders.makes froms))
    ((stored : Stored) → IsReady d.seen d.may_leave d.room old.db old.contents store stored → (winners : List Winner) → AreThere B config winners old.db old.contents all → AreRecorded B config winners stored.tables → HasCommitted d.seen d.may_leave d.clock d.left_at d.room d.faults old.db old.contents new.db new.contents store store' stored (job_changes B config winners stored.tables))
    c.process_each.ensures.committed
    (λ each stored ready winners are recorded. subst (HasCommitted d.seen d.may_leave d.clock d.left_at d.room d.faults old.db old.contents new.db new.contents store store' stored) (same_changes B config winners are.quiet (found_free B config winners old.db old.contents all stored ready.beside are recorded c.in-Ok.jobs.items c.in-Ok.ensures.jobs) stored.tables)
    (committed_from d.seen d.may_leave d.clock d.left_at d.room d.faults old.db old.contents mid.db mid.contents new.db new.contents store store' stored (puts_made g.B.Builders.makes (needed_in stored.tables (map (made B config winners) (all_jobs B config winners)))) got.db (got.stay stored ready.beside)
    (each stored (ready_on d.seen d.may_leave d.clock d.left_at d.room d.faults old.db old.contents mid.db mid.contents store stored got.db (got.beside stored ready.beside) ready) (needed_in stored.tables (map (made B config winners) (all_jobs B config winners)))
    (subst (λ needed. AreAll (IsNeededJob mid.db mid.contents) needed (needed_in stored.tables (map (made B config winners) (all_jobs B config winners)))) (sym c.deref-2.ensures.value) (got.needed stored ready.beside (map (made B config winners) (all_jobs B config winners)) (subst (λ jobs. AreAll (IsJobOf old.db old.contents) jobs (map (made B config winners) (all_jobs B config winners))) (sym c.deref.ensures.value) (found_jobs B config winners old.db old.contents all stored ready.beside are recorded c.in-Ok.jobs.items c.in-Ok.ensures.jobs)))))))

pub returns-clause-asked : goal.returns-clause-asked
returns-clause-asked g c =
    let d = g.D.Disk in
    let B = meanings_of g.B.Builders.declares g.B.Builders.creates g.B.Builders.makes in
    let old = c.args.ledger.now in
    let store = c.args.store.now in
    let config = c.args.config.now in
    let all = c.args.sources.now in
    let mid = c.needed_jobs.new.ledger in
    let new = c.process_each.new.ledger in
    let store' = c.process_each.new.store in
    let got = c.in-Ok-needed_jobs.ensures in
    on_map c.process_each.result
    ((stored : Stored) → IsReady d.seen d.may_leave d.room mid.db mid.contents store stored → (froms : List MadeFrom) → AreAll (IsNeededJob mid.db mid.contents) c.deref-2.result.now froms → c.process_each.new.bench ≡ c.args.bench.now ++ work_of froms)
    ((stored : Stored) → IsReady d.seen d.may_leave d.room old.db old.contents store stored → (winners : List Winner) → AreThere B config winners old.db old.contents all → AreRecorded B config winners stored.tables → c.process_each.new.bench ≡ c.args.bench.now ++ map (λ job. Process (id_of job)) (open_jobs B config winners stored.tables))
    c.process_each.ensures.asked
    (λ each stored ready winners are recorded. each stored (ready_on d.seen d.may_leave d.clock d.left_at d.room d.faults old.db old.contents mid.db mid.contents store stored got.db (got.beside stored ready.beside) ready) (needed_in stored.tables (map (made B config winners) (all_jobs B config winners)))
    (subst (λ needed. AreAll (IsNeededJob mid.db mid.contents) needed (needed_in stored.tables (map (made B config winners) (all_jobs B config winners)))) (sym c.deref-2.ensures.value) (got.needed stored ready.beside (map (made B config winners) (all_jobs B config winners)) (subst (λ jobs. AreAll (IsJobOf old.db old.contents) jobs (map (made B config winners) (all_jobs B config winners))) (sym c.deref.ensures.value) (found_jobs B config winners old.db old.contents all stored ready.beside are recorded c.in-Ok.jobs.items c.in-Ok.ensures.jobs))))
    ∙ ap (λ work. c.args.bench.now ++ work) (same_work B config winners are.quiet (found_free B config winners old.db old.contents all stored ready.beside are recorded c.in-Ok.jobs.items c.in-Ok.ensures.jobs) stored.tables))

pub returns-clause-free : goal.returns-clause-free
returns-clause-free g c =
    let d = g.D.Disk in
    let B = meanings_of g.B.Builders.declares g.B.Builders.creates g.B.Builders.makes in
    let old = c.args.ledger.now in
    let store = c.args.store.now in
    let config = c.args.config.now in
    let all = c.args.sources.now in
    let mid = c.needed_jobs.new.ledger in
    let new = c.process_each.new.ledger in
    let store' = c.process_each.new.store in
    let got = c.in-Ok-needed_jobs.ensures in
    on_map c.process_each.result
    ((stored : Stored) → IsReady d.seen d.may_leave d.room mid.db mid.contents store stored → (froms : List MadeFrom) → AreAll (IsNeededJob mid.db mid.contents) c.deref-2.result.now froms → HasCommitted d.seen d.may_leave d.clock d.left_at d.room d.faults mid.db mid.contents new.db new.contents store store' stored (puts_made g.B.Builders.makes froms))
    ((stored : Stored) → IsReady d.seen d.may_leave d.room old.db old.contents store stored → (winners : List Winner) → AreThere B config winners old.db old.contents all → AreRecorded B config winners stored.tables → AreFree B config winners)
    c.process_each.ensures.committed
    (λ each stored ready winners are recorded. found_free B config winners old.db old.contents all stored ready.beside are recorded c.in-Ok.jobs.items c.in-Ok.ensures.jobs)

pub returns-clause-inputs : goal.returns-clause-inputs
returns-clause-inputs g c =
    let d = g.D.Disk in
    let B = meanings_of g.B.Builders.declares g.B.Builders.creates g.B.Builders.makes in
    let old = c.args.ledger.now in
    let store = c.args.store.now in
    let config = c.args.config.now in
    let all = c.args.sources.now in
    let mid = c.needed_jobs.new.ledger in
    let new = c.process_each.new.ledger in
    let store' = c.process_each.new.store in
    let got = c.in-Ok-needed_jobs.ensures in
    on_map c.process_each.result
    ((stored : Stored) → IsReady d.seen d.may_leave d.room mid.db mid.contents store stored → (froms : List MadeFrom) → AreAll (IsNeededJob mid.db mid.contents) c.deref-2.result.now froms → HasCommitted d.seen d.may_leave d.clock d.left_at d.room d.faults mid.db mid.contents new.db new.contents store store' stored (puts_made g.B.Builders.makes froms))
    ((stored : Stored) → IsReady d.seen d.may_leave d.room old.db old.contents store stored → (winners : List Winner) → AreThere B config winners old.db old.contents all → AreRecorded B config winners stored.tables → AreJobInputs B config winners)
    c.process_each.ensures.committed
    (λ each stored ready winners are recorded. found_inputs B config winners old.db old.contents all stored ready.beside are recorded c.in-Ok.jobs.items c.in-Ok.ensures.jobs)

pub returns-clause-one : goal.returns-clause-one
returns-clause-one g c =
    let d = g.D.Disk in
    let B = meanings_of g.B.Builders.declares g.B.Builders.creates g.B.Builders.makes in
    let old = c.args.ledger.now in
    let store = c.args.store.now in
    let config = c.args.config.now in
    let all = c.args.sources.now in
    let mid = c.needed_jobs.new.ledger in
    let new = c.process_each.new.ledger in
    let store' = c.process_each.new.store in
    let got = c.in-Ok-needed_jobs.ensures in
    on_map c.process_each.result
    ((stored : Stored) → IsReady d.seen d.may_leave d.room mid.db mid.contents store stored → (froms : List MadeFrom) → AreAll (IsNeededJob mid.db mid.contents) c.deref-2.result.now froms → AllByRecursion (λ (from : MadeFrom). IsOneProduct (g.B.Builders.makes (job_view from))) froms)
    ((stored : Stored) → IsReady d.seen d.may_leave d.room old.db old.contents store stored → (winners : List Winner) → AreThere B config winners old.db old.contents all → AreRecorded B config winners stored.tables → AllByRecursion (MakesOne B config winners) (open_jobs B config winners stored.tables))
    c.process_each.ensures.one
    (λ each stored ready winners are recorded. all_images (λ (from : MadeFrom). IsOneProduct (g.B.Builders.makes (job_view from))) (made B config winners) (open_jobs B config winners stored.tables)
    (subst (AllByRecursion (λ (from : MadeFrom). IsOneProduct (g.B.Builders.makes (job_view from)))) (same_needed B config winners are.quiet (found_free B config winners old.db old.contents all stored ready.beside are recorded c.in-Ok.jobs.items c.in-Ok.ensures.jobs) stored.tables)
    (each stored (ready_on d.seen d.may_leave d.clock d.left_at d.room d.faults old.db old.contents mid.db mid.contents store stored got.db (got.beside stored ready.beside) ready) (needed_in stored.tables (map (made B config winners) (all_jobs B config winners)))
    (subst (λ needed. AreAll (IsNeededJob mid.db mid.contents) needed (needed_in stored.tables (map (made B config winners) (all_jobs B config winners)))) (sym c.deref-2.ensures.value) (got.needed stored ready.beside (map (made B config winners) (all_jobs B config winners)) (subst (λ jobs. AreAll (IsJobOf old.db old.contents) jobs (map (made B config winners) (all_jobs B config winners))) (sym c.deref.ensures.value) (found_jobs B config winners old.db old.contents all stored ready.beside are recorded c.in-Ok.jobs.items c.in-Ok.ensures.jobs)))))))

pub returns-clause-stopped : goal.returns-clause-stopped
returns-clause-stopped g c =
    let d = g.D.Disk in
    let B = meanings_of g.B.Builders.declares g.B.Builders.creates g.B.Builders.makes in
    let old = c.args.ledger.now in
    let store = c.args.store.now in
    let config = c.args.config.now in
    let all = c.args.sources.now in
    let mid = c.needed_jobs.new.ledger in
    let new = c.process_each.new.ledger in
    let store' = c.process_each.new.store in
    let got = c.in-Ok-needed_jobs.ensures in
    err_map c.process_each.result
    ((stored : Stored) → IsReady d.seen d.may_leave d.room mid.db mid.contents store stored → (froms : List MadeFrom) → AreAll (IsNeededJob mid.db mid.contents) c.deref-2.result.now froms → HasStopped d.seen d.may_leave d.clock d.left_at d.room d.faults store store' stored (puts_made g.B.Builders.makes froms))
    ((stored : Stored) → IsReady d.seen d.may_leave d.room old.db old.contents store stored → (winners : List Winner) → AreThere B config winners old.db old.contents all → AreRecorded B config winners stored.tables → HasStopped d.seen d.may_leave d.clock d.left_at d.room d.faults store store' stored [] ⊎ (AreFree B config winners × AreJobInputs B config winners × HasStopped d.seen d.may_leave d.clock d.left_at d.room d.faults store store' stored (job_changes B config winners stored.tables)))
    c.process_each.ensures.stopped
    (λ each stored ready winners are recorded. inr (
      found_free B config winners old.db old.contents all stored ready.beside are recorded c.in-Ok.jobs.items c.in-Ok.ensures.jobs,
      found_inputs B config winners old.db old.contents all stored ready.beside are recorded c.in-Ok.jobs.items c.in-Ok.ensures.jobs,
      subst (HasStopped d.seen d.may_leave d.clock d.left_at d.room d.faults store store' stored) (same_changes B config winners are.quiet (found_free B config winners old.db old.contents all stored ready.beside are recorded c.in-Ok.jobs.items c.in-Ok.ensures.jobs) stored.tables)
          (each stored (ready_on d.seen d.may_leave d.clock d.left_at d.room d.faults old.db old.contents mid.db mid.contents store stored got.db (got.beside stored ready.beside) ready) (needed_in stored.tables (map (made B config winners) (all_jobs B config winners)))
          (subst (λ needed. AreAll (IsNeededJob mid.db mid.contents) needed (needed_in stored.tables (map (made B config winners) (all_jobs B config winners)))) (sym c.deref-2.ensures.value) (got.needed stored ready.beside (map (made B config winners) (all_jobs B config winners)) (subst (λ jobs. AreAll (IsJobOf old.db old.contents) jobs (map (made B config winners) (all_jobs B config winners))) (sym c.deref.ensures.value) (found_jobs B config winners old.db old.contents all stored ready.beside are recorded c.in-Ok.jobs.items c.in-Ok.ensures.jobs))))),
    ))

pub returns-clause-unbuilt : goal.returns-clause-unbuilt
returns-clause-unbuilt g c =
    let d = g.D.Disk in
    let B = meanings_of g.B.Builders.declares g.B.Builders.creates g.B.Builders.makes in
    let old = c.args.ledger.now in
    let store = c.args.store.now in
    let config = c.args.config.now in
    let all = c.args.sources.now in
    let mid = c.needed_jobs.new.ledger in
    let new = c.process_each.new.ledger in
    let store' = c.process_each.new.store in
    let got = c.in-Ok-needed_jobs.ensures in
    if_err c.process_each.result
    (λ (stop : EngineFault). stop ≡ Unbuilt → (stored : Stored) → IsReady d.seen d.may_leave d.room old.db old.contents store stored → (winners : List Winner) → AreThere B config winners old.db old.contents all → AreRecorded B config winners stored.tables → IsUnfree B config winners ⊎ IsUnmade B config winners stored.tables)
    (λ stop is unbuilt stored ready winners are recorded.
    let bad = err_of c.process_each.result
    (λ (stop : EngineFault). stop ≡ Unbuilt → (stored : Stored) → IsReady d.seen d.may_leave d.room mid.db mid.contents store stored → (froms : List MadeFrom) → AreAll (IsNeededJob mid.db mid.contents) c.deref-2.result.now froms → (from : MadeFrom) × Contains froms from × ¬ IsBuilt (g.B.Builders.offers c.args.builders.now) g.B.Builders.makes from)
    stop c.process_each.ensures.unbuilt is unbuilt stored (ready_on d.seen d.may_leave d.clock d.left_at d.room d.faults old.db old.contents mid.db mid.contents store stored got.db (got.beside stored ready.beside) ready) (needed_in stored.tables (map (made B config winners) (all_jobs B config winners)))
    (subst (λ needed. AreAll (IsNeededJob mid.db mid.contents) needed (needed_in stored.tables (map (made B config winners) (all_jobs B config winners)))) (sym c.deref-2.ensures.value) (got.needed stored ready.beside (map (made B config winners) (all_jobs B config winners)) (subst (λ jobs. AreAll (IsJobOf old.db old.contents) jobs (map (made B config winners) (all_jobs B config winners))) (sym c.deref.ensures.value) (found_jobs B config winners old.db old.contents all stored ready.beside are recorded c.in-Ok.jobs.items c.in-Ok.ensures.jobs)))) in
    inr (unmade B g.met.B.Builders.created config winners are.quiet (found_free B config winners old.db old.contents all stored ready.beside are recorded c.in-Ok.jobs.items c.in-Ok.ensures.jobs) (g.B.Builders.offers c.args.builders.now) c.requires.offered stored.tables bad.0 bad.1 bad.2))
