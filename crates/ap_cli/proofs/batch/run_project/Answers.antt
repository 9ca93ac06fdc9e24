use Rattle.std.proofs.Common.{◌≡◌, ◌<◌, ◌+◌, ℕ, sym, subst, inr, ⊎_elim, List, Ok, length, drop, ◌∙◌, ap}
use Rattle.ap_tree.specs.Changes.{TellsAs}
use Rattle.ap_tree.specs.Written.{Gains}
use Rattle.ap_builder.specs.declared.entry.Entry.{Entry}
use Rattle.std.specs.Prelude.{IfSome}
use Rattle.ap_journal.specs.Moments.{Opens}
use Rattle.ap_journal.specs.Records.{IsSameStore}
use Rattle.ap_journal.specs.Told.{one as each}
use Rattle.ap_db.specs.Stored.{stored_in}
use Rattle.ap_db.specs.WholeItems.{all_committed}
use Rattle.ap_engine.specs.Asked.{meanings_of}
use Rattle.ap_engine.specs.Changes.{changes}
use Rattle.ap_cli.specs.Lines.{report_lem, ending_of}
use Rattle.ap_cli.specs.Output.{TakesShort}
use Rattle.ap_cli.specs.Overlay.{Overlays, LaidAllButOne}
use Rattle.ap_cli.specs.Store.{IsGood, limit_of}
use Rattle.ap_cli.proofs.Refusing.{cause_of_settling, kept_as}
use Rattle.ap_cli.proofs.Running.{where_told, opened_alone, opened_soundly, stored_soundly, halted_run, halted_soundly, settled_run, settled_soundly, rows_are, built_at_end, unbuilt_at_end, ran_to_end, also_told}
use Rattle.ap_cli.proofs.batch.run_project.Goals as goal

pub returns-in-Err-clause-stopped : goal.returns-in-Err-clause-stopped
returns-in-Err-clause-stopped g c = λ path configures.
    where_told (g.D.Disk.seen c.args.store.now.0) _ (λ file tells sound. opened_alone g.D.Disk.seen g.D.Disk.may_leave g.D.Disk.clock g.D.Disk.left_at g.D.Disk.room g.D.Disk.faults (meanings_of g.B.Builders.declares g.B.Builders.creates g.B.Builders.makes)
    (g.B.Builders.offers c.args.builders.now) path (g.T.Tree.files c.args.tree.now) c.args.store.now c.open.new.store file tells sound c.open.ensures.opens)

pub returns-in-Err-clause-sound : goal.returns-in-Err-clause-sound
returns-in-Err-clause-sound g c = λ path configures.
    where_told (g.D.Disk.seen c.args.store.now.0) _ (λ file tells sound. opened_soundly g.D.Disk.seen g.D.Disk.may_leave g.D.Disk.clock g.D.Disk.left_at g.D.Disk.room g.D.Disk.faults (meanings_of g.B.Builders.declares g.B.Builders.creates g.B.Builders.makes)
    (g.B.Builders.offers c.args.builders.now) path (g.T.Tree.files c.args.tree.now) c.args.store.now c.open.new.store file tells sound c.open.ensures.opens)

pub returns-in-Err-settle_project-clause-stopped : goal.returns-in-Err-settle_project-clause-stopped
returns-in-Err-settle_project-clause-stopped g c = λ path configures.
    where_told (g.D.Disk.seen c.args.store.now.0) _ (λ file tells sound. halted_run g.D.Disk.seen g.D.Disk.may_leave g.D.Disk.clock g.D.Disk.left_at g.D.Disk.room g.D.Disk.faults (meanings_of g.B.Builders.declares g.B.Builders.creates g.B.Builders.makes)
    (g.B.Builders.offers c.args.builders.now) path (g.T.Tree.files c.args.tree.now) c.args.store.now c.open.new.store file tells sound c.open.ensures.opens
    c.in-Ok.ensures.ready.0 c.in-Ok.ensures.ready.2 c.in-Ok.ensures.told c.settle_project.new.store
    (c.in-Err-settle_project.ensures.halted path configures c.in-Ok.ensures.ready.0 c.in-Ok.ensures.ready.1 (stored_soundly g.D.Disk.seen g.D.Disk.may_leave g.D.Disk.clock g.D.Disk.left_at g.D.Disk.room g.D.Disk.faults (meanings_of g.B.Builders.declares g.B.Builders.creates g.B.Builders.makes)
    (g.B.Builders.offers c.args.builders.now) path (g.T.Tree.files c.args.tree.now) c.args.store.now c.open.new.store file tells sound c.open.ensures.opens
    c.in-Ok.ensures.ready.0 c.in-Ok.ensures.ready.2 c.in-Ok.ensures.told c.settle_project.new.store)))

pub returns-in-Err-settle_project-clause-sound : goal.returns-in-Err-settle_project-clause-sound
returns-in-Err-settle_project-clause-sound g c = λ path configures.
    where_told (g.D.Disk.seen c.args.store.now.0) _ (λ file tells sound. halted_soundly g.D.Disk.seen g.D.Disk.may_leave g.D.Disk.clock g.D.Disk.left_at g.D.Disk.room g.D.Disk.faults (meanings_of g.B.Builders.declares g.B.Builders.creates g.B.Builders.makes)
    (g.B.Builders.offers c.args.builders.now) path (g.T.Tree.files c.args.tree.now) c.args.store.now c.open.new.store file tells sound c.open.ensures.opens
    c.in-Ok.ensures.ready.0 c.in-Ok.ensures.ready.2 c.in-Ok.ensures.told c.settle_project.new.store
    (c.in-Err-settle_project.ensures.halted path configures c.in-Ok.ensures.ready.0 c.in-Ok.ensures.ready.1 (stored_soundly g.D.Disk.seen g.D.Disk.may_leave g.D.Disk.clock g.D.Disk.left_at g.D.Disk.room g.D.Disk.faults (meanings_of g.B.Builders.declares g.B.Builders.creates g.B.Builders.makes)
    (g.B.Builders.offers c.args.builders.now) path (g.T.Tree.files c.args.tree.now) c.args.store.now c.open.new.store file tells sound c.open.ensures.opens
    c.in-Ok.ensures.ready.0 c.in-Ok.ensures.ready.2 c.in-Ok.ensures.told c.settle_project.new.store)))

pub returns-in-Err-settle_project-clause-unbuilt : goal.returns-in-Err-settle_project-clause-unbuilt
returns-in-Err-settle_project-clause-unbuilt g c = λ why path configures.
    where_told (g.D.Disk.seen c.args.store.now.0) _ (λ file tells sound. c.in-Err-settle_project.ensures.unbuilt why path configures c.in-Ok.ensures.ready.0 c.in-Ok.ensures.ready.1 (stored_soundly g.D.Disk.seen g.D.Disk.may_leave g.D.Disk.clock g.D.Disk.left_at g.D.Disk.room g.D.Disk.faults (meanings_of g.B.Builders.declares g.B.Builders.creates g.B.Builders.makes)
    (g.B.Builders.offers c.args.builders.now) path (g.T.Tree.files c.args.tree.now) c.args.store.now c.open.new.store file tells sound c.open.ensures.opens
    c.in-Ok.ensures.ready.0 c.in-Ok.ensures.ready.2 c.in-Ok.ensures.told c.settle_project.new.store))

pub returns-in-Err-settle_project-clause-good : goal.returns-in-Err-settle_project-clause-good
returns-in-Err-settle_project-clause-good g c = inr (inr (inr (each (g.D.Disk.seen c.args.store.now.0) (λ file. stored_in file ≡ Ok c.in-Ok.ensures.ready.0) IsGood c.in-Ok.ensures.ready.2 (λ file is. (c.in-Ok.ensures.ready.0, is)))))

pub returns-in-Ok-deliver-clause-done : goal.returns-in-Ok-deliver-clause-done
returns-in-Ok-deliver-clause-done g c = λ path configures.
    where_told (g.D.Disk.seen c.args.store.now.0) _ (λ file tells sound. let ran = c.in-Ok-settle_project.ensures.settled path configures c.in-Ok.ensures.ready.0 c.in-Ok.ensures.ready.1 (stored_soundly g.D.Disk.seen g.D.Disk.may_leave g.D.Disk.clock g.D.Disk.left_at g.D.Disk.room g.D.Disk.faults (meanings_of g.B.Builders.declares g.B.Builders.creates g.B.Builders.makes)
    (g.B.Builders.offers c.args.builders.now) path (g.T.Tree.files c.args.tree.now) c.args.store.now c.open.new.store file tells sound c.open.ensures.opens
    c.in-Ok.ensures.ready.0 c.in-Ok.ensures.ready.2 c.in-Ok.ensures.told c.settle_project.new.store) in
    ran_to_end g.D.Disk.seen g.D.Disk.may_leave g.D.Disk.clock g.D.Disk.left_at g.D.Disk.room g.D.Disk.faults (meanings_of g.B.Builders.declares g.B.Builders.creates g.B.Builders.makes)
    (g.B.Builders.offers c.args.builders.now) path (g.T.Tree.files c.args.tree.now) c.args.store.now c.open.new.store file tells sound c.open.ensures.opens
    c.in-Ok.ensures.ready.0 c.in-Ok.ensures.ready.2 c.in-Ok.ensures.told c.settle_project.new.store
    c.in-Ok.engine.ledger.db c.settle_project.new.engine.ledger.db c.in-Ok.engine.ledger.contents c.settle_project.new.engine.ledger.contents c.args.bench.now c.settle_project.new.bench c.in-Ok-settle_project.others ran
    c.gained-entries.result.now (c.gained-entries.ensures ∙ ap (λ (l : List Entry). drop (length l) c.settle_project.new.bench) c.issued-first.ensures)
    (λ put. TellsAs (g.C.CacheDir.files c.args.cache.now) (g.C.CacheDir.files c.deliver.new.cache) (Overlays put))
    (λ entries others counts. Gains (g.O.Sink.written c.args.out.now) (g.O.Sink.written c.deliver.new.out) (report_lem entries others counts) × (c.ending.result ≡ ending_of others))
    (also_told
    (λ put. TellsAs (g.C.CacheDir.files c.args.cache.now) (g.C.CacheDir.files c.deliver.new.cache) (Overlays put))
    (λ counts. Gains (g.O.Sink.written c.args.out.now) (g.O.Sink.written c.deliver.new.out) (report_lem c.gained-entries.result.now c.in-Ok-settle_project.others counts))
    (c.ending.result ≡ ending_of c.in-Ok-settle_project.others) _
    (c.in-Ok-deliver.ensures.done ((all_committed c.in-Ok.ensures.ready.0 (changes (meanings_of g.B.Builders.declares g.B.Builders.creates g.B.Builders.makes) ran.config ran.scan.winners c.in-Ok.ensures.ready.0.tables)).tables)
    (rows_are g.D.Disk.seen g.D.Disk.may_leave g.D.Disk.clock g.D.Disk.left_at g.D.Disk.room g.D.Disk.faults (meanings_of g.B.Builders.declares g.B.Builders.creates g.B.Builders.makes)
    (g.B.Builders.offers c.args.builders.now) path (g.T.Tree.files c.args.tree.now) c.args.store.now c.open.new.store file tells sound c.open.ensures.opens
    c.in-Ok.ensures.ready.0 c.in-Ok.ensures.ready.2 c.in-Ok.ensures.told c.settle_project.new.store
    c.in-Ok.engine.ledger.db c.settle_project.new.engine.ledger.db c.in-Ok.engine.ledger.contents c.settle_project.new.engine.ledger.contents c.args.bench.now c.settle_project.new.bench c.in-Ok-settle_project.others ran c.tables.result.now c.contents.result.now c.tables.ensures c.contents.ensures)) c.ending.ensures))

pub returns-in-Ok-deliver-clause-stopped : goal.returns-in-Ok-deliver-clause-stopped
returns-in-Ok-deliver-clause-stopped g c = λ path configures.
    where_told (g.D.Disk.seen c.args.store.now.0) _ (λ file tells sound. settled_run g.D.Disk.seen g.D.Disk.may_leave g.D.Disk.clock g.D.Disk.left_at g.D.Disk.room g.D.Disk.faults (meanings_of g.B.Builders.declares g.B.Builders.creates g.B.Builders.makes)
    (g.B.Builders.offers c.args.builders.now) path (g.T.Tree.files c.args.tree.now) c.args.store.now c.open.new.store file tells sound c.open.ensures.opens
    c.in-Ok.ensures.ready.0 c.in-Ok.ensures.ready.2 c.in-Ok.ensures.told c.settle_project.new.store
    c.in-Ok.engine.ledger.db c.settle_project.new.engine.ledger.db c.in-Ok.engine.ledger.contents c.settle_project.new.engine.ledger.contents c.args.bench.now c.settle_project.new.bench c.in-Ok-settle_project.others
    (c.in-Ok-settle_project.ensures.settled path configures c.in-Ok.ensures.ready.0 c.in-Ok.ensures.ready.1 (stored_soundly g.D.Disk.seen g.D.Disk.may_leave g.D.Disk.clock g.D.Disk.left_at g.D.Disk.room g.D.Disk.faults (meanings_of g.B.Builders.declares g.B.Builders.creates g.B.Builders.makes)
    (g.B.Builders.offers c.args.builders.now) path (g.T.Tree.files c.args.tree.now) c.args.store.now c.open.new.store file tells sound c.open.ensures.opens
    c.in-Ok.ensures.ready.0 c.in-Ok.ensures.ready.2 c.in-Ok.ensures.told c.settle_project.new.store)))

pub returns-in-Ok-deliver-clause-sound : goal.returns-in-Ok-deliver-clause-sound
returns-in-Ok-deliver-clause-sound g c = λ path configures.
    where_told (g.D.Disk.seen c.args.store.now.0) _ (λ file tells sound. settled_soundly g.D.Disk.seen g.D.Disk.may_leave g.D.Disk.clock g.D.Disk.left_at g.D.Disk.room g.D.Disk.faults (meanings_of g.B.Builders.declares g.B.Builders.creates g.B.Builders.makes)
    (g.B.Builders.offers c.args.builders.now) path (g.T.Tree.files c.args.tree.now) c.args.store.now c.open.new.store file tells sound c.open.ensures.opens
    c.in-Ok.ensures.ready.0 c.in-Ok.ensures.ready.2 c.in-Ok.ensures.told c.settle_project.new.store
    c.in-Ok.engine.ledger.db c.settle_project.new.engine.ledger.db c.in-Ok.engine.ledger.contents c.settle_project.new.engine.ledger.contents c.args.bench.now c.settle_project.new.bench c.in-Ok-settle_project.others
    (c.in-Ok-settle_project.ensures.settled path configures c.in-Ok.ensures.ready.0 c.in-Ok.ensures.ready.1 (stored_soundly g.D.Disk.seen g.D.Disk.may_leave g.D.Disk.clock g.D.Disk.left_at g.D.Disk.room g.D.Disk.faults (meanings_of g.B.Builders.declares g.B.Builders.creates g.B.Builders.makes)
    (g.B.Builders.offers c.args.builders.now) path (g.T.Tree.files c.args.tree.now) c.args.store.now c.open.new.store file tells sound c.open.ensures.opens
    c.in-Ok.ensures.ready.0 c.in-Ok.ensures.ready.2 c.in-Ok.ensures.told c.settle_project.new.store)))

pub returns-in-Ok-deliver-clause-built_whole : goal.returns-in-Ok-deliver-clause-built_whole
returns-in-Ok-deliver-clause-built_whole g c = λ path configures.
    where_told (g.D.Disk.seen c.args.store.now.0) _ (λ file tells sound. let ran = c.in-Ok-settle_project.ensures.settled path configures c.in-Ok.ensures.ready.0 c.in-Ok.ensures.ready.1 (stored_soundly g.D.Disk.seen g.D.Disk.may_leave g.D.Disk.clock g.D.Disk.left_at g.D.Disk.room g.D.Disk.faults (meanings_of g.B.Builders.declares g.B.Builders.creates g.B.Builders.makes)
    (g.B.Builders.offers c.args.builders.now) path (g.T.Tree.files c.args.tree.now) c.args.store.now c.open.new.store file tells sound c.open.ensures.opens
    c.in-Ok.ensures.ready.0 c.in-Ok.ensures.ready.2 c.in-Ok.ensures.told c.settle_project.new.store) in
    built_at_end g.D.Disk.seen g.D.Disk.may_leave g.D.Disk.clock g.D.Disk.left_at g.D.Disk.room g.D.Disk.faults (meanings_of g.B.Builders.declares g.B.Builders.creates g.B.Builders.makes)
    (g.B.Builders.offers c.args.builders.now) path (g.T.Tree.files c.args.tree.now) c.args.store.now c.open.new.store file tells sound c.open.ensures.opens
    c.in-Ok.ensures.ready.0 c.in-Ok.ensures.ready.2 c.in-Ok.ensures.told c.settle_project.new.store
    c.in-Ok.engine.ledger.db c.settle_project.new.engine.ledger.db c.in-Ok.engine.ledger.contents c.settle_project.new.engine.ledger.contents c.args.bench.now c.settle_project.new.bench c.in-Ok-settle_project.others ran
    (λ put. TellsAs (g.C.CacheDir.files c.args.cache.now) (g.C.CacheDir.files c.deliver.new.cache) (Overlays put))
    (λ counts. Gains (g.O.Sink.written c.args.out.now) (g.O.Sink.written c.deliver.new.out) (report_lem c.gained-entries.result.now c.in-Ok-settle_project.others counts))
    (c.in-Ok-deliver.ensures.done ((all_committed c.in-Ok.ensures.ready.0 (changes (meanings_of g.B.Builders.declares g.B.Builders.creates g.B.Builders.makes) ran.config ran.scan.winners c.in-Ok.ensures.ready.0.tables)).tables)
    (rows_are g.D.Disk.seen g.D.Disk.may_leave g.D.Disk.clock g.D.Disk.left_at g.D.Disk.room g.D.Disk.faults (meanings_of g.B.Builders.declares g.B.Builders.creates g.B.Builders.makes)
    (g.B.Builders.offers c.args.builders.now) path (g.T.Tree.files c.args.tree.now) c.args.store.now c.open.new.store file tells sound c.open.ensures.opens
    c.in-Ok.ensures.ready.0 c.in-Ok.ensures.ready.2 c.in-Ok.ensures.told c.settle_project.new.store
    c.in-Ok.engine.ledger.db c.settle_project.new.engine.ledger.db c.in-Ok.engine.ledger.contents c.settle_project.new.engine.ledger.contents c.args.bench.now c.settle_project.new.bench c.in-Ok-settle_project.others ran c.tables.result.now c.contents.result.now c.tables.ensures c.contents.ensures)))

pub returns-in-Ok-deliver-clause-good_whole : goal.returns-in-Ok-deliver-clause-good_whole
returns-in-Ok-deliver-clause-good_whole g c = each (g.D.Disk.seen c.args.store.now.0) (λ file. stored_in file ≡ Ok c.in-Ok.ensures.ready.0) IsGood c.in-Ok.ensures.ready.2 (λ file is. (c.in-Ok.ensures.ready.0, is))

pub returns-clause-front : goal.returns-clause-front
returns-clause-front g c = λ why path configures.
    where_told (g.D.Disk.seen c.args.store.now.0) _ (λ file tells sound. let ran = c.in-Ok-settle_project.ensures.settled path configures c.in-Ok.ensures.ready.0 c.in-Ok.ensures.ready.1 (stored_soundly g.D.Disk.seen g.D.Disk.may_leave g.D.Disk.clock g.D.Disk.left_at g.D.Disk.room g.D.Disk.faults (meanings_of g.B.Builders.declares g.B.Builders.creates g.B.Builders.makes)
    (g.B.Builders.offers c.args.builders.now) path (g.T.Tree.files c.args.tree.now) c.args.store.now c.open.new.store file tells sound c.open.ensures.opens
    c.in-Ok.ensures.ready.0 c.in-Ok.ensures.ready.2 c.in-Ok.ensures.told c.settle_project.new.store) in
    ran_to_end g.D.Disk.seen g.D.Disk.may_leave g.D.Disk.clock g.D.Disk.left_at g.D.Disk.room g.D.Disk.faults (meanings_of g.B.Builders.declares g.B.Builders.creates g.B.Builders.makes)
    (g.B.Builders.offers c.args.builders.now) path (g.T.Tree.files c.args.tree.now) c.args.store.now c.open.new.store file tells sound c.open.ensures.opens
    c.in-Ok.ensures.ready.0 c.in-Ok.ensures.ready.2 c.in-Ok.ensures.told c.settle_project.new.store
    c.in-Ok.engine.ledger.db c.settle_project.new.engine.ledger.db c.in-Ok.engine.ledger.contents c.settle_project.new.engine.ledger.contents c.args.bench.now c.settle_project.new.bench c.in-Ok-settle_project.others ran
    c.gained-entries.result.now (c.gained-entries.ensures ∙ ap (λ (l : List Entry). drop (length l) c.settle_project.new.bench) c.issued-first.ensures)
    (λ put. TellsAs (g.C.CacheDir.files c.args.cache.now) (g.C.CacheDir.files c.deliver.new.cache) (Overlays put))
    (λ entries others counts. TakesShort (g.O.Sink.room c.args.out.now) (g.O.Sink.written c.args.out.now) (g.O.Sink.written c.deliver.new.out) (report_lem entries others counts))
    (c.in-Err-deliver.ensures.front why ((all_committed c.in-Ok.ensures.ready.0 (changes (meanings_of g.B.Builders.declares g.B.Builders.creates g.B.Builders.makes) ran.config ran.scan.winners c.in-Ok.ensures.ready.0.tables)).tables)
    (rows_are g.D.Disk.seen g.D.Disk.may_leave g.D.Disk.clock g.D.Disk.left_at g.D.Disk.room g.D.Disk.faults (meanings_of g.B.Builders.declares g.B.Builders.creates g.B.Builders.makes)
    (g.B.Builders.offers c.args.builders.now) path (g.T.Tree.files c.args.tree.now) c.args.store.now c.open.new.store file tells sound c.open.ensures.opens
    c.in-Ok.ensures.ready.0 c.in-Ok.ensures.ready.2 c.in-Ok.ensures.told c.settle_project.new.store
    c.in-Ok.engine.ledger.db c.settle_project.new.engine.ledger.db c.in-Ok.engine.ledger.contents c.settle_project.new.engine.ledger.contents c.args.bench.now c.settle_project.new.bench c.in-Ok-settle_project.others ran c.tables.result.now c.contents.result.now c.tables.ensures c.contents.ensures)))

pub returns-clause-partly : goal.returns-clause-partly
returns-clause-partly g c = λ why path configures.
    where_told (g.D.Disk.seen c.args.store.now.0) _ (λ file tells sound. let ran = c.in-Ok-settle_project.ensures.settled path configures c.in-Ok.ensures.ready.0 c.in-Ok.ensures.ready.1 (stored_soundly g.D.Disk.seen g.D.Disk.may_leave g.D.Disk.clock g.D.Disk.left_at g.D.Disk.room g.D.Disk.faults (meanings_of g.B.Builders.declares g.B.Builders.creates g.B.Builders.makes)
    (g.B.Builders.offers c.args.builders.now) path (g.T.Tree.files c.args.tree.now) c.args.store.now c.open.new.store file tells sound c.open.ensures.opens
    c.in-Ok.ensures.ready.0 c.in-Ok.ensures.ready.2 c.in-Ok.ensures.told c.settle_project.new.store) in
    ran_to_end g.D.Disk.seen g.D.Disk.may_leave g.D.Disk.clock g.D.Disk.left_at g.D.Disk.room g.D.Disk.faults (meanings_of g.B.Builders.declares g.B.Builders.creates g.B.Builders.makes)
    (g.B.Builders.offers c.args.builders.now) path (g.T.Tree.files c.args.tree.now) c.args.store.now c.open.new.store file tells sound c.open.ensures.opens
    c.in-Ok.ensures.ready.0 c.in-Ok.ensures.ready.2 c.in-Ok.ensures.told c.settle_project.new.store
    c.in-Ok.engine.ledger.db c.settle_project.new.engine.ledger.db c.in-Ok.engine.ledger.contents c.settle_project.new.engine.ledger.contents c.args.bench.now c.settle_project.new.bench c.in-Ok-settle_project.others ran
    c.gained-entries.result.now (c.gained-entries.ensures ∙ ap (λ (l : List Entry). drop (length l) c.settle_project.new.bench) c.issued-first.ensures)
    (λ put. TellsAs (g.C.CacheDir.files c.args.cache.now) (g.C.CacheDir.files c.deliver.new.cache) (LaidAllButOne put))
    (λ _ _ _. Unit {0})
    (c.in-Err-deliver.ensures.partly why ((all_committed c.in-Ok.ensures.ready.0 (changes (meanings_of g.B.Builders.declares g.B.Builders.creates g.B.Builders.makes) ran.config ran.scan.winners c.in-Ok.ensures.ready.0.tables)).tables)
    (rows_are g.D.Disk.seen g.D.Disk.may_leave g.D.Disk.clock g.D.Disk.left_at g.D.Disk.room g.D.Disk.faults (meanings_of g.B.Builders.declares g.B.Builders.creates g.B.Builders.makes)
    (g.B.Builders.offers c.args.builders.now) path (g.T.Tree.files c.args.tree.now) c.args.store.now c.open.new.store file tells sound c.open.ensures.opens
    c.in-Ok.ensures.ready.0 c.in-Ok.ensures.ready.2 c.in-Ok.ensures.told c.settle_project.new.store
    c.in-Ok.engine.ledger.db c.settle_project.new.engine.ledger.db c.in-Ok.engine.ledger.contents c.settle_project.new.engine.ledger.contents c.args.bench.now c.settle_project.new.bench c.in-Ok-settle_project.others ran c.tables.result.now c.contents.result.now c.tables.ensures c.contents.ensures)))

pub returns-clause-stopped : goal.returns-clause-stopped
returns-clause-stopped g c = λ path configures.
    where_told (g.D.Disk.seen c.args.store.now.0) _ (λ file tells sound. settled_run g.D.Disk.seen g.D.Disk.may_leave g.D.Disk.clock g.D.Disk.left_at g.D.Disk.room g.D.Disk.faults (meanings_of g.B.Builders.declares g.B.Builders.creates g.B.Builders.makes)
    (g.B.Builders.offers c.args.builders.now) path (g.T.Tree.files c.args.tree.now) c.args.store.now c.open.new.store file tells sound c.open.ensures.opens
    c.in-Ok.ensures.ready.0 c.in-Ok.ensures.ready.2 c.in-Ok.ensures.told c.settle_project.new.store
    c.in-Ok.engine.ledger.db c.settle_project.new.engine.ledger.db c.in-Ok.engine.ledger.contents c.settle_project.new.engine.ledger.contents c.args.bench.now c.settle_project.new.bench c.in-Ok-settle_project.others
    (c.in-Ok-settle_project.ensures.settled path configures c.in-Ok.ensures.ready.0 c.in-Ok.ensures.ready.1 (stored_soundly g.D.Disk.seen g.D.Disk.may_leave g.D.Disk.clock g.D.Disk.left_at g.D.Disk.room g.D.Disk.faults (meanings_of g.B.Builders.declares g.B.Builders.creates g.B.Builders.makes)
    (g.B.Builders.offers c.args.builders.now) path (g.T.Tree.files c.args.tree.now) c.args.store.now c.open.new.store file tells sound c.open.ensures.opens
    c.in-Ok.ensures.ready.0 c.in-Ok.ensures.ready.2 c.in-Ok.ensures.told c.settle_project.new.store)))

pub returns-clause-sound : goal.returns-clause-sound
returns-clause-sound g c = λ path configures.
    where_told (g.D.Disk.seen c.args.store.now.0) _ (λ file tells sound. settled_soundly g.D.Disk.seen g.D.Disk.may_leave g.D.Disk.clock g.D.Disk.left_at g.D.Disk.room g.D.Disk.faults (meanings_of g.B.Builders.declares g.B.Builders.creates g.B.Builders.makes)
    (g.B.Builders.offers c.args.builders.now) path (g.T.Tree.files c.args.tree.now) c.args.store.now c.open.new.store file tells sound c.open.ensures.opens
    c.in-Ok.ensures.ready.0 c.in-Ok.ensures.ready.2 c.in-Ok.ensures.told c.settle_project.new.store
    c.in-Ok.engine.ledger.db c.settle_project.new.engine.ledger.db c.in-Ok.engine.ledger.contents c.settle_project.new.engine.ledger.contents c.args.bench.now c.settle_project.new.bench c.in-Ok-settle_project.others
    (c.in-Ok-settle_project.ensures.settled path configures c.in-Ok.ensures.ready.0 c.in-Ok.ensures.ready.1 (stored_soundly g.D.Disk.seen g.D.Disk.may_leave g.D.Disk.clock g.D.Disk.left_at g.D.Disk.room g.D.Disk.faults (meanings_of g.B.Builders.declares g.B.Builders.creates g.B.Builders.makes)
    (g.B.Builders.offers c.args.builders.now) path (g.T.Tree.files c.args.tree.now) c.args.store.now c.open.new.store file tells sound c.open.ensures.opens
    c.in-Ok.ensures.ready.0 c.in-Ok.ensures.ready.2 c.in-Ok.ensures.told c.settle_project.new.store)))

pub returns-clause-unbuilt : goal.returns-clause-unbuilt
returns-clause-unbuilt g c = λ why path configures.
    where_told (g.D.Disk.seen c.args.store.now.0) _ (λ file tells sound. let ran = c.in-Ok-settle_project.ensures.settled path configures c.in-Ok.ensures.ready.0 c.in-Ok.ensures.ready.1 (stored_soundly g.D.Disk.seen g.D.Disk.may_leave g.D.Disk.clock g.D.Disk.left_at g.D.Disk.room g.D.Disk.faults (meanings_of g.B.Builders.declares g.B.Builders.creates g.B.Builders.makes)
    (g.B.Builders.offers c.args.builders.now) path (g.T.Tree.files c.args.tree.now) c.args.store.now c.open.new.store file tells sound c.open.ensures.opens
    c.in-Ok.ensures.ready.0 c.in-Ok.ensures.ready.2 c.in-Ok.ensures.told c.settle_project.new.store) in
    unbuilt_at_end g.D.Disk.seen g.D.Disk.may_leave g.D.Disk.clock g.D.Disk.left_at g.D.Disk.room g.D.Disk.faults (meanings_of g.B.Builders.declares g.B.Builders.creates g.B.Builders.makes)
    (g.B.Builders.offers c.args.builders.now) path (g.T.Tree.files c.args.tree.now) c.args.store.now c.open.new.store file tells sound c.open.ensures.opens
    c.in-Ok.ensures.ready.0 c.in-Ok.ensures.ready.2 c.in-Ok.ensures.told c.settle_project.new.store
    c.in-Ok.engine.ledger.db c.settle_project.new.engine.ledger.db c.in-Ok.engine.ledger.contents c.settle_project.new.engine.ledger.contents c.args.bench.now c.settle_project.new.bench c.in-Ok-settle_project.others ran
    (c.in-Err-deliver.ensures.unbuilt why ((all_committed c.in-Ok.ensures.ready.0 (changes (meanings_of g.B.Builders.declares g.B.Builders.creates g.B.Builders.makes) ran.config ran.scan.winners c.in-Ok.ensures.ready.0.tables)).tables)
    (rows_are g.D.Disk.seen g.D.Disk.may_leave g.D.Disk.clock g.D.Disk.left_at g.D.Disk.room g.D.Disk.faults (meanings_of g.B.Builders.declares g.B.Builders.creates g.B.Builders.makes)
    (g.B.Builders.offers c.args.builders.now) path (g.T.Tree.files c.args.tree.now) c.args.store.now c.open.new.store file tells sound c.open.ensures.opens
    c.in-Ok.ensures.ready.0 c.in-Ok.ensures.ready.2 c.in-Ok.ensures.told c.settle_project.new.store
    c.in-Ok.engine.ledger.db c.settle_project.new.engine.ledger.db c.in-Ok.engine.ledger.contents c.settle_project.new.engine.ledger.contents c.args.bench.now c.settle_project.new.bench c.in-Ok-settle_project.others ran c.tables.result.now c.contents.result.now c.tables.ensures c.contents.ensures)))

pub returns-clause-built : goal.returns-clause-built
returns-clause-built g c = λ why path configures.
    where_told (g.D.Disk.seen c.args.store.now.0) _ (λ file tells sound. let ran = c.in-Ok-settle_project.ensures.settled path configures c.in-Ok.ensures.ready.0 c.in-Ok.ensures.ready.1 (stored_soundly g.D.Disk.seen g.D.Disk.may_leave g.D.Disk.clock g.D.Disk.left_at g.D.Disk.room g.D.Disk.faults (meanings_of g.B.Builders.declares g.B.Builders.creates g.B.Builders.makes)
    (g.B.Builders.offers c.args.builders.now) path (g.T.Tree.files c.args.tree.now) c.args.store.now c.open.new.store file tells sound c.open.ensures.opens
    c.in-Ok.ensures.ready.0 c.in-Ok.ensures.ready.2 c.in-Ok.ensures.told c.settle_project.new.store) in
    ⊎_elim
    (λ cache. built_at_end g.D.Disk.seen g.D.Disk.may_leave g.D.Disk.clock g.D.Disk.left_at g.D.Disk.room g.D.Disk.faults (meanings_of g.B.Builders.declares g.B.Builders.creates g.B.Builders.makes)
    (g.B.Builders.offers c.args.builders.now) path (g.T.Tree.files c.args.tree.now) c.args.store.now c.open.new.store file tells sound c.open.ensures.opens
    c.in-Ok.ensures.ready.0 c.in-Ok.ensures.ready.2 c.in-Ok.ensures.told c.settle_project.new.store
    c.in-Ok.engine.ledger.db c.settle_project.new.engine.ledger.db c.in-Ok.engine.ledger.contents c.settle_project.new.engine.ledger.contents c.args.bench.now c.settle_project.new.bench c.in-Ok-settle_project.others ran
    (λ put. TellsAs (g.C.CacheDir.files c.args.cache.now) (g.C.CacheDir.files c.deliver.new.cache) (LaidAllButOne put))
    (λ _. Unit {0})
    (c.in-Err-deliver.ensures.partly cache ((all_committed c.in-Ok.ensures.ready.0 (changes (meanings_of g.B.Builders.declares g.B.Builders.creates g.B.Builders.makes) ran.config ran.scan.winners c.in-Ok.ensures.ready.0.tables)).tables)
    (rows_are g.D.Disk.seen g.D.Disk.may_leave g.D.Disk.clock g.D.Disk.left_at g.D.Disk.room g.D.Disk.faults (meanings_of g.B.Builders.declares g.B.Builders.creates g.B.Builders.makes)
    (g.B.Builders.offers c.args.builders.now) path (g.T.Tree.files c.args.tree.now) c.args.store.now c.open.new.store file tells sound c.open.ensures.opens
    c.in-Ok.ensures.ready.0 c.in-Ok.ensures.ready.2 c.in-Ok.ensures.told c.settle_project.new.store
    c.in-Ok.engine.ledger.db c.settle_project.new.engine.ledger.db c.in-Ok.engine.ledger.contents c.settle_project.new.engine.ledger.contents c.args.bench.now c.settle_project.new.bench c.in-Ok-settle_project.others ran c.tables.result.now c.contents.result.now c.tables.ensures c.contents.ensures)))
    (λ output. built_at_end g.D.Disk.seen g.D.Disk.may_leave g.D.Disk.clock g.D.Disk.left_at g.D.Disk.room g.D.Disk.faults (meanings_of g.B.Builders.declares g.B.Builders.creates g.B.Builders.makes)
    (g.B.Builders.offers c.args.builders.now) path (g.T.Tree.files c.args.tree.now) c.args.store.now c.open.new.store file tells sound c.open.ensures.opens
    c.in-Ok.ensures.ready.0 c.in-Ok.ensures.ready.2 c.in-Ok.ensures.told c.settle_project.new.store
    c.in-Ok.engine.ledger.db c.settle_project.new.engine.ledger.db c.in-Ok.engine.ledger.contents c.settle_project.new.engine.ledger.contents c.args.bench.now c.settle_project.new.bench c.in-Ok-settle_project.others ran
    (λ put. TellsAs (g.C.CacheDir.files c.args.cache.now) (g.C.CacheDir.files c.deliver.new.cache) (Overlays put))
    (λ counts. TakesShort (g.O.Sink.room c.args.out.now) (g.O.Sink.written c.args.out.now) (g.O.Sink.written c.deliver.new.out) (report_lem c.gained-entries.result.now c.in-Ok-settle_project.others counts))
    (c.in-Err-deliver.ensures.front output ((all_committed c.in-Ok.ensures.ready.0 (changes (meanings_of g.B.Builders.declares g.B.Builders.creates g.B.Builders.makes) ran.config ran.scan.winners c.in-Ok.ensures.ready.0.tables)).tables)
    (rows_are g.D.Disk.seen g.D.Disk.may_leave g.D.Disk.clock g.D.Disk.left_at g.D.Disk.room g.D.Disk.faults (meanings_of g.B.Builders.declares g.B.Builders.creates g.B.Builders.makes)
    (g.B.Builders.offers c.args.builders.now) path (g.T.Tree.files c.args.tree.now) c.args.store.now c.open.new.store file tells sound c.open.ensures.opens
    c.in-Ok.ensures.ready.0 c.in-Ok.ensures.ready.2 c.in-Ok.ensures.told c.settle_project.new.store
    c.in-Ok.engine.ledger.db c.settle_project.new.engine.ledger.db c.in-Ok.engine.ledger.contents c.settle_project.new.engine.ledger.contents c.args.bench.now c.settle_project.new.bench c.in-Ok-settle_project.others ran c.tables.result.now c.contents.result.now c.tables.ensures c.contents.ensures))) why)

pub returns-clause-good : goal.returns-clause-good
returns-clause-good g c = inr (inr (inr (each (g.D.Disk.seen c.args.store.now.0) (λ file. stored_in file ≡ Ok c.in-Ok.ensures.ready.0) IsGood c.in-Ok.ensures.ready.2 (λ file is. (c.in-Ok.ensures.ready.0, is)))))

pub returns-in-Err-settle_project-clause-caused : goal.returns-in-Err-settle_project-clause-caused
returns-in-Err-settle_project-clause-caused g c = λ path configures.
    cause_of_settling (g.B.Builders.offers c.args.builders.now) path (g.T.Tree.files c.args.tree.now) (g.D.Disk.seen c.args.store.now.0) (limit_of (g.D.Disk.room c.args.store.now.0) (g.D.Disk.room c.args.store.now.1)) c.in-Err-settle_project.stop
    (λ l w is. subst (λ (n : ℕ). n < l + w) (c.in-Ok.ensures.limit ∙ c.store_limit-limit.ensures.limit) (c.in-Err-settle_project.ensures.full l w is))
    (λ which count is. c.in-Err-settle_project.ensures.over which count is path configures) c.in-Err-settle_project.ensures.only

pub returns-in-Err-clause-kept : goal.returns-in-Err-clause-kept
returns-in-Err-clause-kept g c = λ some. c.open.ensures.opens

pub returns-in-Err-settle_project-clause-kept : goal.returns-in-Err-settle_project-clause-kept
returns-in-Err-settle_project-clause-kept g c = λ some.
    let same : c.settle_project.new.store ≡ c.open.new.store = kept_as _ c.in-Err-settle_project.stop c.in-Err-settle_project.ensures.only (λ early. (c.in-Err-settle_project.ensures.unasked early).1) some in
    subst (λ store. Opens g.D.Disk.seen g.D.Disk.may_leave g.D.Disk.clock g.D.Disk.left_at g.D.Disk.room g.D.Disk.faults c.args.store.now store (g.D.Disk.may_leave c.args.store.now.0)
    (λ image. IfSome (g.D.Disk.seen c.args.store.now.0) (λ file. IsSameStore file image))) (sym same) c.open.ensures.opens

pub returns-in-Err-settle_project-clause-scanned : goal.returns-in-Err-settle_project-clause-scanned
returns-in-Err-settle_project-clause-scanned g c = c.in-Err-settle_project.ensures.scanned
