use Rattle.std.proofs.Common.{sym, subst, inl, inr}
use Rattle.std.specs.Prelude.{Option, IfSome}
use Rattle.std.proofs.lemmas.Result.{IfErr-weaker}
use Rattle.ap_tree.specs.Changes.{TellsAs}
use Rattle.ap_scan.specs.Winners.{Files}
use Rattle.ap_engine.specs.Asked.{meanings_of}
use Rattle.ap_engine.specs.Sound.{IsSound}
use Rattle.ap_cli.specs.Lines.{report_lem}
use Rattle.ap_cli.specs.Output.{TakesShort}
use Rattle.ap_cli.specs.Overlay.{Overlays, LaidAllButOne}
use Rattle.ap_cli.specs.Project.{HasProject}
use Rattle.ap_cli.specs.Run.{Ran, Stopped}
use Rattle.ap_cli.specs.Store.{limit_of}
use Rattle.ap_cli.specs.Unbuilt.{IsUnbuilt}
use Rattle.ap_cli.specs.Working.{Configures}
use Rattle.ap_cli.proofs.Naming.{on_err}
use Rattle.ap_cli.proofs.Refusing.{cause_of_reading}
use Rattle.ap_cli.proofs.batch.batch.Goals as goal

pub returns-in-Err-clause-caused : goal.returns-in-Err-clause-caused
returns-in-Err-clause-caused g c = cause_of_reading (g.B.Builders.offers c.args.builders.now) c.args.path.now (g.T.Tree.files c.args.tree.now) (g.D.Disk.seen c.args.store.now.0) (limit_of (g.D.Disk.room c.args.store.now.0) (g.D.Disk.room c.args.store.now.1))
    c.in-Err.stop c.in-Err.ensures.refused c.in-Err.ensures.only

pub returns-clause-stopped_at : goal.returns-clause-stopped_at
returns-clause-stopped_at g c = on_err c.run_project.result _ (λ stop tree memory configuration.
    subst (λ (told : Option Files). IfSome (g.D.Disk.seen c.args.store.now.0) (λ file. IsSound (meanings_of g.B.Builders.declares g.B.Builders.creates g.B.Builders.makes) file
    → Stopped g.D.Disk.seen g.D.Disk.may_leave g.D.Disk.clock g.D.Disk.left_at g.D.Disk.room g.D.Disk.faults c.args.store.now c.run_project.new.store (meanings_of g.B.Builders.declares g.B.Builders.creates g.B.Builders.makes)
    (g.B.Builders.offers c.args.builders.now) c.args.path.now told file)) c.read_config.ensures.same
    (c.run_project.ensures.stopped c.args.path.now (subst (λ (told : Option Files). Configures (g.B.Builders.offers c.args.builders.now) c.args.path.now told c.in-Ok.config) (sym c.read_config.ensures.same) c.in-Ok.ensures.configured)))

pub returns-clause-kept : goal.returns-clause-kept
returns-clause-kept g c = IfErr-weaker c.run_project.result _ _ (λ stop given some. given (inr some)) c.run_project.ensures.kept

pub returns-clause-kept_early : goal.returns-clause-kept_early
returns-clause-kept_early g c = IfErr-weaker c.run_project.result _ _ (λ stop given tree. inr (given (inl tree))) c.run_project.ensures.kept

pub returns-clause-scanned : goal.returns-clause-scanned
returns-clause-scanned g c = IfErr-weaker c.run_project.result _ _ (λ stop given l w full.
    subst (λ (told : Option Files). IfSome told (HasProject (g.B.Builders.offers c.args.builders.now) c.args.path.now)) c.read_config.ensures.same
    (given l w full c.args.path.now (subst (λ (told : Option Files). Configures (g.B.Builders.offers c.args.builders.now) c.args.path.now told c.in-Ok.config) (sym c.read_config.ensures.same) c.in-Ok.ensures.configured)))
    c.run_project.ensures.scanned

pub returns-clause-front : goal.returns-clause-front
returns-clause-front g c = IfErr-weaker c.run_project.result _ _ (λ stop given why.
    subst (λ (told : Option Files). IfSome (g.D.Disk.seen c.args.store.now.0) (λ file. IsSound (meanings_of g.B.Builders.declares g.B.Builders.creates g.B.Builders.makes) file → IfSome told (λ files. Ran g.D.Disk.seen g.D.Disk.may_leave g.D.Disk.clock g.D.Disk.left_at g.D.Disk.room g.D.Disk.faults c.args.store.now c.run_project.new.store (meanings_of g.B.Builders.declares g.B.Builders.creates g.B.Builders.makes) (g.B.Builders.offers c.args.builders.now) c.args.path.now c.args.bench.now c.run_project.new.bench
    (λ put. TellsAs (g.C.CacheDir.files c.args.cache.now) (g.C.CacheDir.files c.run_project.new.cache) (Overlays put))
    (λ entries others counts. TakesShort (g.O.Sink.room c.args.out.now) (g.O.Sink.written c.args.out.now) (g.O.Sink.written c.run_project.new.out) (report_lem entries others counts)) files file)))
    c.read_config.ensures.same (given why c.args.path.now (subst (λ (told : Option Files). Configures (g.B.Builders.offers c.args.builders.now) c.args.path.now told c.in-Ok.config) (sym c.read_config.ensures.same) c.in-Ok.ensures.configured)))
    c.run_project.ensures.front

pub returns-clause-partly : goal.returns-clause-partly
returns-clause-partly g c = IfErr-weaker c.run_project.result _ _ (λ stop given why.
    subst (λ (told : Option Files). IfSome (g.D.Disk.seen c.args.store.now.0) (λ file. IsSound (meanings_of g.B.Builders.declares g.B.Builders.creates g.B.Builders.makes) file → IfSome told (λ files. Ran g.D.Disk.seen g.D.Disk.may_leave g.D.Disk.clock g.D.Disk.left_at g.D.Disk.room g.D.Disk.faults c.args.store.now c.run_project.new.store (meanings_of g.B.Builders.declares g.B.Builders.creates g.B.Builders.makes) (g.B.Builders.offers c.args.builders.now) c.args.path.now c.args.bench.now c.run_project.new.bench
    (λ put. TellsAs (g.C.CacheDir.files c.args.cache.now) (g.C.CacheDir.files c.run_project.new.cache) (LaidAllButOne put))
    (λ _ _ _. Unit {0}) files file)))
    c.read_config.ensures.same (given why c.args.path.now (subst (λ (told : Option Files). Configures (g.B.Builders.offers c.args.builders.now) c.args.path.now told c.in-Ok.config) (sym c.read_config.ensures.same) c.in-Ok.ensures.configured)))
    c.run_project.ensures.partly

pub returns-clause-unbuilt : goal.returns-clause-unbuilt
returns-clause-unbuilt g c = IfErr-weaker c.run_project.result _ _ (λ stop given why.
    subst (λ (told : Option Files). IfSome (g.D.Disk.seen c.args.store.now.0) (λ file. IsSound (meanings_of g.B.Builders.declares g.B.Builders.creates g.B.Builders.makes) file → IfSome told (IsUnbuilt (meanings_of g.B.Builders.declares g.B.Builders.creates g.B.Builders.makes) (g.B.Builders.offers c.args.builders.now) c.args.path.now)))
    c.read_config.ensures.same (given why c.args.path.now (subst (λ (told : Option Files). Configures (g.B.Builders.offers c.args.builders.now) c.args.path.now told c.in-Ok.config) (sym c.read_config.ensures.same) c.in-Ok.ensures.configured)))
    c.run_project.ensures.unbuilt

pub returns-clause-built : goal.returns-clause-built
returns-clause-built g c = IfErr-weaker c.run_project.result _ _ (λ stop given why.
    subst (λ (told : Option Files). IfSome (g.D.Disk.seen c.args.store.now.0) (λ file. IsSound (meanings_of g.B.Builders.declares g.B.Builders.creates g.B.Builders.makes) file → IfSome told (λ files. ¬ IsUnbuilt (meanings_of g.B.Builders.declares g.B.Builders.creates g.B.Builders.makes) (g.B.Builders.offers c.args.builders.now) c.args.path.now files)))
    c.read_config.ensures.same (given why c.args.path.now (subst (λ (told : Option Files). Configures (g.B.Builders.offers c.args.builders.now) c.args.path.now told c.in-Ok.config) (sym c.read_config.ensures.same) c.in-Ok.ensures.configured)))
    c.run_project.ensures.built
