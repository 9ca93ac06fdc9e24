use Rattle.std.proofs.Common.{inl, inr, ⊎_elim}
use Rattle.std.proofs.lemmas.Result.{IfErr-weaker, IfOk-weaker, on_ok_weaker}
use Rattle.ap_cli.specs.Store.{limit_of}
use Rattle.ap_cli.proofs.Naming.{named, named_alone, configured_by, caused_for, on_ok, on_err}
use Rattle.ap_cli.proofs.top.run_batch.Goals as goal

pub returns-clause-done : goal.returns-clause-done
returns-clause-done g c = IfOk-weaker c.batch.result _ _
    (λ ending given. named c.args.words.now c.in-Ok.path c.in-Ok.ensures.batch (g.T.Tree.files c.args.tree.now) (g.D.Disk.seen c.args.store.now.0) _ _ given)
    c.batch.ensures.done

pub returns-clause-front : goal.returns-clause-front
returns-clause-front g c = IfErr-weaker c.batch.result _ _
    (λ stop given why. named c.args.words.now c.in-Ok.path c.in-Ok.ensures.batch (g.T.Tree.files c.args.tree.now) (g.D.Disk.seen c.args.store.now.0) _ _ (given why))
    c.batch.ensures.front

pub returns-clause-partly : goal.returns-clause-partly
returns-clause-partly g c = IfErr-weaker c.batch.result _ _
    (λ stop given why. named c.args.words.now c.in-Ok.path c.in-Ok.ensures.batch (g.T.Tree.files c.args.tree.now) (g.D.Disk.seen c.args.store.now.0) _ _ (given why))
    c.batch.ensures.partly

pub returns-clause-unbuilt : goal.returns-clause-unbuilt
returns-clause-unbuilt g c = IfErr-weaker c.batch.result _ _
    (λ stop given why. named c.args.words.now c.in-Ok.path c.in-Ok.ensures.batch (g.T.Tree.files c.args.tree.now) (g.D.Disk.seen c.args.store.now.0) _ _ (given why))
    c.batch.ensures.unbuilt

pub returns-clause-built : goal.returns-clause-built
returns-clause-built g c = IfErr-weaker c.batch.result _ _
    (λ stop given why. named c.args.words.now c.in-Ok.path c.in-Ok.ensures.batch (g.T.Tree.files c.args.tree.now) (g.D.Disk.seen c.args.store.now.0) _ _ (given why))
    c.batch.ensures.built

pub returns-clause-built_whole : goal.returns-clause-built_whole
returns-clause-built_whole g c = on_ok_weaker c.batch.result
    (λ given. named c.args.words.now c.in-Ok.path c.in-Ok.ensures.batch (g.T.Tree.files c.args.tree.now) (g.D.Disk.seen c.args.store.now.0) _ _ given)
    c.batch.ensures.built_whole

pub returns-clause-stopped : goal.returns-clause-stopped
returns-clause-stopped g c = ⊎_elim inl (λ given. inr (named_alone c.args.words.now c.in-Ok.path c.in-Ok.ensures.batch (g.T.Tree.files c.args.tree.now) (g.D.Disk.seen c.args.store.now.0) _ _ given)) c.batch.ensures.stopped

pub returns-clause-stopped_whole : goal.returns-clause-stopped_whole
returns-clause-stopped_whole g c = on_ok_weaker c.batch.result
    (λ given. named_alone c.args.words.now c.in-Ok.path c.in-Ok.ensures.batch (g.T.Tree.files c.args.tree.now) (g.D.Disk.seen c.args.store.now.0) _ _ given)
    c.batch.ensures.stopped_whole

pub returns-clause-stopped_at : goal.returns-clause-stopped_at
returns-clause-stopped_at g c = IfErr-weaker c.batch.result _ _
    (λ stop given usage tree memory configuration. named_alone c.args.words.now c.in-Ok.path c.in-Ok.ensures.batch (g.T.Tree.files c.args.tree.now) (g.D.Disk.seen c.args.store.now.0) _ _ (given tree memory configuration))
    c.batch.ensures.stopped_at

pub returns-clause-batch : goal.returns-clause-batch
returns-clause-batch g c = on_err c.batch.result _ (λ stop usage memory. (c.in-Ok.path, c.in-Ok.ensures.batch))

pub returns-clause-batch_whole : goal.returns-clause-batch_whole
returns-clause-batch_whole g c = on_ok c.batch.result _ (c.in-Ok.path, c.in-Ok.ensures.batch)

pub returns-clause-configured : goal.returns-clause-configured
returns-clause-configured g c = IfErr-weaker c.batch.result _ _
    (λ stop given. inr (⊎_elim inl (λ later. inr (⊎_elim inl (λ last. inr (⊎_elim inl (λ found. inr (configured_by c.args.words.now c.in-Ok.path c.in-Ok.ensures.batch (g.T.Tree.files c.args.tree.now) (g.B.Builders.offers c.args.builders.now) found.0 found.1)) last)) later)) given))
    c.batch.ensures.configured

pub returns-clause-configured_whole : goal.returns-clause-configured_whole
returns-clause-configured_whole g c = on_ok_weaker c.batch.result
    (λ given. configured_by c.args.words.now c.in-Ok.path c.in-Ok.ensures.batch (g.T.Tree.files c.args.tree.now) (g.B.Builders.offers c.args.builders.now) given.0 given.1)
    c.batch.ensures.configured_whole

pub returns-clause-scanned : goal.returns-clause-scanned
returns-clause-scanned g c = IfErr-weaker c.batch.result _ _
    (λ stop given l w full. (c.in-Ok.path, c.in-Ok.ensures.batch, given l w full))
    c.batch.ensures.scanned

pub returns-clause-good : goal.returns-clause-good
returns-clause-good g c = IfErr-weaker c.batch.result _ _
    (λ stop given. inr given)
    c.batch.ensures.good

pub returns-clause-caused : goal.returns-clause-caused
returns-clause-caused g c = IfErr-weaker c.batch.result _ _
    (λ stop given. caused_for c.args.words.now c.in-Ok.path c.in-Ok.ensures.batch (g.T.Tree.files c.args.tree.now) (g.B.Builders.offers c.args.builders.now) (g.D.Disk.seen c.args.store.now.0) (limit_of (g.D.Disk.room c.args.store.now.0) (g.D.Disk.room c.args.store.now.1)) stop given)
    c.batch.ensures.caused
