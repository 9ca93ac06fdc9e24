use Rattle.std.proofs.Common.{◌∙◌, refl}
use Rattle.ap_engine.proofs.NeededJobFacts.{view_is}
use Rattle.ap_engine.proofs.processing.input_of.Goals as goal

pub returns-clause-view : goal.returns-clause-view
returns-clause-view c = λ bytes stands.
    view_is c.args.job.now bytes _ c.in_ok-copy.ensures refl c.in_ok-copy-2.ensures c.in_ok-copy-3.ensures c.in_ok-copy-4.ensures c.in_ok-copy-5.ensures
    (c.in_ok-copy_bytes.ensures bytes stands) (c.of.ensures ∙ c.new.ensures.items) (c.of-2.ensures ∙ c.new-2.ensures.items)
