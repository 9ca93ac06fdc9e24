use Rattle.std.proofs.Common.{◌∙◌, ap}
use Rattle.ap_engine.specs.Asked.{versions_of}
use Rattle.ap_engine.proofs.AskedJobs.{view_is}
use Rattle.ap_engine.proofs.creations.input_of.Goals as goal

pub returns-clause-view : goal.returns-clause-view
returns-clause-view c = λ bytes stands are.
    view_is c.args.config.now c.args.source.now.path bytes _ (c.of.ensures ∙ c.in_ok-versions.ensures ∙ ap versions_of are) (c.of-2.ensures ∙ c.in_ok-copy_platforms.ensures ∙ c.as_slice.ensures)
    c.in_ok-copy.ensures (c.in_ok-copy_bytes.ensures bytes stands) (c.of-3.ensures ∙ c.new.ensures.items)
