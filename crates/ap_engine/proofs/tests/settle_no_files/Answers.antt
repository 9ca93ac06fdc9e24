use Rattle.std.proofs.Common.{Contains, List, sym, subst}
use Rattle.ap_scan.specs.declared.results.Winner.{Winner}
use Rattle.ap_sources.specs.Sources.{sources}
use Rattle.ap_engine.specs.Worlds.{AreQuiet}
use Rattle.ap_engine.proofs.tests.NoFiles.{no_files_are_quiet, no_sources, on_ok_to}
use Rattle.ap_engine.proofs.tests.settle_no_files.Goals as goal

pub settle-requires-clause-world : goal.settle-requires-clause-world
settle-requires-clause-world c =
    let config = c.args.config.now in
    let none = sym c.new.ensures.items in (
      c.requires.ready.0,
      c.requires.ready.1,
      subst (λ (winners : List Winner). AreQuiet _ config winners) none (no_files_are_quiet _ config),
      λ winner has bytes seen. absurd (subst (λ (winners : List Winner). Contains (sources config winners) winner → ⊥) none (no_sources config winner) has),
    )

pub returns : goal.returns
returns c = on_ok_to c.settle.result _ _ c.settle.ensures.settled (λ all stored ready sound. (_, (all stored ready sound).2.ready))
