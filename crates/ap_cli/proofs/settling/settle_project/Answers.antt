use Rattle.std.proofs.Common.{◌≡◌, ℕ, List, [], Contains, sym, subst}
use Rattle.ap_text.specs.declared.seen.Seen.TheVariants.{Bytes}
use Rattle.ap_scan.specs.declared.results.Winner.{Winner}
use Rattle.ap_builder.specs.Paths.{IsShort}
use Rattle.ap_sources.specs.Sources.{sources}
use Rattle.ap_engine.specs.Worlds.{AreQuiet}
use Rattle.ap_engine.specs.Asked.{meanings_of}
use Rattle.ap_engine.proofs.Following.{nothing_given}
use Rattle.ap_cli.specs.Working.{at_once}
use Rattle.ap_cli.proofs.Answered.{engine_unbuilt, engine_only, given_settled, given_halted, given_unbuilt, has_project}
use Rattle.ap_cli.proofs.settling.settle_project.Goals as goal

pub returns-in-Err-clause-halted : goal.returns-in-Err-clause-halted
returns-in-Err-clause-halted g c = λ path configures stored ready sound.
    at_once (nothing_given g.D.Disk.seen g.D.Disk.may_leave g.D.Disk.clock g.D.Disk.left_at g.D.Disk.room g.D.Disk.faults c.args.engine.now.ledger.db c.args.engine.now.ledger.contents c.args.store.now stored ready [])

pub settle-requires-clause-world : goal.settle-requires-clause-world
settle-requires-clause-world g c = (
  c.requires.ready.0,
  c.requires.ready.1,
  subst (λ (winners : List Winner). AreQuiet (meanings_of g.B.Builders.declares g.B.Builders.creates g.B.Builders.makes) c.args.config.now winners) (sym c.into_vec.ensures) c.in-Ok.ensures.quiet,
  subst (λ (winners : List Winner). (winner : Winner) → Contains (sources c.args.config.now winners) winner → (bytes : List ℕ) → winner.seen ≡ Bytes bytes → IsShort bytes) (sym c.into_vec.ensures) c.in-Ok.ensures.short,
)

pub returns-in-Ok-settle-clause-settled : goal.returns-in-Ok-settle-clause-settled
returns-in-Ok-settle-clause-settled g c = λ path configures stored ready sound.
    given_settled (meanings_of g.B.Builders.declares g.B.Builders.creates g.B.Builders.makes) (g.B.Builders.offers c.args.builders.now) path (g.T.Tree.files c.args.tree.now) c.args.config.now c.in-Ok.scan (c.in-Ok.ensures.found path configures) stored c.into_vec.result.items c.into_vec.ensures
    g.D.Disk.seen g.D.Disk.may_leave g.D.Disk.clock g.D.Disk.left_at g.D.Disk.room g.D.Disk.faults c.args.store.now c.settle.new.store
    c.args.engine.now.ledger.db c.settle.new.self.ledger.db c.args.engine.now.ledger.contents c.settle.new.self.ledger.contents c.args.bench.now c.settle.new.bench
    (c.in-Ok-settle.ensures.settled stored ready sound) (c.in-Ok-settle.ensures.asked stored ready sound)

pub returns-in-Err-settle-clause-halted : goal.returns-in-Err-settle-clause-halted
returns-in-Err-settle-clause-halted g c = λ path configures stored ready sound.
    given_halted (meanings_of g.B.Builders.declares g.B.Builders.creates g.B.Builders.makes) (g.B.Builders.offers c.args.builders.now) path (g.T.Tree.files c.args.tree.now) c.args.config.now c.in-Ok.scan (c.in-Ok.ensures.found path configures) stored c.into_vec.result.items c.into_vec.ensures
    g.D.Disk.seen g.D.Disk.may_leave g.D.Disk.clock g.D.Disk.left_at g.D.Disk.room g.D.Disk.faults c.args.store.now c.settle.new.store
    (c.in-Err-settle.ensures.stopped stored ready sound)

pub returns-in-Err-settle-clause-unbuilt : goal.returns-in-Err-settle-clause-unbuilt
returns-in-Err-settle-clause-unbuilt g c = λ why path configures stored ready sound.
    given_unbuilt (meanings_of g.B.Builders.declares g.B.Builders.creates g.B.Builders.makes) (g.B.Builders.offers c.args.builders.now) path (g.T.Tree.files c.args.tree.now) c.args.config.now c.in-Ok.scan (c.in-Ok.ensures.found path configures) stored c.into_vec.result.items c.into_vec.ensures
    (c.in-Err-settle.ensures.unbuilt (engine_unbuilt c.in-Err-settle.fault c.into.result c.into.ensures why) stored ready sound)

pub returns-in-Err-settle-clause-only : goal.returns-in-Err-settle-clause-only
returns-in-Err-settle-clause-only g c = engine_only c.in-Err-settle.fault c.into.result c.into.ensures c.in-Err-settle.ensures.only

pub returns-in-Err-settle-clause-scanned : goal.returns-in-Err-settle-clause-scanned
returns-in-Err-settle-clause-scanned g c = λ l w full path configures.
    has_project (meanings_of g.B.Builders.declares g.B.Builders.creates g.B.Builders.makes) (g.B.Builders.offers c.args.builders.now) path (g.T.Tree.files c.args.tree.now) c.args.config.now c.in-Ok.scan (c.in-Ok.ensures.found path configures)
