use Rattle.std.proofs.Common.{List, length}
use Rattle.ap_scan.specs.declared.results.Winner.{Winner}
use Rattle.ap_db.specs.Stored.{Stored}
use Rattle.ap_engine.specs.Asked.{meanings_of, AreToPut}
use Rattle.ap_engine.proofs.CreationsPut.{ArePut}
use Rattle.ap_engine.proofs.creations.put_each.Given as goal

abbrev pub invariant-loop-rest : goal.invariant-loop-rest
invariant-loop-rest g l =
    let d = g.D.Disk in
    let m = meanings_of g.B.Builders.declares g.B.Builders.creates g.B.Builders.makes in
    (winners : List Winner) (stored : Stored) (asked : List Winner) → AreToPut m l.config winners d.seen d.may_leave d.room l.fn.ledger.db l.fn.ledger.contents l.fn.store stored l.needed asked
    → ArePut m l.config winners d.seen d.may_leave d.clock d.left_at d.room d.faults l.fn.ledger.db l.fn.ledger.contents l.ledger.db l.ledger.contents l.fn.store l.store stored l.fn.bench l.bench asked l.rest

abbrev pub decreases-loop-rest : goal.decreases-loop-rest
decreases-loop-rest g l = length l.rest
