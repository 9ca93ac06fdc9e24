use Rattle.std.proofs.Common.{length}
use Rattle.ap_engine.specs.Asked.{meanings_of}
use Rattle.ap_cli.specs.Unbuilt.{IsTargeted}
use Rattle.ap_cli.proofs.declaring.has_targets.Given as goal

abbrev pub invariant-loop-rest : goal.invariant-loop-rest
invariant-loop-rest g l = record {
  of_rest : IsTargeted (meanings_of g.B.Builders.declares g.B.Builders.creates g.B.Builders.makes) l.config l.rest → IsTargeted (meanings_of g.B.Builders.declares g.B.Builders.creates g.B.Builders.makes) l.config l.winners;
  in_rest : IsTargeted (meanings_of g.B.Builders.declares g.B.Builders.creates g.B.Builders.makes) l.config l.winners → IsTargeted (meanings_of g.B.Builders.declares g.B.Builders.creates g.B.Builders.makes) l.config l.rest;
}

abbrev pub decreases-loop-rest : goal.decreases-loop-rest
decreases-loop-rest g l = length l.rest
