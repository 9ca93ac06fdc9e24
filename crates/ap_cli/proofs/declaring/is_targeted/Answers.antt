use Rattle.ap_engine.specs.Asked.{meanings_of}
use Rattle.ap_cli.proofs.Targeting.{targeted_where_true, untargeted_where_false}
use Rattle.ap_cli.proofs.declaring.is_targeted.Goals as goal

pub returns-in-Bytes-clause-some : goal.returns-in-Bytes-clause-some
returns-in-Bytes-clause-some g c =
    targeted_where_true (meanings_of g.B.Builders.declares g.B.Builders.creates g.B.Builders.makes) c.args.config.now c.args.winner.now c.in-Bytes.bytes c.in-Bytes.is
    c.some_declares.result c.as_slice.result.now c.as_slice-in-Bytes.result.now c.as_slice.ensures c.as_slice-in-Bytes.ensures c.some_declares.ensures

pub returns-in-Bytes-clause-none : goal.returns-in-Bytes-clause-none
returns-in-Bytes-clause-none g c =
    untargeted_where_false (meanings_of g.B.Builders.declares g.B.Builders.creates g.B.Builders.makes) c.args.config.now c.args.winner.now c.in-Bytes.bytes c.in-Bytes.is
    c.some_declares.result c.as_slice.result.now c.as_slice-in-Bytes.result.now c.as_slice.ensures c.as_slice-in-Bytes.ensures c.some_declares.ensures
