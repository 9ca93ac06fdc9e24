use Rattle.ap_rows.specs.Typed.{TypedRef}
use Rattle.ap_engine.proofs.NextItems.{all_next, all_so_far}
use Rattle.ap_engine.proofs.processing.look_at_refs.Goals as goal

pub loop-row-preserved : goal.loop-row-preserved
loop-row-preserved c = all_next TypedRef c.args.refs.now c.loop-row.row-index c.row-item.result c.loop-row-test.true c.row-item.is (c.as_slice.ensures.path, c.look_at_number.ensures) c.loop-row.invariant

pub returns : goal.returns
returns c = all_so_far TypedRef c.args.refs.now c.loop-row.row-index c.loop-row-test.false c.loop-row.invariant
