use Rattle.std.proofs.Common.{◌∙◌, sym}
use Rattle.ap_samples.proofs.Splitting.{some_bytes, splits_last, splits_at_place}
use Rattle.ap_samples.proofs.lines.first_line.Goals as goal

pub returns-then-end-bytes : goal.returns-then-end-bytes
returns-then-end-bytes c =
    splits_last c.args.bytes.now (some_bytes c.args.bytes.now (sym c.if-is_empty.ensures)) (sym c.place_of-end.ensures.place ∙ c.if-end-bytes.true)

pub returns : goal.returns
returns c =
    splits_at_place c.args.bytes.now c.without_return.result.now c.place_of-end.result c.place_of-end.ensures.place c.place_of-end.ensures.within c.if-end-bytes.false c.without_return.ensures
