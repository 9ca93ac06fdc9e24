use Rattle.std.proofs.Common.{◌+◌, ◌-◌, ◌∙◌, arith}
use Rattle.std.proofs.lemmas.List.{take_rest}
use Rattle.ap_samples.proofs.Places.{before_at, after_at, before_none, after_none}
use Rattle.ap_samples.proofs.words.split_last.Goals as goal

pub returns-then-bytes-end-clause-before : goal.returns-then-bytes-end-clause-before
returns-then-bytes-end-clause-before c =
    before_at c.args.bytes.now c.args.byte (c.loop-end.end - 1) (omega arith) c.if-bytes-end.true (λ i from within. c.loop-end.invariant.later i (omega arith) within)

pub returns-then-bytes-end-clause-behind : goal.returns-then-bytes-end-clause-behind
returns-then-bytes-end-clause-behind c =
    take_rest c.args.bytes.now (c.loop-end.end - 1 + 1)
    ∙ after_at c.args.bytes.now c.args.byte (c.loop-end.end - 1) (omega arith) c.if-bytes-end.true (λ i from within. c.loop-end.invariant.later i (omega arith) within)

pub returns-clause-before : goal.returns-clause-before
returns-clause-before c = before_none c.args.bytes.now c.args.byte (λ i within. c.loop-end.invariant.later i (omega arith) within)

pub returns-clause-behind : goal.returns-clause-behind
returns-clause-behind c = after_none c.args.bytes.now c.args.byte (λ i within. c.loop-end.invariant.later i (omega arith) within)
