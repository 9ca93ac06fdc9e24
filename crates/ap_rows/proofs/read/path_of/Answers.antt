use Rattle.ap_text.proofs.Deciding.{path-Decides, refused, broken}
use Rattle.ap_rows.proofs.read.path_of.Goals as goal

pub returns-in-Ok-clause-read : goal.returns-in-Ok-clause-read
returns-in-Ok-clause-read c = (c.in-Ok.ensures.0, (path-Decides c.args.bytes.now).1 c.in-Ok.ensures.1)

pub returns-in_default-clause-outside : goal.returns-in_default-clause-outside
returns-in_default-clause-outside c = λ _. refused _ (path-Decides c.args.bytes.now) (broken c.args.bytes.now c.in-Err.fault c.in-Err.ensures c.in_default.not-OutOfMemory)
