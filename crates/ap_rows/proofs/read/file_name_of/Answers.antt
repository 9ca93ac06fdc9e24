use Rattle.ap_text.proofs.Deciding.{file_name-Decides, refused}
use Rattle.ap_rows.proofs.read.file_name_of.Goals as goal

pub returns-in-Ok-clause-read : goal.returns-in-Ok-clause-read
returns-in-Ok-clause-read c = (c.in-Ok.ensures.0, (file_name-Decides c.args.bytes.now).1 c.in-Ok.ensures.1)

pub returns-in-Err-Bad-clause-outside : goal.returns-in-Err-Bad-clause-outside
returns-in-Err-Bad-clause-outside c = λ _. refused _ (file_name-Decides c.args.bytes.now) (rw c.in-Err-Bad.field-0-is at c.in-Err-Bad.ensures)
