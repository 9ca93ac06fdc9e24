use Rattle.ap_content.proofs.Tidying.{tidy-from_sound}
use Rattle.ap_content.proofs.contents.Contents.new.Goals as goal

pub returns-clause-tidy : goal.returns-clause-tidy
returns-clause-tidy c = tidy-from_sound c.new.result c.new.ensures.sound
