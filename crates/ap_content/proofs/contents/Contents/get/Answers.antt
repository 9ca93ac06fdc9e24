use Rattle.std.proofs.Common.{subst}
use Rattle.ap_content.specs.Entries.{IsTidy}
use Rattle.ap_content.proofs.Tidying.{tidy-from_sound}
use Rattle.ap_content.proofs.contents.Contents.get.Goals as goal

pub returns-in-Some-clause-tidy : goal.returns-in-Some-clause-tidy
returns-in-Some-clause-tidy c = subst IsTidy c.self.view_is (tidy-from_sound c.self.inside.arena c.self.invariant)

pub returns-in-None-clause-tidy : goal.returns-in-None-clause-tidy
returns-in-None-clause-tidy c = subst IsTidy c.self.view_is (tidy-from_sound c.self.inside.arena c.self.invariant)
