use Rattle.ap_journal.proofs.Places.{first_place}
use Rattle.ap_journal.proofs.journal.nearest.Goals as goal

pub returns-clause-place : goal.returns-clause-place
returns-clause-place c file is = first_place file
