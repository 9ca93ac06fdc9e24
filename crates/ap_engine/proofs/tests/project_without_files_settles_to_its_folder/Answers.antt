use Rattle.ap_db.specs.Stored.{nothing_stored}
use Rattle.ap_engine.proofs.tests.NoFiles.{nothing_is_sound}
use Rattle.ap_engine.proofs.tests.project_without_files_settles_to_its_folder.Goals as goal

pub settle_no_files-requires-2-clause-ready : goal.settle_no_files-requires-2-clause-ready
settle_no_files-requires-2-clause-ready g c = c.in_ok-settle_no_files.ensures nothing_stored c.in_ok-engine.ensures (nothing_is_sound _)
