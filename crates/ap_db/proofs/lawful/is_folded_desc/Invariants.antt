use Rattle.std.proofs.Common.{◌≡◌, length}
use Rattle.std.specs.List.{list_all}
use Rattle.ap_rows.specs.Folded.{is_folded_dependency, is_folded_desc}
use Rattle.ap_db.proofs.lawful.is_folded_desc.Given as goal

abbrev pub invariant-loop-rest : goal.invariant-loop-rest
invariant-loop-rest l = is_folded_desc l.desc ≡ list_all is_folded_dependency l.rest

abbrev pub decreases-loop-rest : goal.decreases-loop-rest
decreases-loop-rest l = length l.rest
