use Rattle.std.proofs.Common.{◌≡◌, length}
use Rattle.ap_tree.specs.Files.{content_at}
use Rattle.ap_tree.proofs.lookup.find_content.Given as goal

abbrev pub invariant-loop-rest : goal.invariant-loop-rest
invariant-loop-rest l = content_at l.rest l.path ≡ content_at l.files l.path

abbrev pub decreases-loop-rest : goal.decreases-loop-rest
decreases-loop-rest l = length l.rest
