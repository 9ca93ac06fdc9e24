use Rattle.std.proofs.Common.{◌≡◌, length}
use Rattle.toml.specs.View.{view, items_view}
use Rattle.ap_config.specs.Configuration.{each, folder_at, list_at}
use Rattle.ap_config.proofs.Walks.{behind}
use Rattle.ap_config.proofs.shape.read_folders.Given as goal

abbrev pub invariant-loop-rest : goal.invariant-loop-rest
invariant-loop-rest l = behind l.folders.items (each folder_at (items_view l.rest)) ≡ list_at l.key folder_at (view l.value)

abbrev pub decreases-loop-rest : goal.decreases-loop-rest
decreases-loop-rest l = length l.rest
