use Rattle.std.proofs.Common.{◌≡◌, length}
use Rattle.toml.specs.View.{view, items_view}
use Rattle.ap_config.specs.Configuration.{each, text_at, texts_at}
use Rattle.ap_config.proofs.Walks.{behind}
use Rattle.ap_config.proofs.shape.read_texts.Given as goal

abbrev pub invariant-loop-rest : goal.invariant-loop-rest
invariant-loop-rest l = behind l.texts.items (each (text_at l.key) (items_view l.rest)) ≡ texts_at l.key (view l.value)

abbrev pub decreases-loop-rest : goal.decreases-loop-rest
decreases-loop-rest l = length l.rest
