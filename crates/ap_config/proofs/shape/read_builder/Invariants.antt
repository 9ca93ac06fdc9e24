use Rattle.std.proofs.Common.{◌≡◌}
use Rattle.toml.specs.View.{view, members_view}
use Rattle.ap_config.specs.Configuration.{next, each_key, put_builder_key, builder_of_keys, builder_at}
use Rattle.ap_config.proofs.shape.read_builder.Given as goal

abbrev pub invariant-loop-key : goal.invariant-loop-key
invariant-loop-key l = next (each_key put_builder_key (members_view l.key-iterator) l.keys) builder_of_keys ≡ builder_at (view l.value)
