use Rattle.std.proofs.Common.{◌≡◌}
use Rattle.toml.specs.View.{members_view}
use Rattle.ap_config.specs.Configuration.{each_key, put_key, values_of}
use Rattle.ap_config.proofs.shape.read_values.Given as goal

abbrev pub invariant-loop-key : goal.invariant-loop-key
invariant-loop-key l = each_key put_key (members_view l.key-iterator) l.values ≡ values_of (members_view l.table.entries)
