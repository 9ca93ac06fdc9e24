use Rattle.std.proofs.Common.{◌≡◌}
use Rattle.toml.specs.View.{view, members_view}
use Rattle.ap_config.specs.Configuration.{next, each_key, put_folder_key, folder_of_keys, folder_at}
use Rattle.ap_config.proofs.shape.read_folder.Given as goal

abbrev pub invariant-loop-key : goal.invariant-loop-key
invariant-loop-key l = next (each_key put_folder_key (members_view l.key-iterator) l.keys) folder_of_keys ≡ folder_at (view l.value)
