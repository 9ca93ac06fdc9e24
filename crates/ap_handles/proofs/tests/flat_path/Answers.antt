use Rattle.std.proofs.Common.{rules}
use Rattle.ap_handles.proofs.Samples.{is_flat_path}
use Rattle.ap_handles.proofs.tests.flat_path.Goals as goal

pub returns : goal.returns
returns c = is_flat_path c.of-path.result (search rules)
