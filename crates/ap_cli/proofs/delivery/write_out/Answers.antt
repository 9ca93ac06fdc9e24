use Rattle.ap_cli.proofs.Apart.{distinct_paths}
use Rattle.ap_cli.proofs.delivery.write_out.Goals as goal

pub write_all-requires : goal.write_all-requires
write_all-requires g c = distinct_paths c.args.files.now (c.in_ok-are_apart.ensures.apart c.if-not-branch.false)
