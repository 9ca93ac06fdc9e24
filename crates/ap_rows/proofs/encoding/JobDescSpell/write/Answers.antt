use Rattle.std.proofs.Common.{◌++◌}
use Rattle.ap_rows.specs.Fields.{run_field}
use Rattle.ap_rows.specs.Spelling.{terms_field}
use Rattle.ap_rows.proofs.Lengths.{deps-count}
use Rattle.ap_rows.proofs.encoding.JobDescSpell.write.Goals as goal

pub write_list-requires-clause-count : goal.write_list-requires-clause-count
write_list-requires-clause-count c =
    let job = c.args.self.now in
    rw c.as_slice-2.ensures (deps-count (terms_field job ++ run_field 4 job.params) job.deps c.requires)
