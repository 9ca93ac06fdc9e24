use Rattle.ap_rows.proofs.Lengths.{jobs-count, jobs-fit}
use Rattle.ap_rows.proofs.encoding.write_created.Goals as goal

pub write_list-requires-clause-count : goal.write_list-requires-clause-count
write_list-requires-clause-count c = rw c.as_slice.ensures (jobs-count c.in-Jobs.jobs (rw c.in-Jobs.is at c.requires))

pub write_list-requires-clause-fits : goal.write_list-requires-clause-fits
write_list-requires-clause-fits c = rw c.as_slice.ensures (jobs-fit c.in-Jobs.jobs (rw c.in-Jobs.is at c.requires))
