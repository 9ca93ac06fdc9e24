use Rattle.ap_disk.proofs.Tearing.{torn_at}
use Rattle.ap_disk.proofs.file_bytes.tear_into.Goals as goal

pub returns-clause-file : goal.returns-clause-file
returns-clause-file c =
    rw c.fill_range.ensures.range
    (torn_at c.args.room.now c.args.len c.args.at c.args.count c.args.fill c.min.result c.max.result c.requires.within c.requires.room c.min.ensures c.max.ensures)
