use Rattle.ap_rows.proofs.Lengths.{kids-count, folders-count}
use Rattle.ap_rows.proofs.encoding.ItemSpell.write.Goals as goal

pub write_define-requires-clause-kids : goal.write_define-requires-clause-kids
write_define-requires-clause-kids c = rw c.as_slice-in-Define.ensures (kids-count c.in-Define.tag c.in-Define.text c.in-Define.kids (rw c.in-Define.is at c.requires))

pub write_list-requires-clause-count : goal.write_list-requires-clause-count
write_list-requires-clause-count c = rw c.as_slice-in-PutFolders.ensures (folders-count c.in-PutFolders.rows (rw c.in-PutFolders.is at c.requires))
