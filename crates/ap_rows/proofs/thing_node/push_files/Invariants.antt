use Rattle.std.proofs.Common.{◌≡◌, ◌++◌, take}
use Rattle.std.specs.List.{flat_map}
use Rattle.ap_rows.specs.InputNodes.{file_kids}
use Rattle.ap_rows.proofs.thing_node.push_files.Given as goal

-- the kids of the files so far are there
abbrev pub invariant-loop-file : goal.invariant-loop-file
invariant-loop-file l = l.kids.items ≡ l.fn.kids.items ++ flat_map file_kids (take l.file-index l.files)
