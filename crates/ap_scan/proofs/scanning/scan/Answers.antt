use Rattle.std.proofs.Common.{List, subst, rules}
use Rattle.std.specs.Prelude.{IfSome}
use Rattle.ap_config.specs.declared.config.Folder.{Folder}
use Rattle.ap_scan.specs.Candidates.{candidates_of, odds_of, SameMembers}
use Rattle.ap_scan.proofs.Scanned.{Ordered, scans-ok, scans-many, scans-fault, lawful, lawful-winners}
use Rattle.ap_scan.proofs.scanning.scan.Goals as goal

pub returns-in-Err-check_number-clause-scan : goal.returns-in-Err-check_number-clause-scan
returns-in-Err-check_number-clause-scan g c =
    scans-many c.args.config.now c.requires c.in-Ok.listing.candidates.items c.put_in_order.new.candidates.items c.in-Ok-split.split.0.items
    (record { rise = c.put_in_order.ensures.rises; only = c.put_in_order.ensures.only; all = c.put_in_order.ensures.all }) c.in-Ok-split.ensures.firsts
    (g.T.Tree.files c.args.tree.now)
    (subst (λ (l : List Folder). IfSome (g.T.Tree.files c.args.tree.now) (λ files. SameMembers (candidates_of files l) c.in-Ok.listing.candidates.items)) c.as_slice.ensures c.in-Ok.ensures.candidates)
    c.len.result c.in-Err-check_number.fault (search rules) c.in-Err-check_number.ensures.many.0 c.in-Err-check_number.ensures.many.1

pub returns-in-Err-read_all-clause-scan : goal.returns-in-Err-read_all-clause-scan
returns-in-Err-read_all-clause-scan g c =
    scans-fault c.args.config.now c.requires c.in-Ok.listing.candidates.items c.put_in_order.new.candidates.items c.in-Ok-split.split.0.items
    (record { rise = c.put_in_order.ensures.rises; only = c.put_in_order.ensures.only; all = c.put_in_order.ensures.all }) c.in-Ok-split.ensures.firsts
    (g.T.Tree.files c.args.tree.now) (g.T.Tree.files c.list_all.new.tree) c.in-Ok.ensures.same
    (subst (λ (l : List Folder). IfSome (g.T.Tree.files c.args.tree.now) (λ files. SameMembers (candidates_of files l) c.in-Ok.listing.candidates.items)) c.as_slice.ensures c.in-Ok.ensures.candidates)
    (search rules) c.in-Err-read_all.fault c.in-Err-read_all.ensures.passed c.in-Err-read_all.ensures.limit

pub returns-clause-scan : goal.returns-clause-scan
returns-clause-scan g c =
    scans-ok c.args.config.now c.requires c.in-Ok.listing.candidates.items c.put_in_order.new.candidates.items c.in-Ok-split.split.0.items
    (record { rise = c.put_in_order.ensures.rises; only = c.put_in_order.ensures.only; all = c.put_in_order.ensures.all }) c.in-Ok-split.ensures.firsts
    (g.T.Tree.files c.args.tree.now) (g.T.Tree.files c.list_all.new.tree) c.in-Ok.ensures.same
    (subst (λ (l : List Folder). IfSome (g.T.Tree.files c.args.tree.now) (λ files. SameMembers (candidates_of files l) c.in-Ok.listing.candidates.items)) c.as_slice.ensures c.in-Ok.ensures.candidates)
    c.in-Ok-read_all.winners.items c.of.result c.of.ensures c.in-Ok-read_all.ensures.read
    c.in-Ok-split.split.1.items c.of-2.result c.of-2.ensures c.in-Ok-split.ensures.others
    c.in-Ok.listing.odd.items c.put_odd_in_order.new.odd.items c.of-3.result c.of-3.ensures
    (subst (λ (l : List Folder). IfSome (g.T.Tree.files c.args.tree.now) (λ files. SameMembers (odds_of files l) c.in-Ok.listing.odd.items)) c.as_slice.ensures c.in-Ok.ensures.odd)
    c.put_odd_in_order.ensures.rises c.put_odd_in_order.ensures.same

pub returns-clause-lawful : goal.returns-clause-lawful
returns-clause-lawful g c =
    let ordered : Ordered c.in-Ok.listing.candidates.items c.put_in_order.new.candidates.items = record { rise = c.put_in_order.ensures.rises; only = c.put_in_order.ensures.only; all = c.put_in_order.ensures.all } in
    lawful c.args.config.now c.requires c.in-Ok.listing.candidates.items c.put_in_order.new.candidates.items c.in-Ok-split.split.0.items ordered c.in-Ok-split.ensures.firsts
    c.in-Ok-read_all.winners.items c.of.result c.of.ensures
    (lawful-winners c.args.config.now c.requires c.in-Ok.listing.candidates.items c.put_in_order.new.candidates.items c.in-Ok-split.split.0.items ordered c.in-Ok-split.ensures.firsts
    c.in-Ok.ensures.folded (search rules) c.in-Ok-read_all.winners.items
    c.in-Ok-read_all.ensures.rises c.in-Ok-read_all.ensures.there c.in-Ok-read_all.ensures.fewer c.in-Ok-read_all.ensures.small)
    c.in-Ok.ensures.folded
    c.in-Ok-split.split.1.items c.of-2.result c.of-2.ensures c.in-Ok-split.ensures.others
    c.put_odd_in_order.new.odd.items c.of-3.result c.of-3.ensures c.put_odd_in_order.ensures.rises
