use Rattle.std.proofs.Common.{◌≡◌, ◌<◌, ◌≤◌, length, rules}
use Rattle.ap_tree.specs.Slots.{slot_of}
use Rattle.ap_tree.proofs.Replaced.{dropped, unchanged}
use Rattle.ap_tree.proofs.edits.drop_file.Goals as goal

pub returns-then-at-len-clause-puts : goal.returns-then-at-len-clause-puts
returns-then-at-len-clause-puts c =
    let is_at : c.slot-at.result ≡ slot_of c.args.files.now.items c.args.path.now = rw (← c.deref.ensures.value) c.slot-at.ensures.place in
    let lt : c.slot-at.result < length c.args.files.now.items = search rules in
    rw c.remove.ensures.items (dropped c.args.files.now.items c.args.path.now c.slot-at.result is_at lt c.requires).puts

pub returns-then-at-len-clause-distinct : goal.returns-then-at-len-clause-distinct
returns-then-at-len-clause-distinct c =
    let is_at : c.slot-at.result ≡ slot_of c.args.files.now.items c.args.path.now = rw (← c.deref.ensures.value) c.slot-at.ensures.place in
    let lt : c.slot-at.result < length c.args.files.now.items = search rules in
    rw c.remove.ensures.items (dropped c.args.files.now.items c.args.path.now c.slot-at.result is_at lt c.requires).distinct

pub returns-else-at-len-clause-puts : goal.returns-else-at-len-clause-puts
returns-else-at-len-clause-puts c =
    let is_at : c.slot-at.result ≡ slot_of c.args.files.now.items c.args.path.now = rw (← c.deref.ensures.value) c.slot-at.ensures.place in
    let le : length c.args.files.now.items ≤ c.slot-at.result = search rules in
    unchanged c.args.files.now.items c.args.path.now c.slot-at.result is_at le
