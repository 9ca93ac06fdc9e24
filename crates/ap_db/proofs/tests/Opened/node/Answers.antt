use Rattle.ap_db.proofs.Gaining.{db_gained}
use Rattle.ap_db.proofs.tests.Opened.node.Goals as goal

pub invariant_of-self-2 : goal.invariant_of-self-2
invariant_of-self-2 g c =
    let d = g.D.Disk in
    db_gained c.self.inside.contents c.intern_node.new.self c.in_ok-intern_node.field-0 c.args.node.now c.in_ok-intern_node.ensures.gains c.intern_node.ensures.tidy
    d.seen d.may_leave d.room c.self.inside.db c.self.inside.store c.self.invariant
