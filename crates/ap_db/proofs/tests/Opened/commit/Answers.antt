use Rattle.std.proofs.Common.{rules, ◌≡◌, true}
use Rattle.ap_db.proofs.tests.Opened.commit.Goals as goal

pub commit-requires : goal.commit-requires
commit-requires g c =
    let is = c.self.invariant in
    let lawful : c.lawful.result ≡ true = search rules in
    let plain = (c.lawful.ensures is.stored is.stands).sound lawful in
    (is, plain.0, (plain.1, plain.2))
