use Rattle.std.proofs.Common.{◌∙◌, ap, subst}
use Rattle.ap_rows.specs.declared.row.Tables.{Tables}
use Rattle.ap_db.specs.Stored.{and_no_thing}
use Rattle.ap_db.specs.States.{StandsFor}
use Rattle.ap_db.proofs.Dropping.{is_dropped, unnamed_number, has_node}
use Rattle.ap_db.proofs.Rooms.{fills_none, names_fewer}
use Rattle.ap_db.proofs.state.State.take_out.Goals as goal

pub returns-clause-stands : goal.returns-clause-stands
returns-clause-stands c = λ stored n stands e.
    let t = c.requires.2.0 in
    let known = stands.known c.args.m t c.requires.2.1 in
    let node = has_node c.args.contents.now c.args.m known.value known.stands in
    subst (λ k. StandsFor c.set.new.self c.args.contents.now (and_no_thing stored k)) (unnamed_number c.args.self.now c.args.contents.now stored c.args.m n t e c.requires.2.1)
    (is_dropped c.args.self.now c.set.new.self c.args.contents.now stored c.args.m t node.0 stands c.requires.2.1 c.requires.2.2 node.1
    (c.set.ensures.kept.0 ∙ c.unname_kids.ensures.kept.0) (c.set.ensures.kept.1 ∙ c.unname_kids.ensures.kept.1) (c.set.ensures.kept.2 ∙ c.unname_kids.ensures.names node.0 node.1) c.set.ensures.here
    (λ k apart. c.set.ensures.others k apart ∙ c.unname_kids.ensures.counts node.0 node.1 k))

pub returns-clause-takes : goal.returns-clause-takes
returns-clause-takes c =
    let known = c.requires.1.known c.args.m c.requires.2.0 c.requires.2.1 in
    let node = has_node c.args.contents.now c.args.m known.value known.stands in
    let same = c.set.ensures.kept.0 ∙ c.unname_kids.ensures.kept.0 in
    record {
      sources = fills_none c.args.self.now.tables.sources c.set.new.self.tables.sources (ap (λ (t : Tables). t.sources) same);
      creates = fills_none c.args.self.now.tables.creates c.set.new.self.tables.creates (ap (λ (t : Tables). t.creates) same);
      jobs = fills_none c.args.self.now.tables.jobs c.set.new.self.tables.jobs (ap (λ (t : Tables). t.jobs) same);
      names = names_fewer c.args.self.now.names c.set.new.self.names _ (c.set.ensures.kept.2 ∙ c.unname_kids.ensures.names node.0 node.1);
    }
