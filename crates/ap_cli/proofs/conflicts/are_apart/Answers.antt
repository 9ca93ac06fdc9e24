use Rattle.std.proofs.Common.{◌∙◌, ap, sym}
use Rattle.ap_cli.specs.Neighbours.{has_front_next}
use Rattle.ap_cli.proofs.Apart.{apart_where_none, not_apart_where_some, is_false, is_true}
use Rattle.ap_cli.proofs.conflicts.are_apart.Goals as goal

pub returns-clause-apart : goal.returns-clause-apart
returns-clause-apart c = λ yes.
    apart_where_none c.args.files.now c.in_ok-paths.paths.items c.sort_unstable.new.self.items c.in_ok-paths.ensures c.sort_unstable.ensures.permutation c.sort_unstable.ensures.sorted
    (ap has_front_next (sym c.deref.ensures.value) ∙ sym c.begins_next.ensures ∙ is_false c.begins_next.result yes)

pub returns-clause-met : goal.returns-clause-met
returns-clause-met c = λ no.
    not_apart_where_some c.args.files.now c.in_ok-paths.paths.items c.sort_unstable.new.self.items c.in_ok-paths.ensures c.sort_unstable.ensures.permutation c.sort_unstable.ensures.sorted
    (ap has_front_next (sym c.deref.ensures.value) ∙ sym c.begins_next.ensures ∙ is_true c.begins_next.result no)
