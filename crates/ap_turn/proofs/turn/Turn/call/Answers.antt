use Rattle.std.proofs.Common.{rules, ℕ, List, ◌∷◌, Option, Some, sym, ap, ◌∙◌}
use Rattle.atomic_table.specs.Table.{rest}
use Rattle.ap_turn.proofs.Keeps.{calls}
use Rattle.ap_turn.proofs.turn.Turn.call.Goals as goal

pub load-serving-requires : goal.load-serving-requires
load-serving-requires g c = (search rules, search rules, calls _ _ _ _ _ c.requires.waits.0)

pub exchange-requires : goal.exchange-requires
exchange-requires g c =
    let served = (c.load-serving.ensures.2 c.args.number c.requires.waits.0).0 c.if-serving-number.false in
    let carried = ap (λ m. m.1) served.1.1 in
    (search rules, (Some served.0, carried ∙ ap (λ (l : List (ℕ × Option g.row.V.Denot)). (0, Some served.0) ∷ rest l) (sym carried)))
