use Rattle.std.proofs.Common.{rules, [], ◌∷◌, Some, refl, ap, ◌∙◌}
use Rattle.atomic_table.specs.Table.{rest}
use Rattle.ap_turn.proofs.Keeps.{passes}
use Rattle.ap_turn.proofs.turn.Turn.put_and_pass.Goals as goal

pub fetch_add-requires : goal.fetch_add-requires
fetch_add-requires g c =
    let now = c.exchange-left.ensures.3 ∙ ap (λ l. (c.args.seat.now.me.0, (0, Some c.args.value) ∷ rest l)) c.requires.turn.1 in
    (search rules, search rules, rw (now, c.requires.entry) (passes _ _ _ (c.args.seat.now.me.0, (0, Some c.args.value) ∷ []) c.requires.turn.0.0 c.args.value _ c.requires.turn.0.1 refl c.requires.stands))
