use Rattle.std.proofs.Common.{◌≡◌, ◌<◌, All, List, ℕ, Bool, false, true, length, ◌∷◌, ◌++◌, [], subst, sym, ◌∙◌, ap, arith}
use Rattle.ap_graph.specs.Groups.{MovesReached, AreParts}
use Rattle.ap_graph.proofs.Parting.{closed_back, parts_back, parts_forth}
use Rattle.ap_graph.proofs.cycles.part.Goals as goal

pub move_reached-requires-clause-closed : goal.move_reached-requires-clause-closed
move_reached-requires-clause-closed c = closed_back c.args.arrows.now c.args.back.now c.requires.back c.requires.closed

pub move_reached-requires-2-clause-new : goal.move_reached-requires-2-clause-new
move_reached-requires-2-clause-new c =
    let lead : c.len-leading.result ≡ length c.args.whole.now.items = omega arith in
    let moves = subst (λ (n : ℕ). MovesReached c.args.back.now c.args.root n c.args.group.now c.move_reached.new.group) lead c.in_ok-move_reached.ensures in
    let pushed : c.push.new.self.items ≡ c.args.whole.now.items ++ false ∷ [] = c.in_ok-push.ensures.items in
    let parts = parts_back c.args.arrows.now c.args.back.now c.args.root c.args.group.now c.move_reached.new.group c.args.whole.now.items c.requires.back c.requires.parts c.requires.root moves in
    let strong : c.len-strong.result ≡ length (c.args.whole.now.items ++ false ∷ []) = omega (arith, ap length pushed) in
    subst (λ (n : ℕ). All (λ g. g < n) c.move_reached.new.group) (sym strong) parts.known

pub returns-clause-parts : goal.returns-clause-parts
returns-clause-parts c =
    let lead : c.len-leading.result ≡ length c.args.whole.now.items = omega arith in
    let moves = subst (λ (n : ℕ). MovesReached c.args.back.now c.args.root n c.args.group.now c.move_reached.new.group) lead c.in_ok-move_reached.ensures in
    let pushed : c.push.new.self.items ≡ c.args.whole.now.items ++ false ∷ [] = c.in_ok-push.ensures.items in
    let strong : c.len-strong.result ≡ length (c.args.whole.now.items ++ false ∷ []) = omega (arith, ap length pushed) in
    let again = subst (λ (n : ℕ). MovesReached c.args.arrows.now c.args.root n c.move_reached.new.group c.move_reached-2.new.group) strong c.in_ok-move_reached-2.ensures in
    let pushed_again : c.push-2.new.self.items ≡ (c.args.whole.now.items ++ false ∷ []) ++ true ∷ [] = c.in_ok-push-2.ensures.items ∙ ap (λ (l : List Bool). l ++ true ∷ []) pushed in
    subst (λ (l : List Bool). AreParts c.args.arrows.now c.move_reached-2.new.group l) (sym pushed_again)
    (parts_forth c.args.arrows.now c.args.back.now c.args.root c.args.group.now c.move_reached.new.group c.args.whole.now.items c.requires.back c.requires.parts c.requires.root moves c.move_reached-2.new.group again)
