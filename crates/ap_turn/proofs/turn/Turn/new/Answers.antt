use Rattle.std.proofs.Common.{rules, ◌≡◌, [], ◌∷◌, Some}
use Rattle.ap_turn.proofs.Keeps.{opens}
use Rattle.ap_turn.proofs.turn.Turn.new.Goals as goal

pub new-requires : goal.new-requires
new-requires g c = let first : c.push.new.self.items ≡ Some c.args.value ∷ [] = search rules in rw first (opens _ c.args.value c.requires)
