use Rattle.std.proofs.Common.{List, ℕ, subst}
use Rattle.ap_cli.specs.Output.{GainsFront}
use Rattle.ap_cli.proofs.Gaining.{front_either_way}
use Rattle.ap_cli.proofs.top.say.Goals as goal

pub returns-clause-front : goal.returns-clause-front
returns-clause-front g c =
    subst (λ (text : List ℕ). GainsFront (g.O.Sink.written c.args.out.now) (g.O.Sink.written c.write_text.new.out) text) c.requires
    (front_either_way _ _ _ c.write_text.result c.write_text.ensures.whole c.write_text.ensures.front)
