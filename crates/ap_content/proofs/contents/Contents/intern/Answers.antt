use Rattle.std.proofs.Common.{ap, refl, option_map}
use Rattle.ap_content.proofs.Tidying.{tidy-from_sound}
use Rattle.ap_content.proofs.contents.Contents.intern.Goals as goal

pub returns-in_err-n-clause-tidy : goal.returns-in_err-n-clause-tidy
returns-in_err-n-clause-tidy c = tidy-from_sound c.intern.new.self c.intern.ensures.sound

pub returns-clause-thing : goal.returns-clause-thing
returns-clause-thing c =
    (record { tag = 0; text = c.args.bytes.now; kids = _ }, ap (option_map (λ e. e.node)) c.in_ok-n.ensures.gains.held, refl, refl, tt)

pub returns-clause-tidy : goal.returns-clause-tidy
returns-clause-tidy c = tidy-from_sound c.intern.new.self c.intern.ensures.sound
