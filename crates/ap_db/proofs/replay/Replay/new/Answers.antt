use Rattle.ap_db.proofs.Taking.{no_index}
use Rattle.ap_db.proofs.Holding.{none_held}
use Rattle.std.proofs.Common.{◌∙◌, ◌++◌, ◌∷◌, [], None, ap}
use Rattle.ap_db.proofs.replay.Replay.new.Goals as goal

pub returns : goal.returns
returns c = λ contents tidy.
    let stands = c.new.ensures contents tidy in
    record { stands = stands; held = none_held c.new.result contents stands; index = no_index c.push.new.self.items c.new.result contents (c.in_ok-push.ensures.items ∙ ap (λ l. l ++ None ∷ []) c.new-index.ensures.items) stands }
