use Rattle.ap_db.specs.Commit.{new_things, after_commit}
use Rattle.ap_db.proofs.Holding.{lives_if_held}
use Rattle.ap_db.proofs.Settling.{all_live, first_enough, still_left, settled_held, holds_follow, stands_on}
use Rattle.ap_db.proofs.state.State.settle.Goals as goal

pub hold_all-requires-clause-live : goal.hold_all-requires-clause-live
hold_all-requires-clause-live c = all_live c.args.contents.now c.args.defined.now (new_things c.requires.settled.1 c.requires.settled.2) c.requires.settled.3.new

pub hold_all-requires-clause-was_tidy : goal.hold_all-requires-clause-was_tidy
hold_all-requires-clause-was_tidy c = c.requires.settled.3.before.tidy

pub release_all-requires-clause-held : goal.release_all-requires-clause-held
release_all-requires-clause-held c =
    first_enough c.requires.settled.0 c.args.self.now c.args.contents.now c.hold_all.new.contents c.requires.settled.1 c.requires.settled.2 c.args.defined.now c.args.dropped.now c.requires.settled.3 c.requires.settled.4 c.hold_all.ensures.exact

pub release_all-requires-clause-was_tidy : goal.release_all-requires-clause-was_tidy
release_all-requires-clause-was_tidy c = c.hold_all.ensures.tidy

pub returns-clause-stands : goal.returns-clause-stands
returns-clause-stands c = λ old stored plain settled held.
    stands_on c.args.self.now c.args.contents.now c.release_all.new.contents (after_commit stored plain) settled.swept.stands c.release_all.ensures.tidy
    (settled_held old c.args.self.now c.args.contents.now c.hold_all.new.contents c.release_all.new.contents stored plain c.args.defined.now c.args.dropped.now settled held
    c.hold_all.ensures.exact c.release_all.ensures.exact)
    (λ k y s lives. c.release_all.ensures.stood k y (c.hold_all.ensures.stood k y s) lives)

pub returns-clause-held : goal.returns-clause-held
returns-clause-held c = λ others old stored plain settled bound held m.
    still_left others old c.args.self.now c.args.contents.now c.hold_all.new.contents c.release_all.new.contents stored plain c.args.defined.now c.args.dropped.now settled bound held c.hold_all.ensures.exact c.release_all.ensures.exact m

pub returns-clause-exact : goal.returns-clause-exact
returns-clause-exact c = λ old stored plain settled.
    holds_follow old c.args.self.now c.args.contents.now c.hold_all.new.contents c.release_all.new.contents stored plain c.args.defined.now c.args.dropped.now settled c.hold_all.ensures.exact c.release_all.ensures.exact

pub returns-clause-keeps : goal.returns-clause-keeps
returns-clause-keeps c = λ m x s held.
    c.release_all.ensures.stood m x (c.hold_all.ensures.stood m x s) (lives_if_held c.release_all.new.contents m held)
