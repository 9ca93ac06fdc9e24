use Rattle.std.proofs.Common.{sym, subst}
use Rattle.ap_content.specs.Entries.{Stands}
use Rattle.ap_db.specs.Lawful.{is_good_content}
use Rattle.ap_db.specs.States.{SeenIs}
use Rattle.ap_db.specs.Said.{Says, says_bytes}
use Rattle.ap_db.proofs.state.State.is_good_seen.Goals as goal

pub returns-in-Bytes : goal.returns-in-Bytes
returns-in-Bytes c stored stands =
    subst (λ seen. Says c.is_good_thing.result (SeenIs (Stands c.args.contents.now) seen) (is_good_content stored)) (sym c.in-Bytes.is)
    (says_bytes (Stands c.args.contents.now) stored c.is_good_thing.result c.in-Bytes.n (c.is_good_thing.ensures stored stands))
