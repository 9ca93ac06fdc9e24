use Rattle.std.proofs.Common.{[]}
use Rattle.ap_content.specs.Things.{bytes_thing}
use Rattle.ap_content.specs.Entries.{Gains, Stands}
use Rattle.ap_db.specs.Stored.{Stored}
use Rattle.ap_engine.specs.Ledgers.{IsBeside, IsHeld, StayHeld}
use Rattle.ap_engine.proofs.Gains.{beside_gained, stay_gained, held_now}
use Rattle.ap_engine.proofs.Outcomes.{on_ok, if_ok}
use Rattle.ap_engine.proofs.ledger.Ledger.intern.Goals as goal

pub returns-clause-held : goal.returns-clause-held
returns-clause-held c =
    let db = c.args.self.now.db in
    let old = c.args.self.now.contents in
    let new = c.intern.new.self in
    let bytes = c.args.bytes.now in
    if_ok c.intern.result (λ n. Stands new n (bytes_thing bytes)) (λ n. Gains old new n (record { tag = 0; text = bytes; kids = [] }))
    (λ n. (stored : Stored) → IsBeside db old stored → IsHeld db new n (bytes_thing bytes)) c.intern.ensures.thing c.intern.ensures.gains
    (λ n stands gains stored is. held_now old new n (record { tag = 0; text = bytes; kids = [] }) gains c.intern.ensures.tidy db stored (bytes_thing bytes) is stands)

pub returns-clause-beside : goal.returns-clause-beside
returns-clause-beside c =
    let db = c.args.self.now.db in
    let old = c.args.self.now.contents in
    let new = c.intern.new.self in
    let bytes = c.args.bytes.now in
    on_ok c.intern.result (λ n. Gains old new n (record { tag = 0; text = bytes; kids = [] })) ((stored : Stored) → IsBeside db old stored → IsBeside db new stored) c.intern.ensures.gains
    (λ n gains stored is. beside_gained old new n (record { tag = 0; text = bytes; kids = [] }) gains c.intern.ensures.tidy db stored is)

pub returns-clause-stay : goal.returns-clause-stay
returns-clause-stay c =
    let db = c.args.self.now.db in
    let old = c.args.self.now.contents in
    let new = c.intern.new.self in
    let bytes = c.args.bytes.now in
    on_ok c.intern.result (λ n. Gains old new n (record { tag = 0; text = bytes; kids = [] })) ((stored : Stored) → IsBeside db old stored → StayHeld db old db new) c.intern.ensures.gains
    (λ n gains stored is. stay_gained old new n (record { tag = 0; text = bytes; kids = [] }) gains c.intern.ensures.tidy db stored is)
