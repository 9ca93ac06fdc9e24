use Rattle.std.proofs.Common.{List, sym, subst, arith}
use Rattle.ap_db.specs.declared.drops.Dropped.{Dropped}
use Rattle.ap_db.specs.TakenOut.{HasTakenOut, IsSwept}
use Rattle.ap_db.proofs.Sweeping.{none_swept}
use Rattle.ap_db.proofs.state.State.drop_unnamed.Goals as goal

pub sweep_to_record-requires-clause-waits : goal.sweep_to_record-requires-clause-waits
sweep_to_record-requires-clause-waits c = (
  c.requires.0,
  subst (λ (l : List Dropped). IsSwept c.args.self.now c.args.contents.now c.requires.0 l c.extend_from_slice.new.self.items) (sym c.new-2.ensures.items)
      (none_swept c.args.self.now c.args.contents.now c.requires.0 c.args.candidates.now c.new.result.items c.extend_from_slice.new.self.items (omega (arith, c.well_formed)) c.new.ensures.items c.in_ok-extend_from_slice.ensures.items c.requires.1 c.requires.2 c.requires.3),
)

pub undrop_all-requires : goal.undrop_all-requires
undrop_all-requires c = (
  c.requires.0,
  subst (HasTakenOut c.sweep_to_record.new.self c.args.contents.now c.requires.0) (sym c.deref.ensures.value)
      (c.in-Err.ensures.out c.requires.0
      (none_swept c.args.self.now c.args.contents.now c.requires.0 c.args.candidates.now c.new.result.items c.extend_from_slice.new.self.items (omega (arith, c.well_formed)) c.new.ensures.items c.in_ok-extend_from_slice.ensures.items c.requires.1 c.requires.2 c.requires.3)),
)

pub returns-in-Ok-clause-stands : goal.returns-in-Ok-clause-stands
returns-in-Ok-clause-stands c = λ stored well stands candidates.
    let done = c.in-Ok.ensures.swept stored
    (none_swept c.args.self.now c.args.contents.now stored c.args.candidates.now c.new.result.items c.extend_from_slice.new.self.items (omega (arith, c.well_formed)) c.new.ensures.items c.in_ok-extend_from_slice.ensures.items well stands candidates) in
    (done.1, done.2)

pub returns-in-Ok-clause-out : goal.returns-in-Ok-clause-out
returns-in-Ok-clause-out c = λ stored well stands candidates.
    (c.in-Ok.ensures.swept stored
    (none_swept c.args.self.now c.args.contents.now stored c.args.candidates.now c.new.result.items c.extend_from_slice.new.self.items (omega (arith, c.well_formed)) c.new.ensures.items c.in_ok-extend_from_slice.ensures.items well stands candidates)).0

pub returns-in-Err-clause-undone : goal.returns-in-Err-clause-undone
returns-in-Err-clause-undone c = λ stored well stands candidates.
    c.undrop_all.ensures.stands stored
    (subst (HasTakenOut c.sweep_to_record.new.self c.args.contents.now stored) (sym c.deref.ensures.value)
    (c.in-Err.ensures.out stored
    (none_swept c.args.self.now c.args.contents.now stored c.args.candidates.now c.new.result.items c.extend_from_slice.new.self.items (omega (arith, c.well_formed)) c.new.ensures.items c.in_ok-extend_from_slice.ensures.items well stands candidates)))
