use Rattle.std.proofs.Common.{◌∙◌, ◌-◌, length, get_or, take, refl, subst, arith}
use Rattle.ap_db.specs.declared.drops.Dropped.{Dropped}
use Rattle.ap_db.specs.Stored.{Stored}
use Rattle.ap_db.specs.TakenOut.{without_things, HasTakenOut}
use Rattle.ap_db.proofs.Spares.{split_end, shorter, nothing_out, last_out, others_out}
use Rattle.ap_db.proofs.state.State.undrop_all.Goals as goal

pub loop-rest-init : goal.loop-rest-init
loop-rest-init c = record { within = omega arith; is = c.requires; back = λ stored has. has; kept = (refl, refl, refl) }

pub offset_bounds-rest-rest : goal.offset_bounds-rest-rest
offset_bounds-rest-rest c = omega (arith, c.loop-rest.invariant.within, c.well_formed)

pub undrop-requires : goal.undrop-requires
undrop-requires c =
    let rest = c.loop-rest.rest.now in
    let d : Dropped = record { m = record { 0 = 0 }; thing = record { number = 0; named = 0 } } in
    let is = c.loop-rest.invariant.is in
    let parts = split_end d rest c.in-len1-up.len_at_least in (
      without_things is.0 (take (length rest - 1) rest),
      last_out c.args.contents.now c.loop-rest.self is.0 (take (length rest - 1) rest) (get_or rest (length rest - 1) d)
          (subst (HasTakenOut c.loop-rest.self c.args.contents.now is.0) parts is.1),
    )

pub loop-rest-smaller : goal.loop-rest-smaller
loop-rest-smaller c =
    let rest = c.loop-rest.rest.now in
    shorter rest c.in-len1-up.len_at_least

pub loop-rest-preserved : goal.loop-rest-preserved
loop-rest-preserved c =
    let rest = c.loop-rest.rest.now in
    let d : Dropped = record { m = record { 0 = 0 }; thing = record { number = 0; named = 0 } } in
    let front = take (length rest - 1) rest in
    let loop = c.loop-rest.invariant in
    let parts = split_end d rest c.in-len1-up.len_at_least in
    let less = shorter rest c.in-len1-up.len_at_least in
    let next : (stored : Stored) → HasTakenOut c.loop-rest.self c.args.contents.now stored rest → HasTakenOut c.undrop.new.self c.args.contents.now stored front = λ stored has.
    let whole = subst (HasTakenOut c.loop-rest.self c.args.contents.now stored) parts has in
    others_out c.args.contents.now c.loop-rest.self c.undrop.new.self stored front (get_or rest (length rest - 1) d) whole c.undrop.ensures.kept.2
    (c.undrop.ensures.stands (without_things stored front) (last_out c.args.contents.now c.loop-rest.self stored front (get_or rest (length rest - 1) d) whole)) in
    record {
      within = omega (arith, loop.within, less);
      is = (loop.is.0, next loop.is.0 loop.is.1);
      back = λ stored has. next stored (loop.back stored has);
      kept = (c.undrop.ensures.kept.0 ∙ loop.kept.0, c.undrop.ensures.kept.1 ∙ loop.kept.1, c.undrop.ensures.kept.2 ∙ loop.kept.2);
    }

pub returns-clause-stands : goal.returns-clause-stands
returns-clause-stands c = λ stored has. nothing_out c.args.contents.now c.loop-rest.self stored c.loop-rest.rest.now c.in_default.len_below (c.loop-rest.invariant.back stored has)

pub returns-clause-kept : goal.returns-clause-kept
returns-clause-kept c = c.loop-rest.invariant.kept
