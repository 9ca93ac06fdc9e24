use Rattle.std.proofs.Common.{◌-◌, length, take, get_or, subst}
use Rattle.ap_db.proofs.Undefining.{StillDefined, last_again, last_stored, last_thing, front_short, last_can, last_undefined}
use Rattle.ap_db.proofs.state.State.undefine_all.Goals as goal

pub undefine-requires : goal.undefine-requires
undefine-requires c =
    let rest = c.loop-rest.rest.now in
    let front = take (length rest - 1) rest in
    let m = get_or rest (length rest - 1) (record { 0 = 0 }) in
    let still = subst (StillDefined c.args.contents.now c.requires.0 c.loop-rest.self) (last_again (record { 0 = 0 }) rest c.in-len1-up.len_at_least)
    (c.loop-rest.invariant.still c.requires.0 c.requires.1 c.requires.2 c.requires.3 c.requires.4 c.requires.5) in
    let can = last_can c.args.contents.now c.requires.0 c.requires.2 c.loop-rest.self front m still in
    (last_stored c.args.contents.now c.requires.0 c.requires.2 c.loop-rest.self front m still, last_thing c.args.contents.now c.requires.0 c.requires.2 c.loop-rest.self front m still, can.0, can.1, can.2, can.3)

pub loop-rest-preserved : goal.loop-rest-preserved
loop-rest-preserved c =
    let rest = c.loop-rest.rest.now in
    let front = take (length rest - 1) rest in
    let m = get_or rest (length rest - 1) (record { 0 = 0 }) in
    let loop = c.loop-rest.invariant in
    record {
      short = front_short (record { 0 = 0 }) rest (length c.args.defined.now) c.in-len1-up.len_at_least loop.short;
      still = λ stored xs well grown stands each.
          let still = subst (StillDefined c.args.contents.now stored c.loop-rest.self) (last_again (record { 0 = 0 }) rest c.in-len1-up.len_at_least) (loop.still stored xs well grown stands each) in
          let can = last_can c.args.contents.now stored well c.loop-rest.self front m still in
          last_undefined c.args.contents.now stored well c.loop-rest.self front m still c.undefine.new.self (c.undefine.ensures.stands (last_stored c.args.contents.now stored well c.loop-rest.self front m still) _ can.0 can.1 can.2 can.3);
    }
