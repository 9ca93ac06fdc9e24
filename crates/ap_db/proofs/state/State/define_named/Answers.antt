use Rattle.std.specs.List.{flat_map}
use Rattle.std.proofs.Common.{◌++◌, refl}
use Rattle.ap_db.specs.Stored.{values}
use Rattle.ap_db.specs.Commit.{item_things, new_things, new_live}
use Rattle.ap_db.proofs.FileNumbers.{numbers_of_commit}
use Rattle.ap_db.proofs.NamedItems.{items_in_file}
use Rattle.ap_db.proofs.WritingDefines.{change_can, change_named, some_still, all_still, all_stand, all_each, defines_are}
use Rattle.ap_db.proofs.state.State.define_named.Goals as goal

pub define_each-requires : goal.define_each-requires
define_each-requires c =
    let stored = c.requires.0 in
    let plain = c.requires.1 in
    let can = c.requires.2 in (
      stored,
      values stored,
      flat_map item_things plain,
      change_can c.args.contents.now c.args.self.now stored c.args.items.now plain can,
      change_named c.args.contents.now c.args.self.now stored c.args.items.now plain can c.in_ok-named.named.items c.deref.result.now c.in_ok-named.ensures c.deref.ensures.value,
    )

pub undefine_all-requires : goal.undefine_all-requires
undefine_all-requires c =
    let stored = c.requires.0 in
    let plain = c.requires.1 in
    let can = c.requires.2 in
    let still = some_still c.args.contents.now c.args.self.now stored c.args.items.now plain can c.define_each.new.self c.new-defined.result.items c.define_each.new.defined.items c.new-defined.ensures.items c.deref-in-Err.result.now c.deref-in-Err.ensures.value
    (c.in-Err.ensures.some stored (values stored) (flat_map item_things plain) (change_can c.args.contents.now c.args.self.now stored c.args.items.now plain can)
    (change_named c.args.contents.now c.args.self.now stored c.args.items.now plain can c.in_ok-named.named.items c.deref.result.now c.in_ok-named.ensures c.deref.ensures.value)) in
    (stored, still.things, can.well, still.grown, still.stands, still.each)

pub returns-in-Err-clause-undone : goal.returns-in-Err-clause-undone
returns-in-Err-clause-undone c = λ stored plain can.
    let still = some_still c.args.contents.now c.args.self.now stored c.args.items.now plain can c.define_each.new.self c.new-defined.result.items c.define_each.new.defined.items c.new-defined.ensures.items c.deref-in-Err.result.now c.deref-in-Err.ensures.value
    (c.in-Err.ensures.some stored (values stored) (flat_map item_things plain) (change_can c.args.contents.now c.args.self.now stored c.args.items.now plain can)
    (change_named c.args.contents.now c.args.self.now stored c.args.items.now plain can c.in_ok-named.named.items c.deref.result.now c.in_ok-named.ensures c.deref.ensures.value)) in
    c.undefine_all.ensures stored still.things can.well still.grown still.stands still.each

pub returns-in-Ok-write_defines-clause-stands : goal.returns-in-Ok-write_defines-clause-stands
returns-in-Ok-write_defines-clause-stands c = λ stored plain can.
    all_stand c.args.contents.now c.args.self.now stored c.args.items.now plain can c.define_each.new.self c.new-defined.result.items c.define_each.new.defined.items c.new-defined.ensures.items
    (c.in-Ok.ensures.defined stored (values stored) (flat_map item_things plain) (change_can c.args.contents.now c.args.self.now stored c.args.items.now plain can)
    (change_named c.args.contents.now c.args.self.now stored c.args.items.now plain can c.in_ok-named.named.items c.deref.result.now c.in_ok-named.ensures c.deref.ensures.value))

pub returns-in-Ok-write_defines-clause-written : goal.returns-in-Ok-write_defines-clause-written
returns-in-Ok-write_defines-clause-written c = λ stored plain can.
    let all = c.in-Ok.ensures.defined stored (values stored) (flat_map item_things plain) (change_can c.args.contents.now c.args.self.now stored c.args.items.now plain can)
    (change_named c.args.contents.now c.args.self.now stored c.args.items.now plain can c.in_ok-named.named.items c.deref.result.now c.in_ok-named.ensures c.deref.ensures.value) in
    let stand = all_stand c.args.contents.now c.args.self.now stored c.args.items.now plain can c.define_each.new.self c.new-defined.result.items c.define_each.new.defined.items c.new-defined.ensures.items all in
    let each = all_each c.args.contents.now c.args.self.now stored c.args.items.now plain can c.define_each.new.self c.new-defined.result.items c.define_each.new.defined.items c.new-defined.ensures.items all c.deref-2.result.now c.deref-2.ensures.value in
    defines_are c.args.contents.now c.args.self.now stored c.args.items.now plain can c.args.written.now.items c.write_defines.new.written.items
    (c.in-Ok-write_defines.ensures (stored.live ++ new_live stored plain) _ (new_things stored plain) stand (numbers_of_commit stored plain can.well can.lawful) each)

pub returns-in-Ok-write_defines-clause-gives : goal.returns-in-Ok-write_defines-clause-gives
returns-in-Ok-write_defines-clause-gives c = λ stored plain can.
    all_each c.args.contents.now c.args.self.now stored c.args.items.now plain can c.define_each.new.self c.new-defined.result.items c.define_each.new.defined.items c.new-defined.ensures.items
    (c.in-Ok.ensures.defined stored (values stored) (flat_map item_things plain) (change_can c.args.contents.now c.args.self.now stored c.args.items.now plain can)
    (change_named c.args.contents.now c.args.self.now stored c.args.items.now plain can c.in_ok-named.named.items c.deref.result.now c.in_ok-named.ensures c.deref.ensures.value))
    c.define_each.new.defined.items refl

pub returns-in-Ok-write_defines-clause-named : goal.returns-in-Ok-write_defines-clause-named
returns-in-Ok-write_defines-clause-named c = λ stored plain can.
    items_in_file c.args.contents.now c.args.self.now c.define_each.new.self stored c.args.items.now plain can
    (all_stand c.args.contents.now c.args.self.now stored c.args.items.now plain can c.define_each.new.self c.new-defined.result.items c.define_each.new.defined.items c.new-defined.ensures.items
    (c.in-Ok.ensures.defined stored (values stored) (flat_map item_things plain) (change_can c.args.contents.now c.args.self.now stored c.args.items.now plain can)
    (change_named c.args.contents.now c.args.self.now stored c.args.items.now plain can c.in_ok-named.named.items c.deref.result.now c.in_ok-named.ensures c.deref.ensures.value)))

pub undefine_all-requires-in-Err-write_defines : goal.undefine_all-requires-in-Err-write_defines
undefine_all-requires-in-Err-write_defines c =
    let stored = c.requires.0 in
    let plain = c.requires.1 in
    let can = c.requires.2 in
    let still = all_still c.args.contents.now c.args.self.now stored c.args.items.now plain can c.define_each.new.self c.new-defined.result.items c.define_each.new.defined.items c.new-defined.ensures.items
    (c.in-Ok.ensures.defined stored (values stored) (flat_map item_things plain) (change_can c.args.contents.now c.args.self.now stored c.args.items.now plain can)
    (change_named c.args.contents.now c.args.self.now stored c.args.items.now plain can c.in_ok-named.named.items c.deref.result.now c.in_ok-named.ensures c.deref.ensures.value))
    c.deref-in-Err-write_defines.result.now c.deref-in-Err-write_defines.ensures.value in
    (stored, still.things, can.well, still.grown, still.stands, still.each)

pub returns-clause-undone : goal.returns-clause-undone
returns-clause-undone c = λ stored plain can.
    let still = all_still c.args.contents.now c.args.self.now stored c.args.items.now plain can c.define_each.new.self c.new-defined.result.items c.define_each.new.defined.items c.new-defined.ensures.items
    (c.in-Ok.ensures.defined stored (values stored) (flat_map item_things plain) (change_can c.args.contents.now c.args.self.now stored c.args.items.now plain can)
    (change_named c.args.contents.now c.args.self.now stored c.args.items.now plain can c.in_ok-named.named.items c.deref.result.now c.in_ok-named.ensures c.deref.ensures.value))
    c.deref-in-Err-write_defines.result.now c.deref-in-Err-write_defines.ensures.value in
    c.undefine_all-in-Err-write_defines.ensures stored still.things can.well still.grown still.stands still.each
