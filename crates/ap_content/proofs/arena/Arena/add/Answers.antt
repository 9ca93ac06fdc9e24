use Rattle.std.proofs.Common.{◌+◌, ◌≤◌, Some, ap, ◌∙◌, sym, subst, refl, arith, vec_capacity}
use Rattle.slab.specs.Slab.{Updates, slab_len}
use Rattle.ap_content.specs.declared.slots.Interned.{Interned}
use Rattle.ap_content.proofs.Changing.{finds_itself}
use Rattle.ap_content.proofs.Adding.{linked-moved, listed-moved, linked-added, listed-added, gains-added}
use Rattle.ap_content.proofs.arena.Arena.add.Goals as goal

pub returns-in_err-reserve-clause-sound : goal.returns-in_err-reserve-clause-sound
returns-in_err-reserve-clause-sound c =
    let same = ap (λ s. s.slots) c.reserve.ensures.rest_kept in
    record {
      linked = linked-moved _ _ _ _ same c.requires.sound.linked (finds_itself _);
      listed = listed-moved _ _ _ _ _ _ same refl (omega arith) c.requires.sound.listed;
      idle = c.requires.sound.idle;
    }

pub returns-in_err-reserve-2-clause-sound : goal.returns-in_err-reserve-2-clause-sound
returns-in_err-reserve-2-clause-sound c =
    let same = ap (λ s. s.slots) c.reserve.ensures.rest_kept in
    record {
      linked = linked-moved _ _ _ _ same c.requires.sound.linked (finds_itself _);
      listed = listed-moved _ _ _ _ _ _ same c.reserve-2.ensures.items c.reserve-2.ensures.capacity c.requires.sound.listed;
      idle = c.reserve-2.ensures.items ∙ c.requires.sound.idle;
    }

pub returns-in_err-add-clause-sound : goal.returns-in_err-add-clause-sound
returns-in_err-add-clause-sound c =
    let same = ap (λ s. s.slots) c.reserve.ensures.rest_kept in
    record {
      linked = linked-moved _ _ _ _ same c.requires.sound.linked c.in_err-add.ensures.refused;
      listed = listed-moved _ _ _ _ _ _ same c.reserve-2.ensures.items c.reserve-2.ensures.capacity c.requires.sound.listed;
      idle = c.reserve-2.ensures.items ∙ c.requires.sound.idle;
    }

pub returns-clause-sound : goal.returns-clause-sound
returns-clause-sound c =
    let old = c.args.self.now.slots in
    let moved = c.reserve.new.self in
    let mid = c.insert_reserved.new.self in
    let new = c.raise_all.new.slots in
    let n = c.vacant_key-n.result in
    let i : Interned = record { node = c.in_ok-node.node; digest = c.args.digest; holds = 1; parents = 0 } in
    let kids = ap (λ node. node.kids) c.in_ok-node.ensures in
    let puts : Updates moved mid n (Some i) = subst (λ k. Updates moved mid k (Some i)) (c.insert_reserved.ensures.key ∙ sym c.vacant_key-n.ensures.value) c.insert_reserved.ensures.updates in
    let same = ap (λ s. s.slots) c.reserve.ensures.rest_kept in
    let enough : slab_len mid ≤ vec_capacity c.reserve-2.new.self =
    let room : slab_len moved + 1 ≤ moved.capacity = c.in_ok-reserve.ensures.room in
    let length = c.insert_reserved.ensures.len in
    let asked = c.capacity.ensures.value in
    let given = c.in_ok-reserve-2.ensures.ok in
    omega arith in
    record {
      linked = linked-added old moved mid new c.args.self.now.index c.add.new.self n i c.args.kids.now c.requires.sound.linked same c.vacant_key-n.ensures.vacant puts refl refl kids
          c.raise_all.ensures c.requires.kids_live (record { tag = c.args.tag; text = c.args.text.now; kids = c.args.kids.now }) c.in_ok-node.ensures c.in_ok-add.ensures.added
          c.requires.absent (c.has_room.ensures (cc)) c.requires.digest;
      listed = listed-added old moved mid new c.args.self.now.index c.add.new.self n i c.args.kids.now c.requires.sound.linked same c.vacant_key-n.ensures.vacant puts refl refl kids
          c.raise_all.ensures c.requires.kids_live c.args.self.now.dying.items c.reserve-2.new.self.items _ _ c.requires.sound.listed c.requires.sound.idle
          (c.reserve-2.ensures.items ∙ c.requires.sound.idle) enough;
      idle = c.reserve-2.ensures.items ∙ c.requires.sound.idle;
    }

pub returns-clause-gains : goal.returns-clause-gains
returns-clause-gains c =
    let old = c.args.self.now.slots in
    let moved = c.reserve.new.self in
    let mid = c.insert_reserved.new.self in
    let n = c.vacant_key-n.result in
    let i : Interned = record { node = c.in_ok-node.node; digest = c.args.digest; holds = 1; parents = 0 } in
    let kids = ap (λ node. node.kids) c.in_ok-node.ensures in
    let puts : Updates moved mid n (Some i) = subst (λ k. Updates moved mid k (Some i)) (c.insert_reserved.ensures.key ∙ sym c.vacant_key-n.ensures.value) c.insert_reserved.ensures.updates in
    let same = ap (λ s. s.slots) c.reserve.ensures.rest_kept in
    gains-added old moved mid c.raise_all.new.slots c.args.self.now.index c.add.new.self n i c.args.kids.now c.requires.sound.linked same c.vacant_key-n.ensures.vacant puts refl refl kids
    c.raise_all.ensures c.requires.kids_live (record { tag = c.args.tag; text = c.args.text.now; kids = c.args.kids.now }) c.in_ok-node.ensures
