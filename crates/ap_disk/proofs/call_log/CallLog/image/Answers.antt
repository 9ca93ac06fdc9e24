use Rattle.std.proofs.Common.{◌≡◌, ◌+◌, ℕ, List, ◌∷◌, length, subst, ap, ◌∙◌, arith}
use Rattle.std.proofs.lemmas.List.{length-drop}
use Rattle.ap_disk.specs.declared.call.Call.{Call}
use Rattle.ap_disk.specs.History.{changed}
use Rattle.ap_disk.specs.CallLog.{counts, count_of, change_of, event_of}
use Rattle.ap_disk.proofs.Replays.{log_at, head_fits, stop_before, stop_in, rise_with, tears_after}
use Rattle.ap_disk.proofs.call_log.CallLog.image.Goals as goal

pub returns-then-call-moment : goal.returns-then-call-moment
returns-then-call-moment c =
    let so_far = c.loop-call.invariant in
    let split = log_at so_far.older c.loop-call.calls.now c.in-Some.call c.in-Some.later.now c.loop-call.kept.now c.args.self.now c.in-Some.ensures.some so_far.log in
    rw c.into_bytes.ensures
    (stop_before c.args.first.now c.loop-call.image.0 c.args.moment so_far.older c.in-Some.call c.in-Some.later.now c.loop-call.kept.now c.args.self.now split
    c.requires.rises so_far.before c.if-call-moment.true so_far.image)

pub tear-requires-clause-fits : goal.tear-requires-clause-fits
tear-requires-clause-fits c =
    let so_far = c.loop-call.invariant in
    let split = log_at so_far.older c.loop-call.calls.now c.in-Some.call c.in-Some.later.now c.loop-call.kept.now c.args.self.now c.in-Some.ensures.some so_far.log in
    rw so_far.image_room (head_fits c.args.room so_far.older c.in-Some.call c.in-Some.later.now c.loop-call.kept.now c.args.self.now split c.requires.fits)

pub returns-then-call-moment-2 : goal.returns-then-call-moment-2
returns-then-call-moment-2 c =
    let so_far = c.loop-call.invariant in
    let split = log_at so_far.older c.loop-call.calls.now c.in-Some.call c.in-Some.later.now c.loop-call.kept.now c.args.self.now c.in-Some.ensures.some so_far.log in
    rw c.into_bytes-then-call-moment-2.ensures
    (stop_in c.args.first.now c.loop-call.image.0 c.tear.new.image.0 c.args.moment so_far.older c.in-Some.call c.in-Some.later.now c.loop-call.kept.now c.args.self.now split
    c.requires.rises c.if-call-moment-2.true c.tear.ensures.image so_far.image)

pub replay-requires-clause-fits : goal.replay-requires-clause-fits
replay-requires-clause-fits c =
    let so_far = c.loop-call.invariant in
    let split = log_at so_far.older c.loop-call.calls.now c.in-Some.call c.in-Some.later.now c.loop-call.kept.now c.args.self.now c.in-Some.ensures.some so_far.log in
    rw so_far.file_room (head_fits c.args.room so_far.older c.in-Some.call c.in-Some.later.now c.loop-call.kept.now c.args.self.now split c.requires.fits)

pub loop-call-preserved : goal.loop-call-preserved
loop-call-preserved c =
    let so_far = c.loop-call.invariant in
    let call = c.in-Some.call in
    let kept = c.loop-call.kept.now in
    let split = log_at so_far.older c.loop-call.calls.now c.in-Some.call c.in-Some.later.now c.loop-call.kept.now c.args.self.now c.in-Some.ensures.some so_far.log in
    let Counted : List Call → Type 0 = λ calls. counts calls ≡ length c.loop-call.kept.now in
    let counted : count_of c.in-Some.call.step + counts c.in-Some.later.now ≡ length c.loop-call.kept.now = subst Counted c.in-Some.ensures.some so_far.counted in
    let bytes_of : List ℕ × ℕ → List ℕ = λ file. file.0 in
    let room_of : List ℕ × ℕ → ℕ = λ file. file.1 in
    let file_again : List ℕ → List ℕ = λ file. changed (change_of c.in-Some.call.step c.loop-call.kept.now) file in
    let file = ap bytes_of c.replay.ensures.file ∙ ap file_again so_far.file in
    record {
      older = event_of call kept ∷ so_far.older;
      log = rw (c.bytes_behind-kept.ensures, c.written.ensures) split;
      counted = rw (c.bytes_behind-kept.ensures, c.written.ensures, length-drop (count_of c.in-Some.call.step) c.loop-call.kept.now) (omega (arith, counted));
      file = file;
      image = tears_after c.args.first.now (event_of call kept) so_far.older c.replay.new.file.0 c.loop-call.image.0 c.replay.new.image.0 file c.replay.ensures.image so_far.image;
      file_room = ap room_of c.replay.ensures.file ∙ so_far.file_room;
      image_room = c.replay.ensures.same_room ∙ so_far.file_room;
      before = rise_with c.args.moment so_far.older call c.in-Some.later.now kept c.args.self.now split c.requires.rises (omega (arith, c.if-call-moment.false, c.if-call-moment-2.false));
    }
