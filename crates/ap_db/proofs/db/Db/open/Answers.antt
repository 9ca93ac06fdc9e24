use Rattle.std.proofs.Common.{◌≡◌, ◌≤◌, ◌^◌, Ok, sym, ◌∙◌, ap, arith}
use Rattle.ap_journal.specs.Told.{every, back}
use Rattle.ap_db.specs.Stored.{Stored, stored_in}
use Rattle.ap_db.specs.declared.state.State.{State}
use Rattle.ap_db.specs.Loose.{unnamed_from}
use Rattle.ap_db.proofs.LooseThings.{all_unnamed}
use Rattle.ap_db.proofs.db.Db.open.Goals as goal

pub returns-in_ok-loose-in-Ok-clause-is_of : goal.returns-in_ok-loose-in-Ok-clause-is_of
returns-in_ok-loose-in-Ok-clause-is_of g c =
    let read = c.in-Ok.ensures.read in
    let bounded : c.in-Ok.journal.limit ≤ 2 ^ 32 = omega (arith, c.in-Ok.ensures.limit, c.requires.greatest) in
    let stands = (c.into_state.ensures.stands read.0 read.1).0 in
    record {
      stored = read.0;
      journal = c.in-Ok.ensures.is_of;
      stands = stands;
      held = (c.into_state.ensures.stands read.0 read.1).1;
      well = read.1.well;
      bounded = bounded;
      loose = all_unnamed c.into_state.result c.into_state.new.contents read.0 c.in_ok-loose-in-Ok.loose.items stands
          (c.in_ok-loose-in-Ok.ensures ∙ ap (unnamed_from 0) c.deref.ensures.value ∙ ap (λ (s : State). unnamed_from 0 s.things.items) (sym c.into_state.ensures.state));
      file = λ fresh. read.2;
    }

pub returns-in_ok-loose-in-Ok-clause-good : goal.returns-in_ok-loose-in-Ok-clause-good
returns-in_ok-loose-in-Ok-clause-good g c =
    let old = g.D.Disk.seen c.args.store.now.0 in
    let read = c.in-Ok.ensures.read in
    back old (g.D.Disk.seen c.open_records.new.store.0) (λ file. Unit {0}) (λ old new. stored_in new ≡ stored_in old) (λ file. stored_in file ≡ Ok read.0) (λ file. (stored : Stored) × (stored_in file ≡ Ok stored))
    (every old (λ file. Unit {0}) (λ file. tt)) c.in-Ok.ensures.same read.2 (λ x y all same is. (read.0, sym same ∙ is))
