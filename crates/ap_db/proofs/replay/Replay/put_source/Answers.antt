use Rattle.std.proofs.Common.{List, Option, sym, subst}
use Rattle.ap_content.specs.declared.node.Number.{Number}
use Rattle.ap_db.specs.Stored.{source_at, with_tables}
use Rattle.ap_db.specs.Changes.{with_source}
use Rattle.ap_db.specs.States.{Names, SourceIs, IsIndexOf}
use Rattle.ap_db.proofs.Taking.{both_some, both_none, same_index, source_taken, source_refused}
use Rattle.ap_db.proofs.Holding.{still_held}
use Rattle.ap_db.proofs.replay.Replay.put_source.Goals as goal

pub returns-in_default-clause-refused : goal.returns-in_default-clause-refused
returns-in_default-clause-refused c = λ e stored replays.
    let index = subst (λ (l : List (Option Number)). IsIndexOf l c.args.self.now.state) (sym c.deref.ensures.value) replays.index in
    source_refused stored c.args.row (both_none (SourceIs (Names c.args.self.now.state.things.items c.args.contents.now)) (source_at stored c.args.row) (c.in_default.ensures c.args.self.now.state stored replays.stands index))

pub returns-in-Ok-clause-applied : goal.returns-in-Ok-clause-applied
returns-in-Ok-clause-applied c = λ stored replays.
    let index = subst (λ (l : List (Option Number)). IsIndexOf l c.args.self.now.state) (sym c.deref.ensures.value) replays.index in
    let row = both_some (SourceIs (Names c.args.self.now.state.things.items c.args.contents.now)) c.in-Some.row (source_at stored c.args.row) (c.in-Some.ensures c.args.self.now.state stored replays.stands index) in (
      with_tables stored (with_source stored.tables row.0),
      source_taken stored c.args.row row.0 row.1,
      record {
        stands = c.in-Ok.ensures.stands c.args.contents.now stored row.0 replays.stands row.2;
        held = still_held c.args.self.now.state c.put_source.new.self c.args.contents.now c.in-Ok.ensures.numbers.0 replays.held;
        index = same_index c.args.self.now.index.items c.args.self.now.state c.put_source.new.self replays.index c.in-Ok.ensures.numbers.0 c.in-Ok.ensures.numbers.1;
      },
    )
