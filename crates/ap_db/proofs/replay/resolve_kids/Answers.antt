use Rattle.std.proofs.Common.{Vec, Global, ◌≡◌, ◌∙◌, ◌-◌, ◌++◌, ◌∷◌, [], List, Option, Some, None, length, get_or, take, drop, sym, subst, ap}
use Rattle.std.specs.Prelude.{option_map}
use Rattle.ap_content.specs.Things.{Thing}
use Rattle.ap_content.specs.declared.node.Number.{Number}
use Rattle.ap_db.specs.Stored.{thing_at, things_at, with_next}
use Rattle.ap_db.specs.Listed.{AreAll, AreBoth}
use Rattle.ap_db.specs.States.{Names}
use Rattle.ap_db.proofs.Indexing.{resolved}
use Rattle.ap_db.proofs.Taking.{both_some, both_none, cons-again, all_one, next_front}
use Rattle.ap_db.proofs.replay.resolve_kids.Goals as goal

pub returns-in_default-number_at : goal.returns-in_default-number_at
returns-in_default-number_at c = λ state contents stored stands is_index.
    let rest = c.loop-rest.rest.now in
    let first = get_or rest 0 (record { 0 = 0 }) in
    let later = take (length rest - 1) (drop 1 rest) in
    let all = cons-again (record { 0 = 0 }) rest c.in-len1-up.len_at_least in
    let inv = c.loop-rest.invariant state contents stored stands is_index in
    let none = both_none (Names state.things.items contents) (thing_at stored first) (resolved state contents stored c.args.index.now stands is_index first None (sym c.in_default-number_at.ensures)) in
    let gone : things_at stored c.args.kids.now ≡ None = inv.2 ∙ ap (λ (l : List Number). option_map (λ ys. inv.0 ++ ys) (things_at stored l)) (sym all)
    ∙ ap (λ (o : Option Thing). option_map (λ ys. inv.0 ++ ys) (with_next o (things_at stored later))) none in
    subst (λ o. AreBoth {X = Vec Number Global} (λ numbers things. AreAll (Names state.things.items contents) numbers.items things) None o) (sym gone) tt

pub loop-rest-preserved : goal.loop-rest-preserved
loop-rest-preserved c = λ state contents stored stands is_index.
    let rest = c.loop-rest.rest.now in
    let first = get_or rest 0 (record { 0 = 0 }) in
    let later = take (length rest - 1) (drop 1 rest) in
    let all = cons-again (record { 0 = 0 }) rest c.in-len1-up.len_at_least in
    let inv = c.loop-rest.invariant state contents stored stands is_index in
    let found = both_some (Names state.things.items contents) c.in-Some.m (thing_at stored first) (resolved state contents stored c.args.index.now stands is_index first (Some c.in-Some.m) (sym c.in-Some.ensures)) in (
      inv.0 ++ found.0 ∷ [],
      subst (λ (l : List Number). AreAll (Names state.things.items contents) l (inv.0 ++ found.0 ∷ [])) (sym c.in_ok-push.ensures.items)
          (all_one (Names state.things.items contents) c.loop-rest.numbers.items inv.0 c.in-Some.m found.0 inv.1 found.2),
      inv.2 ∙ ap (λ (l : List Number). option_map (λ ys. inv.0 ++ ys) (things_at stored l)) (sym all)
          ∙ ap (λ (o : Option Thing). option_map (λ ys. inv.0 ++ ys) (with_next o (things_at stored later))) found.1
          ∙ next_front inv.0 found.0 (things_at stored later),
    )
