use Rattle.std.proofs.Common.{◌≡◌, ◌∙◌, ◌-◌, ◌∷◌, List, length, take, drop, suc, Vec, Global, sym, subst, ap, arith}
use Rattle.ap_db.specs.declared.old.Old.{Old}
use Rattle.ap_db.specs.declared.state.State.{State}
use Rattle.ap_db.specs.Putting.{ArePut, ArePutBefore}
use Rattle.ap_content.specs.Entries.{Stands}
use Rattle.ap_db.specs.States.{Names}
use Rattle.ap_db.proofs.EachKind.{items_follow}
use Rattle.ap_db.proofs.PutSteps.{none_yet, all_put}
use Rattle.ap_db.proofs.Taking.{cons-again}
use Rattle.ap_db.proofs.state.State.put_items.Goals as goal

pub loop-rest-init : goal.loop-rest-init
loop-rest-init c = (
  λ contents stored plain stands name.
      subst (λ (l : List Old). ArePutBefore c.reserve.new.self contents stored plain c.args.items.now l c.args.items.now) (sym c.in_ok-olds.ensures.items)
      (none_yet contents stored plain c.args.items.now c.args.self.now c.reserve.new.self c.reserve.ensures.numbers.0 (c.reserve.ensures.stands contents stored stands) name
      (c.in_ok-reserve.ensures.room contents stored plain stands (items_follow (Names c.args.self.now.things.items contents) (Stands contents) (λ n x h. h.stands) c.args.items.now plain name))),
  omega (arith, c.in_ok-olds.ensures.len, c.in_ok-olds.ensures.capacity),
  c.reserve.ensures.numbers.0,
  c.reserve.ensures.numbers.1,
)

pub put_next-requires-clause-put : goal.put_next-requires-clause-put
put_next-requires-clause-put c =
    let at = c.requires in
    let rest = c.loop-rest.rest.now in
    let later = take (length rest - 1) (drop 1 rest) in
    let all : c.item-item.result ∷ later ≡ rest = ap (λ x. x ∷ later) c.item-item.is ∙ cons-again c.item-item.result rest c.in-len1-up.len_at_least in (
      at.0,
      at.1,
      at.2,
      c.args.items.now,
      later,
      subst (λ l. ArePutBefore c.loop-rest.self at.0 at.1 at.2 c.args.items.now c.loop-rest.olds.items l) (sym all) (c.loop-rest.invariant.0 at.0 at.1 at.2 at.3 at.4),
    )

pub unput_items-requires : goal.unput_items-requires
unput_items-requires c =
    let at = c.requires in (
      at.0,
      at.1,
      at.2,
      subst (λ (v : Vec Old Global). ArePut c.put_next.new.self at.0 at.1 at.2 c.args.items.now v.items) (sym c.in-Err.ensures.unchanged.1)
          (subst (λ (s : State). ArePut s at.0 at.1 at.2 c.args.items.now c.loop-rest.olds.items) (sym c.in-Err.ensures.unchanged.0) (c.loop-rest.invariant.0 at.0 at.1 at.2 at.3 at.4).put),
    )

pub returns-in-Err-clause-undone : goal.returns-in-Err-clause-undone
returns-in-Err-clause-undone c = λ contents stored plain stands name.
    c.unput_items.ensures.undone contents stored plain
    (subst (λ (v : Vec Old Global). ArePut c.put_next.new.self contents stored plain c.args.items.now v.items) (sym c.in-Err.ensures.unchanged.1)
    (subst (λ (s : State). ArePut s contents stored plain c.args.items.now c.loop-rest.olds.items) (sym c.in-Err.ensures.unchanged.0) (c.loop-rest.invariant.0 contents stored plain stands name).put))

pub loop-rest-preserved : goal.loop-rest-preserved
loop-rest-preserved c =
    let rest = c.loop-rest.rest.now in
    let later = take (length rest - 1) (drop 1 rest) in
    let all : c.item-item.result ∷ later ≡ rest = ap (λ x. x ∷ later) c.item-item.is ∙ cons-again c.item-item.result rest c.in-len1-up.len_at_least in
    let long : length rest ≡ suc (length later) = ap length (sym all) in (
      λ contents stored plain stands name.
          c.in-Ok.ensures.put contents stored plain c.args.items.now later
          (subst (λ l. ArePutBefore c.loop-rest.self contents stored plain c.args.items.now c.loop-rest.olds.items l) (sym all) (c.loop-rest.invariant.0 contents stored plain stands name)),
      omega (arith, c.in-Ok.ensures.len, c.in-Ok.ensures.capacity, c.loop-rest.invariant.1, long),
      λ m. c.in-Ok.ensures.numbers.0 m ∙ c.loop-rest.invariant.2 m,
      c.in-Ok.ensures.numbers.1 ∙ c.loop-rest.invariant.3,
    )

pub returns-clause-put : goal.returns-clause-put
returns-clause-put c = λ contents stored plain stands name.
    all_put contents stored plain c.args.items.now c.loop-rest.self c.loop-rest.olds.items c.loop-rest.rest.now (omega (arith, c.in_default.len_below)) (c.loop-rest.invariant.0 contents stored plain stands name)
