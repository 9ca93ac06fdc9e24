use Rattle.std.proofs.Common.{◌≡◌, ◌+◌, ◌∙◌, ◌++◌, ◌∷◌, [], suc, true, false, sym, subst, ap, fold, take, drop, arith}
use Rattle.std.proofs.lemmas.List.{take_all}
use Rattle.ap_content.specs.Entries.{Stands}
use Rattle.ap_db.specs.Lawful.{is_lawful, is_lawful_item, after_plain}
use Rattle.ap_db.specs.Listed.{AreAll}
use Rattle.ap_db.specs.Said.{Says, ItemIs}
use Rattle.ap_db.proofs.LawfulSteps.{SoFar, none_so_far, one_further, not_lawful, all_lawful, around_place, one_more_taken}
use Rattle.ap_db.proofs.state.State.lawful.Goals as goal

pub loop-at-init : goal.loop-at-init
loop-at-init c = (λ stored stands. none_so_far (Stands c.args.contents.now) stored, omega arith)

pub returns-then-not-is_lawful_item : goal.returns-then-not-is_lawful_item
returns-then-not-is_lawful_item c stored stands =
    let items = c.as_slice-items.result.now in
    let at = c.loop-at.at in
    let item = c.index-items-at.result in
    let around : items ≡ take at items ++ item ∷ drop (suc at) items =
    around_place items at item c.loop-at-test.true ∙ ap (λ x. take at items ++ x ∷ drop (suc at) items) (sym c.index-items-at.is) in
    subst (λ l. Says false (AreAll (ItemIs (Stands c.args.contents.now)) l) (is_lawful stored)) (sym around ∙ c.as_slice-items.ensures)
    (not_lawful (Stands c.args.contents.now) stored (take at items) item (drop (suc at) items)
    (λ plain are. subst (λ b. Says b (ItemIs (Stands c.args.contents.now) item) (is_lawful_item stored (fold after_plain stored.tables plain))) c.if-not-is_lawful_item.true (c.is_lawful_item.ensures stored plain stands are)))

pub loop-at-preserved : goal.loop-at-preserved
loop-at-preserved c =
    let items = c.as_slice-items.result.now in
    let at = c.loop-at.at in
    let item = c.index-items-at.result in
    let next : at + 1 ≡ suc at = omega arith in
    let more : take (at + 1) items ≡ take at items ++ item ∷ [] =
    ap (λ n. take n items) next ∙ one_more_taken items at item c.loop-at-test.true ∙ ap (λ x. take at items ++ x ∷ []) (sym c.index-items-at.is) in (
      λ stored stands.
          let so_far = c.loop-at.invariant.0 stored stands in
          subst (SoFar (Stands c.args.contents.now) stored) (sym more)
          (one_further (Stands c.args.contents.now) stored (take at items) item so_far
          (subst (λ b. Says b (ItemIs (Stands c.args.contents.now) item) (is_lawful_item stored (fold after_plain stored.tables so_far.plain))) c.if-not-is_lawful_item.false
          (c.is_lawful_item.ensures stored so_far.plain stands so_far.are))),
      omega (arith, c.loop-at-test.true),
    )

pub returns : goal.returns
returns c stored stands =
    let items = c.as_slice-items.result.now in
    let all = take_all c.loop-at.at items c.loop-at-test.false in
    subst (λ l. Says true (AreAll (ItemIs (Stands c.args.contents.now)) l) (is_lawful stored)) c.as_slice-items.ensures
    (all_lawful (Stands c.args.contents.now) stored items (subst (SoFar (Stands c.args.contents.now) stored) all (c.loop-at.invariant.0 stored stands)))
