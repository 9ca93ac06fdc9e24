use Rattle.std.proofs.Common.{◌≡◌, ℕ, ◌-◌, ◌≤◌, length, get_or, take, drop, ap, ◌∙◌, sym, subst}
use Rattle.slab.specs.Slab.{get}
use Rattle.ap_content.specs.Counting.{kid_times, lowered}
use Rattle.ap_content.proofs.Totals.{lowered-step, lowered-left, cons-again}
use Rattle.ap_content.proofs.slots.lower_all.Goals as goal

pub loop-rest-preserved : goal.loop-rest-preserved
loop-rest-preserved c =
    let rest = c.loop-rest.rest.now in
    let old = c.loop-rest.slots in
    let new = c.lower_and_list.new.slots in
    let first = get_or rest 0 (record { 0 = 0 }) in
    let later = take (length rest - 1) (drop 1 rest) in
    let all = cons-again (record { 0 = 0 }) rest c.in-len1-up.len_at_least in
    let here : (n : ℕ) → n ≡ first.0 → get new n ≡ lowered 1 (get old n) =
    λ n same. subst (λ m. get new m ≡ lowered 1 (get old m)) (sym same) c.lower_and_list.ensures.here in (
      λ n. lowered-step first.0 n (kid_times n later) (get old n) (get new n) (here n) (c.lower_and_list.ensures.others n)
          ∙ ap (λ xs. lowered (kid_times n xs) (get old n)) all
          ∙ c.loop-rest.invariant.0 n,
      λ n. lowered-left first.0 n (kid_times n later) (get old n) (get new n) (here n) (c.lower_and_list.ensures.others n)
          (λ x e. subst (λ xs. kid_times n xs ≤ x.parents) (sym all) (c.loop-rest.invariant.1 n x e)),
      c.lower_and_list.ensures.listed,
    )
