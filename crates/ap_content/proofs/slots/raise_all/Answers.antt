use Rattle.std.proofs.Common.{◌≡◌, Some, ◌+◌, ◌-◌, ◌^◌, length, get_or, take, drop, ap, ◌∙◌, sym, subst}
use Rattle.slab.specs.Slab.{get}
use Rattle.ap_content.specs.Counting.{kid_times, raised, one_if}
use Rattle.ap_content.proofs.Totals.{raised-step, raised-room, cons-again, one_if-same}
use Rattle.ap_content.proofs.slots.raise_all.Goals as goal

pub loop-rest-preserved : goal.loop-rest-preserved
loop-rest-preserved c = λ n.
    let rest = c.loop-rest.rest.now in
    let first = get_or rest 0 (record { 0 = 0 }) in
    let all = cons-again (record { 0 = 0 }) rest c.in-len1-up.len_at_least in
    raised-step first.0 n (kid_times n (take (length rest - 1) (drop 1 rest))) (get c.loop-rest.slots n) (get c.raise.new.slots n)
    (λ same. subst (λ m. get c.raise.new.slots m ≡ raised 1 (get c.loop-rest.slots m)) (sym same) c.raise.ensures.here) (λ apart. c.raise.ensures.others n apart)
    ∙ ap (λ xs. raised (kid_times n xs) (get c.loop-rest.slots n)) all
    ∙ c.loop-rest.invariant n

pub raise-requires : goal.raise-requires
raise-requires c = λ x here.
    let rest = c.loop-rest.rest.now in
    let first = get_or rest 0 (record { 0 = 0 }) in
    let all = cons-again (record { 0 = 0 }) rest c.in-len1-up.len_at_least in
    let t = kid_times first.0 (take (length rest - 1) (drop 1 rest)) in
    let e : raised (1 + t) (Some x) ≡ raised (kid_times first.0 c.args.kids.now) (get c.args.slots.now first.0) =
    ap (λ m. raised (m + t) (Some x)) (sym (one_if-same first.0))
    ∙ ap (λ s. raised (one_if first.0 first.0 + t) s) (sym here)
    ∙ ap (λ xs. raised (kid_times first.0 xs) (get c.loop-rest.slots first.0)) all
    ∙ c.loop-rest.invariant first.0 in
    raised-room t (kid_times first.0 c.args.kids.now) x (get c.args.slots.now first.0) (2 ^ 64) e (λ y there. c.requires first.0 y there)
