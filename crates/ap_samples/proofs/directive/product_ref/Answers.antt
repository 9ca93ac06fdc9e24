use Rattle.std.proofs.Common.{◌≡◌, Some, None, refl}
use Rattle.ap_samples.specs.Directives.{folded_path, former, latter, number, ref_directive}
use Rattle.ap_samples.proofs.directive.product_ref.Goals as goal

pub returns-in_default : goal.returns-in_default
unfolding ref_directive
returns-in_default c =
    let none : folded_path (former c.args.argument.now) ≡ None = cc (c.in_ok-path.ensures, c.split_last.ensures.before, c.in_default.is) in
    rw none refl

pub returns-in_default-number : goal.returns-in_default-number
unfolding ref_directive
returns-in_default-number c =
    let some : folded_path (former c.args.argument.now) ≡ Some c.in-Some.path = cc (c.in_ok-path.ensures, c.split_last.ensures.before, c.in-Some.is) in
    let none : number (latter c.args.argument.now) ≡ None = cc (c.number.ensures, c.split_last.ensures.behind, c.in_default-number.is) in
    rw (some, none) refl

pub returns : goal.returns
unfolding ref_directive
returns c =
    let some : folded_path (former c.args.argument.now) ≡ Some c.in-Some.path = cc (c.in_ok-path.ensures, c.split_last.ensures.before, c.in-Some.is) in
    let name : number (latter c.args.argument.now) ≡ Some c.in-Some-number.sub = cc (c.number.ensures, c.split_last.ensures.behind, c.in-Some-number.is) in
    rw (some, name) refl
