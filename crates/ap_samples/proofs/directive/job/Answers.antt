use Rattle.std.proofs.Common.{◌≡◌, Some, None, refl}
use Rattle.ap_samples.specs.Directives.{folded_path, name_that_is, former, latter, job_directive}
use Rattle.ap_samples.proofs.directive.job.Goals as goal

pub returns-in_default : goal.returns-in_default
unfolding job_directive
returns-in_default c =
    let none : folded_path (former c.args.argument.now) ≡ None = cc (c.in_ok-source.ensures, c.split_last.ensures.before, c.in_default.is) in
    rw none refl

pub returns-in_default-2 : goal.returns-in_default-2
unfolding job_directive
returns-in_default-2 c =
    let some : folded_path (former c.args.argument.now) ≡ Some c.in-Some.source = cc (c.in_ok-source.ensures, c.split_last.ensures.before, c.in-Some.is) in
    let none : name_that_is (latter c.args.argument.now) ≡ None = cc (c.in_ok-key.ensures, c.split_last.ensures.behind, c.in_default-2.is) in
    rw (some, none) refl

pub returns : goal.returns
unfolding job_directive
returns c =
    let some : folded_path (former c.args.argument.now) ≡ Some c.in-Some.source = cc (c.in_ok-source.ensures, c.split_last.ensures.before, c.in-Some.is) in
    let name : name_that_is (latter c.args.argument.now) ≡ Some c.in-Some-2.key = cc (c.in_ok-key.ensures, c.split_last.ensures.behind, c.in-Some-2.is) in
    rw (some, name) refl
