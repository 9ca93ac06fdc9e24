use Rattle.std.proofs.Common.{Ok, Err, sym, ap, ◌∙◌}
use Rattle.ap_config.proofs.Grammars.{path-accepted, path-fault}
use Rattle.ap_config.proofs.judge.read_path.Goals as goal

pub returns-in-Ok : goal.returns-in-Ok
returns-in-Ok c = rw (← c.as_slice.ensures, path-accepted c.as_slice.result.now c.in-Ok.ensures.1) (ap Ok (sym c.in-Ok.ensures.0))

pub returns-in-Err : goal.returns-in-Err
returns-in-Err c memory =
    let cause = c.path_fault.ensures memory in
    path-fault c.args.text.now c.as_slice.result.now c.in-Err.fault c.as_slice.ensures cause.0 c.in-Err.ensures ∙ ap Err (sym cause.1)
