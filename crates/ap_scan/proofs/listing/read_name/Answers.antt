use Rattle.std.proofs.Common.{◌≡◌, ◌≢◌, ℕ, List, true, false, Ok, Err, sym, ◌∙◌, ap}
use Rattle.std.specs.Prelude.{Option, Some, None, MatchOption, IfOk, Result}
use Rattle.ap_text.specs.PathReading.{IsFirstBroken}
use Rattle.ap_text.specs.declared.memory.OutOfMemory.{OutOfMemory}
use Rattle.ap_text.specs.declared.path.PathFault.{PathFault}
use Rattle.ap_text.specs.declared.path.PathFault.TheVariants.{OutOfMemory as NoMemory}
use Rattle.ap_config.specs.Configuration.{is_path}
use Rattle.ap_config.proofs.Grammars.{path-accepted, path-refused}
use Rattle.ap_scan.proofs.listing.read_name.Goals as goal

none_read : (answer : Result (Option (List ℕ)) OutOfMemory) (name bytes : List ℕ) (fault : PathFault) → bytes ≡ name →
    IfOk answer (λ read. (read ≡ None) × (fault ≢ NoMemory)) → IsFirstBroken bytes fault →
    IfOk answer (λ read. MatchOption read (is_path name ≡ false) (λ path. (path ≡ name) × (is_path name ≡ true)))
none_read (Ok None) name bytes fault same none broken = ap is_path (sym same) ∙ path-refused bytes fault none.1 broken
none_read (Ok (Some path)) name bytes fault same none broken = cc none.0
none_read (Err error) name bytes fault same none broken = tt

pub returns-in-Ok : goal.returns-in-Ok
returns-in-Ok c = (c.in-Ok.ensures.0 ∙ c.as_slice.ensures, ap is_path (sym c.as_slice.ensures) ∙ path-accepted c.as_slice.result.now c.in-Ok.ensures.1)

pub returns-in-Err : goal.returns-in-Err
returns-in-Err c = none_read c.no_path.result c.args.name.now c.as_slice.result.now c.in-Err.fault c.as_slice.ensures c.no_path.ensures c.in-Err.ensures
