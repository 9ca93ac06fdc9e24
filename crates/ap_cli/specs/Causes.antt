-- Why a run ends before its report is written.
use Rattle.std.specs.Prelude.{◌≡◌, ◌<◌, ◌+◌, ℕ, List, String, Option, Err, IfSome}
use Rattle.std.specs.declared.alloc.Global.{Global}
use Rattle.ap_config.specs.declared.offer.Offer.{Offer}
use Rattle.ap_db.specs.Opened.{IsBadStore}
use Rattle.ap_scan.specs.Winners.{Files}
use Rattle.ap_cli.specs.Project.{config_at, IsOver}
use Rattle.ap_cli.specs.Words.{IsBatch}
use Rattle.ap_cli.specs.declared.stop.Stop.{Stop}
use Rattle.ap_cli.specs.declared.stop.Stop.TheVariants.{Usage, Configuration, Tree, Cache, Disk, Output, Memory, BadStore, Limit, Full, Unbuilt}

-- what the configuration at the path, its winners, or a store of this limit say of it: the first fault of the text, the
-- first limit that is passed, the first bad record, or a record that doesn't fit
abbrev pub IsCause : List Offer → List ℕ → Option Files → Option (List ℕ) → ℕ → Stop → Type 0
IsCause offers path tree before limit (Configuration why) = IfSome tree (λ files. config_at offers path files ≡ Err why)
IsCause offers path tree before limit (Limit which count) = IfSome tree (λ files. IsOver offers path files which count)
IsCause offers path tree before limit (BadStore place offset) = IfSome before (IsBadStore place offset)
IsCause offers path tree before limit (Full length wanted) = limit < length + wanted
IsCause offers path tree before limit Usage = Unit {0}
IsCause offers path tree before limit Tree = Unit {0}
IsCause offers path tree before limit Cache = Unit {0}
IsCause offers path tree before limit Disk = Unit {0}
IsCause offers path tree before limit Output = Unit {0}
IsCause offers path tree before limit Memory = Unit {0}
IsCause offers path tree before limit Unbuilt = Unit {0}

-- it is so of the path that the words name, where they name one
pub record IsCauseFor (words : List (String Global)) (offers : List Offer) (tree : Option Files) (before : Option (List ℕ)) (limit : ℕ) (stop : Stop) : Type 0 where
  pub each : (path : List ℕ) → IsBatch words path → IsCause offers path tree before limit stop
