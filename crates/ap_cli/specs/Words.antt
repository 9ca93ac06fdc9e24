-- The command lines.
use Rattle.std.specs.Prelude.{◌≡◌, ℕ, List, [], ◌∷◌, map, codes, string_bytes, String, Option, IfSome}
use Rattle.std.specs.declared.alloc.Global.{Global}
use Rattle.ap_text.specs.PathRules.{IsRelPath}
use Rattle.ap_scan.specs.Winners.{Files}

-- the command line `batch CONFIG`
pub record IsBatch (words : List (String Global)) (config : List ℕ) : Type 0 where
  pub spelled : map string_bytes words ≡ codes "batch" ∷ config ∷ []
  pub path : IsRelPath config

-- the words are `batch CONFIG`, and where the tree tells its files, this holds of the path and the files
abbrev pub OnBatch : List (String Global) → Option Files → (List ℕ → Files → Type 0) → Type 0
OnBatch words tree P = (config : List ℕ) × IsBatch words config × IfSome tree (λ files. P config files)
