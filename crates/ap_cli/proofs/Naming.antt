-- What holds of a path holds of the command line that names it.
use Rattle.std.proofs.Common.{◌≡◌, ℕ, List, sym, ◌∙◌, subst}
use Rattle.std.specs.Prelude.{◌∷◌, [], codes, String, Option, Some, None, Result, Ok, Err, IfSome, OnOk, IfErr}
use Rattle.std.specs.declared.alloc.Global.{Global}
use Rattle.ap_config.specs.declared.config.Config.{Config}
use Rattle.ap_config.specs.declared.offer.Offer.{Offer}
use Rattle.ap_scan.specs.Winners.{Files}
use Rattle.ap_cli.specs.Causes.{IsCause, IsCauseFor}
use Rattle.ap_cli.specs.Project.{config_at}
use Rattle.ap_cli.specs.Words.{IsBatch, OnBatch}
use Rattle.ap_cli.specs.Working.{Configures}
use Rattle.ap_cli.specs.declared.stop.Stop.{Stop}

-- a command line names one path
same_path : (words : List (String Global)) (path other : List ℕ) → IsBatch words path → IsBatch words other → path ≡ other
same_path words path other is also = let both : codes "batch" ∷ path ∷ [] ≡ codes "batch" ∷ other ∷ [] = sym is.spelled ∙ also.spelled in cc both

module _ (words : List (String Global)) (path : List ℕ) (is : IsBatch words path) (tree : Option Files) where
  -- of the path, its files and a store's file
  pub named : (store : Option (List ℕ)) (Sound : List ℕ → Type 0) (P : List ℕ → List ℕ → Files → Type 0) → IfSome store (λ file. Sound file → IfSome tree (λ files. P file path files))
      → IfSome store (λ file. Sound file → OnBatch words tree (λ path files. P file path files))
  named None Sound P given = tt
  named (Some file) Sound P given = λ sound. (path, is, given sound)

  -- of the path and a store's file
  pub named_alone : (store : Option (List ℕ)) (Sound : List ℕ → Type 0) (P : List ℕ → List ℕ → Type 0) → IfSome store (λ file. Sound file → P file path)
      → IfSome store (λ file. Sound file → (path : List ℕ) × IsBatch words path × P file path)
  named_alone None Sound P given = tt
  named_alone (Some file) Sound P given = λ sound. (path, is, given sound)

  -- its configuration
  pub configured_by : (offers : List Offer) (config : Config) → Configures offers path tree config → OnBatch words tree (λ path files. (config : Config) × (config_at offers path files ≡ Ok config))
  configured_by offers config configures = (path, is, told tree configures)
    where
      told : (tree : Option Files) → Configures offers path tree config → IfSome tree (λ files. (config : Config) × (config_at offers path files ≡ Ok config))
      told None configures = tt
      told (Some files) configures = (config, configures)

  -- why it was refused
  pub caused_for : (offers : List Offer) (store : Option (List ℕ)) (limit : ℕ) (stop : Stop) → IsCause offers path tree store limit stop → IsCauseFor words offers tree store limit stop
  caused_for offers store limit stop caused = record { each = λ other also. subst (λ (p : List ℕ). IsCause offers p tree store limit stop) (same_path words path other is also) caused }

-- ---- what follows of one run from another statement

-- of the path and its files
on_batch_too : (words : List (String Global)) (tree : Option Files) (P Q : List ℕ → Files → Type 0) → ((path : List ℕ) (files : Files) → P path files → Q path files) → OnBatch words tree P → OnBatch words tree Q
on_batch_too words None P Q follows (path, is, given) = (path, is, tt)
on_batch_too words (Some files) P Q follows (path, is, given) = (path, is, follows path files given)

-- and of a store's file
pub named_too : (words : List (String Global)) (tree : Option Files) (store : Option (List ℕ)) (Sound : List ℕ → Type 0) (P Q : List ℕ → List ℕ → Files → Type 0)
    → ((file path : List ℕ) (files : Files) → P file path files → Q file path files)
    → IfSome store (λ file. Sound file → OnBatch words tree (λ path files. P file path files)) → IfSome store (λ file. Sound file → OnBatch words tree (λ path files. Q file path files))
named_too words tree None Sound P Q follows given = tt
named_too words tree (Some file) Sound P Q follows given = λ sound. on_batch_too words tree (P file) (Q file) (follows file) (given sound)

-- ---- whatever the answer

pub on_ok : {X E : Type 0} (r : Result X E) (P : Type 0) → P → OnOk r P
on_ok (Ok x) P given = given
on_ok (Err e) P given = tt

pub on_err : {X E : Type 0} (r : Result X E) (P : E → Type 0) → ((e : E) → P e) → IfErr r P
on_err (Ok x) P given = tt
on_err (Err e) P given = given e
