-- Counts and lengths fit where the whole spelling does.
use Rattle.std.proofs.Common.{◌≤◌, ◌<◌, ℕ, List, [], ◌∷◌, ◌++◌, length, All, arith}
use Rattle.std.proofs.lemmas.List.{length-append}
use Rattle.std.specs.List.{flat_map}
use Rattle.std.proofs.lemmas.List.Folds.{length-flat_map-take}
use Rattle.ap_content.specs.declared.node.Number.{Number}
use Rattle.ap_rows.specs.Fields.{number_field, run_field, list_field}
use Rattle.ap_rows.specs.Typed.{Fits32}
use Rattle.ap_rows.specs.Spelling.{thing_field, dependency_field, desc_field, folder_field, created_field, item_field}
use Rattle.ap_rows.specs.declared.job.Created.TheVariants.{Jobs}
use Rattle.ap_rows.specs.declared.change.Item.TheVariants.{Define, PutFolders}
use Rattle.ap_rows.specs.declared.job.DependencyRow.{DependencyRow}
use Rattle.ap_rows.specs.declared.job.JobDesc.{JobDesc}
use Rattle.ap_rows.specs.declared.row.FolderRow.{FolderRow}

module _ {X : Type 0} (field : X → List ℕ) where
  -- each item has a byte
  pub count-le : ((x : X) → 1 ≤ length (field x)) → (xs : List X) → length xs ≤ length (flat_map field xs)
  count-le some [] = omega arith
  count-le some (x ∷ xs) = omega (arith, length-append (field x) (flat_map field xs), some x, count-le some xs)

  pub each-le : (most : ℕ) (xs : List X) → length (flat_map field xs) < most → All (λ x. length (field x) < most) xs
  each-le most xs h k d within = omega (arith, length-flat_map-take field xs k d within)

  pub list-count : ((x : X) → 1 ≤ length (field x)) → (xs : List X) → Fits32 (length (list_field 4 field xs)) → Fits32 (length xs)
  list-count some xs h = omega (arith, length-append (number_field 4 (length xs)) (flat_map field xs), count-le some xs)

pub things-count : (front : List ℕ) (kids : List Number) → Fits32 (length (front ++ list_field 4 thing_field kids)) → Fits32 (length kids)
things-count front kids h = list-count thing_field (λ n. omega arith) kids (omega (arith, length-append front (list_field 4 thing_field kids)))

pub deps-count : (front : List ℕ) (deps : List DependencyRow) → Fits32 (length (front ++ list_field 4 dependency_field deps)) → Fits32 (length deps)
deps-count front deps h = list-count dependency_field (λ dep. omega arith) deps (omega (arith, length-append front (list_field 4 dependency_field deps)))

pub jobs-count : (jobs : List JobDesc) → Fits32 (length (created_field (Jobs jobs))) → Fits32 (length jobs)
jobs-count jobs h = list-count desc_field (λ desc. omega arith) jobs (omega arith)

pub jobs-fit : (jobs : List JobDesc) → Fits32 (length (created_field (Jobs jobs))) → All (λ desc. Fits32 (length (desc_field desc))) jobs
jobs-fit jobs h = each-le desc_field 4294967296 jobs (omega (arith, length-append (number_field 4 (length jobs)) (flat_map desc_field jobs)))

pub folders-count : (rows : List FolderRow) → Fits32 (length (item_field (PutFolders rows))) → Fits32 (length rows)
folders-count rows h = list-count folder_field (λ row. omega arith) rows (omega arith)

pub kids-count : (tag : ℕ) (text : List ℕ) (kids : List Number) → Fits32 (length (item_field (Define tag text kids))) → Fits32 (length kids)
kids-count tag text kids h = things-count (run_field 4 text) kids (omega arith)
