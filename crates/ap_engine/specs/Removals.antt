-- The items that remove job rows.
use Rattle.std.specs.Prelude.{ℕ, Bool, not, ◌&&◌, List, [], ◌∷◌, map, filter, Option, Some, None, bytes_eq}
use Rattle.std.specs.List.{list_any}
use Rattle.ap_text.specs.declared.job_id.JobId.{JobId}
use Rattle.ap_rows.specs.declared.job.JobDesc.{JobDesc}
use Rattle.ap_rows.specs.declared.job.Created.{Created}
use Rattle.ap_rows.specs.declared.job.Created.TheVariants.{Jobs, Builder, DuplicateKey, TooLarge}
use Rattle.ap_rows.specs.declared.row.CreateRow.{CreateRow}
use Rattle.ap_rows.specs.declared.row.JobRow.{JobRow}
use Rattle.ap_rows.specs.declared.change.Item.{Item}
use Rattle.ap_rows.specs.declared.change.Item.TheVariants.{RemoveCreate, RemoveJob}

-- one of these jobs of its source has the id's key and platform
abbrev pub is_job_of : List JobDesc → JobId → Bool
is_job_of jobs id = list_any (λ job. bytes_eq job.key id.key && bytes_eq job.platform id.platform) jobs

-- the jobs that a creation came to: none where it failed
abbrev pub jobs_created : Created → List JobDesc
jobs_created (Jobs jobs) = jobs
jobs_created (Builder builder code) = []
jobs_created (DuplicateKey key platform) = []
jobs_created TooLarge = []

-- the removals of job rows but those of these jobs
abbrev pub removals_but : List JobDesc → List JobRow → List Item
removals_but kept rows = map (λ row. RemoveJob row.id) (filter (λ row. not (is_job_of kept row.id)) rows)

-- of those of a source
abbrev pub removals : List ℕ → List JobDesc → List JobRow → List Item
removals source kept rows = removals_but kept (filter (λ row. bytes_eq row.id.source source) rows)

-- the removal of a source's creation, where it has one
abbrev pub creation_removed : List ℕ → Option CreateRow → List Item
creation_removed source None = []
creation_removed source (Some row) = RemoveCreate source ∷ []
