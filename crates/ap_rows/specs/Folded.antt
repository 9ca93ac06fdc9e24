-- Whether the paths of a change are folded that have to be: those of sources and of job ids. A folder's path
-- and the name of a source's file stay as they were written.
use Rattle.std.specs.Prelude.{Bool, true, List, ◌&&◌}
use Rattle.std.specs.List.{list_all}
use Rattle.ap_text.specs.declared.job_id.JobId.{JobId}
use Rattle.ap_rows.specs.Readers.{is_folded}
use Rattle.ap_rows.specs.declared.job.DependencyRow.{DependencyRow}
use Rattle.ap_rows.specs.declared.job.JobDesc.{JobDesc}
use Rattle.ap_rows.specs.declared.job.Created.{Created}
use Rattle.ap_rows.specs.declared.job.Created.TheVariants.{Jobs, Builder, DuplicateKey, TooLarge}
use Rattle.ap_rows.specs.declared.row.SourceRow.{SourceRow}
use Rattle.ap_rows.specs.declared.row.CreateRow.{CreateRow}
use Rattle.ap_rows.specs.declared.row.JobRow.{JobRow}
use Rattle.ap_rows.specs.declared.row.JobResult.{JobResult}
use Rattle.ap_rows.specs.declared.row.JobResult.TheVariants.{Processed, Cycle, Missing, DepFailed}
use Rattle.ap_rows.specs.declared.change.Item.{Item}
use Rattle.ap_rows.specs.declared.change.Item.TheVariants.{Define, Drop, PutSource, RemoveSource, PutCreate, RemoveCreate, PutJob, RemoveJob, PutFolders}

abbrev pub is_folded_job : JobId → Bool
is_folded_job job = is_folded job.source

abbrev pub is_folded_dependency : DependencyRow → Bool
is_folded_dependency dep = is_folded_job dep.job

abbrev pub is_folded_desc : JobDesc → Bool
is_folded_desc desc = list_all is_folded_dependency desc.deps

abbrev pub is_folded_created : Created → Bool
is_folded_created (Jobs jobs) = list_all is_folded_desc jobs
is_folded_created (Builder builder code) = true
is_folded_created (DuplicateKey key platform) = true
is_folded_created TooLarge = true

abbrev pub is_folded_result : JobResult → Bool
is_folded_result (Processed input came) = true
is_folded_result Cycle = true
is_folded_result (Missing d) = is_folded_job d
is_folded_result (DepFailed d) = is_folded_job d

abbrev pub is_folded_source : SourceRow → Bool
is_folded_source row = is_folded row.path

abbrev pub is_folded_create : CreateRow → Bool
is_folded_create row = is_folded row.source && is_folded_created row.created

abbrev pub is_folded_job_row : JobRow → Bool
is_folded_job_row row = is_folded_job row.id && is_folded_result row.result

abbrev pub is_folded_item : Item → Bool
is_folded_item (Define tag text kids) = true
is_folded_item (Drop thing) = true
is_folded_item (PutSource row) = is_folded_source row
is_folded_item (RemoveSource path) = is_folded path
is_folded_item (PutCreate row) = is_folded_create row
is_folded_item (RemoveCreate path) = is_folded path
is_folded_item (PutJob row) = is_folded_job_row row
is_folded_item (RemoveJob id) = is_folded_job id
is_folded_item (PutFolders rows) = true

-- each path of the change that has to be folded is
abbrev pub are_folded : List Item → Bool
are_folded items = list_all is_folded_item items
