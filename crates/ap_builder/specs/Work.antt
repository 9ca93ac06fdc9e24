-- The work that builders are asked for.
use Rattle.ap_text.specs.declared.job_id.JobId.{JobId}
use Rattle.ap_builder.specs.declared.work.JobInput.{JobInput}

-- the id of the job of an input
abbrev pub job_of : JobInput → JobId
job_of input = record { source = input.path; key = input.key; platform = input.platform }
