-- Places of job ids in a list.
use Rattle.std.specs.Prelude.{ℕ, List, [], slice_index_or}
use Rattle.ap_text.specs.declared.job_id.JobId.{JobId}

-- an id of nothing
abbrev pub nobody : JobId
nobody = record { source = []; key = []; platform = [] }

-- the id at a place
abbrev pub name_at : List JobId → ℕ → JobId
name_at ids i = slice_index_or ids i nobody
