-- The orders of rows with numbers.
use Rattle.std.specs.Prelude.{List, map}
use Rattle.std.specs.List.Sorted.{IsStrictlySortedBy}
use Rattle.std.specs.declared.cmp.Ordering.{Ordering}
use Rattle.ap_text.specs.Order.{bytes_cmp}
use Rattle.ap_text.specs.JobOrder.{job_cmp}
use Rattle.ap_rows.specs.declared.row.SourceRow.{SourceRow}
use Rattle.ap_rows.specs.declared.row.CreateRow.{CreateRow}
use Rattle.ap_rows.specs.declared.row.JobRow.{JobRow}

abbrev pub by_path : SourceRow → SourceRow → Ordering
by_path a b = bytes_cmp a.path b.path

abbrev pub by_source : CreateRow → CreateRow → Ordering
by_source a b = bytes_cmp a.source b.source

abbrev pub by_id : JobRow → JobRow → Ordering
by_id a b = job_cmp a.id b.id

-- the rows rise by their keys
abbrev pub SourcesRise : List SourceRow → Type 0
SourcesRise rows = IsStrictlySortedBy bytes_cmp (map (λ row. row.path) rows)

abbrev pub CreatesRise : List CreateRow → Type 0
CreatesRise rows = IsStrictlySortedBy bytes_cmp (map (λ row. row.source) rows)

abbrev pub JobsRise : List JobRow → Type 0
JobsRise rows = IsStrictlySortedBy job_cmp (map (λ row. row.id) rows)
