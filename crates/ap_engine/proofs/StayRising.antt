-- Rows still rise after whole changes.
use Rattle.std.proofs.Common.{ℕ, not, List, [], ◌∷◌}
use Rattle.std.specs.Prelude.{bytes_eq, take}
use Rattle.std.specs.Cmp.Lexicographic.{nat_list_cmp_total}
use Rattle.ap_text.specs.Order.{bytes_cmp}
use Rattle.ap_text.specs.JobOrder.{job_cmp, job_total}
use Rattle.ap_db.specs.Tables.{PlainSource, PlainCreate, PlainJob, PlainTables}
use Rattle.ap_db.specs.Changes.{Whole, put_folders, put_source, remove_source, put_create, put_job, stays_beside, after, after_all}
use Rattle.ap_db.specs.States.{TablesRise}
use Rattle.ap_db.specs.Rising.{put_keeps, filter_keeps}
use Rattle.ap_engine.proofs.Steps.{kept_by_fronts}

pub after_rises : (change : Whole) (t : PlainTables) → TablesRise t → TablesRise (after t change)
after_rises (put_folders rows) t rise = record { sources = rise.sources; creates = rise.creates; jobs = rise.jobs }
after_rises (put_source row) t rise = record { sources = put_keeps bytes_cmp nat_list_cmp_total (λ row. row.path) row t.sources rise.sources; creates = rise.creates; jobs = rise.jobs }
after_rises (remove_source path) t rise = record {
  sources = filter_keeps bytes_cmp nat_list_cmp_total (λ (row : PlainSource). row.path) (λ row. not (bytes_eq row.path path)) t.sources rise.sources;
  creates = filter_keeps bytes_cmp nat_list_cmp_total (λ (row : PlainCreate). row.source) (λ row. not (bytes_eq row.source path)) t.creates rise.creates;
  jobs = filter_keeps job_cmp job_total (λ (row : PlainJob). row.id) (λ row. not (bytes_eq row.id.source path)) t.jobs rise.jobs;
}
after_rises (put_create row) t rise = record {
  sources = rise.sources;
  creates = put_keeps bytes_cmp nat_list_cmp_total (λ row. row.source) row t.creates rise.creates;
  jobs = filter_keeps job_cmp job_total (λ (row : PlainJob). row.id) (stays_beside row) t.jobs rise.jobs;
}
after_rises (put_job row) t rise = record { sources = rise.sources; creates = rise.creates; jobs = put_keeps job_cmp job_total (λ row. row.id) row t.jobs rise.jobs }

pub all_rise : (changes : List Whole) (t : PlainTables) → TablesRise t → TablesRise (after_all t changes)
all_rise [] t rise = rise
all_rise (change ∷ changes) t rise = all_rise changes (after t change) (after_rises change t rise)

-- whatever the changes, rows rise after each front of them
pub fronts_rise : (changes : List Whole) (t : PlainTables) → TablesRise t → (k : ℕ) → TablesRise (after_all t (take k changes))
fronts_rise changes t rise k = kept_by_fronts TablesRise changes (λ change has now. after_rises change now) k t rise
