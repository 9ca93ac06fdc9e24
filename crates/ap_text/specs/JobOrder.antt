-- The order of job ids.
use Rattle.std.specs.Prelude.{Bool}
use Rattle.std.specs.declared.cmp.Ordering.{Ordering}
use Rattle.std.specs.Ordering.{ordering_then, eq_by_cmp}
use Rattle.std.specs.Cmp.{IsTotalOrder, IsEquivalence, then_total, on_total, eq_by_cmp_equiv}
use Rattle.std.specs.Cmp.Lexicographic.{nat_list_cmp_total}
use Rattle.ap_text.specs.Order.{bytes_cmp}
use Rattle.ap_text.specs.declared.job_id.JobId.{JobId}

-- by source, key and platform, each by its bytes
abbrev pub job_cmp : JobId → JobId → Ordering
job_cmp a b = ordering_then (bytes_cmp a.source b.source)
    (ordering_then (bytes_cmp a.key b.key) (bytes_cmp a.platform b.platform))

-- two ids are the same
abbrev pub same_job : JobId → JobId → Bool
same_job = eq_by_cmp job_cmp

pub job_total : IsTotalOrder job_cmp
job_total = then_total (on_total (λ (a : JobId). a.source) nat_list_cmp_total)
    (then_total (on_total (λ (a : JobId). a.key) nat_list_cmp_total) (on_total (λ (a : JobId). a.platform) nat_list_cmp_total))

pub same_equivalence : IsEquivalence same_job
same_equivalence = eq_by_cmp_equiv job_total
