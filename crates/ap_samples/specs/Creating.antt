-- The jobs that the four builders with directives create.
use Rattle.std.specs.Prelude.{ℕ, ℤ, pos, Bool, true, false, not, ◌&&◌, nat_lt, List, [], ◌∷◌, map, count_by, Option, Some, None, unwrap_or, bytes_eq, if◌then◌else◌}
use Rattle.std.specs.List.{list_any, filter_map}
use Rattle.std.specs.Str.Lines.{lines}
use Rattle.ap_rows.specs.declared.job.JobDesc.{JobDesc}
use Rattle.ap_rows.specs.declared.job.DependencyRow.{DependencyRow}
use Rattle.ap_builder.specs.declared.work.CreateInput.{CreateInput}
use Rattle.ap_builder.specs.declared.work.CreateAnswer.{CreateAnswer}
use Rattle.ap_builder.specs.declared.work.CreateAnswer.TheVariants.{Jobs, Failed}
use Rattle.ap_samples.specs.declared.directive.Directive.{Directive}
use Rattle.ap_samples.specs.declared.directive.Directive.TheVariants.{Job, Key, Priority, Fail, Malformed}
use Rattle.ap_samples.specs.Directives.{directives_in}

-- ---- what a directive says, if it is of the kind

abbrev pub key_in : Directive → Option (List ℕ)
key_in (Key name) = Some name
key_in directive = None

abbrev pub priority_in : Directive → Option ℤ
priority_in (Priority priority) = Some priority
priority_in directive = None

abbrev pub code_in : Directive → Option ℕ
code_in (Fail code) = Some code
code_in directive = None

-- a dependency on the job for this platform
abbrev pub dependency_in : List ℕ → Directive → Option DependencyRow
dependency_in platform (Job kind source key) = Some (record { kind = kind; job = record { source = source; key = key; platform = platform } })
dependency_in platform directive = None

-- ---- which sources have jobs

abbrev pub is_malformed_lem : Directive → Bool
is_malformed_lem Malformed = true
is_malformed_lem directive = false

abbrev pub is_key_lem : Directive → Bool
is_key_lem (Key name) = true
is_key_lem directive = false

abbrev pub is_priority_lem : Directive → Bool
is_priority_lem (Priority priority) = true
is_priority_lem directive = false

abbrev pub is_failure_lem : Directive → Bool
is_failure_lem (Fail code) = true
is_failure_lem directive = false

-- no line is malformed, and a key, a priority and a failure stand once at most
abbrev pub is_well_formed_lem : List Directive → Bool
is_well_formed_lem directives = not (list_any is_malformed_lem directives) && not (nat_lt 1 (count_by is_key_lem directives))
    && not (nat_lt 1 (count_by is_priority_lem directives)) && not (nat_lt 1 (count_by is_failure_lem directives))

-- ---- jobs

abbrev pub first : {X : Type 0} → List X → Option X
first [] = None
first (x ∷ xs) = Some x

-- the version that the input first lists for a builder, or 1
abbrev pub listed_version : List (List ℕ × ℕ) → List ℕ → ℕ
listed_version [] builder = 1
listed_version (listed ∷ builders) builder = if bytes_eq listed.0 builder then listed.1 else listed_version builders builder

-- the job for a platform, whose key is the builder's name unless a directive says another
unfoldable pub job_by : List ℕ → CreateInput → List Directive → List ℕ → JobDesc
job_by builder input directives platform = record {
  builder = builder;
  version = listed_version input.builders builder;
  platform = platform;
  key = unwrap_or (first (filter_map key_in directives)) builder;
  priority = unwrap_or (first (filter_map priority_in directives)) (pos 0);
  params = [];
  deps = filter_map (dependency_in platform) directives;
}

-- one job for each platform, or the failure 1 where a line is malformed
abbrev pub created_from : List ℕ → CreateInput → List Directive → CreateAnswer
created_from builder input directives = if is_well_formed_lem directives then Jobs (map (job_by builder input directives) input.platforms) else Failed 1

abbrev pub created_by : List ℕ → CreateInput → CreateAnswer
created_by builder input = created_from builder input (directives_in (lines input.bytes))
