-- What a source's builders are asked, and the jobs that come of it.
use Rattle.std.specs.Prelude.{ℕ, Bool, List, [], ◌∷◌, map, Option, Some, None, if◌then◌else◌, ◌&&◌, bytes_eq}
use Rattle.std.specs.List.{list_any, flat_map}
use Rattle.std.specs.Ordering.{on}
use Rattle.ap_text.specs.declared.seen.Seen.{Seen}
use Rattle.ap_text.specs.declared.seen.Seen.TheVariants.{Bytes, Absent, TooLarge}
use Rattle.ap_text.specs.Order.{in_order}
use Rattle.ap_text.specs.JobOrder.{job_cmp}
use Rattle.ap_content.specs.Things.{Thing}
use Rattle.ap_config.specs.declared.config.Config.{Config}
use Rattle.ap_scan.specs.declared.results.Winner.{Winner}
use Rattle.ap_rows.specs.declared.job.JobDesc.{JobDesc}
use Rattle.ap_rows.specs.declared.job.Created.{Created}
use Rattle.ap_rows.specs.declared.job.Created.TheVariants.{Jobs as CreatedJobs, Builder, DuplicateKey, TooLarge as CreatedTooLarge}
use Rattle.ap_rows.specs.Inputs.{CreateFrom, create_thing}
use Rattle.ap_rows.specs.Jobs.{Job, id_of, jobs_of}
use Rattle.ap_builder.specs.declared.work.CreateAnswer.{CreateAnswer}
use Rattle.ap_builder.specs.declared.work.CreateAnswer.TheVariants.{Jobs, Failed}
use Rattle.ap_builder.specs.Meanings.{Meanings}
use Rattle.ap_builder.specs.Views.{create_view}
use Rattle.ap_sources.specs.Sources.{matching, sources, seen_at, reached}

-- what the builders of a source are asked to create jobs from
abbrev pub create_from : Meanings → Config → List Winner → List ℕ → CreateFrom
create_from builders config winners path = record {
  builders = map (λ builder. (builder.name, builder.version)) (matching config path);
  platforms = config.platforms;
  path = path;
  seen = seen_at winners path;
  reached = reached builders config winners path;
}

-- the create input of a source
abbrev pub create_input_of : Meanings → Config → List Winner → List ℕ → Thing
create_input_of builders config winners path = create_thing (create_from builders config winners path)

-- ---- what is created

-- a failed answer comes before what follows
abbrev pub failed_by : List ℕ → CreateAnswer → Option Created → Option Created
failed_by builder (Jobs jobs) rest = rest
failed_by builder (Failed code) rest = Some (Builder builder code)

-- the first builder that fails, with its code
abbrev pub first_failure : List (List ℕ × CreateAnswer) → Option Created
first_failure [] = None
first_failure (answer ∷ answers) = failed_by answer.0 answer.1 (first_failure answers)

-- two jobs have one key and platform
abbrev pub same_slot : JobDesc → JobDesc → Bool
same_slot a b = bytes_eq a.key b.key && bytes_eq a.platform b.platform

-- the first job with the key and platform of an earlier one
abbrev pub first_duplicate : List JobDesc → List JobDesc → Option Created
first_duplicate earlier [] = None
first_duplicate earlier (job ∷ jobs) =
    if list_any (same_slot job) earlier then Some (DuplicateKey job.key job.platform) else first_duplicate (job ∷ earlier) jobs

-- the jobs of an answer
abbrev pub jobs_answered : CreateAnswer → List JobDesc
jobs_answered (Jobs jobs) = jobs
jobs_answered (Failed code) = []

-- the jobs, unless a builder failed or a key came twice
abbrev pub unless_refused : Option Created → Option Created → List JobDesc → Created
unless_refused (Some failure) duplicate jobs = failure
unless_refused None (Some duplicate) jobs = duplicate
unless_refused None None jobs = CreatedJobs jobs

-- the answers one after another, unless a builder failed or a key comes twice
abbrev pub desired : List (List ℕ × CreateAnswer) → Created
desired answers = unless_refused (first_failure answers) (first_duplicate [] (flat_map (λ answer. jobs_answered answer.1) answers))
    (flat_map (λ answer. jobs_answered answer.1) answers)

-- what is created, by how the source is seen; a source is never absent
abbrev pub created_seen : Meanings → CreateFrom → Seen → Created
created_seen builders x TooLarge = CreatedTooLarge
created_seen builders x Absent = CreatedTooLarge
created_seen builders x (Bytes bytes) = desired (map (λ builder. (builder.0, builders.creates builder.0 (create_view x bytes))) x.builders)

-- what is created from a create input alone
abbrev pub created : Meanings → CreateFrom → Created
created builders x = created_seen builders x x.seen

-- ---- the jobs

-- all jobs that the sources' builders create, by job id
abbrev pub all_jobs : Meanings → Config → List Winner → List Job
all_jobs builders config winners = in_order (on id_of job_cmp)
    (flat_map (λ source. jobs_of source.path (created builders (create_from builders config winners source.path))) (sources config winners))
