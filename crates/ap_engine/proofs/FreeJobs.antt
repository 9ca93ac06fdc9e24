-- The jobs of a project where each source has jobs that depend on nothing: which they are, and their order.
use Rattle.std.proofs.Common.{◌≡◌, ℕ, false, List, [], ◌∷◌, ◌++◌, length, map, Contains, Option, Some, None, refl, sym, ◌∙◌, ap, subst}
use Rattle.std.specs.List.{flat_map, filter, list_any, AllByRecursion}
use Rattle.std.specs.List.Sorted.{IsStrictlySortedBy}
use Rattle.std.specs.declared.cmp.Ordering.{Ordering}
use Rattle.std.specs.declared.cmp.Ordering.TheVariants.{Less, Equal, Greater}
use Rattle.std.specs.Ordering.{on, ordering_then, match_ordering}
use Rattle.ap_text.specs.declared.job_id.JobId.{JobId}
use Rattle.ap_text.specs.Order.{bytes_cmp, put_in_order, in_order}
use Rattle.ap_text.specs.JobOrder.{job_cmp, job_total, same_job}
use Rattle.ap_text.proofs.Members.{Contains-none, Contains-map_cases, AllByRecursion-at, AllByRecursion-from}
use Rattle.ap_config.specs.declared.config.Config.{Config}
use Rattle.ap_scan.specs.declared.results.Winner.{Winner}
use Rattle.ap_rows.specs.declared.job.JobDesc.{JobDesc}
use Rattle.ap_rows.specs.declared.job.Created.{Created}
use Rattle.ap_rows.specs.declared.job.Created.TheVariants.{Jobs, Builder, DuplicateKey, TooLarge}
use Rattle.ap_rows.specs.Jobs.{Job, id_of, jobs_of, job_at, is_job}
use Rattle.ap_builder.specs.Meanings.{Meanings}
use Rattle.ap_graph.specs.Edges.{edges_of, edges_among, is_cyclic}
use Rattle.ap_graph.proofs.CycleTest.{Contains-flat_map, Contains-flat_map_cases}
use Rattle.ap_sources.specs.Sources.{sources}
use Rattle.ap_create.specs.Creation.{create_from, created, all_jobs}
use Rattle.ap_engine.specs.Worlds.{AreQuiet, AreFree}
use Rattle.ap_db.proofs.Alike.{put_rises}
use Rattle.ap_engine.proofs.RisingLists.{in_order_only, in_order_stands, rises_by_key}
use Rattle.ap_engine.proofs.LookUps.{found_passes}
use Rattle.ap_engine.proofs.Steps.{job_tied}
use Rattle.ap_engine.proofs.Quiet.{no_ends, sources_rise}

-- ---- jobs that depend on nothing

-- none of these jobs depends on anything
abbrev pub DependOnNothing : List Job → Type 0
DependOnNothing jobs = (job : Job) → Contains jobs job → job.desc.deps ≡ []

no_edges : (jobs : List Job) → DependOnNothing jobs → (id : JobId) → edges_among jobs id ≡ []
no_edges jobs free id = by_job (job_at jobs id) refl
  where
    by_job : (found : Option Job) → job_at jobs id ≡ found → edges_of jobs found ≡ []
    by_job None e = refl
    by_job (Some job) e = ap (λ deps. filter (is_job jobs) (map (λ dep. dep.job) deps)) (free job (found_passes (λ job. same_job (id_of job) id) jobs job e).0)

pub no_cycle : (jobs : List Job) → DependOnNothing jobs → (id : JobId) → is_cyclic jobs id ≡ false
no_cycle jobs free id = ap (list_any (same_job id)) (no_ends (edges_among jobs) (length jobs) id (no_edges jobs free id))

-- ---- jobs in order, source by source

source_first : (a b : JobId) → bytes_cmp a.source b.source ≡ Less → job_cmp a b ≡ Less
source_first a b e = ap (λ o. ordering_then o (ordering_then (bytes_cmp a.key b.key) (bytes_cmp a.platform b.platform))) e

-- jobs by their ids
abbrev pub by_job_id : Job → Job → Ordering
by_job_id = on id_of job_cmp

module _ {X : Type 0} (cmp : X → X → Ordering) where
  -- a value before all of the rest is put among the first
  put_before : (x : X) (xs ys : List X) → AllByRecursion (λ y. cmp x y ≡ Less) ys → put_in_order cmp x (xs ++ ys) ≡ put_in_order cmp x xs ++ ys
  put_before x [] [] below = refl
  put_before x [] (y ∷ ys) below = ap (λ o. match_ordering o (x ∷ y ∷ ys) (x ∷ ys) (y ∷ put_in_order cmp x ys)) below.0
  put_before x (first ∷ xs) ys below = by_case (cmp x first) (put_before x xs ys below)
    where
      by_case : (o : Ordering) → put_in_order cmp x (xs ++ ys) ≡ put_in_order cmp x xs ++ ys
          → match_ordering o (x ∷ first ∷ xs ++ ys) (x ∷ xs ++ ys) (first ∷ put_in_order cmp x (xs ++ ys)) ≡ match_ordering o (x ∷ first ∷ xs) (x ∷ xs) (first ∷ put_in_order cmp x xs) ++ ys
      by_case Less e = refl
      by_case Equal e = refl
      by_case Greater e = ap (λ l. first ∷ l) e

  -- lists of which the first has the lower values are in order one behind the other
  pub in_order_parts : (xs ys : List X) → AllByRecursion (λ x. AllByRecursion (λ y. cmp x y ≡ Less) (in_order cmp ys)) xs → in_order cmp (xs ++ ys) ≡ in_order cmp xs ++ in_order cmp ys
  in_order_parts [] ys below = refl
  in_order_parts (x ∷ xs) ys below = ap (put_in_order cmp x) (in_order_parts xs ys below.1) ∙ put_before x (in_order cmp xs) (in_order cmp ys) below.0

ids_in_order_rise : (jobs : List Job) → IsStrictlySortedBy job_cmp (map id_of (in_order by_job_id jobs))
unfolding IsStrictlySortedBy
ids_in_order_rise [] = tt
ids_in_order_rise (job ∷ jobs) = put_rises job_cmp job_total id_of job (in_order by_job_id jobs) (ids_in_order_rise jobs)

-- jobs in order rise by their ids
pub in_order_rises : (jobs : List Job) → IsStrictlySortedBy by_job_id (in_order by_job_id jobs)
in_order_rises jobs = rises_by_key job_cmp id_of (in_order by_job_id jobs) (ids_in_order_rise jobs)

-- each job has one of its id in order
pub stands_in_order : (jobs : List Job) (job : Job) → Contains jobs job → (one : Job) × Contains (in_order by_job_id jobs) one × (id_of one ≡ id_of job)
stands_in_order jobs job has = in_order_stands by_job_id id_of (λ a b e. job_tied (id_of a) (id_of b) e) jobs job has

module _ (f : Winner → List Job) (of : (winner : Winner) (job : Job) → Contains (f winner) job → job.source ≡ winner.path) where
  all_below : (job : Job) (winners : List Winner) → AllByRecursion (λ winner. bytes_cmp job.source winner.path ≡ Less) winners
      → (other : Job) → Contains (flat_map f winners) other → by_job_id job other ≡ Less
  all_below job winners below other has =
      let r = Contains-flat_map_cases f winners other has in
      source_first (id_of job) (id_of other) (ap (bytes_cmp job.source) (of r.0 other r.2) ∙ AllByRecursion-at (λ winner. bytes_cmp job.source winner.path ≡ Less) winners r.0 below r.1)

  pub each_in_order : (winners : List Winner) → IsStrictlySortedBy (on (λ winner. winner.path) bytes_cmp) winners
      → in_order by_job_id (flat_map f winners) ≡ flat_map (λ winner. in_order by_job_id (f winner)) winners
  unfolding IsStrictlySortedBy
  each_in_order [] rise = refl
  each_in_order (winner ∷ winners) rise =
      in_order_parts by_job_id (f winner) (flat_map f winners)
      (AllByRecursion-from (λ job. AllByRecursion (λ other. by_job_id job other ≡ Less) (in_order by_job_id (flat_map f winners))) (f winner)
      (λ job has. AllByRecursion-from (λ other. by_job_id job other ≡ Less) (in_order by_job_id (flat_map f winners))
      (λ other stands. all_below job winners (subst (λ path. AllByRecursion (λ (w : Winner). bytes_cmp path w.path ≡ Less) winners) (sym (of winner job has)) rise.0) other
      (in_order_only by_job_id (flat_map f winners) other stands))))
      ∙ ap (λ jobs. in_order by_job_id (f winner) ++ jobs) (each_in_order winners rise.1)

-- the jobs of a creation are of its source
pub of_source : (path : List ℕ) (created : Created) (job : Job) → Contains (jobs_of path created) job → job.source ≡ path
of_source path (Jobs jobs) job has = let r = Contains-map_cases (λ (desc : JobDesc). record { source = path; desc = desc }) jobs job has in ap (λ (w : Job). w.source) (sym r.2)
of_source path (Builder builder code) job has = absurd (Contains-none job has)
of_source path (DuplicateKey key platform) job has = absurd (Contains-none job has)
of_source path TooLarge job has = absurd (Contains-none job has)

module _ (builders : Meanings) (config : Config) (winners : List Winner) where
  -- the jobs of a source
  abbrev pub jobs_at : Winner → List Job
  jobs_at winner = jobs_of winner.path (created builders (create_from builders config winners winner.path))

  -- a job is one of a source's
  pub record IsOfSource (job : Job) : Type 0 where
    pub winner : Winner
    pub is : Contains (sources config winners) winner
    pub among : Contains (jobs_at winner) job

  pub job_of_source : (job : Job) → Contains (all_jobs builders config winners) job → IsOfSource job
  job_of_source job has =
      let h : Contains (flat_map jobs_at (sources config winners)) job = in_order_only by_job_id (flat_map jobs_at (sources config winners)) job has in
      let r = Contains-flat_map_cases jobs_at (sources config winners) job h in
      record { winner = r.0; is = r.1; among = r.2 }

  pub source_is : (winner : Winner) (job : Job) → Contains (jobs_at winner) job → job.source ≡ winner.path
  source_is winner job among = of_source winner.path (created builders (create_from builders config winners winner.path)) job among

  pub jobs_rise : IsStrictlySortedBy by_job_id (all_jobs builders config winners)
  jobs_rise = in_order_rises (flat_map jobs_at (sources config winners))

  -- a job of a source has one of its id among all jobs
  pub job_is_there : (winner : Winner) → Contains (sources config winners) winner → (job : Job) → Contains (jobs_at winner) job
      → (one : Job) × Contains (all_jobs builders config winners) one × (id_of one ≡ id_of job)
  job_is_there winner is job among = stands_in_order (flat_map jobs_at (sources config winners)) job (Contains-flat_map jobs_at (sources config winners) winner job is among)

  -- all jobs are those of the sources, in their order
  pub all_jobs_in_order : AreQuiet builders config winners → all_jobs builders config winners ≡ flat_map (λ winner. in_order by_job_id (jobs_at winner)) (sources config winners)
  all_jobs_in_order quiet = each_in_order jobs_at source_is (sources config winners) (sources_rise builders config winners quiet)

  module _ (are_free : AreFree builders config winners) where
    -- no job depends on anything
    pub jobs_are_free : DependOnNothing (all_jobs builders config winners)
    jobs_are_free job has =
        let of = job_of_source job has in
        let free = are_free of.winner of.is in
        let r = Contains-map_cases (λ (desc : JobDesc). record { source = of.winner.path; desc = desc }) free.jobs job (subst (λ came. Contains (jobs_of of.winner.path came) job) free.are of.among) in
        ap (λ (w : Job). w.desc.deps) (sym r.2) ∙ AllByRecursion-at (λ (desc : JobDesc). desc.deps ≡ []) free.jobs r.0 free.free r.1

    pub none_is_cyclic : (id : JobId) → is_cyclic (all_jobs builders config winners) id ≡ false
    none_is_cyclic id = no_cycle (all_jobs builders config winners) jobs_are_free id
