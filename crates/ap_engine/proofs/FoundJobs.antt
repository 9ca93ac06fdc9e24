-- The jobs of recorded creations are those of the project, where none depends on anything.
use Rattle.std.proofs.Common.{◌≡◌, ◌++◌, ℕ, Bool, true, false, not, cond, List, [], ◌∷◌, length, map, All, Contains, Option, Some, None, refl, sym, ◌∙◌, ap, subst, arith, ⊎_elim}
use Rattle.std.specs.Prelude.{bytes_eq, find, option_and_then}
use Rattle.std.specs.List.{filter, flat_map, AllByRecursion}
use Rattle.std.specs.Cmp.Lexicographic.{nat_list_cmp_total}
use Rattle.std.proofs.lemmas.Slice.Eq.{bytes_eq-Decides}
use Rattle.ap_text.specs.Order.{bytes_cmp, in_order}
use Rattle.ap_text.specs.JobOrder.{job_cmp}
use Rattle.ap_text.specs.PathRules.{IsRelPath}
use Rattle.ap_text.proofs.Members.{Contains-none, Contains-cons_cases, Contains-head, Contains-tail_of, Contains-map, AllByRecursion-at}
use Rattle.ap_content.specs.Things.{bytes_thing}
use Rattle.ap_content.specs.Entries.{Entry}
use Rattle.ap_content.proofs.Members.{Contains-filtered}
use Rattle.ap_config.specs.declared.config.Config.{Config}
use Rattle.ap_scan.specs.declared.results.Winner.{Winner}
use Rattle.ap_rows.specs.declared.job.JobDesc.{JobDesc}
use Rattle.ap_rows.specs.declared.job.Created.{Created}
use Rattle.ap_rows.specs.declared.job.Created.TheVariants.{Jobs, Builder, DuplicateKey, TooLarge}
use Rattle.ap_rows.specs.declared.row.CreateRow.{CreateRow}
use Rattle.ap_rows.specs.Inputs.{MadeFrom}
use Rattle.ap_rows.specs.InputRanges.{Fits64, IsReached, IsJobInput}
use Rattle.ap_rows.specs.Jobs.{Job, id_of, jobs_of}
use Rattle.ap_rows.specs.Readers.{is_folded}
use Rattle.ap_builder.specs.declared.entry.Entry.TheVariants.{Process}
use Rattle.ap_builder.specs.Meanings.{Meanings}
use Rattle.ap_builder.specs.Paths.{IsShort}
use Rattle.ap_db.specs.declared.db.Db.{Db}
use Rattle.ap_db.specs.Changes.{put_job}
use Rattle.ap_db.specs.Listed.{AreAll, AreBoth}
use Rattle.ap_db.specs.States.{Names, CreateIs}
use Rattle.ap_db.specs.Stored.{Stored}
use Rattle.ap_db.specs.Tables.{PlainTables}
use Rattle.ap_sources.specs.Sources.{matching, is_some_item, sources, seen_of, seen_at, bytes_seen, content_at_path, reached}
use Rattle.ap_create.specs.Creation.{create_from, created, all_jobs}
use Rattle.ap_engine.specs.declared.source.Source.{Source}
use Rattle.ap_engine.specs.declared.jobs.SourceJob.{SourceJob}
use Rattle.ap_engine.specs.Verdict.{made_from}
use Rattle.ap_engine.specs.Settled.{job_row}
use Rattle.ap_engine.specs.Need.{job_stands}
use Rattle.ap_engine.specs.Changes.{put_of, job_changes}
use Rattle.ap_engine.specs.Worlds.{AreQuiet, AreFreeJobs, AreFree, AreJobInputs}
use Rattle.ap_engine.specs.Ledgers.{IsBeside, IsHeld}
use Rattle.ap_engine.specs.Interned.{IsSourceOf}
use Rattle.ap_engine.specs.Recorded.{IsRecorded, AreRecorded, AreThere, open_jobs}
use Rattle.ap_engine.specs.NeededJobs.{free_jobs_in, jobs_recorded, job_from, by_id, put_all, IsTypedJob, AreFoundIn, AreAllFoundIn, made_of, id_from, IsJobOf, stands_in, needed_in, row_made, puts_made, work_of}
use Rattle.ap_engine.specs.Asked.{all_free, if_free}
use Rattle.ap_engine.proofs.Needs.{found_both}
use Rattle.ap_engine.proofs.LookUps.{none_some, some_one, is_row_at}
use Rattle.ap_engine.proofs.MappedLists.{same_choice, keys_of_images}
use Rattle.ap_engine.proofs.RisingLists.{keys_rise}
use Rattle.ap_engine.proofs.Quiet.{source_reaches_nothing}
use Rattle.ap_db.proofs.Alike.{put_alike}
use Rattle.ap_engine.proofs.NeededJobFacts.{are_joined}
use Rattle.ap_engine.proofs.JobLists.{each_is_free, all_are_free}
use Rattle.ap_engine.proofs.PutJobs.{put_has_all}
use Rattle.ap_engine.proofs.FreeJobs.{by_job_id, all_jobs_in_order}
use Rattle.ap_engine.proofs.FreeVerdicts.{free_job_row}
use Rattle.ap_engine.proofs.JobPhase.{stands_by_input}

-- ---- the jobs of a creation

if_they_are : (jobs descs : List JobDesc) (all : Bool) → all_free jobs ≡ all → if_free jobs all ≡ Some descs → (jobs ≡ descs) × (all_free jobs ≡ true)
if_they_are jobs descs true is e = (some_one jobs descs e, is)
if_they_are jobs descs false is e = absurd (none_some descs e)

pub free_are : (created : Created) (descs : List JobDesc) → free_jobs_in created ≡ Some descs → (created ≡ Jobs descs) × AllByRecursion (λ desc. desc.deps ≡ []) descs
free_are (Jobs jobs) descs e = let are = if_they_are jobs descs (all_free jobs) refl e in (ap Jobs are.0, each_is_free descs (ap all_free (sym are.0) ∙ are.1))
free_are (Builder builder code) descs e = absurd (none_some descs e)
free_are (DuplicateKey key platform) descs e = absurd (none_some descs e)
free_are TooLarge descs e = absurd (none_some descs e)

pub none_are_free : (created : Created) → free_jobs_in created ≡ None → ¬ AreFreeJobs created
none_are_free created none free = none_some free.jobs (sym none ∙ ap free_jobs_in free.are ∙ ap (if_free free.jobs) (all_are_free free.jobs free.free))

-- ---- lists

all_none : {X : Type 0} (P : X → Type 0) → All P []
all_none P k d lt = absurd (omega (arith, lt))

filter_image : {X Y : Type 0} (test : Y → Bool) (f : X → Y) (xs : List X) → filter test (map f xs) ≡ map f (filter (λ x. test (f x)) xs)
filter_image test f [] = refl
filter_image test f (x ∷ xs) = by_case (test (f x)) (filter_image test f xs)
  where
    by_case : (b : Bool) → filter test (map f xs) ≡ map f (filter (λ x. test (f x)) xs)
        → cond b (f x ∷ filter test (map f xs)) (filter test (map f xs)) ≡ map f (cond b (x ∷ filter (λ x. test (f x)) xs) (filter (λ x. test (f x)) xs))
    by_case true more = ap (λ l. f x ∷ l) more
    by_case false more = more

pub all_images : {X Y : Type 0} (P : Y → Type 0) (f : X → Y) (xs : List X) → AllByRecursion P (map f xs) → AllByRecursion (λ x. P (f x)) xs
all_images P f [] all = tt
all_images P f (x ∷ xs) all = (all.0, all_images P f xs all.1)

are_all_mapped : {X Y Z : Type 0} (Is : X → Z → Type 0) (f : Y → Z) (xs : List X) (ys : List Y) → AreAll (λ x y. Is x (f y)) xs ys → AreAll Is xs (map f ys)
are_all_mapped Is f [] [] are = tt
are_all_mapped Is f [] (y ∷ ys) are = absurd are
are_all_mapped Is f (x ∷ xs) [] are = absurd are
are_all_mapped Is f (x ∷ xs) (y ∷ ys) are = (are.0, are_all_mapped Is f xs ys are.1)

-- ---- the jobs of a source, by job id

-- the job is that of the source with its own description
abbrev IsFrom : Source → SourceJob → Type 0
IsFrom source job = job ≡ job_from source job.desc

are_from : (source : Source) (descs : List JobDesc) → AllByRecursion (IsFrom source) (put_all (map (job_from source) descs) [])
are_from source [] = tt
are_from source (desc ∷ descs) = put_has_all (IsFrom source) (job_from source desc) (put_all (map (job_from source) descs) []) refl (are_from source descs)

-- the job of a source is that of its winner
record IsThatOf (source : Source) (winner : Winner) (job : SourceJob) (of : Job) : Type 0 where
  pub is : job ≡ job_from source of.desc
  pub path : of.source ≡ winner.path

are_those_of : (source : Source) (winner : Winner) → source.path ≡ winner.path → (descs : List JobDesc)
    → AreAll (IsThatOf source winner) (put_all (map (job_from source) descs) []) (in_order by_job_id (map (λ desc. record { source = winner.path; desc = desc }) descs))
are_those_of source winner path [] = tt
are_those_of source winner path (desc ∷ descs) =
    put_alike (IsThatOf source winner) by_id by_job_id ranks (job_from source desc) (record { source = winner.path; desc = desc }) (record { is = refl; path = refl })
    (put_all (map (job_from source) descs) []) (in_order by_job_id (map (λ desc. record { source = winner.path; desc = desc }) descs)) (are_those_of source winner path descs)
  where
    same_id : (job : SourceJob) (of : Job) → IsThatOf source winner job of → job.id ≡ id_of of
    same_id job of is = ap (λ (w : SourceJob). w.id) is.is ∙ (λ i. record { source = (path ∙ sym is.path) i; key = of.desc.key; platform = of.desc.platform })

    ranks : (a b : SourceJob) (of_a of_b : Job) → IsThatOf source winner a of_a → IsThatOf source winner b of_b → by_id a b ≡ by_job_id of_a of_b
    ranks a b of_a of_b is_a is_b = λ i. job_cmp (same_id a of_a is_a i) (same_id b of_b is_b i)

module _ (builders : Meanings) (config : Config) (winners : List Winner) where
  -- what a job is made from that nothing is handed over to
  abbrev pub made : Job → MadeFrom
  made job = made_from builders config winners job []

  abbrev jobs_at : Winner → List Job
  jobs_at winner = jobs_of winner.path (created builders (create_from builders config winners winner.path))

  pub winner_seen : AreQuiet builders config winners → (winner : Winner) → Contains winners winner → seen_at winners winner.path ≡ winner.seen
  winner_seen quiet winner has = ap seen_of (is_row_at bytes_cmp nat_list_cmp_total bytes_eq bytes_eq-Decides (λ (w : Winner). w.path) winners winner (keys_rise bytes_cmp (λ (w : Winner). w.path) winners quiet.rise) has)

  pub among_winners : (winner : Winner) → Contains (sources config winners) winner → Contains winners winner
  among_winners winner has = (Contains-filtered (λ (w : Winner). is_some_item (matching config w.path)) winners winner has).0

  -- what the jobs are made from that rows record of the sources, whatever is created from these
  module _ (db : Db) (contents : List (Option Entry)) (found : List Source) (are : AreThere builders config winners db contents found) where
    read_job : (job : SourceJob) (source : Source) (winner : Winner) → IsFrom source job → IsTypedJob job → IsSourceOf db contents source winner → Contains (sources config winners) winner
        → (from : MadeFrom) × IsJobOf db contents job from
    read_job job source winner is has_types of has = (
      made_of job of.bytes,
      subst (λ (other : SourceJob). IsJobOf db contents other (made_of other of.bytes)) (sym is) (record {
        id = refl;
        same = refl;
        held = of.held;
        typed = record {
          builder = typed.builder;
          version = typed.version;
          platform = typed.platform;
          key = typed.key;
          params = typed.params;
          path = record { path = typed.path; folded = subst (λ path. is_folded path ≡ true) (sym of.path) (are.quiet.folded winner (among_winners winner has)) };
          reached = all_none IsReached;
          reached_count = omega arith;
          handed = all_none _;
          handed_count = omega arith;
        };
        short = are.short winner has of.bytes of.seen;
      }),
    )
      where
        typed : IsTypedJob (job_from source job.desc)
        typed = subst IsTypedJob is has_types

    read_part : (source : Source) (winner : Winner) → IsSourceOf db contents source winner → Contains (sources config winners) winner
        → (jobs : List SourceJob) → AllByRecursion (IsFrom source) jobs → AllByRecursion IsTypedJob jobs → (froms : List MadeFrom) × AreAll (IsJobOf db contents) jobs froms
    read_part source winner of has [] from typed = ([], tt)
    read_part source winner of has (job ∷ jobs) from typed =
        let one = read_job job source winner from.0 typed.0 of has in
        let others = read_part source winner of has jobs from.1 typed.1 in
        (one.0 ∷ others.0, (one.1, others.1))

    read_each : (parts : List (List SourceJob)) (some : List Source) (ws : List Winner) → AreAll (AreFoundIn db.state.tables.creates.items) parts some → AreAll (IsSourceOf db contents) some ws
        → ((winner : Winner) → Contains ws winner → Contains (sources config winners) winner) → (froms : List MadeFrom) × AreAll (IsJobOf db contents) (flat_map (λ part. part) parts) froms
    read_each [] [] ws of_rows of has = ([], tt)
    read_each [] (s ∷ some) ws of_rows of has = absurd of_rows
    read_each (part ∷ parts) [] ws of_rows of has = absurd of_rows
    read_each (part ∷ parts) (s ∷ some) [] of_rows of has = absurd of
    read_each (part ∷ parts) (s ∷ some) (w ∷ ws) of_rows of has =
        let here = of_rows.0 in
        let one = read_part s w of.0 (has w (Contains-head w ws)) part (subst (AllByRecursion (IsFrom s)) (sym here.are) (are_from s here.descs)) here.typed in
        let others = read_each parts some ws of_rows.1 of.1 (λ winner in_tail. has winner (Contains-tail_of w ws winner in_tail)) in
        (one.0 ++ others.0, are_joined (IsJobOf db contents) part (flat_map (λ part. part) parts) one.0 others.0 one.1 others.1)

    pub read_jobs : (jobs : List SourceJob) → AreAllFoundIn db.state.tables.creates.items jobs found → (froms : List MadeFrom) × AreAll (IsJobOf db contents) jobs froms
    read_jobs jobs of_rows =
        let read = read_each of_rows.parts found (sources config winners) of_rows.each are.sources (λ winner has. has) in
        (read.0, subst (λ jobs. AreAll (IsJobOf db contents) jobs read.0) (sym of_rows.joined) read.1)

  module _ (db : Db) (contents : List (Option Entry)) (found : List Source) (stored : Stored) (is : IsBeside db contents stored) (are : AreThere builders config winners db contents found)
      (each_recorded : AreRecorded builders config winners stored.tables) where
    abbrev rows : List CreateRow
    rows = db.state.tables.creates.items

    recorded_as : (source : Source) (winner : Winner) → source.path ≡ winner.path → IsRecorded builders config winners stored.tables winner
        → jobs_recorded rows source.path ≡ free_jobs_in (created builders (create_from builders config winners winner.path))
    recorded_as source winner path recorded =
        by_row (find (λ row. bytes_eq row.source source.path) rows)
        (subst (AreBoth (CreateIs (Names db.state.things.items contents)) (find (λ row. bytes_eq row.source source.path) rows))
        (ap (λ p. find (λ row. bytes_eq row.source p) stored.tables.creates) path ∙ recorded.there)
        (found_both (Names db.state.things.items contents) source.path rows stored.tables.creates is.stands.tables.creates))
      where
        by_row : (row : Option CreateRow) → AreBoth (CreateIs (Names db.state.things.items contents)) row (Some recorded.row)
            → option_and_then (λ row. free_jobs_in row.created) row ≡ free_jobs_in (created builders (create_from builders config winners winner.path))
        by_row None both = absurd both
        by_row (Some row) both = ap free_jobs_in (both.created ∙ recorded.same)

    pub other_recorded : (source : Source) (winner : Winner) → IsSourceOf db contents source winner → Contains (sources config winners) winner → jobs_recorded rows source.path ≡ None
        → ¬ AreFreeJobs (created builders (create_from builders config winners winner.path))
    other_recorded source winner of has none = none_are_free (created builders (create_from builders config winners winner.path)) (sym (recorded_as source winner of.path (each_recorded winner has)) ∙ none)

    -- what a job of a source is made from
    one_found : (source : Source) (winner : Winner) → IsSourceOf db contents source winner → Contains (sources config winners) winner → (job : SourceJob) (one : Job) → IsThatOf source winner job one → IsTypedJob job
        → IsJobOf db contents job (made one)
    one_found source winner of has job one is has_types =
        subst (λ job. IsJobOf db contents job (made one)) (sym is.is)
        (subst (λ path. IsJobOf db contents (job_from source one.desc) (made (record { source = path; desc = one.desc }))) (sym is.path) (record {
          id = λ i. record { source = of.path i; key = one.desc.key; platform = one.desc.platform };
          same = λ i. record {
            builder = one.desc.builder;
            version = one.desc.version;
            platform = one.desc.platform;
            key = one.desc.key;
            params = one.desc.params;
            path = of.path i;
            bytes = content_at_path winners winner.path;
            reached = nothing i;
            handed = [];
          };
          held = subst (λ bytes. IsHeld db contents source.content (bytes_thing bytes)) (sym content) of.held;
          typed = record {
            builder = typed.builder;
            version = typed.version;
            platform = typed.platform;
            key = typed.key;
            params = typed.params;
            path = record { path = subst IsRelPath of.path typed.path; folded = are.quiet.folded winner (among_winners winner has) };
            reached = subst (All IsReached) nothing (all_none IsReached);
            reached_count = subst (λ files. Fits64 (length files)) nothing (omega arith);
            handed = all_none _;
            handed_count = omega arith;
          };
          short = subst (λ (bytes : List ℕ). IsShort bytes) (sym content) (are.short winner has of.bytes of.seen);
        }))
      where
        typed : IsTypedJob (job_from source one.desc)
        typed = subst IsTypedJob is.is has_types

        nothing : [] ≡ reached builders config winners winner.path
        nothing = sym (source_reaches_nothing builders config winners are.quiet winner has)

        content : content_at_path winners winner.path ≡ of.bytes
        content = ap bytes_seen (winner_seen are.quiet winner (among_winners winner has) ∙ of.seen)

    -- a job of the source is made from this
    abbrev IsMadeOf : SourceJob → Job → Type 0
    IsMadeOf job one = IsJobOf db contents job (made one)

    part_found : (source : Source) (winner : Winner) → IsSourceOf db contents source winner → Contains (sources config winners) winner
        → (jobs : List SourceJob) (ones : List Job) → AreAll (IsThatOf source winner) jobs ones → AllByRecursion IsTypedJob jobs → AreAll IsMadeOf jobs ones
    part_found source winner of has [] [] are_those typed = tt
    part_found source winner of has [] (one ∷ ones) are_those typed = absurd are_those
    part_found source winner of has (job ∷ jobs) [] are_those typed = absurd are_those
    part_found source winner of has (job ∷ jobs) (one ∷ ones) are_those typed = (one_found source winner of has job one are_those.0 typed.0, part_found source winner of has jobs ones are_those.1 typed.1)

    -- the jobs of a source in order
    abbrev ordered_at : Winner → List Job
    ordered_at winner = in_order by_job_id (jobs_at winner)

    source_found : (jobs : List SourceJob) (source : Source) (winner : Winner) → AreFoundIn rows jobs source → IsSourceOf db contents source winner → Contains (sources config winners) winner
        → AreFreeJobs (created builders (create_from builders config winners winner.path)) × AreAll IsMadeOf jobs (ordered_at winner)
    source_found jobs source winner of_rows of has = (
      record { jobs = of_rows.descs; are = free.0; free = free.1 },
      part_found source winner of has jobs (ordered_at winner)
          (subst (λ came. AreAll (IsThatOf source winner) jobs (in_order by_job_id (jobs_of winner.path came))) (sym free.0)
          (subst (λ found. AreAll (IsThatOf source winner) found (in_order by_job_id (map (λ desc. record { source = winner.path; desc = desc }) of_rows.descs))) (sym of_rows.are)
          (are_those_of source winner of.path of_rows.descs))) of_rows.typed,
    )
      where
        free : (created builders (create_from builders config winners winner.path) ≡ Jobs of_rows.descs) × AllByRecursion (λ desc. desc.deps ≡ []) of_rows.descs
        free = free_are (created builders (create_from builders config winners winner.path)) of_rows.descs (sym (recorded_as source winner of.path (each_recorded winner has)) ∙ of_rows.recorded)

    all_found : (parts : List (List SourceJob)) (some : List Source) (ws : List Winner) → AreAll (AreFoundIn rows) parts some → AreAll (IsSourceOf db contents) some ws → ((winner : Winner) → Contains ws winner → Contains (sources config winners) winner)
        → AllByRecursion (λ winner. AreFreeJobs (created builders (create_from builders config winners winner.path))) ws × AreAll IsMadeOf (flat_map (λ part. part) parts) (flat_map ordered_at ws)
    all_found [] [] [] of_rows of has = (tt, tt)
    all_found [] [] (w ∷ ws) of_rows of has = absurd of
    all_found [] (s ∷ some) ws of_rows of has = absurd of_rows
    all_found (part ∷ parts) [] ws of_rows of has = absurd of_rows
    all_found (part ∷ parts) (s ∷ some) [] of_rows of has = absurd of
    all_found (part ∷ parts) (s ∷ some) (w ∷ ws) of_rows of has =
        let one = source_found part s w of_rows.0 of.0 (has w (Contains-head w ws)) in
        let others = all_found parts some ws of_rows.1 of.1 (λ winner in_tail. has winner (Contains-tail_of w ws winner in_tail)) in
        ((one.0, others.0), are_joined IsMadeOf part (flat_map (λ part. part) parts) (ordered_at w) (flat_map ordered_at ws) one.1 others.1)

    module _ (jobs : List SourceJob) (of_rows : AreAllFoundIn rows jobs found) where
      all_are_found : AllByRecursion (λ winner. AreFreeJobs (created builders (create_from builders config winners winner.path))) (sources config winners)
          × AreAll IsMadeOf (flat_map (λ part. part) of_rows.parts) (flat_map ordered_at (sources config winners))
      all_are_found = all_found of_rows.parts found (sources config winners) of_rows.each are.sources (λ winner has. has)

      pub found_free : AreFree builders config winners
      found_free winner has = AllByRecursion-at (λ winner. AreFreeJobs (created builders (create_from builders config winners winner.path))) (sources config winners) winner all_are_found.0 has

      pub found_jobs : AreAll (IsJobOf db contents) jobs (map made (all_jobs builders config winners))
      found_jobs = are_all_mapped (IsJobOf db contents) made jobs (all_jobs builders config winners)
          (subst (AreAll IsMadeOf jobs) (sym (all_jobs_in_order builders config winners are.quiet))
          (subst (λ found. AreAll IsMadeOf found (flat_map ordered_at (sources config winners))) (sym of_rows.joined) all_are_found.1))

      pub found_inputs : AreJobInputs builders config winners
      found_inputs job has = AllByRecursion-at IsJobInput (map made (all_jobs builders config winners)) (made job) (all_typed jobs (map made (all_jobs builders config winners)) found_jobs) (Contains-map made (all_jobs builders config winners) job has)
        where
          all_typed : (jobs : List SourceJob) (froms : List MadeFrom) → AreAll (IsJobOf db contents) jobs froms → AllByRecursion IsJobInput froms
          all_typed [] [] are = tt
          all_typed [] (from ∷ froms) are = absurd are
          all_typed (job ∷ jobs) [] are = absurd are
          all_typed (job ∷ jobs) (from ∷ froms) are = (are.0.typed, all_typed jobs froms are.1)

    -- the source that came to anything else
    pub other_source : (some : List Source) (ws : List Winner) → AreAll (IsSourceOf db contents) some ws → (source : Source) → Contains some source → (winner : Winner) × Contains ws winner × IsSourceOf db contents source winner
    other_source [] ws of source has = absurd (Contains-none source has)
    other_source (s ∷ some) [] of source has = absurd of
    other_source (s ∷ some) (w ∷ ws) of source has = ⊎_elim
        (λ same. (w, Contains-head w ws, subst (λ source. IsSourceOf db contents source w) same of.0))
        (λ later. let there = other_source some ws of.1 source later in (there.0, Contains-tail_of w ws there.0 there.1, there.2))
        (Contains-cons_cases s some source has)

  -- ---- the jobs whose results don't stand

  module _ (quiet : AreQuiet builders config winners) (are_free : AreFree builders config winners) (tables : PlainTables) where
    pub same_needed : needed_in tables (map made (all_jobs builders config winners)) ≡ map made (open_jobs builders config winners tables)
    same_needed = filter_image (λ from. not (stands_in tables from)) made (all_jobs builders config winners)
        ∙ ap (map made) (same_choice (λ job. not (stands_in tables (made job))) (λ job. not (job_stands builders config winners tables job)) (all_jobs builders config winners)
        (λ job has. ap not (sym (stands_by_input builders config winners quiet are_free tables job has))))

    same_puts : (jobs : List Job) → ((job : Job) → Contains jobs job → Contains (all_jobs builders config winners) job) → puts_made builders.makes (map made jobs) ≡ flat_map (λ job. put_of (job_row builders config winners job)) jobs
    same_puts [] among = refl
    same_puts (job ∷ jobs) among =
        ap (λ rest. put_job (row_made builders.makes (made job)) ∷ rest) (same_puts jobs (λ other has. among other (Contains-tail_of job jobs other has)))
        ∙ ap (λ front. front ++ flat_map (λ job. put_of (job_row builders config winners job)) jobs) (sym (ap put_of (free_job_row builders config winners are_free job (among job (Contains-head job jobs)))))

    pub same_changes : puts_made builders.makes (needed_in tables (map made (all_jobs builders config winners))) ≡ job_changes builders config winners tables
    same_changes = ap (puts_made builders.makes) same_needed
        ∙ same_puts (open_jobs builders config winners tables) (λ job has. (Contains-filtered (λ job. not (job_stands builders config winners tables job)) (all_jobs builders config winners) job has).0)

    pub same_work : work_of (needed_in tables (map made (all_jobs builders config winners))) ≡ map (λ job. Process (id_of job)) (open_jobs builders config winners tables)
    same_work = ap work_of same_needed ∙ keys_of_images (λ from. Process (id_from from)) made (open_jobs builders config winners tables)
