-- What is spelled is read back, where it is as its types say and its paths are folded.
use Rattle.std.proofs.Common.{◌≡◌, ℕ, ℤ, zero, suc, Bool, true, false, ◌&&◌, List, [], ◌∷◌, ◌++◌, get_or, All, refl, subst, arith}
use Rattle.std.specs.Int.{w32, cast_signed, cast_unsigned}
use Rattle.std.specs.List.{list_all}
use Rattle.std.proofs.lemmas.Int.{to_z-of_z}
use Rattle.std.proofs.Math.Facts.{Fits-of_z}
use Rattle.ap_content.specs.declared.node.Number.{Number}
use Rattle.ap_text.specs.PathRules.{IsRelPath, is_rel_path}
use Rattle.ap_text.specs.NameRules.{IsName, IsPlatform, IsFileName, is_name, is_platform, is_file_name}
use Rattle.ap_text.specs.declared.job_id.JobId.{JobId}
use Rattle.ap_rows.specs.declared.job.DepKind.{DepKind}
use Rattle.ap_rows.specs.declared.job.DepKind.TheVariants.{Order, OrderOnce, Fingerprint}
use Rattle.ap_rows.specs.declared.job.DependencyRow.{DependencyRow}
use Rattle.ap_rows.specs.declared.job.JobDesc.{JobDesc}
use Rattle.ap_rows.specs.declared.job.Created.{Created}
use Rattle.ap_rows.specs.declared.job.Created.TheVariants.{Jobs, Builder, DuplicateKey, TooLarge}
use Rattle.ap_rows.specs.declared.row.FolderRow.{FolderRow}
use Rattle.ap_rows.specs.declared.row.SourceRow.{SourceRow}
use Rattle.ap_rows.specs.declared.row.CreateRow.{CreateRow}
use Rattle.ap_rows.specs.declared.row.JobRow.{JobRow}
use Rattle.ap_rows.specs.declared.row.SeenRow.{SeenRow}
use Rattle.ap_rows.specs.declared.row.SeenRow.TheVariants.{Bytes, TooLarge as SeenTooLarge}
use Rattle.ap_rows.specs.declared.row.OutcomeRow.{OutcomeRow}
use Rattle.ap_rows.specs.declared.row.OutcomeRow.TheVariants.{Done, Failed}
use Rattle.ap_rows.specs.declared.row.JobResult.{JobResult}
use Rattle.ap_rows.specs.declared.row.JobResult.TheVariants.{Processed, Cycle, Missing, DepFailed}
use Rattle.ap_rows.specs.declared.change.Item.{Item}
use Rattle.ap_rows.specs.declared.change.Item.TheVariants.{Define, Drop, PutSource, RemoveSource, PutCreate, RemoveCreate, PutJob, RemoveJob, PutFolders}
use Rattle.ap_rows.specs.Fields.{number_field, run_field, list_field, path_field, name_field, job_field}
use Rattle.ap_rows.specs.Readers.{number, run_of, list_of, raw_path, path, name, platform, file_name, job_id, is_folded}
use Rattle.ap_rows.specs.Grammar.{thing_number, kind_by, dep_kind, dependency, job_desc, seen_by, seen, created_by, created, outcome_by, outcome, result_by, job_result, folder_row, source_row, create_row, job_row, define, item_by, item}
use Rattle.ap_rows.specs.Spelling.{thing_field, kind_byte, dependency_field, desc_field, seen_field, created_field, outcome_field, result_field, folder_field, source_field, create_field, job_row_field, item_field}
use Rattle.ap_rows.specs.Typed.{TypedThing, TypedJob, TypedDependency, TypedDesc, TypedSeen, TypedCreated, TypedOutcome, TypedResult, TypedFolder, TypedSource, TypedCreate, TypedJobRow, TypedItem}
use Rattle.ap_rows.specs.Folded.{is_folded_job, is_folded_dependency, is_folded_desc, is_folded_created, is_folded_result, is_folded_source, is_folded_create, is_folded_job_row, is_folded_item}
use Rattle.ap_text.proofs.Deciding.{path-Decides, name-Decides, platform-Decides, file_name-Decides}
use Rattle.ap_rows.proofs.Chains.{ReadsBack, Back, chain1, chain2, chain3, chain4, chain7, number-back, run-back, list-back, that-back, byte-back, tag-back}

-- both tests hold
pub both : (a b : Bool) → (a && b) ≡ true → (a ≡ true) × (b ≡ true)
both true true h = (refl, refl)
both true false h = absurd (cc)
both false b h = absurd (cc)

-- the test holds of each item
pub each : {X : Type 0} (test : X → Bool) (xs : List X) → list_all test xs ≡ true → All (λ x. test x ≡ true) xs
each test [] h k d within = absurd (omega arith)
each test (x ∷ xs) h zero d within = (both (test x) (list_all test xs) h).0
each test (x ∷ xs) h (suc k) d within = each test xs (both (test x) (list_all test xs) h).1 k d (omega arith)

pub raw-back : (p : List ℕ) → IsRelPath p → Back raw_path (path_field p) p
unfolding raw_path
raw-back p h = let short = h.short in that-back is_rel_path (run_of 2) (path_field p) p ((path-Decides p).1 h) (run-back 2 p (omega arith))

pub path-back : (p : List ℕ) → IsRelPath p → is_folded p ≡ true → Back path (path_field p) p
unfolding path
path-back p h folded = that-back is_folded raw_path (path_field p) p folded (raw-back p h)

pub name-back : (p : List ℕ) → IsName p → Back name (name_field p) p
unfolding name
name-back p h = let short = h.short in that-back is_name (run_of 1) (name_field p) p ((name-Decides p).1 h) (run-back 1 p (omega arith))

pub platform-back : (p : List ℕ) → IsPlatform p → Back platform (name_field p) p
unfolding platform
platform-back p h = let short = h.short in that-back is_platform (run_of 1) (name_field p) p ((platform-Decides p).1 h) (run-back 1 p (omega arith))

pub file_name-back : (p : List ℕ) → IsFileName p → Back file_name (path_field p) p
unfolding file_name
file_name-back p h = let short = h.short in that-back is_file_name (run_of 2) (path_field p) p ((file_name-Decides p).1 h) (run-back 2 p (omega arith))

pub job-back : (job : JobId) → TypedJob job → is_folded_job job ≡ true → ReadsBack job_id job_field job
unfolding job_id
job-back job t folded =
    chain3 path name platform (λ source key platform. record { source = source; key = key; platform = platform }) (path_field job.source) (name_field job.key) (name_field job.platform) job.source job.key job.platform
    (path-back job.source t.0 folded) (name-back job.key t.1) (platform-back job.platform t.2)

pub thing-back : (n : Number) → TypedThing n → ReadsBack thing_number thing_field n
unfolding thing_number
thing-back n t = chain1 (number 8) (λ n. record { 0 = n }) (number_field 8 n.0) n.0 (number-back 8 n.0 t)

kind-back : (kind : DepKind) → ReadsBack dep_kind (λ k. kind_byte k ∷ []) kind
unfolding dep_kind kind_by
kind-back Order = tag-back kind_by 0 [] Order (λ after. refl)
kind-back OrderOnce = tag-back kind_by 1 [] OrderOnce (λ after. refl)
kind-back Fingerprint = tag-back kind_by 2 [] Fingerprint (λ after. refl)

pub dependency-back : (dep : DependencyRow) → TypedDependency dep → is_folded_dependency dep ≡ true → ReadsBack dependency dependency_field dep
unfolding dependency
dependency-back dep t folded =
    chain2 dep_kind job_id (λ kind job. record { kind = kind; job = job }) (kind_byte dep.kind ∷ []) (job_field dep.job) dep.kind dep.job (kind-back dep.kind) (job-back dep.job t folded)

pub desc-back : (desc : JobDesc) → TypedDesc desc → is_folded_desc desc ≡ true → ReadsBack job_desc desc_field desc
unfolding job_desc
desc-back desc t folded =
    let folds = each is_folded_dependency desc.deps folded in
    let bits = cast_unsigned w32 desc.priority in
    let fits = Fits-of_z {w = w32} {z = desc.priority} t.0.4 in
    let same : cast_signed w32 bits ≡ desc.priority = to_z-of_z w32 desc.priority t.0.4 in
    subst (λ (priority : ℤ). Back job_desc (desc_field desc) (record {
      builder = desc.builder;
      version = desc.version;
      platform = desc.platform;
      key = desc.key;
      priority = priority;
      params = desc.params;
      deps = desc.deps;
    })) same (chain7 name (number 4) platform name (number 4) (run_of 4) (list_of 4 dependency)
    (λ builder version platform key priority params deps. record { builder = builder; version = version; platform = platform; key = key; priority = cast_signed w32 priority; params = params; deps = deps })
    (name_field desc.builder) (number_field 4 desc.version) (name_field desc.platform) (name_field desc.key) (number_field 4 bits) (run_field 4 desc.params) (list_field 4 dependency_field desc.deps)
    desc.builder desc.version desc.platform desc.key bits desc.params desc.deps
    (name-back desc.builder t.0.0) (number-back 4 desc.version t.0.1) (platform-back desc.platform t.0.2) (name-back desc.key t.0.3) (number-back 4 bits (omega arith)) (run-back 4 desc.params t.1)
    (list-back dependency dependency_field desc.deps t.2.0 (λ k d within. dependency-back (get_or desc.deps k d) (t.2.1 k d within) (folds k d within))))

pub seen-back : (saw : SeenRow) → TypedSeen saw → ReadsBack seen seen_field saw
unfolding seen seen_by
seen-back (Bytes thing) t = tag-back seen_by 0 (thing_field thing) (Bytes thing) (chain1 thing_number Bytes (thing_field thing) thing (thing-back thing t))
seen-back SeenTooLarge t = tag-back seen_by 2 [] SeenTooLarge (λ after. refl)

pub created-back : (came : Created) → TypedCreated came → is_folded_created came ≡ true → ReadsBack created created_field came
unfolding created created_by
created-back (Jobs jobs) t folded =
    let folds = each is_folded_desc jobs folded in
    tag-back created_by 0 (list_field 4 desc_field jobs) (Jobs jobs)
    (chain1 (list_of 4 job_desc) Jobs (list_field 4 desc_field jobs) jobs (list-back job_desc desc_field jobs t.0 (λ k d within. desc-back (get_or jobs k d) (t.1 k d within) (folds k d within))))
created-back (Builder builder code) t folded =
    tag-back created_by 1 (name_field builder ++ number_field 4 code) (Builder builder code)
    (chain2 name (number 4) Builder (name_field builder) (number_field 4 code) builder code (name-back builder t.0) (number-back 4 code t.1))
created-back (DuplicateKey key target) t folded =
    tag-back created_by 2 (name_field key ++ name_field target) (DuplicateKey key target)
    (chain2 name platform DuplicateKey (name_field key) (name_field target) key target (name-back key t.0) (platform-back target t.1))
created-back TooLarge t folded = tag-back created_by 3 [] TooLarge (λ after. refl)

outcome-back : (came : OutcomeRow) → TypedOutcome came → ReadsBack outcome outcome_field came
unfolding outcome outcome_by
outcome-back (Done thing) t = tag-back outcome_by 0 (thing_field thing) (Done thing) (chain1 thing_number Done (thing_field thing) thing (thing-back thing t))
outcome-back (Failed code) t = tag-back outcome_by 1 (number_field 4 code) (Failed code) (chain1 (number 4) Failed (number_field 4 code) code (number-back 4 code t))

result-back : (became : JobResult) → TypedResult became → is_folded_result became ≡ true → ReadsBack job_result result_field became
unfolding job_result result_by
result-back (Processed input came) t folded =
    tag-back result_by 0 (thing_field input ++ outcome_field came) (Processed input came)
    (chain2 thing_number outcome Processed (thing_field input) (outcome_field came) input came (thing-back input t.0) (outcome-back came t.1))
result-back Cycle t folded = tag-back result_by 1 [] Cycle (λ after. refl)
result-back (Missing d) t folded = tag-back result_by 2 (job_field d) (Missing d) (chain1 job_id Missing (job_field d) d (job-back d t folded))
result-back (DepFailed d) t folded = tag-back result_by 3 (job_field d) (DepFailed d) (chain1 job_id DepFailed (job_field d) d (job-back d t folded))

folder-back : (row : FolderRow) → TypedFolder row → ReadsBack folder_row folder_field row
unfolding folder_row
folder-back row t = chain2 (number 4) raw_path (λ order path. record { order = order; path = path }) (number_field 4 row.order) (path_field row.path) row.order row.path (number-back 4 row.order t.0) (raw-back row.path t.1)

source-back : (row : SourceRow) → TypedSource row → is_folded_source row ≡ true → ReadsBack source_row source_field row
unfolding source_row
source-back row t folded =
    chain4 path (number 4) raw_path seen (λ path order name saw. record { path = path; order = order; name = name; seen = saw })
    (path_field row.path) (number_field 4 row.order) (path_field row.name) (seen_field row.seen) row.path row.order row.name row.seen
    (path-back row.path t.0 folded) (number-back 4 row.order t.1) (raw-back row.name t.2) (seen-back row.seen t.3)

create-back : (row : CreateRow) → TypedCreate row → is_folded_create row ≡ true → ReadsBack create_row create_field row
unfolding create_row
create-back row t folded =
    let folds = both (is_folded row.source) (is_folded_created row.created) folded in
    chain3 path thing_number created (λ source input came. record { source = source; input = input; created = came })
    (path_field row.source) (thing_field row.input) (created_field row.created) row.source row.input row.created
    (path-back row.source t.0 folds.0) (thing-back row.input t.1) (created-back row.created t.2 folds.1)

job_row-back : (row : JobRow) → TypedJobRow row → is_folded_job_row row ≡ true → ReadsBack job_row job_row_field row
unfolding job_row
job_row-back row t folded =
    let folds = both (is_folded_job row.id) (is_folded_result row.result) folded in
    chain2 job_id job_result (λ id became. record { id = id; result = became }) (job_field row.id) (result_field row.result) row.id row.result
    (job-back row.id t.0 folds.0) (result-back row.result t.1 folds.1)

pub item-back : (x : Item) → TypedItem x → is_folded_item x ≡ true → ReadsBack item item_field x
unfolding item item_by define
item-back (Define tag text kids) t folded =
    tag-back item_by 1 (tag ∷ run_field 4 text ++ list_field 4 thing_field kids) (Define tag text kids)
    (chain3 (number 1) (run_of 4) (list_of 4 thing_number) Define (tag ∷ []) (run_field 4 text) (list_field 4 thing_field kids) tag text kids
    (byte-back tag) (run-back 4 text t.1) (list-back thing_number thing_field kids t.2.0 (λ k d within. thing-back (get_or kids k d) (t.2.1 k d within))))
item-back (Drop thing) t folded = tag-back item_by 2 (thing_field thing) (Drop thing) (chain1 thing_number Drop (thing_field thing) thing (thing-back thing t))
item-back (PutSource row) t folded = tag-back item_by 3 (source_field row) (PutSource row) (chain1 source_row PutSource (source_field row) row (source-back row t folded))
item-back (RemoveSource p) t folded = tag-back item_by 4 (path_field p) (RemoveSource p) (chain1 path RemoveSource (path_field p) p (path-back p t folded))
item-back (PutCreate row) t folded = tag-back item_by 5 (create_field row) (PutCreate row) (chain1 create_row PutCreate (create_field row) row (create-back row t folded))
item-back (RemoveCreate p) t folded = tag-back item_by 6 (path_field p) (RemoveCreate p) (chain1 path RemoveCreate (path_field p) p (path-back p t folded))
item-back (PutJob row) t folded = tag-back item_by 7 (job_row_field row) (PutJob row) (chain1 job_row PutJob (job_row_field row) row (job_row-back row t folded))
item-back (RemoveJob id) t folded = tag-back item_by 8 (job_field id) (RemoveJob id) (chain1 job_id RemoveJob (job_field id) id (job-back id t folded))
item-back (PutFolders rows) t folded =
    tag-back item_by 9 (list_field 4 folder_field rows) (PutFolders rows)
    (chain1 (list_of 4 folder_row) PutFolders (list_field 4 folder_field rows) rows (list-back folder_row folder_field rows t.0 (λ k d within. folder-back (get_or rows k d) (t.1 k d within))))
