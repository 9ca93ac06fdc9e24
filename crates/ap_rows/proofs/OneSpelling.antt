-- What is in the grammar is the spelling of what it is read as, and its paths are folded.
use Rattle.std.proofs.Common.{◌≡◌, ◌<◌, ◌^◌, ℕ, Bool, true, ◌&&◌, List, [], ◌∷◌, ◌++◌, refl, ap, sym, ◌∙◌, arith}
use Rattle.std.specs.Int.{w32, cast_signed}
use Rattle.std.specs.List.{list_all}
use Rattle.std.proofs.lemmas.Int.{of_z-to_z}
use Rattle.std.proofs.Math.Nat.{mod-eq_of_lt}
use Rattle.ap_rows.specs.declared.job.DepKind.{DepKind}
use Rattle.ap_rows.specs.declared.job.DepKind.TheVariants.{Order, OrderOnce, Fingerprint}
use Rattle.ap_rows.specs.declared.job.DependencyRow.{DependencyRow}
use Rattle.ap_rows.specs.declared.job.Created.TheVariants.{Jobs, Builder, DuplicateKey, TooLarge}
use Rattle.ap_rows.specs.declared.row.SeenRow.TheVariants.{Bytes, TooLarge as SeenTooLarge}
use Rattle.ap_rows.specs.declared.row.OutcomeRow.TheVariants.{Done, Failed}
use Rattle.ap_rows.specs.declared.row.JobResult.TheVariants.{Processed, Cycle, Missing, DepFailed}
use Rattle.ap_rows.specs.declared.change.Item.TheVariants.{Define, Drop, PutSource, RemoveSource, PutCreate, RemoveCreate, PutJob, RemoveJob, PutFolders}
use Rattle.ap_rows.specs.Fields.{number_field, run_field, list_field, path_field, name_field, job_field}
use Rattle.ap_text.specs.PathRules.{is_rel_path}
use Rattle.ap_text.specs.NameRules.{is_name, is_platform, is_file_name}
use Rattle.ap_rows.specs.Readers.{◌>>=◌, gives, number, run_of, list_of, raw_path, path, name, platform, file_name, job_id, is_folded}
use Rattle.ap_rows.specs.Grammar.{thing_number, kind_by, dep_kind, dependency, job_desc, seen_by, seen, created_by, created, outcome_by, outcome, result_by, job_result, folder_row, source_row, create_row, job_row, define, item_by, item}
use Rattle.ap_rows.specs.Spelling.{thing_field, kind_byte, dependency_field, desc_field, seen_field, created_field, outcome_field, result_field, folder_field, source_field, create_field, job_row_field, item_field}
use Rattle.ap_rows.specs.Folded.{is_folded_job, is_folded_dependency, is_folded_desc, is_folded_created, is_folded_result, is_folded_source, is_folded_create, is_folded_job_row, is_folded_item}
use Rattle.ap_rows.proofs.Told.{Told, gives-told, refuses-told, case-told, number-told, run-told, list-told, that-told, tag-told, told1, told2, told3, told4, told7}

-- nothing is said of it beside its bytes
abbrev pub Any : {X : Type 0} → X → Type 0
Any x = true ≡ true

-- the test holds of it
abbrev pub Passes : {X : Type 0} → (X → Bool) → X → Type 0
Passes test x = test x ≡ true

pub raw-told : Told raw_path path_field (Passes is_rel_path)
unfolding raw_path
raw-told = that-told is_rel_path (run_of 2) path_field (λ run. Unit {0}) (run-told 2)

pub path-told : Told path path_field (Passes is_folded)
unfolding path
path-told = that-told is_folded raw_path path_field (Passes is_rel_path) raw-told

pub name-told : Told name name_field (Passes is_name)
unfolding name
name-told = that-told is_name (run_of 1) name_field (λ run. Unit {0}) (run-told 1)

pub platform-told : Told platform name_field (Passes is_platform)
unfolding platform
platform-told = that-told is_platform (run_of 1) name_field (λ run. Unit {0}) (run-told 1)

pub file_name-told : Told file_name path_field (Passes is_file_name)
unfolding file_name
file_name-told = that-told is_file_name (run_of 2) path_field (λ run. Unit {0}) (run-told 2)

pub job-told : Told job_id job_field (Passes is_folded_job)
unfolding job_id
job-told =
    told3 job_field (Passes is_folded_job) path name platform (λ source key platform. record { source = source; key = key; platform = platform }) path_field name_field name_field (Passes is_folded) (Passes is_name) (Passes is_platform)
    [] path-told name-told platform-told (λ source key target folded k t. (refl, folded))

pub thing-told : Told thing_number thing_field Any
unfolding thing_number
thing-told = told1 thing_field Any (number 8) (λ n. record { 0 = n }) (number_field 8) (λ n. n < 256 ^ 8) [] (number-told 8) (λ n fits. (refl, refl))

abbrev kind_field : DepKind → List ℕ
kind_field kind = kind_byte kind ∷ []

kind-told : Told dep_kind kind_field Any
unfolding dep_kind kind_by
kind-told =
    tag-told kind_field Any kind_by
    (λ b. case-told kind_field Any b 0 (gives Order) _ (gives-told kind_field Any Order (0 ∷ []) refl refl)
    (case-told kind_field Any b 1 (gives OrderOnce) _ (gives-told kind_field Any OrderOnce (1 ∷ []) refl refl)
    (case-told kind_field Any b 2 (gives Fingerprint) _ (gives-told kind_field Any Fingerprint (2 ∷ []) refl refl)
    (refuses-told kind_field Any (b ∷ [])))))

pub dependency-told : Told dependency dependency_field (Passes is_folded_dependency)
unfolding dependency
dependency-told =
    told2 dependency_field (Passes is_folded_dependency) dep_kind job_id (λ kind job. record { kind = kind; job = job }) kind_field job_field Any (Passes is_folded_job)
    [] kind-told job-told (λ kind job k folded. (refl, folded))

same : (builder : List ℕ) (version : ℕ) (platform key : List ℕ) (priority : ℕ) (params : List ℕ) (deps : List DependencyRow) → priority < 256 ^ 4
    → name_field builder ++ number_field 4 version ++ name_field platform ++ name_field key ++ number_field 4 priority ++ run_field 4 params ++ list_field 4 dependency_field deps
    ≡ desc_field (record { builder = builder; version = version; platform = platform; key = key; priority = cast_signed w32 priority; params = params; deps = deps })
same builder version platform key priority params deps fits =
    ap (λ n. name_field builder ++ number_field 4 version ++ name_field platform ++ name_field key ++ number_field 4 n ++ run_field 4 params ++ list_field 4 dependency_field deps)
    (sym (of_z-to_z w32 priority (omega arith)))

pub desc-told : Told job_desc desc_field (Passes is_folded_desc)
unfolding job_desc
desc-told =
    told7 desc_field (Passes is_folded_desc) name (number 4) platform name (number 4) (run_of 4) (list_of 4 dependency)
    (λ builder version platform key priority params deps. record { builder = builder; version = version; platform = platform; key = key; priority = cast_signed w32 priority; params = params; deps = deps })
    name_field (number_field 4) name_field name_field (number_field 4) (run_field 4) (list_field 4 dependency_field)
    (Passes is_name) (λ n. n < 256 ^ 4) (Passes is_platform) (Passes is_name) (λ n. n < 256 ^ 4) (λ run. Unit {0}) (Passes (list_all is_folded_dependency))
    [] name-told (number-told 4) platform-told name-told (number-told 4) (run-told 4) (list-told dependency dependency_field is_folded_dependency dependency-told)
    (λ builder version platform key priority params deps b v p k fits r folded. (same builder version platform key priority params deps fits, folded))

pub seen-told : Told seen seen_field Any
unfolding seen seen_by
seen-told =
    tag-told seen_field Any seen_by
    (λ b. case-told seen_field Any b 0 (thing_number >>= λ thing. gives (Bytes thing)) _
    (told1 seen_field Any thing_number Bytes thing_field Any (0 ∷ []) thing-told (λ thing t. (refl, refl)))
    (case-told seen_field Any b 2 (gives SeenTooLarge) _ (gives-told seen_field Any SeenTooLarge (2 ∷ []) refl refl)
    (refuses-told seen_field Any (b ∷ []))))

pub created-told : Told created created_field (Passes is_folded_created)
unfolding created created_by
created-told =
    let Good = Passes is_folded_created in
    tag-told created_field Good created_by
    (λ b. case-told created_field Good b 0 (list_of 4 job_desc >>= λ jobs. gives (Jobs jobs)) _
    (told1 created_field Good (list_of 4 job_desc) Jobs (list_field 4 desc_field) (Passes (list_all is_folded_desc)) (0 ∷ []) (list-told job_desc desc_field is_folded_desc desc-told) (λ jobs folded. (refl, folded)))
    (case-told created_field Good b 1 (name >>= λ builder. number 4 >>= λ code. gives (Builder builder code)) _
    (told2 created_field Good name (number 4) Builder name_field (number_field 4) (Passes is_name) (λ n. n < 256 ^ 4) (1 ∷ []) name-told (number-told 4) (λ builder code n fits. (refl, refl)))
    (case-told created_field Good b 2 (name >>= λ key. platform >>= λ platform. gives (DuplicateKey key platform)) _
    (told2 created_field Good name platform DuplicateKey name_field name_field (Passes is_name) (Passes is_platform) (2 ∷ []) name-told platform-told (λ key target k t. (refl, refl)))
    (case-told created_field Good b 3 (gives TooLarge) _ (gives-told created_field Good TooLarge (3 ∷ []) refl refl)
    (refuses-told created_field Good (b ∷ []))))))

pub outcome-told : Told outcome outcome_field Any
unfolding outcome outcome_by
outcome-told =
    tag-told outcome_field Any outcome_by
    (λ b. case-told outcome_field Any b 0 (thing_number >>= λ thing. gives (Done thing)) _
    (told1 outcome_field Any thing_number Done thing_field Any (0 ∷ []) thing-told (λ thing t. (refl, refl)))
    (case-told outcome_field Any b 1 (number 4 >>= λ code. gives (Failed code)) _
    (told1 outcome_field Any (number 4) Failed (number_field 4) (λ n. n < 256 ^ 4) (1 ∷ []) (number-told 4) (λ code fits. (refl, refl)))
    (refuses-told outcome_field Any (b ∷ []))))

pub result-told : Told job_result result_field (Passes is_folded_result)
unfolding job_result result_by
result-told =
    let Good = Passes is_folded_result in
    tag-told result_field Good result_by
    (λ b. case-told result_field Good b 0 (thing_number >>= λ input. outcome >>= λ came. gives (Processed input came)) _
    (told2 result_field Good thing_number outcome Processed thing_field outcome_field Any Any (0 ∷ []) thing-told outcome-told (λ input came i o. (refl, refl)))
    (case-told result_field Good b 1 (gives Cycle) _ (gives-told result_field Good Cycle (1 ∷ []) refl refl)
    (case-told result_field Good b 2 (job_id >>= λ d. gives (Missing d)) _
    (told1 result_field Good job_id Missing job_field (Passes is_folded_job) (2 ∷ []) job-told (λ d folded. (refl, folded)))
    (case-told result_field Good b 3 (job_id >>= λ d. gives (DepFailed d)) _
    (told1 result_field Good job_id DepFailed job_field (Passes is_folded_job) (3 ∷ []) job-told (λ d folded. (refl, folded)))
    (refuses-told result_field Good (b ∷ []))))))

pub folder-told : Told folder_row folder_field Any
unfolding folder_row
folder-told =
    told2 folder_field Any (number 4) raw_path (λ order path. record { order = order; path = path }) (number_field 4) path_field (λ n. n < 256 ^ 4) (Passes is_rel_path)
    [] (number-told 4) raw-told (λ order path fits p. (refl, refl))

pub source-told : Told source_row source_field (Passes is_folded_source)
unfolding source_row
source-told =
    told4 source_field (Passes is_folded_source) path (number 4) raw_path seen (λ path order name saw. record { path = path; order = order; name = name; seen = saw })
    path_field (number_field 4) path_field seen_field (Passes is_folded) (λ n. n < 256 ^ 4) (Passes is_rel_path) Any
    [] path-told (number-told 4) raw-told seen-told (λ path order name saw folded fits n s. (refl, folded))

pub create-told : Told create_row create_field (Passes is_folded_create)
unfolding create_row
create-told =
    told3 create_field (Passes is_folded_create) path thing_number created (λ source input came. record { source = source; input = input; created = came })
    path_field thing_field created_field (Passes is_folded) Any (Passes is_folded_created)
    [] path-told thing-told created-told (λ source input came folded i good. (refl, ap (λ b. b && is_folded_created came) folded ∙ good))

pub job_row-told : Told job_row job_row_field (Passes is_folded_job_row)
unfolding job_row
job_row-told =
    told2 job_row_field (Passes is_folded_job_row) job_id job_result (λ id became. record { id = id; result = became }) job_field result_field (Passes is_folded_job) (Passes is_folded_result)
    [] job-told result-told (λ id became folded good. (refl, ap (λ b. b && is_folded_result became) folded ∙ good))

pub item-told : Told item item_field (Passes is_folded_item)
unfolding item item_by define
item-told =
    let Good = Passes is_folded_item in
    tag-told item_field Good item_by
    (λ b. case-told item_field Good b 1 (number 1 >>= λ tag. run_of 4 >>= λ text. list_of 4 thing_number >>= λ kids. gives (Define tag text kids)) _
    (told3 item_field Good (number 1) (run_of 4) (list_of 4 thing_number) Define (number_field 1) (run_field 4) (list_field 4 thing_field) (λ n. n < 256 ^ 1) (λ run. Unit {0}) (Passes (list_all (λ n. true)))
    (1 ∷ []) (number-told 1) (run-told 4) (list-told thing_number thing_field (λ n. true) thing-told) (λ tag text kids low r k. (ap (λ n. 1 ∷ n ∷ run_field 4 text ++ list_field 4 thing_field kids) (mod-eq_of_lt low), refl)))
    (case-told item_field Good b 2 (thing_number >>= λ thing. gives (Drop thing)) _
    (told1 item_field Good thing_number Drop thing_field Any (2 ∷ []) thing-told (λ thing t. (refl, refl)))
    (case-told item_field Good b 3 (source_row >>= λ row. gives (PutSource row)) _
    (told1 item_field Good source_row PutSource source_field (Passes is_folded_source) (3 ∷ []) source-told (λ row folded. (refl, folded)))
    (case-told item_field Good b 4 (path >>= λ path. gives (RemoveSource path)) _
    (told1 item_field Good path RemoveSource path_field (Passes is_folded) (4 ∷ []) path-told (λ p folded. (refl, folded)))
    (case-told item_field Good b 5 (create_row >>= λ row. gives (PutCreate row)) _
    (told1 item_field Good create_row PutCreate create_field (Passes is_folded_create) (5 ∷ []) create-told (λ row folded. (refl, folded)))
    (case-told item_field Good b 6 (path >>= λ path. gives (RemoveCreate path)) _
    (told1 item_field Good path RemoveCreate path_field (Passes is_folded) (6 ∷ []) path-told (λ p folded. (refl, folded)))
    (case-told item_field Good b 7 (job_row >>= λ row. gives (PutJob row)) _
    (told1 item_field Good job_row PutJob job_row_field (Passes is_folded_job_row) (7 ∷ []) job_row-told (λ row folded. (refl, folded)))
    (case-told item_field Good b 8 (job_id >>= λ id. gives (RemoveJob id)) _
    (told1 item_field Good job_id RemoveJob job_field (Passes is_folded_job) (8 ∷ []) job-told (λ id folded. (refl, folded)))
    (case-told item_field Good b 9 (list_of 4 folder_row >>= λ rows. gives (PutFolders rows)) _
    (told1 item_field Good (list_of 4 folder_row) PutFolders (list_field 4 folder_field) (Passes (list_all (λ row. true))) (9 ∷ []) (list-told folder_row folder_field (λ row. true) folder-told) (λ rows r. (refl, refl)))
    (refuses-told item_field Good (b ∷ [])))))))))))
