-- Items that bytes spell have folded paths, and so have the keys of rows.
use Rattle.std.proofs.Common.{◌≡◌, ℕ, zero, suc, Bool, true, false, cond, List, [], ◌∷◌, Some, refl, ap, subst}
use Rattle.std.specs.Bool.{⊤}
use Rattle.std.specs.List.{list_all}
use Rattle.std.specs.Int.{w32, cast_signed}
use Rattle.ap_rows.specs.Readers.{Reader, ◌>>=◌, gives, refuses, that, number, run_of, times, list_of, is_folded, raw_path, path, name, platform, job_id}
use Rattle.ap_rows.specs.Folded.{is_folded_job, is_folded_dependency, is_folded_desc, is_folded_created, is_folded_result, is_folded_source, is_folded_create, is_folded_job_row, is_folded_item}
use Rattle.ap_rows.specs.Grammar.{thing_number, dep_kind, dependency, job_desc, created_by, created, seen, outcome, result_by, job_result, folder_row, source_row, create_row, job_row, define, item_by, item}
use Rattle.ap_text.specs.declared.job_id.JobId.{JobId}
use Rattle.ap_rows.specs.declared.job.DependencyRow.{DependencyRow}
use Rattle.ap_rows.specs.declared.job.JobDesc.{JobDesc}
use Rattle.ap_rows.specs.declared.job.Created.{Created}
use Rattle.ap_rows.specs.declared.job.Created.TheVariants.{Jobs, Builder, DuplicateKey, TooLarge}
use Rattle.ap_rows.specs.declared.row.SourceRow.{SourceRow}
use Rattle.ap_rows.specs.declared.row.CreateRow.{CreateRow}
use Rattle.ap_rows.specs.declared.row.JobRow.{JobRow}
use Rattle.ap_rows.specs.declared.row.JobResult.{JobResult}
use Rattle.ap_rows.specs.declared.row.JobResult.TheVariants.{Processed, Cycle, Missing, DepFailed}
use Rattle.ap_rows.specs.declared.change.Item.{Item}
use Rattle.ap_rows.specs.declared.change.Item.TheVariants.{Define, Drop, PutSource, RemoveSource, PutCreate, RemoveCreate, PutJob, RemoveJob, PutFolders}
use Rattle.ap_db.specs.Options.{from_then_some}
use Rattle.ap_db.specs.SameThings.{both_true}

-- what a form gives is such
abbrev pub Gives : {X : Type 0} → Reader X → (X → Type 0) → Type 0
Gives {X} reader P = (bytes rest : List ℕ) (x : X) → reader bytes ≡ Some (x, rest) → P x

module _ {X Y : Type 0} where
  then_gives : (first : Reader X) (next : X → Reader Y) (P : X → Type 0) (Q : Y → Type 0) → Gives first P → ((x : X) → P x → Gives (next x) Q) → Gives (first >>= next) Q
  then_gives first next P Q one other bytes rest y e =
      let read = from_then_some (λ read. next read.0 read.1) (first bytes) (y, rest) e in
      other read.0.0 (one bytes read.0.1 read.0.0 read.1) read.0.1 rest y read.2

module _ {X : Type 0} where
  gives_it : (P : X → Type 0) (x : X) → P x → Gives (gives x) P
  gives_it P x p bytes rest y e = let same : ◌≡◌ {A = X × List ℕ} (x, bytes) (y, rest) = cc e in subst P (ap (λ (r : X × List ℕ). r.0) same) p

  gives_none : (P : X → Type 0) → Gives refuses P
  gives_none P bytes rest y e = absurd (cc e)

  gives_any : (reader : Reader X) → Gives reader (λ x. ⊤)
  gives_any reader bytes rest y e = tt

  either_gives : (b : Bool) (one other : Reader X) (P : X → Type 0) → Gives one P → Gives other P → Gives (cond b one other) P
  either_gives true one other P p q = p
  either_gives false one other P p q = q

module _ {X : Type 0} where
  that_gives : (test : X → Bool) (reader : Reader X) → Gives (that test reader) (λ x. test x ≡ true)
  that_gives test reader = then_gives reader (λ x. cond (test x) (gives x) refuses) (λ x. ⊤) (λ x. test x ≡ true) (gives_any reader) (λ x t. step x (test x) refl)
    where
      step : (x : X) (b : Bool) → test x ≡ b → Gives (cond b (gives x) refuses) (λ x. test x ≡ true)
      step x true is = gives_it (λ x. test x ≡ true) x is
      step x false is = gives_none (λ x. test x ≡ true)

  times_gives : (test : X → Bool) (reader : Reader X) → Gives reader (λ x. test x ≡ true) → (n : ℕ) → Gives (times reader n) (λ xs. list_all test xs ≡ true)
  times_gives test reader each zero = gives_it (λ xs. list_all test xs ≡ true) [] refl
  times_gives test reader each (suc n) =
      then_gives reader (λ x. times reader n >>= λ xs. gives (x ∷ xs)) (λ x. test x ≡ true) (λ xs. list_all test xs ≡ true) each
      (λ x is. then_gives (times reader n) (λ xs. gives (x ∷ xs)) (λ xs. list_all test xs ≡ true) (λ xs. list_all test xs ≡ true) (times_gives test reader each n)
      (λ xs are. gives_it (λ xs. list_all test xs ≡ true) (x ∷ xs) (both_true (test x) (list_all test xs) is are)))

  list_gives : (test : X → Bool) (width : ℕ) (reader : Reader X) → Gives reader (λ x. test x ≡ true) → Gives (list_of width reader) (λ xs. list_all test xs ≡ true)
  list_gives test width reader each = then_gives (number width) (times reader) (λ n. ⊤) (λ xs. list_all test xs ≡ true) (gives_any (number width)) (λ n t. times_gives test reader each n)

-- ---- the forms

path_gives : Gives path (λ p. is_folded p ≡ true)
unfolding path
path_gives = that_gives is_folded raw_path

job_gives : Gives job_id (λ id. is_folded_job id ≡ true)
unfolding job_id
job_gives =
    let P = λ (id : JobId). is_folded_job id ≡ true in
    then_gives path (λ source. name >>= λ key. platform >>= λ platform. gives (record { source = source; key = key; platform = platform })) (λ p. is_folded p ≡ true) P path_gives
    (λ source is. then_gives name (λ key. platform >>= λ platform. gives (record { source = source; key = key; platform = platform })) (λ n. ⊤) P (gives_any name)
    (λ key t. then_gives platform (λ platform. gives (record { source = source; key = key; platform = platform })) (λ n. ⊤) P (gives_any platform)
    (λ pf t. gives_it P (record { source = source; key = key; platform = pf }) is)))

dependency_gives : Gives dependency (λ d. is_folded_dependency d ≡ true)
unfolding dependency
dependency_gives =
    let P = λ (d : DependencyRow). is_folded_dependency d ≡ true in
    then_gives dep_kind (λ kind. job_id >>= λ job. gives (record { kind = kind; job = job })) (λ k. ⊤) P (gives_any dep_kind)
    (λ kind t. then_gives job_id (λ job. gives (record { kind = kind; job = job })) (λ id. is_folded_job id ≡ true) P job_gives (λ job is. gives_it P (record { kind = kind; job = job }) is))

desc_gives : Gives job_desc (λ d. is_folded_desc d ≡ true)
unfolding job_desc
desc_gives =
    let P = λ (d : JobDesc). is_folded_desc d ≡ true in
    then_gives name _ (λ x. ⊤) P (gives_any name) (λ builder t.
    then_gives (number 4) _ (λ x. ⊤) P (gives_any (number 4)) (λ version t.
    then_gives platform _ (λ x. ⊤) P (gives_any platform) (λ pf t.
    then_gives name _ (λ x. ⊤) P (gives_any name) (λ key t.
    then_gives (number 4) _ (λ x. ⊤) P (gives_any (number 4)) (λ priority t.
    then_gives (run_of 4) _ (λ x. ⊤) P (gives_any (run_of 4)) (λ params t.
    then_gives (list_of 4 dependency) _ (λ ds. list_all is_folded_dependency ds ≡ true) P (list_gives is_folded_dependency 4 dependency dependency_gives) (λ deps are.
    gives_it P (record { builder = builder; version = version; platform = pf; key = key; priority = cast_signed w32 priority; params = params; deps = deps }) are)))))))

created_gives : Gives created (λ c. is_folded_created c ≡ true)
unfolding created created_by
created_gives =
    let P = λ (c : Created). is_folded_created c ≡ true in
    then_gives (number 1) created_by (λ n. ⊤) P (gives_any (number 1)) (λ n t.
    either_gives _ _ _ P (then_gives (list_of 4 job_desc) _ (λ js. list_all is_folded_desc js ≡ true) P (list_gives is_folded_desc 4 job_desc desc_gives) (λ jobs are. gives_it P (Jobs jobs) are))
    (either_gives _ _ _ P (then_gives name _ (λ x. ⊤) P (gives_any name) (λ builder t. then_gives (number 4) _ (λ x. ⊤) P (gives_any (number 4)) (λ code t. gives_it P (Builder builder code) refl)))
    (either_gives _ _ _ P (then_gives name _ (λ x. ⊤) P (gives_any name) (λ key t. then_gives platform _ (λ x. ⊤) P (gives_any platform) (λ pf t. gives_it P (DuplicateKey key pf) refl)))
    (either_gives _ _ _ P (gives_it P TooLarge refl) (gives_none P)))))

result_gives : Gives job_result (λ r. is_folded_result r ≡ true)
unfolding job_result result_by
result_gives =
    let P = λ (r : JobResult). is_folded_result r ≡ true in
    then_gives (number 1) result_by (λ n. ⊤) P (gives_any (number 1)) (λ n t.
    either_gives _ _ _ P (then_gives thing_number _ (λ x. ⊤) P (gives_any thing_number) (λ input t. then_gives outcome _ (λ x. ⊤) P (gives_any outcome) (λ came t. gives_it P (Processed input came) refl)))
    (either_gives _ _ _ P (gives_it P Cycle refl)
    (either_gives _ _ _ P (then_gives job_id _ (λ id. is_folded_job id ≡ true) P job_gives (λ d is. gives_it P (Missing d) is))
    (either_gives _ _ _ P (then_gives job_id _ (λ id. is_folded_job id ≡ true) P job_gives (λ d is. gives_it P (DepFailed d) is)) (gives_none P)))))

source_gives : Gives source_row (λ r. is_folded_source r ≡ true)
unfolding source_row
source_gives =
    let P = λ (r : SourceRow). is_folded_source r ≡ true in
    then_gives path _ (λ p. is_folded p ≡ true) P path_gives (λ p is.
    then_gives (number 4) _ (λ x. ⊤) P (gives_any (number 4)) (λ order t.
    then_gives raw_path _ (λ x. ⊤) P (gives_any raw_path) (λ file t.
    then_gives seen _ (λ x. ⊤) P (gives_any seen) (λ saw t. gives_it P (record { path = p; order = order; name = file; seen = saw }) is))))

create_gives : Gives create_row (λ r. is_folded_create r ≡ true)
unfolding create_row
create_gives =
    let P = λ (r : CreateRow). is_folded_create r ≡ true in
    then_gives path _ (λ p. is_folded p ≡ true) P path_gives (λ source is.
    then_gives thing_number _ (λ x. ⊤) P (gives_any thing_number) (λ input t.
    then_gives created _ (λ c. is_folded_created c ≡ true) P created_gives (λ came are. gives_it P (record { source = source; input = input; created = came }) (both_true (is_folded source) (is_folded_created came) is are))))

job_row_gives : Gives job_row (λ r. is_folded_job_row r ≡ true)
unfolding job_row
job_row_gives =
    let P = λ (r : JobRow). is_folded_job_row r ≡ true in
    then_gives job_id _ (λ id. is_folded_job id ≡ true) P job_gives (λ id is.
    then_gives job_result _ (λ r. is_folded_result r ≡ true) P result_gives (λ result are. gives_it P (record { id = id; result = result }) (both_true (is_folded_job id) (is_folded_result result) is are)))

define_gives : Gives define (λ x. is_folded_item x ≡ true)
unfolding define
define_gives =
    let P = λ (x : Item). is_folded_item x ≡ true in
    then_gives (number 1) _ (λ x. ⊤) P (gives_any (number 1)) (λ tag t.
    then_gives (run_of 4) _ (λ x. ⊤) P (gives_any (run_of 4)) (λ text t.
    then_gives (list_of 4 thing_number) _ (λ x. ⊤) P (gives_any (list_of 4 thing_number)) (λ kids t. gives_it P (Define tag text kids) refl)))

-- an item that bytes spell has folded paths
pub item_is_folded : Gives item (λ x. is_folded_item x ≡ true)
unfolding item item_by
item_is_folded =
    let P = λ (x : Item). is_folded_item x ≡ true in
    then_gives (number 1) item_by (λ n. ⊤) P (gives_any (number 1)) (λ n t.
    either_gives _ _ _ P define_gives
    (either_gives _ _ _ P (then_gives thing_number _ (λ x. ⊤) P (gives_any thing_number) (λ thing t. gives_it P (Drop thing) refl))
    (either_gives _ _ _ P (then_gives source_row _ (λ r. is_folded_source r ≡ true) P source_gives (λ row is. gives_it P (PutSource row) is))
    (either_gives _ _ _ P (then_gives path _ (λ p. is_folded p ≡ true) P path_gives (λ p is. gives_it P (RemoveSource p) is))
    (either_gives _ _ _ P (then_gives create_row _ (λ r. is_folded_create r ≡ true) P create_gives (λ row is. gives_it P (PutCreate row) is))
    (either_gives _ _ _ P (then_gives path _ (λ p. is_folded p ≡ true) P path_gives (λ p is. gives_it P (RemoveCreate p) is))
    (either_gives _ _ _ P (then_gives job_row _ (λ r. is_folded_job_row r ≡ true) P job_row_gives (λ row is. gives_it P (PutJob row) is))
    (either_gives _ _ _ P (then_gives job_id _ (λ id. is_folded_job id ≡ true) P job_gives (λ id is. gives_it P (RemoveJob id) is))
    (either_gives _ _ _ P (then_gives (list_of 4 folder_row) _ (λ x. ⊤) P (gives_any (list_of 4 folder_row)) (λ rows t. gives_it P (PutFolders rows) refl)) (gives_none P))))))))))
