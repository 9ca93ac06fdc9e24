-- What a change by numbers of the contents says as plain items, and tests that say whether that is lawful.
use Rattle.std.proofs.Common.{◌≡◌, ◌&&◌, ℕ, Bool, true, false, List, Option, Some, None, is_some, refl, sym, ◌∙◌, ap}
use Rattle.ap_text.specs.declared.job_id.JobId.{JobId}
use Rattle.ap_content.specs.Things.{Thing}
use Rattle.ap_content.specs.declared.node.Number.{Number}
use Rattle.ap_rows.specs.declared.row.FolderRow.{FolderRow}
use Rattle.ap_rows.specs.declared.row.SourceRow.{SourceRow}
use Rattle.ap_rows.specs.declared.row.CreateRow.{CreateRow}
use Rattle.ap_rows.specs.declared.row.JobRow.{JobRow}
use Rattle.ap_rows.specs.declared.row.SeenRow.TheVariants.{Bytes, TooLarge}
use Rattle.ap_rows.specs.declared.row.OutcomeRow.{OutcomeRow}
use Rattle.ap_rows.specs.declared.row.OutcomeRow.TheVariants.{Done, Failed}
use Rattle.ap_rows.specs.declared.row.JobResult.TheVariants.{Processed, Cycle, Missing, DepFailed}
use Rattle.ap_rows.specs.declared.change.Item.{Item}
use Rattle.ap_rows.specs.declared.change.Item.TheVariants.{PutSource, RemoveSource, PutCreate, RemoveCreate, PutJob, RemoveJob, PutFolders}
use Rattle.ap_rows.specs.Readers.{is_folded}
use Rattle.ap_rows.specs.Folded.{is_folded_job, is_folded_created}
use Rattle.ap_db.specs.Tables.{PlainOutcome, done, failed, PlainResult, processed, on_cycle, lacks, after_failure, PlainTables}
use Rattle.ap_db.specs.Changes.{source_row_at, create_row_at, job_row_at}
use Rattle.ap_db.specs.Stored.{Stored, orders_rise}
use Rattle.ap_db.specs.Commit.{PlainItem, puts_folders, puts_source, removes_source, puts_create, removes_create, puts_job, removes_job}
use Rattle.ap_db.specs.Lawful.{is_good_thing, is_good_content, is_good_outcome, is_good_result, is_lawful_item}
use Rattle.ap_db.specs.States.{SeenIs, SourceIs, CreateIs, OutcomeIs, ResultIs, JobIs}
use Rattle.ap_db.specs.SameThings.{both_true, both_parts}

-- the plain item that an item says, where a number names a thing so; a Define and a Drop say none
abbrev pub ItemIs : (Number → Thing → Type 0) → Item → PlainItem → Type 0
ItemIs N (PutSource row) (puts_source plain) = SourceIs N row plain
ItemIs N (RemoveSource path) (removes_source plain) = path ≡ plain
ItemIs N (PutCreate row) (puts_create plain) = CreateIs N row plain
ItemIs N (RemoveCreate path) (removes_create plain) = path ≡ plain
ItemIs N (PutJob row) (puts_job plain) = JobIs N row plain
ItemIs N (RemoveJob id) (removes_job plain) = id ≡ plain
ItemIs N (PutFolders rows) (puts_folders plain) = rows ≡ plain
ItemIs N item plain = ⊥

-- the answer is true exactly where there is one that this stands for, and it is good
pub record Says {X : Type 0} (result : Bool) (Is : X → Type 0) (good : X → Bool) : Type 0 where
  pub sound : result ≡ true → (x : X) × Is x × (good x ≡ true)
  pub complete : (x : X) → Is x → good x ≡ true → result ≡ true

-- where there is none it is false
pub says_no : {X : Type 0} (Is : X → Type 0) (good : X → Bool) → ((x : X) → Is x → good x ≡ true → ⊥) → Says false Is good
says_no Is good never = record { sound = λ e. absurd (cc e); complete = λ x is e. absurd (never x is e) }

-- what is not so, is for none
pub never_so : {X : Type 0} (result : Bool) (Is : X → Type 0) (good : X → Bool) → result ≡ false → Says result Is good → (x : X) → Is x → good x ≡ true → ⊥
never_so result Is good e says x is so = let yes_too = says.complete x is so in absurd (cc (e, yes_too))

false_or_true : (b : Bool) → b ≡ false → b ≡ true → ⊥
false_or_true b e h = absurd (cc (e, h))

module _ (N : Number → Thing → Type 0) (stored : Stored) where
  -- ---- what rows name

  pub says_bytes : (r : Bool) (n : Number) → Says r (N n) (is_good_thing stored 0) → Says r (SeenIs N (Bytes n)) (is_good_content stored)
  says_bytes r n says = record { sound = λ e. let x = says.sound e in (Some x.0, x.1, x.2); complete = λ o is so. whole o is so }
    where
      whole : (o : Option Thing) → SeenIs N (Bytes n) o → is_good_content stored o ≡ true → r ≡ true
      whole None is so = absurd is
      whole (Some x) is so = says.complete x is so

  pub says_too_large : Says true (SeenIs N TooLarge) (is_good_content stored)
  says_too_large = record { sound = λ e. (None, tt, refl); complete = λ o is so. refl }

  pub says_done : (r : Bool) (n : Number) → Says r (N n) (is_good_thing stored 3) → Says r (OutcomeIs N (Done n)) (is_good_outcome stored)
  says_done r n says = record { sound = λ e. let x = says.sound e in (done x.0, x.1, x.2); complete = λ o is so. whole o is so }
    where
      whole : (o : PlainOutcome) → OutcomeIs N (Done n) o → is_good_outcome stored o ≡ true → r ≡ true
      whole (done x) is so = says.complete x is so
      whole (failed code) is so = absurd is

  pub says_failed : (code : ℕ) → Says true (OutcomeIs N (Failed code)) (is_good_outcome stored)
  says_failed code = record { sound = λ e. (failed code, refl, refl); complete = λ o is so. refl }

  pub says_no_input : (n : Number) (outcome : OutcomeRow) → Says false (N n) (is_good_thing stored 2) → Says false (ResultIs N (Processed n outcome)) (is_good_result stored)
  says_no_input n outcome says = says_no (ResultIs N (Processed n outcome)) (is_good_result stored) (λ result is so. never result is so)
    where
      never : (result : PlainResult) → ResultIs N (Processed n outcome) result → is_good_result stored result ≡ true → ⊥
      never (processed input came) is so = false_or_true false refl (says.complete input is.0 (both_parts (is_good_thing stored 2 input) (is_good_outcome stored came) so).0)
      never on_cycle is so = absurd is
      never (lacks d) is so = absurd is
      never (after_failure d) is so = absurd is

  pub says_input : (r : Bool) (n : Number) (outcome : OutcomeRow) → Says true (N n) (is_good_thing stored 2) → Says r (OutcomeIs N outcome) (is_good_outcome stored) → Says r (ResultIs N (Processed n outcome)) (is_good_result stored)
  says_input r n outcome input says = record {
    sound = λ e. let x = input.sound refl in let o = says.sound e in (processed x.0 o.0, (x.1, o.1), both_true (is_good_thing stored 2 x.0) (is_good_outcome stored o.0) x.2 o.2);
    complete = λ result is so. whole result is so;
  }
    where
      whole : (result : PlainResult) → ResultIs N (Processed n outcome) result → is_good_result stored result ≡ true → r ≡ true
      whole (processed input came) is so = says.complete came is.1 (both_parts (is_good_thing stored 2 input) (is_good_outcome stored came) so).1
      whole on_cycle is so = absurd is
      whole (lacks d) is so = absurd is
      whole (after_failure d) is so = absurd is

  pub says_cycle : Says true (ResultIs N Cycle) (is_good_result stored)
  says_cycle = record { sound = λ e. (on_cycle, tt, refl); complete = λ o is so. refl }

  pub says_missing : (r : Bool) (d : JobId) → r ≡ is_folded_job d → Says r (ResultIs N (Missing d)) (is_good_result stored)
  says_missing r d same = record { sound = λ e. (lacks d, refl, sym same ∙ e); complete = λ o is so. whole o is so }
    where
      whole : (o : PlainResult) → ResultIs N (Missing d) o → is_good_result stored o ≡ true → r ≡ true
      whole (processed input came) is so = absurd is
      whole on_cycle is so = absurd is
      whole (lacks p) is so = same ∙ ap is_folded_job is ∙ so
      whole (after_failure p) is so = absurd is

  pub says_dep_failed : (r : Bool) (d : JobId) → r ≡ is_folded_job d → Says r (ResultIs N (DepFailed d)) (is_good_result stored)
  says_dep_failed r d same = record { sound = λ e. (after_failure d, refl, sym same ∙ e); complete = λ o is so. whole o is so }
    where
      whole : (o : PlainResult) → ResultIs N (DepFailed d) o → is_good_result stored o ≡ true → r ≡ true
      whole (processed input came) is so = absurd is
      whole on_cycle is so = absurd is
      whole (lacks p) is so = absurd is
      whole (after_failure p) is so = same ∙ ap is_folded_job is ∙ so

  -- ---- items

  module _ (tables : PlainTables) where
    pub says_source : (r f : Bool) (row : SourceRow) → f ≡ is_folded row.path → Says r (SeenIs N row.seen) (is_good_content stored) → Says (f && r) (ItemIs N (PutSource row)) (is_lawful_item stored tables)
    unfolding is_lawful_item
    says_source r f row folded says = record {
      sound = λ e. let parts = both_parts f r e in let content = says.sound parts.1 in (
        puts_source (record { path = row.path; order = row.order; name = row.name; content = content.0 }),
        record { path = refl; order = refl; name = refl; seen = content.1 },
        both_true (is_folded row.path) (is_good_content stored content.0) (sym folded ∙ parts.0) content.2,
      );
      complete = λ item is so. whole item is so;
    }
      where
        whole : (item : PlainItem) → ItemIs N (PutSource row) item → is_lawful_item stored tables item ≡ true → (f && r) ≡ true
        whole (puts_folders rows) is so = absurd is
        whole (puts_source plain) is so =
            let parts = both_parts (is_folded plain.path) (is_good_content stored plain.content) so in
            both_true f r (folded ∙ ap is_folded is.path ∙ parts.0) (says.complete plain.content is.seen parts.1)
        whole (removes_source path) is so = absurd is
        whole (puts_create plain) is so = absurd is
        whole (removes_create path) is so = absurd is
        whole (puts_job plain) is so = absurd is
        whole (removes_job id) is so = absurd is

    pub says_create : (f r g : Bool) (row : CreateRow) → f ≡ is_folded row.source → Says r (N row.input) (is_good_thing stored 1) → g ≡ is_folded_created row.created → Says (f && r && g) (ItemIs N (PutCreate row)) (is_lawful_item stored tables)
    unfolding is_lawful_item
    says_create f r g row folded says created = record {
      sound = λ e. let last = both_parts (f && r) g e in let first = both_parts f r last.0 in let input = says.sound first.1 in (
        puts_create (record { source = row.source; input = input.0; created = row.created }),
        record { source = refl; input = input.1; created = refl },
        both_true (is_folded row.source && is_good_thing stored 1 input.0) (is_folded_created row.created) (both_true (is_folded row.source) (is_good_thing stored 1 input.0) (sym folded ∙ first.0) input.2) (sym created ∙ last.1),
      );
      complete = λ item is so. whole item is so;
    }
      where
        whole : (item : PlainItem) → ItemIs N (PutCreate row) item → is_lawful_item stored tables item ≡ true → (f && r && g) ≡ true
        whole (puts_folders rows) is so = absurd is
        whole (puts_source plain) is so = absurd is
        whole (removes_source path) is so = absurd is
        whole (puts_create plain) is so =
            let last = both_parts (is_folded plain.source && is_good_thing stored 1 plain.input) (is_folded_created plain.created) so in
            let first = both_parts (is_folded plain.source) (is_good_thing stored 1 plain.input) last.0 in
            both_true (f && r) g (both_true f r (folded ∙ ap is_folded is.source ∙ first.0) (says.complete plain.input is.input first.1)) (created ∙ ap is_folded_created is.created ∙ last.1)
        whole (removes_create path) is so = absurd is
        whole (puts_job plain) is so = absurd is
        whole (removes_job id) is so = absurd is

    pub says_job : (f r : Bool) (row : JobRow) → f ≡ is_folded_job row.id → Says r (ResultIs N row.result) (is_good_result stored) → Says (f && r) (ItemIs N (PutJob row)) (is_lawful_item stored tables)
    unfolding is_lawful_item
    says_job f r row folded says = record {
      sound = λ e. let parts = both_parts f r e in let result = says.sound parts.1 in
          (puts_job (record { id = row.id; result = result.0 }), record { id = refl; result = result.1 }, both_true (is_folded_job row.id) (is_good_result stored result.0) (sym folded ∙ parts.0) result.2);
      complete = λ item is so. whole item is so;
    }
      where
        whole : (item : PlainItem) → ItemIs N (PutJob row) item → is_lawful_item stored tables item ≡ true → (f && r) ≡ true
        whole (puts_folders rows) is so = absurd is
        whole (puts_source plain) is so = absurd is
        whole (removes_source path) is so = absurd is
        whole (puts_create plain) is so = absurd is
        whole (removes_create path) is so = absurd is
        whole (puts_job plain) is so =
            let parts = both_parts (is_folded_job plain.id) (is_good_result stored plain.result) so in
            both_true f r (folded ∙ ap is_folded_job is.id ∙ parts.0) (says.complete plain.result is.result parts.1)
        whole (removes_job id) is so = absurd is

    pub says_folders : (r : Bool) (rows : List FolderRow) → r ≡ orders_rise rows → Says r (ItemIs N (PutFolders rows)) (is_lawful_item stored tables)
    unfolding is_lawful_item
    says_folders r rows same = record { sound = λ e. (puts_folders rows, refl, sym same ∙ e); complete = λ item is so. whole item is so }
      where
        whole : (item : PlainItem) → ItemIs N (PutFolders rows) item → is_lawful_item stored tables item ≡ true → r ≡ true
        whole (puts_folders plain) is so = same ∙ ap orders_rise is ∙ so
        whole (puts_source plain) is so = absurd is
        whole (removes_source path) is so = absurd is
        whole (puts_create plain) is so = absurd is
        whole (removes_create path) is so = absurd is
        whole (puts_job plain) is so = absurd is
        whole (removes_job id) is so = absurd is

    pub says_remove_source : (r : Bool) (path : List ℕ) → r ≡ is_some (source_row_at tables path) → Says r (ItemIs N (RemoveSource path)) (is_lawful_item stored tables)
    unfolding is_lawful_item
    says_remove_source r path same = record { sound = λ e. (removes_source path, refl, sym same ∙ e); complete = λ item is so. whole item is so }
      where
        whole : (item : PlainItem) → ItemIs N (RemoveSource path) item → is_lawful_item stored tables item ≡ true → r ≡ true
        whole (puts_folders plain) is so = absurd is
        whole (puts_source plain) is so = absurd is
        whole (removes_source plain) is so = same ∙ ap (λ p. is_some (source_row_at tables p)) is ∙ so
        whole (puts_create plain) is so = absurd is
        whole (removes_create path) is so = absurd is
        whole (puts_job plain) is so = absurd is
        whole (removes_job id) is so = absurd is

    pub says_remove_create : (r : Bool) (path : List ℕ) → r ≡ is_some (create_row_at tables path) → Says r (ItemIs N (RemoveCreate path)) (is_lawful_item stored tables)
    unfolding is_lawful_item
    says_remove_create r path same = record { sound = λ e. (removes_create path, refl, sym same ∙ e); complete = λ item is so. whole item is so }
      where
        whole : (item : PlainItem) → ItemIs N (RemoveCreate path) item → is_lawful_item stored tables item ≡ true → r ≡ true
        whole (puts_folders plain) is so = absurd is
        whole (puts_source plain) is so = absurd is
        whole (removes_source plain) is so = absurd is
        whole (puts_create plain) is so = absurd is
        whole (removes_create plain) is so = same ∙ ap (λ p. is_some (create_row_at tables p)) is ∙ so
        whole (puts_job plain) is so = absurd is
        whole (removes_job id) is so = absurd is

    pub says_remove_job : (r : Bool) (id : JobId) → r ≡ is_some (job_row_at tables id) → Says r (ItemIs N (RemoveJob id)) (is_lawful_item stored tables)
    unfolding is_lawful_item
    says_remove_job r id same = record { sound = λ e. (removes_job id, refl, sym same ∙ e); complete = λ item is so. whole item is so }
      where
        whole : (item : PlainItem) → ItemIs N (RemoveJob id) item → is_lawful_item stored tables item ≡ true → r ≡ true
        whole (puts_folders plain) is so = absurd is
        whole (puts_source plain) is so = absurd is
        whole (removes_source plain) is so = absurd is
        whole (puts_create plain) is so = absurd is
        whole (removes_create plain) is so = absurd is
        whole (puts_job plain) is so = absurd is
        whole (removes_job plain) is so = same ∙ ap (λ p. is_some (job_row_at tables p)) is ∙ so

    -- ---- rows with a path that isn't folded, and with another input

    pub says_unfolded_source : (row : SourceRow) → is_folded row.path ≡ false → Says false (ItemIs N (PutSource row)) (is_lawful_item stored tables)
    unfolding is_lawful_item
    says_unfolded_source row unfolded = says_no (ItemIs N (PutSource row)) (is_lawful_item stored tables) (λ item is so. never item is so)
      where
        never : (item : PlainItem) → ItemIs N (PutSource row) item → is_lawful_item stored tables item ≡ true → ⊥
        never (puts_folders plain) is so = absurd is
        never (puts_source plain) is so = false_or_true (is_folded row.path) unfolded (ap is_folded is.path ∙ (both_parts (is_folded plain.path) (is_good_content stored plain.content) so).0)
        never (removes_source path) is so = absurd is
        never (puts_create plain) is so = absurd is
        never (removes_create path) is so = absurd is
        never (puts_job plain) is so = absurd is
        never (removes_job id) is so = absurd is

    pub says_unfolded_create : (row : CreateRow) → is_folded row.source ≡ false → Says false (ItemIs N (PutCreate row)) (is_lawful_item stored tables)
    unfolding is_lawful_item
    says_unfolded_create row unfolded = says_no (ItemIs N (PutCreate row)) (is_lawful_item stored tables) (λ item is so. never item is so)
      where
        never : (item : PlainItem) → ItemIs N (PutCreate row) item → is_lawful_item stored tables item ≡ true → ⊥
        never (puts_folders plain) is so = absurd is
        never (puts_source plain) is so = absurd is
        never (removes_source path) is so = absurd is
        never (puts_create plain) is so = false_or_true (is_folded row.source) unfolded (ap is_folded is.source ∙ (both_parts (is_folded plain.source) (is_good_thing stored 1 plain.input) (both_parts (is_folded plain.source && is_good_thing stored 1 plain.input) (is_folded_created plain.created) so).0).0)
        never (removes_create path) is so = absurd is
        never (puts_job plain) is so = absurd is
        never (removes_job id) is so = absurd is

    pub says_other_input : (row : CreateRow) → Says false (N row.input) (is_good_thing stored 1) → Says false (ItemIs N (PutCreate row)) (is_lawful_item stored tables)
    unfolding is_lawful_item
    says_other_input row says = says_no (ItemIs N (PutCreate row)) (is_lawful_item stored tables) (λ item is so. never item is so)
      where
        never : (item : PlainItem) → ItemIs N (PutCreate row) item → is_lawful_item stored tables item ≡ true → ⊥
        never (puts_folders plain) is so = absurd is
        never (puts_source plain) is so = absurd is
        never (removes_source path) is so = absurd is
        never (puts_create plain) is so = never_so false (N row.input) (is_good_thing stored 1) refl says plain.input is.input (both_parts (is_folded plain.source) (is_good_thing stored 1 plain.input) (both_parts (is_folded plain.source && is_good_thing stored 1 plain.input) (is_folded_created plain.created) so).0).1
        never (removes_create path) is so = absurd is
        never (puts_job plain) is so = absurd is
        never (removes_job id) is so = absurd is

    pub says_unfolded_job : (row : JobRow) → is_folded_job row.id ≡ false → Says false (ItemIs N (PutJob row)) (is_lawful_item stored tables)
    unfolding is_lawful_item
    says_unfolded_job row unfolded = says_no (ItemIs N (PutJob row)) (is_lawful_item stored tables) (λ item is so. never item is so)
      where
        never : (item : PlainItem) → ItemIs N (PutJob row) item → is_lawful_item stored tables item ≡ true → ⊥
        never (puts_folders plain) is so = absurd is
        never (puts_source plain) is so = absurd is
        never (removes_source path) is so = absurd is
        never (puts_create plain) is so = absurd is
        never (removes_create path) is so = absurd is
        never (puts_job plain) is so = false_or_true (is_folded_job row.id) unfolded (ap is_folded_job is.id ∙ (both_parts (is_folded_job plain.id) (is_good_result stored plain.result) so).0)
        never (removes_job id) is so = absurd is
