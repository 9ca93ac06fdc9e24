-- The items of a change name things of the file, once what they need is defined.
use Rattle.std.proofs.Common.{◌≡◌, List, [], ◌∷◌, Option, Some, None, refl, sym, ◌∙◌, ap, subst, ◌⊎◌, inl, inr, ⊎_elim, fold}
use Rattle.std.specs.Prelude.{IsSome}
use Rattle.std.specs.Option.{option_to_list}
use Rattle.std.specs.List.{flat_map}
use Rattle.ap_content.specs.Things.{Thing}
use Rattle.ap_content.specs.Entries.{Entry, Stands}
use Rattle.ap_content.specs.declared.node.Number.{Number}
use Rattle.ap_rows.specs.declared.row.SeenRow.{SeenRow}
use Rattle.ap_rows.specs.declared.row.SeenRow.TheVariants.{Bytes, TooLarge}
use Rattle.ap_rows.specs.declared.row.OutcomeRow.{OutcomeRow}
use Rattle.ap_rows.specs.declared.row.OutcomeRow.TheVariants.{Done, Failed}
use Rattle.ap_rows.specs.declared.row.JobResult.{JobResult}
use Rattle.ap_rows.specs.declared.row.JobResult.TheVariants.{Processed, Cycle, Missing, DepFailed}
use Rattle.ap_rows.specs.declared.change.Item.{Item}
use Rattle.ap_rows.specs.declared.change.Item.TheVariants.{PutSource, RemoveSource, PutCreate, RemoveCreate, PutJob, RemoveJob, PutFolders}
use Rattle.ap_db.specs.declared.things.FileThing.{FileThing}
use Rattle.ap_db.specs.declared.state.State.{State}
use Rattle.ap_db.specs.Tables.{PlainOutcome, done, failed, PlainResult, processed, on_cycle, lacks, after_failure}
use Rattle.ap_db.specs.Stored.{Live, Stored, values, outcome_named, result_named, and_thing}
use Rattle.ap_db.specs.Commit.{PlainItem, puts_folders, puts_source, removes_source, puts_create, removes_create, puts_job, removes_job, item_things, new_things}
use Rattle.ap_db.specs.Said.{ItemIs}
use Rattle.ap_db.specs.Listed.{AreAll}
use Rattle.ap_db.specs.States.{StandsFor, Names, IsFound, SeenIs, OutcomeIs, ResultIs, file_thing}
use Rattle.ap_db.specs.Members.{Has, from_map, in_front, in_back, true_of}
use Rattle.ap_db.specs.LiveLaws.{value_of}
use Rattle.ap_db.specs.Defined.{CanBeCommitted}
use Rattle.ap_db.specs.CommitLaw.{things_live}

-- what stands for a live thing is a number of the file
pub names_live : (state : State) (contents : List (Option Entry)) (stored : Stored) (m : Number) (x : Thing) → StandsFor state contents stored → Has (values stored) x → Stands contents m x → Names state.things.items contents m x
names_live state contents stored m x stands lives s =
    let live = from_map (λ (l : Live). l.value) stored.live x lives in
    let found = true_of (IsFound state.things.items contents) stored.live stands.found live.0 live.1 in
    let same : m ≡ found.number = stands.tidy.one_number m found.number x s (subst (Stands contents found.number) live.2 found.stands) in
    record { file = subst IsSome (sym (ap (file_thing state.things.items) same ∙ found.file)) refl; stands = s }

-- ---- items under another sense of naming, for the things that they name

module _ (N M : Number → Thing → Type 0) where
  seen_names : (seen : SeenRow) (content : Option Thing) → ((n : Number) (x : Thing) → Has (option_to_list content) x → N n x → M n x) → SeenIs N seen content → SeenIs M seen content
  seen_names (Bytes n) None names is = is
  seen_names (Bytes n) (Some x) names is = names n x (inl refl) is
  seen_names TooLarge None names is = is
  seen_names TooLarge (Some x) names is = is

  outcome_names : (outcome : OutcomeRow) (plain : PlainOutcome) → ((n : Number) (x : Thing) → Has (outcome_named plain) x → N n x → M n x) → OutcomeIs N outcome plain → OutcomeIs M outcome plain
  outcome_names (Done n) (done x) names is = names n x (inl refl) is
  outcome_names (Done n) (failed code) names is = is
  outcome_names (Failed code) (done x) names is = is
  outcome_names (Failed code) (failed plain) names is = is

  result_names : (result : JobResult) (plain : PlainResult) → ((n : Number) (x : Thing) → Has (result_named plain) x → N n x → M n x) → ResultIs N result plain → ResultIs M result plain
  result_names (Processed n outcome) (processed input plain) names is = (names n input (inl refl) is.0, outcome_names outcome plain (λ m x h. names m x (inr h)) is.1)
  result_names (Processed n outcome) on_cycle names is = is
  result_names (Processed n outcome) (lacks d) names is = is
  result_names (Processed n outcome) (after_failure d) names is = is
  result_names Cycle (processed input plain) names is = is
  result_names Cycle on_cycle names is = is
  result_names Cycle (lacks d) names is = is
  result_names Cycle (after_failure d) names is = is
  result_names (Missing d) (processed input plain) names is = is
  result_names (Missing d) on_cycle names is = is
  result_names (Missing d) (lacks plain) names is = is
  result_names (Missing d) (after_failure plain) names is = is
  result_names (DepFailed d) (processed input plain) names is = is
  result_names (DepFailed d) on_cycle names is = is
  result_names (DepFailed d) (lacks plain) names is = is
  result_names (DepFailed d) (after_failure plain) names is = is

  item_names : (item : Item) (plain : PlainItem) → ((n : Number) (x : Thing) → Has (item_things plain) x → N n x → M n x) → ItemIs N item plain → ItemIs M item plain
  item_names (PutSource row) (puts_source plain) names is = record { path = is.path; order = is.order; name = is.name; seen = seen_names row.seen plain.content names is.seen }
  item_names (RemoveSource path) (removes_source plain) names is = is
  item_names (PutCreate row) (puts_create plain) names is = record { source = is.source; input = names row.input plain.input (inl refl) is.input; created = is.created }
  item_names (RemoveCreate path) (removes_create plain) names is = is
  item_names (PutJob row) (puts_job plain) names is = record { id = is.id; result = result_names row.result plain.result names is.result }
  item_names (RemoveJob id) (removes_job plain) names is = is
  item_names (PutFolders rows) (puts_folders plain) names is = is
  item_names item plain names is = absurd is

  items_name : (items : List Item) (plain : List PlainItem) → ((n : Number) (x : Thing) → Has (flat_map item_things plain) x → N n x → M n x) → AreAll (ItemIs N) items plain → AreAll (ItemIs M) items plain
  items_name [] [] names are = are
  items_name [] (p ∷ plain) names are = are
  items_name (i ∷ items) [] names are = are
  items_name (i ∷ items) (p ∷ plain) names are = (
    item_names i p (λ n x h. names n x (in_front (item_things p) (flat_map item_things plain) x h)) are.0,
    items_name items plain (λ n x h. names n x (in_back (item_things p) (flat_map item_things plain) x h)) are.1,
  )

-- the items of a change name things of the file then
pub items_in_file : (contents : List (Option Entry)) (old state : State) (stored : Stored) (items : List Item) (plain : List PlainItem) → CanBeCommitted contents old stored items plain
    → StandsFor state contents (fold and_thing stored (new_things stored plain)) → AreAll (ItemIs (Names state.things.items contents)) items plain
items_in_file contents old state stored items plain can stands =
    items_name (Stands contents) (Names state.things.items contents) items plain
    (λ n x h s. names_live state contents (fold and_thing stored (new_things stored plain)) n x stands (things_live stored plain can.well can.lawful x h) s)
    can.are

-- ---- what is in the file once things are defined

pub has_value : (stored : Stored) (xs : List Thing) (x : Thing) → Has (values (fold and_thing stored xs)) x → Has (values stored) x ⊎ Has xs x
has_value stored [] x h = inl h
has_value stored (y ∷ xs) x h = ⊎_elim (λ a. first a) (λ b. inr (inr b)) (has_value (and_thing stored y) xs x h)
  where
    first : Has (values (and_thing stored y)) x → Has (values stored) x ⊎ Has (y ∷ xs) x
    first (inl e) = inr (inl e)
    first (inr m) = inl m

pub number_among : (contents : List (Option Entry)) (ns : List Number) (xs : List Thing) (x : Thing) → AreAll (Stands contents) ns xs → Has xs x → (n : Number) × Has ns n × Stands contents n x
number_among contents [] [] x each h = absurd h
number_among contents [] (y ∷ xs) x each h = absurd each
number_among contents (n ∷ ns) [] x each h = absurd h
number_among contents (n ∷ ns) (y ∷ xs) x each (inl e) = (n, inl refl, subst (Stands contents n) e each.0)
number_among contents (n ∷ ns) (y ∷ xs) x each (inr h) = let found = number_among contents ns xs x each.1 h in (found.0, inr found.1, found.2)

-- the numbers of the file are those of before and those that were defined
pub filed_or_defined : (contents : List (Option Entry)) (old state : State) (stored : Stored) (xs : List Thing) (defined : List Number) → StandsFor old contents stored → StandsFor state contents (fold and_thing stored xs)
    → AreAll (Stands contents) defined xs → (m : Number) → IsSome (file_thing state.things.items m) → IsSome (file_thing old.things.items m) ⊎ Has defined m
filed_or_defined contents old state stored xs defined was is each m there = step (file_thing state.things.items m) refl there
  where
    sort : (x : Thing) → Stands contents m x → Has (values stored) x ⊎ Has xs x → IsSome (file_thing old.things.items m) ⊎ Has defined m
    sort x s (inl lives) = inl (names_live old contents stored m x was lives s).file
    sort x s (inr new) =
        let found = number_among contents defined xs x each new in
        inr (subst (Has defined) (was.tidy.one_number found.0 m x found.2 s) found.1)

    step : (o : Option FileThing) → file_thing state.things.items m ≡ o → IsSome o → IsSome (file_thing old.things.items m) ⊎ Has defined m
    step None e some = absurd (cc some)
    step (Some t) e some =
        let known = is.known m t e in
        sort known.value known.stands (has_value stored xs known.value (value_of (fold and_thing stored xs) (record { 0 = t.number }) known.value known.live))
