-- An item keeps what holds of all that records stand for.
use Rattle.std.proofs.Common.{◌≡◌, ◌==◌, ◌&&◌, ℕ, suc, true, false, not, List, [], ◌∷◌, Option, Some, None, refl, sym, ◌∙◌, ap, subst, arith, inl, inr, filter, option_map}
use Rattle.std.specs.Option.{option_to_list}
use Rattle.std.specs.List.{flat_map}
use Rattle.std.specs.List.Sorted.{IsStrictlySortedBy}
use Rattle.ap_content.specs.Things.{Thing, thing, kids_of}
use Rattle.ap_content.specs.declared.node.Number.{Number}
use Rattle.ap_rows.specs.declared.row.SourceRow.{SourceRow}
use Rattle.ap_rows.specs.declared.row.CreateRow.{CreateRow}
use Rattle.ap_rows.specs.declared.row.JobRow.{JobRow}
use Rattle.ap_rows.specs.declared.row.SeenRow.{SeenRow}
use Rattle.ap_rows.specs.declared.row.SeenRow.TheVariants.{Bytes, TooLarge}
use Rattle.ap_rows.specs.declared.row.OutcomeRow.{OutcomeRow}
use Rattle.ap_rows.specs.declared.row.OutcomeRow.TheVariants.{Done, Failed}
use Rattle.ap_rows.specs.declared.row.JobResult.{JobResult}
use Rattle.ap_rows.specs.declared.row.JobResult.TheVariants.{Processed, Cycle, Missing, DepFailed}
use Rattle.ap_rows.specs.declared.change.Item.{Item}
use Rattle.ap_rows.specs.declared.change.Item.TheVariants.{Define, Drop, PutSource, RemoveSource, PutCreate, RemoveCreate, PutJob, RemoveJob, PutFolders}
use Rattle.ap_rows.specs.Forms.{kids_in, has_form}
use Rattle.ap_db.specs.Same.{tag_of, is_among}
use Rattle.ap_db.specs.Tables.{PlainSource, PlainCreate, PlainOutcome, done, failed, PlainResult, processed, on_cycle, lacks, after_failure, PlainJob, PlainTables}
use Rattle.ap_db.specs.Changes.{source_row_at, create_row_at, job_row_at, with_folders, with_source, without_source, with_create, without_create, with_job, without_job}
use Rattle.ap_db.specs.Stored.{Live, Stored, nothing_stored, values, thing_at, if_tagged, tagged_at, with_next, things_at, content_named, outcome_named, result_named, row_things, kids_of_thing, named_things, is_named, and_thing, and_no_thing, with_thing, without_thing, with_tables, seen_at, outcome_at, result_at, source_at, create_at, job_at, orders_rise, after_item}
use Rattle.ap_db.specs.States.{TablesRise}
use Rattle.ap_db.specs.Members.{Has, AreIn, in_front, in_back, in_map, from_map, in_flat_map, in_filter}
use Rattle.ap_db.specs.SameThings.{both_parts, has_not}
use Rattle.ap_db.specs.Options.{from_map_some, from_then_some, where_some, where_none, no_is}
use Rattle.ap_db.specs.WellStored.{things_of, IsWellStored}
use Rattle.ap_db.specs.LiveLaws.{live_of, value_of, one_number, falls_filter, built_filter, number_is, other_number}
use Rattle.ap_db.specs.RowLaws.{EachNamed, named_things_are, each_named, named_put_source, named_put_create, named_put_job, named_remove_source, named_remove_create, named_remove_job, named_put_folders, rise_put_source, rise_put_create, rise_put_job, rise_remove_source, rise_remove_create, rise_remove_job, rise_put_folders}

-- ---- things by number

pub next_there : (o : Option Thing) (rest : Option (List Thing)) (xs : List Thing) → with_next o rest ≡ Some xs → (y : Thing) × (ys : List Thing) × (o ≡ Some y) × (rest ≡ Some ys) × (y ∷ ys ≡ xs)
next_there None rest xs e = absurd (cc e)
next_there (Some y) None xs e = absurd (cc e)
next_there (Some y) (Some ys) xs e = (y, ys, refl, refl, cc e)

pub things_live : (stored : Stored) (ns : List Number) (xs : List Thing) → things_at stored ns ≡ Some xs → AreIn xs (values stored)
things_live stored [] xs e x m = let none : [] ≡ xs = cc e in absurd (subst (λ (l : List Thing). Has l x) (sym none) m)
things_live stored (n ∷ ns) xs e x m =
    let parts = next_there (thing_at stored n) (things_at stored ns) xs e in
    either parts.0 parts.1 (value_of stored n parts.0 parts.2) (λ at. things_live stored ns parts.1 parts.3 x at) (subst (λ (l : List Thing). Has l x) (sym parts.4) m)
  where
    either : (y : Thing) (ys : List Thing) → Has (values stored) y → (Has ys x → Has (values stored) x) → Has (y ∷ ys) x → Has (values stored) x
    either y ys head rest (inl same) = subst (Has (values stored)) same head
    either y ys head rest (inr more) = rest more

pub kids_back : (xs : List Thing) → kids_in (kids_of xs) ≡ xs
kids_back [] = refl
kids_back (x ∷ xs) = ap (λ l. x ∷ l) (kids_back xs)

pub tagged_there : (tag : ℕ) (stored : Stored) (n : Number) (x : Thing) → tagged_at tag stored n ≡ Some x → Has (values stored) x × (tag_of x ≡ tag)
tagged_there tag stored n x e =
    let found = from_then_some (if_tagged tag) (thing_at stored n) x e in
    let is = where_some (tag_of found.0 == tag) (Some found.0) x found.2 in
    let same : found.0 ≡ x = cc is.1 in
    (value_of stored n x (found.1 ∙ is.1), sym (ap tag_of same) ∙ tag_is (tag_of found.0) is.0)
  where
    tag_is : (t : ℕ) → t == tag ≡ true → t ≡ tag
    tag_is t e = number_is t tag e

-- ---- the rows of items name live things

pub content_lives : (stored : Stored) (row : SourceRow) (plain : PlainSource) → source_at stored row ≡ Some plain → AreIn (content_named plain) (values stored)
content_lives stored row plain e =
    let seen = from_map_some (λ (content : Option Thing). record { path = row.path; order = row.order; name = row.name; content = content }) (seen_at stored row.seen) plain e in
    subst (λ (p : PlainSource). AreIn (content_named p) (values stored)) seen.2 (by_seen row.seen seen.0 seen.1)
  where
    by_seen : (seen : SeenRow) (content : Option Thing) → seen_at stored seen ≡ Some content → (x : Thing) → Has (option_to_list content) x → Has (values stored) x
    by_seen (Bytes n) None is x m = absurd m
    by_seen (Bytes n) (Some y) is x (inl same) =
        let found = from_map_some (λ (z : Thing). Some z) (tagged_at 0 stored n) (Some y) is in
        let inside : found.0 ≡ y = cc found.2 in
        subst (Has (values stored)) (inside ∙ same) (tagged_there 0 stored n found.0 found.1).0
    by_seen (Bytes n) (Some y) is x (inr m) = absurd m
    by_seen TooLarge None is x m = absurd m
    by_seen TooLarge (Some y) is x m = absurd (let none : None ≡ Some y = cc is in cc none)

pub input_lives : (stored : Stored) (row : CreateRow) (plain : PlainCreate) → create_at stored row ≡ Some plain → Has (values stored) plain.input
input_lives stored row plain e =
    let input = from_map_some (λ (input : Thing). record { source = row.source; input = input; created = row.created }) (tagged_at 1 stored row.input) plain e in
    subst (λ (p : PlainCreate). Has (values stored) p.input) input.2 (tagged_there 1 stored row.input input.0 input.1).0

pub outcome_lives : (stored : Stored) (row : OutcomeRow) (plain : PlainOutcome) → outcome_at stored row ≡ Some plain → AreIn (outcome_named plain) (values stored)
outcome_lives stored (Done n) plain e x m =
    let products = from_map_some done (tagged_at 3 stored n) plain e in
    one (tagged_there 3 stored n products.0 products.1).0 (subst (λ (p : PlainOutcome). Has (outcome_named p) x) (sym products.2) m)
  where
    one : {y : Thing} → Has (values stored) y → Has (y ∷ []) x → Has (values stored) x
    one lives (inl same) = subst (Has (values stored)) same lives
    one lives (inr none) = absurd none
outcome_lives stored (Failed code) plain e x m = let none : failed code ≡ plain = cc e in absurd (subst (λ (p : PlainOutcome). Has (outcome_named p) x) (sym none) m)

pub result_lives : (stored : Stored) (row : JobResult) (plain : PlainResult) → result_at stored row ≡ Some plain → AreIn (result_named plain) (values stored)
result_lives stored (Processed n outcome) plain e x m =
    let input = from_then_some (λ (input : Thing). option_map (processed input) (outcome_at stored outcome)) (tagged_at 2 stored n) plain e in
    let came = from_map_some (processed input.0) (outcome_at stored outcome) plain input.2 in
    one input.0 came.0 (tagged_there 2 stored n input.0 input.1).0 (outcome_lives stored outcome came.0 came.1) (subst (λ (p : PlainResult). Has (result_named p) x) (sym came.2) m)
  where
    one : (y : Thing) (plain : PlainOutcome) → Has (values stored) y → ((x : Thing) → Has (outcome_named plain) x → Has (values stored) x) → Has (y ∷ outcome_named plain) x → Has (values stored) x
    one y plain lives rest (inl same) = subst (Has (values stored)) same lives
    one y plain lives rest (inr more) = rest x more
result_lives stored Cycle plain e x m = let none : on_cycle ≡ plain = cc e in absurd (subst (λ (p : PlainResult). Has (result_named p) x) (sym none) m)
result_lives stored (Missing d) plain e x m = let none : lacks d ≡ plain = cc e in absurd (subst (λ (p : PlainResult). Has (result_named p) x) (sym none) m)
result_lives stored (DepFailed d) plain e x m = let none : after_failure d ≡ plain = cc e in absurd (subst (λ (p : PlainResult). Has (result_named p) x) (sym none) m)

pub job_lives : (stored : Stored) (row : JobRow) (plain : PlainJob) → job_at stored row ≡ Some plain → AreIn (result_named plain.result) (values stored)
job_lives stored row plain e =
    let result = from_map_some (λ (result : PlainResult). record { id = row.id; result = result }) (result_at stored row.result) plain e in
    subst (λ (p : PlainJob). AreIn (result_named p.result) (values stored)) result.2 (result_lives stored row.result result.0 result.1)

-- ---- each item keeps it

pub nothing_is_well_stored : IsWellStored nothing_stored
unfolding IsStrictlySortedBy
nothing_is_well_stored = record { falls = tt; built = tt; named = λ x m. absurd m; rise = record { sources = tt; creates = tt; jobs = tt } }

-- other rows that name live things and rise
pub keeps_rows : (stored : Stored) (tables : PlainTables) → IsWellStored stored → EachNamed (Has (values stored)) tables → TablesRise tables → IsWellStored (with_tables stored tables)
keeps_rows stored tables well each rise = record { falls = well.falls; built = well.built; named = λ x m. named_things_are (Has (values stored)) tables each x m; rise = rise }

pub rows_named : (stored : Stored) → IsWellStored stored → EachNamed (Has (values stored)) stored.tables
rows_named stored well = each_named (Has (values stored)) stored.tables (λ x m. well.named x m)

-- a new thing
pub keeps_thing : (stored next : Stored) (x : Thing) → AreIn (kids_of_thing x) (values stored) → IsWellStored stored → with_thing stored x ≡ Some next → IsWellStored next
keeps_thing stored next x kids well e =
    let is = where_some (has_form x && not (is_among (values stored) x)) (Some (and_thing stored x)) next e in
    let parts = both_parts (has_form x) (not (is_among (values stored) x)) is.0 in
    let same : and_thing stored x ≡ next = cc is.1 in
    subst IsWellStored same (record {
      falls = (omega arith, well.falls);
      built = (record { formed = parts.0; fresh = λ m. has_not (values stored) x (no_is (is_among (values stored) x) parts.1) m; kids = kids }, well.built);
      named = λ y m. inr (well.named y m);
      rise = well.rise;
    })

-- a thing that nothing names
pub keeps_without : (stored next : Stored) (n : Number) (x : Thing) → thing_at stored n ≡ Some x → IsWellStored stored → without_thing stored n.0 x ≡ Some next → IsWellStored next
keeps_without stored next n x at well e =
    let is = where_none (is_named stored x) (Some (and_no_thing stored n.0)) next e in
    let same : and_no_thing stored n.0 ≡ next = cc is.1 in
    subst IsWellStored same (record {
      falls = falls_filter (λ live. not (live.number == n.0)) (suc stored.defined) stored.live well.falls;
      built = built_filter (λ live. not (live.number == n.0)) stored.live (record { stay = λ live h stays k m is_kid. stays_if_named k m (unnamed is.0) (in_back (row_things stored.tables) (flat_map kids_of_thing (values stored)) k.value (in_flat_map kids_of_thing (values stored) live.value k.value (in_map (λ (l : Live). l.value) stored.live live h) is_kid)) }) well.built;
      named = λ y m. stays_named y (unnamed is.0) m;
      rise = well.rise;
    })
  where
    unnamed : is_named stored x ≡ false → Has (named_things stored) x → ⊥
    unnamed isnt = has_not (named_things stored) x isnt

    stays_if_named : (k : Live) → Has stored.live k → (Has (named_things stored) x → ⊥) → Has (named_things stored) k.value → not (k.number == n.0) ≡ true
    stays_if_named k h none is =
        let live = live_of stored n x at in
        ap not (other_number k.number n.0 (λ same.
        let one : k ≡ live.0 = one_number (suc stored.defined) stored.live k live.0 well.falls h live.1 (same ∙ sym live.2) in
        none (subst (Has (named_things stored)) (ap (λ (l : Live). l.value) one ∙ live.3) is)))

    stays_named : (y : Thing) → (Has (named_things stored) x → ⊥) → Has (row_things stored.tables) y → Has (things_of (filter (λ live. not (live.number == n.0)) stored.live)) y
    stays_named y none m =
        let live = from_map (λ (l : Live). l.value) stored.live y (well.named y m) in
        let names = subst (Has (named_things stored)) (sym live.2) (in_front (row_things stored.tables) (flat_map kids_of_thing (values stored)) y m) in
        subst (Has (things_of (filter (λ live. not (live.number == n.0)) stored.live))) live.2 (in_map (λ (l : Live). l.value) (filter (λ live. not (live.number == n.0)) stored.live) live.0
        (in_filter (λ live. not (live.number == n.0)) stored.live live.0 live.1 (stays_if_named live.0 live.1 none names)))

-- what is stored after a lawful item is well stored
pub item_keeps : (stored next : Stored) (x : Item) → IsWellStored stored → after_item stored x ≡ Some next → IsWellStored next
unfolding after_item
item_keeps stored next (Define tag text kids) well e =
    let found = from_then_some (λ things. with_thing stored (thing tag text (kids_of things))) (things_at stored kids) next e in
    keeps_thing stored next (thing tag text (kids_of found.0)) (λ k m. things_live stored kids found.0 found.1 k (subst (λ (l : List Thing). Has l k) (kids_back found.0) m)) well found.2
item_keeps stored next (Drop n) well e =
    let found = from_then_some (without_thing stored n.0) (thing_at stored n) next e in
    keeps_without stored next n found.0 found.1 well found.2
item_keeps stored next (PutSource row) well e =
    let found = from_map_some (λ row. with_tables stored (with_source stored.tables row)) (source_at stored row) next e in
    subst IsWellStored found.2 (keeps_rows stored (with_source stored.tables found.0) well
    (named_put_source (Has (values stored)) stored.tables found.0 (content_lives stored row found.0 found.1) (rows_named stored well)) (rise_put_source stored.tables well.rise found.0))
item_keeps stored next (RemoveSource path) well e =
    let found = from_map_some (λ (row : PlainSource). with_tables stored (without_source stored.tables path)) (source_row_at stored.tables path) next e in
    subst IsWellStored found.2 (keeps_rows stored (without_source stored.tables path) well
    (named_remove_source (Has (values stored)) stored.tables path (rows_named stored well)) (rise_remove_source stored.tables well.rise path))
item_keeps stored next (PutCreate row) well e =
    let found = from_map_some (λ row. with_tables stored (with_create stored.tables row)) (create_at stored row) next e in
    subst IsWellStored found.2 (keeps_rows stored (with_create stored.tables found.0) well
    (named_put_create (Has (values stored)) stored.tables found.0 (input_lives stored row found.0 found.1) (rows_named stored well)) (rise_put_create stored.tables well.rise found.0))
item_keeps stored next (RemoveCreate path) well e =
    let found = from_map_some (λ (row : PlainCreate). with_tables stored (without_create stored.tables path)) (create_row_at stored.tables path) next e in
    subst IsWellStored found.2 (keeps_rows stored (without_create stored.tables path) well
    (named_remove_create (Has (values stored)) stored.tables path (rows_named stored well)) (rise_remove_create stored.tables well.rise path))
item_keeps stored next (PutJob row) well e =
    let found = from_map_some (λ row. with_tables stored (with_job stored.tables row)) (job_at stored row) next e in
    subst IsWellStored found.2 (keeps_rows stored (with_job stored.tables found.0) well
    (named_put_job (Has (values stored)) stored.tables found.0 (job_lives stored row found.0 found.1) (rows_named stored well)) (rise_put_job stored.tables well.rise found.0))
item_keeps stored next (RemoveJob id) well e =
    let found = from_map_some (λ (row : PlainJob). with_tables stored (without_job stored.tables id)) (job_row_at stored.tables id) next e in
    subst IsWellStored found.2 (keeps_rows stored (without_job stored.tables id) well
    (named_remove_job (Has (values stored)) stored.tables id (rows_named stored well)) (rise_remove_job stored.tables well.rise id))
item_keeps stored next (PutFolders rows) well e =
    let is = where_some (orders_rise rows) (Some (with_tables stored (with_folders stored.tables rows))) next e in
    let same : with_tables stored (with_folders stored.tables rows) ≡ next = cc is.1 in
    subst IsWellStored same (keeps_rows stored (with_folders stored.tables rows) well
    (named_put_folders (Has (values stored)) stored.tables rows (rows_named stored well)) (rise_put_folders stored.tables well.rise rows))
