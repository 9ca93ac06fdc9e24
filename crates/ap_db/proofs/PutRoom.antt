-- The room for the rows that the items of a change put, at each step.
use Rattle.std.proofs.Common.{◌≡◌, ◌≤◌, ◌<◌, ◌+◌, ◌*◌, ℕ, suc, Bool, true, false, not, cond, List, [], ◌∷◌, ◌++◌, length, fold, Option, Some, None, arith, length-append}
use Rattle.std.specs.Prelude.{filter, bytes_eq, Result, Ok, Err, OnOk}
use Rattle.ap_text.specs.JobOrder.{same_job}
use Rattle.ap_content.specs.Things.{Thing}
use Rattle.ap_content.specs.Entries.{Entry, Stands}
use Rattle.ap_rows.specs.declared.change.Item.{Item}
use Rattle.std.specs.List.{flat_map}
use Rattle.ap_db.specs.declared.state.State.{State}
use Rattle.ap_db.specs.Tables.{PlainSource, PlainCreate, PlainJob, PlainTables, PlainResult, processed, on_cycle, lacks, after_failure, done, failed}
use Rattle.ap_db.specs.Changes.{source_cmp, create_cmp, job_row_cmp, with_source, with_create, with_job, without_source, without_create, without_job}
use Rattle.ap_text.specs.Order.{put_in_order}
use Rattle.ap_db.specs.Commit.{PlainItem, puts_folders, puts_source, removes_source, puts_create, removes_create, puts_job, removes_job, item_things}
use Rattle.ap_db.specs.Lawful.{after_plain}
use Rattle.ap_db.specs.Listed.{AreAll, total, part, replaced}
use Rattle.ap_db.specs.Putting.{puts_source_row, puts_create_row, puts_job_row, source_put, create_put, job_put, HasPlaces, KeepsPlaces, HasRoomFor}
use Rattle.ap_db.specs.Reserve.{HasRoom}
use Rattle.ap_db.specs.Said.{ItemIs}
use Rattle.ap_db.specs.States.{StandsFor, SourceIs, CreateIs, JobIs, Names, TablesRise}
use Rattle.ap_db.specs.Stored.{Stored, values, kids_of_thing, named_things, row_things, result_named, with_tables}
use Rattle.ap_db.proofs.Alike.{alike_length, total_one, put_total}
use Rattle.ap_db.proofs.EachKind.{sources_counted, creates_counted, jobs_counted}
use Rattle.ap_db.proofs.Puts.{source_put as source_total, create_put as create_total, job_put as job_total, source_taken, create_taken, job_taken, source_put_rises, create_put_rises, job_put_rises, source_taken_rises, create_taken_rises, job_taken_rises}

-- ---- how many rows there are, and names

put_few : {X : Type 0} (cmp : X → X → Rattle.std.specs.declared.cmp.Ordering.Ordering) (x : X) (ys : List X) → length (put_in_order cmp x ys) ≤ length ys + 1
put_few {X} cmp x ys =
    let all : total (λ (y : X). 1) (put_in_order cmp x ys) + part (λ (y : X). 1) (replaced cmp x ys) ≡ total (λ (y : X). 1) ys + 1 = put_total (λ y. 1) cmp x ys in
    let before : total (λ (y : X). 1) ys ≡ length ys = total_one ys in
    let after : total (λ (y : X). 1) (put_in_order cmp x ys) ≡ length (put_in_order cmp x ys) = total_one (put_in_order cmp x ys) in
    omega (arith, all, before, after)

filter_few : {X : Type 0} (p : X → Bool) (xs : List X) → length (filter p xs) ≤ length xs
filter_few p [] = omega arith
filter_few p (x ∷ xs) = step (p x) (filter_few p xs)
  where
    step : (b : Bool) → length (filter p xs) ≤ length xs → length (cond b (x ∷ filter p xs) (filter p xs)) ≤ suc (length xs)
    step true few = omega (arith, few)
    step false few = omega (arith, few)

one_thing : (o : Option Thing) → length (Rattle.std.specs.Option.option_to_list o) ≤ 2
one_thing None = omega arith
one_thing (Some x) = omega arith

two_things : (result : PlainResult) → length (result_named result) ≤ 2
two_things (processed input (done x)) = omega arith
two_things (processed input (failed code)) = omega arith
two_things on_cycle = omega arith
two_things (lacks d) = omega arith
two_things (after_failure d) = omega arith

few_things : (item : PlainItem) → length (item_things item) ≤ 2
few_things (puts_folders rows) = omega arith
few_things (puts_source row) = one_thing row.content
few_things (removes_source path) = omega arith
few_things (puts_create row) = omega arith
few_things (removes_create path) = omega arith
few_things (puts_job row) = two_things row.result
few_things (removes_job id) = omega arith

-- so many rows and names at most after items
pub record AreFew (tables : PlainTables) (items : List PlainItem) (now : PlainTables) : Type 0 where
  pub sources : length now.sources ≤ length tables.sources + total source_put items
  pub creates : length now.creates ≤ length tables.creates + total create_put items
  pub jobs : length now.jobs ≤ length tables.jobs + total job_put items
  pub names : length (row_things now) ≤ length (row_things tables) + 2 * length items
  pub rise : TablesRise now

named_few : (before after gone come : List Thing) → total (λ (y : Thing). 1) after + total (λ (y : Thing). 1) gone ≡ total (λ (y : Thing). 1) before + total (λ (y : Thing). 1) come → length come ≤ 2 → length after ≤ length before + 2
named_few before after gone come e few = omega (arith, e, few, total_one before, total_one after, total_one gone, total_one come)

named_fewer : (before after gone : List Thing) → total (λ (y : Thing). 1) after + total (λ (y : Thing). 1) gone ≡ total (λ (y : Thing). 1) before → length after ≤ length before + 2
named_fewer before after gone e = omega (arith, e, total_one before, total_one after, total_one gone)

one_few : (tables : PlainTables) → TablesRise tables → (item : PlainItem) → AreFew tables (item ∷ []) (after_plain tables item)
one_few tables rise (puts_folders rows) = record { sources = omega arith; creates = omega arith; jobs = omega arith; names = omega arith; rise = record { sources = rise.sources; creates = rise.creates; jobs = rise.jobs } }
one_few tables rise (puts_source row) = record {
  sources = omega (arith, put_few source_cmp row tables.sources);
  creates = omega arith;
  jobs = omega arith;
  names = named_few (row_things tables) (row_things (with_source tables row)) _ _ (source_total (λ y. 1) tables row) (one_thing row.content);
  rise = source_put_rises tables rise row;
}
one_few tables rise (removes_source path) = record {
  sources = omega (arith, filter_few (λ (row : PlainSource). not (bytes_eq row.path path)) tables.sources);
  creates = omega arith;
  jobs = omega arith;
  names = named_fewer (row_things tables) (row_things (without_source tables path)) _ (source_taken (λ y. 1) tables rise path);
  rise = source_taken_rises tables rise path;
}
one_few tables rise (puts_create row) = record {
  sources = omega arith;
  creates = omega (arith, put_few create_cmp row tables.creates);
  jobs = omega arith;
  names = named_few (row_things tables) (row_things (with_create tables row)) _ (row.input ∷ []) (create_total (λ y. 1) tables row) (omega arith);
  rise = create_put_rises tables rise row;
}
one_few tables rise (removes_create path) = record {
  sources = omega arith;
  creates = omega (arith, filter_few (λ (row : PlainCreate). not (bytes_eq row.source path)) tables.creates);
  jobs = omega arith;
  names = named_fewer (row_things tables) (row_things (without_create tables path)) _ (create_taken (λ y. 1) tables rise path);
  rise = create_taken_rises tables rise path;
}
one_few tables rise (puts_job row) = record {
  sources = omega arith;
  creates = omega arith;
  jobs = omega (arith, put_few job_row_cmp row tables.jobs);
  names = named_few (row_things tables) (row_things (with_job tables row)) _ _ (job_total (λ y. 1) tables row) (two_things row.result);
  rise = job_put_rises tables rise row;
}
one_few tables rise (removes_job id) = record {
  sources = omega arith;
  creates = omega arith;
  jobs = omega (arith, filter_few (λ (row : PlainJob). not (same_job row.id id)) tables.jobs);
  names = named_fewer (row_things tables) (row_things (without_job tables id)) _ (job_taken (λ y. 1) tables rise id);
  rise = job_taken_rises tables rise id;
}

pub few : (items : List PlainItem) (tables : PlainTables) → TablesRise tables → AreFew tables items (fold after_plain tables items)
few [] tables rise = record { sources = omega arith; creates = omega arith; jobs = omega arith; names = omega arith; rise = rise }
few (item ∷ items) tables rise =
    let one = one_few tables rise item in
    let more = few items (after_plain tables item) one.rise in
    record {
      sources = omega (arith, one.sources, more.sources);
      creates = omega (arith, one.creates, more.creates);
      jobs = omega (arith, one.jobs, more.jobs);
      names = omega (arith, one.names, more.names);
      rise = more.rise;
    }

total_more : (f : PlainItem → ℕ) (xs ys : List PlainItem) → total f xs ≤ total f (xs ++ ys)
total_more f [] ys = omega arith
total_more f (x ∷ xs) ys = omega (arith, total_more f xs ys)

-- ---- room for one item more

-- after the first of the items there is room for one put more
pub room_now : (stored : Stored) (first others : List PlainItem) (was state : State) (contents : List (Option Entry)) → HasRoomFor stored (first ++ others) was → KeepsPlaces was state → TablesRise stored.tables
    → StandsFor state contents (with_tables stored (fold after_plain stored.tables first)) → HasRoom 1 1 1 2 state
room_now stored first others was state contents room keeps rise stands =
    let now = fold after_plain stored.tables first in
    let are = few first stored.tables rise in
    let kids = flat_map kids_of_thing (values stored) in
    let s = alike_length (SourceIs (Names state.things.items contents)) state.tables.sources.items now.sources stands.tables.sources in
    let c = alike_length (CreateIs (Names state.things.items contents)) state.tables.creates.items now.creates stands.tables.creates in
    let j = alike_length (JobIs (Names state.things.items contents)) state.tables.jobs.items now.jobs stands.tables.jobs in
    let before : length (named_things stored) ≡ length (row_things stored.tables) + length kids = length-append (row_things stored.tables) kids in
    let after : length (named_things (with_tables stored now)) ≡ length (row_things now) + length kids = length-append (row_things now) kids in
    let many : length (first ++ others) ≡ length first + length others = length-append first others in
    record {
      sources = omega (arith, s, state.tables.sources.ok.0, are.sources, total_more source_put first others, room.places.sources, keeps.sources);
      creates = omega (arith, c, state.tables.creates.ok.0, are.creates, total_more create_put first others, room.places.creates, keeps.creates);
      jobs = omega (arith, j, state.tables.jobs.ok.0, are.jobs, total_more job_put first others, room.places.jobs, keeps.jobs);
      names = omega (arith, stands.names, before, after, many, are.names, room.names);
    }

-- ---- the room that a reserve makes

pub then_ok : {X E : Type 0} {P Q : Type 0} (r : Result X E) → (P → Q) → OnOk r P → OnOk r Q
then_ok (Ok x) f h = f h
then_ok (Err e) f h = h

pub room_made : (stored : Stored) (items : List Item) (plain : List PlainItem) (was state : State) (contents : List (Option Entry)) (sources creates jobs : ℕ) → StandsFor was contents stored → AreAll (ItemIs (Stands contents)) items plain
    → sources ≡ total puts_source_row items + 1 → creates ≡ total puts_create_row items + 1 → jobs ≡ total puts_job_row items + 1
    → HasPlaces (length was.tables.sources.items + sources) (length was.tables.creates.items + creates) (length was.tables.jobs.items + jobs) state
    → was.names + 2 * length items + 2 < 18446744073709551614 → HasRoomFor stored plain state
room_made stored items plain was state contents sources creates jobs stands are s c j places names = record {
  places = record {
    sources = omega (arith, places.sources, s, sources_counted (Stands contents) items plain are, alike_length (SourceIs (Names was.things.items contents)) was.tables.sources.items stored.tables.sources stands.tables.sources);
    creates = omega (arith, places.creates, c, creates_counted (Stands contents) items plain are, alike_length (CreateIs (Names was.things.items contents)) was.tables.creates.items stored.tables.creates stands.tables.creates);
    jobs = omega (arith, places.jobs, j, jobs_counted (Stands contents) items plain are, alike_length (JobIs (Names was.things.items contents)) was.tables.jobs.items stored.tables.jobs stands.tables.jobs);
  };
  names = omega (arith, names, stands.names, alike_length (ItemIs (Stands contents)) items plain are);
}
