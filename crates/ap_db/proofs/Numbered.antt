-- The items of a change with the file's numbers are those of the commit's record.
use Rattle.std.proofs.Common.{◌≡◌, List, [], ◌∷◌, ◌++◌, length, map, Option, Some, None, refl, sym, ◌∙◌, ap, arith}
use Rattle.std.proofs.lemmas.List.{append-nil}
use Rattle.std.specs.Prelude.{IsSome, option_map, unwrap_or}
use Rattle.ap_content.specs.Things.{Thing}
use Rattle.ap_content.specs.Entries.{Entry}
use Rattle.ap_content.specs.declared.node.Number.{Number}
use Rattle.ap_rows.specs.declared.row.SeenRow.{SeenRow}
use Rattle.ap_rows.specs.declared.row.SeenRow.TheVariants.{Bytes, TooLarge}
use Rattle.ap_rows.specs.declared.row.OutcomeRow.{OutcomeRow}
use Rattle.ap_rows.specs.declared.row.OutcomeRow.TheVariants.{Done, Failed}
use Rattle.ap_rows.specs.declared.row.JobResult.{JobResult}
use Rattle.ap_rows.specs.declared.row.JobResult.TheVariants.{Processed, Cycle, Missing, DepFailed}
use Rattle.ap_rows.specs.declared.change.Item.{Item}
use Rattle.ap_rows.specs.declared.change.Item.TheVariants.{PutSource, RemoveSource, PutCreate, RemoveCreate, PutJob, RemoveJob, PutFolders}
use Rattle.ap_db.specs.declared.things.FileThing.{FileThing}
use Rattle.ap_db.specs.declared.state.State.{State}
use Rattle.ap_db.specs.Tables.{PlainOutcome, done, failed, PlainResult, processed, on_cycle, lacks, after_failure}
use Rattle.ap_db.specs.Commit.{PlainItem, number_of, seen_item, outcome_item, result_item, numbered}
use Rattle.ap_db.specs.DefineLaws.{AreNumbered}
use Rattle.ap_db.specs.Listed.{AreAll}
use Rattle.ap_db.specs.Numbering.{in_file, seen_by, outcome_by, result_by, item_by}
use Rattle.ap_db.specs.Said.{ItemIs}
use Rattle.ap_db.specs.States.{StandsFor, Names, SeenIs, OutcomeIs, ResultIs, file_thing}
use Rattle.ap_db.specs.Stored.{Live, Stored}
use Rattle.ap_db.proofs.EachKind.{by_kind}
use Rattle.ap_db.proofs.FileNumbers.{number_right}

module _ (N : Number → Thing → Type 0) (f : Number → Number) (numbers : List Live) (right : (m : Number) (x : Thing) → N m x → f m ≡ number_of numbers x) where
  seen_right : (seen : SeenRow) (content : Option Thing) → SeenIs N seen content → seen_by f seen ≡ seen_item numbers content
  seen_right (Bytes n) None is = absurd is
  seen_right (Bytes n) (Some x) is = ap Bytes (right n x is)
  seen_right TooLarge None is = refl
  seen_right TooLarge (Some x) is = absurd is

  outcome_right : (outcome : OutcomeRow) (plain : PlainOutcome) → OutcomeIs N outcome plain → outcome_by f outcome ≡ outcome_item numbers plain
  outcome_right (Done n) (done x) is = ap Done (right n x is)
  outcome_right (Done n) (failed code) is = absurd is
  outcome_right (Failed code) (done x) is = absurd is
  outcome_right (Failed code) (failed plain) is = ap Failed is

  result_right : (result : JobResult) (plain : PlainResult) → ResultIs N result plain → result_by f result ≡ result_item numbers plain
  result_right (Processed n outcome) (processed input plain) is = λ i. Processed (right n input is.0 i) (outcome_right outcome plain is.1 i)
  result_right Cycle on_cycle is = refl
  result_right (Missing d) (lacks plain) is = ap Missing is
  result_right (DepFailed d) (after_failure plain) is = ap DepFailed is
  result_right result plain is = absurd is

  item_right : (item : Item) (plain : PlainItem) → ItemIs N item plain → item_by f item ≡ numbered numbers plain
  item_right = by_kind N (λ item plain. item_by f item ≡ numbered numbers plain) (record {
    put_source = λ row p is. λ i. PutSource (record { path = is.path i; order = is.order i; name = is.name i; seen = seen_right row.seen p.content is.seen i });
    remove_source = λ path q e. ap RemoveSource e;
    put_create = λ row p is. λ i. PutCreate (record { source = is.source i; input = right row.input p.input is.input i; created = is.created i });
    remove_create = λ path q e. ap RemoveCreate e;
    put_job = λ row p is. λ i. PutJob (record { id = is.id i; result = result_right row.result p.result is.result i });
    remove_job = λ id q e. ap RemoveJob e;
    put_folders = λ rows q e. ap PutFolders e;
  })

  items_right : (items : List Item) (plain : List PlainItem) → AreAll (ItemIs N) items plain → map (item_by f) items ≡ map (numbered numbers) plain
  items_right [] [] are = refl
  items_right [] (p ∷ plain) are = absurd are
  items_right (x ∷ items) [] are = absurd are
  items_right (x ∷ items) (p ∷ plain) are = λ i. item_right x p are.0 i ∷ items_right items plain are.1 i

number_there : (o : Option FileThing) → IsSome o → option_map (λ (t : FileThing). t.number) o ≡ Some (unwrap_or (option_map (λ (t : FileThing). t.number) o) 0)
number_there None h = absurd (cc h)
number_there (Some t) h = refl

-- the items with the file's numbers
pub items_numbered : (state : State) (contents : List (Option Entry)) (stored : Stored) (numbers : List Live) (items : List Item) (plain : List PlainItem) → StandsFor state contents stored → AreNumbered numbers stored
    → AreAll (ItemIs (Names state.things.items contents)) items plain → map (item_by (in_file state.things.items)) items ≡ map (numbered numbers) plain
items_numbered state contents stored numbers items plain stands are =
    items_right (Names state.things.items contents) (in_file state.things.items) numbers
    (λ m x h. sym (number_right state contents stored stands numbers m x _ are h.stands (number_there (file_thing state.things.items m) h.file))) items plain

nothing_behind : (f : Item → Item) (written rest : List Item) → length rest ≡ 0 → written ++ map f rest ≡ written
nothing_behind f written [] e = append-nil written
nothing_behind f written (x ∷ rest) e = absurd (omega (arith, e))

-- once none is left all are written
pub all_written : (state : State) (items before written rest : List Item) → length rest ≡ 0
    → written ++ map (item_by (in_file state.things.items)) rest ≡ before ++ map (item_by (in_file state.things.items)) items → (contents : List (Option Entry)) (numbers : List Live) (stored : Stored) (plain : List PlainItem) → StandsFor state contents stored
    → AreNumbered numbers stored → AreAll (ItemIs (Names state.things.items contents)) items plain → written ≡ before ++ map (numbered numbers) plain
all_written state items before written rest none so_far contents numbers stored plain stands are names =
    sym (nothing_behind (item_by (in_file state.things.items)) written rest none) ∙ so_far ∙ ap (λ l. before ++ l) (items_numbered state contents stored numbers items plain stands are names)
