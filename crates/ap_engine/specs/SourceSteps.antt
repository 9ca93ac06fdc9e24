-- The steps that bring the source rows up to date.
use Rattle.std.specs.Prelude.{◌≡◌, ⊤, Bool, true, false, ◌==◌, ◌&&◌, List, [], ◌∷◌, ◌++◌, map, find, Contains, Option, IsSome, bytes_eq}
use Rattle.std.specs.List.{flat_map}
use Rattle.std.specs.List.Sorted.{IsStrictlySortedBy}
use Rattle.std.specs.Ordering.{on}
use Rattle.ap_text.specs.Order.{bytes_cmp, in_order}
use Rattle.ap_content.specs.Entries.{Entry}
use Rattle.ap_content.specs.declared.node.Number.{Number}
use Rattle.ap_scan.specs.declared.results.Winner.{Winner}
use Rattle.ap_rows.specs.Readers.{is_folded}
use Rattle.ap_rows.specs.declared.row.SourceRow.{SourceRow}
use Rattle.ap_rows.specs.declared.row.SeenRow.{SeenRow}
use Rattle.ap_rows.specs.declared.row.SeenRow.TheVariants.{Bytes, TooLarge}
use Rattle.ap_db.specs.declared.db.Db.{Db}
use Rattle.ap_db.specs.Changes.{Whole, put_folders, put_source, remove_source, put_create, put_job, after, source_row_at}
use Rattle.ap_db.specs.Listed.{AreAll}
use Rattle.ap_db.specs.States.{SourceIs, Names}
use Rattle.ap_db.specs.Tables.{PlainSource, PlainTables}
use Rattle.ap_engine.specs.Changes.{source_change}
use Rattle.ap_engine.specs.Interned.{IsSourceOf, AreSourcesOf}
use Rattle.ap_engine.specs.Settled.{source_row}
use Rattle.ap_engine.specs.Worlds.{IsRead}
use Rattle.ap_engine.specs.declared.source.Source.{Source}
use Rattle.ap_engine.specs.declared.source_rows.Step.{Step}
use Rattle.ap_engine.specs.declared.source_rows.Step.TheVariants.{Put, Remove}

-- winners that rise by path, each of which is read and has a folded path
pub record AreRead (winners : List Winner) : Type 0 where
  pub rise : IsStrictlySortedBy (on (λ winner. winner.path) bytes_cmp) winners
  pub read : (winner : Winner) → Contains winners winner → IsRead winner
  pub folded : (winner : Winner) → Contains winners winner → is_folded winner.path ≡ true

-- ---- what is to be done

-- how a row sees its source: with the bytes of this number
abbrev pub is_seen_with : SeenRow → Number → Bool
is_seen_with (Bytes n) content = n.0 == content.0
is_seen_with TooLarge content = false

-- a row is that of a source of its path
abbrev pub is_row_of : SourceRow → Source → Bool
is_row_of row source = row.order == source.order && bytes_eq row.name source.name && is_seen_with row.seen source.content

-- the changes of the sources that are these winners, where these are the rows
abbrev pub changes_among : List Winner → List PlainSource → List Whole
changes_among winners olds = flat_map (λ path. source_change path (find (λ winner. bytes_eq winner.path path) winners) (find (λ row. bytes_eq row.path path) olds))
    (in_order bytes_cmp (map (λ winner. winner.path) winners ++ map (λ row. row.path) olds))

-- a step makes a change: it puts the row of a source, or removes that of a path
abbrev pub IsStepFor : Db → List (Option Entry) → Step → Whole → Type 0
IsStepFor db contents (Put source) (put_source plain) = (winner : Winner) × IsSourceOf db contents source.now winner × (is_folded winner.path ≡ true) × (plain ≡ source_row winner)
IsStepFor db contents (Put source) (put_folders rows) = ⊥
IsStepFor db contents (Put source) (remove_source path) = ⊥
IsStepFor db contents (Put source) (put_create plain) = ⊥
IsStepFor db contents (Put source) (put_job plain) = ⊥
IsStepFor db contents (Remove path) (remove_source gone) = path ≡ gone
IsStepFor db contents (Remove path) (put_folders rows) = ⊥
IsStepFor db contents (Remove path) (put_source plain) = ⊥
IsStepFor db contents (Remove path) (put_create plain) = ⊥
IsStepFor db contents (Remove path) (put_job plain) = ⊥

-- one by one
abbrev pub AreStepsFor : Db → List (Option Entry) → List Step → List Whole → Type 0
AreStepsFor db contents steps changes = AreAll (IsStepFor db contents) steps changes

-- steps for the first of these changes, and the rows and the sources that are left for the others
pub record ArePlanned (db : Db) (contents : List (Option Entry)) (rows : List SourceRow) (sources : List Source) (steps : List Step) (all : List Whole) : Type 0 where
  pub olds : List PlainSource
  pub winners : List Winner
  pub are_rows : AreAll (SourceIs (Names db.state.things.items contents)) rows olds
  pub are_sources : AreSourcesOf db contents sources winners
  pub rise : IsStrictlySortedBy bytes_cmp (map (λ row. row.path) olds)
  pub read : AreRead winners
  pub changes : List Whole
  pub each : AreStepsFor db contents steps changes
  pub joined : changes ++ changes_among winners olds ≡ all

-- ---- what is taken away

-- what a change removes is there
abbrev pub IsThere : PlainTables → Whole → Type 0
IsThere tables (remove_source path) = IsSome (source_row_at tables path)
IsThere tables (put_folders rows) = ⊤
IsThere tables (put_source plain) = ⊤
IsThere tables (put_create plain) = ⊤
IsThere tables (put_job plain) = ⊤

-- at each change, behind those before it
abbrev pub AreThere : PlainTables → List Whole → Type 0
AreThere tables [] = ⊤
AreThere tables (change ∷ changes) = IsThere tables change × AreThere (after tables change) changes
