-- What the types of rows promise of their values, and that each count and each length fits its field. No
-- public clause cites this module.
use Rattle.std.specs.Prelude.{ℕ, ◌<◌, All, length, List, FitsSigned}
use Rattle.std.specs.Int.{w32}
use Rattle.ap_content.specs.declared.node.Number.{Number}
use Rattle.ap_text.specs.PathRules.{IsRelPath}
use Rattle.ap_text.specs.NameRules.{IsName, IsPlatform, IsFileName}
use Rattle.ap_text.specs.declared.job_id.JobId.{JobId}
use Rattle.ap_rows.specs.declared.job.DependencyRow.{DependencyRow}
use Rattle.ap_rows.specs.declared.job.JobDesc.{JobDesc}
use Rattle.ap_rows.specs.declared.job.Created.{Created}
use Rattle.ap_rows.specs.declared.job.Created.TheVariants.{Jobs, Builder, DuplicateKey, TooLarge}
use Rattle.ap_rows.specs.declared.row.FolderRow.{FolderRow}
use Rattle.ap_rows.specs.declared.row.SourceRow.{SourceRow}
use Rattle.ap_rows.specs.declared.row.CreateRow.{CreateRow}
use Rattle.ap_rows.specs.declared.row.JobRow.{JobRow}
use Rattle.ap_rows.specs.declared.row.SeenRow.{SeenRow}
use Rattle.ap_rows.specs.declared.row.SeenRow.TheVariants.{Bytes, TooLarge as SeenTooLarge}
use Rattle.ap_rows.specs.declared.row.OutcomeRow.{OutcomeRow}
use Rattle.ap_rows.specs.declared.row.OutcomeRow.TheVariants.{Done, Failed}
use Rattle.ap_rows.specs.declared.row.JobResult.{JobResult}
use Rattle.ap_rows.specs.declared.row.JobResult.TheVariants.{Processed, Cycle, Missing, DepFailed}
use Rattle.ap_rows.specs.declared.product.RefRow.{RefRow}
use Rattle.ap_rows.specs.declared.product.LegacyRow.{LegacyRow}
use Rattle.ap_rows.specs.declared.product.ProductRow.{ProductRow}
use Rattle.ap_rows.specs.declared.change.Item.{Item}
use Rattle.ap_rows.specs.declared.change.Item.TheVariants.{Define, Drop, PutSource, RemoveSource, PutCreate, RemoveCreate, PutJob, RemoveJob, PutFolders}

-- it fits four bytes
abbrev pub Fits32 : ℕ → Type 0
Fits32 n = n < 4294967296

-- it fits eight bytes
abbrev pub TypedThing : Number → Type 0
TypedThing n = n.0 < 18446744073709551616

-- the count fits its field, and each item is as its type says
abbrev pub TypedList : {X : Type 0} → (X → Type 0) → List X → Type 0
TypedList Typed items = Fits32 (length items) × All Typed items

abbrev pub TypedJob : JobId → Type 0
TypedJob job = IsRelPath job.source × IsName job.key × IsPlatform job.platform

abbrev pub TypedDependency : DependencyRow → Type 0
TypedDependency dep = TypedJob dep.job

abbrev pub TypedTerms : JobDesc → Type 0
TypedTerms desc = IsName desc.builder × Fits32 desc.version × IsPlatform desc.platform × IsName desc.key × FitsSigned w32 desc.priority

abbrev pub TypedDesc : JobDesc → Type 0
TypedDesc desc = TypedTerms desc × Fits32 (length desc.params) × TypedList TypedDependency desc.deps

abbrev pub TypedSeen : SeenRow → Type 0
TypedSeen (Bytes thing) = TypedThing thing
TypedSeen SeenTooLarge = Unit {0}

abbrev pub TypedCreated : Created → Type 0
TypedCreated (Jobs jobs) = TypedList TypedDesc jobs
TypedCreated (Builder builder code) = IsName builder × Fits32 code
TypedCreated (DuplicateKey key platform) = IsName key × IsPlatform platform
TypedCreated TooLarge = Unit {0}

abbrev pub TypedOutcome : OutcomeRow → Type 0
TypedOutcome (Done thing) = TypedThing thing
TypedOutcome (Failed code) = Fits32 code

abbrev pub TypedResult : JobResult → Type 0
TypedResult (Processed input came) = TypedThing input × TypedOutcome came
TypedResult Cycle = Unit {0}
TypedResult (Missing d) = TypedJob d
TypedResult (DepFailed d) = TypedJob d

abbrev pub TypedFolder : FolderRow → Type 0
TypedFolder row = Fits32 row.order × IsRelPath row.path

abbrev pub TypedSource : SourceRow → Type 0
TypedSource row = IsRelPath row.path × Fits32 row.order × IsRelPath row.name × TypedSeen row.seen

abbrev pub TypedCreate : CreateRow → Type 0
TypedCreate row = IsRelPath row.source × TypedThing row.input × TypedCreated row.created

abbrev pub TypedJobRow : JobRow → Type 0
TypedJobRow row = TypedJob row.id × TypedResult row.result

abbrev pub TypedItem : Item → Type 0
TypedItem (Define tag text kids) = (tag < 256) × Fits32 (length text) × TypedList TypedThing kids
TypedItem (Drop thing) = TypedThing thing
TypedItem (PutSource row) = TypedSource row
TypedItem (RemoveSource path) = IsRelPath path
TypedItem (PutCreate row) = TypedCreate row
TypedItem (RemoveCreate path) = IsRelPath path
TypedItem (PutJob row) = TypedJobRow row
TypedItem (RemoveJob id) = TypedJob id
TypedItem (PutFolders rows) = TypedList TypedFolder rows

abbrev pub TypedRef : RefRow → Type 0
TypedRef ref = IsRelPath ref.path × Fits32 ref.sub

abbrev pub TypedLegacy : LegacyRow → Type 0
TypedLegacy legacy = TypedList Fits32 legacy.old × TypedList IsRelPath legacy.formerly

abbrev pub TypedProduct : ProductRow → Type 0
TypedProduct row = IsFileName row.name × IsName row.kind × Fits32 row.sub × TypedList TypedRef row.refs × TypedLegacy row.legacy
