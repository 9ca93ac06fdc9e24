-- What inputs and products keep to, so that they are read back from their things.
use Rattle.std.specs.Prelude.{◌≡◌, ◌<◌, ℕ, true, List, length, Some, All}
use Rattle.ap_text.specs.PathRules.{IsRelPath}
use Rattle.ap_text.specs.NameRules.{IsName, IsPlatform}
use Rattle.ap_text.specs.declared.job_id.JobId.{JobId}
use Rattle.ap_text.specs.declared.seen.Seen.{Seen}
use Rattle.ap_text.specs.declared.seen.Seen.TheVariants.{Bytes, Absent, TooLarge}
use Rattle.ap_rows.specs.Readers.{is_folded}
use Rattle.ap_rows.specs.Typed.{Fits32, TypedProduct}
use Rattle.ap_rows.specs.Products.{is_folded_product}
use Rattle.ap_rows.specs.Inputs.{PlainProduct, row_of, CreateFrom, HandedOver, ByOrder, ByFingerprint, MadeFrom}
use Rattle.ap_rows.specs.Forms.{input_in}

-- it fits eight bytes
abbrev pub Fits64 : ℕ → Type 0
Fits64 n = n < 18446744073709551616

-- a folded relative path
pub record IsFoldedPath (bytes : List ℕ) : Type 0 where
  pub path : IsRelPath bytes
  pub folded : is_folded bytes ≡ true

-- a job id whose path is folded
pub record IsJob (job : JobId) : Type 0 where
  pub source : IsFoldedPath job.source
  pub key : IsName job.key
  pub platform : IsPlatform job.platform

-- a product whose names are in their grammars, whose paths are folded, and whose counts and numbers fit four bytes
pub record IsProduct (product : PlainProduct) : Type 0 where
  pub fields : TypedProduct (row_of product)
  pub folded : is_folded_product (row_of product) ≡ true

pub record AreProducts (products : List PlainProduct) : Type 0 where
  pub each : All IsProduct products
  pub count : Fits32 (length products)

-- a file that a source reaches
abbrev pub IsReached : List ℕ × Seen → Type 0
IsReached file = IsFoldedPath file.0

-- a builder's name and version
abbrev pub IsBuilder : List ℕ × ℕ → Type 0
IsBuilder builder = IsName builder.0 × Fits32 builder.1

-- how a source is seen: never absent
abbrev pub IsThere : Seen → Type 0
IsThere (Bytes bytes) = Unit {0}
IsThere Absent = ⊥
IsThere TooLarge = Unit {0}

pub record IsCreateInput (from : CreateFrom) : Type 0 where
  pub builders : All IsBuilder from.builders
  pub builder_count : Fits64 (length from.builders)
  pub platforms : All IsPlatform from.platforms
  pub platform_count : Fits64 (length from.platforms)
  pub path : IsFoldedPath from.path
  pub seen : IsThere from.seen
  pub reached : All IsReached from.reached
  pub reached_count : Fits64 (length from.reached)

-- a job's products, and with Fingerprint the thing of a job input
abbrev pub IsHanded : HandedOver → Type 0
IsHanded (ByOrder job products) = IsJob job × AreProducts products
IsHanded (ByFingerprint job input products) = IsJob job × (input_in input ≡ Some input) × AreProducts products

pub record IsJobInput (from : MadeFrom) : Type 0 where
  pub builder : IsName from.builder
  pub version : Fits32 from.version
  pub platform : IsPlatform from.platform
  pub key : IsName from.key
  pub params : Fits64 (length from.params)
  pub path : IsFoldedPath from.path
  pub reached : All IsReached from.reached
  pub reached_count : Fits64 (length from.reached)
  pub handed : All IsHanded from.handed
  pub handed_count : Fits64 (length from.handed)
