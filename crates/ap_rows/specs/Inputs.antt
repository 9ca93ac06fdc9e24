-- What a create input, a job input and products are made of, and the things that spell them.
use Rattle.std.specs.Prelude.{ℕ, List, [], ◌∷◌, ◌++◌}
use Rattle.std.specs.List.{flat_map}
use Rattle.ap_text.specs.declared.job_id.JobId.{JobId}
use Rattle.ap_text.specs.declared.seen.Seen.{Seen}
use Rattle.ap_text.specs.declared.seen.Seen.TheVariants.{Bytes, Absent, TooLarge}
use Rattle.ap_content.specs.Things.{Thing, thing, kids_of, bytes_thing}
use Rattle.ap_rows.specs.Fields.{number_field, run_field, list_field, path_field, name_field}
use Rattle.ap_rows.specs.Spelling.{dependency_field}
use Rattle.ap_rows.specs.Products.{product_field}
use Rattle.ap_rows.specs.declared.job.DepKind.TheVariants.{Order, Fingerprint}
use Rattle.ap_rows.specs.declared.job.DependencyRow.{DependencyRow}
use Rattle.ap_rows.specs.declared.product.RefRow.{RefRow}
use Rattle.ap_rows.specs.declared.product.LegacyRow.{LegacyRow}
use Rattle.ap_rows.specs.declared.product.ProductRow.{ProductRow}

-- ---- files

-- how a file is seen, as a byte
abbrev pub mark_byte : Seen → ℕ
mark_byte (Bytes bytes) = 0
mark_byte Absent = 1
mark_byte TooLarge = 2

-- the thing of its bytes, where they are seen
abbrev pub seen_things : Seen → List Thing
seen_things (Bytes bytes) = bytes_thing bytes ∷ []
seen_things Absent = []
seen_things TooLarge = []

-- a file that is reached: its path and how it is seen
abbrev pub reached_field : List ℕ × Seen → List ℕ
reached_field file = path_field file.0 ++ mark_byte file.1 ∷ []

abbrev pub reached_things : List ℕ × Seen → List Thing
reached_things file = seen_things file.1

-- ---- products

-- a product with its bytes
pub record PlainProduct : Type 0 where
  pub name : List ℕ
  pub kind : List ℕ
  pub sub : ℕ
  pub bytes : List ℕ
  pub refs : List RefRow
  pub legacy : LegacyRow

-- its row, in which 0 stands for the number of its bytes
abbrev pub row_of : PlainProduct → ProductRow
row_of p = record { name = p.name; kind = p.kind; sub = p.sub; bytes = record { 0 = 0 }; refs = p.refs; legacy = p.legacy }

-- its fields, which say nothing of its bytes
abbrev pub plain_field : PlainProduct → List ℕ
plain_field p = product_field (row_of p)

abbrev pub plain_things : PlainProduct → List Thing
plain_things p = bytes_thing p.bytes ∷ []

-- the thing of products
unfoldable pub products_thing : List PlainProduct → Thing
products_thing products = thing 3 (list_field 4 plain_field products) (kids_of (flat_map plain_things products))

-- ---- create inputs

-- what the jobs of a source are created from: the names and versions of the builders that match it, the
-- platforms, its path, how it is seen, and the files that it reaches
pub record CreateFrom : Type 0 where
  pub builders : List (List ℕ × ℕ)
  pub platforms : List (List ℕ)
  pub path : List ℕ
  pub seen : Seen
  pub reached : List (List ℕ × Seen)

-- a builder's name and version
abbrev pub builder_field : List ℕ × ℕ → List ℕ
builder_field builder = name_field builder.0 ++ number_field 4 builder.1

-- the thing of a create input
unfoldable pub create_thing : CreateFrom → Thing
create_thing x = thing 1
    (list_field 8 builder_field x.builders ++ list_field 8 name_field x.platforms ++ path_field x.path ++ (mark_byte x.seen ∷ []) ++ list_field 8 reached_field x.reached)
    (kids_of (seen_things x.seen ++ flat_map reached_things x.reached))

-- ---- job inputs

-- what a dependency hands over: the products of the other job, and for Fingerprint its input before them
pub data HandedOver : Type 0 where
  ByOrder : JobId → List PlainProduct → HandedOver
  ByFingerprint : JobId → Thing → List PlainProduct → HandedOver

-- the dependency that handed it over
abbrev pub dependency_of : HandedOver → DependencyRow
dependency_of (ByOrder job products) = record { kind = Order; job = job }
dependency_of (ByFingerprint job input products) = record { kind = Fingerprint; job = job }

abbrev pub handed_field : HandedOver → List ℕ
handed_field handed = dependency_field (dependency_of handed)

abbrev pub handed_things : HandedOver → List Thing
handed_things (ByOrder job products) = products_thing products ∷ []
handed_things (ByFingerprint job input products) = input ∷ products_thing products ∷ []

-- what a job's products are made from: its builder and that one's version, its platform, key and parameters,
-- its source's path and bytes, the files that the source reaches, and what its dependencies hand over
pub record MadeFrom : Type 0 where
  pub builder : List ℕ
  pub version : ℕ
  pub platform : List ℕ
  pub key : List ℕ
  pub params : List ℕ
  pub path : List ℕ
  pub bytes : List ℕ
  pub reached : List (List ℕ × Seen)
  pub handed : List HandedOver

-- the thing of a job input
unfoldable pub input_thing : MadeFrom → Thing
input_thing x = thing 2
    (name_field x.builder ++ number_field 4 x.version ++ name_field x.platform ++ name_field x.key ++ run_field 8 x.params ++ path_field x.path
    ++ list_field 8 reached_field x.reached ++ list_field 8 handed_field x.handed)
    (kids_of ((bytes_thing x.bytes ∷ []) ++ flat_map reached_things x.reached ++ flat_map handed_things x.handed))
