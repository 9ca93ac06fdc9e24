-- The nodes of inputs, whose kids are numbers, and what the inputs are where these numbers stand for things.
use Rattle.std.specs.Prelude.{◌≡◌, ℕ, List, [], ◌∷◌, ◌++◌, Option, map}
use Rattle.std.specs.List.{flat_map}
use Rattle.ap_text.specs.declared.seen.Seen.{Seen}
use Rattle.ap_text.specs.declared.seen.Seen.TheVariants.{Bytes, Absent, TooLarge}
use Rattle.ap_content.specs.Things.{bytes_thing}
use Rattle.ap_content.specs.Entries.{Entry, Stands}
use Rattle.ap_content.specs.declared.node.Number.{Number}
use Rattle.ap_content.specs.declared.node.Node.{Node}
use Rattle.ap_rows.specs.Fields.{number_field, run_field, list_field, path_field, name_field, job_field}
use Rattle.ap_rows.specs.Forms.{plain_product}
use Rattle.ap_rows.specs.declared.product.ProductRow.{ProductRow}
use Rattle.ap_rows.specs.Inputs.{PlainProduct, builder_field, products_thing, CreateFrom, HandedOver, ByOrder, ByFingerprint, MadeFrom}
use Rattle.ap_rows.specs.declared.input.MatchingBuilder.{MatchingBuilder}
use Rattle.ap_rows.specs.declared.input.SeenThing.{SeenThing}
use Rattle.ap_rows.specs.declared.input.SeenThing.TheVariants.{Bytes as BytesThing, Absent as NoThing, TooLarge as NoBytes}
use Rattle.ap_rows.specs.declared.input.ReachedFile.{ReachedFile}
use Rattle.ap_rows.specs.declared.input.CreateParts.{CreateParts}
use Rattle.ap_rows.specs.declared.input.HandedThings.{HandedThings}
use Rattle.ap_rows.specs.declared.input.HandedThings.TheVariants.{Order, Fingerprint}
use Rattle.ap_rows.specs.declared.input.JobParts.{JobParts}

-- ---- nodes

-- how a file is seen, as a byte, and the number of its bytes, where they are seen
abbrev pub mark_of : SeenThing → ℕ
mark_of (BytesThing n) = 0
mark_of NoThing = 1
mark_of NoBytes = 2

abbrev pub seen_kids_of : SeenThing → List Number
seen_kids_of (BytesThing n) = n ∷ []
seen_kids_of NoThing = []
seen_kids_of NoBytes = []

-- a builder's name and version
abbrev pub builder_of : MatchingBuilder → List ℕ × ℕ
builder_of b = (b.name.now, b.version)

abbrev pub matching_field : MatchingBuilder → List ℕ
matching_field b = builder_field (builder_of b)

abbrev pub file_field : ReachedFile → List ℕ
file_field file = path_field file.path.now ++ (mark_of file.seen ∷ [])

abbrev pub file_kids : ReachedFile → List Number
file_kids file = seen_kids_of file.seen

abbrev pub given_field : HandedThings → List ℕ
given_field (Order job products) = 0 ∷ job_field job.now
given_field (Fingerprint job input products) = 2 ∷ job_field job.now

abbrev pub given_kids : HandedThings → List Number
given_kids (Order job products) = products ∷ []
given_kids (Fingerprint job input products) = input ∷ products ∷ []

-- the node of a create input
abbrev pub create_node_of : CreateParts → Node
create_node_of parts = record {
  tag = 1;
  text = list_field 8 matching_field parts.builders.now ++ list_field 8 name_field parts.platforms.now ++ path_field parts.path.now ++ (mark_of parts.seen ∷ []) ++ list_field 8 file_field parts.reached.now;
  kids = seen_kids_of parts.seen ++ flat_map file_kids parts.reached.now;
}

-- the node of a job input
abbrev pub input_node_of : JobParts → Node
input_node_of parts = let job = parts.job.now in record {
  tag = 2;
  text = name_field job.builder ++ number_field 4 job.version ++ name_field job.platform ++ name_field job.key ++ run_field 8 job.params ++ path_field parts.path.now ++ list_field 8 file_field parts.reached.now ++ list_field 8 given_field parts.handed.now;
  kids = (parts.bytes ∷ []) ++ flat_map file_kids parts.reached.now ++ flat_map given_kids parts.handed.now;
}

-- ---- what stands behind their numbers

abbrev pub IsSeen : List (Option Entry) → SeenThing → Seen → Type 0
IsSeen contents (BytesThing n) (Bytes bytes) = Stands contents n (bytes_thing bytes)
IsSeen contents (BytesThing n) Absent = ⊥
IsSeen contents (BytesThing n) TooLarge = ⊥
IsSeen contents NoThing (Bytes bytes) = ⊥
IsSeen contents NoThing Absent = Unit {0}
IsSeen contents NoThing TooLarge = ⊥
IsSeen contents NoBytes (Bytes bytes) = ⊥
IsSeen contents NoBytes Absent = ⊥
IsSeen contents NoBytes TooLarge = Unit {0}

abbrev pub IsFile : List (Option Entry) → ReachedFile → List ℕ × Seen → Type 0
IsFile contents file seen = (seen.0 ≡ file.path.now) × IsSeen contents file.seen seen.1

abbrev pub IsGiven : List (Option Entry) → HandedThings → HandedOver → Type 0
IsGiven contents (Order job n) (ByOrder job' products) = (job' ≡ job.now) × Stands contents n (products_thing products)
IsGiven contents (Order job n) (ByFingerprint job' input products) = ⊥
IsGiven contents (Fingerprint job m n) (ByOrder job' products) = ⊥
IsGiven contents (Fingerprint job m n) (ByFingerprint job' input products) = (job' ≡ job.now) × Stands contents m input × Stands contents n (products_thing products)

-- one by one
abbrev pub Each : {X Y : Type 0} → (X → Y → Type 0) → List X → List Y → Type 0
Each R [] [] = Unit {0}
Each R [] (y ∷ ys) = ⊥
Each R (x ∷ xs) [] = ⊥
Each R (x ∷ xs) (y ∷ ys) = R x y × Each R xs ys

-- a product of this row, whose bytes stand under the row's number
abbrev pub IsProductOf : List (Option Entry) → ProductRow → PlainProduct → Type 0
IsProductOf contents row product = (product ≡ plain_product row product.bytes) × Stands contents row.bytes (bytes_thing product.bytes)

-- the create input that these parts make
pub record IsCreateOf (contents : List (Option Entry)) (parts : CreateParts) (from : CreateFrom) : Type 0 where
  pub builders : from.builders ≡ map builder_of parts.builders.now
  pub platforms : from.platforms ≡ parts.platforms.now
  pub path : from.path ≡ parts.path.now
  pub seen : IsSeen contents parts.seen from.seen
  pub reached : Each (IsFile contents) parts.reached.now from.reached

-- the job input that these parts make
pub record IsInputOf (contents : List (Option Entry)) (parts : JobParts) (from : MadeFrom) : Type 0 where
  pub builder : from.builder ≡ parts.job.now.builder
  pub version : from.version ≡ parts.job.now.version
  pub platform : from.platform ≡ parts.job.now.platform
  pub key : from.key ≡ parts.job.now.key
  pub params : from.params ≡ parts.job.now.params
  pub path : from.path ≡ parts.path.now
  pub bytes : Stands contents parts.bytes (bytes_thing from.bytes)
  pub reached : Each (IsFile contents) parts.reached.now from.reached
  pub handed : Each (IsGiven contents) parts.handed.now from.handed
