-- What a thing stands for, read back from its text and its kids. A thing that stands for something has the
-- form of its tag.
use Rattle.std.specs.Prelude.{ℕ, Bool, List, [], ◌∷◌, Option, Some, None, ◌==◌, ◌||◌, if◌then◌else◌, is_some, IsTrue}
use Rattle.ap_text.specs.declared.job_id.JobId.{JobId}
use Rattle.ap_text.specs.declared.seen.Seen.{Seen}
use Rattle.ap_text.specs.declared.seen.Seen.TheVariants.{Bytes, Absent, TooLarge}
use Rattle.ap_content.specs.Things.{Thing, thing, Kids, no_kids, kid}
use Rattle.ap_rows.specs.Readers.{number, run_of, path, name, platform}
use Rattle.ap_rows.specs.Grammar.{dependency}
use Rattle.ap_rows.specs.Products.{product_row}
use Rattle.ap_rows.specs.ThingReaders.{ThingReader, ◌>>=◌, gives, refuses, field, kid_as, list_of, whole}
use Rattle.ap_rows.specs.Inputs.{PlainProduct, CreateFrom, HandedOver, ByOrder, ByFingerprint, MadeFrom}
use Rattle.ap_rows.specs.declared.job.DepKind.{DepKind}
use Rattle.ap_rows.specs.declared.job.DepKind.TheVariants.{Order, OrderOnce, Fingerprint}
use Rattle.ap_rows.specs.declared.product.ProductRow.{ProductRow}

-- the kids as a list
abbrev pub kids_in : Kids → List Thing
kids_in no_kids = []
kids_in (kid x xs) = x ∷ kids_in xs

-- the bytes that a thing is of
abbrev pub bytes_in : Thing → Option (List ℕ)
bytes_in (thing tag text no_kids) = if tag == 0 then Some text else None
bytes_in (thing tag text (kid x xs)) = None

-- ---- files

-- how a file is seen, by its mark: its bytes are the next kid
unfoldable pub seen_by : ℕ → ThingReader Seen
seen_by mark =
    if mark == 0 then (kid_as bytes_in >>= λ bytes. gives (Bytes bytes))
    else if mark == 1 then gives Absent
    else if mark == 2 then gives TooLarge
    else refuses

-- how a source is seen: it is never absent
unfoldable pub source_by : ℕ → ThingReader Seen
source_by mark = if mark == 1 then refuses else seen_by mark

-- a file that is reached: its path and how it is seen
unfoldable pub reached_file : ThingReader (List ℕ × Seen)
reached_file = do
  path ← field path
  mark ← field (number 1)
  seen ← seen_by mark
  gives (path, seen)

-- ---- products

-- a product of this row, with these bytes
abbrev pub plain_product : ProductRow → List ℕ → PlainProduct
plain_product row bytes = record { name = row.name; kind = row.kind; sub = row.sub; bytes = bytes; refs = row.refs; legacy = row.legacy }

-- a product: its row, in which 0 stands for the number of its bytes, and its bytes
unfoldable pub product : ThingReader PlainProduct
product = do
  row ← field (product_row (record { 0 = 0 }))
  bytes ← kid_as bytes_in
  gives (plain_product row bytes)

-- the products that a thing is of
unfoldable pub products_in : Thing → Option (List PlainProduct)
products_in (thing tag text kids) = if tag == 3 then whole (list_of 4 product text (kids_in kids)) else None

-- ---- create inputs

-- a builder's name and version
unfoldable pub builder : ThingReader (List ℕ × ℕ)
builder = do
  name ← field name
  version ← field (number 4)
  gives (name, version)

unfoldable pub create_from : ThingReader CreateFrom
create_from = do
  builders ← list_of 8 builder
  platforms ← list_of 8 (field platform)
  path ← field path
  mark ← field (number 1)
  seen ← source_by mark
  reached ← list_of 8 reached_file
  gives (record { builders = builders; platforms = platforms; path = path; seen = seen; reached = reached })

-- what a create input is made of
unfoldable pub create_from_thing : Thing → Option CreateFrom
create_from_thing (thing tag text kids) = if tag == 1 then whole (create_from text (kids_in kids)) else None

-- ---- job inputs

-- a job input, as it stands
abbrev pub input_in : Thing → Option Thing
input_in (thing tag text kids) = if tag == 2 then Some (thing tag text kids) else None

-- what a dependency of this kind hands over; OrderOnce hands nothing over, and stands in no job input
unfoldable pub handed_by : DepKind → JobId → ThingReader HandedOver
handed_by Order job = kid_as products_in >>= λ products. gives (ByOrder job products)
handed_by OrderOnce job = refuses
handed_by Fingerprint job = kid_as input_in >>= λ input. kid_as products_in >>= λ products. gives (ByFingerprint job input products)

unfoldable pub handed : ThingReader HandedOver
handed = do
  dep ← field dependency
  handed_by dep.kind dep.job

unfoldable pub made_from : ThingReader MadeFrom
made_from = do
  builder ← field name
  version ← field (number 4)
  platform ← field platform
  key ← field name
  params ← field (run_of 8)
  path ← field path
  bytes ← kid_as bytes_in
  reached ← list_of 8 reached_file
  handed ← list_of 8 handed
  gives (record { builder = builder; version = version; platform = platform; key = key; params = params; path = path; bytes = bytes; reached = reached; handed = handed })

-- what a job input is made of
unfoldable pub made_from_thing : Thing → Option MadeFrom
made_from_thing (thing tag text kids) = if tag == 2 then whole (made_from text (kids_in kids)) else None

-- ---- forms

-- the thing is bytes, a create input, a job input or products: its text has the grammar of its tag, with kids of the tags
-- that this asks for
unfoldable pub has_form : Thing → Bool
has_form x = is_some (bytes_in x) || is_some (create_from_thing x) || is_some (made_from_thing x) || is_some (products_in x)

-- each of the kids has the form of its own tag
abbrev pub HaveForms : Kids → Type 0
HaveForms no_kids = Unit {0}
HaveForms (kid x xs) = IsTrue (has_form x) × HaveForms xs
