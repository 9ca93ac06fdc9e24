-- The thing of a job's products: how it is spelled, and which nodes are one.
use Rattle.std.specs.Prelude.{◌≡◌, ℕ, ◌<◌, Bool, true, All, List, [], ◌∷◌, ◌++◌, length, map, Option, Some, None, ◌==◌, ◌&&◌, if◌then◌else◌}
use Rattle.std.specs.List.{list_all}
use Rattle.ap_content.specs.declared.node.Number.{Number}
use Rattle.ap_content.specs.declared.node.Node.{Node}
use Rattle.ap_rows.specs.declared.product.RefRow.{RefRow}
use Rattle.ap_rows.specs.declared.product.LegacyRow.{LegacyRow}
use Rattle.ap_rows.specs.declared.product.ProductRow.{ProductRow}
use Rattle.ap_rows.specs.Fields.{number_field, list_field, path_field, name_field}
use Rattle.ap_rows.specs.Readers.{Reader, ◌>>=◌, gives, refuses, number, list_of, path, name, file_name, is_folded}

-- a source's path and a sub id
abbrev pub ref_field : RefRow → List ℕ
ref_field ref = path_field ref.path ++ number_field 4 ref.sub

-- the ids that a product had before
abbrev pub legacy_field : LegacyRow → List ℕ
legacy_field legacy = list_field 4 (number_field 4) legacy.old ++ list_field 4 path_field legacy.formerly

-- a product, but for its bytes
abbrev pub product_field : ProductRow → List ℕ
product_field row = path_field row.name ++ name_field row.kind ++ number_field 4 row.sub ++ list_field 4 ref_field row.refs ++ legacy_field row.legacy

-- the node of these products: its kids are their bytes
abbrev pub node_of : List ProductRow → Node
node_of rows = record { tag = 3; text = list_field 4 product_field rows; kids = map (λ row. row.bytes) rows }

-- the counts of its lists fit four bytes
pub record HasCounts (row : ProductRow) : Type 0 where
  pub refs : length row.refs < 4294967296
  pub old : length row.legacy.old < 4294967296
  pub formerly : length row.legacy.formerly < 4294967296

-- the paths that it names are folded
abbrev pub is_folded_product : ProductRow → Bool
is_folded_product row = list_all (λ ref. is_folded ref.path) row.refs && list_all is_folded row.legacy.formerly

-- the paths that they name are folded, and each count fits four bytes
pub record CanBeSpelled (rows : List ProductRow) : Type 0 where
  pub folded : list_all is_folded_product rows ≡ true
  pub count : length rows < 4294967296
  pub counts : All HasCounts rows

unfoldable pub ref_row : Reader RefRow
ref_row = path >>= λ path. number 4 >>= λ sub. gives (record { path = path; sub = sub })

unfoldable pub legacy_row : Reader LegacyRow
legacy_row = list_of 4 (number 4) >>= λ old. list_of 4 path >>= λ formerly. gives (record { old = old; formerly = formerly })

-- a product, whose bytes are this thing
unfoldable pub product_row : Number → Reader ProductRow
product_row bytes =
    file_name >>= λ file. name >>= λ kind. number 4 >>= λ sub. list_of 4 ref_row >>= λ refs. legacy_row >>= λ legacy.
    gives (record { name = file; kind = kind; sub = sub; bytes = bytes; refs = refs; legacy = legacy })

-- a product for each of these things
unfoldable pub product_rows : List Number → Reader (List ProductRow)
product_rows [] = gives []
product_rows (kid ∷ kids) = product_row kid >>= λ row. product_rows kids >>= λ rows. gives (row ∷ rows)

-- as many products as there are things, behind their count
unfoldable pub products_by : List Number → Reader (List ProductRow)
products_by kids = number 4 >>= λ count. if count == length kids then product_rows kids else refuses

-- what was read, where nothing stands behind it
abbrev pub whole : {X : Type 0} → Option (X × List ℕ) → Option X
whole None = None
whole (Some read) = all_of read.0 read.1
  where
    all_of : {X : Type 0} → X → List ℕ → Option X
    all_of x [] = Some x
    all_of x (b ∷ bytes) = None

-- the products that a node is of, and None where it is of none
unfoldable pub products_of : Node → Option (List ProductRow)
products_of node = if node.tag == 3 then whole (products_by node.kids node.text) else None
