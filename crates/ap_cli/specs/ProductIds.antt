-- The ids of the products that tables record.
use Rattle.std.specs.Prelude.{◌≢◌, ℕ, List, [], map, Option, Some, None}
use Rattle.std.specs.List.{AllPairs, flat_map}
use Rattle.ap_text.specs.declared.job_id.JobId.{JobId}
use Rattle.ap_rows.specs.Inputs.{PlainProduct}
use Rattle.ap_db.specs.Tables.{PlainTables}
use Rattle.ap_cli.specs.declared.layout.ProductId.{ProductId as BorrowedId}
use Rattle.ap_cli.specs.Layout.{products_recorded}

-- a product's id: its source and its sub id, on its platform
pub record ProductId : Type 0 where
  pub source : List ℕ
  pub platform : List ℕ
  pub sub : ℕ

-- that of a job's product
abbrev pub product_id : JobId → PlainProduct → ProductId
product_id id product = record { source = id.source; platform = id.platform; sub = product.sub }

abbrev pub ids_in : JobId → Option (List PlainProduct) → List ProductId
ids_in id None = []
ids_in id (Some products) = map (product_id id) products

-- those of the products of all jobs
abbrev pub ids_of : PlainTables → List ProductId
ids_of tables = flat_map (λ row. ids_in row.id (products_recorded row.result)) tables.jobs

-- no two are the same
abbrev pub AreDistinct : List ProductId → Type 0
AreDistinct ids = AllPairs (λ a b. a ≢ b) ids

-- an id that is borrowed from a row
abbrev pub plain_id : BorrowedId → ProductId
plain_id id = record { source = id.source.now; platform = id.platform.now; sub = id.sub }
