-- Where products stand in the cache, and which of them are in each other's way.
use Rattle.std.specs.Prelude.{ℕ, Bool, true, false, ◌||◌, nat_eq, List, [], ◌∷◌, ◌++◌, map, Option, Some, None}
use Rattle.std.specs.List.{starts_with, IsDistinct, list_all, flat_map}
use Rattle.ap_text.specs.PathRules.{parent_lem}
use Rattle.ap_text.specs.declared.job_id.JobId.{JobId}
use Rattle.ap_content.specs.Things.{Thing, thing, Kids, no_kids, kid}
use Rattle.ap_rows.specs.Inputs.{PlainProduct}
use Rattle.ap_rows.specs.Forms.{products_in}
use Rattle.ap_db.specs.Tables.{PlainOutcome, done, failed, PlainResult, processed, on_cycle, lacks, after_failure, PlainTables}
use Rattle.ap_scan.specs.Winners.{Files, in_folder}

-- the path of a name in a folder, which may be none
abbrev pub beside : List ℕ → List ℕ → List ℕ
beside [] name = name
beside (b ∷ folder) name = in_folder (b ∷ folder) name

-- a job's product as the cache has it: on the job's platform, in the folder of its source
abbrev pub cache_file : JobId → PlainProduct → List ℕ × List ℕ
cache_file id product = (in_folder id.platform (beside (parent_lem id.source) product.name), product.bytes)

-- ---- the products that tables record

-- the products, none where nothing was made
abbrev pub products_made : PlainOutcome → Option (List PlainProduct)
products_made (done products) = products_in products
products_made (failed code) = None

abbrev pub products_recorded : PlainResult → Option (List PlainProduct)
products_recorded (processed input outcome) = products_made outcome
products_recorded on_cycle = None
products_recorded (lacks d) = None
products_recorded (after_failure d) = None

abbrev pub files_in : JobId → Option (List PlainProduct) → Files
files_in id None = []
files_in id (Some products) = map (cache_file id) products

-- the products of all jobs as the cache has them
abbrev pub files_of : PlainTables → Files
files_of tables = flat_map (λ row. files_in row.id (products_recorded row.result)) tables.jobs

-- the thing of products has their bytes as its kids
abbrev pub is_one_kid : Kids → Bool
is_one_kid no_kids = false
is_one_kid (kid x no_kids) = true
is_one_kid (kid x (kid y ys)) = false

abbrev pub has_one_kid : Thing → Bool
has_one_kid (thing tag text kids) = is_one_kid kids

abbrev pub made_one : PlainOutcome → Bool
made_one (done products) = has_one_kid products
made_one (failed code) = false

-- the job made just one product
abbrev pub has_one_product : PlainResult → Bool
has_one_product (processed input outcome) = made_one outcome
has_one_product on_cycle = false
has_one_product (lacks d) = false
has_one_product (after_failure d) = false

-- each job did
abbrev pub have_one_product : PlainTables → Bool
have_one_product tables = list_all (λ row. has_one_product row.result) tables.jobs

-- ---- the cache

-- a path, closed by a slash
abbrev pub closed : List ℕ → List ℕ
closed path = path ++ 47 ∷ []

-- one path is the other, or a folder of it
abbrev pub conflict : List ℕ → List ℕ → Bool
conflict a b = starts_with nat_eq (closed b) (closed a) || starts_with nat_eq (closed a) (closed b)

-- no two files are in each other's way
abbrev pub AreApart : Files → Type 0
AreApart files = IsDistinct conflict (map (λ file. file.0) files)
