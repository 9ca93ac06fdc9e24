-- The thing of a job's one product, and the row that names it.
use Rattle.std.proofs.Common.{◌≡◌, ◌≤◌, ◌<◌, ℕ, true, List, [], ◌∷◌, All, length, refl, sym, ◌∙◌, ap, subst, arith}
use Rattle.std.specs.List.{list_all, AllByRecursion}
use Rattle.std.proofs.lemmas.List.Elements.{All-cons}
use Rattle.ap_content.specs.Things.{thing, no_kids, kid, bytes_thing}
use Rattle.ap_content.specs.Entries.{Entry, Stands}
use Rattle.ap_content.specs.declared.node.Number.{Number}
use Rattle.ap_content.specs.declared.node.Node.{Node}
use Rattle.ap_rows.specs.Readers.{is_folded}
use Rattle.ap_rows.specs.Folding.{folded_where_it_stays}
use Rattle.ap_rows.specs.Inputs.{products_thing, MadeFrom, input_thing}
use Rattle.ap_rows.specs.InputRanges.{IsProduct}
use Rattle.ap_rows.specs.Products.{node_of}
use Rattle.ap_rows.specs.declared.product.RefRow.{RefRow}
use Rattle.ap_builder.specs.Answers.{IsProductOf, MakesWell}
use Rattle.ap_builder.specs.Paths.{IsFolded, IsShort}
use Rattle.ap_builder.specs.Views.{plain_of, job_view}
use Rattle.ap_builder.specs.declared.product.Product.{Product}
use Rattle.ap_builder.specs.declared.work.JobInput.{JobInput}
use Rattle.ap_builder.specs.declared.work.Outcome.{Outcome}
use Rattle.ap_builder.specs.declared.work.Outcome.TheVariants.{Done}
use Rattle.ap_db.specs.SameThings.{both_true}
use Rattle.ap_engine.specs.Goods.{IsGoodJob}
use Rattle.ap_engine.specs.NeededJobs.{IsJobOf, IsFitProduct, IsNeededJob, row_under, row_with}
use Rattle.ap_engine.specs.Ledgers.{IsHeld, StayHeld}
use Rattle.ap_engine.specs.declared.processing.NeededJob.{NeededJob}
use Rattle.ap_text.specs.declared.job_id.JobId.{JobId}
use Rattle.ap_rows.specs.declared.row.JobResult.TheVariants.{Processed}
use Rattle.ap_rows.specs.declared.row.OutcomeRow.TheVariants.{Done as DoneRow}
use Rattle.ap_db.specs.States.{JobIs}
use Rattle.ap_engine.specs.declared.jobs.SourceJob.{SourceJob}
use Rattle.ap_db.specs.declared.db.Db.{Db}
use Rattle.std.specs.Prelude.{Option}
use Rattle.ap_engine.proofs.Formed.{input_formed, products_formed}

-- the node of a product's row is that of its thing
pub product_thing : (n : Number) (product : Product) (node : Node) → node ≡ node_of (row_under n product ∷ []) → thing node.tag node.text (kid (bytes_thing product.bytes) no_kids) ≡ products_thing (plain_of product ∷ [])
unfolding products_thing
product_thing n product node is = ap (λ (node : Node). thing node.tag node.text (kid (bytes_thing product.bytes) no_kids)) is

-- ---- products that fit

refs_folded : (refs : List RefRow) → AllByRecursion (λ ref. IsFolded ref.path) refs → list_all (λ ref. is_folded ref.path) refs ≡ true
refs_folded [] all = refl
refs_folded (ref ∷ refs) all = both_true (is_folded ref.path) (list_all (λ ref. is_folded ref.path) refs) (folded_where_it_stays ref.path all.0) (refs_folded refs all.1)

paths_folded : (paths : List (List ℕ)) → AllByRecursion IsFolded paths → list_all is_folded paths ≡ true
paths_folded [] all = refl
paths_folded (path ∷ paths) all = both_true (is_folded path) (list_all is_folded paths) (folded_where_it_stays path all.0) (paths_folded paths all.1)

pub fits : (input : JobInput) (product : Product) → IsProductOf input product → IsShort input.path → IsShort input.bytes → IsFitProduct product
fits input product of path bytes = record {
  short = of.short path bytes;
  folded = both_true (list_all (λ ref. is_folded ref.path) product.refs) (list_all is_folded product.legacy.formerly) (refs_folded product.refs of.refs) (paths_folded product.legacy.formerly of.formerly);
}

-- the one product that a builder makes of a job's input fits
pub made_fits : (makes : JobInput → Outcome) → ((input : JobInput) → MakesWell input (makes input)) → (db : Db) (contents : List (Option Entry)) (job : SourceJob) (from : MadeFrom) (product : Product) → IsJobOf db contents job from
    → makes (job_view from) ≡ Done (product ∷ []) → IsFitProduct product
made_fits makes well db contents job from product of is =
    let made : MakesWell (job_view from) (Done (product ∷ [])) = subst (MakesWell (job_view from)) is (well (job_view from)) in
    fits (job_view from) product made.0.0 (short_path (length from.path) of.typed.path.path.short) of.short
  where
    short_path : (n : ℕ) → n ≤ 240 → n < 4294967296
    short_path n le = omega (arith, le)

-- ---- rows that may be put

pub good_row : (db : Db) (contents : List (Option Entry)) (job : SourceJob) (from : MadeFrom) (product : Product) → IsJobOf db contents job from → IsProduct (plain_of product) → IsGoodJob (row_with (Done (product ∷ [])) from)
good_row db contents job from product of is = record {
  folded = of.typed.path.folded;
  result = (input_formed from of.typed (ap (λ (from : MadeFrom). from.handed) (sym of.same)), products_formed (plain_of product ∷ []) (record { each = one; count = few }));
}
  where
    one : All IsProduct (plain_of product ∷ [])
    one = All-cons IsProduct (plain_of product) [] is (λ k d lt. absurd (omega (arith, lt)))

    few : length (plain_of product ∷ []) < 4294967296
    few = omega arith

-- the row of numbers that says it
pub says_row : (db : Db) (contents : List (Option Entry)) (db' : Db) (contents' : List (Option Entry)) → StayHeld db contents db' contents' → (needed : NeededJob) (from : MadeFrom) → IsNeededJob db contents needed from
    → (id : JobId) → id ≡ needed.job.now.id → (product : Product) (n : Number) → IsHeld db' contents' n (products_thing (plain_of product ∷ []))
    → JobIs (Stands contents') (record { id = id; result = Processed needed.input (DoneRow n) }) (row_with (Done (product ∷ [])) from)
says_row db contents db' contents' stay needed from of id same product n held = record {
  id = same ∙ of.job.id;
  result = ((stay needed.input (input_thing from) of.input).stands, held.stands);
}
