-- Rows that may be put: their things have the forms of their tags, and their paths are folded.
use Rattle.std.specs.Prelude.{◌≡◌, ℕ, true, Option, Some, None}
use Rattle.std.specs.List.{list_all}
use Rattle.ap_content.specs.Things.{Thing}
use Rattle.ap_rows.specs.Readers.{is_folded}
use Rattle.ap_rows.specs.Folded.{is_folded_job, is_folded_created}
use Rattle.ap_rows.specs.Forms.{has_form}
use Rattle.ap_db.specs.Same.{tag_of}
use Rattle.ap_db.specs.Tables.{PlainSource, PlainCreate, PlainOutcome, done, failed, PlainResult, processed, on_cycle, lacks, after_failure, PlainJob}
use Rattle.ap_db.specs.Commit.{with_below}

-- a thing of this tag that has its form, and so has each below it
pub record IsFormed (tag : ℕ) (x : Thing) : Type 0 where
  pub tagged : tag_of x ≡ tag
  pub formed : list_all has_form (with_below x) ≡ true

abbrev pub IsGoodContent : Option Thing → Type 0
IsGoodContent None = Unit {0}
IsGoodContent (Some x) = IsFormed 0 x

pub record IsGoodSource (row : PlainSource) : Type 0 where
  pub folded : is_folded row.path ≡ true
  pub content : IsGoodContent row.content

pub record IsGoodCreate (row : PlainCreate) : Type 0 where
  pub folded : is_folded row.source ≡ true
  pub input : IsFormed 1 row.input
  pub created : is_folded_created row.created ≡ true

abbrev pub IsGoodOutcome : PlainOutcome → Type 0
IsGoodOutcome (done products) = IsFormed 3 products
IsGoodOutcome (failed code) = Unit {0}

abbrev pub IsGoodResult : PlainResult → Type 0
IsGoodResult (processed input outcome) = IsFormed 2 input × IsGoodOutcome outcome
IsGoodResult on_cycle = Unit {0}
IsGoodResult (lacks d) = is_folded_job d ≡ true
IsGoodResult (after_failure d) = is_folded_job d ≡ true

pub record IsGoodJob (row : PlainJob) : Type 0 where
  pub folded : is_folded_job row.id ≡ true
  pub result : IsGoodResult row.result
