-- What is delivered of rows by number is what is delivered of the rows that they stand for.
use Rattle.std.proofs.Common.{◌≡◌, ℕ, true, List, length, subst}
use Rattle.std.specs.Prelude.{Option}
use Rattle.ap_content.specs.Entries.{Entry}
use Rattle.ap_rows.specs.declared.row.Tables.{Tables}
use Rattle.ap_db.specs.Tables.{PlainTables}
use Rattle.ap_db.proofs.Alike.{alike_length}
use Rattle.ap_cli.specs.declared.report.Counts.{Counts}
use Rattle.ap_cli.specs.Layout.{AreApart, files_of, have_one_product}
use Rattle.ap_cli.specs.ProductIds.{ProductId, AreDistinct, ids_of}
use Rattle.ap_cli.specs.Run.{counts_of}
use Rattle.ap_scan.specs.Winners.{Files}
use Rattle.ap_cli.specs.Working.{AreRowsOf, Delivered}

-- what is counted of the rows
abbrev pub counted : Tables → ℕ → Counts
counted tables published = record {
  sources = length tables.sources.items;
  jobs = length tables.jobs.items;
  done = length tables.jobs.items;
  published = published;
  shadowed = 0;
  wrote = published;
  removed = 0;
}

module _ (tables : Tables) (contents : List (Option Entry)) (files : Files) (ids : List ProductId) (plain : PlainTables) (are : AreRowsOf tables contents plain) (laid : files ≡ files_of plain) (named : ids ≡ ids_of plain) where
  counts_are : counted tables (length files) ≡ counts_of plain
  counts_are = λ i. record {
    sources = alike_length _ tables.sources.items plain.sources are.1.sources i;
    jobs = alike_length _ tables.jobs.items plain.jobs are.1.jobs i;
    done = alike_length _ tables.jobs.items plain.jobs are.1.jobs i;
    published = length (laid i);
    shadowed = 0;
    wrote = length (laid i);
    removed = 0;
  }

  pub delivered : (Laid : Files → Type 0) (Told : Counts → Type 0) → have_one_product plain ≡ true → AreApart files → AreDistinct ids → Laid files → Told (counted tables (length files)) → Delivered Laid Told plain
  delivered Laid Told made apart distinct put told = record {
    made = made;
    apart = subst AreApart laid apart;
    distinct = subst AreDistinct named distinct;
    laid = subst Laid laid put;
    told = subst Told counts_are told;
  }
