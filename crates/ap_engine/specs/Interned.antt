-- Sources as code has them: their bytes by number.
use Rattle.std.specs.Prelude.{◌≡◌, ℕ, List, Option}
use Rattle.ap_text.specs.declared.seen.Seen.TheVariants.{Bytes}
use Rattle.ap_content.specs.Things.{bytes_thing}
use Rattle.ap_content.specs.Entries.{Entry}
use Rattle.ap_scan.specs.declared.results.Winner.{Winner}
use Rattle.ap_db.specs.declared.db.Db.{Db}
use Rattle.ap_db.specs.Listed.{AreAll}
use Rattle.ap_engine.specs.declared.source.Source.{Source}
use Rattle.ap_engine.specs.Ledgers.{IsHeld}

-- the winner with the number of its bytes, which is held
pub record IsSourceOf (db : Db) (contents : List (Option Entry)) (source : Source) (winner : Winner) : Type 0 where
  pub path : source.path ≡ winner.path
  pub order : source.order ≡ winner.order
  pub name : source.name ≡ winner.name
  pub bytes : List ℕ
  pub seen : winner.seen ≡ Bytes bytes
  pub held : IsHeld db contents source.content (bytes_thing bytes)

-- one by one
abbrev pub AreSourcesOf : Db → List (Option Entry) → List Source → List Winner → Type 0
AreSourcesOf db contents sources winners = AreAll (IsSourceOf db contents) sources winners
