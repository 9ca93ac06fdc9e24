-- A store that no run has written to is sound.
use Rattle.std.specs.Prelude.{◌≡◌, ◌&&◌, not, ℕ, List, [], Err, cond}
use Rattle.std.proofs.Common.{ap}
use Rattle.ap_text.proofs.Members.{Contains-none}
use Rattle.ap_journal.specs.Records.{standing, is_some_record, is_marked}
use Rattle.ap_builder.specs.Meanings.{Meanings}
use Rattle.ap_db.specs.Stored.{nothing_stored, after_payloads, stored_in}
use Rattle.ap_engine.specs.Sound.{IsSound}

pub no_records_are_sound : (builders : Meanings) (file : List ℕ) → standing file ≡ [] → IsSound builders file
unfolding after_payloads stored_in
no_records_are_sound builders file none = record {
  stored = nothing_stored;
  lawful = ap (λ payloads. cond (is_some_record payloads && not (is_marked file)) (Err (record { place = 0; offset = 0 })) (after_payloads 1 nothing_stored payloads)) none;
  rows = record {
    creations = λ row has. absurd (Contains-none row has);
    processings = λ row has. absurd (Contains-none row has);
    sources = λ row has. absurd (Contains-none row has);
    jobs = λ row has. absurd (Contains-none row has);
  };
  reached = λ x has. absurd has;
}
