-- A store without a file is ready for nothing, and a project without files asks nothing of anyone.
use Rattle.std.proofs.Common.{◌≡◌, ℕ, List, [], Contains, Option, Some, sym, ap, subst}
use Rattle.std.specs.Prelude.{Result, Ok, Err, IfOk, OnOk, IfSome}
use Rattle.std.specs.List.Sorted.{IsStrictlySortedBy}
use Rattle.ap_text.proofs.Members.{Contains-none}
use Rattle.ap_config.specs.declared.config.Config.{Config}
use Rattle.ap_scan.specs.declared.results.Winner.{Winner}
use Rattle.ap_builder.specs.Meanings.{Meanings}
use Rattle.ap_sources.specs.Sources.{sources}
use Rattle.ap_journal.specs.Records.{records, records_up_to}
use Rattle.ap_db.specs.declared.fault.DbFault.{DbFault}
use Rattle.ap_db.specs.Stored.{Stored, Fault, nothing_stored, after_payloads, stored_in}
use Rattle.ap_engine.specs.declared.engine.Engine.{Engine}
use Rattle.ap_engine.specs.Ledgers.{IsReady}
use Rattle.ap_engine.specs.Sound.{IsSoundStored}
use Rattle.ap_engine.specs.Worlds.{AreQuiet}

abbrev or_nothing : Result Stored Fault → Stored
or_nothing (Ok stored) = stored
or_nothing (Err fault) = nothing_stored

-- no record stands in an empty file
nothing_in_none : (stored : Stored) → stored_in [] ≡ Ok stored → nothing_stored ≡ stored
unfolding records_up_to records after_payloads stored_in
nothing_in_none stored is = ap or_nothing is

-- what is opened without a file is ready for nothing
pub ready_for_nothing : {D : Type 0} (seen : D → Option (List ℕ)) (may_leave : D → List ℕ → Type 0) (room : D → ℕ) (result : Result Engine DbFault) (old new : D × D) → seen old.0 ≡ Some []
    → IfOk result (λ engine. (stored : Stored) × IsReady seen may_leave room engine.ledger.db engine.ledger.contents new stored × IfSome (seen old.0) (λ file. stored_in file ≡ Ok stored))
    → IfOk result (λ engine. IsReady seen may_leave room engine.ledger.db engine.ledger.contents new nothing_stored)
ready_for_nothing seen may_leave room (Err fault) old new empty is = tt
ready_for_nothing seen may_leave room (Ok engine) old new empty is =
    let same : stored_in [] ≡ Ok is.0 = subst (λ told. IfSome told (λ file. stored_in file ≡ Ok is.0)) empty is.2 in
    subst (λ stored. IsReady seen may_leave room engine.ledger.db engine.ledger.contents new stored) (sym (nothing_in_none is.0 same)) is.1

-- nothing is sound
pub nothing_is_sound : (builders : Meanings) → IsSoundStored builders nothing_stored
unfolding IsStrictlySortedBy
nothing_is_sound builders = record {
  rows = record {
    creations = λ row has. absurd (Contains-none row has);
    processings = λ row has. absurd (Contains-none row has);
    sources = λ row has. absurd (Contains-none row has);
    jobs = λ row has. absurd (Contains-none row has);
  };
  reached = λ x has. absurd has;
  well = record {
    falls = tt;
    built = tt;
    named = λ x has. absurd has;
    rise = record { sources = tt; creates = tt; jobs = tt };
  };
}

-- no files are quiet
pub no_files_are_quiet : (builders : Meanings) (config : Config) → AreQuiet builders config []
unfolding IsStrictlySortedBy
no_files_are_quiet builders config = record {
  rise = tt;
  read = λ winner has. absurd (Contains-none winner has);
  folded = λ winner has. absurd (Contains-none winner has);
  untargeted = λ winner has. absurd (Contains-none winner has);
}

-- and no source is among them
pub no_sources : (config : Config) (winner : Winner) → Contains (sources config []) winner → ⊥
no_sources config winner has = Contains-none winner has

-- what comes of an answer without a fault
pub on_ok_to : {X E : Type 0} (result : Result X E) (P Q : Type 0) → OnOk result P → (P → Q) → OnOk result Q
on_ok_to (Ok x) P Q is to = to is
on_ok_to (Err e) P Q is to = tt
