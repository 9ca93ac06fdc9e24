-- Places of the tables that steps keep.
use Rattle.std.proofs.Common.{◌≡◌, ℕ, ap, arith}
use Rattle.std.specs.Prelude.{vec_capacity}
use Rattle.ap_rows.specs.declared.row.Tables.{Tables}
use Rattle.ap_db.specs.declared.state.State.{State}
use Rattle.ap_db.specs.Putting.{HasPlaces, KeepsPlaces}
use Rattle.ap_db.specs.Reserve.{TakesRoom}

pub keeps : (s c j n : ℕ) (old new : State) → TakesRoom s c j n old new → KeepsPlaces old new
keeps s c j n old new takes = record { sources = takes.sources.0; creates = takes.creates.0; jobs = takes.jobs.0 }

pub keeps_all : (state : State) → KeepsPlaces state state
keeps_all state = record { sources = omega arith; creates = omega arith; jobs = omega arith }

-- with the same tables all places are there
pub keeps_same : (old new : State) → new.tables ≡ old.tables → KeepsPlaces old new
keeps_same old new same = record {
  sources = omega (arith, ap (λ (t : Tables). vec_capacity t.sources) same);
  creates = omega (arith, ap (λ (t : Tables). vec_capacity t.creates) same);
  jobs = omega (arith, ap (λ (t : Tables). vec_capacity t.jobs) same);
}

pub keeps_both : (old mid new : State) → KeepsPlaces old mid → KeepsPlaces mid new → KeepsPlaces old new
keeps_both old mid new a b = record { sources = omega (arith, a.sources, b.sources); creates = omega (arith, a.creates, b.creates); jobs = omega (arith, a.jobs, b.jobs) }

pub places_kept : (s c j : ℕ) (old new : State) → HasPlaces s c j old → KeepsPlaces old new → HasPlaces s c j new
places_kept s c j old new has k = record { sources = omega (arith, has.sources, k.sources); creates = omega (arith, has.creates, k.creates); jobs = omega (arith, has.jobs, k.jobs) }
