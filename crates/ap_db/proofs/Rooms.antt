-- How much room steps take, and what is left of it.
use Rattle.std.proofs.Common.{◌≡◌, ◌+◌, ◌-◌, ◌≤◌, ℕ, suc, Option, Some, None, length, sym, subst, arith, ◌⊎◌, inl, inr}
use Rattle.std.specs.Prelude.{vec_len, vec_capacity}
use Rattle.std.specs.declared.vec.Vec.{Vec}
use Rattle.ap_content.specs.declared.node.Number.{Number}
use Rattle.ap_db.specs.declared.state.State.{State}
use Rattle.ap_db.specs.Naming.{both_of}
use Rattle.ap_db.specs.Reserve.{Fills, TakesRoom, HasRoom}

module _ {X Z : Type 0} where
  pub fills : (n : ℕ) (old rows new : Vec X Z) → new ≡ rows → vec_capacity old ≤ vec_capacity rows → vec_len rows ≤ vec_len old + n → Fills n old new
  fills n old rows new same grows longer = subst (λ v. Fills n old v) (sym same) (grows, longer)

  pub fills_fewer : (old rows new : Vec X Z) → new ≡ rows → vec_capacity rows ≡ vec_capacity old → vec_len rows ≤ vec_len old → Fills 0 old new
  fills_fewer old rows new same kept shorter = fills 0 old rows new same (omega (arith, kept)) (omega (arith, shorter))

  pub fills_none : (old new : Vec X Z) → new ≡ old → Fills 0 old new
  fills_none old new same = fills 0 old old new same (omega arith) (omega arith)

pub names_few : (old mid new come gone n : ℕ) → mid ≡ old + come → new ≡ mid - gone → come ≤ n → new ≤ old + n
names_few old mid new come gone n a b few = omega (arith, a, b, few)

pub names_fewer : (old new gone : ℕ) → new ≡ old - gone → new ≤ old + 0
names_fewer old new gone e = omega (arith, e)

pub one_number : (a : Option Number) → length (both_of a None) ≤ 1
one_number None = omega arith
one_number (Some m) = omega arith

pub two_numbers : (a b : Option Number) → length (both_of a b) ≤ 2
two_numbers None None = omega arith
two_numbers None (Some n) = omega arith
two_numbers (Some m) None = omega arith
two_numbers (Some m) (Some n) = omega arith

-- ---- after a reserve

-- what is left of the room after a step
pub room_left : (s c j n s' c' j' n' : ℕ) (old new : State) → HasRoom (s + s') (c + c') (j + j') (n + n') old → TakesRoom s c j n old new → HasRoom s' c' j' n' new
room_left s c j n s' c' j' n' old new room takes = record {
  sources = omega (arith, room.sources, takes.sources.0, takes.sources.1);
  creates = omega (arith, room.creates, takes.creates.0, takes.creates.1);
  jobs = omega (arith, room.jobs, takes.jobs.0, takes.jobs.1);
  names = omega (arith, room.names, takes.names);
}

-- with room for one row more a put doesn't fail
module _ (s c j n : ℕ) (state : State) where
  pub source_fits : HasRoom (suc s) c j (suc n) state → (vec_capacity state.tables.sources ≤ vec_len state.tables.sources) ⊎ (18446744073709551614 ≤ state.names) → ⊥
  source_fits room (inl full) = omega (arith, full, room.sources)
  source_fits room (inr many) = omega (arith, many, room.names)

  pub create_fits : HasRoom s (suc c) j (suc n) state → (vec_capacity state.tables.creates ≤ vec_len state.tables.creates) ⊎ (18446744073709551614 ≤ state.names) → ⊥
  create_fits room (inl full) = omega (arith, full, room.creates)
  create_fits room (inr many) = omega (arith, many, room.names)

  pub job_fits : HasRoom s c (suc j) (suc (suc n)) state → (vec_capacity state.tables.jobs ≤ vec_len state.tables.jobs) ⊎ (18446744073709551614 ≤ state.names) → ⊥
  job_fits room (inl full) = omega (arith, full, room.jobs)
  job_fits room (inr many) = omega (arith, many, room.names)
