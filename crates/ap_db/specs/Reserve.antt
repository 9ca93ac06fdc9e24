-- Room for rows in the tables, and for names, as steps take it.
use Rattle.std.proofs.Common.{ℕ, ◌+◌, ◌≤◌, ◌<◌}
use Rattle.std.specs.Prelude.{vec_len, vec_capacity}
use Rattle.std.specs.declared.vec.Vec.{Vec}
use Rattle.ap_db.specs.declared.state.State.{State}

-- a step fills at most so many places of a table, and gives up none that are free
abbrev pub Fills : {X Z : Type 0} → ℕ → Vec X Z → Vec X Z → Type 0
Fills n old new = (vec_capacity old ≤ vec_capacity new) × (vec_len new ≤ vec_len old + n)

-- it fills at most so many of each table, and adds at most so many names
pub record TakesRoom (for_sources for_creates for_jobs for_names : ℕ) (old new : State) : Type 0 where
  pub sources : Fills for_sources old.tables.sources new.tables.sources
  pub creates : Fills for_creates old.tables.creates new.tables.creates
  pub jobs : Fills for_jobs old.tables.jobs new.tables.jobs
  pub names : new.names ≤ old.names + for_names

-- so many rows of each kind can be put without memory, and so many names added
pub record HasRoom (for_sources for_creates for_jobs for_names : ℕ) (state : State) : Type 0 where
  pub sources : vec_len state.tables.sources + for_sources ≤ vec_capacity state.tables.sources
  pub creates : vec_len state.tables.creates + for_creates ≤ vec_capacity state.tables.creates
  pub jobs : vec_len state.tables.jobs + for_jobs ≤ vec_capacity state.tables.jobs
  pub names : state.names + for_names < 18446744073709551614
