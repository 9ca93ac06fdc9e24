-- A ledger whose contents gained a hold or a thing.
use Rattle.std.proofs.Common.{◌≡◌, ◌≤◌, ◌<◌, ◌+◌, ℕ, Option, Some, None, List, cond, refl, ap, arith}
use Rattle.std.proofs.lemmas.Bool.Decides.{nat_tests}
use Rattle.std.specs.Prelude.{IsSome, is_some}
use Rattle.ap_content.specs.Things.{Thing}
use Rattle.ap_content.specs.Entries.{Entry, IsTidy, Stands, Gains, holds_at, holds_in, one_more}
use Rattle.ap_content.specs.Laws.{holds_at-gained}
use Rattle.ap_content.specs.declared.node.Number.{Number}
use Rattle.ap_content.specs.declared.node.Node.{Node}
use Rattle.ap_db.specs.declared.db.Db.{Db}
use Rattle.ap_db.specs.declared.things.FileThing.{FileThing}
use Rattle.ap_db.specs.Stored.{Stored}
use Rattle.ap_db.specs.States.{file_thing}
use Rattle.ap_db.proofs.Gaining.{stands_on, stands_for_gained}
use Rattle.ap_db.proofs.Holding.{held_gained}
use Rattle.ap_engine.specs.Ledgers.{IsBeside, IsHeld, StayHeld}

some_more : (h : ℕ) → 0 < one_more h
some_more h = grind (arith, nat_tests)

two_more : (h : ℕ) → 0 < h → 2 ≤ one_more h
two_more h some = grind (arith, nat_tests, some)

module _ (old new : List (Option Entry)) (n : Number) (node : Node) (gains : Gains old new n node) (tidy : IsTidy new) where
  pub beside_gained : (db : Db) (stored : Stored) → IsBeside db old stored → IsBeside db new stored
  beside_gained db stored is = record {
    stands = stands_for_gained old new n node gains tidy db.state stored is.stands;
    held = held_gained db.state.things.items old new n node gains is.held;
    well = is.well;
    loose = λ x has none. let found = is.loose x has none in (found.0, found.1, stands_on old new n node gains tidy is.stands.tidy found.0 x found.2);
  }

  pub stay_gained : (db : Db) (stored : Stored) → IsBeside db old stored → StayHeld db old db new
  stay_gained db stored is k x held = record {
    stands = stands_on old new n node gains tidy is.stands.tidy k x held.stands;
    hold = omega (arith, held.hold, holds_at-gained old new n node gains k);
  }

  pub held_now : (db : Db) (stored : Stored) (x : Thing) → IsBeside db old stored → Stands new n x → IsHeld db new n x
  held_now db stored x is stands = record { stands = stands; hold = by_file (file_thing db.state.things.items n) (is.held n) }
    where
      more : holds_at new n ≡ one_more (holds_at old n)
      more = ap holds_in gains.held

      by_file : (o : Option FileThing) → (IsSome o → 0 < holds_at old n) → 1 + cond (is_some o) 1 0 ≤ holds_at new n
      by_file None held = omega (arith, more, some_more (holds_at old n))
      by_file (Some thing) held = omega (arith, more, two_more (holds_at old n) (held refl))
