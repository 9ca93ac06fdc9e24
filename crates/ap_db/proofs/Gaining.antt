-- A hold more, or a thing more, leaves a database beside its contents.
use Rattle.std.proofs.Common.{ℕ, List, Option}
use Rattle.ap_content.specs.Things.{Thing}
use Rattle.ap_content.specs.Entries.{Entry, IsTidy, Stands, Gains}
use Rattle.ap_content.specs.Laws.{Stands-gained}
use Rattle.ap_content.specs.declared.node.Number.{Number}
use Rattle.ap_content.specs.declared.node.Node.{Node}
use Rattle.ap_db.specs.declared.state.State.{State}
use Rattle.ap_db.specs.declared.db.Db.{Db}
use Rattle.ap_db.specs.Stored.{Stored}
use Rattle.ap_db.specs.States.{Names, IsFound, StandsFor}
use Rattle.ap_db.specs.Databases.{IsDbOf}
use Rattle.ap_db.proofs.Renaming.{tables_follow, all_follow}
use Rattle.ap_db.proofs.Holding.{held_gained}
use Rattle.ap_db.proofs.Settling.{stands_lives}

module _ (old new : List (Option Entry)) (n : Number) (node : Node) (gains : Gains old new n node) (tidy_then : IsTidy new) where
  pub stands_on : IsTidy old → (k : Number) (y : Thing) → Stands old k y → Stands new k y
  stands_on tidy k y s = Stands-gained old new n node gains tidy y k (stands_lives old k y s) s

  pub stands_for_gained : (state : State) (stored : Stored) → StandsFor state old stored → StandsFor state new stored
  stands_for_gained state stored stands = record {
    sound = stands.sound;
    tidy = tidy_then;
    defined = stands.defined;
    names = stands.names;
    tables = tables_follow (Names state.things.items old) (Names state.things.items new) (λ k y h. record { file = h.file; stands = stands_on stands.tidy k y h.stands }) state.tables stored.tables stands.tables;
    found = all_follow (IsFound state.things.items old) (IsFound state.things.items new) stored.live
        (λ live h. record { number = h.number; thing = h.thing; file = h.file; same = h.same; stands = stands_on stands.tidy h.number live.value h.stands }) stands.found;
    known = λ k t e.
        let known = stands.known k t e in
        record { value = known.value; live = known.live; stands = stands_on stands.tidy k known.value known.stands; named = known.named };
  }

  pub db_gained : {D : Type 0} (seen : D → Option (List ℕ)) (may_leave : D → List ℕ → Type 0) (room : D → ℕ) (db : Db) (store : D × D)
      → IsDbOf seen may_leave room db old store → IsDbOf seen may_leave room db new store
  db_gained seen may_leave room db store is = record {
    stored = is.stored;
    journal = is.journal;
    stands = stands_for_gained db.state is.stored is.stands;
    held = held_gained db.state.things.items old new n node gains is.held;
    well = is.well;
    loose = λ x has none. let found = is.loose x has none in (found.0, found.1, stands_on is.stands.tidy found.0 x found.2);
    bounded = is.bounded;
    file = is.file;
  }
