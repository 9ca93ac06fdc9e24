-- A number that stands for a thing already, held once more.
use Rattle.std.proofs.Common.{◌≡◌, Option, Some, List, subst}
use Rattle.std.specs.Prelude.{IfSome}
use Rattle.ap_content.specs.Things.{Thing, thing}
use Rattle.ap_content.specs.Entries.{Entry, node_at, IsTidy, Stands, Gains}
use Rattle.ap_content.specs.declared.node.Number.{Number}
use Rattle.ap_content.specs.declared.node.Node.{Node}
use Rattle.ap_db.specs.declared.db.Db.{Db}
use Rattle.ap_db.specs.Stored.{Stored}
use Rattle.ap_db.proofs.Gaining.{stands_on}
use Rattle.ap_engine.specs.Ledgers.{IsBeside, IsHeld, StayHeld}
use Rattle.ap_engine.proofs.Gains.{beside_gained, stay_gained, held_now}

node_of_thing : (contents : List (Option Entry)) (n : Number) (x : Thing) → Stands contents n x → (node : Node) × (node_at contents n ≡ Some node)
node_of_thing contents n (thing tag text kids) stands = (stands.0, stands.1)

module _ (old new : List (Option Entry)) (n : Number) (x : Thing) (stands : Stands old n x) (gains : IfSome (node_at old n) (Gains old new n)) (tidy : IsTidy new)
    (db : Db) (stored : Stored) (is : IsBeside db old stored) where
  there : (node : Node) × (node_at old n ≡ Some node)
  there = node_of_thing old n x stands

  gained : Gains old new n there.0
  gained = subst (λ (o : Option Node). IfSome o (Gains old new n)) there.1 gains

  pub beside_held : IsBeside db new stored
  beside_held = beside_gained old new n there.0 gained tidy db stored is

  pub stay_held : StayHeld db old db new
  stay_held = stay_gained old new n there.0 gained tidy db stored is

  pub held_again : IsHeld db new n x
  held_again = held_now old new n there.0 gained tidy db stored x is (stands_on old new n there.0 gained tidy is.stands.tidy n x stands)
