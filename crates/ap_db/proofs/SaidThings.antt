-- What tests of a thing say.
use Rattle.std.proofs.Common.{◌≡◌, ◌==◌, ℕ, Bool, true, false, Option, Some, None, refl, sym, ◌∙◌, ap, option_map}
use Rattle.std.specs.Prelude.{IsSome}
use Rattle.std.specs.List.{list_all}
use Rattle.std.specs.Prelude.{List}
use Rattle.ap_content.specs.Things.{Thing, thing}
use Rattle.ap_content.specs.Entries.{Entry, entry_at, node_at, Lives, Stands}
use Rattle.ap_content.specs.declared.node.Number.{Number}
use Rattle.ap_content.specs.declared.node.Node.{Node}
use Rattle.ap_db.specs.declared.state.State.{State}
use Rattle.ap_db.specs.Same.{tag_of}
use Rattle.ap_db.specs.Stored.{Stored}
use Rattle.ap_db.specs.Commit.{with_below}
use Rattle.ap_db.specs.Lawful.{is_good_thing}
use Rattle.ap_db.specs.States.{StandsFor}
use Rattle.ap_db.specs.SameThings.{both_true, both_parts}
use Rattle.ap_db.specs.GoodParts.{has_good_parts, is_good_part, good_parts}
use Rattle.ap_db.specs.Said.{Says, says_no}

module _ (contents : List (Option Entry)) (m : Number) where
  lives_there : (node : Node) → node_at contents m ≡ Some node → Lives contents m
  lives_there node e = step (entry_at contents m) e
    where
      step : (o : Option Entry) → option_map (λ e. e.node) o ≡ Some node → IsSome o
      step None is = absurd (cc is)
      step (Some entry) is = refl

  tag_there : (x : Thing) (node : Node) → Stands contents m x → node_at contents m ≡ Some node → tag_of x ≡ node.tag
  tag_there (thing tag text kids) node s e =
      let both : Some s.0 ≡ Some node = sym s.1 ∙ e in
      let same : s.0 ≡ node = cc both in
      sym (ap (λ (n : Node). n.tag) (sym same) ∙ s.2)

  module _ (state : State) (stored : Stored) (stands : StandsFor state contents stored) (tag : ℕ) where
    -- nothing is there
    pub says_nothing : node_at contents m ≡ None → Says false (Stands contents m) (is_good_thing stored tag)
    says_nothing none = says_no (Stands contents m) (is_good_thing stored tag) (λ x s so. never x s)
      where
        never : (x : Thing) → Stands contents m x → ⊥
        never (thing tag text kids) s = let both : Some s.0 ≡ None = sym s.1 ∙ none in absurd (cc both)

    -- it has another tag
    pub says_other_tag : (node : Node) → node_at contents m ≡ Some node → node.tag == tag ≡ false → Says false (Stands contents m) (is_good_thing stored tag)
    unfolding is_good_thing
    says_other_tag node e other = says_no (Stands contents m) (is_good_thing stored tag) (λ x s so. never x s (both_parts (tag_of x == tag) (list_all (is_good_part stored) (with_below x)) so).0)
      where
        never : (x : Thing) → Stands contents m x → tag_of x == tag ≡ true → ⊥
        never x s is =
            let same : node.tag == tag ≡ true = ap (λ (t : ℕ). t == tag) (sym (tag_there x node s e)) ∙ is in
            absurd (cc (other, same))

    -- it has this one
    pub says_tag : (node : Node) (r : Bool) → node_at contents m ≡ Some node → node.tag == tag ≡ true → ((x : Thing) → Stands contents m x → r ≡ has_good_parts stored x) → Says r (Stands contents m) (is_good_thing stored tag)
    unfolding is_good_thing
    says_tag node r e is parts = record {
      sound = λ so.
          let x = stands.tidy.stands m (lives_there node e) in
          (x.0, x.1, both_true (tag_of x.0 == tag) (list_all (is_good_part stored) (with_below x.0)) (tag_is x.0 x.1) (sym (parts x.0 x.1 ∙ good_parts stored stands.sound x.0) ∙ so));
      complete = λ x s so. parts x s ∙ good_parts stored stands.sound x ∙ (both_parts (tag_of x == tag) (list_all (is_good_part stored) (with_below x)) so).1;
    }
      where
        tag_is : (x : Thing) → Stands contents m x → tag_of x == tag ≡ true
        tag_is x s = ap (λ (t : ℕ). t == tag) (tag_there x node s e) ∙ is
