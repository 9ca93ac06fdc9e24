use Rattle.std.proofs.Common.{◌≡◌, ◌++◌, ◌∷◌, [], ℕ, List, Contains, All, sym, subst, arith, ⊎_elim}
use Rattle.std.proofs.lemmas.List.Elements.{Contains-append_left, Contains-push, All-push}
use Rattle.std.proofs.lemmas.Bool.{cases_eq}
use Rattle.ap_graph.specs.declared.order.Visit.{Visit}
use Rattle.ap_graph.specs.declared.order.Visit.TheVariants.{Enter}
use Rattle.ap_graph.specs.Visits.{IsWithin}
use Rattle.ap_graph.proofs.order.all_to_enter.Goals as goal

pub loop-node-preserved : goal.loop-node-preserved
loop-node-preserved c =
    let pushed : c.push.new.self.items ≡ c.loop-node.stack.items ++ Enter c.loop-node.node ∷ [] = c.in_ok-push.ensures.items in
    record {
      all = λ v low. subst (λ (l : List Visit). Contains l (Enter v)) (sym pushed) (⊎_elim
          (λ e. subst (λ (w : ℕ). Contains (c.loop-node.stack.items ++ Enter c.loop-node.node ∷ []) (Enter w)) (sym e) (Contains-push c.loop-node.stack.items (Enter c.loop-node.node)))
          (λ differs. Contains-append_left c.loop-node.stack.items (Enter c.loop-node.node ∷ []) (Enter v) (c.loop-node.invariant.all v (omega arith)))
          (cases_eq v c.loop-node.node));
      only = subst (λ (l : List Visit). All (IsWithin c.args.count) l) (sym pushed) (All-push (IsWithin c.args.count) c.loop-node.stack.items (Enter c.loop-node.node) c.loop-node.invariant.only (omega arith));
    }
