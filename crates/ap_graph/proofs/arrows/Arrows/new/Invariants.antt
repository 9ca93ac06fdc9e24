use Rattle.std.proofs.Common.{◌≡◌, [], replicate, map}
use Rattle.ap_graph.proofs.arrows.Arrows.new.Given as goal

abbrev pub invariant-loop : goal.invariant-loop
invariant-loop l = map (λ row. row.items) l.rows.items ≡ replicate l.counter []
