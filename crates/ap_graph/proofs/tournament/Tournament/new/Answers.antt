use Rattle.std.proofs.Common.{◌≡◌, ◌*◌, ℕ, Bool, List, length, replicate, ap, ◌∙◌, arith}
use Rattle.ap_graph.specs.Contest.{Contest}
use Rattle.ap_graph.proofs.Contests.{entered_start}
use Rattle.ap_graph.proofs.tournament.Tournament.new.Goals as goal

pub returns : goal.returns
returns c =
    let count : c.len-count.result ≡ length c.args.priorities.items = omega arith in
    let all : c.in_ok-nodes.nodes.items ≡ replicate (2 * length c.args.priorities.items) (length c.args.priorities.items) =
    c.in_ok-nodes.ensures.items_if_clones_equal (λ y e. e) ∙ ap (λ (n : ℕ). replicate (2 * n) n) count in
    ap (λ (l : List Bool). let contest : Contest = record { priorities = c.args.priorities.items; entered = l } in contest) (entered_start (length c.args.priorities.items) c.in_ok-nodes.nodes.items all)
