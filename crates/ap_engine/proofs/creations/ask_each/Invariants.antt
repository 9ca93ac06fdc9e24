use Rattle.std.proofs.Common.{◌≡◌, ◌++◌, length, map}
use Rattle.std.specs.Prelude.{IsTrue, option_map}
use Rattle.std.specs.List.{AllByRecursion}
use Rattle.ap_builder.specs.Offers.{is_offered}
use Rattle.ap_engine.specs.Asked.{answers_of, entries_of, all_joined}
use Rattle.ap_engine.proofs.creations.ask_each.Given as goal

abbrev pub invariant-loop-rest : goal.invariant-loop-rest
invariant-loop-rest g l = record {
  offered : AllByRecursion (λ offer. IsTrue (is_offered (g.B.Builders.offers l.builders) offer.now.name)) l.rest;
  jobs : option_map (λ more. l.jobs.items ++ more) (all_joined (answers_of g.B.Builders.creates l.input (map (λ offer. offer.now) l.rest))) ≡ all_joined (answers_of g.B.Builders.creates l.input (map (λ offer. offer.now) l.offers));
  noted : l.bench ++ entries_of l.input.path (map (λ offer. offer.now) l.rest) ≡ l.fn.bench ++ entries_of l.input.path (map (λ offer. offer.now) l.offers);
}

abbrev pub decreases-loop-rest : goal.decreases-loop-rest
decreases-loop-rest g l = length l.rest
