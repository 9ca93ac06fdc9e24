use Rattle.std.proofs.Common.{◌≡◌, ◌∙◌, List, ◌∷◌, sym, subst}
use Rattle.std.specs.Vec.Iter.{into_iter_items}
use Rattle.ap_scan.specs.declared.results.Winner.{Winner}
use Rattle.ap_engine.specs.declared.source.Source.{Source}
use Rattle.ap_engine.proofs.InternedSources.{AreInterned, next_is, one_interned}
use Rattle.ap_engine.proofs.interning.intern_sources.Goals as goal

pub loop-winner-preserved : goal.loop-winner-preserved
loop-winner-preserved c =
    let config = c.args.config.now in
    let wins = c.args.winners.items in
    let old = c.loop-winner.ledger in
    let new = c.add_source.new.ledger in
    let all = c.loop-winner.all.items in
    let winner = c.in-Some.winner in
    let rest = into_iter_items c.next.new.self in
    let next : into_iter_items c.loop-winner.winner-iterator ≡ winner ∷ rest = c.in-Some.ensures.steps.0 in
    let inv = c.loop-winner.invariant in
    let e = c.in_ok-add_source.ensures in
    record {
      beside = λ stored is. e.beside stored (inv.beside stored is);
      stay = λ stored is n x held. e.stay stored (inv.beside stored is) n x (inv.stay stored is n x held);
      db = c.add_source.ensures.db ∙ inv.db;
      interned = λ stored is read.
          let so_far : AreInterned config wins old.db old.contents (winner ∷ rest) all = subst (λ (rest : List Winner). AreInterned config wins old.db old.contents rest all) next (inv.interned stored is read) in
          let added = e.added stored (inv.beside stored is) (read winner (next_is config wins old.db old.contents winner rest all so_far)) in
          subst (λ (all : List Source). AreInterned config wins new.db new.contents rest all) (sym added.1)
          (one_interned config wins old.db old.contents winner rest all so_far new.db new.contents (e.stay stored (inv.beside stored is)) added.0 added.2);
    }
