use Rattle.std.proofs.Common.{◌∙◌, List, sym, subst}
use Rattle.std.specs.List.{AllByRecursion}
use Rattle.ap_engine.specs.declared.source.Source.{Source}
use Rattle.ap_engine.specs.declared.creations.NeededCreation.{NeededCreation}
use Rattle.ap_engine.specs.Asked.{HasHeldBytes}
use Rattle.ap_engine.proofs.NeededSources.{AreFound, stays_held_bytes, one_found, all_found}
use Rattle.ap_engine.proofs.SliceSteps.{after, first_of, none_of}
use Rattle.ap_engine.proofs.creations.needed_creations.Goals as goal

pub loop-rest-preserved : goal.loop-rest-preserved
loop-rest-preserved c =
    let start = c.args.ledger.now in
    let old = c.loop-rest.ledger in
    let new = c.add_needed.new.ledger in
    let rest = c.loop-rest.rest.now in
    let source = c.source-item.result in
    let cut = first_of rest source c.in-len1-up.len_at_least c.source-item.is in
    let inv = c.loop-rest.invariant in
    let r = c.requires.beside in
    let e = c.in_ok-add_needed.ensures in
    record {
      held = stays_held_bytes old.db old.contents new.db new.contents (e.stay r.0 (inv.beside r.0 r.1)) (after rest) (subst (AllByRecursion (HasHeldBytes old.db old.contents)) cut inv.held).1;
      beside = λ stored is. e.beside stored (inv.beside stored is);
      stay = λ stored is n x held. e.stay stored (inv.beside stored is) n x (inv.stay stored is n x held);
      db = c.add_needed.ensures.db ∙ inv.db;
      found = λ stored is builders winners quiet are.
          subst (λ (items : List NeededCreation). AreFound builders c.args.config.now winners stored.tables new.db new.contents (after rest) items) (sym e.found.1)
          (one_found builders c.args.config.now winners stored.tables quiet old.db old.contents new.db new.contents (e.stay stored (inv.beside stored is)) source (after rest) c.loop-rest.needed.items e.found.0
          (subst (λ (rest : List Source). AreFound builders c.args.config.now winners stored.tables old.db old.contents rest c.loop-rest.needed.items) cut (inv.found stored is builders winners quiet are))
          (e.found.2 stored (inv.beside stored is)));
    }

pub returns-clause-found : goal.returns-clause-found
returns-clause-found c = λ stored is builders winners quiet are.
    let now = c.loop-rest.ledger in
    all_found builders c.args.config.now winners stored.tables now.db now.contents c.loop-rest.needed.items
    (subst (λ (rest : List Source). AreFound builders c.args.config.now winners stored.tables now.db now.contents rest c.loop-rest.needed.items) (none_of c.loop-rest.rest.now c.in_default.len_below)
    (c.loop-rest.invariant.found stored is builders winners quiet are))
