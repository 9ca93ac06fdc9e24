use Rattle.std.proofs.Common.{◌∙◌}
use Rattle.ap_engine.proofs.NextItems.{after, first_again, none_left}
use Rattle.ap_engine.proofs.NeededJobFacts.{first_left, next_so_far, all_of_them}
use Rattle.ap_engine.proofs.processing.needed_jobs.Goals as goal

pub add_needed-requires : goal.add_needed-requires
add_needed-requires c =
    let old = c.args.ledger.now in
    let now = c.loop-rest.ledger in
    let inv = c.loop-rest.invariant in
    let rest = c.loop-rest.rest.now in
    let r = c.requires in
    let first = first_left old.db old.contents now.db now.contents (inv.stay r.0 r.1) r.0.tables r.2 c.loop-rest.needed.items rest c.job-item.result (after rest)
    (first_again rest c.job-item.result c.in-len1-up.len_at_least c.job-item.is) (inv.needed r.0 r.1 r.2 r.3) in
    (r.0, inv.beside r.0 r.1, first.0, first.1)

pub loop-rest-preserved : goal.loop-rest-preserved
loop-rest-preserved c =
    let old = c.args.ledger.now in
    let now = c.loop-rest.ledger in
    let new = c.add_needed.new.ledger in
    let inv = c.loop-rest.invariant in
    let rest = c.loop-rest.rest.now in
    let added = c.in_ok-add_needed.ensures in
    record {
      beside = λ stored is. added.beside stored (inv.beside stored is);
      stay = λ stored is n x held. added.stay stored (inv.beside stored is) n x (inv.stay stored is n x held);
      db = added.db ∙ inv.db;
      needed = λ stored is froms are. next_so_far old.db old.contents now.db now.contents (inv.stay stored is) stored.tables froms c.loop-rest.needed.items new.db new.contents (added.stay stored (inv.beside stored is))
          c.add_needed.new.needed.items added.needed.0 added.needed.1 rest c.job-item.result (after rest) (first_again rest c.job-item.result c.in-len1-up.len_at_least c.job-item.is)
          (λ from of. added.needed.2 stored (inv.beside stored is) from of) (inv.needed stored is froms are);
    }

pub returns-clause-needed : goal.returns-clause-needed
returns-clause-needed c = λ stored is froms are.
    let old = c.args.ledger.now in
    let now = c.loop-rest.ledger in
    let inv = c.loop-rest.invariant in
    all_of_them old.db old.contents now.db now.contents (inv.stay stored is) stored.tables froms c.loop-rest.needed.items c.loop-rest.rest.now (none_left c.loop-rest.rest.now c.in_default.len_below) (inv.needed stored is froms are)
