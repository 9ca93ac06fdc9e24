use Rattle.std.proofs.Common.{◌∙◌, [], ◌∷◌, sym, subst}
use Rattle.std.proofs.lemmas.List.{append-nil}
use Rattle.ap_rows.specs.Inputs.{input_thing}
use Rattle.ap_engine.specs.Ledgers.{IsHeld}
use Rattle.ap_engine.proofs.NeededJobFacts.{stands_as, none_needed, one_needed, job_stays}
use Rattle.ap_engine.proofs.processing.add_needed.Goals as goal

pub returns-then-records-clause-needed : goal.returns-then-records-clause-needed
returns-then-records-clause-needed c =
    let new = c.job_input.new.ledger in (
      [],
      sym (append-nil c.args.needed.now.items),
      λ stored is from of.
          none_needed new.db new.contents stored.tables from
          (stands_as new.db new.contents stored (c.in_ok-input.ensures.beside stored is) c.in_ok-input.input c.args.job.now from (c.in_ok-input.ensures.held stored is from.bytes of.held.stands) of.same of.id c.records.result c.records.ensures ∙ c.if-records.true),
    )

pub returns-clause-needed : goal.returns-clause-needed
returns-clause-needed c =
    let new = c.job_input.new.ledger in
    let old = c.args.ledger.now in (
      record { job = c.args.job; input = c.in_ok-input.input } ∷ [],
      c.in_ok-push.ensures.items,
      λ stored is from of.
          one_needed new.db new.contents stored.tables from (record { job = c.args.job; input = c.in_ok-input.input })
          (stands_as new.db new.contents stored (c.in_ok-input.ensures.beside stored is) c.in_ok-input.input c.args.job.now from (c.in_ok-input.ensures.held stored is from.bytes of.held.stands) of.same of.id c.records.result c.records.ensures ∙ c.if-records.false)
          (record {
            job = job_stays old.db old.contents new.db new.contents (c.in_ok-input.ensures.stay stored is) c.args.job.now from of;
            input = subst (λ made. IsHeld new.db new.contents c.in_ok-input.input (input_thing made)) of.same (c.in_ok-input.ensures.held stored is from.bytes of.held.stands);
          }),
    )
