use Rattle.std.proofs.Common.{◌∙◌, [], ◌∷◌, refl, sym}
use Rattle.std.proofs.lemmas.List.{append-nil}
use Rattle.ap_rows.specs.Inputs.{create_thing}
use Rattle.ap_engine.specs.Asked.{plain_from}
use Rattle.ap_engine.proofs.Needs.{recorded_beside}
use Rattle.ap_engine.proofs.creations.add_needed.Goals as goal

pub records-requires : goal.records-requires
records-requires c =
    let new = c.create_input.new.ledger in
    let r = c.requires.beside in
    let is = c.in_ok-input.ensures.beside r.0 r.1 in
    (new.contents, r.0, is.stands, is.held)

pub returns-then-records-clause-found : goal.returns-then-records-clause-found
returns-then-records-clause-found c =
    let new = c.create_input.new.ledger in (
      [],
      sym (append-nil c.args.needed.now.items),
      λ stored is bytes stands.
          recorded_beside new.db new.contents stored (c.in_ok-input.ensures.beside stored is) c.in_ok-input.input (create_thing (plain_from c.args.config.now c.args.source.now.path bytes)) c.args.source.now.path
          (c.in_ok-input.ensures.held stored is bytes stands) c.records.result c.records.ensures
          ∙ c.if-records.true,
    )

pub returns-clause-found : goal.returns-clause-found
returns-clause-found c =
    let new = c.create_input.new.ledger in (
      record { source = c.args.source; input = c.in_ok-input.input } ∷ [],
      c.in_ok-push.ensures.items,
      λ stored is bytes stands. (
        refl,
        recorded_beside new.db new.contents stored (c.in_ok-input.ensures.beside stored is) c.in_ok-input.input (create_thing (plain_from c.args.config.now c.args.source.now.path bytes)) c.args.source.now.path
            (c.in_ok-input.ensures.held stored is bytes stands) c.records.result c.records.ensures
            ∙ c.if-records.false,
        c.in_ok-input.ensures.held stored is bytes stands,
      ),
    )
