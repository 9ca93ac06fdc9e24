use Rattle.std.proofs.Common.{◌∙◌, map, Bor, true≢false, Some, None, ap, sym, subst}
use Rattle.std.specs.Prelude.{IsTrue}
use Rattle.std.specs.List.{AllByRecursion}
use Rattle.ap_text.specs.Wild.{some_matches_lem}
use Rattle.ap_config.specs.declared.offer.Offer.{Offer}
use Rattle.ap_builder.specs.Offers.{is_offered}
use Rattle.ap_builder.specs.Views.{create_view}
use Rattle.ap_sources.specs.Sources.{matching}
use Rattle.ap_engine.specs.Asked.{meanings_of, plain_from, all_free, all_apart}
use Rattle.ap_engine.proofs.AskedJobs.{all_filtered, all_behind, joined_as, jobs_created, none_created, others_created}
use Rattle.ap_engine.proofs.creations.ask.Goals.{else-are_free-via-then-are_free+else-are_apart, else-are_free-via-else-are_free}
use Rattle.ap_engine.proofs.creations.ask.Goals as goal

pub ask_each-requires : goal.ask_each-requires
ask_each-requires g c =
    let IsOffered = λ (offer : Offer). IsTrue (is_offered (g.B.Builders.offers c.args.builders.now) offer.name) in
    subst (AllByRecursion (λ (offer : Bor Offer). IsOffered offer.now)) (sym c.deref-2.ensures.value)
    (all_behind IsOffered c.in_ok-offers.offers.items (subst (AllByRecursion IsOffered) (sym c.in_ok-offers.ensures)
    (all_filtered IsOffered (λ builder. some_matches_lem builder.patterns c.args.source.now.path) c.args.config.now.builders c.requires.offered)))

pub returns-in-Err-clause-unbuilt : goal.returns-in-Err-clause-unbuilt
returns-in-Err-clause-unbuilt g c = λ unbuilt bytes stands.
    let config = c.args.config.now in
    let path = c.args.source.now.path in
    none_created (meanings_of g.B.Builders.declares g.B.Builders.creates g.B.Builders.makes) config path bytes
    (joined_as g.B.Builders.creates c.in_ok-input.input (create_view (plain_from config path bytes) bytes) (map (λ (offer : Bor Offer). offer.now) c.deref-2.result.now) (matching config path) None
    (c.in_ok-input.ensures.view bytes stands (ap (map (λ (offer : Bor Offer). offer.now)) c.deref.ensures.value ∙ c.in_ok-offers.ensures))
    (ap (map (λ (offer : Bor Offer). offer.now)) c.deref-2.ensures.value ∙ c.in_ok-offers.ensures) (c.in-Err.ensures.unbuilt unbuilt))

pub returns-then-are_apart-clause-jobs : goal.returns-then-are_apart-clause-jobs
returns-then-are_apart-clause-jobs g c = λ bytes stands.
    let config = c.args.config.now in
    let path = c.args.source.now.path in
    jobs_created (meanings_of g.B.Builders.declares g.B.Builders.creates g.B.Builders.makes) config path bytes c.in-Ok.jobs.items
    (joined_as g.B.Builders.creates c.in_ok-input.input (create_view (plain_from config path bytes) bytes) (map (λ (offer : Bor Offer). offer.now) c.deref-2.result.now) (matching config path) (Some c.in-Ok.jobs.items)
    (c.in_ok-input.ensures.view bytes stands (ap (map (λ (offer : Bor Offer). offer.now)) c.deref.ensures.value ∙ c.in_ok-offers.ensures))
    (ap (map (λ (offer : Bor Offer). offer.now)) c.deref-2.ensures.value ∙ c.in_ok-offers.ensures) c.in-Ok.ensures.jobs)
    (ap all_free (sym c.deref-3.ensures.value) ∙ sym c.are_free.ensures ∙ c.if-are_free.true)
    (ap all_apart (sym c.deref-then-are_free.ensures.value) ∙ sym c.are_apart.ensures ∙ c.if-are_apart.true)

pub returns-clause-unbuilt : goal.returns-clause-unbuilt
returns-clause-unbuilt g c = λ _ bytes stands.
    let config = c.args.config.now in
    let path = c.args.source.now.path in
    others_created (meanings_of g.B.Builders.declares g.B.Builders.creates g.B.Builders.makes) config path bytes c.in-Ok.jobs.items
    (joined_as g.B.Builders.creates c.in_ok-input.input (create_view (plain_from config path bytes) bytes) (map (λ (offer : Bor Offer). offer.now) c.deref-2.result.now) (matching config path) (Some c.in-Ok.jobs.items)
    (c.in_ok-input.ensures.view bytes stands (ap (map (λ (offer : Bor Offer). offer.now)) c.deref.ensures.value ∙ c.in_ok-offers.ensures))
    (ap (map (λ (offer : Bor Offer). offer.now)) c.deref-2.ensures.value ∙ c.in_ok-offers.ensures) c.in-Ok.ensures.jobs)
    (λ free apart. elim c.else-are_free.branch [
      | else-are_free-via-then-are_free+else-are_apart w ↦ true≢false (sym apart ∙ ap all_apart (sym w.deref-then-are_free.ensures.value) ∙ sym w.are_apart.ensures ∙ w.if-are_apart.false)
      | else-are_free-via-else-are_free w ↦ true≢false (sym free ∙ ap all_free (sym c.deref-3.ensures.value) ∙ sym c.are_free.ensures ∙ w.if-are_free.false)
    ])
