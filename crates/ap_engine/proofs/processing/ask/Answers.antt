use Rattle.std.proofs.Common.{◌∙◌, sym, ap}
use Rattle.ap_builder.specs.declared.work.Outcome.TheVariants.{Done}
use Rattle.ap_engine.proofs.NeededJobFacts.{one_is_done, not_failed}
use Rattle.ap_engine.proofs.processing.ask.Goals as goal

pub returns-in-Failed-clause-unbuilt : goal.returns-in-Failed-clause-unbuilt
returns-in-Failed-clause-unbuilt g c = λ unbuilt bytes stands one.
    not_failed one.product c.in-Failed.field-0 (sym c.in-Failed.is ∙ c.in_ok-products.ensures ∙ ap g.B.Builders.makes (c.in_ok-input.ensures.view bytes stands) ∙ one.one)

pub returns-in-Some-clause-product : goal.returns-in-Some-clause-product
returns-in-Some-clause-product g c = λ bytes stands.
    ap g.B.Builders.makes (sym (c.in_ok-input.ensures.view bytes stands)) ∙ sym c.in_ok-products.ensures ∙ c.in-Done.is ∙ ap Done (sym c.into_vec.ensures ∙ c.in-Some.ensures.one)

pub returns-clause-unbuilt : goal.returns-clause-unbuilt
returns-clause-unbuilt g c = λ unbuilt bytes stands one.
    c.only_product.ensures.none c.in-None.is one.product (c.into_vec.ensures ∙ one_is_done c.in-Done.products one.product
    (sym c.in-Done.is ∙ c.in_ok-products.ensures ∙ ap g.B.Builders.makes (c.in_ok-input.ensures.view bytes stands) ∙ one.one))
