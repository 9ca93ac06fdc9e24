use Rattle.std.proofs.Common.{◌≡◌, ap, sym, ◌∙◌, subst}
use Rattle.ap_content.specs.Things.{thing}
use Rattle.ap_content.specs.Entries.{StandEach}
use Rattle.ap_rows.specs.Forms.{create_from_thing}
use Rattle.ap_rows.specs.InputNodes.{create_node_of}
use Rattle.ap_rows.proofs.NodesTold.{create-told}
use Rattle.ap_rows.proofs.ThingBack.{create-read_back}
use Rattle.ap_rows.proofs.thing_node.create_node.Goals as goal

pub returns-clause-thing : goal.returns-clause-thing
returns-clause-thing c = λ contents from h.
    let parts = c.args.parts.now in
    let text : c.of.result ≡ (create_node_of parts).text = c.of.ensures ∙ c.in_ok-text.ensures in
    let kids : c.of-2.result ≡ (create_node_of parts).kids = c.of-2.ensures ∙ c.in_ok-kids.ensures in
    let told = create-told contents parts from h in
    (told.0, subst (λ ns. StandEach contents ns told.0) (sym kids) told.1, ap (λ t. thing 1 t told.0) text ∙ told.2)

pub returns-clause-read_back : goal.returns-clause-read_back
returns-clause-read_back c = λ contents from h ranges.
    let stands = returns-clause-thing c contents from h in
    (stands.0, stands.1, ap create_from_thing stands.2 ∙ create-read_back from ranges)
