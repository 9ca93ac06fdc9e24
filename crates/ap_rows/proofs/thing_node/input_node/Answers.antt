use Rattle.std.proofs.Common.{◌≡◌, ap, sym, ◌∙◌, subst}
use Rattle.ap_content.specs.Things.{thing}
use Rattle.ap_content.specs.Entries.{StandEach}
use Rattle.ap_rows.specs.Forms.{made_from_thing}
use Rattle.ap_rows.specs.InputNodes.{input_node_of}
use Rattle.ap_rows.proofs.NodesTold.{input-told}
use Rattle.ap_rows.proofs.ThingBack.{input-read_back}
use Rattle.ap_rows.proofs.thing_node.input_node.Goals as goal

pub returns-clause-thing : goal.returns-clause-thing
returns-clause-thing c = λ contents from h.
    let parts = c.args.parts.now in
    let text : c.of.result ≡ (input_node_of parts).text = c.of.ensures ∙ c.in_ok-text.ensures in
    let kids : c.of-2.result ≡ (input_node_of parts).kids = c.of-2.ensures ∙ c.in_ok-kids.ensures in
    let told = input-told contents parts from h in
    (told.0, subst (λ ns. StandEach contents ns told.0) (sym kids) told.1, ap (λ t. thing 2 t told.0) text ∙ told.2)

pub returns-clause-read_back : goal.returns-clause-read_back
returns-clause-read_back c = λ contents from h ranges.
    let stands = returns-clause-thing c contents from h in
    (stands.0, stands.1, ap made_from_thing stands.2 ∙ input-read_back from ranges)
