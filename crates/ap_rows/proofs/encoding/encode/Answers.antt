use Rattle.std.proofs.Common.{◌≡◌, ◌++◌, ap, ◌∙◌, All, subst}
use Rattle.ap_rows.specs.Grammar.{decoded}
use Rattle.ap_rows.specs.Spelling.{item_field, spelled}
use Rattle.ap_rows.specs.Typed.{TypedItem}
use Rattle.ap_rows.proofs.Lengths.{each-le}
use Rattle.ap_rows.proofs.ChangeBack.{decoded-back}
use Rattle.ap_rows.proofs.encoding.encode.Goals as goal

pub write_each-requires : goal.write_each-requires
write_each-requires c = rw c.as_slice.ensures (each-le item_field 4294967296 c.args.change.now.items c.requires)

pub returns-in-Ok-clause-read_back : goal.returns-in-Ok-clause-read_back
returns-in-Ok-clause-read_back c = λ folded.
    let bytes : c.of.result ≡ spelled c.args.change.now.items = c.of.ensures ∙ c.in-Ok.ensures.put ∙ ap (λ out. out ++ spelled c.as_slice.result.now) c.new-out.ensures.items ∙ ap spelled c.as_slice.ensures in
    let typed : All TypedItem c.args.change.now.items = subst (All TypedItem) c.as_slice.ensures c.in-Ok.ensures.is_typed in
    ap decoded bytes ∙ decoded-back c.args.change.now.items typed folded
