use Rattle.std.proofs.Common.{rules}
use Rattle.std.proofs.lemmas.Iterator.Search.{any_from_yields_List}
use Rattle.std.proofs.lemmas.Iterator.Splits.{YieldsList-from_slice_split}
use Rattle.ap_text.specs.PathRules.{is_bad_part_lem}
use Rattle.ap_text.proofs.path.has_bad_part.Goals as goal

pub returns : goal.returns
returns c =
    any_from_yields_List is_bad_part_lem _ _ c.any.result c.any.ensures.ran
    (YieldsList-from_slice_split _ _ c.args.bytes.now c.split.ensures.rest c.split.ensures.done c.split.ensures.closure (λ x b q h. search rules))
    (λ x b q h. search rules)
