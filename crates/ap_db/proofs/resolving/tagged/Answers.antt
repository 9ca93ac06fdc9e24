use Rattle.std.proofs.Common.{true, false, sym}
use Rattle.ap_db.proofs.Indexing.{tagged_is, untagged}
use Rattle.ap_db.proofs.resolving.tagged.Goals as goal

pub returns-then-has_tag : goal.returns-then-has_tag
returns-then-has_tag c = λ state stored stands is_index.
    tagged_is state c.args.contents.now stored c.args.index.now stands is_index c.args.tag c.args.n c.in-Some.m (sym c.in-Some.ensures) true (λ x s. c.if-has_tag.ensures x s)

pub returns-else-has_tag : goal.returns-else-has_tag
returns-else-has_tag c = λ state stored stands is_index.
    tagged_is state c.args.contents.now stored c.args.index.now stands is_index c.args.tag c.args.n c.in-Some.m (sym c.in-Some.ensures) false (λ x s. c.if-has_tag.ensures x s)

pub returns-in-None : goal.returns-in-None
returns-in-None c = λ state stored stands is_index. untagged state c.args.contents.now stored c.args.index.now stands is_index c.args.tag c.args.n (sym c.in-None.ensures)
