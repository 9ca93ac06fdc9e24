use Rattle.std.proofs.Common.{List, ℕ, refl, subst}
use Rattle.ap_content.specs.Things.{Kids, thing, bytes_thing}
use Rattle.ap_content.specs.Entries.{Stands, StandEach}
use Rattle.ap_rows.specs.Inputs.{input_thing}
use Rattle.ap_db.specs.Stored.{Stored}
use Rattle.ap_engine.specs.Ledgers.{IsBeside, IsHeld}
use Rattle.ap_engine.specs.NeededJobs.{made_of}
use Rattle.ap_engine.proofs.Outcomes.{if_ok}
use Rattle.ap_engine.proofs.processing.job_input.Goals as goal

pub returns-clause-held : goal.returns-clause-held
returns-clause-held c =
    let db = c.args.ledger.now.db in
    let old = c.args.ledger.now.contents in
    let new = c.intern_node.new.self in
    let node = c.in_ok-node.node in
    let job = c.args.job.now in
    if_ok c.intern_node.result
    (λ n. (stored : Stored) → IsBeside db old stored → (kids : Kids) → StandEach old node.kids kids → IsHeld new.db new.contents n (thing node.tag node.text kids))
    (λ n. (stored : Stored) → IsBeside db old stored → (kids : Kids) → StandEach old node.kids kids → IsHeld new.db new.contents n (thing node.tag node.text kids))
    (λ n. (stored : Stored) → IsBeside db old stored → (bytes : List ℕ) → Stands old job.content (bytes_thing bytes) → IsHeld new.db new.contents n (input_thing (made_of job bytes)))
    c.intern_node.ensures.held c.intern_node.ensures.held
    (λ n held again stored is bytes stands.
    let of = c.in_ok-node.ensures.thing old (made_of job bytes) (record {
      builder = refl;
      version = refl;
      platform = refl;
      key = refl;
      params = refl;
      path = refl;
      bytes = stands;
      reached = tt;
      handed = tt;
    }) in
    subst (IsHeld new.db new.contents n) of.2 (held stored is of.0 of.1))
