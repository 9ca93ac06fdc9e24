-- What builders answer, as three functions of what they are handed.
use Rattle.std.specs.Prelude.{ℕ, List}
use Rattle.ap_builder.specs.declared.offer.Target.{Target}
use Rattle.ap_builder.specs.declared.work.CreateInput.{CreateInput}
use Rattle.ap_builder.specs.declared.work.CreateAnswer.{CreateAnswer}
use Rattle.ap_builder.specs.declared.work.JobInput.{JobInput}
use Rattle.ap_builder.specs.declared.work.Outcome.{Outcome}

-- the targets that a builder declares for a path and bytes, what it creates, and what is made of a job input
pub record Meanings : Type 0 where
  pub declares : List ℕ → List ℕ → List ℕ → List Target
  pub creates : List ℕ → CreateInput → CreateAnswer
  pub makes : JobInput → Outcome
