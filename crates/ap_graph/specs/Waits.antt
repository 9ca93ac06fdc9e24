-- Which dependencies a job waits for.
use Rattle.std.specs.Prelude.{Bool, true, not}
use Rattle.ap_rows.specs.declared.job.DepKind.{DepKind}
use Rattle.ap_rows.specs.declared.job.DepKind.TheVariants.{Order, OrderOnce, Fingerprint}

-- the kinds of dependencies
abbrev pub Kind : Type 0
Kind = DepKind

-- a job waits for Order and Fingerprint dependencies, and until it was processed for OrderOnce ones
abbrev pub waits_for : Kind → Bool → Bool
waits_for Order processed = true
waits_for OrderOnce processed = not processed
waits_for Fingerprint processed = true
