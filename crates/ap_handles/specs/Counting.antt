-- How many handles a history has given and taken back.
use Rattle.std.specs.Prelude.{ℕ, Bool, true, false, List, Some, count_by}
use Rattle.ap_turn.specs.declared.held.Given.{Given}
use Rattle.ap_handles.specs.declared.call.Call.{Call}
use Rattle.ap_handles.specs.declared.call.Call.TheVariants as call

-- whether a call is an Acquire that gave an entry
abbrev pub gives_handle : Call → Bool
gives_handle (call.Acquire platform id (Some e)) = true
gives_handle _ = false

-- whether a call is a Release
abbrev pub takes_handle : Call → Bool
takes_handle (call.Release place) = true
takes_handle _ = false

-- the Acquires of a history that gave an entry
abbrev pub acquires : List (Given Call) → ℕ
acquires log = count_by (λ g. gives_handle g.entry) log

-- the Releases of a history
abbrev pub releases : List (Given Call) → ℕ
releases log = count_by (λ g. takes_handle g.entry) log
