-- Histories in which each reply is the machine's at its place.
use Rattle.std.specs.Prelude.{◌≡◌, ℕ, Bool, false, ◌==◌, List, [], ◌∷◌, ◌++◌, Some, slice_get, ⊤}
use Rattle.std.specs.List.{list_any}
use Rattle.ap_text.specs.declared.job_id.AssetId.{AssetId}
use Rattle.ap_turn.specs.declared.held.Given.{Given}
use Rattle.ap_turn.specs.Views.{given}
use Rattle.ap_handles.specs.declared.entry.HallEntry.{HallEntry}
use Rattle.ap_handles.specs.declared.call.Call.{Call}
use Rattle.ap_handles.specs.declared.call.Call.TheVariants as call
use Rattle.ap_handles.specs.Machine.{raised, product_of, status_of, machine_of}

-- whether a call is a Release that names a place
abbrev pub is_release : ℕ → Call → Bool
is_release place (call.Release other) = other == place
is_release place _ = false

-- whether some Release of a history names a place
abbrev pub is_released : ℕ → List (Given Call) → Bool
is_released place log = list_any (λ g. is_release place g.entry) log

-- the entry at a place is an Acquire of this seat that gave e
abbrev pub Gave : List (Given Call) → ℕ → ℕ → HallEntry → Type 0
Gave log by place e = (platform : List ℕ) × (id : AssetId) × (slice_get log place ≡ Some (given by (call.Acquire platform id (Some e))))

-- after this history the seat may make the call, and the reply is the machine's
abbrev pub Replies : List (Given Call) → ℕ → Call → Type 0
Replies log by (call.Publish entries serial) = serial ≡ raised (machine_of log).serial
Replies log by (call.Acquire platform id reply) = reply ≡ product_of (machine_of log) platform id
Replies log by (call.Release place) = ((e : HallEntry) × Gave log by place e) × (is_released place log ≡ false)
Replies log by (call.Ask asked) = asked ≡ raised (machine_of log).asked
Replies log by (call.Status status) = status ≡ status_of (machine_of log)
Replies log by call.Skip = ⊤

-- these entries are legal where they come after a history
abbrev pub LegalAfter : List (Given Call) → List (Given Call) → Type 0
LegalAfter before [] = ⊤
LegalAfter before (g ∷ more) = Replies before g.by g.entry × LegalAfter (before ++ g ∷ []) more

abbrev pub IsLegal : List (Given Call) → Type 0
IsLegal log = LegalAfter [] log
