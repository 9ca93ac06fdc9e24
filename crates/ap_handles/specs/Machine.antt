-- The hall of one thread as a machine: what each call changes, and what it answers.
use Rattle.std.specs.Prelude.{ℕ, ◌+◌, ◌-◌, min, Bool, ◌&&◌, ◌==◌, List, [], length, Option, Some, None, bytes_eq, fold, find}
use Rattle.ap_text.specs.declared.job_id.AssetId.{AssetId}
use Rattle.ap_turn.specs.declared.held.Given.{Given}
use Rattle.ap_handles.specs.declared.entry.HallEntry.{HallEntry}
use Rattle.ap_handles.specs.declared.entry.Status.{Status}
use Rattle.ap_handles.specs.declared.call.Call.{Call}
use Rattle.ap_handles.specs.declared.call.Call.TheVariants as call

-- What the hall is at a moment: the serial, the published products, how many handles are out, and how many scans were asked for
pub record Machine : Type 0 where
  pub serial : ℕ
  pub entries : List HallEntry
  pub handles : ℕ
  pub asked : ℕ

-- the hall before any call
abbrev pub opening : Machine
opening = record { serial = 0; entries = []; handles = 0; asked = 0 }

-- one more, up to the last value
abbrev pub raised : ℕ → ℕ
raised n = min (n + 1) 18446744073709551615

-- whether a product is that of a platform and an id
abbrev pub is_of : List ℕ → AssetId → HallEntry → Bool
is_of platform id e = bytes_eq e.platform platform && (bytes_eq e.id.uuid id.uuid && e.id.sub == id.sub)

-- the product of a platform and an id, if there is one
abbrev pub product_of : Machine → List ℕ → AssetId → Option HallEntry
product_of m platform id = find (is_of platform id) m.entries

abbrev pub status_of : Machine → Status
status_of m = record { serial = m.serial; products = length m.entries; handles = m.handles; asked = m.asked }

-- the hall after a call
abbrev pub after : Machine → Call → Machine
after m (call.Publish entries serial) = record { serial = raised m.serial; entries = entries; handles = m.handles; asked = m.asked }
after m (call.Acquire platform id (Some e)) = record { serial = m.serial; entries = m.entries; handles = m.handles + 1; asked = m.asked }
after m (call.Acquire platform id None) = m
after m (call.Release place) = record { serial = m.serial; entries = m.entries; handles = m.handles - 1; asked = m.asked }
after m (call.Ask asked) = record { serial = m.serial; entries = m.entries; handles = m.handles; asked = raised m.asked }
after m (call.Status status) = m
after m call.Skip = m

-- the hall after a history
abbrev pub machine_of : List (Given Call) → Machine
machine_of log = fold (λ m g. after m g.entry) opening log
