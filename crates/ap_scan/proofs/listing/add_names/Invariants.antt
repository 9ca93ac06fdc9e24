use Rattle.std.proofs.Common.{◌≡◌, ◌++◌, length}
use Rattle.std.specs.List.{flat_map}
use Rattle.ap_scan.specs.Candidates.{candidates_in, odd_in}
use Rattle.ap_scan.proofs.listing.add_names.Given as goal

abbrev pub invariant-loop-rest : goal.invariant-loop-rest
invariant-loop-rest l = record {
  candidates : l.listing.candidates.items ++ flat_map (candidates_in l.folder) l.rest ≡ l.fn.listing.candidates.items ++ flat_map (candidates_in l.folder) l.names;
  odd : l.listing.odd.items ++ flat_map (odd_in l.folder) l.rest ≡ l.fn.listing.odd.items ++ flat_map (odd_in l.folder) l.names;
}

abbrev pub decreases-loop-rest : goal.decreases-loop-rest
decreases-loop-rest l = length l.rest
