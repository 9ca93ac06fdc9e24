use Rattle.std.proofs.Common.{◌≡◌, ℕ, List, [], length}
use Rattle.std.specs.Prelude.{bytes_eq}
use Rattle.std.specs.List.{list_any}
use Rattle.std.specs.Ordering.{nat_cmp}
use Rattle.std.specs.Cmp.Lexicographic.{slice_cmp}
use Rattle.std.specs.BTreeSet.{contains}
use Rattle.ap_config.specs.Configuration.{platforms_of}
use Rattle.ap_config.proofs.judge.make_platforms.Given as goal

abbrev pub invariant-loop-rest : goal.invariant-loop-rest
invariant-loop-rest l = ((text : List ℕ) → contains (slice_cmp nat_cmp) l.seen text ≡ list_any (bytes_eq text) l.platforms.items) × (platforms_of l.platforms.items l.rest ≡ platforms_of [] l.texts)

abbrev pub decreases-loop-rest : goal.decreases-loop-rest
decreases-loop-rest l = length l.rest
