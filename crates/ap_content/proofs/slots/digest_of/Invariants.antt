use Rattle.std.proofs.Common.{◌≡◌, ℕ, List, ◌++◌, length}
use Rattle.sha1.specs.Sha1.{Holds}
use Rattle.ap_content.specs.Things.{digested}
use Rattle.ap_content.specs.Sound.{kid_digests}
use Rattle.ap_content.proofs.slots.digest_of.Given as goal

-- what the hasher took and the digests of the rest are all that is to be digested
abbrev pub invariant-loop-rest : goal.invariant-loop-rest
invariant-loop-rest l =
    (m : List ℕ) × Holds l.hasher m × (m ++ kid_digests l.slots l.rest ≡ digested l.tag l.text (length l.kids) (kid_digests l.slots l.kids))

abbrev pub decreases-loop-rest : goal.decreases-loop-rest
decreases-loop-rest l = length l.rest
