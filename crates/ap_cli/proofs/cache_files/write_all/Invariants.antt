use Rattle.std.proofs.Common.{◌≡◌, ◌≤◌, true, ℕ, List, length}
use Rattle.std.specs.Prelude.{Option, Some}
use Rattle.ap_tree.specs.Files.{content_at, has_distinct_paths}
use Rattle.ap_tree.specs.Changes.{TellsAs}
use Rattle.ap_scan.specs.Winners.{Files}
use Rattle.ap_cli.specs.Overlay.{Overlays}
use Rattle.ap_cli.proofs.Between.{Between}
use Rattle.ap_cli.proofs.cache_files.write_all.Given as goal

-- who lays the rest over what is there now has laid all of them over what was there
abbrev pub invariant-loop-rest : goal.invariant-loop-rest
invariant-loop-rest g l = record {
  distinct : has_distinct_paths l.rest ≡ true;
  left : (final : Option Files) → TellsAs (g.C.CacheDir.files l.cache) final (Overlays l.rest) → TellsAs (g.C.CacheDir.files l.fn.cache) final (Overlays l.files);
  inside : (path bytes : List ℕ) → content_at l.rest path ≡ Some bytes → content_at l.files path ≡ Some bytes;
  so_far : TellsAs (g.C.CacheDir.files l.fn.cache) (g.C.CacheDir.files l.cache) (Between l.files);
  later : g.C.CacheDir.faults l.fn.cache ≤ g.C.CacheDir.faults l.cache;
}

abbrev pub decreases-loop-rest : goal.decreases-loop-rest
decreases-loop-rest g l = length l.rest
