-- What may be published.
use Rattle.std.specs.Prelude.{◌≡◌, ◌≢◌, ◌≤◌, ℕ, Bool, ◌&&◌, nat_le, false, List, [], ◌∷◌, length, ⊤}
use Rattle.std.specs.List.{list_any, AllByRecursion}
use Rattle.std.specs.Str.{IsUtf8}
use Rattle.ap_text.specs.PathRules.{has_bad_part_lem, has_bad_byte_lem}
use Rattle.ap_handles.specs.declared.entry.HallEntry.{HallEntry}
use Rattle.ap_handles.specs.Machine.{is_of}

-- no two entries have the same platform and id
abbrev pub AreDistinct : List HallEntry → Type 0
AreDistinct [] = ⊤
AreDistinct (e ∷ more) = (list_any (is_of e.platform e.id) more ≡ false) × AreDistinct more

-- an upper-case ASCII letter
abbrev pub is_upper_case : ℕ → Bool
is_upper_case b = nat_le 65 b && nat_le b 90

-- the path of a product in the catalogue
pub record IsProductPath (path : List ℕ) : Type 0 where
  pub some : path ≢ []
  pub short : length path ≤ 494
  pub text : IsUtf8 path
  pub parts : has_bad_part_lem path ≡ false
  pub plain : has_bad_byte_lem path ≡ false
  pub folded : list_any is_upper_case path ≡ false

-- an entry whose path and bytes are within their limits
pub record IsPublishable (e : HallEntry) : Type 0 where
  pub path : IsProductPath e.path
  pub short : length e.bytes ≤ 268435456

-- entries that may be published together
pub record ArePublishable (entries : List HallEntry) : Type 0 where
  pub distinct : AreDistinct entries
  pub each : AllByRecursion IsPublishable entries
