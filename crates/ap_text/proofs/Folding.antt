-- Folding keeps the grammar of a path.
use Rattle.std.proofs.Common.{lit<, ◌≡◌, ◌≢◌, ◌<◌, ℕ, Bool, true, false, List, [], ◌∷◌, map, refl, arith}
use Rattle.std.specs.Prelude.{◌==◌, nat_lt, cond}
use Rattle.std.specs.List.{list_any, slice_split, onto_first}
use Rattle.std.specs.Char.{to_ascii_lowercase}
use Rattle.std.proofs.lemmas.List.{length-map}
use Rattle.std.proofs.lemmas.Grind.{common_steps}
use Rattle.std.specs.Str.{IsUtf8}
use Rattle.ap_text.specs.PathRules.{IsRelPath, is_bad_part_lem, has_bad_part_lem, is_bad_byte, has_bad_byte_lem}

-- a byte folds to one that is no letter exactly where it is that one
lower_is : (b c : ℕ) → c < 65 → (to_ascii_lowercase b == c) ≡ (b == c)
lower_is b c small = grind (arith, common_steps)

lower_is_backslash : (b : ℕ) → (to_ascii_lowercase b == 92) ≡ (b == 92)
lower_is_backslash b = grind (arith, common_steps)

lower_is_delete : (b : ℕ) → (to_ascii_lowercase b == 127) ≡ (b == 127)
lower_is_delete b = grind (arith, common_steps)

lower_is_control : (b : ℕ) → nat_lt (to_ascii_lowercase b) 32 ≡ nat_lt b 32
lower_is_control b = grind (arith, common_steps)

bad_byte : (b : ℕ) → is_bad_byte (to_ascii_lowercase b) ≡ is_bad_byte b
bad_byte b = rw (lower_is_backslash b, lower_is_delete b, lower_is_control b) refl

pub bad_bytes : (bs : List ℕ) → has_bad_byte_lem (map to_ascii_lowercase bs) ≡ has_bad_byte_lem bs
bad_bytes [] = refl
bad_bytes (b ∷ bs) = rw (bad_byte b, bad_bytes bs) refl

-- the parts of a folded path are the folded parts
into_first : (b : ℕ) (parts : List (List ℕ)) → onto_first (to_ascii_lowercase b) (map (map to_ascii_lowercase) parts) ≡ map (map to_ascii_lowercase) (onto_first b parts)
into_first b [] = refl
into_first b (part ∷ parts) = refl

parts_by : (test : Bool) (b : ℕ) (parts : List (List ℕ)) →
    cond test ([] ∷ map (map to_ascii_lowercase) parts) (onto_first (to_ascii_lowercase b) (map (map to_ascii_lowercase) parts))
    ≡ map (map to_ascii_lowercase) (cond test ([] ∷ parts) (onto_first b parts))
parts_by true b parts = refl
parts_by false b parts = into_first b parts

parts_fold : (bs : List ℕ) → slice_split (λ b. b == 47) (map to_ascii_lowercase bs) ≡ map (map to_ascii_lowercase) (slice_split (λ b. b == 47) bs)
parts_fold [] = refl
parts_fold (b ∷ bs) = rw (lower_is b 47 (lit< tt), parts_fold bs) (parts_by (b == 47) b (slice_split (λ b. b == 47) bs))

bad_part : (part : List ℕ) → is_bad_part_lem (map to_ascii_lowercase part) ≡ is_bad_part_lem part
bad_part [] = refl
bad_part (a ∷ []) = lower_is a 46 (lit< tt)
bad_part (a ∷ b ∷ []) = rw (lower_is a 46 (lit< tt), lower_is b 46 (lit< tt)) refl
bad_part (a ∷ b ∷ c ∷ part) = refl

any_bad : (parts : List (List ℕ)) → list_any is_bad_part_lem (map (map to_ascii_lowercase) parts) ≡ list_any is_bad_part_lem parts
any_bad [] = refl
any_bad (part ∷ parts) = rw (bad_part part, any_bad parts) refl

pub bad_parts : (bs : List ℕ) → has_bad_part_lem (map to_ascii_lowercase bs) ≡ has_bad_part_lem bs
bad_parts bs = rw (parts_fold bs) (any_bad (slice_split (λ b. b == 47) bs))

some_lower : (bs : List ℕ) → bs ≢ [] → map to_ascii_lowercase bs ≢ []
some_lower [] some none = some refl
some_lower (b ∷ bs) some none = cc

-- the folded text of a path is a path
pub keeps_grammar : (bs folded : List ℕ) → folded ≡ map to_ascii_lowercase bs → IsRelPath bs → IsUtf8 folded → IsRelPath folded
keeps_grammar bs folded is path text =
    record {
      some = rw is (some_lower bs path.some);
      short = rw (is, length-map) path.short;
      text = text;
      parts = rw (is, bad_parts bs) path.parts;
      plain = rw (is, bad_bytes bs) path.plain;
    }
