-- The tests of paths and patterns, beside the grammars that they test.
use Rattle.std.proofs.Common.{◌≡◌, ◌≢◌, ℕ, Bool, true, false, not, List, [], ◌∷◌, length, Ok, Err, refl, sym, ap, ◌∙◌, arith}
use Rattle.std.specs.Prelude.{◌&&◌, ◌==◌, nat_le}
use Rattle.std.specs.Str.{IsUtf8, is_utf8}
use Rattle.std.proofs.lemmas.Str.{is_utf8-from_IsUtf8, IsUtf8-from_is_utf8}
use Rattle.std.proofs.lemmas.Grind.{common_steps}
use Rattle.std.proofs.lemmas.Bool.{le-leb, lt-leb, ne_eqb, false_from_ne_true, not_from_false}
use Rattle.ap_text.specs.PathRules.{IsRelPath, has_bad_part_lem, has_bad_byte_lem}
use Rattle.ap_text.specs.PathReading.{IsFirstBroken}
use Rattle.ap_text.specs.declared.path.PathFault.{PathFault}
use Rattle.ap_text.specs.declared.path.PathFault.TheVariants.{Empty, TooLong, NotUtf8, BadPart, BadByte, OutOfMemory}
use Rattle.ap_config.specs.declared.fault.ConfigFault.TheVariants.{BadPath}
use Rattle.ap_config.specs.Configuration.{next, passes, is_path, is_pattern_lem}

some_bytes : (bs : List ℕ) → bs ≢ [] → not (length bs == 0) ≡ true
some_bytes [] some = absurd (some refl)
some_bytes (b ∷ bs) some = not_from_false (length (b ∷ bs) == 0) (ne_eqb (length (b ∷ bs)) 0 (omega arith))

no_text : (bs : List ℕ) → ¬ IsUtf8 bs → is_utf8 bs ≡ false
no_text bs none = false_from_ne_true (is_utf8 bs) (λ h. none (IsUtf8-from_is_utf8 bs h))

pub path-accepted : (bs : List ℕ) → IsRelPath bs → is_path bs ≡ true
path-accepted bs path = rw (some_bytes bs path.some, le-leb (length bs) 240 path.short, is_utf8-from_IsUtf8 bs path.text, path.parts, path.plain)

second : (a b c d : Bool) → (a && false && b && c && d) ≡ false
second a b c d = grind (arith, common_steps)

third : (a b c d : Bool) → (a && b && false && c && d) ≡ false
third a b c d = grind (arith, common_steps)

fourth : (a b c d : Bool) → (a && b && c && false && d) ≡ false
fourth a b c d = grind (arith, common_steps)

fifth : (a b c d : Bool) → (a && b && c && d && false) ≡ false
fifth a b c d = grind (arith, common_steps)

pub path-refused : (bs : List ℕ) (fault : PathFault) → fault ≢ OutOfMemory → IsFirstBroken bs fault → is_path bs ≡ false
path-refused bs OutOfMemory ne broken = absurd (ne refl)
path-refused bs Empty ne broken = rw broken
path-refused bs TooLong ne broken = rw (lt-leb (length bs) 240 broken) (second (not (length bs == 0)) (is_utf8 bs) (not (has_bad_part_lem bs)) (not (has_bad_byte_lem bs)))
path-refused bs NotUtf8 ne broken = rw (no_text bs broken.2) (third (not (length bs == 0)) (nat_le (length bs) 240) (not (has_bad_part_lem bs)) (not (has_bad_byte_lem bs)))
path-refused bs BadPart ne broken = rw broken.3 (fourth (not (length bs == 0)) (nat_le (length bs) 240) (is_utf8 bs) (not (has_bad_byte_lem bs)))
path-refused bs BadByte ne broken = rw broken.4 (fifth (not (length bs == 0)) (nat_le (length bs) 240) (is_utf8 bs) (not (has_bad_part_lem bs)))

-- what is answered for a path that is refused
pub path-fault : (bs read : List ℕ) (fault : PathFault) → read ≡ bs → fault ≢ OutOfMemory → IsFirstBroken read fault →
    next (passes (not (is_path bs)) (BadPath bs)) (λ _. Ok bs) ≡ Err (BadPath bs)
path-fault bs read fault same ne broken = ap (λ b. next (passes (not b) (BadPath bs)) (λ _. Ok bs)) (ap is_path (sym same) ∙ path-refused read fault ne broken)

-- a text that isn't empty is a pattern where it is short
pub pattern-text : (bs : List ℕ) → IsUtf8 bs → (length bs == 0) ≡ false → nat_le (length bs) 240 ≡ is_pattern_lem bs
pattern-text bs text some = rw (some, is_utf8-from_IsUtf8 bs text) (by_cases (nat_le (length bs) 240))
  where
    by_cases : (b : Bool) → b ≡ ((true && b) && true)
    by_cases true = refl
    by_cases false = refl
