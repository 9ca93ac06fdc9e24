-- The tests of paths and names mean what their grammars say.
use Rattle.std.proofs.Common.{◌≡◌, ◌≢◌, ◌≤◌, ℕ, Bool, true, false, not, ◌==◌, leb, List, [], ◌∷◌, length, Result, Ok, Err, MatchResult, is_ok, refl, sym, ⊎_elim, arith}
use Rattle.std.specs.Bool.{Decides}
use Rattle.std.specs.List.{list_all}
use Rattle.std.specs.Str.{is_utf8, IsUtf8}
use Rattle.std.proofs.lemmas.Str.{IsUtf8-from_is_utf8, is_utf8-from_IsUtf8}
use Rattle.std.proofs.lemmas.Bool.Decides.{Decides-and, Decides-like, leb_tells, nat_tests}
use Rattle.ap_text.specs.PathRules.{IsRelPath, has_bad_part_lem, has_bad_byte_lem, is_rel_path}
use Rattle.ap_text.specs.PathReading.{IsFirstBroken}
use Rattle.ap_text.specs.declared.path.PathFault.{PathFault}
use Rattle.ap_text.specs.declared.path.PathFault.TheVariants.{Empty, TooLong, NotUtf8, BadPart, BadByte, OutOfMemory}
use Rattle.ap_text.specs.NameRules.{IsName, IsPlatform, IsFileName, is_name_byte_lem, is_platform_byte_lem, is_file_name_byte_lem, is_dots_lem, is_name, is_platform, is_file_name}

some : (bytes : List ℕ) → Decides (not (length bytes == 0)) (bytes ≢ [])
some [] = (λ t. absurd (cc), λ h. absurd (h refl))
some (b ∷ bytes) = (λ t e. cc, λ h. grind (arith, nat_tests))

short : (n most : ℕ) → Decides (leb n most) (n ≤ most)
short n most = ⊎_elim (λ h. (λ t. h.1, λ l. h.0)) (λ h. (λ t. absurd (cc), λ l. absurd (omega (arith, h.1)))) (leb_tells n most)

whether : (b : Bool) → Decides b (b ≡ true)
whether b = (λ t. t, λ t. t)

fails : (b : Bool) → Decides (not b) (b ≡ false)
fails true = (λ t. cc, λ t. cc)
fails false = (λ t. refl, λ t. refl)

text : (bytes : List ℕ) → Decides (is_utf8 bytes) (IsUtf8 bytes)
text bytes = (IsUtf8-from_is_utf8 bytes, is_utf8-from_IsUtf8 bytes)

pub name-Decides : (bytes : List ℕ) → Decides (is_name bytes) (IsName bytes)
unfolding is_name
name-Decides bytes = Decides-like _ (λ p. record { some = p.0.0; short = p.0.1; plain = p.1 }) (λ h. ((h.some, h.short), h.plain))
    (Decides-and _ _ (Decides-and _ _ (some bytes) (short (length bytes) 32)) (whether (list_all is_name_byte_lem bytes)))

pub platform-Decides : (bytes : List ℕ) → Decides (is_platform bytes) (IsPlatform bytes)
unfolding is_platform
platform-Decides bytes = Decides-like _ (λ p. record { some = p.0.0; short = p.0.1; plain = p.1 }) (λ h. ((h.some, h.short), h.plain))
    (Decides-and _ _ (Decides-and _ _ (some bytes) (short (length bytes) 16)) (whether (list_all is_platform_byte_lem bytes)))

pub file_name-Decides : (bytes : List ℕ) → Decides (is_file_name bytes) (IsFileName bytes)
unfolding is_file_name
file_name-Decides bytes = Decides-like _
    (λ p. record { some = p.0.0.0.0; short = p.0.0.0.1; named = p.0.0.1; plain = p.0.1; text = p.1 })
    (λ h. ((((h.some, h.short), h.named), h.plain), h.text))
    (Decides-and _ _ (Decides-and _ _ (Decides-and _ _ (Decides-and _ _ (some bytes) (short (length bytes) 255)) (fails (is_dots_lem bytes)))
    (whether (list_all is_file_name_byte_lem bytes))) (text bytes))

pub path-Decides : (bytes : List ℕ) → Decides (is_rel_path bytes) (IsRelPath bytes)
unfolding is_rel_path
path-Decides bytes = Decides-like _
    (λ p. record { some = p.0.0.0.0; short = p.0.0.0.1; text = p.0.0.1; parts = p.0.1; plain = p.1 })
    (λ h. ((((h.some, h.short), h.text), h.parts), h.plain))
    (Decides-and _ _ (Decides-and _ _ (Decides-and _ _ (Decides-and _ _ (some bytes) (short (length bytes) 240)) (text bytes))
    (fails (has_bad_part_lem bytes))) (fails (has_bad_byte_lem bytes)))

-- a test that doesn't hold of what it decides is false
pub refused : {P : Type 0} → (r : Bool) → Decides r P → (P → ⊥) → r ≡ false
refused {P} r d never = step r d never
  where
    step : (b : Bool) → Decides b P → (P → ⊥) → b ≡ false
    step true e f = absurd (f (e.0 refl))
    step false e f = refl

-- bytes that break a rule are no path
pub broken : (bytes : List ℕ) (fault : PathFault) → IsFirstBroken bytes fault → fault ≢ OutOfMemory → IsRelPath bytes → ⊥
broken bytes OutOfMemory h other p = other refl
broken bytes Empty h other p = p.some h
broken bytes TooLong h other p = let short = p.short in omega arith
broken bytes NotUtf8 h other p = h.2 p.text
broken bytes BadPart h other p = let good = p.parts in let bad = h.3 in absurd (cc)
broken bytes BadByte h other p = let good = p.plain in let bad = h.4 in absurd (cc)

-- bytes that are read as text are text
pub text-read : {S E : Type 0} (P : S → Type 0) (Q : E → Type 0) (read : Result S E) (bytes : List ℕ) → MatchResult read (λ s. P s × IsUtf8 bytes) (λ e. (¬ IsUtf8 bytes) × Q e) → is_ok read ≡ is_utf8 bytes
text-read P Q (Ok s) bytes h = sym (is_utf8-from_IsUtf8 bytes h.1)
text-read P Q (Err e) bytes h = sym (refused (is_utf8 bytes) (text bytes) h.0)
