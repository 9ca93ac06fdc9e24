-- What `parse` reads of the decimals of directives.
use Rattle.std.proofs.Common.{◌≡◌, ◌<◌, ◌≤◌, ◌^◌, ℕ, Bool, true, false, List, [], ◌∷◌, length, Result, Ok, Err, Some, None, inl, inr, refl, arith}
use Rattle.std.specs.Prelude.{MatchResult, not, ◌==◌, nat_le, ◌&&◌, ◌||◌, if◌then◌else◌}
use Rattle.std.specs.List.{list_all}
use Rattle.std.specs.Char.{is_ascii_digit}
use Rattle.std.specs.Str.{IsUtf8}
use Rattle.std.specs.Str.Parse.{digits_value, ParsesUnsigned}
use Rattle.std.proofs.lemmas.Str.Parse.{IsNumeralModel, IsDigitsTest, numerals_by_value, parse_digits}
use Rattle.std.proofs.lemmas.Str.{IsUtf8-from_ascii}
use Rattle.std.proofs.lemmas.Fmt.{IsAscii-from_digits}
use Rattle.std.proofs.lemmas.Bool.{and_parts, and_right, cases_lt}
use Rattle.std.proofs.lemmas.Grind.{common_steps}
use Rattle.std.proofs.Common.{rules}
use Rattle.ap_samples.specs.Numbers.{is_decimal_lem, number_within}

tells : IsDigitsTest (λ ds. list_all is_ascii_digit ds ≡ true)
tells = search rules

own : IsNumeralModel (λ ds. list_all is_ascii_digit ds ≡ true) (digits_value 10)
own = numerals_by_value (λ ds. list_all is_ascii_digit ds ≡ true) tells

pub digits_in : (text : List ℕ) → is_decimal_lem text ≡ true → list_all is_ascii_digit text ≡ true
digits_in [] e = cc
digits_in (c ∷ cs) e = (and_parts (list_all is_ascii_digit (c ∷ cs)) (not (c == 48) || length cs == 0) e).0

pub some_in : (text : List ℕ) → is_decimal_lem text ≡ true → 0 < length text
some_in [] e = cc
some_in (c ∷ cs) e = omega arith

pub is_text : (text : List ℕ) → is_decimal_lem text ≡ true → IsUtf8 text
is_text text e = IsUtf8-from_ascii text (IsAscii-from_digits text (own.to text (digits_in text e)))

-- what is answered where `parse` reads a number, and where it doesn't
pub told : {E : Type 0} (least most : ℕ) (text : List ℕ) (r : Result ℕ E) → is_decimal_lem text ≡ true → most < 2 ^ 32 → ParsesUnsigned 32 10 text r →
    MatchResult r (λ n. (if nat_le least n && nat_le n most then Some n else None) ≡ number_within least most text) (λ _. None ≡ number_within least most text)
told {E} least most text (Ok n) e h parses =
    let is : n ≡ digits_value 10 text = (parse_digits own {E = E} 32 text (Ok n) parses (digits_in text e)).1 in
    rw e (rw is refl)
told {E} least most text (Err x) e h parses = elim (cases_lt (digits_value 10 text) (2 ^ 32)) [
  | inl below ↦ absurd (parse_digits own {E = E} 32 text (Err x) parses (digits_in text e) (some_in text e, below))
  | inr above ↦
      let past : nat_le (digits_value 10 text) most ≡ false = grind (arith, common_steps) in
      let none : (is_decimal_lem text && nat_le least (digits_value 10 text) && nat_le (digits_value 10 text) most) ≡ false =
      and_right (is_decimal_lem text && nat_le least (digits_value 10 text)) (nat_le (digits_value 10 text) most) past in
      rw none refl
]
