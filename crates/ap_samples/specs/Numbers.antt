-- The numbers of directives.
use Rattle.std.specs.Prelude.{◌≡◌, ℕ, ℤ, pos, neg_ℤ, Bool, false, not, ◌==◌, ◌&&◌, ◌||◌, nat_le, List, [], ◌∷◌, length, Option, Some, None, option_map, if◌then◌else◌}
use Rattle.std.specs.List.{list_all}
use Rattle.std.specs.Char.{is_ascii_digit}
use Rattle.std.specs.Str.Parse.{digits_value}

-- digits without a leading zero, or 0 alone
abbrev pub is_decimal_lem : List ℕ → Bool
is_decimal_lem [] = false
is_decimal_lem (first ∷ others) = list_all is_ascii_digit (first ∷ others) && (not (first == 48) || length others == 0)

-- the number from the least to the most one that a decimal spells
abbrev pub number_within : ℕ → ℕ → List ℕ → Option ℕ
number_within least most text =
    if is_decimal_lem text && nat_le least (digits_value 10 text) && nat_le (digits_value 10 text) most then Some (digits_value 10 text) else None

-- a number from -2,147,483,648 to 2,147,483,647: a decimal, or one other than 0 behind 45, `-`
abbrev pub signed_number_lem : List ℕ → Option ℤ
signed_number_lem [] = None
signed_number_lem (first ∷ others) =
    if first == 45 then option_map (λ n. neg_ℤ (pos n)) (number_within 1 2147483648 others)
    else option_map (λ n. pos n) (number_within 0 2147483647 (first ∷ others))
