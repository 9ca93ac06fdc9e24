-- A path is folded exactly where folding leaves it as it is.
use Rattle.std.specs.Prelude.{◌≡◌, ℕ, Bool, true, false, not, ◌&&◌, nat_le, List, [], ◌∷◌, refl}
use Rattle.std.specs.List.{list_all}
use Rattle.std.specs.Char.{to_ascii_lowercase}
use Rattle.std.specs.Str.{str_to_ascii_lowercase}
use Rattle.std.proofs.Common.{ap, ◌∙◌, arith}
use Rattle.std.proofs.lemmas.Grind.{common_steps}
use Rattle.ap_rows.specs.Readers.{is_folded}

-- no upper-case letter of ASCII
abbrev is_no_capital : ℕ → Bool
is_no_capital b = not (nat_le 65 b && nat_le b 90)

stays : (b : ℕ) → is_no_capital b ≡ true → to_ascii_lowercase b ≡ b
stays b h = grind (arith, common_steps)

no_capital : (b : ℕ) → to_ascii_lowercase b ≡ b → is_no_capital b ≡ true
no_capital b h = grind (arith, common_steps)

falls : (b : ℕ) → is_no_capital (to_ascii_lowercase b) ≡ true
falls b = grind (arith, common_steps)

both : (a b : Bool) → (a && b) ≡ true → (a ≡ true) × (b ≡ true)
both true true h = (refl, refl)
both true false h = absurd (cc)
both false b h = absurd (cc)

heads : (a b : ℕ) (xs ys : List ℕ) → (a ∷ xs) ≡ (b ∷ ys) → (a ≡ b) × (xs ≡ ys)
heads a b xs ys e = (cc, cc)

pub folded_stays : (path : List ℕ) → is_folded path ≡ true → str_to_ascii_lowercase path ≡ path
unfolding is_folded
folded_stays [] h = refl
folded_stays (b ∷ path) h =
    let parts = both (is_no_capital b) (list_all is_no_capital path) h in
    ap (λ c. c ∷ str_to_ascii_lowercase path) (stays b parts.0) ∙ ap (λ more. b ∷ more) (folded_stays path parts.1)

pub folded_where_it_stays : (path : List ℕ) → str_to_ascii_lowercase path ≡ path → is_folded path ≡ true
unfolding is_folded
folded_where_it_stays [] h = refl
folded_where_it_stays (b ∷ path) h =
    let parts = heads (to_ascii_lowercase b) b (str_to_ascii_lowercase path) path h in
    ap (λ c. c && list_all is_no_capital path) (no_capital b parts.0) ∙ folded_where_it_stays path parts.1

-- what folding gives is folded
pub fold_gives_folded : (path : List ℕ) → is_folded (str_to_ascii_lowercase path) ≡ true
unfolding is_folded
fold_gives_folded [] = refl
fold_gives_folded (b ∷ path) = ap (λ c. c && is_folded (str_to_ascii_lowercase path)) (falls b) ∙ fold_gives_folded path
