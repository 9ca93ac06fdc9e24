-- What some patterns match, by the definition.
use Rattle.std.proofs.Common.{◌≡◌, true, false, [], ◌∷◌, refl}
use Rattle.std.specs.Prelude.{codes}
use Rattle.std.specs.Str.{chars}
use Rattle.ap_text.specs.Wild.{wild_lem}

run_with_a_slash : wild_lem (codes "*.mat") (codes "a/b.MAT") ≡ true
unfolding chars
run_with_a_slash = refl

-- one character of two bytes
one_character : wild_lem (codes "a?c") (97 ∷ 195 ∷ 169 ∷ 99 ∷ []) ≡ true
unfolding chars
one_character = refl

no_character : wild_lem (codes "a?c") (codes "ac") ≡ false
unfolding chars
no_character = refl

nothing_in_two_runs : wild_lem (codes "**") [] ≡ true
unfolding chars
nothing_in_two_runs = refl

nothing : wild_lem [] [] ≡ true
unfolding chars
nothing = refl

-- a run takes the first `b` where a later one is needed
second_place : wild_lem (codes "*ab") (codes "abcab") ≡ true
unfolding chars
second_place = refl
