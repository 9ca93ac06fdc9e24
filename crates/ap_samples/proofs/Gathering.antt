-- Steps of the loops that gather what each of some items gives.
use Rattle.std.proofs.Common.{◌≡◌, ◌++◌, ◌∙◌, List, [], ◌∷◌, Some, None, Option, refl, sym, ap, append_assoc}
use Rattle.std.specs.Prelude.{option_to_list}
use Rattle.std.specs.List.{filter_map, cons_option}

onto : {Y : Type 0} (o : Option Y) (ys : List Y) → cons_option o ys ≡ option_to_list o ++ ys
onto None ys = refl
onto (Some y) ys = refl

-- what the first item gives was appended to what was gathered
pub gathers : {X Y : Type 0} (f : X → Option Y) (done now all : List Y) (rest : List X) (x : X) (xs : List X) → rest ≡ x ∷ xs → now ≡ done ++ option_to_list (f x) →
    done ++ filter_map f rest ≡ all → now ++ filter_map f xs ≡ all
gathers f done now all rest x xs e pushed before =
    rw pushed (append_assoc done (option_to_list (f x)) (filter_map f xs) ∙ (ap (λ ys. done ++ ys) (sym (onto (f x) (filter_map f xs))) ∙ (ap (λ xs. done ++ filter_map f xs) (sym e) ∙ before)))
