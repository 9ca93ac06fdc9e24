-- A sink that gains one text and then another.
use Rattle.std.proofs.Common.{◌≡◌, ◌≤◌, ◌+◌, ◌-◌, length-append, length-take-le, ℕ, List, [], ◌++◌, length, take, drop, refl, sym, ◌∙◌, ap, arith, append_assoc}
use Rattle.std.proofs.lemmas.List.{append-nil, take_rest, take-append-drop, take_at}
use Rattle.std.specs.Prelude.{Option, Some, None, Result, Ok, Err, OnOk, OnErr}
use Rattle.std.proofs.Math.Seq.{take-length}
use Rattle.ap_tree.specs.Written.{Gains}
use Rattle.ap_cli.specs.Output.{GainsFront}

pub Gains-then : (a b c : Option (List ℕ)) (xs ys : List ℕ) → Gains a b xs → Gains b c ys → Gains a c (xs ++ ys)
Gains-then None None None xs ys p q = tt
Gains-then None None (Some c) xs ys p q = q
Gains-then None (Some b) c xs ys p q = absurd p
Gains-then (Some a) None c xs ys p q = absurd p
Gains-then (Some a) (Some b) None xs ys p q = absurd q
Gains-then (Some a) (Some b) (Some c) xs ys p q = q ∙ ap (λ (l : List ℕ). l ++ ys) p ∙ append_assoc a xs ys

pub Gains-nothing : (a : Option (List ℕ)) → Gains a a []
Gains-nothing None = tt
Gains-nothing (Some a) = grind (arith, append-nil)

pub split_more : (done rest text : List ℕ) (count : ℕ) → done ++ rest ≡ text → (done ++ take count rest) ++ take (length rest - count) (drop count rest) ≡ text
split_more done rest text count split = rw (take_rest rest count, append_assoc, take-append-drop) split

pub front_so_far : (a b c : Option (List ℕ)) (done rest text : List ℕ) → done ++ rest ≡ text → Gains a b done → c ≡ b → GainsFront a c text
front_so_far a b c done rest text split gained same = rw same (at_that a b gained)
  where
    front : done ≡ take (length done) text
    front = rw (← split) (sym (take_at done rest (length done) refl))

    at_that : (a b : Option (List ℕ)) → Gains a b done → GainsFront a b text
    at_that None None p = tt
    at_that None (Some b) p = p
    at_that (Some a) None p = p
    at_that (Some a) (Some b) p = (length done, p ∙ ap (λ (l : List ℕ). a ++ l) front)

whole_front : (a b : Option (List ℕ)) (text : List ℕ) → Gains a b text → GainsFront a b text
whole_front None None text p = tt
whole_front None (Some b) text p = p
whole_front (Some a) None text p = p
whole_front (Some a) (Some b) text p = (length text, p ∙ ap (λ (l : List ℕ). a ++ l) (sym (take-length text)))

-- a text that was written whole or in part was written as far as some front
pub front_either_way : {E : Type 0} (a b : Option (List ℕ)) (text : List ℕ) (result : Result (Unit {0}) E) →
    OnOk result (Gains a b text) → OnErr result (GainsFront a b text) → GainsFront a b text
front_either_way a b text (Ok u) whole front = whole_front a b text whole
front_either_way a b text (Err e) whole front = front

-- the room after some bytes more
pub room_left : (done rest : List ℕ) (count start room now : ℕ) → start ≤ room + length done → room ≤ now + count → count ≤ length rest → start ≤ now + length (done ++ take count rest)
room_left done rest count start room now left taken bound =
    rw (length-append done (take count rest), length-take-le count rest bound) (omega arith)
