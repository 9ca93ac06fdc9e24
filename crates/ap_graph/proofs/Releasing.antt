-- Jobs that wait for one less, and who can start then.
use Rattle.std.proofs.Common.{◌≡◌, ◌≢◌, ◌<◌, ◌≤◌, ◌+◌, ◌-◌, ◌==◌, ℕ, zero, suc, Bool, true, false, cond, List, [], ◌∷◌, length, set, get_or, take, sym, ◌∙◌, ap, subst, arith, inl, inr, ◌⊎◌, All, length-set}
use Rattle.std.proofs.lemmas.List.{get_or-set_same, get_or-set_other, take_more}
use Rattle.std.proofs.lemmas.Bool.{cases_eq}
use Rattle.ap_graph.specs.declared.node.Progress.{Progress}
use Rattle.ap_graph.specs.declared.node.Progress.TheVariants.{Pending}
use Rattle.ap_graph.specs.Contest.{Contest}
use Rattle.ap_graph.specs.Rows.{count_of}
use Rattle.ap_graph.specs.Held.{can_start, MatchesWaits}
use Rattle.ap_graph.proofs.RowFacts.{count_of-push, count_of-same, count_of-other}

-- the places below one take part as they stand
pub record Entering (progress : List Progress) (waiting : List ℕ) (place : ℕ) (old new : Contest) : Type 0 where
  pub priorities : new.priorities ≡ old.priorities
  pub places : length new.entered ≡ length waiting
  pub each : (i : ℕ) → i < place → get_or new.entered i false ≡ can_start (get_or progress i Pending) (get_or waiting i 0)

-- after a change at one place
pub changed_at : (entered entered' : List Bool) (place : ℕ) (t : Bool) → place < length entered → entered' ≡ set entered place t → (i : ℕ) (b : Bool) → (i ≡ place → b ≡ t) → (i ≢ place → get_or entered i false ≡ b) → get_or entered' i false ≡ b
changed_at entered entered' place t within is i b same other = ap (λ (l : List Bool). get_or l i false) is ∙ by_case (cases_eq i place)
  where
    by_case : (i ≡ place) ⊎ (i ≡ place → ⊥) → get_or (set entered place t) i false ≡ b
    by_case (inl e) = ap (λ (w : ℕ). get_or (set entered place t) w false) e ∙ get_or-set_same entered place t false within ∙ sym (same e)
    by_case (inr differs) = get_or-set_other entered place i t false differs ∙ other differs

pub entering_more : (progress : List Progress) (waiting : List ℕ) (place : ℕ) (old mid new : Contest) → place < length waiting →
    new ≡ record mid { entered = set mid.entered place (can_start (get_or progress place Pending) (get_or waiting place 0)) } → Entering progress waiting place old mid → Entering progress waiting (place + 1) old new
entering_more progress waiting place old mid new within is e = record {
  priorities = ap (λ (v : Contest). v.priorities) is ∙ e.priorities;
  places = ap (λ (v : Contest). length v.entered) is ∙ length-set mid.entered place (can_start (get_or progress place Pending) (get_or waiting place 0)) ∙ e.places;
  each = λ i below. changed_at mid.entered new.entered place (can_start (get_or progress place Pending) (get_or waiting place 0)) (omega (arith, e.places)) (ap (λ (v : Contest). v.entered) is) i
      (can_start (get_or progress i Pending) (get_or waiting i 0)) (λ same. ap (λ (w : ℕ). can_start (get_or progress w Pending) (get_or waiting w 0)) same) (λ differs. e.each i (omega arith));
}

-- so many were released
pub record Released (progress : List Progress) (done : List ℕ) (waiting0 waiting : List ℕ) (old new : Contest) : Type 0 where
  pub places : length waiting ≡ length waiting0
  pub waits : (i : ℕ) → i < length waiting0 → get_or waiting i 0 + count_of i done ≡ get_or waiting0 i 0
  pub priorities : new.priorities ≡ old.priorities
  pub matches : MatchesWaits progress waiting new.entered

count_of-take : (x : ℕ) (xs : List ℕ) (i : ℕ) → i < length xs → count_of x (take (i + 1) xs) ≡ count_of x (take i xs) + count_of x (get_or xs i 0 ∷ [])
count_of-take x xs i within = ap (count_of x) (take_more xs i 0 within) ∙ count_of-push x (get_or xs i 0) (take i xs)

count_of-take-le : (x : ℕ) (xs : List ℕ) (i : ℕ) → count_of x (take i xs) ≤ count_of x xs
count_of-take-le x [] zero = omega arith
count_of-take-le x [] (suc i) = omega arith
count_of-take-le x (y ∷ ys) zero = by_case (y == x)
  where
    by_case : (t : Bool) → 0 ≤ cond t (1 + count_of x ys) (count_of x ys)
    by_case t = omega arith
count_of-take-le x (y ∷ ys) (suc i) = by_case (y == x) (count_of-take-le x ys i)
  where
    by_case : (t : Bool) → count_of x (take i ys) ≤ count_of x ys → cond t (1 + count_of x (take i ys)) (count_of x (take i ys)) ≤ cond t (1 + count_of x ys) (count_of x ys)
    by_case true h = omega (arith, h)
    by_case false h = h

-- the next one still waits for something
pub still_waits : (progress : List Progress) (dependents waiting0 waiting : List ℕ) (old new : Contest) (i : ℕ) → i < length dependents → All (λ place. place < length waiting0) dependents →
    ((k : ℕ) → k < length waiting0 → count_of k dependents ≤ get_or waiting0 k 0) → Released progress (take i dependents) waiting0 waiting old new → 1 ≤ get_or waiting (get_or dependents i 0) 0
still_waits progress dependents waiting0 waiting old new i within inside enough r =
    let place : ℕ = get_or dependents i 0 in
    let in' : get_or dependents i 0 < length waiting0 = inside i 0 within in
    let one : count_of (get_or dependents i 0) (get_or dependents i 0 ∷ []) ≡ 1 + 0 = count_of-same (get_or dependents i 0) [] in
    omega (arith, one, count_of-take (get_or dependents i 0) dependents i within, count_of-take-le (get_or dependents i 0) dependents (i + 1), enough (get_or dependents i 0) in', r.waits (get_or dependents i 0) in')

pub released_more : (progress : List Progress) (dependents waiting0 waiting waiting' : List ℕ) (old mid new : Contest) (i : ℕ) → i < length dependents → All (λ place. place < length waiting0) dependents →
    1 ≤ get_or waiting (get_or dependents i 0) 0 → waiting' ≡ set waiting (get_or dependents i 0) (get_or waiting (get_or dependents i 0) 0 - 1) →
    new ≡ record mid { entered = set mid.entered (get_or dependents i 0) (can_start (get_or progress (get_or dependents i 0) Pending) (get_or waiting' (get_or dependents i 0) 0)) } →
    Released progress (take i dependents) waiting0 waiting old mid → Released progress (take (i + 1) dependents) waiting0 waiting' old new
released_more progress dependents waiting0 waiting waiting' old mid new i within inside some is is_new r = record {
  places = ap length is ∙ length-set waiting place (get_or waiting place 0 - 1) ∙ r.places;
  waits = λ k in_k. waits k in_k (cases_eq k (get_or dependents i 0));
  priorities = ap (λ (v : Contest). v.priorities) is_new ∙ r.priorities;
  matches = record {
    places = ap (λ (v : Contest). length v.entered) is_new ∙ length-set mid.entered place (can_start (get_or progress place Pending) (get_or waiting' place 0)) ∙ r.matches.places ∙ sym (ap length is ∙ length-set waiting place (get_or waiting place 0 - 1));
    each = λ k in_k. changed_at mid.entered new.entered place (can_start (get_or progress place Pending) (get_or waiting' place 0)) (omega (arith, r.matches.places, in_waiting)) (ap (λ (v : Contest). v.entered) is_new) k
        (can_start (get_or progress k Pending) (get_or waiting' k 0)) (λ same. ap (λ (w : ℕ). can_start (get_or progress w Pending) (get_or waiting' w 0)) same)
        (λ differs. r.matches.each k (omega (arith, in_k, ap length is, length-set waiting place (get_or waiting place 0 - 1))) ∙ ap (can_start (get_or progress k Pending)) (sym (other k differs)));
  };
}
  where
    place : ℕ
    place = get_or dependents i 0

    in_waiting : get_or dependents i 0 < length waiting
    in_waiting = omega (arith, inside i 0 within, r.places)

    here : get_or waiting' (get_or dependents i 0) 0 ≡ get_or waiting (get_or dependents i 0) 0 - 1
    here = ap (λ (l : List ℕ). get_or l (get_or dependents i 0) 0) is ∙ get_or-set_same waiting (get_or dependents i 0) (get_or waiting (get_or dependents i 0) 0 - 1) 0 in_waiting

    other : (k : ℕ) → k ≢ get_or dependents i 0 → get_or waiting' k 0 ≡ get_or waiting k 0
    other k differs = ap (λ (l : List ℕ). get_or l k 0) is ∙ get_or-set_other waiting (get_or dependents i 0) k (get_or waiting (get_or dependents i 0) 0 - 1) 0 differs

    waits : (k : ℕ) → k < length waiting0 → (k ≡ get_or dependents i 0) ⊎ (k ≡ get_or dependents i 0 → ⊥) → get_or waiting' k 0 + count_of k (take (i + 1) dependents) ≡ get_or waiting0 k 0
    waits k in_k (inl e) =
        let one : count_of (get_or dependents i 0) (get_or dependents i 0 ∷ []) ≡ 1 + 0 = count_of-same (get_or dependents i 0) [] in
        subst (λ (w : ℕ). get_or waiting' w 0 + count_of w (take (i + 1) dependents) ≡ get_or waiting0 w 0) (sym e)
        (omega (arith, one, here, some, count_of-take (get_or dependents i 0) dependents i within, r.waits (get_or dependents i 0) (inside i 0 within)))
    waits k in_k (inr differs) =
        let none : count_of k (get_or dependents i 0 ∷ []) ≡ 0 = count_of-other k (get_or dependents i 0) [] (λ e. differs (sym e)) in
        omega (arith, none, other k differs, count_of-take k dependents i within, r.waits k in_k)
