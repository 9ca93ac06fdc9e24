-- Lists of jobs that depend on nothing, and of which no two have one key and platform.
use Rattle.std.proofs.Common.{◌≡◌, ◌&&◌, ◌||◌, ℕ, Bool, true, false, cond, not, List, [], ◌∷◌, Some, None, refl, sym, ◌∙◌, ap}
use Rattle.std.specs.Prelude.{bytes_eq}
use Rattle.std.specs.List.{AllByRecursion, list_any}
use Rattle.std.proofs.lemmas.Slice.Eq.{bytes_eq-Decides}
use Rattle.ap_rows.specs.declared.job.DependencyRow.{DependencyRow}
use Rattle.ap_rows.specs.declared.job.JobDesc.{JobDesc}
use Rattle.ap_rows.specs.declared.job.Created.TheVariants.{DuplicateKey}
use Rattle.ap_create.specs.Creation.{same_slot, first_duplicate}
use Rattle.ap_engine.specs.Asked.{are_none, all_free, all_apart}

both_hold : (a b : Bool) → (a && b) ≡ true → (a ≡ true) × (b ≡ true)
both_hold true b e = (refl, e)
both_hold false b e = absurd (cc e)

neither_holds : (a b : Bool) → (a || b) ≡ false → (a ≡ false) × (b ≡ false)
neither_holds true b e = absurd (cc e)
neither_holds false b e = (refl, e)

not_so : (a : Bool) → not a ≡ true → a ≡ false
not_so true e = absurd (cc e)
not_so false e = refl

-- ---- jobs that depend on nothing

there_are_none : (deps : List DependencyRow) → are_none deps ≡ true → deps ≡ []
there_are_none [] e = refl
there_are_none (dep ∷ deps) e = absurd (cc e)

pub each_is_free : (jobs : List JobDesc) → all_free jobs ≡ true → AllByRecursion (λ job. job.deps ≡ []) jobs
each_is_free [] e = tt
each_is_free (job ∷ jobs) e = let both = both_hold (are_none job.deps) (all_free jobs) e in (there_are_none job.deps both.0, each_is_free jobs both.1)

pub all_are_free : (jobs : List JobDesc) → AllByRecursion (λ job. job.deps ≡ []) jobs → all_free jobs ≡ true
all_are_free [] free = refl
all_are_free (job ∷ jobs) free = λ i. are_none (free.0 i) && all_are_free jobs free.1 i

-- ---- keys and platforms

same_bytes : (a b : List ℕ) → bytes_eq a b ≡ bytes_eq b a
same_bytes a b = by_case (bytes_eq a b) (bytes_eq b a) refl refl
  where
    by_case : (s t : Bool) → bytes_eq a b ≡ s → bytes_eq b a ≡ t → bytes_eq a b ≡ bytes_eq b a
    by_case true true e f = e ∙ sym f
    by_case false false e f = e ∙ sym f
    by_case true false e f = absurd (cc (sym f ∙ (bytes_eq-Decides b a).1 (sym ((bytes_eq-Decides a b).0 e))))
    by_case false true e f = absurd (cc (sym e ∙ (bytes_eq-Decides a b).1 (sym ((bytes_eq-Decides b a).0 f))))

either_way : (a b : JobDesc) → same_slot a b ≡ same_slot b a
either_way a b = λ i. same_bytes a.key b.key i && same_bytes a.platform b.platform i

-- none of the jobs has the key and platform of one of those before
abbrev AreApartFrom : List JobDesc → List JobDesc → Type 0
AreApartFrom earlier jobs = AllByRecursion (λ job. list_any (same_slot job) earlier ≡ false) jobs

without_one : (job : JobDesc) (earlier jobs : List JobDesc) → AreApartFrom (job ∷ earlier) jobs → AreApartFrom earlier jobs × (list_any (same_slot job) jobs ≡ false)
without_one job earlier [] from = (tt, refl)
without_one job earlier (other ∷ jobs) from =
    let here = neither_holds (same_slot other job) (list_any (same_slot other) earlier) from.0 in
    let more = without_one job earlier jobs from.1 in
    ((here.1, more.0), (λ i. (either_way job other ∙ here.0) i || more.1 i))

with_one : (job : JobDesc) (earlier jobs : List JobDesc) → AreApartFrom earlier jobs → list_any (same_slot job) jobs ≡ false → AreApartFrom (job ∷ earlier) jobs
with_one job earlier [] from e = tt
with_one job earlier (other ∷ jobs) from e =
    let here = neither_holds (same_slot job other) (list_any (same_slot job) jobs) e in
    ((λ i. (either_way other job ∙ here.0) i || from.0 i), with_one job earlier jobs from.1 here.1)

none_twice : (earlier jobs : List JobDesc) → AreApartFrom earlier jobs → all_apart jobs ≡ true → first_duplicate earlier jobs ≡ None
none_twice earlier [] from e = refl
none_twice earlier (job ∷ jobs) from e =
    let both = both_hold (not (list_any (same_slot job) jobs)) (all_apart jobs) e in
    ap (λ b. cond b (Some (DuplicateKey job.key job.platform)) (first_duplicate (job ∷ earlier) jobs)) from.0
    ∙ none_twice (job ∷ earlier) jobs (with_one job earlier jobs from.1 (not_so (list_any (same_slot job) jobs) both.0)) both.1

apart_then : (earlier jobs : List JobDesc) → first_duplicate earlier jobs ≡ None → AreApartFrom earlier jobs × (all_apart jobs ≡ true)
apart_then earlier [] e = (tt, refl)
apart_then earlier (job ∷ jobs) e = by_case (list_any (same_slot job) earlier) refl e (apart_then (job ∷ earlier) jobs)
  where
    by_case : (b : Bool) → list_any (same_slot job) earlier ≡ b → cond b (Some (DuplicateKey job.key job.platform)) (first_duplicate (job ∷ earlier) jobs) ≡ None
        → (first_duplicate (job ∷ earlier) jobs ≡ None → AreApartFrom (job ∷ earlier) jobs × (all_apart jobs ≡ true)) → AreApartFrom earlier (job ∷ jobs) × (all_apart (job ∷ jobs) ≡ true)
    by_case true is e more = absurd (cc e)
    by_case false is e more =
        let rest = more e in
        let split = without_one job earlier jobs rest.0 in
        ((is, split.0), (λ i. not (split.1 i) && rest.1 i))

none_before : (jobs : List JobDesc) → AreApartFrom [] jobs
none_before [] = tt
none_before (job ∷ jobs) = (refl, none_before jobs)

pub none_refused : (jobs : List JobDesc) → all_apart jobs ≡ true → first_duplicate [] jobs ≡ None
none_refused jobs e = none_twice [] jobs (none_before jobs) e

pub apart_unrefused : (jobs : List JobDesc) → first_duplicate [] jobs ≡ None → all_apart jobs ≡ true
apart_unrefused jobs e = (apart_then [] jobs e).1
