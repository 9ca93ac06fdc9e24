-- The orders of candidates, hidden files and odd names.
use Rattle.std.proofs.Common.{◌≡◌, ◌⊎◌, ◌<◌, ℕ, true, false, List, refl, sym, ◌∙◌, ap, subst, inl, inr, ⊎_elim, arith, bytes_eq}
use Rattle.std.specs.declared.cmp.Ordering.{Ordering}
use Rattle.std.specs.declared.cmp.Ordering.TheVariants.{Less, Equal, Greater}
use Rattle.std.specs.Ordering.{nat_cmp, ordering_then, ordering_reverse, is_eq}
use Rattle.std.specs.Cmp.{nat_cmp_is, Equal-is}
use Rattle.std.specs.Cmp.Lexicographic.{nat_list_cmp_total}
use Rattle.std.proofs.lemmas.Grind.{common_steps}
use Rattle.std.proofs.lemmas.Map.Text.{is_eq-slice_cmp}
use Rattle.std.proofs.lemmas.Slice.Eq.{bytes_eq-Decides}
use Rattle.ap_text.specs.Order.{bytes_cmp}
use Rattle.ap_scan.specs.declared.candidate.Candidate.{Candidate}
use Rattle.ap_scan.specs.declared.results.Odd.{Odd}
use Rattle.ap_scan.specs.Winners.{Beats, odd_cmp}
use Rattle.ap_scan.specs.Candidates.{candidate_cmp, same_odd, candidate_total}

pub same-bytes : (a b : List ℕ) → bytes_cmp a b ≡ Equal → a ≡ b
same-bytes a b e = (bytes_eq-Decides a b).0 (sym (is_eq-slice_cmp a b) ∙ ap is_eq e)

pub bytes-self : (a b : List ℕ) → a ≡ b → bytes_cmp a b ≡ Equal
bytes-self a b e = (Equal-is (bytes_cmp a b)).0 (is_eq-slice_cmp a b ∙ (bytes_eq-Decides a b).1 e)

same-number : (a b : ℕ) → nat_cmp a b ≡ Equal → a ≡ b
same-number a b e = grind (arith, common_steps)

pub less-number : (a b : ℕ) → nat_cmp a b ≡ Less → a < b
less-number a b e = grind (arith, common_steps)

number-self : (a b : ℕ) → a ≡ b → nat_cmp a b ≡ Equal
number-self a b e = sym (nat_cmp_is a b Equal e)

number-less : (a b : ℕ) → a < b → nat_cmp a b ≡ Less
number-less a b h = sym (nat_cmp_is a b Less h)

-- a lexicographic order: equal by both, or less by the first, or equal by it and less by the second
then-equal : (a b : Ordering) → ordering_then a b ≡ Equal → (a ≡ Equal) × (b ≡ Equal)
then-equal Less b e = cc
then-equal Equal b e = (refl, e)
then-equal Greater b e = cc

then-less : (a b : Ordering) → ordering_then a b ≡ Less → (a ≡ Less) ⊎ ((a ≡ Equal) × (b ≡ Less))
then-less Less b e = inl refl
then-less Equal b e = inr (refl, e)
then-less Greater b e = cc

abbrev odd_at : ℕ → List ℕ → Odd
odd_at order name = record { order = order; name = name }

pub same-odds : (a b : Odd) → same_odd a b ≡ true → a ≡ b
same-odds a b e =
    let parts = then-equal (nat_cmp a.order b.order) (bytes_cmp a.name b.name) ((Equal-is (odd_cmp a b)).0 e) in
    let order : a.order ≡ b.order = same-number a.order b.order parts.0 in
    let name : a.name ≡ b.name = same-bytes a.name b.name parts.1 in
    ap (λ (o : ℕ). odd_at o a.name) order ∙ ap (odd_at b.order) name

-- candidates that are equal by their order
pub record Alike (a b : Candidate) : Type 0 where
  pub path : a.path ≡ b.path
  pub order : a.order ≡ b.order
  pub name : a.name ≡ b.name

pub alike : (a b : Candidate) → candidate_cmp a b ≡ Equal → Alike a b
alike a b e =
    let parts = then-equal (bytes_cmp a.path b.path) (ordering_then (nat_cmp a.order b.order) (bytes_cmp a.name b.name)) e in
    let behind = then-equal (nat_cmp a.order b.order) (bytes_cmp a.name b.name) parts.1 in
    record { path = same-bytes a.path b.path parts.0; order = same-number a.order b.order behind.0; name = same-bytes a.name b.name behind.1 }

pub less-self : (a b : Candidate) → a ≡ b → candidate_cmp a b ≡ Less → ⊥
less-self a b e less = cc (sym less ∙ candidate_total.antisymm a b ∙ ap ordering_reverse (subst (λ (d : Candidate). candidate_cmp d a ≡ Less) e (subst (λ (d : Candidate). candidate_cmp a d ≡ Less) (sym e) less)))

pub not-both-less : (a b : Candidate) → candidate_cmp a b ≡ Less → candidate_cmp b a ≡ Less → ⊥
not-both-less a b less more = cc (sym less ∙ candidate_total.antisymm a b ∙ ap ordering_reverse more)

-- among candidates for one path the order says which one beats the other
pub beats : (a b : Candidate) → a.path ≡ b.path → candidate_cmp a b ≡ Less → Beats a.order a.name b.order b.name
beats a b same less = ⊎_elim
    (λ path. absurd (cc (sym path ∙ bytes-self a.path b.path same)))
    (λ behind. ⊎_elim
    (λ order. inl (less-number a.order b.order order))
    (λ name. inr (same-number a.order b.order name.0, name.1))
    (then-less (nat_cmp a.order b.order) (bytes_cmp a.name b.name) behind.1))
    (then-less (bytes_cmp a.path b.path) (ordering_then (nat_cmp a.order b.order) (bytes_cmp a.name b.name)) less)

pub beaten : (a b : Candidate) → a.path ≡ b.path → Beats a.order a.name b.order b.name → candidate_cmp a b ≡ Less
beaten a b same before = rw (bytes-self a.path b.path same) (⊎_elim
    (λ less. rw (number-less a.order b.order less) refl)
    (λ name. rw (number-self a.order b.order name.0) name.1)
    before)

-- a candidate of a lesser path stays so before all later ones
pub path-less : (a b : Candidate) → candidate_cmp a b ≡ Less → bytes_eq a.path b.path ≡ false → bytes_cmp a.path b.path ≡ Less
path-less a b less differ = ⊎_elim
    (λ path. path)
    (λ behind. absurd (cc (sym differ ∙ (bytes_eq-Decides a.path b.path).1 (same-bytes a.path b.path behind.0))))
    (then-less (bytes_cmp a.path b.path) (ordering_then (nat_cmp a.order b.order) (bytes_cmp a.name b.name)) less)

pub path-still-less : (a b c : Candidate) → bytes_cmp a.path b.path ≡ Less → candidate_cmp b c ≡ Less → bytes_cmp a.path c.path ≡ Less
path-still-less a b c less later = ⊎_elim
    (λ path. nat_list_cmp_total.trans a.path b.path c.path less path)
    (λ behind. subst (λ (p : List ℕ). bytes_cmp a.path p ≡ Less) (same-bytes b.path c.path behind.0) less)
    (then-less (bytes_cmp b.path c.path) (ordering_then (nat_cmp b.order c.order) (bytes_cmp b.name c.name)) later)
