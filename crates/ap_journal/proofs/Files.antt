-- What the calls that change a file leave of it.
use Rattle.std.proofs.Common.{◌≡◌, ℕ, ◌+◌, ◌<◌, min, List, ◌∷◌, ◌++◌, length, take, drop, get_or, Option, Some, None, IfSome, sym, ◌∙◌, ap, subst, arith, take-append-drop}
use Rattle.std.proofs.lemmas.List.{drop_more, take_all}
use Rattle.ap_disk.specs.Crashes.{Torn, AfterStep, Only}
use Rattle.ap_journal.specs.Changes.{Extends, HasSomeByteAt}

torn_extends : (old c : List ℕ) (at count : ℕ) → length old ≡ at → Torn at count old c → Extends old count c
torn_extends old c at count end torn =
    let n = min at (length old) in
    let same : n ≡ length old = omega (arith, end) in
    let front : take n c ≡ take n old = torn.before in
    record {
      begins = subst (λ (n : ℕ). take n c ≡ take n old) same front ∙ take_all (length old) old (omega arith);
      no_longer = omega (arith, torn.no_longer, end);
    }

torn_byte : (old c : List ℕ) (at : ℕ) → at < length old → Torn at 1 old c → HasSomeByteAt old at c
torn_byte old c at lt torn =
    let n = min at (length old) in
    let same : n ≡ at = omega (arith, lt) in
    let front : take at c ≡ take at old = subst (λ (n : ℕ). take n c ≡ take n old) same torn.before in
    let byte = get_or c at 0 in
    let rest : drop at c ≡ byte ∷ drop (at + 1) old = drop_more c at 0 (omega (arith, torn.no_shorter, lt)) ∙ ap (λ (l : List ℕ). byte ∷ l) torn.behind in
    (byte, sym (take-append-drop at c) ∙ ap (λ (l : List ℕ). l ++ drop at c) front ∙ ap (λ (l : List ℕ). take at old ++ l) rest)

-- what a crash may leave of a file that nothing was pending on, within a write at its end
pub extended : (seen : Option (List ℕ)) (may_leave : List ℕ → Type 0) (at count : ℕ) → Only seen may_leave → IfSome seen (λ old. length old ≡ at)
    → (c : List ℕ) → AfterStep (Torn at count) may_leave c → IfSome seen (λ old. Extends old count c)
extended None may_leave at count durable end c left = tt
extended (Some old) may_leave at count durable end c left =
    torn_extends old c at count end (subst (λ (l : List ℕ). Torn at count l c) (durable left.0 left.1) left.2)

-- the same of one byte within it
pub has_byte : (seen : Option (List ℕ)) (may_leave : List ℕ → Type 0) (at : ℕ) → Only seen may_leave → IfSome seen (λ old. at < length old)
    → (c : List ℕ) → AfterStep (Torn at 1) may_leave c → IfSome seen (λ old. HasSomeByteAt old at c)
has_byte None may_leave at durable within c left = tt
has_byte (Some old) may_leave at durable within c left =
    torn_byte old c at within (subst (λ (l : List ℕ). Torn at 1 l c) (durable left.0 left.1) left.2)
