-- A legal history has as many handles out as it gave and didn't take back.
use Rattle.std.proofs.Common.{◌≡◌, ℕ, zero, suc, ◌+◌, ◌≤◌, ◌==◌, ◌||◌, ◌&&◌, not, List, [], ◌∷◌, ◌++◌, length, Bool, true, false, Some, None, refl, sym, ap, ◌∙◌, arith, cond, length-append, ne_eqb, eq-eqb}
use Rattle.std.specs.Prelude.{slice_get, count_by}
use Rattle.std.proofs.lemmas.List.Folds.{list_any-append}
use Rattle.std.proofs.lemmas.List.Sums.{sum_by-append}
use Rattle.ap_turn.specs.declared.held.Given.{Given}
use Rattle.ap_turn.specs.Views.{given}
use Rattle.ap_handles.specs.declared.call.Call.{Call}
use Rattle.ap_handles.specs.declared.call.Call.TheVariants as call
use Rattle.ap_handles.specs.Machine.{after, machine_of, status_of}
use Rattle.ap_handles.specs.Legal.{is_release, is_released, Replies, IsLegal}
use Rattle.ap_handles.specs.declared.entry.Status.{Status}
use Rattle.ap_handles.specs.Calls.{Counted, StandsFor}
use Rattle.ap_handles.specs.Counting.{gives_handle, takes_handle, acquires, releases}
use Rattle.ap_handles.proofs.Legality.{legal_more, legal_induction, released_below}
use Rattle.ap_handles.proofs.Turns.{machine_more, told}

abbrev pub one_if : Bool → ℕ
one_if b = cond b 1 0

-- the handles that these calls gave and that aren't released, where the first of them stands at place k
abbrev pub out_from : (ℕ → Bool) → ℕ → List (Given Call) → ℕ
out_from released k [] = 0
out_from released k (g ∷ more) = one_if (gives_handle g.entry && not (released k)) + out_from released (suc k) more

out_append : (released : ℕ → Bool) (k : ℕ) (xs ys : List (Given Call)) → out_from released k (xs ++ ys) ≡ out_from released k xs + out_from released (k + length xs) ys
out_append released k [] ys = let moved : out_from released k ys ≡ out_from released (k + 0) ys = ap (λ j. out_from released j ys) (omega arith) in omega (arith, moved)
out_append released k (g ∷ more) ys =
    let rest = out_append released (suc k) more ys in
    let place : suc k + length more ≡ k + length (g ∷ more) = omega arith in
    let moved = ap (λ j. out_from released j ys) place in
    omega (arith, rest, moved)

out_same : (r q : ℕ → Bool) (k : ℕ) (xs : List (Given Call)) → ((p : ℕ) → k ≤ p → r p ≡ q p) → out_from r k xs ≡ out_from q k xs
out_same r q k [] same = refl
out_same r q k (g ∷ more) same = rw (same k (omega arith), out_same r q (suc k) more (λ p le. same p (omega (arith, le)))) refl

-- one fewer is out where one more is released
out_less : (r : ℕ → Bool) (place j i : ℕ) (xs : List (Given Call)) (g : Given Call) → place ≡ j + i → slice_get xs i ≡ Some g → gives_handle g.entry ≡ true → r place ≡ false
    → out_from (λ p. r p || place == p) j xs + 1 ≡ out_from r j xs
out_less r place j i [] g at here gives free = absurd (cc here)
out_less r place j zero (x ∷ xs) g at here gives free =
    let first : j ≡ place = omega (arith, at) in
    let is_x : x ≡ g = cc here in
    let gives_x : gives_handle x.entry ≡ true = ap (λ y. gives_handle y.entry) is_x ∙ gives in
    let free_j : r j ≡ false = ap r first ∙ free in
    let named : (place == j) ≡ true = eq-eqb place j (sym first) in
    let rest = out_same (λ p. r p || place == p) r (suc j) xs (λ p le. other (r p) (place == p) (ne_eqb place p (λ same. omega (arith, same, le, first)))) in
    rw (gives_x, free_j, named, rest) (omega arith)
  where
    other : (a b : Bool) → b ≡ false → (a || b) ≡ a
    other true b e = refl
    other false b e = e
out_less r place j (suc i) (x ∷ xs) g at here gives free =
    let rest = out_less r place (suc j) i xs g (omega (arith, at)) here gives free in
    let unnamed : (place == j) ≡ false = ne_eqb place j (λ same. omega (arith, same, at)) in
    let first = ap (λ b. one_if (gives_handle x.entry && not b)) (other (r j) (place == j) unnamed) in
    omega (arith, rest, first)
  where
    other : (a b : Bool) → b ≡ false → (a || b) ≡ a
    other true b e = refl
    other false b e = e

abbrev pub out : List (Given Call) → ℕ
out log = out_from (λ p. is_released p log) 0 log

pub record Exact (log : List (Given Call)) : Type 0 where
  pub legal : IsLegal log
  pub handles : (machine_of log).handles ≡ out log
  pub all : out log + releases log ≡ acquires log
  pub few : acquires log ≤ length log

count_more : (p : Given Call → Bool) (log : List (Given Call)) (g : Given Call) → count_by p (log ++ g ∷ []) ≡ count_by p log + one_if (p g)
count_more p log g = let s = sum_by-append (λ x. cond (p x) 1 0) log (g ∷ []) in omega (arith, s)

or_false : (b : Bool) → (b || false) ≡ b
or_false true = refl
or_false false = refl

-- where the call is no Release
out_kept : (log : List (Given Call)) (by : ℕ) (c : Call) → ((p : ℕ) → is_release p c ≡ false) → out (log ++ given by c ∷ []) ≡ out log + one_if (gives_handle c && not (is_released (length log) log))
out_kept log by c quiet =
    let same = λ (p : ℕ). list_any-append (λ g. is_release p g.entry) log (given by c ∷ []) ∙ (ap (λ b. is_released p log || (b || false)) (quiet p) ∙ or_false (is_released p log)) in
    let parts = out_append (λ p. is_released p (log ++ given by c ∷ [])) 0 log (given by c ∷ []) in
    let first = out_same (λ p. is_released p (log ++ given by c ∷ [])) (λ p. is_released p log) 0 log (λ p le. same p) in
    let last = out_same (λ p. is_released p (log ++ given by c ∷ [])) (λ p. is_released p log) (0 + length log) (given by c ∷ []) (λ p le. same p) in
    let moved : out_from (λ p. is_released p log) (0 + length log) (given by c ∷ []) ≡ out_from (λ p. is_released p log) (length log) (given by c ∷ []) = ap (λ k. out_from (λ p. is_released p log) k (given by c ∷ [])) (omega arith) in
    omega (arith, parts, first, last, moved)

out_released : (log : List (Given Call)) (by place : ℕ) → Replies log by (call.Release place) → out (log ++ given by (call.Release place) ∷ []) + 1 ≡ out log
out_released log by place replies =
    let g = given by (call.Release place) in
    let same = λ (p : ℕ). list_any-append (λ g. is_release p g.entry) log (g ∷ []) ∙ ap (λ b. is_released p log || b) (or_false (place == p)) in
    let parts = out_append (λ p. is_released p (log ++ g ∷ [])) 0 log (g ∷ []) in
    let first = out_same (λ p. is_released p (log ++ g ∷ [])) (λ p. is_released p log || place == p) 0 log (λ p le. same p) in
    let less = out_less (λ p. is_released p log) place 0 place log _ (omega arith) replies.0.1.2 refl replies.1 in
    omega (arith, parts, first, less)

exact_call : (log : List (Given Call)) (by : ℕ) (c : Call) → Exact log → Replies log by c → Exact (log ++ given by c ∷ [])
exact_call log by c x replies = record {
  legal = legal_more [] log (given by c) x.legal replies;
  handles = ap (λ m. m.handles) (machine_more log (given by c)) ∙ handles c replies;
  all = all c replies;
  few = few c;
}
  where
    new : is_released (length log) log ≡ false
    new = released_below [] log x.legal (length log) (omega arith)

    handles : (c : Call) → Replies log by c → (after (machine_of log) c).handles ≡ out (log ++ given by c ∷ [])
    handles (call.Publish entries n) r = let o = out_kept log by (call.Publish entries n) (λ p. refl) in omega (arith, o, x.handles)
    handles (call.Acquire platform id (Some e)) r = let o = out_kept log by (call.Acquire platform id (Some e)) (λ p. refl) in let one : one_if (true && not (is_released (length log) log)) ≡ 1 = rw new refl in omega (arith, o, one, x.handles)
    handles (call.Acquire platform id None) r = let o = out_kept log by (call.Acquire platform id None) (λ p. refl) in omega (arith, o, x.handles)
    handles (call.Release place) r = let o = out_released log by place r in omega (arith, o, x.handles)
    handles (call.Ask n) r = let o = out_kept log by (call.Ask n) (λ p. refl) in omega (arith, o, x.handles)
    handles (call.Status s) r = let o = out_kept log by (call.Status s) (λ p. refl) in omega (arith, o, x.handles)
    handles call.Skip r = let o = out_kept log by call.Skip (λ p. refl) in omega (arith, o, x.handles)

    all : (c : Call) → Replies log by c → out (log ++ given by c ∷ []) + releases (log ++ given by c ∷ []) ≡ acquires (log ++ given by c ∷ [])
    all c r =
        let a = count_more (λ g. gives_handle g.entry) log (given by c) in
        let b = count_more (λ g. takes_handle g.entry) log (given by c) in
        let h = handles c r in omega (arith, a, b, x.all, x.handles, h, steps c r)
      where
        steps : (c : Call) → Replies log by c → (after (machine_of log) c).handles + one_if (takes_handle c) ≡ (machine_of log).handles + one_if (gives_handle c)
        steps (call.Publish entries n) r = refl
        steps (call.Acquire platform id (Some e)) r = omega arith
        steps (call.Acquire platform id None) r = refl
        steps (call.Release place) r = let o = out_released log by place r in omega (arith, o, x.handles)
        steps (call.Ask n) r = refl
        steps (call.Status s) r = refl
        steps call.Skip r = refl

    few : (c : Call) → acquires (log ++ given by c ∷ []) ≤ length (log ++ given by c ∷ [])
    few c =
        let a = count_more (λ g. gives_handle g.entry) log (given by c) in
        let n = length-append log (given by c ∷ []) in
        omega (arith, a, n, x.few, at_most (gives_handle c))
      where
        at_most : (b : Bool) → one_if b ≤ 1
        at_most true = omega arith
        at_most false = omega arith

exact : (log : List (Given Call)) → IsLegal log → Exact log
exact log legal = legal_induction Exact (λ log g. exact_call log g.by g.entry) [] log record { legal = tt; handles = refl; all = refl; few = omega arith } legal

pub handles_exact : (log : List (Given Call)) → IsLegal log → (machine_of log).handles + releases log ≡ acquires log
handles_exact log legal = let e = exact log legal in omega (arith, e.handles, e.all)

pub handles_few : (log : List (Given Call)) → IsLegal log → (machine_of log).handles ≤ length log
handles_few log legal = let e = exact log legal in omega (arith, e.handles, e.all, e.few)

-- a status tells exactly how many handles are out
pub told_exactly : (v : Counted) (log : List (Given Call)) (by : ℕ) (status : Status) → StandsFor v log → status ≡ status_of v.machine
    → status.handles + releases (log ++ given by (call.Status status) ∷ []) ≡ acquires (log ++ given by (call.Status status) ∷ [])
told_exactly v log by status stands is =
    let g = given by (call.Status status) in
    let exactly = handles_exact (log ++ g ∷ []) (legal_more [] log g stands.0 (told v log by stands status is)) in
    let same = ap (λ m. m.handles) (machine_more log g) in
    let read = ap (λ s. s.handles) is in
    let value = ap (λ m. m.handles) stands.1 in
    omega (arith, exactly, same, read, value)

-- a value has no more handles out than it counts calls
pub few_out : (v : Counted) (log : List (Given Call)) → StandsFor v log → v.machine.handles ≤ v.calls
few_out v log stands = let few = handles_few log stands.0 in let value = ap (λ m. m.handles) stands.1 in omega (arith, few, value, stands.2)
