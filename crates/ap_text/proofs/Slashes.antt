-- The part of a list before and behind the last byte of a kind, by the place of that byte.
use Rattle.std.proofs.Common.{◌≡◌, ◌≢◌, ◌<◌, ◌+◌, ◌-◌, ℕ, true, false, not, List, [], length, get_or, take, drop, ap, arith}
use Rattle.std.specs.Prelude.{◌==◌}
use Rattle.std.specs.List.{suffix_len, slice_range}
use Rattle.ap_text.specs.PathRules.{parent_lem, file_name_lem}
use Rattle.std.proofs.lemmas.List.Sums.{suffix_len_is}
use Rattle.std.proofs.lemmas.Grind.{common_steps}

is_other : (b c : ℕ) → b ≢ c → not (b == c) ≡ true
is_other b c ne = grind (arith, common_steps)

is_same : (b c : ℕ) → b ≡ c → not (b == c) ≡ false
is_same b c e = grind (arith, common_steps)

-- behind the last c there is none
pub behind_last : (bs : List ℕ) (c k : ℕ) → k < length bs → get_or bs k 0 ≡ c → ((i : ℕ) → k < i → i < length bs → get_or bs i 0 ≢ c) →
    suffix_len (λ b. not (b == c)) bs ≡ length bs - (k + 1)
behind_last bs c k inside here later =
    suffix_len_is (λ b. not (b == c)) bs (k + 1) 0 (omega arith)
    (λ i from within. is_other (get_or bs i 0) c (later i (omega arith) within))
    (λ some. is_same (get_or bs (k + 1 - 1) 0) c (rw last here))
  where
    last : k + 1 - 1 ≡ k
    last = omega arith

-- where there is no c at all
pub without : (bs : List ℕ) (c : ℕ) → ((i : ℕ) → i < length bs → get_or bs i 0 ≢ c) →
    suffix_len (λ b. not (b == c)) bs ≡ length bs
without bs c none =
    let is : suffix_len (λ b. not (b == c)) bs ≡ length bs - 0 = suffix_len_is (λ b. not (b == c)) bs 0 0 (omega arith)
    (λ i from within. is_other (get_or bs i 0) c (none i within))
    (λ some. absurd (omega arith)) in
    omega arith

module _ (text : List ℕ) (at : ℕ) (inside : at < length text) (here : get_or text at 0 ≡ 47) (later : (i : ℕ) → at < i → i < length text → get_or text i 0 ≢ 47) where
  -- where the last slash stands at a place
  pub before_at : slice_range text 0 at ≡ parent_lem text
  before_at = rw (behind_last text 47 at inside here later) (ap (λ n. take n text) count)
    where
      count : at - 0 ≡ length text - (length text - (at + 1)) - 1
      count = omega arith

  pub after_at : drop (at + 1) text ≡ file_name_lem text
  after_at = rw (behind_last text 47 at inside here later) (ap (λ n. drop n text) count)
    where
      count : at + 1 ≡ length text - (length text - (at + 1))
      count = omega arith

-- where there is no slash
pub before_none : (text : List ℕ) → ((i : ℕ) → i < length text → get_or text i 0 ≢ 47) → [] ≡ parent_lem text
before_none text none = rw (without text 47 none) (ap (λ n. take n text) count)
  where
    count : 0 ≡ length text - length text - 1
    count = omega arith

pub after_none : (text : List ℕ) → ((i : ℕ) → i < length text → get_or text i 0 ≢ 47) → text ≡ file_name_lem text
after_none text none = rw (without text 47 none) (ap (λ n. drop n text) count)
  where
    count : 0 ≡ length text - length text
    count = omega arith
