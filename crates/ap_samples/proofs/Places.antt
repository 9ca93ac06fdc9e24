-- The parts of a list before and behind the last byte of a kind, by the place of that byte.
use Rattle.std.proofs.Common.{◌≡◌, ◌≢◌, ◌<◌, ◌≤◌, ◌+◌, ◌-◌, ℕ, Bool, true, false, not, cond, List, [], length, get_or, take, drop, Some, None, inl, inr, ap, refl, arith}
use Rattle.std.specs.Prelude.{◌==◌, nat_lt, unwrap_or, position}
use Rattle.std.specs.List.{before_last, after_last, position_or_len}
use Rattle.std.proofs.lemmas.List.Sums.{prefix_len-le-length}
use Rattle.std.proofs.lemmas.Bool.{cases_lt}
use Rattle.std.proofs.lemmas.Grind.{common_steps}
use Rattle.ap_text.proofs.Slashes.{behind_last, without}

module _ (bytes : List ℕ) (byte at : ℕ) (inside : at < length bytes) (here : get_or bytes at 0 ≡ byte) (later : (i : ℕ) → at < i → i < length bytes → get_or bytes i 0 ≢ byte) where
  pub before_at : take at bytes ≡ before_last (λ b. b == byte) bytes
  before_at = rw (behind_last bytes byte at inside here later) (ap (λ n. take n bytes) count)
    where
      count : at ≡ length bytes - (length bytes - (at + 1)) - 1
      count = omega arith

  pub after_at : drop (at + 1) bytes ≡ after_last (λ b. b == byte) bytes
  after_at = rw (behind_last bytes byte at inside here later) (ap (λ n. drop n bytes) count)
    where
      count : at + 1 ≡ length bytes - (length bytes - (at + 1))
      count = omega arith

-- where the byte isn't there
pub before_none : (bytes : List ℕ) (byte : ℕ) → ((i : ℕ) → i < length bytes → get_or bytes i 0 ≢ byte) → [] ≡ before_last (λ b. b == byte) bytes
before_none bytes byte none = rw (without bytes byte none) (ap (λ n. take n bytes) count)
  where
    count : 0 ≡ length bytes - length bytes - 1
    count = omega arith

pub after_none : (bytes : List ℕ) (byte : ℕ) → ((i : ℕ) → i < length bytes → get_or bytes i 0 ≢ byte) → bytes ≡ after_last (λ b. b == byte) bytes
after_none bytes byte none = rw (without bytes byte none) (ap (λ n. drop n bytes) count)
  where
    count : 0 ≡ length bytes - length bytes
    count = omega arith

-- a place below the length, or the length
at_most : (at n : ℕ) → at ≤ n → unwrap_or (cond (nat_lt at n) (Some at) None) n ≡ at
at_most at n h = elim (cases_lt at n) [
  | inl below ↦ let e : nat_lt at n ≡ true = grind (arith, common_steps) in rw e refl
  | inr past ↦ let e : nat_lt at n ≡ false = grind (arith, common_steps) in rw e (omega arith)
]

-- the first place that passes, or the length
pub position_is : {X : Type 0} (p : X → Bool) (xs : List X) → unwrap_or (position p xs) (length xs) ≡ position_or_len p xs
position_is p xs = at_most (position_or_len p xs) (length xs) (prefix_len-le-length (λ x. not (p x)) xs)

pub position-le : {X : Type 0} (p : X → Bool) (xs : List X) → position_or_len p xs ≤ length xs
position-le p xs = prefix_len-le-length (λ x. not (p x)) xs

pub ruleset placing = (position_is, position-le)
