-- How large a number of so many digits may be.
use Rattle.std.proofs.Common.{◌≡◌, ℕ, zero, suc, ◌+◌, ◌-◌, ◌*◌, ◌<◌, ◌≤◌, ◌^◌, List, [], ◌∷◌, length, get_or, take, drop, refl, ap, sym, ◌∙◌, subst, arith}
use Rattle.std.proofs.lemmas.List.{take_all}
use Rattle.std.proofs.lemmas.Nat.{mul-le}
use Rattle.std.proofs.Math.Nat.{le-mul_of_pos_right, mul_assoc, pow-succ'}

-- how many numbers have so many digits
abbrev pub count_of : ℕ → ℕ
count_of zero = 1
count_of (suc k) = 256 * count_of k

pub count_of-some : (k : ℕ) → 1 ≤ count_of k
count_of-some zero = omega arith
count_of-some (suc k) = let h = count_of-some k in omega arith

pub count_of-le : (k j : ℕ) → count_of k ≤ count_of (j + k)
count_of-le k zero = let e : zero + k ≡ k = omega arith in subst (λ m. count_of k ≤ count_of m) (sym e) (omega arith)
count_of-le k (suc j) =
    let h = count_of-le k j in
    let e : suc j + k ≡ suc (j + k) = omega arith in
    subst (λ m. count_of k ≤ count_of m) (sym e) (omega arith)

-- one digit more
pub count_of-step : (n b k most : ℕ) → b < 256 → (n + 1) * (256 * count_of k) ≤ most → (n * 256 + b + 1) * count_of k ≤ most
count_of-step n b k most low h =
    let first : n * 256 + b + 1 ≤ (n + 1) * 256 = omega arith in
    let more = mul-le (n * 256 + b + 1) (count_of k) ((n + 1) * 256) (count_of k) first (omega arith) in
    let same : (n + 1) * (256 * count_of k) ≡ (n + 1) * 256 * count_of k = sym (mul_assoc (n + 1) 256 (count_of k)) in
    omega arith

pub room-step : (n b len most : ℕ) → b < 256 → 1 ≤ len → (n + 1) * count_of len ≤ most → (n * 256 + b + 1) * count_of (len - 1) ≤ most
room-step n b zero most low some h = absurd (omega arith)
room-step n b (suc k) most low some h =
    let same : suc k - 1 ≡ k = omega arith in
    subst (λ m. (n * 256 + b + 1) * count_of m ≤ most) (sym same) (count_of-step n b k most low h)

pub within : (a k most : ℕ) → a * count_of k ≤ most → a ≤ most
within a k most h = let some = count_of-some k in let low = le-mul_of_pos_right {m = count_of k} a (omega arith) in omega arith

pub cons-again : {X : Type 0} (d : X) (xs : List X) → 1 ≤ length xs → get_or xs 0 d ∷ take (length xs - 1) (drop 1 xs) ≡ xs
cons-again d [] h = absurd (omega arith)
cons-again d (x ∷ xs) h = ap (λ ys. x ∷ ys) (take_all (suc (length xs) - 1) xs (omega arith))

-- eight digits fill 64 bits
pub count_of-fits : (k : ℕ) → k ≤ 8 → count_of k ≤ 18446744073709551616
count_of-fits k few =
    let all : 8 - k + k ≡ 8 = omega arith in
    subst (λ m. count_of k ≤ count_of m) all (count_of-le k (8 - k))

pub count_of-pow : (k : ℕ) → count_of k ≡ 256 ^ k
count_of-pow zero = refl
count_of-pow (suc k) = ap (λ m. 256 * m) (count_of-pow k) ∙ sym (pow-succ' 256 k)
