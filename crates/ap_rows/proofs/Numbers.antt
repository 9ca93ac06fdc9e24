-- A number and its digits.
use Rattle.std.proofs.Common.{◌≡◌, ℕ, zero, suc, ◌+◌, ◌*◌, ◌/◌, ◌%◌, ◌<◌, ◌^◌, List, [], ◌∷◌, length, get_or, refl, ap, sym, ◌∙◌, div-one, arith}
use Rattle.std.specs.Int.{bytes_high_first, byte_at}
use Rattle.std.proofs.lemmas.Nat.{div-mul-add, mod-mul-add, mul-le}
use Rattle.std.proofs.Math.Arith.{mod-mul}
use Rattle.std.proofs.Math.Nat.{pow-succ'}
use Rattle.ap_rows.specs.Readers.{value_onto}
use Rattle.ap_rows.proofs.Digits.{count_of-some, count_of-pow}

-- each is a byte
abbrev pub IsBytes : List ℕ → Type 0
IsBytes [] = Unit {0}
IsBytes (b ∷ bytes) = (b < 256) × IsBytes bytes

pub are_bytes : (bytes : List ℕ) → ((i : ℕ) → get_or bytes i 0 < 256) → IsBytes bytes
are_bytes [] h = tt
are_bytes (b ∷ bytes) h = (h 0, are_bytes bytes (λ i. h (suc i)))

pub length-digits : (k n : ℕ) → length (bytes_high_first k n) ≡ k
length-digits zero n = refl
length-digits (suc k) n = ap suc (length-digits k n)

pow-some : (k : ℕ) → 0 < 256 ^ k
pow-some k = let h = count_of-some k in let e = count_of-pow k in omega arith

digit : (k n : ℕ) → byte_at k n ≡ n / 256 ^ k % 256
digit zero n = let e = div-one n in ap (λ m. m % 256) (sym e)
digit (suc k) n = refl

-- one digit more
joined : (a d p r v w : ℕ) → v ≡ (a * 256 + d) * p + r → w ≡ d * p + r → v ≡ a * (256 * p) + w
joined a d p r v w e h = omega arith

-- the digits of a number, read behind others
pub value-of-digits : (k n a : ℕ) → value_onto a (bytes_high_first k n) ≡ a * 256 ^ k + n % 256 ^ k
value-of-digits zero n a = omega arith
value-of-digits (suc k) n a =
    let low = mod-mul n {m = 256} {c = 256 ^ k} (omega arith) (pow-some k) in
    let here = digit k n in
    rw (pow-succ' 256 k) (joined a (byte_at k n) (256 ^ k) (n % 256 ^ k) _ _ (value-of-digits k n (a * 256 + byte_at k n)) (low ∙ ap (λ d. d * 256 ^ k + n % 256 ^ k) (sym here)))

split-step : (m b p r v : ℕ) → v ≡ (m * 256 + b) * p + r → (w : ℕ) → w ≡ (0 + b) * p + r → v ≡ m * (256 * p) + w
split-step m b p r v e w h = omega arith

-- the number that digits behind others spell
pub value-split : (m : ℕ) (bytes : List ℕ) → value_onto m bytes ≡ m * 256 ^ length bytes + value_onto 0 bytes
value-split m [] = omega arith
value-split m (b ∷ bytes) = rw (pow-succ' 256 (length bytes)) (split-step m b (256 ^ length bytes) (value_onto 0 bytes) _ (value-split (m * 256 + b) bytes) _ (value-split (0 + b) bytes))

below-step : (b p r : ℕ) → b < 256 → r < p → (0 + b) * p + r < 256 * p
below-step b p r low h = let all = mul-le (b + 1) p 256 p (omega arith) (omega arith) in omega arith

pub value-below : (bytes : List ℕ) → IsBytes bytes → value_onto 0 bytes < 256 ^ length bytes
value-below [] h = omega arith
value-below (b ∷ bytes) h = rw (pow-succ' 256 (length bytes), value-split (0 + b) bytes) (below-step b (256 ^ length bytes) (value_onto 0 bytes) h.0 (value-below bytes h.1))

top : (m b p r : ℕ) → r < p → b < 256 → ((m * 256 + b) * p + r) / p % 256 ≡ b
top m b p r h low = ap (λ q. q % 256) (div-mul-add (m * 256 + b) p r h) ∙ mod-mul-add m 256 b low

-- the digits of the number that bytes spell are these bytes
pub digits-of-value : (m : ℕ) (bytes : List ℕ) → IsBytes bytes → bytes_high_first (length bytes) (value_onto m bytes) ≡ bytes
digits-of-value m [] h = refl
digits-of-value m (b ∷ bytes) h =
    let first = digit (length bytes) (value_onto (m * 256 + b) bytes)
    ∙ ap (λ v. v / 256 ^ length bytes % 256) (value-split (m * 256 + b) bytes)
    ∙ top m b (256 ^ length bytes) (value_onto 0 bytes) (value-below bytes h.1) h.0 in
    ap (λ d. d ∷ bytes_high_first (length bytes) (value_onto (m * 256 + b) bytes)) first
    ∙ ap (λ ds. b ∷ ds) (digits-of-value (m * 256 + b) bytes h.1)
