-- Forms one after another, read back from their bytes.
use Rattle.std.proofs.Common.{◌≡◌, ◌<◌, ◌^◌, ℕ, suc, Bool, true, List, [], ◌∷◌, ◌++◌, length, All, Some, leb, refl, subst, append_assoc, arith}
use Rattle.std.specs.List.{flat_map}
use Rattle.std.proofs.lemmas.List.{length-append}
use Rattle.std.proofs.lemmas.Bool.{le-leb}
use Rattle.std.proofs.Math.Seq.{take-append_seam, drop-append_seam}
use Rattle.std.proofs.Math.Nat.{mod-eq_of_lt}
use Rattle.ap_rows.specs.Fields.{number_field, run_field, list_field}
use Rattle.ap_rows.specs.Readers.{Reader, ◌>>=◌, gives, that, bytes_of, number, run_of, times, list_of, value_onto}
use Rattle.ap_rows.proofs.Numbers.{length-digits, value-of-digits}

-- it is read back from its bytes, whatever stands behind them
abbrev pub ReadsBack : {X : Type 0} → Reader X → (X → List ℕ) → X → Type 0
ReadsBack form field x = (after : List ℕ) → form (field x ++ after) ≡ Some (x, after)

-- the same of given bytes
abbrev pub Back : {X : Type 0} → Reader X → List ℕ → X → Type 0
Back form bytes x = (after : List ℕ) → form (bytes ++ after) ≡ Some (x, after)

module _ {A Z : Type 0} (f : Reader A) (make : A → Z) where
  pub chain1 : (p : List ℕ) (a : A) → Back f p a → Back (f >>= λ x. gives (make x)) p (make a)
  chain1 p a h after = rw (h after) refl

module _ {A B Z : Type 0} (f : Reader A) (g : Reader B) (make : A → B → Z) where
  pub chain2 : (p q : List ℕ) (a : A) (b : B) → Back f p a → Back g q b → Back (f >>= λ x. g >>= λ y. gives (make x y)) (p ++ q) (make a b)
  chain2 p q a b h k after = rw (append_assoc p q after, h (q ++ after), k after) refl

module _ {A B C Z : Type 0} (f : Reader A) (g : Reader B) (h : Reader C) (make : A → B → C → Z) where
  pub chain3 : (p q r : List ℕ) (a : A) (b : B) (c : C) → Back f p a → Back g q b → Back h r c
      → Back (f >>= λ x. g >>= λ y. h >>= λ z. gives (make x y z)) (p ++ q ++ r) (make a b c)
  chain3 p q r a b c fp gq hr after = rw (append_assoc (p ++ q) r after, append_assoc p q (r ++ after), fp (q ++ (r ++ after)), gq (r ++ after), hr after) refl

module _ {A B C D Z : Type 0} (f : Reader A) (g : Reader B) (h : Reader C) (i : Reader D) (make : A → B → C → D → Z) where
  pub chain4 : (p q r s : List ℕ) (a : A) (b : B) (c : C) (d : D) → Back f p a → Back g q b → Back h r c → Back i s d
      → Back (f >>= λ x. g >>= λ y. h >>= λ z. i >>= λ w. gives (make x y z w)) (p ++ q ++ r ++ s) (make a b c d)
  chain4 p q r s a b c d fp gq hr is after =
      rw (append_assoc (p ++ q ++ r) s after, append_assoc (p ++ q) r (s ++ after), append_assoc p q (r ++ (s ++ after)), fp (q ++ (r ++ (s ++ after))), gq (r ++ (s ++ after)), hr (s ++ after), is after) refl

module _ {A B C D E F G Z : Type 0} (f : Reader A) (g : Reader B) (h : Reader C) (i : Reader D) (j : Reader E) (k : Reader F) (l : Reader G) (make : A → B → C → D → E → F → G → Z) where
  pub chain7 : (p q r s t u v : List ℕ) (a : A) (b : B) (c : C) (d : D) (e : E) (m : F) (n : G) → Back f p a → Back g q b → Back h r c → Back i s d → Back j t e → Back k u m → Back l v n
      → Back (f >>= λ x. g >>= λ y. h >>= λ z. i >>= λ w. j >>= λ x'. k >>= λ y'. l >>= λ z'. gives (make x y z w x' y' z')) (p ++ q ++ r ++ s ++ t ++ u ++ v) (make a b c d e m n)
  chain7 p q r s t u v a b c d e m n fp gq hr is jt ku lv after =
      simp append_assoc (rw (fp (q ++ (r ++ (s ++ (t ++ (u ++ (v ++ after)))))), gq (r ++ (s ++ (t ++ (u ++ (v ++ after))))), hr (s ++ (t ++ (u ++ (v ++ after)))), is (t ++ (u ++ (v ++ after))), jt (u ++ (v ++ after)), ku (v ++ after), lv after) refl)

-- one form, and then the others
pub first-back : {A Z : Type 0} (f : Reader A) (next : A → Reader Z) (p q : List ℕ) (a : A) (z : Z) → Back f p a → Back (next a) q z → Back (f >>= next) (p ++ q) z
first-back f next p q a z h k after = rw (append_assoc p q after, h (q ++ after)) (k after)

-- so many bytes
pub bytes-back : (run : List ℕ) → Back (bytes_of (length run)) run run
bytes-back run after = rw (enough, take-append_seam run after, drop-append_seam run after) refl
  where
    enough : leb (length run) (length (run ++ after)) ≡ true
    enough = le-leb (length run) (length (run ++ after)) (omega (arith, length-append run after))

pub number-back : (width n : ℕ) → n < 256 ^ width → Back (number width) (number_field width n) n
number-back width n fits =
    let digits = number_field width n in
    let all : Back (bytes_of width) digits digits = subst (λ w. Back (bytes_of w) digits digits) (length-digits width n) (bytes-back digits) in
    let value : value_onto 0 digits ≡ n = let low = mod-eq_of_lt fits in let e = value-of-digits width n 0 in omega arith in
    subst (λ v. Back (number width) digits v) value (chain1 (bytes_of width) (value_onto 0) digits digits all)

pub run-back : (width : ℕ) (run : List ℕ) → length run < 256 ^ width → Back (run_of width) (run_field width run) run
run-back width run fits = first-back (number width) bytes_of (number_field width (length run)) run (length run) run (number-back width (length run) fits) (bytes-back run)

module _ {X : Type 0} (form : Reader X) (field : X → List ℕ) where
  pub times-back : (xs : List X) → All (ReadsBack form field) xs → Back (times form (length xs)) (flat_map field xs) xs
  times-back [] h after = refl
  times-back (x ∷ xs) h after =
      rw (append_assoc (field x) (flat_map field xs) after, h 0 x (omega arith) (flat_map field xs ++ after), times-back xs (λ k d within. h (suc k) d (omega arith)) after) refl

  pub list-back : (xs : List X) → length xs < 256 ^ 4 → All (ReadsBack form field) xs → Back (list_of 4 form) (list_field 4 field xs) xs
  list-back xs fits h = first-back (number 4) (times form) (number_field 4 (length xs)) (flat_map field xs) (length xs) xs (number-back 4 (length xs) fits) (times-back xs h)

-- a form whose value passes the test
pub that-back : {X : Type 0} (test : X → Bool) (form : Reader X) (p : List ℕ) (x : X) → test x ≡ true → Back form p x → Back (that test form) p x
that-back test form p x passes h after = rw (h after, passes) refl

pub byte-back : (b : ℕ) → Back (number 1) (b ∷ []) b
byte-back b = subst (λ v. Back (number 1) (b ∷ []) v) (omega arith) (chain1 (bytes_of 1) (value_onto 0) (b ∷ []) (b ∷ []) (bytes-back (b ∷ [])))

-- a byte, and then what it says
pub tag-back : {Z : Type 0} (by : ℕ → Reader Z) (b : ℕ) (p : List ℕ) (z : Z) → Back (by b) p z → Back (number 1 >>= by) (b ∷ p) z
tag-back by b p z = first-back (number 1) by (b ∷ []) p b z (byte-back b)
