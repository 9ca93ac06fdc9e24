-- What was read is spelled by the bytes that it was read from.
use Rattle.std.proofs.Common.{◌≡◌, ◌<◌, ◌^◌, ℕ, zero, suc, Bool, true, false, ◌==◌, ◌&&◌, List, [], ◌∷◌, ◌++◌, length, take, drop, Option, Some, None, option_and_then, cond, leb, refl, ap, sym, ◌∙◌, subst, append_assoc, arith}
use Rattle.std.specs.List.{flat_map, list_all}
use Rattle.std.specs.Option.{unwrap_or}
use Rattle.std.proofs.lemmas.List.{take-append-drop, length-take}
use Rattle.std.proofs.lemmas.Bool.{leb-true}
use Rattle.std.proofs.lemmas.Bool.Decides.{Decides-eqb}
use Rattle.std.proofs.Math.Nat.{mod-eq_of_lt}
use Rattle.ap_rows.specs.Fields.{number_field, run_field, list_field}
use Rattle.ap_rows.specs.Readers.{Reader, ◌>>=◌, gives, refuses, that, bytes_of, number, run_of, times, list_of, value_onto}
use Rattle.ap_rows.proofs.Numbers.{IsBytes, digits-of-value, value-below}

-- behind the front, what was read is spelled by the bytes that it was read from
abbrev pub ToldBehind : {X : Type 0} → List ℕ → Reader X → (X → List ℕ) → (X → Type 0) → Type 0
ToldBehind {X} front form field Good = (old : List ℕ) (x : X) (new : List ℕ) → IsBytes old → form old ≡ Some (x, new) → (front ++ old ≡ field x ++ new) × Good x × IsBytes new

abbrev pub Told : {X : Type 0} → Reader X → (X → List ℕ) → (X → Type 0) → Type 0
Told form field Good = ToldBehind [] form field Good

opened : {A B : Type 0} (f : A → Option B) (o : Option A) (r : B) → option_and_then f o ≡ Some r → (a : A) × ((o ≡ Some a) × (f a ≡ Some r))
opened f None r e = absurd (cc)
opened f (Some a) r e = (a, (refl, e))

same_value : {X : Type 0} (x y : X) → Some x ≡ Some y → x ≡ y
same_value x y e = ap (λ o. unwrap_or o x) e

pub split-bytes : (xs ys : List ℕ) → IsBytes (xs ++ ys) → IsBytes xs × IsBytes ys
split-bytes [] ys h = (tt, h)
split-bytes (x ∷ xs) ys h = let more = split-bytes xs ys h.1 in ((h.0, more.0), more.1)

module _ {Z : Type 0} (field : Z → List ℕ) (Good : Z → Type 0) where
  -- a form, and then the others
  pub then-told : {A : Type 0} (f : Reader A) (next : A → Reader Z) (first : A → List ℕ) (Fine : A → Type 0) (front : List ℕ)
      → Told f first Fine → ((a : A) → Fine a → ToldBehind (front ++ first a) (next a) field Good) → ToldBehind front (f >>= next) field Good
  then-told f next first Fine front h k old z new bytes e =
      let read = opened (λ r. next r.0 r.1) (f old) (z, new) e in
      let told = h old read.0.0 read.0.1 bytes read.1.0 in
      let more = k read.0.0 told.1 read.0.1 z new told.2 read.1.1 in
      (ap (λ l. front ++ l) told.0 ∙ sym (append_assoc front (first read.0.0) read.0.1) ∙ more.0, more.1, more.2)

  pub gives-told : (z : Z) (front : List ℕ) → front ≡ field z → Good z → ToldBehind front (gives z) field Good
  gives-told z front spells good old z' new bytes e =
      let P : Z × List ℕ → Type 0 = λ r. (front ++ old ≡ field r.0 ++ r.1) × Good r.0 × IsBytes r.1 in
      subst P (same_value (z, old) (z', new) e) (ap (λ l. l ++ old) spells, good, bytes)

  pub refuses-told : (front : List ℕ) → ToldBehind front refuses field Good
  refuses-told front old z new bytes e = absurd (cc)

  -- the last form
  pub last-told : (g : Reader Z) (own : Z → List ℕ) (Fine : Z → Type 0) (front : List ℕ) → Told g own Fine → ((z : Z) → Fine z → front ++ own z ≡ field z) → ((z : Z) → Fine z → Good z) → ToldBehind front g field Good
  last-told g own Fine front h spells good old z new bytes e =
      let told = h old z new bytes e in
      (ap (λ l. front ++ l) told.0 ∙ sym (append_assoc front (own z) new) ∙ ap (λ l. l ++ new) (spells z told.1), good z told.1, told.2)

  pub whether : (c : Bool) (front : List ℕ) (f g : Reader Z) → (c ≡ true → ToldBehind front f field Good) → ToldBehind front g field Good → ToldBehind front (cond c f g) field Good
  whether true front f g h k = h refl
  whether false front f g h k = k

  -- the form of this byte, or those of the others
  pub case-told : (n k : ℕ) (f g : Reader Z) → ToldBehind (k ∷ []) f field Good → ToldBehind (n ∷ []) g field Good → ToldBehind (n ∷ []) (cond (n == k) f g) field Good
  case-told n k f g h others = whether (n == k) (n ∷ []) f g (λ e. subst (λ m. ToldBehind (m ∷ []) f field Good) (sym ((Decides-eqb n k).0 e)) h) others

pub bytes-told : (n : ℕ) → Told (bytes_of n) (λ run. run) (λ run. (length run ≡ n) × IsBytes run)
bytes-told n old run new bytes e = cases (leb n (length old)) refl e
  where
    cases : (enough : Bool) → enough ≡ leb n (length old) → cond {A = Option (List ℕ × List ℕ)} enough (Some (take n old, drop n old)) None ≡ Some (run, new) → (old ≡ run ++ new) × ((length run ≡ n) × IsBytes run) × IsBytes new
    cases false h e = absurd (cc)
    cases true h e =
        let all = take-append-drop n old in
        let parts = split-bytes (take n old) (drop n old) (subst IsBytes (sym all) bytes) in
        let within = leb-true n (length old) (sym h) in
        let long : length (take n old) ≡ n = omega (arith, length-take n old) in
        let P : List ℕ × List ℕ → Type 0 = λ r. (old ≡ r.0 ++ r.1) × ((length r.0 ≡ n) × IsBytes r.0) × IsBytes r.1 in
        subst P (same_value (take n old, drop n old) (run, new) e) (sym all, (long, parts.0), parts.1)

pub number-told : (width : ℕ) → Told (number width) (number_field width) (λ n. n < 256 ^ width)
number-told width =
    then-told (number_field width) (λ n. n < 256 ^ width) (bytes_of width) (λ digits. gives (value_onto 0 digits)) (λ run. run) (λ run. (length run ≡ width) × IsBytes run) [] (bytes-told width)
    (λ digits fine. gives-told (number_field width) (λ n. n < 256 ^ width) (value_onto 0 digits) digits (same digits fine.0 fine.1) (low digits fine.0 fine.1))
  where
    same : (digits : List ℕ) → length digits ≡ width → IsBytes digits → digits ≡ number_field width (value_onto 0 digits)
    same digits long bytes = subst (λ w. digits ≡ number_field w (value_onto 0 digits)) long (sym (digits-of-value 0 digits bytes))

    low : (digits : List ℕ) → length digits ≡ width → IsBytes digits → value_onto 0 digits < 256 ^ width
    low digits long bytes = subst (λ w. value_onto 0 digits < 256 ^ w) long (value-below digits bytes)

pub run-told : (width : ℕ) → Told (run_of width) (run_field width) (λ run. Unit {0})
run-told width =
    then-told (run_field width) (λ run. Unit {0}) (number width) bytes_of (number_field width) (λ n. n < 256 ^ width) [] (number-told width)
    (λ n fits. last-told (run_field width) (λ run. Unit {0}) (bytes_of n) (λ run. run) (λ run. (length run ≡ n) × IsBytes run) (number_field width n) (bytes-told n)
    (λ run fine. ap (λ m. number_field width m ++ run) (sym fine.0)) (λ run fine. tt))

module _ {X : Type 0} (form : Reader X) (field : X → List ℕ) (test : X → Bool) (h : Told form field (λ x. test x ≡ true)) where
  pub times-told : (n : ℕ) → Told (times form n) (flat_map field) (λ xs. (length xs ≡ n) × (list_all test xs ≡ true))
  times-told zero = gives-told (flat_map field) (λ xs. (length xs ≡ 0) × (list_all test xs ≡ true)) [] [] refl (refl, refl)
  times-told (suc n) =
      let Good = λ (xs : List X). (length xs ≡ suc n) × (list_all test xs ≡ true) in
      then-told (flat_map field) Good form (λ x. times form n >>= λ xs. gives (x ∷ xs)) field (λ x. test x ≡ true) [] h
      (λ x good. then-told (flat_map field) Good (times form n) (λ xs. gives (x ∷ xs)) (flat_map field) (λ xs. (length xs ≡ n) × (list_all test xs ≡ true)) (field x) (times-told n)
      (λ xs fine. gives-told (flat_map field) Good (x ∷ xs) (field x ++ flat_map field xs) refl (ap suc fine.0, ap (λ b. b && list_all test xs) good ∙ fine.1)))

  pub list-counted : Told (list_of 4 form) (list_field 4 field) (λ xs. (list_all test xs ≡ true) × (length xs < 256 ^ 4))
  list-counted =
      let Good = λ (xs : List X). (list_all test xs ≡ true) × (length xs < 256 ^ 4) in
      then-told (list_field 4 field) Good (number 4) (times form) (number_field 4) (λ n. n < 256 ^ 4) [] (number-told 4)
      (λ n fits. last-told (list_field 4 field) Good (times form n) (flat_map field) (λ xs. (length xs ≡ n) × (list_all test xs ≡ true)) (number_field 4 n) (times-told n)
      (λ xs fine. ap (λ m. number_field 4 m ++ flat_map field xs) (sym fine.0)) (λ xs fine. (fine.1, subst (λ m. m < 256 ^ 4) (sym fine.0) fits)))

  pub list-told : Told (list_of 4 form) (list_field 4 field) (λ xs. list_all test xs ≡ true)
  list-told old xs new bytes e = let told = list-counted old xs new bytes e in (told.0, told.1.0, told.2)

-- a form whose value passes the test
pub that-told : {X : Type 0} (test : X → Bool) (form : Reader X) (field : X → List ℕ) (Good : X → Type 0) → Told form field Good → Told (that test form) field (λ x. test x ≡ true)
that-told {X} test form field Good h =
    let Passes = λ (x : X). test x ≡ true in
    then-told field Passes form (λ x. cond (test x) (gives x) refuses) field Good [] h
    (λ x good. whether field Passes (test x) (field x) (gives x) refuses (λ passes. gives-told field Passes x (field x) refl passes) (refuses-told field Passes (field x)))

-- a byte, and then what it says
pub tag-told : {Z : Type 0} (field : Z → List ℕ) (Good : Z → Type 0) (by : ℕ → Reader Z) → ((b : ℕ) → ToldBehind (b ∷ []) (by b) field Good) → Told (number 1 >>= by) field Good
tag-told field Good by h =
    then-told field Good (number 1) by (number_field 1) (λ n. n < 256 ^ 1) [] (number-told 1)
    (λ b low. subst (λ m. ToldBehind (m ∷ []) (by b) field Good) (sym (mod-eq_of_lt low)) (h b))

-- forms one after another, of which a value is made
module _ {A Z : Type 0} (field : Z → List ℕ) (Good : Z → Type 0) (f1 : Reader A) (make : A → Z) (w1 : A → List ℕ) (P1 : A → Type 0) where
  pub told1 : (front : List ℕ) → Told f1 w1 P1
      → ((x1 : A) → P1 x1 → (front ++ w1 x1 ≡ field (make x1)) × Good (make x1))
      → ToldBehind front (f1 >>= λ x1. gives (make x1)) field Good
  told1 front h1 made =
      then-told field Good f1 (λ x1. gives (make x1)) w1 P1 (front) h1
      (λ x1 g1. gives-told field Good (make x1) (front ++ w1 x1) (made x1 g1).0 (made x1 g1).1)

module _ {A B Z : Type 0} (field : Z → List ℕ) (Good : Z → Type 0) (f1 : Reader A) (f2 : Reader B) (make : A → B → Z) (w1 : A → List ℕ) (w2 : B → List ℕ) (P1 : A → Type 0) (P2 : B → Type 0) where
  pub told2 : (front : List ℕ) → Told f1 w1 P1 → Told f2 w2 P2
      → ((x1 : A) → (x2 : B) → P1 x1 → P2 x2 → (front ++ w1 x1 ++ w2 x2 ≡ field (make x1 x2)) × Good (make x1 x2))
      → ToldBehind front (f1 >>= λ x1. f2 >>= λ x2. gives (make x1 x2)) field Good
  told2 front h1 h2 made =
      then-told field Good f1 (λ x1. f2 >>= λ x2. gives (make x1 x2)) w1 P1 (front) h1
      (λ x1 g1. then-told field Good f2 (λ x2. gives (make x1 x2)) w2 P2 (front ++ w1 x1) h2
      (λ x2 g2. gives-told field Good (make x1 x2) (front ++ w1 x1 ++ w2 x2) (made x1 x2 g1 g2).0 (made x1 x2 g1 g2).1))

module _ {A B C Z : Type 0} (field : Z → List ℕ) (Good : Z → Type 0) (f1 : Reader A) (f2 : Reader B) (f3 : Reader C) (make : A → B → C → Z) (w1 : A → List ℕ) (w2 : B → List ℕ) (w3 : C → List ℕ) (P1 : A → Type 0) (P2 : B → Type 0) (P3 : C → Type 0) where
  pub told3 : (front : List ℕ) → Told f1 w1 P1 → Told f2 w2 P2 → Told f3 w3 P3
      → ((x1 : A) → (x2 : B) → (x3 : C) → P1 x1 → P2 x2 → P3 x3 → (front ++ w1 x1 ++ w2 x2 ++ w3 x3 ≡ field (make x1 x2 x3)) × Good (make x1 x2 x3))
      → ToldBehind front (f1 >>= λ x1. f2 >>= λ x2. f3 >>= λ x3. gives (make x1 x2 x3)) field Good
  told3 front h1 h2 h3 made =
      then-told field Good f1 (λ x1. f2 >>= λ x2. f3 >>= λ x3. gives (make x1 x2 x3)) w1 P1 (front) h1
      (λ x1 g1. then-told field Good f2 (λ x2. f3 >>= λ x3. gives (make x1 x2 x3)) w2 P2 (front ++ w1 x1) h2
      (λ x2 g2. then-told field Good f3 (λ x3. gives (make x1 x2 x3)) w3 P3 (front ++ w1 x1 ++ w2 x2) h3
      (λ x3 g3. gives-told field Good (make x1 x2 x3) (front ++ w1 x1 ++ w2 x2 ++ w3 x3) (made x1 x2 x3 g1 g2 g3).0 (made x1 x2 x3 g1 g2 g3).1)))

module _ {A B C D Z : Type 0} (field : Z → List ℕ) (Good : Z → Type 0) (f1 : Reader A) (f2 : Reader B) (f3 : Reader C) (f4 : Reader D) (make : A → B → C → D → Z) (w1 : A → List ℕ) (w2 : B → List ℕ) (w3 : C → List ℕ) (w4 : D → List ℕ) (P1 : A → Type 0) (P2 : B → Type 0) (P3 : C → Type 0) (P4 : D → Type 0) where
  pub told4 : (front : List ℕ) → Told f1 w1 P1 → Told f2 w2 P2 → Told f3 w3 P3 → Told f4 w4 P4
      → ((x1 : A) → (x2 : B) → (x3 : C) → (x4 : D) → P1 x1 → P2 x2 → P3 x3 → P4 x4 → (front ++ w1 x1 ++ w2 x2 ++ w3 x3 ++ w4 x4 ≡ field (make x1 x2 x3 x4)) × Good (make x1 x2 x3 x4))
      → ToldBehind front (f1 >>= λ x1. f2 >>= λ x2. f3 >>= λ x3. f4 >>= λ x4. gives (make x1 x2 x3 x4)) field Good
  told4 front h1 h2 h3 h4 made =
      then-told field Good f1 (λ x1. f2 >>= λ x2. f3 >>= λ x3. f4 >>= λ x4. gives (make x1 x2 x3 x4)) w1 P1 (front) h1
      (λ x1 g1. then-told field Good f2 (λ x2. f3 >>= λ x3. f4 >>= λ x4. gives (make x1 x2 x3 x4)) w2 P2 (front ++ w1 x1) h2
      (λ x2 g2. then-told field Good f3 (λ x3. f4 >>= λ x4. gives (make x1 x2 x3 x4)) w3 P3 (front ++ w1 x1 ++ w2 x2) h3
      (λ x3 g3. then-told field Good f4 (λ x4. gives (make x1 x2 x3 x4)) w4 P4 (front ++ w1 x1 ++ w2 x2 ++ w3 x3) h4
      (λ x4 g4. gives-told field Good (make x1 x2 x3 x4) (front ++ w1 x1 ++ w2 x2 ++ w3 x3 ++ w4 x4) (made x1 x2 x3 x4 g1 g2 g3 g4).0 (made x1 x2 x3 x4 g1 g2 g3 g4).1))))

module _ {A B C D E Z : Type 0} (field : Z → List ℕ) (Good : Z → Type 0) (f1 : Reader A) (f2 : Reader B) (f3 : Reader C) (f4 : Reader D) (f5 : Reader E) (make : A → B → C → D → E → Z) (w1 : A → List ℕ) (w2 : B → List ℕ) (w3 : C → List ℕ) (w4 : D → List ℕ) (w5 : E → List ℕ) (P1 : A → Type 0) (P2 : B → Type 0) (P3 : C → Type 0) (P4 : D → Type 0) (P5 : E → Type 0) where
  pub told5 : (front : List ℕ) → Told f1 w1 P1 → Told f2 w2 P2 → Told f3 w3 P3 → Told f4 w4 P4 → Told f5 w5 P5
      → ((x1 : A) → (x2 : B) → (x3 : C) → (x4 : D) → (x5 : E) → P1 x1 → P2 x2 → P3 x3 → P4 x4 → P5 x5 → (front ++ w1 x1 ++ w2 x2 ++ w3 x3 ++ w4 x4 ++ w5 x5 ≡ field (make x1 x2 x3 x4 x5)) × Good (make x1 x2 x3 x4 x5))
      → ToldBehind front (f1 >>= λ x1. f2 >>= λ x2. f3 >>= λ x3. f4 >>= λ x4. f5 >>= λ x5. gives (make x1 x2 x3 x4 x5)) field Good
  told5 front h1 h2 h3 h4 h5 made =
      then-told field Good f1 (λ x1. f2 >>= λ x2. f3 >>= λ x3. f4 >>= λ x4. f5 >>= λ x5. gives (make x1 x2 x3 x4 x5)) w1 P1 (front) h1
      (λ x1 g1. then-told field Good f2 (λ x2. f3 >>= λ x3. f4 >>= λ x4. f5 >>= λ x5. gives (make x1 x2 x3 x4 x5)) w2 P2 (front ++ w1 x1) h2
      (λ x2 g2. then-told field Good f3 (λ x3. f4 >>= λ x4. f5 >>= λ x5. gives (make x1 x2 x3 x4 x5)) w3 P3 (front ++ w1 x1 ++ w2 x2) h3
      (λ x3 g3. then-told field Good f4 (λ x4. f5 >>= λ x5. gives (make x1 x2 x3 x4 x5)) w4 P4 (front ++ w1 x1 ++ w2 x2 ++ w3 x3) h4
      (λ x4 g4. then-told field Good f5 (λ x5. gives (make x1 x2 x3 x4 x5)) w5 P5 (front ++ w1 x1 ++ w2 x2 ++ w3 x3 ++ w4 x4) h5
      (λ x5 g5. gives-told field Good (make x1 x2 x3 x4 x5) (front ++ w1 x1 ++ w2 x2 ++ w3 x3 ++ w4 x4 ++ w5 x5) (made x1 x2 x3 x4 x5 g1 g2 g3 g4 g5).0 (made x1 x2 x3 x4 x5 g1 g2 g3 g4 g5).1)))))

module _ {A B C D E F G Z : Type 0} (field : Z → List ℕ) (Good : Z → Type 0) (f1 : Reader A) (f2 : Reader B) (f3 : Reader C) (f4 : Reader D) (f5 : Reader E) (f6 : Reader F) (f7 : Reader G) (make : A → B → C → D → E → F → G → Z) (w1 : A → List ℕ) (w2 : B → List ℕ) (w3 : C → List ℕ) (w4 : D → List ℕ) (w5 : E → List ℕ) (w6 : F → List ℕ) (w7 : G → List ℕ) (P1 : A → Type 0) (P2 : B → Type 0) (P3 : C → Type 0) (P4 : D → Type 0) (P5 : E → Type 0) (P6 : F → Type 0) (P7 : G → Type 0) where
  pub told7 : (front : List ℕ) → Told f1 w1 P1 → Told f2 w2 P2 → Told f3 w3 P3 → Told f4 w4 P4 → Told f5 w5 P5 → Told f6 w6 P6 → Told f7 w7 P7
      → ((x1 : A) → (x2 : B) → (x3 : C) → (x4 : D) → (x5 : E) → (x6 : F) → (x7 : G) → P1 x1 → P2 x2 → P3 x3 → P4 x4 → P5 x5 → P6 x6 → P7 x7 → (front ++ w1 x1 ++ w2 x2 ++ w3 x3 ++ w4 x4 ++ w5 x5 ++ w6 x6 ++ w7 x7 ≡ field (make x1 x2 x3 x4 x5 x6 x7)) × Good (make x1 x2 x3 x4 x5 x6 x7))
      → ToldBehind front (f1 >>= λ x1. f2 >>= λ x2. f3 >>= λ x3. f4 >>= λ x4. f5 >>= λ x5. f6 >>= λ x6. f7 >>= λ x7. gives (make x1 x2 x3 x4 x5 x6 x7)) field Good
  told7 front h1 h2 h3 h4 h5 h6 h7 made =
      then-told field Good f1 (λ x1. f2 >>= λ x2. f3 >>= λ x3. f4 >>= λ x4. f5 >>= λ x5. f6 >>= λ x6. f7 >>= λ x7. gives (make x1 x2 x3 x4 x5 x6 x7)) w1 P1 (front) h1
      (λ x1 g1. then-told field Good f2 (λ x2. f3 >>= λ x3. f4 >>= λ x4. f5 >>= λ x5. f6 >>= λ x6. f7 >>= λ x7. gives (make x1 x2 x3 x4 x5 x6 x7)) w2 P2 (front ++ w1 x1) h2
      (λ x2 g2. then-told field Good f3 (λ x3. f4 >>= λ x4. f5 >>= λ x5. f6 >>= λ x6. f7 >>= λ x7. gives (make x1 x2 x3 x4 x5 x6 x7)) w3 P3 (front ++ w1 x1 ++ w2 x2) h3
      (λ x3 g3. then-told field Good f4 (λ x4. f5 >>= λ x5. f6 >>= λ x6. f7 >>= λ x7. gives (make x1 x2 x3 x4 x5 x6 x7)) w4 P4 (front ++ w1 x1 ++ w2 x2 ++ w3 x3) h4
      (λ x4 g4. then-told field Good f5 (λ x5. f6 >>= λ x6. f7 >>= λ x7. gives (make x1 x2 x3 x4 x5 x6 x7)) w5 P5 (front ++ w1 x1 ++ w2 x2 ++ w3 x3 ++ w4 x4) h5
      (λ x5 g5. then-told field Good f6 (λ x6. f7 >>= λ x7. gives (make x1 x2 x3 x4 x5 x6 x7)) w6 P6 (front ++ w1 x1 ++ w2 x2 ++ w3 x3 ++ w4 x4 ++ w5 x5) h6
      (λ x6 g6. then-told field Good f7 (λ x7. gives (make x1 x2 x3 x4 x5 x6 x7)) w7 P7 (front ++ w1 x1 ++ w2 x2 ++ w3 x3 ++ w4 x4 ++ w5 x5 ++ w6 x6) h7
      (λ x7 g7. gives-told field Good (make x1 x2 x3 x4 x5 x6 x7) (front ++ w1 x1 ++ w2 x2 ++ w3 x3 ++ w4 x4 ++ w5 x5 ++ w6 x6 ++ w7 x7) (made x1 x2 x3 x4 x5 x6 x7 g1 g2 g3 g4 g5 g6 g7).0 (made x1 x2 x3 x4 x5 x6 x7 g1 g2 g3 g4 g5 g6 g7).1)))))))
