-- What the head of a record that was read says.
use Rattle.std.proofs.Common.{◌≡◌, ℕ, ◌+◌, ◌-◌, ◌≤◌, ◌<◌, Bool, true, false, List, [], ◌∷◌, ◌++◌, length, take, drop, get_or, Option, Some, None, IfSome, nat_lt, ◌==◌, if◌then◌else◌, refl, sym, ◌∙◌, ap, arith}
use Rattle.std.proofs.lemmas.List.{length-drop, length-take-le, append-nil}
use Rattle.std.specs.Int.{w32, from_be_bytes}
use Rattle.ap_disk.specs.Calls.{Reads}
use Rattle.ap_journal.specs.Records.{split_payload, first_record}
use Rattle.ap_journal.specs.State.{length_of}

-- the head of a record by its five bytes
record Head (bytes read : List ℕ) : Type 0 where
  gate : ℕ
  a : ℕ
  b : ℕ
  c : ℕ
  d : ℕ
  rest : List ℕ
  is : bytes ≡ gate ∷ a ∷ b ∷ c ∷ d ∷ rest
  was_read : read ≡ gate ∷ a ∷ b ∷ c ∷ d ∷ []

head_of : (bytes read : List ℕ) → 5 ≤ length bytes → read ≡ take 5 bytes → Head bytes read
head_of [] read long is = absurd (omega (arith, long))
head_of (g ∷ []) read long is = absurd (omega (arith, long))
head_of (g ∷ a ∷ []) read long is = absurd (omega (arith, long))
head_of (g ∷ a ∷ b ∷ []) read long is = absurd (omega (arith, long))
head_of (g ∷ a ∷ b ∷ c ∷ []) read long is = absurd (omega (arith, long))
head_of (g ∷ a ∷ b ∷ c ∷ d ∷ rest) read long is = record { gate = g; a = a; b = b; c = c; d = d; rest = rest; is = refl; was_read = is }

few : (bytes : List ℕ) → length bytes < 5 → None ≡ length_of (first_record bytes)
unfolding first_record
few [] lt = refl
few (g ∷ []) lt = refl
few (g ∷ a ∷ []) lt = refl
few (g ∷ a ∷ b ∷ []) lt = refl
few (g ∷ a ∷ b ∷ c ∷ []) lt = refl
few (g ∷ a ∷ b ∷ c ∷ d ∷ rest) lt = absurd (omega (arith, lt))

-- the length that the bytes behind the gate say
abbrev pub said : List ℕ → ℕ
said read = from_be_bytes w32 (get_or read 1 0 ∷ get_or read 2 0 ∷ get_or read 3 0 ∷ get_or read 4 0 ∷ [])

shut : (bytes read : List ℕ) → Head bytes read → (get_or read 0 0 ≡ 1 → ⊥) → None ≡ length_of (first_record bytes)
unfolding first_record
shut bytes read h closed =
    let gate : h.gate ≡ 1 → ⊥ = λ one. closed (ap (λ (l : List ℕ). get_or l 0 0) h.was_read ∙ one) in
    let no : (h.gate == 1) ≡ false = grind (arith, gate) in
    sym (ap (λ (l : List ℕ). length_of (first_record l)) h.is ∙ ap (λ (t : Bool). length_of (if t then split_payload (from_be_bytes w32 (h.a ∷ h.b ∷ h.c ∷ h.d ∷ [])) h.rest else None)) no)

wide_open : (bytes read : List ℕ) (h : Head bytes read) → get_or read 0 0 ≡ 1 → first_record bytes ≡ split_payload (said read) h.rest
unfolding first_record
wide_open bytes read h gate =
    let one : h.gate ≡ 1 = sym (ap (λ (l : List ℕ). get_or l 0 0) h.was_read) ∙ gate in
    ap first_record (h.is ∙ ap (λ (g : ℕ). g ∷ h.a ∷ h.b ∷ h.c ∷ h.d ∷ h.rest) one) ∙ ap (λ (l : List ℕ). split_payload (said l) h.rest) (sym h.was_read)

rest_length : (bytes read : List ℕ) (h : Head bytes read) → length bytes ≡ 5 + length h.rest
rest_length bytes read h = omega (arith, ap length h.is)

beyond : (bytes read : List ℕ) (h : Head bytes read) → get_or read 0 0 ≡ 1 → length bytes ≤ 5 + said read → None ≡ length_of (first_record bytes)
beyond bytes read h gate le =
    let no : nat_lt (said read) (length h.rest) ≡ false = grind (arith, le, rest_length bytes read h) in
    sym (ap length_of (wide_open bytes read h gate ∙ ap (λ (t : Bool). if t then Some (take (said read) h.rest, drop (said read) h.rest) else None) no))

stands : (bytes read : List ℕ) (h : Head bytes read) → get_or read 0 0 ≡ 1 → 5 + said read < length bytes → Some (said read) ≡ length_of (first_record bytes)
stands bytes read h gate lt =
    let fits : nat_lt (said read) (length h.rest) ≡ true = grind (arith, lt, rest_length bytes read h) in
    let long : length (take (said read) h.rest) ≡ said read = length-take-le (said read) h.rest (omega (arith, lt, rest_length bytes read h)) in
    sym (ap length_of (wide_open bytes read h gate ∙ ap (λ (t : Bool). if t then Some (take (said read) h.rest, drop (said read) h.rest) else None) fits) ∙ ap Some long)

-- ---- the same of a disk that may tell

abbrev zeros : List ℕ
zeros = 0 ∷ 0 ∷ 0 ∷ 0 ∷ 0 ∷ []

read_head : (file : List ℕ) (at count : ℕ) (read : List ℕ) → Reads (Some file) at zeros count read → 5 ≤ count → Head (drop at file) read
read_head file at count read reads whole =
    let all : 5 ≤ length (drop at file) = omega (arith, reads.0, whole, length-drop at file) in
    let five : count ≡ 5 = omega (arith, reads.0, whole) in
    head_of (drop at file) read all (reads.1 ∙ ap (λ (n : ℕ). take n (drop at file) ++ drop n zeros) five ∙ append-nil (take 5 (drop at file)))

abbrev Says : Option (List ℕ) → ℕ → ℕ → Option ℕ → Type 0
Says seen at size found = IfSome seen (λ file. length file ≡ size → found ≡ length_of (first_record (drop at file)))

pub says_few : (seen : Option (List ℕ)) (at size count : ℕ) (read : List ℕ) → Reads seen at zeros count read → count < 5 → Says seen at size None
says_few None at size count read reads lt = tt
says_few (Some file) at size count read reads lt = λ long. few (drop at file) (omega (arith, reads.0, lt, length-drop at file))

pub says_shut : (seen : Option (List ℕ)) (at size count : ℕ) (read : List ℕ) → Reads seen at zeros count read → 5 ≤ count → (get_or read 0 0 ≡ 1 → ⊥) → Says seen at size None
says_shut None at size count read reads whole closed = tt
says_shut (Some file) at size count read reads whole closed = λ long. shut (drop at file) read (read_head file at count read reads whole) closed

pub says_beyond : (seen : Option (List ℕ)) (at size count : ℕ) (read : List ℕ) → Reads seen at zeros count read → 5 ≤ count → get_or read 0 0 ≡ 1 → size - at ≤ 5 + said read → Says seen at size None
says_beyond None at size count read reads whole gate le = tt
says_beyond (Some file) at size count read reads whole gate le =
    λ long. beyond (drop at file) read (read_head file at count read reads whole) gate (omega (arith, le, long, length-drop at file))

pub says_whole : (seen : Option (List ℕ)) (at size count : ℕ) (read : List ℕ) → Reads seen at zeros count read → 5 ≤ count → get_or read 0 0 ≡ 1 → 5 + said read < size - at → Says seen at size (Some (said read))
says_whole None at size count read reads whole gate lt = tt
says_whole (Some file) at size count read reads whole gate lt =
    λ long. stands (drop at file) read (read_head file at count read reads whole) gate (omega (arith, lt, long, length-drop at file))
