-- The first line of some bytes, by the place of their first line feed.
use Rattle.std.proofs.Common.{◌≡◌, ◌<◌, ◌≤◌, ◌+◌, ◌-◌, ℕ, suc, Bool, true, false, not, cond, List, [], ◌∷◌, length, take, drop, ap, refl, ◌∙◌, arith, length-drop}
use Rattle.std.specs.Prelude.{◌==◌, if◌then◌else◌}
use Rattle.std.specs.List.{slice_split, onto_first, position_or_len, before_first, after_first}
use Rattle.std.specs.Str.Lines.{lines, lines_of_parts, strip_carriage_return}
use Rattle.std.proofs.lemmas.List.Splits.{slice_split_first, length-slice_split}
use Rattle.std.proofs.lemmas.List.{take_rest}
use Rattle.std.proofs.lemmas.Grind.{common_steps}
use Rattle.ap_samples.specs.Lines.{SplitsLine}

abbrev is_feed : ℕ → Bool
is_feed b = b == 10

-- where nothing passes there is one part
onto_one : {X : Type 0} (t : Bool) (x : X) (xs : List X) (parts : List (List X)) (place : ℕ) → (place ≡ length xs → parts ≡ xs ∷ []) →
    cond (not t) (1 + place) 0 ≡ suc (length xs) → cond t ([] ∷ parts) (onto_first x parts) ≡ (x ∷ xs) ∷ []
onto_one true x xs parts place one e = absurd (omega arith)
onto_one false x xs parts place one e = let is : parts ≡ xs ∷ [] = one (omega arith) in rw is refl

one_part : {X : Type 0} (p : X → Bool) (xs : List X) → position_or_len p xs ≡ length xs → slice_split p xs ≡ xs ∷ []
one_part p [] e = refl
one_part p (x ∷ xs) e = onto_one (p x) x xs (slice_split p xs) (position_or_len p xs) (one_part p xs) e

-- a part before another one ends with a line feed
before_more : (x : List ℕ) (parts : List (List ℕ)) → 0 < length parts → lines_of_parts (x ∷ parts) ≡ strip_carriage_return x ∷ lines_of_parts parts
before_more x [] h = absurd (omega arith)
before_more x (y ∷ parts) h = refl

-- a last piece that isn't empty
last_piece : (bytes : List ℕ) → 0 < length bytes → (if length bytes == 0 then [] else bytes ∷ []) ≡ bytes ∷ []
last_piece [] h = absurd (omega arith)
last_piece (b ∷ bytes) h = let e : (length (b ∷ bytes) == 0) ≡ false = grind (arith, common_steps) in rw e refl

pub splits_last : (bytes : List ℕ) → 0 < length bytes → position_or_len (λ b. b == 10) bytes ≡ length bytes → SplitsLine bytes bytes []
splits_last bytes some e = record {
  split = ap lines_of_parts (one_part is_feed bytes e) ∙ last_piece bytes some;
  shorter = some;
}

pub splits_at : (bytes : List ℕ) → position_or_len (λ b. b == 10) bytes < length bytes →
    SplitsLine bytes (strip_carriage_return (take (position_or_len (λ b. b == 10) bytes) bytes)) (drop (position_or_len (λ b. b == 10) bytes + 1) bytes)
splits_at bytes inside = record {
  split = ap lines_of_parts (slice_split_first is_feed bytes 0 inside)
      ∙ before_more (before_first is_feed bytes) (slice_split is_feed (after_first is_feed bytes)) (omega (arith, length-slice_split is_feed (after_first is_feed bytes)));
  shorter = omega (arith, length-drop (position_or_len is_feed bytes + 1) bytes);
}

pub some_bytes : (bytes : List ℕ) → (length bytes == 0) ≡ false → 0 < length bytes
some_bytes bytes e = grind (arith, common_steps)

pub splits_at_place : (bytes line : List ℕ) (at : ℕ) → at ≡ position_or_len (λ b. b == 10) bytes → at ≤ length bytes → (at ≡ length bytes → ⊥) →
    line ≡ strip_carriage_return (take at bytes) → SplitsLine bytes line (take (length bytes - (at + 1)) (drop (at + 1) bytes))
splits_at_place bytes line at place within inside is = rw (take_rest bytes (at + 1)) (rw is (rw place (splits_at bytes (omega arith))))
