-- What is found when a pattern is held against a text up to its first `*`.
use Rattle.std.specs.Prelude.{◌≡◌, ◌<◌, ◌≤◌, ℕ, true, false, List, ◌∷◌, length}
use Rattle.std.specs.Str.{chars}
use Rattle.ap_text.specs.declared.pattern.Walk.{Walk}
use Rattle.ap_text.specs.declared.pattern.Walk.TheVariants.{Ends, Differs, Star}
use Rattle.ap_text.specs.Wild.{wild_chars, some_end}

-- the pattern matches the text where some end of what is left matches what stands behind the star; and so
-- it matches some end of the text, since the star takes whatever a later place would have left out
pub record ReachesStar (pattern text after rest : List ℕ) : Type 0 where
  pub here : wild_chars pattern text ≡ some_end (wild_chars after) rest
  pub anywhere : some_end (wild_chars pattern) text ≡ some_end (wild_chars after) rest

abbrev pub Walks : List ℕ → List ℕ → Walk → Type 0
Walks pattern text Ends = wild_chars pattern text ≡ true
Walks pattern text Differs = wild_chars pattern text ≡ false
Walks pattern text (Star after rest) = ReachesStar pattern text (chars after.now) (chars rest.now)

-- a star and what stands before it are gone
abbrev pub Shrinks : List ℕ → List ℕ → Walk → Type 0
Shrinks pattern text (Star after rest) = (length after.now < length pattern) × (length rest.now ≤ length text)
Shrinks pattern text walk = Unit {0}

-- a text is its first character and the rest
pub record SplitsFirst (text : List ℕ) (first : ℕ) (rest : List ℕ) : Type 0 where
  pub split : chars text ≡ first ∷ chars rest
  pub shorter : length rest < length text
