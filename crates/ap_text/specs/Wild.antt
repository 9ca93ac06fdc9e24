-- Which paths a pattern matches.
use Rattle.std.specs.Prelude.{ℕ, Bool, true, false, ◌==◌, ◌&&◌, ◌||◌, List, [], ◌∷◌, if◌then◌else◌}
use Rattle.std.specs.List.{list_any}
use Rattle.std.specs.Char.{eq_ignore_ascii_case}
use Rattle.std.specs.Str.{chars, is_utf8}

-- a character of a pattern that stands for one character: 63, `?`, for any, another for itself in either case
abbrev pub stands_for : ℕ → ℕ → Bool
stands_for mark c = mark == 63 || eq_ignore_ascii_case mark c

-- the text has ended
abbrev pub is_over : List ℕ → Bool
is_over [] = true
is_over (c ∷ text) = false

-- the text or some end of it passes: nothing of it is taken, or one character and then as many as wanted
abbrev pub some_end : (List ℕ → Bool) → List ℕ → Bool
some_end passes [] = passes []
some_end passes (c ∷ text) = passes (c ∷ text) || some_end passes text

-- the first character passes the test, and what stands behind it the other
abbrev pub first_and_others : (ℕ → Bool) → (List ℕ → Bool) → List ℕ → Bool
first_and_others test passes [] = false
first_and_others test passes (c ∷ text) = test c && passes text

-- the characters of a pattern match those of a text: 42, `*`, takes any run of them, another character one
abbrev pub wild_chars : List ℕ → List ℕ → Bool
wild_chars [] = is_over
wild_chars (mark ∷ pattern) = if mark == 42 then some_end (wild_chars pattern) else first_and_others (stands_for mark) (wild_chars pattern)

-- the pattern matches the path, both as bytes of UTF-8
abbrev pub wild_lem : List ℕ → List ℕ → Bool
wild_lem pattern path = wild_chars (chars pattern) (chars path)

-- some pattern is UTF-8 and matches the path
abbrev pub some_matches_lem : List (List ℕ) → List ℕ → Bool
some_matches_lem patterns path = list_any (λ pattern. is_utf8 pattern && wild_lem pattern path) patterns
