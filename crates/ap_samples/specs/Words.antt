-- The words by which a line is a directive.
use Rattle.std.specs.Prelude.{ℕ, Bool, ◌==◌, List, [], ◌∷◌, Option, Some, None, codes, bytes_eq, if◌then◌else◌}
use Rattle.std.specs.List.{before_first, after_first}
use Rattle.ap_samples.specs.declared.words.Word.{Word}
use Rattle.ap_samples.specs.declared.words.Word.TheVariants.{Include, Glob, After, Once, Print, Key, Priority, Part, Ref, OldSub, Formerly, Fail}

abbrev pub is_space : ℕ → Bool
is_space b = b == 32

-- the word that these bytes are
unfoldable pub word_by : List ℕ → Option Word
word_by bytes =
    if bytes_eq bytes (codes "include") then Some Include else
    if bytes_eq bytes (codes "glob") then Some Glob else
    if bytes_eq bytes (codes "after") then Some After else
    if bytes_eq bytes (codes "once") then Some Once else
    if bytes_eq bytes (codes "print") then Some Print else
    if bytes_eq bytes (codes "key") then Some Key else
    if bytes_eq bytes (codes "priority") then Some Priority else
    if bytes_eq bytes (codes "part") then Some Part else
    if bytes_eq bytes (codes "ref") then Some Ref else
    if bytes_eq bytes (codes "oldsub") then Some OldSub else
    if bytes_eq bytes (codes "formerly") then Some Formerly else
    if bytes_eq bytes (codes "fail") then Some Fail else None

-- the word of a line: what stands between its first character, 64 for `@`, and its first space
abbrev pub word_in : List ℕ → Option Word
word_in [] = None
word_in (first ∷ behind) = if first == 64 then word_by (before_first is_space behind) else None

-- the argument of a line: what stands behind its first space, or nothing
abbrev pub argument_in : List ℕ → List ℕ
argument_in line = after_first is_space line
