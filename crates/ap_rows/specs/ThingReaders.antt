-- Forms that the text of a thing and its kids may begin with: fields of the text, and the kids that they ask for.
use Rattle.std.specs.Prelude.{ℕ, zero, suc, List, [], ◌∷◌, Option, Some, None, option_map, option_and_then}
use Rattle.ap_content.specs.Things.{Thing}
use Rattle.ap_rows.specs.Readers.{Reader, number}

-- what begins a text and its kids, and the text and the kids behind it; None where nothing of this form does
abbrev pub ThingReader : Type 0 → Type 0
ThingReader X = List ℕ → List Thing → Option (X × List ℕ × List Thing)

-- one form, and then the next
infixl 20 ◌>>=◌
abbrev pub ◌>>=◌ : {X Y : Type 0} → ThingReader X → (X → ThingReader Y) → ThingReader Y
◌>>=◌ first next text kids = option_and_then (λ read. next read.0 read.1 read.2) (first text kids)

-- a value, of nothing
abbrev pub gives : {X : Type 0} → X → ThingReader X
gives x text kids = Some (x, text, kids)

-- no form at all
abbrev pub refuses : {X : Type 0} → ThingReader X
refuses text kids = None

-- a field of the text
abbrev pub field : {X : Type 0} → Reader X → ThingReader X
field reader text kids = option_map (λ read. (read.0, read.1, kids)) (reader text)

-- the next kid, where it stands for something
abbrev pub kid_as : {X : Type 0} → (Thing → Option X) → ThingReader X
kid_as meaning text [] = None
kid_as meaning text (x ∷ kids) = option_map (λ y. (y, text, kids)) (meaning x)

-- so many items
abbrev pub times : {X : Type 0} → ThingReader X → ℕ → ThingReader (List X)
times item zero = gives []
times item (suc n) = item >>= λ x. times item n >>= λ xs. gives (x ∷ xs)

-- a count of so many bytes, and the items
abbrev pub list_of : {X : Type 0} → ℕ → ThingReader X → ThingReader (List X)
list_of width item = field (number width) >>= times item

-- what was read, where neither text nor kids are left
abbrev pub all_of : {X : Type 0} → X → List ℕ → List Thing → Option X
all_of x [] [] = Some x
all_of x [] (y ∷ kids) = None
all_of x (b ∷ text) kids = None

abbrev pub whole : {X : Type 0} → Option (X × List ℕ × List Thing) → Option X
whole read = option_and_then (λ parts. all_of parts.0 parts.1 parts.2) read
