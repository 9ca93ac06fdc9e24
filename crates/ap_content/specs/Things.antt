-- Things: finite trees of a tag, a text of bytes and things.
use Rattle.std.specs.Prelude.{ℕ, suc, List, [], ◌∷◌, ◌++◌, length}
use Rattle.std.specs.Int.{w64, to_be_bytes}
use Rattle.sha1.specs.Sha1.{sha1}

-- a thing has a tag, a text and kids, which are things
mutual
  pub data Thing : Type 0 where
    thing : ℕ → List ℕ → Kids → Thing

  pub data Kids : Type 0 where
    no_kids : Kids
    kid : Thing → Kids → Kids

-- kids, as a list gives them
abbrev pub kids_of : List Thing → Kids
kids_of [] = no_kids
kids_of (x ∷ xs) = kid x (kids_of xs)

-- how many kids there are
abbrev pub number_of_kids : Kids → ℕ
number_of_kids no_kids = 0
number_of_kids (kid x xs) = suc (number_of_kids xs)

-- the thing of a text of bytes
abbrev pub bytes_thing : List ℕ → Thing
bytes_thing bytes = thing 0 bytes no_kids

-- what is digested of a thing: its tag, its text and its kids' digests, each list behind its length
abbrev pub digested : ℕ → List ℕ → ℕ → List ℕ → List ℕ
digested tag text count digests = tag ∷ to_be_bytes w64 (length text) ++ text ++ to_be_bytes w64 count ++ digests

-- the digest of a thing, and the digests of kids one after another
abbrev mutual
  pub digest : Thing → List ℕ
  digest (thing tag text kids) = sha1 (digested tag text (number_of_kids kids) (digests kids))

  pub digests : Kids → List ℕ
  digests no_kids = []
  digests (kid x xs) = digest x ++ digests xs
