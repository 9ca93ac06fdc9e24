-- When two things are the same.
use Rattle.std.specs.Prelude.{ℕ, Bool, true, false, ◌==◌, ◌&&◌, bytes_eq, List}
use Rattle.std.specs.List.{list_any}
use Rattle.ap_content.specs.Things.{Thing, Kids, thing, no_kids, kid}

-- tag by tag, text by text and kid by kid
abbrev mutual
  pub same_thing : Thing → Thing → Bool
  same_thing (thing tag text kids) (thing tag' text' kids') = tag == tag' && bytes_eq text text' && same_kids kids kids'

  pub same_kids : Kids → Kids → Bool
  same_kids no_kids no_kids = true
  same_kids no_kids (kid y ys) = false
  same_kids (kid x xs) no_kids = false
  same_kids (kid x xs) (kid y ys) = same_thing x y && same_kids xs ys

-- a thing is one of these
abbrev pub is_among : List Thing → Thing → Bool
is_among things x = list_any (same_thing x) things

-- the tag of a thing
abbrev pub tag_of : Thing → ℕ
tag_of (thing tag text kids) = tag
