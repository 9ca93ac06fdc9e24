-- A source is put, edited and removed; the items are those that were worked by hand.
use Rattle.std.specs.Prelude.{◌≡◌, ℕ, List, [], ◌∷◌, Some, codes, refl, false}
use Rattle.ap_content.specs.Things.{Thing, thing, kid, no_kids, bytes_thing}
use Rattle.ap_content.specs.declared.node.Number.{Number}
use Rattle.ap_rows.specs.declared.row.SeenRow.TheVariants.{Bytes}
use Rattle.ap_rows.specs.declared.change.Item.TheVariants.{Define, Drop, PutSource, RemoveSource, PutFolders}
use Rattle.ap_rows.specs.declared.row.FolderRow.{FolderRow}
use Rattle.ap_rows.specs.Spelling.{spelled}
use Rattle.ap_rows.specs.Forms.{has_form}
use Rattle.ap_db.specs.Tables.{PlainSource, processed, done}
use Rattle.ap_db.specs.Stored.{Stored, nothing_stored, after_item}
use Rattle.ap_db.specs.Commit.{puts_folders, puts_source, removes_source, puts_job, new_things, new_live, puts_of, drops, commit_items, after_commit}
use Rattle.ap_db.specs.Lawful.{is_lawful_item, is_lawful}

abbrev n : ℕ → Number
n number = record { 0 = number }

-- the first commit of a project without files has these 15 bytes, and so has the same change after it
abbrev game : List FolderRow
game = record { order = 0; path = codes "game" } ∷ []

pub first_bytes : spelled (commit_items nothing_stored (puts_folders game ∷ [])) ≡ 9 ∷ 0 ∷ 0 ∷ 0 ∷ 1 ∷ 0 ∷ 0 ∷ 0 ∷ 0 ∷ 0 ∷ 4 ∷ codes "game"
unfolding after_item new_things new_live puts_of drops commit_items
first_bytes = refl

pub same_bytes : commit_items (after_commit nothing_stored (puts_folders game ∷ [])) (puts_folders game ∷ []) ≡ PutFolders game ∷ []
unfolding after_item new_things new_live puts_of drops commit_items after_commit
same_bytes = refl

abbrev source : List ℕ → PlainSource
source bytes = record { path = codes "a"; order = 0; name = codes "a"; content = Some (bytes_thing bytes) }

pub put : commit_items nothing_stored (puts_source (source (codes "x")) ∷ [])
    ≡ Define 0 (codes "x") [] ∷ PutSource (record { path = codes "a"; order = 0; name = codes "a"; seen = Bytes (n 1) }) ∷ []
unfolding has_form after_item new_things new_live puts_of drops commit_items
put = refl

unfoldable pub with_x : Stored
with_x = after_commit nothing_stored (puts_source (source (codes "x")) ∷ [])

-- the old bytes go in the same record
pub edited : commit_items with_x (puts_source (source (codes "y")) ∷ [])
    ≡ Define 0 (codes "y") [] ∷ PutSource (record { path = codes "a"; order = 0; name = codes "a"; seen = Bytes (n 2) }) ∷ Drop (n 1) ∷ []
unfolding has_form after_item new_things new_live puts_of drops commit_items after_commit with_x
edited = refl

pub gone : commit_items with_x (removes_source (codes "a") ∷ []) ≡ RemoveSource (codes "a") ∷ Drop (n 1) ∷ []
unfolding has_form after_item new_things new_live puts_of drops commit_items after_commit with_x
gone = refl

-- a source that isn't there can't be removed
pub not_there : is_lawful nothing_stored (removes_source (codes "a") ∷ []) ≡ false
unfolding is_lawful_item is_lawful
not_there = refl

-- kids come before what has them, each once, where they are first named
abbrev products : Thing
products = thing 3 [] (kid (bytes_thing (codes "y")) (kid (bytes_thing (codes "x")) (kid (bytes_thing (codes "y")) no_kids)))

pub kids_first : new_things with_x (puts_job (record { id = record { source = codes "a"; key = codes "k"; platform = codes "pc" }; result = processed (bytes_thing (codes "z")) (done products) }) ∷ [])
    ≡ bytes_thing (codes "z") ∷ bytes_thing (codes "y") ∷ products ∷ []
unfolding has_form after_item new_things new_live puts_of drops commit_items after_commit with_x
kids_first = refl
