-- Rows that are the same are one.
use Rattle.std.proofs.Common.{◌≡◌, ◌==◌, ◌&&◌, true, List, [], ◌∷◌, Option, Some, None, refl, ap}
use Rattle.std.specs.Prelude.{bytes_eq}
use Rattle.std.proofs.lemmas.Bool.Decides.{Decides-eqb}
use Rattle.std.proofs.lemmas.Slice.Eq.{bytes_eq-Decides}
use Rattle.ap_content.specs.Things.{Thing}
use Rattle.ap_rows.specs.declared.row.FolderRow.{FolderRow}
use Rattle.ap_db.specs.SameThings.{both_parts, one_if_same}
use Rattle.ap_db.specs.Tables.{PlainSource}
use Rattle.ap_engine.specs.Rows.{same_folders, same_content, same_source}

folder_path : (a b : FolderRow) → a.order ≡ b.order → a.path ≡ b.path → a ≡ b
folder_path a b p q = λ i. record { order = p i; path = q i }

one_folder : (a b : FolderRow) → (a.order == b.order && bytes_eq a.path b.path) ≡ true → a ≡ b
one_folder a b h = let parts = both_parts (a.order == b.order) (bytes_eq a.path b.path) h in
    folder_path a b ((Decides-eqb a.order b.order).0 parts.0) ((bytes_eq-Decides a.path b.path).0 parts.1)

pub one_folders : (xs ys : List FolderRow) → same_folders xs ys ≡ true → xs ≡ ys
one_folders [] [] h = refl
one_folders [] (y ∷ ys) h = absurd (cc h)
one_folders (x ∷ xs) [] h = absurd (cc h)
one_folders (x ∷ xs) (y ∷ ys) h =
    let parts = both_parts (x.order == y.order && bytes_eq x.path y.path) (same_folders xs ys) h in
    let first : x ≡ y = one_folder x y parts.0 in
    let others : xs ≡ ys = one_folders xs ys parts.1 in
    λ i. first i ∷ others i

one_content : (a b : Option Thing) → same_content a b ≡ true → a ≡ b
one_content None None h = refl
one_content None (Some y) h = absurd (cc h)
one_content (Some x) None h = absurd (cc h)
one_content (Some x) (Some y) h = ap Some (one_if_same x y h)

source_path : (a b : PlainSource) → a.path ≡ b.path → a.order ≡ b.order → a.name ≡ b.name → a.content ≡ b.content → a ≡ b
source_path a b p q r s = λ i. record { path = p i; order = q i; name = r i; content = s i }

pub one_source : (a b : PlainSource) → same_source a b ≡ true → a ≡ b
one_source a b h =
    let last = both_parts (bytes_eq a.path b.path && a.order == b.order && bytes_eq a.name b.name) (same_content a.content b.content) h in
    let third = both_parts (bytes_eq a.path b.path && a.order == b.order) (bytes_eq a.name b.name) last.0 in
    let first = both_parts (bytes_eq a.path b.path) (a.order == b.order) third.0 in
    source_path a b ((bytes_eq-Decides a.path b.path).0 first.0) ((Decides-eqb a.order b.order).0 first.1) ((bytes_eq-Decides a.name b.name).0 third.1) (one_content a.content b.content last.1)
