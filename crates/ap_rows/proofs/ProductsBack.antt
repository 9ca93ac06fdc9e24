-- The node of products is read back.
use Rattle.std.proofs.Common.{◌≡◌, ◌<◌, ℕ, suc, true, ◌==◌, List, [], ◌∷◌, ◌++◌, length, map, get_or, All, Some, refl, ap, sym, ◌∙◌, append_assoc, cond, arith}
use Rattle.std.specs.List.{list_all, flat_map}
use Rattle.std.proofs.lemmas.List.{append-nil, length-map}
use Rattle.std.proofs.lemmas.Bool.Decides.{Decides-eqb}
use Rattle.ap_rows.specs.declared.product.RefRow.{RefRow}
use Rattle.ap_rows.specs.declared.product.LegacyRow.{LegacyRow}
use Rattle.ap_rows.specs.declared.product.ProductRow.{ProductRow}
use Rattle.ap_rows.specs.Fields.{number_field, list_field, path_field, name_field}
use Rattle.ap_rows.specs.Readers.{Reader, ◌>>=◌, gives, refuses, number, list_of, path, name, file_name, is_folded}
use Rattle.ap_rows.specs.Typed.{TypedRef, TypedLegacy, TypedProduct}
use Rattle.ap_rows.specs.Products.{ref_field, legacy_field, product_field, node_of, is_folded_product, ref_row, legacy_row, product_row, product_rows, products_by, products_of, whole}
use Rattle.ap_rows.proofs.Chains.{ReadsBack, Back, chain2, first-back, number-back, list-back}
use Rattle.ap_rows.proofs.ReadBack.{both, each, path-back, name-back, file_name-back}

ref-back : (ref : RefRow) → TypedRef ref → is_folded ref.path ≡ true → ReadsBack ref_row ref_field ref
unfolding ref_row
ref-back ref t folded = chain2 path (number 4) (λ path sub. record { path = path; sub = sub }) (path_field ref.path) (number_field 4 ref.sub) ref.path ref.sub (path-back ref.path t.0 folded) (number-back 4 ref.sub t.1)

legacy-back : (legacy : LegacyRow) → TypedLegacy legacy → list_all is_folded legacy.formerly ≡ true → ReadsBack legacy_row legacy_field legacy
unfolding legacy_row
legacy-back legacy t folded =
    let folds = each is_folded legacy.formerly folded in
    chain2 (list_of 4 (number 4)) (list_of 4 path) (λ old formerly. record { old = old; formerly = formerly }) (list_field 4 (number_field 4) legacy.old) (list_field 4 path_field legacy.formerly) legacy.old legacy.formerly
    (list-back (number 4) (number_field 4) legacy.old t.0.0 (λ k d within. number-back 4 (get_or legacy.old k d) (t.0.1 k d within)))
    (list-back path path_field legacy.formerly t.1.0 (λ k d within. path-back (get_or legacy.formerly k d) (t.1.1 k d within) (folds k d within)))

module _ {A B C D E Z : Type 0} (f : Reader A) (g : Reader B) (h : Reader C) (i : Reader D) (j : Reader E) (make : A → B → C → D → E → Z) where
  chain5 : (p q r s t : List ℕ) (a : A) (b : B) (c : C) (d : D) (e : E) → Back f p a → Back g q b → Back h r c → Back i s d → Back j t e
      → Back (f >>= λ x. g >>= λ y. h >>= λ z. i >>= λ w. j >>= λ v. gives (make x y z w v)) (p ++ q ++ r ++ s ++ t) (make a b c d e)
  chain5 p q r s t a b c d e fp gq hr is jt after =
      simp append_assoc (rw (fp (q ++ (r ++ (s ++ (t ++ after)))), gq (r ++ (s ++ (t ++ after))), hr (s ++ (t ++ after)), is (t ++ after), jt after) refl)

pub product-back : (row : ProductRow) → TypedProduct row → is_folded_product row ≡ true → Back (product_row row.bytes) (product_field row) row
unfolding product_row
product-back row t folded =
    let folds = both (list_all (λ ref. is_folded ref.path) row.refs) (list_all is_folded row.legacy.formerly) folded in
    let refs = each (λ (ref : RefRow). is_folded ref.path) row.refs folds.0 in
    chain5 file_name name (number 4) (list_of 4 ref_row) legacy_row (λ file kind sub refs legacy. record { name = file; kind = kind; sub = sub; bytes = row.bytes; refs = refs; legacy = legacy })
    (path_field row.name) (name_field row.kind) (number_field 4 row.sub) (list_field 4 ref_field row.refs) (legacy_field row.legacy) row.name row.kind row.sub row.refs row.legacy
    (file_name-back row.name t.0) (name-back row.kind t.1) (number-back 4 row.sub t.2)
    (list-back ref_row ref_field row.refs t.3.0 (λ k d within. ref-back (get_or row.refs k d) (t.3.1 k d within) (refs k d within)))
    (legacy-back row.legacy t.4 folds.1)

rows-back : (rows : List ProductRow) → All (λ row. Back (product_row row.bytes) (product_field row) row) rows → Back (product_rows (map (λ row. row.bytes) rows)) (flat_map product_field rows) rows
unfolding product_rows
rows-back [] h after = refl
rows-back (row ∷ rows) h after =
    rw (append_assoc (product_field row) (flat_map product_field rows) after, h 0 row (omega arith) (flat_map product_field rows ++ after), rows-back rows (λ k d within. h (suc k) d (omega arith)) after) refl

by-back : (rows : List ProductRow) → length rows < 4294967296 → All (λ row. Back (product_row row.bytes) (product_field row) row) rows
    → Back (products_by (map (λ row. row.bytes) rows)) (list_field 4 product_field rows) rows
unfolding products_by
by-back rows fits h =
    let kids = map (λ (row : ProductRow). row.bytes) rows in
    let long : length kids ≡ length rows = length-map rows (λ (row : ProductRow). row.bytes) in
    let same : (length rows == length kids) ≡ true = (Decides-eqb (length rows) (length kids)).1 (sym long) in
    first-back (number 4) (λ count. cond (count == length kids) (product_rows kids) refuses) (number_field 4 (length rows)) (flat_map product_field rows) (length rows) rows (number-back 4 (length rows) fits)
    (λ after. rw same (rows-back rows h after))

pub node-back : (rows : List ProductRow) → length rows < 4294967296 → All TypedProduct rows → list_all is_folded_product rows ≡ true → products_of (node_of rows) ≡ Some rows
unfolding products_of
node-back rows fits typed folded =
    let folds = each is_folded_product rows folded in
    let back = by-back rows fits (λ k d within. product-back (get_or rows k d) (typed k d within) (folds k d within)) in
    let read : products_by (map (λ row. row.bytes) rows) (list_field 4 product_field rows) ≡ Some (rows, []) = ap (products_by (map (λ row. row.bytes) rows)) (sym (append-nil (list_field 4 product_field rows))) ∙ back [] in
    ap whole read
