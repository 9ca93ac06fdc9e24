-- A node of products is that of the products that it is read as.
use Rattle.std.proofs.Common.{◌≡◌, ◌<◌, ◌^◌, ℕ, true, ◌==◌, ◌&&◌, List, [], ◌∷◌, ◌++◌, length, map, Option, Some, None, cond, refl, ap, sym, ◌∙◌, All, arith, subst, zero, suc}
use Rattle.std.specs.List.{list_all, flat_map}
use Rattle.std.proofs.lemmas.List.{append-nil, length-map}
use Rattle.std.proofs.lemmas.Bool.Decides.{Decides-eqb}
use Rattle.ap_content.specs.declared.node.Number.{Number}
use Rattle.ap_content.specs.declared.node.Node.{Node}
use Rattle.ap_rows.specs.declared.product.RefRow.{RefRow}
use Rattle.ap_rows.specs.declared.product.LegacyRow.{LegacyRow}
use Rattle.ap_rows.specs.declared.product.ProductRow.{ProductRow}
use Rattle.ap_rows.specs.Fields.{number_field, list_field, path_field, name_field}
use Rattle.ap_text.specs.NameRules.{is_name, is_file_name}
use Rattle.ap_rows.specs.Readers.{◌>>=◌, gives, refuses, number, list_of, path, name, file_name, is_folded}
use Rattle.ap_rows.specs.Products.{ref_field, legacy_field, product_field, node_of, is_folded_product, HasCounts, CanBeSpelled, ref_row, legacy_row, product_row, product_rows, products_by, whole}
use Rattle.ap_rows.proofs.Numbers.{IsBytes}
use Rattle.ap_rows.proofs.Told.{Told, then-told, gives-told, refuses-told, last-told, whether, number-told, list-counted, told2, told5}
use Rattle.ap_rows.proofs.OneSpelling.{Passes, path-told, name-told, file_name-told}

ref-told : Told ref_row ref_field (λ ref. is_folded ref.path ≡ true)
unfolding ref_row
ref-told =
    told2 ref_field (λ ref. is_folded ref.path ≡ true) path (number 4) (λ path sub. record { path = path; sub = sub }) path_field (number_field 4) (Passes is_folded) (λ n. n < 256 ^ 4)
    [] path-told (number-told 4) (λ path sub folded fits. (refl, folded))

-- its paths are folded, and its counts fit
abbrev pub IsLegacy : LegacyRow → Type 0
IsLegacy legacy = (list_all is_folded legacy.formerly ≡ true) × (length legacy.old < 256 ^ 4) × (length legacy.formerly < 256 ^ 4)

legacy-told : Told legacy_row legacy_field IsLegacy
unfolding legacy_row
legacy-told =
    told2 legacy_field IsLegacy (list_of 4 (number 4)) (list_of 4 path) (λ old formerly. record { old = old; formerly = formerly })
    (list_field 4 (number_field 4)) (list_field 4 path_field) (λ old. (list_all (λ n. true) old ≡ true) × (length old < 256 ^ 4)) (λ formerly. (list_all is_folded formerly ≡ true) × (length formerly < 256 ^ 4))
    [] (list-counted (number 4) (number_field 4) (λ n. true) plain) (list-counted path path_field is_folded path-told) (λ old formerly o f. (refl, (f.0, o.1, f.1)))
  where
    plain : Told (number 4) (number_field 4) (λ n. true ≡ true)
    plain old n new bytes e = let told = number-told 4 old n new bytes e in (told.0, refl, told.2)

-- it has these bytes, what it names is folded, and its counts fit
abbrev pub IsRow : Number → ProductRow → Type 0
IsRow bytes row = (row.bytes ≡ bytes) × (is_folded_product row ≡ true) × HasCounts row

product-told : (bytes : Number) → Told (product_row bytes) product_field (IsRow bytes)
unfolding product_row
product-told bytes =
    told5 product_field (IsRow bytes) file_name name (number 4) (list_of 4 ref_row) legacy_row
    (λ file kind sub refs legacy. record { name = file; kind = kind; sub = sub; bytes = bytes; refs = refs; legacy = legacy })
    path_field name_field (number_field 4) (list_field 4 ref_field) legacy_field
    (Passes is_file_name) (Passes is_name) (λ n. n < 256 ^ 4) (λ refs. (list_all (λ (ref : RefRow). is_folded ref.path) refs ≡ true) × (length refs < 256 ^ 4)) IsLegacy
    [] file_name-told name-told (number-told 4) (list-counted ref_row ref_field (λ ref. is_folded ref.path) ref-told) legacy-told
    (λ file kind sub refs legacy f k fits r l. (refl, (refl, ap (λ b. b && list_all is_folded legacy.formerly) r.0 ∙ l.0, record { refs = r.1; old = l.1; formerly = l.2 })))

-- each has its bytes, what they name is folded, and their counts fit
abbrev pub AreRows : List Number → List ProductRow → Type 0
AreRows kids rows = (map (λ row. row.bytes) rows ≡ kids) × (list_all is_folded_product rows ≡ true) × All HasCounts rows

all-more : (row : ProductRow) (rows : List ProductRow) → HasCounts row → All HasCounts rows → All HasCounts (row ∷ rows)
all-more row rows h more zero d within = h
all-more row rows h more (suc k) d within = more k d (omega arith)

rows-told : (kids : List Number) → Told (product_rows kids) (flat_map product_field) (AreRows kids)
unfolding product_rows
rows-told [] = gives-told (flat_map product_field) (AreRows []) [] [] refl (refl, refl, λ k d within. absurd (omega arith))
rows-told (kid ∷ kids) =
    then-told (flat_map product_field) (AreRows (kid ∷ kids)) (product_row kid) (λ row. product_rows kids >>= λ rows. gives (row ∷ rows)) product_field (IsRow kid) [] (product-told kid)
    (λ row good. then-told (flat_map product_field) (AreRows (kid ∷ kids)) (product_rows kids) (λ rows. gives (row ∷ rows)) (flat_map product_field) (AreRows kids) (product_field row) (rows-told kids)
    (λ rows fine. gives-told (flat_map product_field) (AreRows (kid ∷ kids)) (row ∷ rows) (product_field row ++ flat_map product_field rows) refl (
      ap (λ n. n ∷ map (λ (row : ProductRow). row.bytes) rows) good.0 ∙ ap (λ ns. kid ∷ ns) fine.0,
      ap (λ b. b && list_all is_folded_product rows) good.1 ∙ fine.1,
      all-more row rows good.2 fine.2,
    )))

-- the same, and their count fits
abbrev pub Counted : List Number → List ProductRow → Type 0
Counted kids rows = AreRows kids rows × (length rows < 256 ^ 4)

by-told : (kids : List Number) → Told (products_by kids) (list_field 4 product_field) (Counted kids)
unfolding products_by
by-told kids =
    then-told (list_field 4 product_field) (Counted kids) (number 4) (λ count. cond (count == length kids) (product_rows kids) refuses) (number_field 4) (λ n. n < 256 ^ 4) [] (number-told 4)
    (λ count fits. whether (list_field 4 product_field) (Counted kids) (count == length kids) (number_field 4 count) (product_rows kids) refuses
    (λ same. last-told (list_field 4 product_field) (Counted kids) (product_rows kids) (flat_map product_field) (AreRows kids) (number_field 4 count) (rows-told kids)
    (λ rows are. ap (λ n. number_field 4 n ++ flat_map product_field rows) (many count rows same are.0)) (λ rows are. (are, subst (λ m. m < 256 ^ 4) (many count rows same are.0) fits)))
    (refuses-told (list_field 4 product_field) (Counted kids) (number_field 4 count)))
  where
    many : (count : ℕ) (rows : List ProductRow) → (count == length kids) ≡ true → map (λ row. row.bytes) rows ≡ kids → count ≡ length rows
    many count rows same are = (Decides-eqb count (length kids)).0 same ∙ sym (ap length are) ∙ length-map rows (λ (row : ProductRow). row.bytes)

all-read : (rows : List ProductRow) (read : Option (List ProductRow × List ℕ)) → whole read ≡ Some rows → read ≡ Some (rows, [])
all-read rows None e = absurd (cc)
all-read rows (Some read) e = of read.0 read.1 e
  where
    of : (xs : List ProductRow) (left : List ℕ) → whole (Some (xs, left)) ≡ Some rows → ◌≡◌ {A = Option (List ProductRow × List ℕ)} (Some (xs, left)) (Some (rows, []))
    of xs [] e = let same : xs ≡ rows = cc in let pair : List ProductRow → Option (List ProductRow × List ℕ) = λ ys. Some (ys, []) in ap pair same
    of xs (b ∷ left) e = absurd (cc)

pub text-told : (kids : List Number) (text : List ℕ) (rows : List ProductRow) → IsBytes text → whole (products_by kids text) ≡ Some rows
    → (node_of rows ≡ record { tag = 3; text = text; kids = kids }) × CanBeSpelled rows
text-told kids text rows bytes e =
    let told = by-told kids text rows [] bytes (all-read rows (products_by kids text) e) in
    let spells : list_field 4 product_field rows ≡ text = sym (append-nil (list_field 4 product_field rows)) ∙ sym told.0 in
    let made : List ℕ → List Number → Node = λ text kids. record { tag = 3; text = text; kids = kids } in
    (ap (λ t. made t (map (λ (row : ProductRow). row.bytes) rows)) spells ∙ ap (made text) told.1.0.0, record { folded = told.1.0.1; count = told.1.1; counts = told.1.0.2 })
