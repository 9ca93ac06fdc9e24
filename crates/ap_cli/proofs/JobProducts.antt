-- The one product of a thing, as its node tells it.
use Rattle.std.proofs.Common.{◌≡◌, ℕ, Bool, true, false, ◌==◌, List, [], ◌∷◌, length, map, refl, sym, ◌∙◌, ap, subst, cond, arith}
use Rattle.std.specs.Prelude.{Option, Some, None, option_and_then, option_map}
use Rattle.std.proofs.lemmas.Option.{same_Some}
use Rattle.std.proofs.lemmas.Bool.Decides.{Decides-eqb}
use Rattle.ap_content.specs.Things.{Thing, thing, Kids, no_kids, kid, bytes_thing}
use Rattle.ap_content.specs.Entries.{Entry, Stands, StandEach, node_at}
use Rattle.ap_content.specs.declared.node.Number.{Number}
use Rattle.ap_content.specs.declared.node.Node.{Node}
use Rattle.ap_rows.specs.declared.product.ProductRow.{ProductRow}
use Rattle.ap_rows.specs.Readers.{Reader, ◌>>=◌, refuses, number, file_name, name, list_of}
use Rattle.ap_rows.specs.Products.{ref_row, legacy_row, product_row, product_rows, products_by, products_of, whole}
use Rattle.ap_rows.specs.ThingReaders.{times, kid_as, list_of as list_of_things, whole as whole_of}
use Rattle.ap_rows.specs.Forms.{bytes_in, plain_product, product, products_in}
use Rattle.ap_rows.specs.Inputs.{PlainProduct}

-- ---- a row reads alike whatever the number of its bytes

with_bytes : Number → ProductRow → ProductRow
with_bytes n row = record row { bytes = n }

mapped : {X Y : Type 0} → (X → Y) → Option (X × List ℕ) → Option (Y × List ℕ)
mapped make read = option_map (λ parts. (make parts.0, parts.1)) read

module _ {A X Y : Type 0} (make : X → Y) (form : Reader A) (next : A → Reader X) (next' : A → Reader Y) where
  then_mapped : ((a : A) (text : List ℕ) → mapped make (next a text) ≡ next' a text) → (text : List ℕ) → mapped make ((form >>= next) text) ≡ (form >>= next') text
  unfolding mapped
  then_mapped alike text = by_read (form text)
    where
      by_read : (read : Option (A × List ℕ)) → option_map (λ parts. (make parts.0, parts.1)) (option_and_then (λ parts. next parts.0 parts.1) read) ≡ option_and_then (λ parts. next' parts.0 parts.1) read
      by_read None = refl
      by_read (Some read) = alike read.0 read.1

row_with : (n m : Number) (text : List ℕ) → mapped (with_bytes n) (product_row m text) ≡ product_row n text
unfolding product_row mapped with_bytes
row_with n m =
    then_mapped (with_bytes n) file_name _ _ (λ file.
    then_mapped (with_bytes n) name _ _ (λ kind.
    then_mapped (with_bytes n) (number 4) _ _ (λ sub.
    then_mapped (with_bytes n) (list_of 4 ref_row) _ _ (λ refs.
    then_mapped (with_bytes n) legacy_row _ _ (λ legacy text. refl)))))

-- ---- one row, one product

module _ (n : Number) (bytes : List ℕ) (row : ProductRow) where
  abbrev kids_of_row : List Thing
  kids_of_row = bytes_thing bytes ∷ []

  plain_rows : Option (List ProductRow) → Option (List PlainProduct)
  plain_rows rows = option_map (map (λ row. plain_product row bytes)) rows

  -- the row and the bytes behind it, as rows and as products
  rows_from : Option (ProductRow × List ℕ) → Option (List ProductRow)
  rows_from read = whole (option_and_then (λ parts. Some (parts.0 ∷ [], parts.1)) read)

  products_from : Option (ProductRow × List ℕ) → Option (List PlainProduct)
  products_from read =
      whole_of (option_and_then (λ (parts : PlainProduct × List ℕ × List Thing). Some (parts.0 ∷ [], parts.1, parts.2))
      (option_and_then (λ (parts : ProductRow × List ℕ × List Thing). option_and_then (λ (last : List ℕ × List ℕ × List Thing). Some (plain_product parts.0 last.0, last.1, last.2)) (kid_as bytes_in parts.1 parts.2))
      (option_map (λ parts. (parts.0, parts.1, kids_of_row)) read)))

  by_row : (read : Option (ProductRow × List ℕ)) → rows_from (mapped (with_bytes n) read) ≡ Some (row ∷ []) → products_from read ≡ Some (plain_product row bytes ∷ [])
  unfolding with_bytes mapped plain_rows rows_from products_from
  by_row None is = cc
  by_row (Some read) is = by_rest read.1 is
    where
      by_rest : (rest : List ℕ) → whole (Some (with_bytes n read.0 ∷ [], rest)) ≡ Some (row ∷ []) → whole_of (Some (plain_product read.0 bytes ∷ [], rest, [])) ≡ Some (plain_product row bytes ∷ [])
      by_rest [] is = ap plain_rows is
      by_rest (b ∷ rest) is = cc

  by_count : (read : Option (ℕ × List ℕ)) → whole (option_and_then (λ parts. cond (parts.0 == 1) (product_rows (n ∷ [])) refuses parts.1) read) ≡ Some (row ∷ [])
      → whole_of (option_and_then (λ (parts : ℕ × List ℕ × List Thing). times product parts.0 parts.1 parts.2) (option_map (λ parts. (parts.0, parts.1, kids_of_row)) read)) ≡ Some (plain_product row bytes ∷ [])
  unfolding product_rows product rows_from products_from
  by_count None is = cc
  by_count (Some read) is = by_test (read.0 == 1) refl
    where
      by_test : (one : Bool) → (read.0 == 1) ≡ one → whole_of (times product read.0 read.1 kids_of_row) ≡ Some (plain_product row bytes ∷ [])
      by_test true one =
          let count : read.0 ≡ 1 = (Decides-eqb read.0 1).0 one in
          let rows : rows_from (product_row n read.1) ≡ Some (row ∷ []) = subst (λ (t : Bool). whole (cond t (product_rows (n ∷ [])) refuses read.1) ≡ Some (row ∷ [])) one is in
          rw count (by_row (product_row (record { 0 = 0 }) read.1) (ap rows_from (row_with n (record { 0 = 0 }) read.1) ∙ rows))
      by_test false one =
          let none : None ≡ Some (row ∷ []) = subst (λ (t : Bool). whole (cond t (product_rows (n ∷ [])) refuses read.1) ≡ Some (row ∷ [])) one is in
          cc

  one_read : (text : List ℕ) → whole (products_by (n ∷ []) text) ≡ Some (row ∷ []) → whole_of (list_of_things 4 product text kids_of_row) ≡ Some (plain_product row bytes ∷ [])
  unfolding products_by
  one_read text is = by_count (number 4 text) is

-- ---- a thing with one kid

-- its kids stand as its node's kid
only_kid : (contents : List (Option Entry)) (n : Number) (bytes : List ℕ) (kids : Kids) → ((y : Thing) → Stands contents n y → y ≡ bytes_thing bytes) → StandEach contents (n ∷ []) kids → kids ≡ kid (bytes_thing bytes) no_kids
only_kid contents n bytes no_kids are each = absurd each
only_kid contents n bytes (kid y no_kids) are each = ap (λ z. kid z no_kids) (are y each.0)
only_kid contents n bytes (kid y (kid z zs)) are each = absurd each.1

module _ (contents : List (Option Entry)) (m : Number) (node : Node) (at : node_at contents m ≡ Some node) where
  node_stands : (tag : ℕ) (text : List ℕ) (kids : Kids) → Stands contents m (thing tag text kids) → (node.tag ≡ tag) × (node.text ≡ text) × StandEach contents node.kids kids
  node_stands tag text kids stands =
      let same : stands.0 ≡ node = same_Some stands.0 node (sym stands.1 ∙ at) in
      subst (λ (n : Node). (n.tag ≡ tag) × (n.text ≡ text) × StandEach contents n.kids kids) same (stands.2, stands.3, stands.4)

  -- a node of tag 0 with no kids is that of bytes
  pub is_bytes : (x : Thing) → node.tag ≡ 0 → length node.kids ≡ 0 → Stands contents m x → x ≡ bytes_thing node.text
  is_bytes (thing tag text kids) bytes none stands =
      let parts = node_stands tag text kids stands in
      rw (← parts.1, sym parts.0 ∙ bytes, no_kid node.kids kids none parts.2) refl
    where
      no_kid : (numbers : List Number) (kids : Kids) → length numbers ≡ 0 → StandEach contents numbers kids → kids ≡ no_kids
      no_kid [] no_kids none each = refl
      no_kid [] (kid y ys) none each = absurd each
      no_kid (k ∷ ks) kids none each = absurd (omega (arith, none))

  -- its product is that of its node's row
  pub one_product : (row : ProductRow) (bytes : List ℕ) (x : Thing) → products_of node ≡ Some (row ∷ []) → node.kids ≡ row.bytes ∷ [] → ((y : Thing) → Stands contents row.bytes y → y ≡ bytes_thing bytes)
      → Stands contents m x → products_in x ≡ Some (plain_product row bytes ∷ [])
  unfolding products_of products_by products_in
  one_product row bytes (thing tag text kids) rows one are stands =
      let parts = node_stands tag text kids stands in
      let only : kids ≡ kid (bytes_thing bytes) no_kids = only_kid contents row.bytes bytes kids are (subst (λ (l : List Number). StandEach contents l kids) one parts.2) in
      let read : cond (node.tag == 3) (whole (products_by (row.bytes ∷ []) node.text)) None ≡ Some (row ∷ []) = subst (λ (l : List Number). cond (node.tag == 3) (whole (products_by l node.text)) None ≡ Some (row ∷ [])) one rows in
      rw (only, ← parts.0, ← parts.1) (by_tag (node.tag == 3) read)
    where
      by_tag : (is : Bool) → cond is (whole (products_by (row.bytes ∷ []) node.text)) None ≡ Some (row ∷ []) → cond is (whole_of (list_of_things 4 product node.text (bytes_thing bytes ∷ []))) None ≡ Some (plain_product row bytes ∷ [])
      by_tag true read = one_read row.bytes bytes row node.text read
      by_tag false read = cc
