-- Products that are read one after another.
use Rattle.std.proofs.Common.{◌≡◌, ◌<◌, ◌+◌, ℕ, List, [], ◌∷◌, ◌++◌, length, drop, get_or, Option, Some, None, option_and_then, refl, ap, sym, ◌∙◌, append_assoc, add-one, ◌==◌, cond, arith}
use Rattle.std.proofs.Math.Seq.{drop-cons}
use Rattle.ap_content.specs.declared.node.Number.{Number}
use Rattle.ap_content.specs.declared.node.Node.{Node}
use Rattle.ap_rows.specs.declared.product.ProductRow.{ProductRow}
use Rattle.ap_rows.specs.Listing.{items_behind}
use Rattle.ap_rows.specs.Readers.{number, refuses}
use Rattle.ap_rows.specs.Products.{product_row, product_rows, products_by, products_of, whole}
use Rattle.ap_text.proofs.Deciding.{refused}
use Rattle.std.proofs.lemmas.Bool.Decides.{Decides-eqb}

behind-more : (front : List ProductRow) (row : ProductRow) (rest : Option (List ProductRow × List ℕ)) → items_behind front (items_behind (row ∷ []) rest) ≡ items_behind (front ++ row ∷ []) rest
behind-more front row None = refl
behind-more front row (Some read) = ap (λ xs. Some (xs, read.1)) (sym (append_assoc front (row ∷ []) read.0))

one-row : (kid : Number) (kids : List Number) (row : ProductRow) (old new : List ℕ) → product_row kid old ≡ Some (row, new) → product_rows (kid ∷ kids) old ≡ items_behind (row ∷ []) (product_rows kids new)
unfolding product_rows
one-row kid kids row old new e = rw e (others (product_rows kids new))
  where
    others : (rest : Option (List ProductRow × List ℕ)) → option_and_then (λ read. Some (row ∷ read.0, read.1)) rest ≡ items_behind (row ∷ []) rest
    others None = refl
    others (Some read) = refl

no-row : (kid : Number) (kids : List Number) (old : List ℕ) → product_row kid old ≡ None → product_rows (kid ∷ kids) old ≡ None
unfolding product_rows
no-row kid kids old e = rw e refl

split-at : (kids : List Number) (i : ℕ) (d : Number) → i < length kids → drop i kids ≡ get_or kids i d ∷ drop (i + 1) kids
split-at kids i d within = rw add-one (drop-cons kids i d within)

pub rows-step : (kids : List Number) (i : ℕ) (d : Number) (front : List ProductRow) (row : ProductRow) (old new : List ℕ) → i < length kids → product_row (get_or kids i d) old ≡ Some (row, new)
    → items_behind front (product_rows (drop i kids) old) ≡ items_behind (front ++ row ∷ []) (product_rows (drop (i + 1) kids) new)
rows-step kids i d front row old new within e =
    ap (λ left. items_behind front (product_rows left old)) (split-at kids i d within)
    ∙ ap (items_behind front) (one-row (get_or kids i d) (drop (i + 1) kids) row old new e)
    ∙ behind-more front row (product_rows (drop (i + 1) kids) new)

pub rows-bad : (kids : List Number) (i : ℕ) (d : Number) (front : List ProductRow) (old : List ℕ) → i < length kids → product_row (get_or kids i d) old ≡ None → items_behind front (product_rows (drop i kids) old) ≡ None
rows-bad kids i d front old within e = ap (λ left. items_behind front (product_rows left old)) (split-at kids i d within) ∙ ap (items_behind front) (no-row (get_or kids i d) (drop (i + 1) kids) old e)

pub rows-done : (front : List ProductRow) (old : List ℕ) → items_behind front (product_rows [] old) ≡ Some (front ++ [], old)
unfolding product_rows
rows-done front old = refl

module _ (kids : List Number) (text : List ℕ) where
  pub no-count : number 4 text ≡ None → whole (products_by kids text) ≡ None
  unfolding products_by
  no-count e = rw e refl

  counted : (count : ℕ) (rest : List ℕ) → number 4 text ≡ Some (count, rest) → products_by kids text ≡ cond (count == length kids) (product_rows kids) refuses rest
  unfolding products_by
  counted count rest e = rw e refl

  pub other-count : (count : ℕ) (rest : List ℕ) → number 4 text ≡ Some (count, rest) → (count ≡ length kids → ⊥) → whole (products_by kids text) ≡ None
  other-count count rest e other = ap whole (counted count rest e ∙ ap (λ b. cond b (product_rows kids) refuses rest) (refused (count == length kids) (Decides-eqb count (length kids)) other))

  same-count : (count : ℕ) (rest : List ℕ) → number 4 text ≡ Some (count, rest) → count ≡ length kids → products_by kids text ≡ product_rows kids rest
  same-count count rest e same = counted count rest e ∙ ap (λ b. cond b (product_rows kids) refuses rest) ((Decides-eqb count (length kids)).1 same)

  pub no-rows : (count : ℕ) (rest : List ℕ) → number 4 text ≡ Some (count, rest) → count ≡ length kids → product_rows kids rest ≡ None → whole (products_by kids text) ≡ None
  no-rows count rest e same none = ap whole (same-count count rest e same ∙ none)

  pub all-rows : (count : ℕ) (rest : List ℕ) (rows : List ProductRow) (left : List ℕ) → number 4 text ≡ Some (count, rest) → count ≡ length kids → product_rows kids rest ≡ Some (rows, left) → length left ≡ 0
      → whole (products_by kids text) ≡ Some rows
  all-rows count rest rows [] e same read none = ap whole (same-count count rest e same ∙ read)
  all-rows count rest rows (b ∷ left) e same read none = absurd (omega arith)

  pub more-bytes : (count : ℕ) (rest : List ℕ) (rows : List ProductRow) (left : List ℕ) → number 4 text ≡ Some (count, rest) → count ≡ length kids → product_rows kids rest ≡ Some (rows, left) → 0 < length left
      → whole (products_by kids text) ≡ None
  more-bytes count rest rows [] e same read some = absurd (omega arith)
  more-bytes count rest rows (b ∷ left) e same read some = ap whole (same-count count rest e same ∙ read)

pub other-tag : (node : Node) → (node.tag ≡ 3 → ⊥) → products_of node ≡ None
unfolding products_of
other-tag node other = rw (refused (node.tag == 3) (Decides-eqb node.tag 3) other) refl

pub tagged : (node : Node) → node.tag ≡ 3 → products_of node ≡ whole (products_by node.kids node.text)
unfolding products_of
tagged node same = ap (λ b. cond b (whole (products_by node.kids node.text)) None) ((Decides-eqb node.tag 3).1 same)
