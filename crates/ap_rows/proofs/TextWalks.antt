-- Fields that ask for no kids are walked past as they are read.
use Rattle.std.proofs.Common.{◌≡◌, ℕ, zero, suc, List, ◌∷◌, Option, Some, None, option_map, option_and_then, refl, ap, ◌∙◌}
use Rattle.ap_content.specs.declared.node.Number.{Number}
use Rattle.ap_rows.specs.Readers.{Reader, ◌>>=◌, gives, number, times, list_of, path, name, file_name}
use Rattle.ap_rows.specs.declared.product.RefRow.{RefRow}
use Rattle.ap_rows.specs.Products.{ref_row, legacy_row, product_row}
use Rattle.ap_rows.specs.Walks.{Walk, nothing, field_then, walk_then, walk_times, list_walk, ref_walk, old_walk, formerly_walk, legacy_walk, row_walk}

-- the walk leaves what reading leaves, and all kids
abbrev pub Same : {X : Type 0} → Reader X → Walk → Type 0
Same reader walk = (text : List ℕ) (tags : List (Option ℕ)) → walk text tags ≡ option_map (λ p. (p.1, tags)) (reader text)

module _ {X Y : Type 0} (reader : Reader X) (next : X → Reader Y) where
  field-step : (after : X → Walk) → ((x : X) → Same (next x) (after x)) → (tags : List (Option ℕ)) (read : Option (X × List ℕ))
      → option_and_then (λ (p : X × List ℕ). after p.0 p.1 tags) read ≡ option_map (λ (p : Y × List ℕ). (p.1, tags)) (option_and_then (λ (p : X × List ℕ). next p.0 p.1) read)
  field-step after more tags None = refl
  field-step after more tags (Some p) = more p.0 p.1 tags

  pub field-same : (after : X → Walk) → ((x : X) → Same (next x) (after x)) → Same (reader >>= next) (field_then reader after)
  field-same after more text tags = field-step after more tags (reader text)

  then-step : (after : Walk) → ((x : X) → Same (next x) after) → (tags : List (Option ℕ)) (read : Option (X × List ℕ)) (walked : Option (List ℕ × List (Option ℕ)))
      → walked ≡ option_map (λ (p : X × List ℕ). (p.1, tags)) read
      → option_and_then (λ (l : List ℕ × List (Option ℕ)). after l.0 l.1) walked ≡ option_map (λ (p : Y × List ℕ). (p.1, tags)) (option_and_then (λ (p : X × List ℕ). next p.0 p.1) read)
  then-step after more tags None walked e = ap (option_and_then (λ (l : List ℕ × List (Option ℕ)). after l.0 l.1)) e
  then-step after more tags (Some p) walked e = ap (option_and_then (λ (l : List ℕ × List (Option ℕ)). after l.0 l.1)) e ∙ more p.0 p.1 tags

  pub then-same : (walk after : Walk) → Same reader walk → ((x : X) → Same (next x) after) → Same (reader >>= next) (walk_then walk after)
  then-same walk after first more text tags = then-step after more tags (reader text) (walk text tags) (first text tags)

module _ {X Y : Type 0} (reader : Reader X) (make : X → Y) where
  last-step : (tags : List (Option ℕ)) (read : Option (X × List ℕ))
      → option_map {U = List ℕ × List (Option ℕ)} (λ (p : X × List ℕ). (p.1, tags)) read ≡ option_map (λ (p : Y × List ℕ). (p.1, tags)) (option_and_then (λ (p : X × List ℕ). gives (make p.0) p.1) read)
  last-step tags None = refl
  last-step tags (Some p) = refl

  -- what is made of its value
  pub last-same : (walk : Walk) → Same reader walk → Same (reader >>= λ x. gives (make x)) walk
  last-same walk first text tags = first text tags ∙ last-step tags (reader text)

pub gives-same : {X : Type 0} (x : X) → Same (gives x) nothing
gives-same x text tags = refl

module _ {X : Type 0} (reader : Reader X) where
  alone-step : (tags : List (Option ℕ)) (read : Option (X × List ℕ)) → option_and_then (λ (p : X × List ℕ). nothing p.1 tags) read ≡ option_map {U = List ℕ × List (Option ℕ)} (λ (p : X × List ℕ). (p.1, tags)) read
  alone-step tags None = refl
  alone-step tags (Some p) = refl

  -- a field
  pub alone-same : Same reader (field_then reader (λ _. nothing))
  alone-same text tags = alone-step tags (reader text)

module _ {X : Type 0} (item : Reader X) (walk : Walk) (each : Same item walk) where
  pub times-same : (n : ℕ) → Same (times item n) (walk_times walk n)
  times-same zero text tags = refl
  times-same (suc n) text tags =
      then-same item (λ x. times item n >>= λ xs. gives (x ∷ xs)) walk (walk_times walk n) each
      (λ x. last-same (times item n) (λ xs. x ∷ xs) (walk_times walk n) (times-same n)) text tags

  pub list-same : (width : ℕ) → Same (list_of width item) (list_walk width walk)
  list-same width = field-same (number width) (times item) (walk_times walk) times-same

ref-same : Same ref_row ref_walk
unfolding ref_row
ref-same =
    field-same path (λ p. number 4 >>= λ sub. gives (record { path = p; sub = sub })) (λ _. field_then (number 4) (λ _. nothing))
    (λ p. field-same (number 4) (λ sub. gives (record { path = p; sub = sub })) (λ _. nothing) (λ sub. gives-same {X = RefRow} (record { path = p; sub = sub })))

legacy-same : Same legacy_row legacy_walk
unfolding legacy_row
legacy-same =
    then-same (list_of 4 (number 4)) (λ old. list_of 4 path >>= λ formerly. gives (record { old = old; formerly = formerly })) (list_walk 4 old_walk) (list_walk 4 formerly_walk)
    (list-same (number 4) old_walk (alone-same (number 4)) 4)
    (λ old. last-same (list_of 4 path) (λ formerly. record { old = old; formerly = formerly }) (list_walk 4 formerly_walk) (list-same path formerly_walk (alone-same path) 4))

-- the row of a product
pub row-same : (bytes : Number) → Same (product_row bytes) row_walk
unfolding product_row
row-same bytes =
    field-same file_name _ _ (λ file. field-same name _ _ (λ kind. field-same (number 4) _ _ (λ sub.
    then-same (list_of 4 ref_row) _ (list_walk 4 ref_walk) legacy_walk (list-same ref_row ref_walk ref-same 4) (λ refs. last-same legacy_row _ legacy_walk legacy-same))))
