-- The nodes of inputs are those of the things that the inputs are, where their numbers stand for things.
use Rattle.std.proofs.Common.{◌≡◌, ℕ, suc, List, [], ◌∷◌, ◌++◌, length, map, Option, refl, ap, sym, ◌∙◌, subst}
use Rattle.std.specs.List.{flat_map}
use Rattle.ap_text.specs.declared.seen.Seen.{Seen}
use Rattle.ap_text.specs.declared.seen.Seen.TheVariants.{Bytes, Absent, TooLarge}
use Rattle.ap_content.specs.Things.{Thing, thing, Kids, kids_of, bytes_thing}
use Rattle.ap_content.specs.Entries.{Entry, StandEach}
use Rattle.ap_content.specs.declared.node.Number.{Number}
use Rattle.ap_rows.specs.Fields.{number_field, run_field, list_field, path_field, name_field, job_field}
use Rattle.ap_rows.specs.Products.{product_field, node_of}
use Rattle.ap_rows.specs.declared.product.ProductRow.{ProductRow}
use Rattle.ap_rows.specs.Inputs.{PlainProduct, plain_field, plain_things, products_thing, mark_byte, seen_things, reached_field, reached_things, builder_field, CreateFrom, create_thing, HandedOver, ByOrder, ByFingerprint, handed_field, handed_things, MadeFrom, input_thing}
use Rattle.ap_rows.specs.declared.input.MatchingBuilder.{MatchingBuilder}
use Rattle.ap_rows.specs.declared.input.SeenThing.{SeenThing}
use Rattle.ap_rows.specs.declared.input.SeenThing.TheVariants.{Bytes as BytesThing, Absent as NoThing, TooLarge as NoBytes}
use Rattle.ap_rows.specs.declared.input.ReachedFile.{ReachedFile}
use Rattle.ap_rows.specs.declared.input.CreateParts.{CreateParts}
use Rattle.ap_rows.specs.declared.input.HandedThings.{HandedThings}
use Rattle.ap_rows.specs.declared.input.HandedThings.TheVariants.{Order, Fingerprint}
use Rattle.ap_rows.specs.declared.input.JobParts.{JobParts}
use Rattle.ap_rows.specs.InputNodes.{mark_of, seen_kids_of, builder_of, matching_field, file_field, file_kids, given_field, given_kids, create_node_of, input_node_of, IsSeen, IsFile, IsGiven, Each, IsProductOf, IsCreateOf, IsInputOf}

-- kids behind kids
stand-append : (contents : List (Option Entry)) (ns ms : List Number) (xs ys : List Thing)
    → StandEach contents ns (kids_of xs) → StandEach contents ms (kids_of ys) → StandEach contents (ns ++ ms) (kids_of (xs ++ ys))
stand-append contents [] ms [] ys h k = k
stand-append contents [] ms (x ∷ xs) ys h k = absurd h
stand-append contents (n ∷ ns) ms [] ys h k = absurd h
stand-append contents (n ∷ ns) ms (x ∷ xs) ys h k = (h.0, stand-append contents ns ms xs ys h.1 k)

module _ {X Y : Type 0} (R : X → Y → Type 0) where
  -- lists that go together item by item have one spelling
  each-text : (f : X → List ℕ) (g : Y → List ℕ) → ((x : X) (y : Y) → R x y → f x ≡ g y) → (xs : List X) (ys : List Y) → Each R xs ys → (length xs ≡ length ys) × (flat_map f xs ≡ flat_map g ys)
  each-text f g same [] [] h = (refl, refl)
  each-text f g same [] (y ∷ ys) h = absurd h
  each-text f g same (x ∷ xs) [] h = absurd h
  each-text f g same (x ∷ xs) (y ∷ ys) h =
      let more = each-text f g same xs ys h.1 in
      (ap suc more.0, ap (λ p. p ++ flat_map f xs) (same x y h.0) ∙ ap (λ q. g y ++ q) more.1)

  list-text : (width : ℕ) (f : X → List ℕ) (g : Y → List ℕ) → ((x : X) (y : Y) → R x y → f x ≡ g y) → (xs : List X) (ys : List Y) → Each R xs ys → list_field width f xs ≡ list_field width g ys
  list-text width f g same xs ys h =
      let both = each-text f g same xs ys h in
      ap (λ n. number_field width n ++ flat_map f xs) both.0 ∙ ap (λ p. number_field width (length ys) ++ p) both.1

  each-kids : (contents : List (Option Entry)) (f : X → List Number) (g : Y → List Thing) → ((x : X) (y : Y) → R x y → StandEach contents (f x) (kids_of (g y)))
      → (xs : List X) (ys : List Y) → Each R xs ys → StandEach contents (flat_map f xs) (kids_of (flat_map g ys))
  each-kids contents f g stand [] [] h = tt
  each-kids contents f g stand [] (y ∷ ys) h = absurd h
  each-kids contents f g stand (x ∷ xs) [] h = absurd h
  each-kids contents f g stand (x ∷ xs) (y ∷ ys) h = stand-append contents (f x) (flat_map f xs) (g y) (flat_map g ys) (stand x y h.0) (each-kids contents f g stand xs ys h.1)

module _ (contents : List (Option Entry)) where
  seen-mark : (s : SeenThing) (seen : Seen) → IsSeen contents s seen → mark_of s ≡ mark_byte seen
  seen-mark (BytesThing n) (Bytes bytes) h = refl
  seen-mark (BytesThing n) Absent h = absurd h
  seen-mark (BytesThing n) TooLarge h = absurd h
  seen-mark NoThing (Bytes bytes) h = absurd h
  seen-mark NoThing Absent h = refl
  seen-mark NoThing TooLarge h = absurd h
  seen-mark NoBytes (Bytes bytes) h = absurd h
  seen-mark NoBytes Absent h = absurd h
  seen-mark NoBytes TooLarge h = refl

  seen-stands : (s : SeenThing) (seen : Seen) → IsSeen contents s seen → StandEach contents (seen_kids_of s) (kids_of (seen_things seen))
  seen-stands (BytesThing n) (Bytes bytes) h = (h, tt)
  seen-stands (BytesThing n) Absent h = absurd h
  seen-stands (BytesThing n) TooLarge h = absurd h
  seen-stands NoThing (Bytes bytes) h = absurd h
  seen-stands NoThing Absent h = tt
  seen-stands NoThing TooLarge h = absurd h
  seen-stands NoBytes (Bytes bytes) h = absurd h
  seen-stands NoBytes Absent h = absurd h
  seen-stands NoBytes TooLarge h = tt

  file-text : (file : ReachedFile) (seen : List ℕ × Seen) → IsFile contents file seen → file_field file ≡ reached_field seen
  file-text file seen h = ap (λ p. path_field p ++ (mark_of file.seen ∷ [])) (sym h.0) ∙ ap (λ m. path_field seen.0 ++ (m ∷ [])) (seen-mark file.seen seen.1 h.1)

  file-stands : (file : ReachedFile) (seen : List ℕ × Seen) → IsFile contents file seen → StandEach contents (file_kids file) (kids_of (reached_things seen))
  file-stands file seen h = seen-stands file.seen seen.1 h.1

  given-text : (x : HandedThings) (y : HandedOver) → IsGiven contents x y → given_field x ≡ handed_field y
  given-text (Order job n) (ByOrder job' products) h = ap (λ j. 0 ∷ job_field j) (sym h.0)
  given-text (Order job n) (ByFingerprint job' input products) h = absurd h
  given-text (Fingerprint job m n) (ByOrder job' products) h = absurd h
  given-text (Fingerprint job m n) (ByFingerprint job' input products) h = ap (λ j. 2 ∷ job_field j) (sym h.0)

  given-stands : (x : HandedThings) (y : HandedOver) → IsGiven contents x y → StandEach contents (given_kids x) (kids_of (handed_things y))
  given-stands (Order job n) (ByOrder job' products) h = (h.1, tt)
  given-stands (Order job n) (ByFingerprint job' input products) h = absurd h
  given-stands (Fingerprint job m n) (ByOrder job' products) h = absurd h
  given-stands (Fingerprint job m n) (ByFingerprint job' input products) h = (h.1, (h.2, tt))

  builder-text : (bs : List MatchingBuilder) → (length bs ≡ length (map builder_of bs)) × (flat_map matching_field bs ≡ flat_map builder_field (map builder_of bs))
  builder-text [] = (refl, refl)
  builder-text (b ∷ bs) = let more = builder-text bs in (ap suc more.0, ap (λ q. matching_field b ++ q) more.1)

  builders-text : (bs : List MatchingBuilder) (all : List (List ℕ × ℕ)) → all ≡ map builder_of bs → list_field 8 matching_field bs ≡ list_field 8 builder_field all
  builders-text bs all e =
      let both = builder-text bs in
      ap (λ n. number_field 8 n ++ flat_map matching_field bs) both.0 ∙ ap (λ p. number_field 8 (length (map builder_of bs)) ++ p) both.1
      ∙ ap (list_field 8 builder_field) (sym e)

  five : (a b c d e a' b' c' d' e' : List ℕ) → a ≡ a' → b ≡ b' → c ≡ c' → d ≡ d' → e ≡ e' → a ++ b ++ c ++ d ++ e ≡ a' ++ b' ++ c' ++ d' ++ e'
  five a b c d e a' b' c' d' e' p q r s t = cc

  pub create-told : (parts : CreateParts) (from : CreateFrom) → IsCreateOf contents parts from
      → (xs : Kids) × StandEach contents (create_node_of parts).kids xs × (thing 1 (create_node_of parts).text xs ≡ create_thing from)
  unfolding create_thing
  create-told parts from h =
      let xs = kids_of (seen_things from.seen ++ flat_map reached_things from.reached) in (
        xs,
        stand-append contents (seen_kids_of parts.seen) (flat_map file_kids parts.reached.now) (seen_things from.seen) (flat_map reached_things from.reached) (seen-stands parts.seen from.seen h.seen)
            (each-kids (IsFile contents) contents file_kids reached_things file-stands parts.reached.now from.reached h.reached),
        ap (λ t. thing 1 t xs)
            (five _ _ _ _ _ _ _ _ _ _ (builders-text parts.builders.now from.builders h.builders) (ap (list_field 8 name_field) (sym h.platforms)) (ap path_field (sym h.path))
            (ap (λ m. m ∷ []) (seen-mark parts.seen from.seen h.seen)) (list-text (IsFile contents) 8 file_field reached_field file-text parts.reached.now from.reached h.reached)),
      )

  eight : (a b c d e f g i a' b' c' d' e' f' g' i' : List ℕ) → a ≡ a' → b ≡ b' → c ≡ c' → d ≡ d' → e ≡ e' → f ≡ f' → g ≡ g' → i ≡ i'
      → a ++ b ++ c ++ d ++ e ++ f ++ g ++ i ≡ a' ++ b' ++ c' ++ d' ++ e' ++ f' ++ g' ++ i'
  eight a b c d e f g i a' b' c' d' e' f' g' i' p q r s t u v w = cc

  pub input-told : (parts : JobParts) (from : MadeFrom) → IsInputOf contents parts from
      → (xs : Kids) × StandEach contents (input_node_of parts).kids xs × (thing 2 (input_node_of parts).text xs ≡ input_thing from)
  unfolding input_thing
  input-told parts from h =
      let xs = kids_of ((bytes_thing from.bytes ∷ []) ++ flat_map reached_things from.reached ++ flat_map handed_things from.handed) in (
        xs,
        stand-append contents ((parts.bytes ∷ []) ++ flat_map file_kids parts.reached.now) (flat_map given_kids parts.handed.now) ((bytes_thing from.bytes ∷ []) ++ flat_map reached_things from.reached) (flat_map handed_things from.handed)
            (h.bytes, each-kids (IsFile contents) contents file_kids reached_things file-stands parts.reached.now from.reached h.reached)
            (each-kids (IsGiven contents) contents given_kids handed_things given-stands parts.handed.now from.handed h.handed),
        ap (λ t. thing 2 t xs)
            (eight _ _ _ _ _ _ _ _ _ _ _ _ _ _ _ _ (ap name_field (sym h.builder)) (ap (number_field 4) (sym h.version)) (ap name_field (sym h.platform)) (ap name_field (sym h.key))
            (ap (run_field 8) (sym h.params)) (ap path_field (sym h.path)) (list-text (IsFile contents) 8 file_field reached_field file-text parts.reached.now from.reached h.reached)
            (list-text (IsGiven contents) 8 given_field handed_field given-text parts.handed.now from.handed h.handed)),
      )

  -- ---- products

  product-text : (row : ProductRow) (p : PlainProduct) → IsProductOf contents row p → product_field row ≡ plain_field p
  product-text row p h = ap plain_field (sym h.0)

  product-stands : (row : ProductRow) (p : PlainProduct) → IsProductOf contents row p → StandEach contents (row.bytes ∷ []) (kids_of (plain_things p))
  product-stands row p h = (h.1, tt)

  one-each : (rows : List ProductRow) → map (λ (row : ProductRow). row.bytes) rows ≡ flat_map (λ (row : ProductRow). row.bytes ∷ []) rows
  one-each [] = refl
  one-each (row ∷ rows) = ap (λ ns. row.bytes ∷ ns) (one-each rows)

  pub products-told : (rows : List ProductRow) (products : List PlainProduct) → Each (IsProductOf contents) rows products
      → (xs : Kids) × StandEach contents (node_of rows).kids xs × (thing 3 (node_of rows).text xs ≡ products_thing products)
  unfolding products_thing
  products-told rows products h =
      let xs = kids_of (flat_map plain_things products) in (
        xs,
        subst (λ ns. StandEach contents ns xs) (sym (one-each rows)) (each-kids (IsProductOf contents) contents (λ (row : ProductRow). row.bytes ∷ []) plain_things product-stands rows products h),
        ap (λ t. thing 3 t xs) (list-text (IsProductOf contents) 4 product_field plain_field product-text rows products h),
      )
