-- Things of bytes, create inputs, job inputs and products have the forms of their tags, with all below them.
use Rattle.std.proofs.Common.{◌≡◌, ℕ, Bool, true, false, ◌&&◌, List, [], ◌∷◌, ◌++◌, refl, sym, ◌∙◌, ap}
use Rattle.std.specs.List.{list_all, flat_map}
use Rattle.std.proofs.lemmas.List.Folds.{list_all-append}
use Rattle.ap_text.specs.declared.seen.Seen.{Seen}
use Rattle.ap_text.specs.declared.seen.Seen.TheVariants.{Bytes, Absent, TooLarge}
use Rattle.ap_content.specs.Things.{Thing, kids_of, bytes_thing}
use Rattle.ap_rows.specs.Inputs.{seen_things, reached_things, PlainProduct, plain_things, products_thing, CreateFrom, create_thing, MadeFrom, handed_things, input_thing}
use Rattle.ap_rows.specs.InputRanges.{AreProducts, IsCreateInput, IsJobInput}
use Rattle.ap_rows.specs.Forms.{has_form}
use Rattle.ap_rows.proofs.ThingBack.{products-has_form, create-has_form, input-has_form}
use Rattle.ap_db.specs.Commit.{all_below, with_below}
use Rattle.ap_engine.specs.Goods.{IsFormed}

bytes-has_form : (bytes : List ℕ) → has_form (bytes_thing bytes) ≡ true
unfolding has_form
bytes-has_form bytes = refl

pub bytes_formed : (bytes : List ℕ) → IsFormed 0 (bytes_thing bytes)
bytes_formed bytes = record { tagged = refl; formed = ap (λ b. b && true) (bytes-has_form bytes) }

-- ---- all below kids of bytes

abbrev AreFormed : List Thing → Type 0
AreFormed xs = list_all has_form (all_below (kids_of xs)) ≡ true

both_true : (a b : Bool) → a ≡ true → b ≡ true → (a && b) ≡ true
both_true a b p q = ap (λ a. a && b) p ∙ q

append_formed : (xs ys : List Thing) → AreFormed xs → AreFormed ys → AreFormed (xs ++ ys)
append_formed [] ys one two = two
append_formed (x ∷ xs) ys one two =
    let parts = split (list_all has_form (with_below x)) (list_all has_form (all_below (kids_of xs))) (sym (list_all-append has_form (with_below x) (all_below (kids_of xs))) ∙ one) in
    list_all-append has_form (with_below x) (all_below (kids_of (xs ++ ys)))
    ∙ both_true (list_all has_form (with_below x)) (list_all has_form (all_below (kids_of (xs ++ ys)))) parts.0 (append_formed xs ys parts.1 two)
  where
    split : (a b : Bool) → (a && b) ≡ true → (a ≡ true) × (b ≡ true)
    split true b e = (refl, e)
    split false b e = absurd (cc e)

all_formed : {X : Type 0} (things : X → List Thing) (xs : List X) → ((x : X) → AreFormed (things x)) → AreFormed (flat_map things xs)
all_formed things [] each = refl
all_formed things (x ∷ xs) each = append_formed (things x) (flat_map things xs) (each x) (all_formed things xs each)

one_formed : (bytes : List ℕ) → AreFormed (bytes_thing bytes ∷ [])
one_formed bytes = ap (λ b. b && true) (bytes-has_form bytes)

seen_formed : (seen : Seen) → AreFormed (seen_things seen)
seen_formed (Bytes bytes) = one_formed bytes
seen_formed Absent = refl
seen_formed TooLarge = refl

-- ---- inputs and products

pub create_formed : (from : CreateFrom) → IsCreateInput from → IsFormed 1 (create_thing from)
unfolding create_thing
create_formed from is = record {
  tagged = refl;
  formed = both_true (has_form (create_thing from)) (list_all has_form (all_below (kids_of (seen_things from.seen ++ flat_map reached_things from.reached))))
      (create-has_form from is) (append_formed (seen_things from.seen) (flat_map reached_things from.reached) (seen_formed from.seen) (all_formed reached_things from.reached (λ file. seen_formed file.1)));
}

-- a job input of a job that nothing hands over to
pub input_formed : (from : MadeFrom) → IsJobInput from → from.handed ≡ [] → IsFormed 2 (input_thing from)
unfolding input_thing
input_formed from is none = record {
  tagged = refl;
  formed = both_true (has_form (input_thing from)) (list_all has_form (all_below (kids_of ((bytes_thing from.bytes ∷ []) ++ flat_map reached_things from.reached ++ flat_map handed_things from.handed))))
      (input-has_form from is) (append_formed (bytes_thing from.bytes ∷ []) (flat_map reached_things from.reached ++ flat_map handed_things from.handed) (one_formed from.bytes)
      (append_formed (flat_map reached_things from.reached) (flat_map handed_things from.handed) (all_formed reached_things from.reached (λ file. seen_formed file.1)) (ap (λ l. list_all has_form (all_below (kids_of (flat_map handed_things l)))) none)));
}

pub products_formed : (products : List PlainProduct) → AreProducts products → IsFormed 3 (products_thing products)
unfolding products_thing
products_formed products are = record {
  tagged = refl;
  formed = both_true (has_form (products_thing products)) (list_all has_form (all_below (kids_of (flat_map plain_things products))))
      (products-has_form products are) (all_formed plain_things products (λ product. one_formed product.bytes));
}
