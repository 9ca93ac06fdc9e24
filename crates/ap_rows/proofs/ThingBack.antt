-- Texts and kids are read back, form by form.
use Rattle.std.proofs.Common.{◌≡◌, ◌<◌, ◌^◌, ℕ, suc, Bool, true, false, ◌||◌, is_some, List, [], ◌∷◌, ◌++◌, length, get_or, All, Option, Some, refl, ap, sym, ◌∙◌, append_assoc, subst, arith}
use Rattle.std.specs.List.{flat_map}
use Rattle.std.proofs.lemmas.List.{append-nil}
use Rattle.ap_text.specs.NameRules.{IsPlatform}
use Rattle.ap_text.specs.declared.seen.Seen.{Seen}
use Rattle.ap_text.specs.declared.seen.Seen.TheVariants.{Bytes, Absent, TooLarge}
use Rattle.ap_content.specs.Things.{Thing, kids_of, bytes_thing}
use Rattle.ap_rows.specs.Fields.{number_field, run_field, list_field, path_field, name_field}
use Rattle.ap_rows.specs.Readers.{Reader, number, run_of, path, name, platform}
use Rattle.ap_rows.specs.Grammar.{dependency}
use Rattle.ap_rows.specs.Products.{product_row}
use Rattle.ap_rows.specs.Inputs.{mark_byte, seen_things, reached_field, reached_things, PlainProduct, row_of, plain_field, plain_things, products_thing, CreateFrom, builder_field, create_thing, HandedOver, ByOrder, ByFingerprint, dependency_of, handed_field, handed_things, MadeFrom, input_thing}
use Rattle.ap_rows.specs.InputRanges.{IsJob, IsProduct, AreProducts, IsReached, IsBuilder, IsThere, IsCreateInput, IsHanded, IsJobInput}
use Rattle.ap_rows.specs.ThingReaders.{ThingReader, ◌>>=◌, gives, field, kid_as, times, list_of, whole}
use Rattle.ap_rows.specs.Forms.{kids_in, bytes_in, seen_by, source_by, reached_file, plain_product, product, products_in, builder, create_from, create_from_thing, input_in, handed_by, handed, made_from, made_from_thing, has_form}
use Rattle.ap_rows.proofs.Chains.{Back, number-back, run-back, byte-back}
use Rattle.ap_rows.proofs.ReadBack.{path-back, name-back, platform-back, dependency-back}
use Rattle.ap_rows.proofs.ProductsBack.{product-back}

-- it is read back from these bytes and kids, whatever stands behind them
abbrev pub AllBack : {X : Type 0} → ThingReader X → List ℕ → List Thing → X → Type 0
AllBack form bytes kids x = (after : List ℕ) (later : List Thing) → form (bytes ++ after) (kids ++ later) ≡ Some (x, after, later)

module _ {X Z : Type 0} (form : ThingReader X) (next : X → ThingReader Z) where
  -- one form, and then the others
  then-back : (p q : List ℕ) (ks ls : List Thing) (x : X) (z : Z) → AllBack form p ks x → AllBack (next x) q ls z → AllBack (form >>= next) (p ++ q) (ks ++ ls) z
  then-back p q ks ls x z h k after later = rw (append_assoc p q after, append_assoc ks ls later, h (q ++ after) (ls ++ later)) (k after later)

module _ {X Z : Type 0} (form : Reader X) (next : X → ThingReader Z) where
  -- a field of the text, and then the others
  field-back : (p q : List ℕ) (ks : List Thing) (x : X) (z : Z) → Back form p x → AllBack (next x) q ks z → AllBack (field form >>= next) (p ++ q) ks z
  field-back p q ks x z h k after later = rw (append_assoc p q after, h (q ++ after)) (k after later)

  -- a field of the text, and then kids
  field-kids : (p : List ℕ) (ks : List Thing) (x : X) (z : Z) → Back form p x → AllBack (next x) [] ks z → AllBack (field form >>= next) p ks z
  field-kids p ks x z h k after later = rw (h after) (k after later)

module _ {X Z : Type 0} (form : ThingReader X) (make : X → Z) where
  -- what is made of the value
  last-back : (p : List ℕ) (ks : List Thing) (x : X) → AllBack form p ks x → AllBack (form >>= λ y. gives (make y)) p ks (make x)
  last-back p ks x h after later = rw (h after later) refl

-- a field alone
alone-back : {X : Type 0} (form : Reader X) (p : List ℕ) (x : X) → Back form p x → AllBack (field form) p [] x
alone-back form p x h after later = rw (h after) refl

kid-back : {Y : Type 0} (meaning : Thing → Option Y) (x : Thing) (y : Y) → meaning x ≡ Some y → AllBack (kid_as meaning) [] (x ∷ []) y
kid-back meaning x y e after later = rw e refl

module _ {X : Type 0} (item : ThingReader X) (spelled : X → List ℕ) (things : X → List Thing) where
  times-back : (xs : List X) → All (λ x. AllBack item (spelled x) (things x) x) xs → AllBack (times item (length xs)) (flat_map spelled xs) (flat_map things xs) xs
  times-back [] h after later = refl
  times-back (x ∷ xs) h after later =
      then-back item (λ y. times item (length xs) >>= λ ys. gives (y ∷ ys)) (spelled x) (flat_map spelled xs) (things x) (flat_map things xs) x (x ∷ xs) (h 0 x (omega arith))
      (last-back (times item (length xs)) (λ ys. x ∷ ys) (flat_map spelled xs) (flat_map things xs) xs (times-back xs (λ k d within. h (suc k) d (omega arith)))) after later

  list-back : (width : ℕ) (xs : List X) → length xs < 256 ^ width → All (λ x. AllBack item (spelled x) (things x) x) xs → AllBack (list_of width item) (list_field width spelled xs) (flat_map things xs) xs
  list-back width xs fits h =
      field-back (number width) (times item) (number_field width (length xs)) (flat_map spelled xs) (flat_map things xs) (length xs) xs (number-back width (length xs) fits) (times-back xs h)

-- all of a text and of the kids
kids-again : (xs : List Thing) → kids_in (kids_of xs) ≡ xs
kids-again [] = refl
kids-again (x ∷ xs) = ap (λ ys. x ∷ ys) (kids-again xs)

whole-back : {X : Type 0} (form : ThingReader X) (p : List ℕ) (ks : List Thing) (x : X) → AllBack form p ks x → whole (form p (kids_in (kids_of ks))) ≡ Some x
whole-back form p ks x h = rw (kids-again ks) (ap (λ q. whole (form q ks)) (sym (append-nil p)) ∙ ap (λ ls. whole (form (p ++ []) ls)) (sym (append-nil ks)) ∙ ap whole (h [] []))

-- ---- files

seen-back : (seen : Seen) → AllBack (seen_by (mark_byte seen)) [] (seen_things seen) seen
unfolding seen_by
seen-back (Bytes bytes) = last-back (kid_as bytes_in) Bytes [] (bytes_thing bytes ∷ []) bytes (kid-back bytes_in (bytes_thing bytes) bytes refl)
seen-back Absent = λ after later. refl
seen-back TooLarge = λ after later. refl

source-back : (seen : Seen) → IsThere seen → AllBack (source_by (mark_byte seen)) [] (seen_things seen) seen
unfolding source_by
source-back (Bytes bytes) h = seen-back (Bytes bytes)
source-back Absent h = absurd h
source-back TooLarge h = seen-back TooLarge

reached-back : (file : List ℕ × Seen) → IsReached file → AllBack reached_file (reached_field file) (reached_things file) file
unfolding reached_file
reached-back file h =
    field-back path (λ p. field (number 1) >>= λ mark. seen_by mark >>= λ seen. gives (p, seen)) (path_field file.0) (mark_byte file.1 ∷ []) (seen_things file.1) file.0 file (path-back file.0 h.path h.folded)
    (field-kids (number 1) (λ mark. seen_by mark >>= λ seen. gives (file.0, seen)) (mark_byte file.1 ∷ []) (seen_things file.1) (mark_byte file.1) file (byte-back (mark_byte file.1))
    (last-back (seen_by (mark_byte file.1)) (λ seen. (file.0, seen)) [] (seen_things file.1) file.1 (seen-back file.1)))

files-back : (files : List (List ℕ × Seen)) → length files < 256 ^ 8 → All IsReached files → AllBack (list_of 8 reached_file) (list_field 8 reached_field files) (flat_map reached_things files) files
files-back files fits h = list-back reached_file reached_field reached_things 8 files fits (λ k d within. reached-back (get_or files k d) (h k d within))

-- ---- products

plain-back : (p : PlainProduct) → IsProduct p → AllBack product (plain_field p) (plain_things p) p
unfolding product
plain-back p h =
    field-kids (product_row (record { 0 = 0 })) (λ row. kid_as bytes_in >>= λ bytes. gives (plain_product row bytes)) (plain_field p) (plain_things p) (row_of p) p
    (product-back (row_of p) h.fields h.folded)
    (last-back (kid_as bytes_in) (plain_product (row_of p)) [] (plain_things p) p.bytes (kid-back bytes_in (bytes_thing p.bytes) p.bytes refl))

pub products-read_back : (products : List PlainProduct) → AreProducts products → products_in (products_thing products) ≡ Some products
unfolding products_in products_thing
products-read_back products h =
    whole-back (list_of 4 product) (list_field 4 plain_field products) (flat_map plain_things products) products
    (list-back product plain_field plain_things 4 products h.count (λ k d within. plain-back (get_or products k d) (h.each k d within)))

-- ---- create inputs

-- a form that asks for no kids
abbrev no_things : {X : Type 0} → X → List Thing
no_things x = []

none : {X : Type 0} (xs : List X) → flat_map no_things xs ≡ []
none [] = refl
none (x ∷ xs) = none xs

builder-back : (b : List ℕ × ℕ) → IsBuilder b → AllBack builder (builder_field b) [] b
unfolding builder
builder-back b h =
    field-back name (λ n. field (number 4) >>= λ version. gives (n, version)) (name_field b.0) (number_field 4 b.1) [] b.0 b (name-back b.0 h.0)
    (last-back (field (number 4)) (λ version. (b.0, version)) (number_field 4 b.1) [] b.1 (alone-back (number 4) (number_field 4 b.1) b.1 (number-back 4 b.1 h.1)))

builders-back : (bs : List (List ℕ × ℕ)) → length bs < 256 ^ 8 → All IsBuilder bs → AllBack (list_of 8 builder) (list_field 8 builder_field bs) [] bs
builders-back bs fits h =
    subst (λ ks. AllBack (list_of 8 builder) (list_field 8 builder_field bs) ks bs) (none bs)
    (list-back builder builder_field no_things 8 bs fits (λ k d within. builder-back (get_or bs k d) (h k d within)))

platforms-back : (ps : List (List ℕ)) → length ps < 256 ^ 8 → All IsPlatform ps → AllBack (list_of 8 (field platform)) (list_field 8 name_field ps) [] ps
platforms-back ps fits h =
    subst (λ ks. AllBack (list_of 8 (field platform)) (list_field 8 name_field ps) ks ps) (none ps)
    (list-back (field platform) name_field no_things 8 ps fits (λ k d within. alone-back platform (name_field (get_or ps k d)) (get_or ps k d) (platform-back (get_or ps k d) (h k d within))))

five : (a b c d e : List ℕ) → a ++ b ++ c ++ d ++ e ≡ a ++ (b ++ (c ++ (d ++ e)))
five a b c d e = simp append_assoc

create-back : (x : CreateFrom) → IsCreateInput x
    → AllBack create_from (list_field 8 builder_field x.builders ++ (list_field 8 name_field x.platforms ++ (path_field x.path ++ ((mark_byte x.seen ∷ []) ++ list_field 8 reached_field x.reached))))
    (seen_things x.seen ++ flat_map reached_things x.reached) x
unfolding create_from
create-back x h =
    let files = list_field 8 reached_field x.reached in
    let reached = flat_map reached_things x.reached in
    let ks = seen_things x.seen ++ reached in
    let mark = mark_byte x.seen ∷ [] in
    then-back (list_of 8 builder) _ (list_field 8 builder_field x.builders) _ [] ks x.builders x (builders-back x.builders h.builder_count h.builders)
    (then-back (list_of 8 (field platform)) _ (list_field 8 name_field x.platforms) _ [] ks x.platforms x (platforms-back x.platforms h.platform_count h.platforms)
    (field-back path _ (path_field x.path) (mark ++ files) ks x.path x (path-back x.path h.path.path h.path.folded)
    (field-back (number 1) _ mark files ks (mark_byte x.seen) x (byte-back (mark_byte x.seen))
    (then-back (source_by (mark_byte x.seen)) _ [] files (seen_things x.seen) reached x.seen x (source-back x.seen h.seen)
    (last-back (list_of 8 reached_file) _ files reached x.reached (files-back x.reached h.reached_count h.reached))))))

pub create-read_back : (x : CreateFrom) → IsCreateInput x → create_from_thing (create_thing x) ≡ Some x
unfolding create_from_thing create_thing
create-read_back x h =
    let ks = seen_things x.seen ++ flat_map reached_things x.reached in
    ap (λ text. whole (create_from text (kids_in (kids_of ks)))) (five (list_field 8 builder_field x.builders) (list_field 8 name_field x.platforms) (path_field x.path) (mark_byte x.seen ∷ []) (list_field 8 reached_field x.reached))
    ∙ whole-back create_from _ ks x (create-back x h)

-- ---- job inputs

handed_by-back : (d : HandedOver) → IsHanded d → AllBack (handed_by (dependency_of d).kind (dependency_of d).job) [] (handed_things d) d
unfolding handed_by
handed_by-back (ByOrder job products) h =
    last-back (kid_as products_in) (ByOrder job) [] (products_thing products ∷ []) products (kid-back products_in (products_thing products) products (products-read_back products h.1))
handed_by-back (ByFingerprint job input products) h =
    then-back (kid_as input_in) (λ i. kid_as products_in >>= λ ps. gives (ByFingerprint job i ps)) [] [] (input ∷ []) (products_thing products ∷ []) input (ByFingerprint job input products) (kid-back input_in input input h.1)
    (last-back (kid_as products_in) (ByFingerprint job input) [] (products_thing products ∷ []) products (kid-back products_in (products_thing products) products (products-read_back products h.2)))

handed-job : (d : HandedOver) → IsHanded d → IsJob (dependency_of d).job
handed-job (ByOrder job products) h = h.0
handed-job (ByFingerprint job input products) h = h.0

handed-back : (d : HandedOver) → IsHanded d → AllBack handed (handed_field d) (handed_things d) d
unfolding handed
handed-back d h =
    let job = handed-job d h in
    field-kids dependency (λ dep. handed_by dep.kind dep.job) (handed_field d) (handed_things d) (dependency_of d) d
    (dependency-back (dependency_of d) (job.source.path, job.key, job.platform) job.source.folded) (handed_by-back d h)

eight : (a b c d e f g h : List ℕ) → a ++ b ++ c ++ d ++ e ++ f ++ g ++ h ≡ a ++ (b ++ (c ++ (d ++ (e ++ (f ++ (g ++ h))))))
eight a b c d e f g h = simp append_assoc

-- what is read of a job input behind its builder, its version and so on
abbrev from_handed : List ℕ → ℕ → List ℕ → List ℕ → List ℕ → List ℕ → List ℕ → List (List ℕ × Seen) → ThingReader MadeFrom
from_handed b v t k q p bytes files =
    list_of 8 handed >>= λ deps. gives (record { builder = b; version = v; platform = t; key = k; params = q; path = p; bytes = bytes; reached = files; handed = deps })

abbrev from_reached : List ℕ → ℕ → List ℕ → List ℕ → List ℕ → List ℕ → List ℕ → ThingReader MadeFrom
from_reached b v t k q p bytes = list_of 8 reached_file >>= from_handed b v t k q p bytes

abbrev from_bytes : List ℕ → ℕ → List ℕ → List ℕ → List ℕ → List ℕ → ThingReader MadeFrom
from_bytes b v t k q p = kid_as bytes_in >>= from_reached b v t k q p

abbrev from_path : List ℕ → ℕ → List ℕ → List ℕ → List ℕ → ThingReader MadeFrom
from_path b v t k q = field path >>= from_bytes b v t k q

abbrev from_params : List ℕ → ℕ → List ℕ → List ℕ → ThingReader MadeFrom
from_params b v t k = field (run_of 8) >>= from_path b v t k

abbrev from_key : List ℕ → ℕ → List ℕ → ThingReader MadeFrom
from_key b v t = field name >>= from_params b v t

abbrev from_platform : List ℕ → ℕ → ThingReader MadeFrom
from_platform b v = field platform >>= from_key b v

abbrev from_version : List ℕ → ThingReader MadeFrom
from_version b = field (number 4) >>= from_platform b

input-back : (x : MadeFrom) → IsJobInput x
    → AllBack made_from (name_field x.builder ++ (number_field 4 x.version ++ (name_field x.platform ++ (name_field x.key ++ (run_field 8 x.params ++ (path_field x.path ++ (list_field 8 reached_field x.reached ++ list_field 8 handed_field x.handed)))))))
    ((bytes_thing x.bytes ∷ []) ++ (flat_map reached_things x.reached ++ flat_map handed_things x.handed)) x
unfolding made_from
input-back x h =
    let files = list_field 8 reached_field x.reached in
    let deps = list_field 8 handed_field x.handed in
    let reached = flat_map reached_things x.reached in
    let given = flat_map handed_things x.handed in
    let source = bytes_thing x.bytes ∷ [] in
    let ks = source ++ (reached ++ given) in
    let at_path = path_field x.path ++ (files ++ deps) in
    let at_params = run_field 8 x.params ++ at_path in
    let at_key = name_field x.key ++ at_params in
    let at_platform = name_field x.platform ++ at_key in
    let at_version = number_field 4 x.version ++ at_platform in
    field-back name from_version (name_field x.builder) at_version ks x.builder x (name-back x.builder h.builder)
    (field-back (number 4) (from_platform x.builder) (number_field 4 x.version) at_platform ks x.version x (number-back 4 x.version h.version)
    (field-back platform (from_key x.builder x.version) (name_field x.platform) at_key ks x.platform x (platform-back x.platform h.platform)
    (field-back name (from_params x.builder x.version x.platform) (name_field x.key) at_params ks x.key x (name-back x.key h.key)
    (field-back (run_of 8) (from_path x.builder x.version x.platform x.key) (run_field 8 x.params) at_path ks x.params x (run-back 8 x.params h.params)
    (field-back path (from_bytes x.builder x.version x.platform x.key x.params) (path_field x.path) (files ++ deps) ks x.path x (path-back x.path h.path.path h.path.folded)
    (then-back (kid_as bytes_in) (from_reached x.builder x.version x.platform x.key x.params x.path) [] (files ++ deps) source (reached ++ given) x.bytes x (kid-back bytes_in (bytes_thing x.bytes) x.bytes refl)
    (then-back (list_of 8 reached_file) (from_handed x.builder x.version x.platform x.key x.params x.path x.bytes) files deps reached given x.reached x (files-back x.reached h.reached_count h.reached)
    (last-back (list_of 8 handed) (λ hs. record x { handed = hs }) deps given x.handed
    (list-back handed handed_field handed_things 8 x.handed h.handed_count (λ k d within. handed-back (get_or x.handed k d) (h.handed k d within)))))))))))

pub input-read_back : (x : MadeFrom) → IsJobInput x → made_from_thing (input_thing x) ≡ Some x
unfolding made_from_thing input_thing
input-read_back x h =
    let files = list_field 8 reached_field x.reached in
    let deps = list_field 8 handed_field x.handed in
    let reached = flat_map reached_things x.reached in
    let given = flat_map handed_things x.handed in
    let source = bytes_thing x.bytes ∷ [] in
    let text = name_field x.builder ++ (number_field 4 x.version ++ (name_field x.platform ++ (name_field x.key ++ (run_field 8 x.params ++ (path_field x.path ++ (files ++ deps)))))) in
    ap (λ t. whole (made_from t (kids_in (kids_of (source ++ reached ++ given)))))
    (eight (name_field x.builder) (number_field 4 x.version) (name_field x.platform) (name_field x.key) (run_field 8 x.params) (path_field x.path) files deps)
    ∙ ap (λ ks. whole (made_from text (kids_in (kids_of ks)))) (append_assoc source reached given)
    ∙ whole-back made_from text (source ++ (reached ++ given)) x (input-back x h)

-- ---- what is spelled has the form of its tag

or-right : (a b : Bool) → b ≡ true → (a || b) ≡ true
or-right true b h = refl
or-right false b h = h

or-left : (a b : Bool) → a ≡ true → (a || b) ≡ true
or-left true b h = refl
or-left false b h = absurd (cc)

pub products-has_form : (products : List PlainProduct) → AreProducts products → has_form (products_thing products) ≡ true
unfolding has_form
products-has_form products h = or-right _ _ (ap is_some (products-read_back products h))

pub create-has_form : (x : CreateFrom) → IsCreateInput x → has_form (create_thing x) ≡ true
unfolding has_form
create-has_form x h = or-left _ _ (or-left _ _ (or-right _ _ (ap is_some (create-read_back x h))))

pub input-has_form : (x : MadeFrom) → IsJobInput x → has_form (input_thing x) ≡ true
unfolding has_form
input-has_form x h = or-left _ _ (or-right _ _ (ap is_some (input-read_back x h)))
