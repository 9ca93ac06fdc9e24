-- A thing has the form of its tag exactly where its text and the tags of its kids are walked past.
use Rattle.std.proofs.Common.{◌≡◌, ℕ, zero, suc, Bool, true, false, List, [], ◌∷◌, Option, Some, None, is_some, map, option_map, option_and_then, ◌==◌, ◌||◌, if◌then◌else◌, refl, ap, ◌∙◌, arith}
use Rattle.std.proofs.lemmas.Bool.Decides.{nat_tests}
use Rattle.ap_text.specs.declared.job_id.JobId.{JobId}
use Rattle.ap_text.specs.declared.seen.Seen.TheVariants.{Bytes, Absent, TooLarge}
use Rattle.ap_content.specs.Things.{Thing, thing, Kids, no_kids, kid}
use Rattle.ap_content.specs.Entries.{Entry, Stands, StandEach}
use Rattle.ap_content.specs.declared.node.Number.{Number}
use Rattle.ap_content.specs.declared.node.Node.{Node}
use Rattle.ap_rows.specs.Readers.{Reader, number, run_of, path, name, platform, job_id}
use Rattle.ap_rows.specs.Grammar.{dep_kind, dependency}
use Rattle.ap_rows.specs.Products.{product_row}
use Rattle.ap_rows.specs.Inputs.{ByOrder, ByFingerprint}
use Rattle.ap_rows.specs.ThingReaders.{ThingReader, ◌>>=◌, gives, refuses, field, kid_as, list_of, whole}
use Rattle.ap_rows.specs.Forms.{kids_in, bytes_in, plain_product, seen_by, source_by, reached_file, product, builder, create_from, create_from_thing, input_in, handed_by, handed, made_from, made_from_thing, products_in, has_form, HaveForms}
use Rattle.ap_rows.specs.declared.job.DepKind.{DepKind}
use Rattle.ap_rows.specs.declared.job.DepKind.TheVariants.{Order, OrderOnce, Fingerprint}
use Rattle.ap_rows.specs.declared.job.DependencyRow.{DependencyRow}
use Rattle.ap_rows.specs.Walks.{tag_at, a_kid, seen_kids, source_kids, handed_kids, Walk, nothing, asking, field_then, walk_then, list_walk, builder_walk, platform_walk, reached_walk, handed_walk, row_walk, product_walk, source_walk, create_walk, input_walk, products_walk, walked}
use Rattle.ap_rows.proofs.FormWalks.{tag_of, tags, AllForm, Tells, Agrees, gives-agrees, then-agrees, last-agrees, field-agrees, kid-agrees, list-agrees, all-agrees, bytes-kid, input-kid, products-kid}
use Rattle.ap_rows.proofs.TextWalks.{Same, row-same}

-- fields that ask for no kids, and then a form
module _ {X Y : Type 0} (reader : Reader X) (next : X → ThingReader Y) (walk after : Walk) where
  text-step : (xs : List Thing) → AllForm xs → ((x : X) → Agrees (next x) after) → (read : Option (X × List ℕ)) (walked : Option (List ℕ × List (Option ℕ)))
      → walked ≡ option_map (λ (p : X × List ℕ). (p.1, tags xs)) read
      → Tells (option_and_then (λ (r : X × List ℕ × List Thing). next r.0 r.1 r.2) (option_map (λ (p : X × List ℕ). (p.0, p.1, xs)) read)) (option_and_then (λ (l : List ℕ × List (Option ℕ)). after l.0 l.1) walked)
  text-step xs h more None walked e = (ap (option_and_then (λ (l : List ℕ × List (Option ℕ)). after l.0 l.1)) e, tt)
  text-step xs h more (Some p) walked e = (ap (option_and_then (λ (l : List ℕ × List (Option ℕ)). after l.0 l.1)) e ∙ (more p.0 p.1 xs h).0, (more p.0 p.1 xs h).1)

  text-agrees : Same reader walk → ((x : X) → Agrees (next x) after) → Agrees (field reader >>= next) (walk_then walk after)
  text-agrees same more text xs h = text-step xs h more (reader text) (walk text (tags xs)) (same text (tags xs))

kid-bytes : Agrees (kid_as bytes_in) (asking (a_kid 0))
kid-bytes = kid-agrees bytes_in 0 bytes-kid

kid-input : Agrees (kid_as input_in) (asking (a_kid 2))
kid-input = kid-agrees input_in 2 input-kid

kid-products : Agrees (kid_as products_in) (asking (a_kid 3))
kid-products = kid-agrees products_in 3 products-kid

seen-cases : (a b c : Bool) → Agrees (if a then (kid_as bytes_in >>= λ bytes. gives (Bytes bytes)) else if b then gives Absent else if c then gives TooLarge else refuses)
    (asking (λ ts. if a then a_kid 0 ts else if b then Some ts else if c then Some ts else None))
seen-cases true b c text xs h = last-agrees (kid_as bytes_in) Bytes (asking (a_kid 0)) kid-bytes text xs h
seen-cases false true c text xs h = (refl, h)
seen-cases false false true text xs h = (refl, h)
seen-cases false false false text xs h = (refl, tt)

seen-agrees : (mark : ℕ) → Agrees (seen_by mark) (asking (seen_kids mark))
unfolding seen_by
seen-agrees mark = seen-cases (mark == 0) (mark == 1) (mark == 2)

source-cases : (mark : ℕ) (b : Bool) → Agrees (if b then refuses else seen_by mark) (asking (λ ts. if b then None else seen_kids mark ts))
source-cases mark true text xs h = (refl, tt)
source-cases mark false text xs h = seen-agrees mark text xs h

source-agrees : (mark : ℕ) → Agrees (source_by mark) (asking (source_kids mark))
unfolding source_by
source-agrees mark = source-cases mark (mark == 1)

reached-agrees : Agrees reached_file reached_walk
unfolding reached_file
reached-agrees = field-agrees path _ (λ _. field_then (number 1) (λ mark. asking (seen_kids mark))) (λ p. field-agrees (number 1) _ (λ mark. asking (seen_kids mark)) (λ mark. last-agrees (seen_by mark) _ (asking (seen_kids mark)) (seen-agrees mark)))

builder-agrees : Agrees builder builder_walk
unfolding builder
builder-agrees = field-agrees name _ (λ _. field_then (number 4) (λ _. nothing)) (λ n. field-agrees (number 4) _ (λ _. nothing) (λ version. gives-agrees {X = List ℕ × ℕ} (n, version)))

platform-step : (xs : List Thing) → AllForm xs → (read : Option (List ℕ × List ℕ))
    → Tells (option_map (λ (p : List ℕ × List ℕ). (p.0, p.1, xs)) read) (option_and_then (λ (p : List ℕ × List ℕ). nothing p.1 (tags xs)) read)
platform-step xs h None = (refl, tt)
platform-step xs h (Some p) = (refl, h)

platform-agrees : Agrees (field platform) platform_walk
platform-agrees text xs h = platform-step xs h (platform text)

product-agrees : Agrees product product_walk
unfolding product
product-agrees = text-agrees (product_row (record { 0 = 0 })) _ row_walk (asking (a_kid 0)) (row-same (record { 0 = 0 })) (λ row. last-agrees (kid_as bytes_in) (plain_product row) (asking (a_kid 0)) kid-bytes)

two-kids : (text : List ℕ) (ts : List (Option ℕ)) (first : Option (List (Option ℕ)))
    → option_map (λ l. (text, l)) (option_and_then (a_kid 3) first) ≡ option_and_then (λ (l : List ℕ × List (Option ℕ)). asking (a_kid 3) l.0 l.1) (option_map (λ l. (text, l)) first)
two-kids text ts None = refl
two-kids text ts (Some later) = refl

both-kids : (job : JobId) → Agrees (kid_as input_in >>= λ input. kid_as products_in >>= λ products. gives (ByFingerprint job input products)) (walk_then (asking (a_kid 2)) (asking (a_kid 3)))
both-kids job = then-agrees (kid_as input_in) _ (asking (a_kid 2)) (asking (a_kid 3)) kid-input (λ input. last-agrees (kid_as products_in) (ByFingerprint job input) (asking (a_kid 3)) kid-products)

handed_by-agrees : (kind : DepKind) (job : JobId) → Agrees (handed_by kind job) (asking (handed_kids kind))
unfolding handed_by
handed_by-agrees Order job text xs h = last-agrees (kid_as products_in) (ByOrder job) (asking (a_kid 3)) kid-products text xs h
handed_by-agrees OrderOnce job text xs h = (refl, tt)
handed_by-agrees Fingerprint job text xs h = (two-kids text (tags xs) (a_kid 2 (tags xs)) ∙ (both-kids job text xs h).0, (both-kids job text xs h).1)

handed-inner : (kind : DepKind) (xs : List Thing) → AllForm xs → (read : Option (JobId × List ℕ))
    → Tells (option_and_then (λ (r : DependencyRow × List ℕ × List Thing). handed_by r.0.kind r.0.job r.1 r.2)
    (option_map (λ (p : DependencyRow × List ℕ). (p.0, p.1, xs)) (option_and_then (λ (p : JobId × List ℕ). Some (record { kind = kind; job = p.0 }, p.1)) read)))
    (option_and_then (λ (p : JobId × List ℕ). asking (handed_kids kind) p.1 (tags xs)) read)
handed-inner kind xs h None = (refl, tt)
handed-inner kind xs h (Some p) = handed_by-agrees kind p.0 p.1 xs h

handed-outer : (xs : List Thing) → AllForm xs → (read : Option (DepKind × List ℕ))
    → Tells (option_and_then (λ (r : DependencyRow × List ℕ × List Thing). handed_by r.0.kind r.0.job r.1 r.2)
    (option_map (λ (p : DependencyRow × List ℕ). (p.0, p.1, xs))
    (option_and_then (λ (p : DepKind × List ℕ). option_and_then (λ (q : JobId × List ℕ). Some (record { kind = p.0; job = q.0 }, q.1)) (job_id p.1)) read)))
    (option_and_then (λ (p : DepKind × List ℕ). option_and_then (λ (q : JobId × List ℕ). asking (handed_kids p.0) q.1 (tags xs)) (job_id p.1)) read)
handed-outer xs h None = (refl, tt)
handed-outer xs h (Some p) = handed-inner p.0 xs h (job_id p.1)

pub handed-agrees : Agrees handed handed_walk
unfolding handed dependency
handed-agrees text xs h = handed-outer xs h (dep_kind text)

-- ---- whole things

-- ---- whole things

-- a field of the text, what its value says, and then a form
module _ {X Y : Type 0} (reader : Reader X) (next : X → ThingReader Y) (after : X → Walk) (later : Walk) where
  behind-step : (xs : List Thing) → AllForm xs → ((x : X) → Agrees (next x) (walk_then (after x) later)) → (read : Option (X × List ℕ))
      → Tells (option_and_then (λ (r : X × List ℕ × List Thing). next r.0 r.1 r.2) (option_map (λ (p : X × List ℕ). (p.0, p.1, xs)) read))
      (option_and_then (λ (l : List ℕ × List (Option ℕ)). later l.0 l.1) (option_and_then (λ (p : X × List ℕ). after p.0 p.1 (tags xs)) read))
  behind-step xs h more None = (refl, tt)
  behind-step xs h more (Some p) = more p.0 p.1 xs h

  behind-agrees : ((x : X) → Agrees (next x) (walk_then (after x) later)) → Agrees (field reader >>= next) (walk_then (field_then reader after) later)
  behind-agrees more text xs h = behind-step xs h more (reader text)

files-agree : Agrees (list_of 8 reached_file) (list_walk 8 reached_walk)
files-agree = list-agrees reached_file reached_walk reached-agrees 8

create-agrees : Agrees create_from create_walk
unfolding create_from
create-agrees =
    let files = list_walk 8 reached_walk in
    let marked : ℕ → Walk = λ mark. asking (source_kids mark) in
    then-agrees (list_of 8 builder) _ (list_walk 8 builder_walk) (walk_then (list_walk 8 platform_walk) (walk_then source_walk files)) (list-agrees builder builder_walk builder-agrees 8) (λ builders.
    then-agrees (list_of 8 (field platform)) _ (list_walk 8 platform_walk) (walk_then source_walk files) (list-agrees (field platform) platform_walk platform-agrees 8) (λ platforms.
    behind-agrees path _ (λ _. field_then (number 1) marked) files (λ p.
    behind-agrees (number 1) _ marked files (λ mark.
    then-agrees (source_by mark) _ (marked mark) files (source-agrees mark) (λ seen.
    last-agrees (list_of 8 reached_file) _ files files-agree)))))

input-agrees : Agrees made_from input_walk
unfolding made_from
input-agrees =
    let files = list_walk 8 reached_walk in
    let deps = list_walk 8 handed_walk in
    let later = walk_then files deps in
    let source : Walk = asking (a_kid 0) in
    let at_path : Walk = field_then path (λ _. source) in
    let at_params : Walk = field_then (run_of 8) (λ _. at_path) in
    let at_key : Walk = field_then name (λ _. at_params) in
    let at_platform : Walk = field_then platform (λ _. at_key) in
    let at_version : Walk = field_then (number 4) (λ _. at_platform) in
    behind-agrees name _ (λ _. at_version) later (λ b.
    behind-agrees (number 4) _ (λ _. at_platform) later (λ version.
    behind-agrees platform _ (λ _. at_key) later (λ target.
    behind-agrees name _ (λ _. at_params) later (λ key.
    behind-agrees (run_of 8) _ (λ _. at_path) later (λ params.
    behind-agrees path _ (λ _. source) later (λ p.
    then-agrees (kid_as bytes_in) _ source later kid-bytes (λ bytes.
    then-agrees (list_of 8 reached_file) _ files deps files-agree (λ reached.
    last-agrees (list_of 8 handed) _ deps (list-agrees handed handed_walk handed-agrees 8)))))))))

-- ---- forms

all-form : (xs : Kids) → HaveForms xs → AllForm (kids_in xs)
all-form no_kids h = tt
all-form (kid x xs) h = (h.0, all-form xs h.1)

other : (n : ℕ) → ((suc (suc (suc (suc n))) == 0) ≡ false) × ((suc (suc (suc (suc n))) == 1) ≡ false) × ((suc (suc (suc (suc n))) == 2) ≡ false) × ((suc (suc (suc (suc n))) == 3) ≡ false)
other n = (grind (arith, nat_tests), grind (arith, nat_tests), grind (arith, nat_tests), grind (arith, nat_tests))

or-none : (b : Bool) → b ≡ (b || false)
or-none true = refl
or-none false = refl

-- the text and the tags of kids that have the form of their tag tell whether the thing has the form of its own
pub walked-form : (tag : ℕ) (text : List ℕ) (xs : Kids) → HaveForms xs → walked tag text (tags (kids_in xs)) ≡ has_form (thing tag text xs)
unfolding walked has_form create_from_thing made_from_thing products_in
walked-form zero text no_kids h = refl
walked-form zero text (kid x xs) h = refl
walked-form (suc zero) text no_kids h = let c = is_some (whole (create_from text [])) in all-agrees create_from create_walk create-agrees text [] tt ∙ or-none c ∙ or-none (c || false)
walked-form (suc zero) text (kid x xs) h =
    let c = is_some (whole (create_from text (x ∷ kids_in xs))) in
    all-agrees create_from create_walk create-agrees text (x ∷ kids_in xs) (all-form (kid x xs) h) ∙ or-none c ∙ or-none (c || false)
walked-form (suc (suc zero)) text no_kids h = all-agrees made_from input_walk input-agrees text [] tt ∙ or-none (is_some (whole (made_from text [])))
walked-form (suc (suc zero)) text (kid x xs) h =
    all-agrees made_from input_walk input-agrees text (x ∷ kids_in xs) (all-form (kid x xs) h) ∙ or-none (is_some (whole (made_from text (x ∷ kids_in xs))))
walked-form (suc (suc (suc zero))) text no_kids h = all-agrees (list_of 4 product) products_walk (list-agrees product product_walk product-agrees 4) text [] tt
walked-form (suc (suc (suc zero))) text (kid x xs) h =
    all-agrees (list_of 4 product) products_walk (list-agrees product product_walk product-agrees 4) text (x ∷ kids_in xs) (all-form (kid x xs) h)
walked-form (suc (suc (suc (suc n)))) text no_kids h = let e = other n in rw (e.0, e.1, e.2, e.3) refl
walked-form (suc (suc (suc (suc n)))) text (kid x xs) h = let e = other n in rw (e.0, e.1, e.2, e.3) refl

-- ---- kids by their numbers

tag-stands : (contents : List (Option Entry)) (n : Number) (x : Thing) → Stands contents n x → tag_at contents n ≡ Some (tag_of x)
tag-stands contents n (thing tag text kids) h = ap (option_map (λ (node : Node). node.tag)) h.1 ∙ ap Some h.2

pub tags-stand : (contents : List (Option Entry)) (ns : List Number) (xs : Kids) → StandEach contents ns xs → map (tag_at contents) ns ≡ tags (kids_in xs)
tags-stand contents [] no_kids h = refl
tags-stand contents [] (kid x xs) h = absurd h
tags-stand contents (n ∷ ns) no_kids h = absurd h
tags-stand contents (n ∷ ns) (kid x xs) h = ap (λ t. t ∷ map (tag_at contents) ns) (tag-stands contents n x h.0) ∙ ap (λ ts. Some (tag_of x) ∷ ts) (tags-stand contents ns xs h.1)
