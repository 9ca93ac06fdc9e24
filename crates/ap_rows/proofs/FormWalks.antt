-- The tags of kids tell whether a text and its kids have a form, where each kid has the form of its own tag.
use Rattle.std.proofs.Common.{◌≡◌, ℕ, zero, suc, Bool, true, false, List, [], ◌∷◌, Option, Some, None, IfSome, IsTrue, is_some, map, option_map, option_and_then, ◌==◌, if◌then◌else◌, refl, ap, sym, ◌∙◌, arith}
use Rattle.std.proofs.lemmas.Bool.Decides.{nat_tests}
use Rattle.ap_content.specs.Things.{Thing, thing, no_kids, kid}
use Rattle.ap_rows.specs.Readers.{Reader, number}
use Rattle.ap_rows.specs.ThingReaders.{ThingReader, ◌>>=◌, gives, field, kid_as, times, list_of, all_of, whole}
use Rattle.ap_rows.specs.Forms.{bytes_in, create_from_thing, input_in, made_from_thing, products_in, has_form}
use Rattle.ap_rows.specs.Walks.{a_kid, Walk, nothing, asking, field_then, walk_then, walk_times, list_walk, is_all}

-- the tag of a thing
abbrev pub tag_of : Thing → ℕ
tag_of (thing tag text kids) = tag

-- the tags of things
abbrev pub tags : List Thing → List (Option ℕ)
tags xs = map (λ x. Some (tag_of x)) xs

-- each of the things has the form of its tag
abbrev pub AllForm : List Thing → Type 0
AllForm [] = Unit {0}
AllForm (x ∷ xs) = IsTrue (has_form x) × AllForm xs

-- what is left of a text and of the tags of kids
abbrev pub left : {X : Type 0} → Option (X × List ℕ × List Thing) → Option (List ℕ × List (Option ℕ))
left read = option_map (λ r. (r.1, tags r.2)) read

-- the tags tell what reading leaves
abbrev pub Tells : {X : Type 0} → Option (X × List ℕ × List Thing) → Option (List ℕ × List (Option ℕ)) → Type 0
Tells read walked = (walked ≡ left read) × IfSome read (λ r. AllForm r.2)

abbrev pub Agrees : {X : Type 0} → ThingReader X → Walk → Type 0
Agrees reader walk = (text : List ℕ) (xs : List Thing) → AllForm xs → Tells (reader text xs) (walk text (tags xs))

pub gives-agrees : {X : Type 0} (x : X) → Agrees (gives x) nothing
gives-agrees x text xs h = (refl, h)

module _ {X Y : Type 0} (reader : ThingReader X) (next : X → ThingReader Y) (walk after : Walk) where
  then-step : (text : List ℕ) (read : Option (X × List ℕ × List Thing)) (walked : Option (List ℕ × List (Option ℕ))) → Tells read walked → ((x : X) → Agrees (next x) after)
      → Tells (option_and_then (λ r. next r.0 r.1 r.2) read) (option_and_then (λ l. after l.0 l.1) walked)
  then-step text None walked h more = (ap (option_and_then (λ l. after l.0 l.1)) h.0, tt)
  then-step text (Some r) walked h more = (ap (option_and_then (λ l. after l.0 l.1)) h.0 ∙ (more r.0 r.1 r.2 h.1).0, (more r.0 r.1 r.2 h.1).1)

  -- one form, and then the next
  pub then-agrees : Agrees reader walk → ((x : X) → Agrees (next x) after) → Agrees (reader >>= next) (walk_then walk after)
  then-agrees first more text xs h = then-step text (reader text xs) (walk text (tags xs)) (first text xs h) more

module _ {X Y : Type 0} (reader : ThingReader X) (make : X → Y) (walk : Walk) where
  last-step : (read : Option (X × List ℕ × List Thing)) (walked : Option (List ℕ × List (Option ℕ))) → Tells read walked
      → Tells (option_and_then (λ r. gives (make r.0) r.1 r.2) read) walked
  last-step None walked h = h
  last-step (Some r) walked h = h

  -- what is made of its value
  pub last-agrees : Agrees reader walk → Agrees (reader >>= λ x. gives (make x)) walk
  last-agrees first text xs h = last-step (reader text xs) (walk text (tags xs)) (first text xs h)

module _ {X Y : Type 0} (reader : Reader X) (next : X → ThingReader Y) (after : X → Walk) where
  field-step : (xs : List Thing) → AllForm xs → ((x : X) → Agrees (next x) (after x)) → (read : Option (X × List ℕ))
      → Tells (option_and_then (λ (r : X × List ℕ × List Thing). next r.0 r.1 r.2) (option_map (λ (p : X × List ℕ). (p.0, p.1, xs)) read)) (option_and_then (λ (p : X × List ℕ). after p.0 p.1 (tags xs)) read)
  field-step xs h more None = (refl, tt)
  field-step xs h more (Some p) = more p.0 p.1 xs h

  -- a field of the text, and then what its value says
  pub field-agrees : ((x : X) → Agrees (next x) (after x)) → Agrees (field reader >>= next) (field_then reader after)
  field-agrees more text xs h = field-step xs h more (reader text)

module _ {X : Type 0} (meaning : Thing → Option X) (tag : ℕ) where
  kid-step : (text : List ℕ) (xs : List Thing) (m : Option X) (b : Bool) → AllForm xs → is_some m ≡ b
      → Tells (option_map (λ y. (y, text, xs)) m) (option_map (λ l. (text, l)) (if b then Some (tags xs) else None))
  kid-step text xs None true h e = absurd (cc)
  kid-step text xs None false h e = (refl, tt)
  kid-step text xs (Some y) true h e = (refl, h)
  kid-step text xs (Some y) false h e = absurd (cc)

  -- a kid whose tag tells whether it stands for something
  pub kid-agrees : ((x : Thing) → IsTrue (has_form x) → is_some (meaning x) ≡ (tag_of x == tag)) → Agrees (kid_as meaning) (asking (a_kid tag))
  kid-agrees tells text [] h = (refl, tt)
  kid-agrees tells text (x ∷ xs) h = kid-step text xs (meaning x) (tag_of x == tag) h.1 (tells x h.0)

module _ {X : Type 0} (item : ThingReader X) (walk : Walk) (each : Agrees item walk) where
  pub times-agrees : (n : ℕ) → Agrees (times item n) (walk_times walk n)
  times-agrees zero text xs h = (refl, h)
  times-agrees (suc n) text xs h =
      then-agrees item (λ x. times item n >>= λ more. gives (x ∷ more)) walk (walk_times walk n) each
      (λ x. last-agrees (times item n) (λ more. x ∷ more) (walk_times walk n) (times-agrees n)) text xs h

  pub list-agrees : (width : ℕ) → Agrees (list_of width item) (list_walk width walk)
  list-agrees width = field-agrees (number width) (times item) (walk_times walk) times-agrees

-- all of a text and of the kids
over-tells : {X : Type 0} (x : X) (text : List ℕ) (xs : List Thing) → is_all (Some (text, tags xs)) ≡ is_some (all_of x text xs)
over-tells x [] [] = refl
over-tells x [] (y ∷ xs) = refl
over-tells x (b ∷ text) xs = refl

all-step : {X : Type 0} (read : Option (X × List ℕ × List Thing)) (walked : Option (List ℕ × List (Option ℕ))) → Tells read walked → is_all walked ≡ is_some (whole read)
all-step None walked h = ap is_all h.0
all-step (Some r) walked h = ap is_all h.0 ∙ over-tells r.0 r.1 r.2

pub all-agrees : {X : Type 0} (reader : ThingReader X) (walk : Walk) → Agrees reader walk → (text : List ℕ) (xs : List Thing) → AllForm xs
    → is_all (walk text (tags xs)) ≡ is_some (whole (reader text xs))
all-agrees reader walk agrees text xs h = all-step (reader text xs) (walk text (tags xs)) (agrees text xs h)

-- ---- the tags of kids that have the form of their tag

test-some : {X : Type 0} (b : Bool) (x : X) → is_some (if b then Some x else None) ≡ b
test-some true x = refl
test-some false x = refl

positive : (n : ℕ) → (suc n == 0) ≡ false
positive n = grind (arith, nat_tests)

pub bytes-kid : (x : Thing) → IsTrue (has_form x) → is_some (bytes_in x) ≡ (tag_of x == 0)
unfolding has_form create_from_thing made_from_thing products_in
bytes-kid (thing tag text no_kids) h = test-some (tag == 0) text
bytes-kid (thing zero text (kid y ys)) h = absurd (cc)
bytes-kid (thing (suc n) text (kid y ys)) h = sym (positive n)

pub input-kid : (x : Thing) → IsTrue (has_form x) → is_some (input_in x) ≡ (tag_of x == 2)
input-kid (thing tag text kids) h = test-some (tag == 2) (thing tag text kids)

if-not : {X : Type 0} (b : Bool) (m : Option X) → b ≡ false → is_some (if b then m else None) ≡ b
if-not true m e = absurd (cc)
if-not false m e = refl

low : (n : ℕ) → (suc (suc (suc (suc n))) == 3) ≡ false
low n = grind (arith, nat_tests)

pub products-kid : (x : Thing) → IsTrue (has_form x) → is_some (products_in x) ≡ (tag_of x == 3)
unfolding has_form create_from_thing made_from_thing products_in
products-kid (thing zero text kids) h = refl
products-kid (thing (suc zero) text kids) h = refl
products-kid (thing (suc (suc zero)) text kids) h = refl
products-kid (thing (suc (suc (suc zero))) text no_kids) h = h
products-kid (thing (suc (suc (suc zero))) text (kid x xs)) h = h
products-kid (thing (suc (suc (suc (suc n)))) text kids) h = if-not (suc (suc (suc (suc n))) == 3) _ (low n)
