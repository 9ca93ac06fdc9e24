-- Which texts have the form of a tag, told with the tags of the kids alone. No public clause cites this module.
use Rattle.std.specs.Prelude.{◌≡◌, ℕ, zero, suc, Bool, true, false, List, [], ◌∷◌, Option, Some, None, option_map, option_and_then, ◌==◌, if◌then◌else◌}
use Rattle.ap_content.specs.Entries.{Entry, node_at}
use Rattle.ap_content.specs.declared.node.Number.{Number}
use Rattle.ap_rows.specs.Readers.{Reader, number, run_of, path, name, platform, file_name, job_id}
use Rattle.ap_rows.specs.Grammar.{dep_kind}
use Rattle.ap_rows.specs.declared.job.DepKind.{DepKind}
use Rattle.ap_rows.specs.declared.job.DepKind.TheVariants.{Order, OrderOnce, Fingerprint}

-- the tag of what lives under a number
abbrev pub tag_at : List (Option Entry) → Number → Option ℕ
tag_at contents n = option_map (λ node. node.tag) (node_at contents n)

-- ---- kids

-- what is left of the tags of kids behind those that are asked for; None where they don't begin so
abbrev pub Asks : Type 0
Asks = List (Option ℕ) → Option (List (Option ℕ))

-- it is this tag
abbrev pub is_tag : ℕ → Option ℕ → Bool
is_tag tag None = false
is_tag tag (Some t) = t == tag

-- a kid of this tag
abbrev pub a_kid : ℕ → Asks
a_kid tag [] = None
a_kid tag (t ∷ tags) = if is_tag tag t then Some tags else None

-- the bytes that a mark asks for
abbrev pub seen_kids : ℕ → Asks
seen_kids mark tags = if mark == 0 then a_kid 0 tags else if mark == 1 then Some tags else if mark == 2 then Some tags else None

abbrev pub source_kids : ℕ → Asks
source_kids mark tags = if mark == 1 then None else seen_kids mark tags

-- what a dependency of this kind asks for
abbrev pub handed_kids : DepKind → Asks
handed_kids Order tags = a_kid 3 tags
handed_kids OrderOnce tags = None
handed_kids Fingerprint tags = option_and_then (a_kid 3) (a_kid 2 tags)

-- there are no kids
abbrev pub has_none : List (Option ℕ) → Bool
has_none [] = true
has_none (t ∷ tags) = false

-- ---- texts

-- what is left of a text and of the tags of kids behind a form; None where they don't begin with it
abbrev pub Walk : Type 0
Walk = List ℕ → List (Option ℕ) → Option (List ℕ × List (Option ℕ))

-- nothing
abbrev pub nothing : Walk
nothing text tags = Some (text, tags)

-- kids that are asked for
abbrev pub asking : Asks → Walk
asking asks text tags = option_map (λ left. (text, left)) (asks tags)

-- a field of the text, and then what its value says
abbrev pub field_then : {X : Type 0} → Reader X → (X → Walk) → Walk
field_then reader next text tags = option_and_then (λ read. next read.0 read.1 tags) (reader text)

-- one form, and then the next
abbrev pub walk_then : Walk → Walk → Walk
walk_then first next text tags = option_and_then (λ left. next left.0 left.1) (first text tags)

-- so many items
abbrev pub walk_times : Walk → ℕ → Walk
walk_times item zero = nothing
walk_times item (suc n) = walk_then item (walk_times item n)

-- a count of so many bytes, and the items
abbrev pub list_walk : ℕ → Walk → Walk
list_walk width item = field_then (number width) (walk_times item)

-- a matching builder, a platform, a reached file, and what a dependency hands over
abbrev pub builder_walk : Walk
builder_walk = field_then name (λ _. field_then (number 4) (λ _. nothing))

abbrev pub platform_walk : Walk
platform_walk = field_then platform (λ _. nothing)

abbrev pub reached_walk : Walk
reached_walk = field_then path (λ _. field_then (number 1) (λ mark. asking (seen_kids mark)))

abbrev pub handed_walk : Walk
handed_walk = field_then dep_kind (λ kind. field_then job_id (λ _. asking (handed_kids kind)))

-- a reference of a product, and its former ids
abbrev pub ref_walk : Walk
ref_walk = field_then path (λ _. field_then (number 4) (λ _. nothing))

abbrev pub old_walk : Walk
old_walk = field_then (number 4) (λ _. nothing)

abbrev pub formerly_walk : Walk
formerly_walk = field_then path (λ _. nothing)

abbrev pub legacy_walk : Walk
legacy_walk = walk_then (list_walk 4 old_walk) (list_walk 4 formerly_walk)

-- a product
abbrev pub row_walk : Walk
row_walk = field_then file_name (λ _. field_then name (λ _. field_then (number 4) (λ _. walk_then (list_walk 4 ref_walk) legacy_walk)))

abbrev pub product_walk : Walk
product_walk = walk_then row_walk (asking (a_kid 0))

-- what stands of a create input before the files that its source reaches
abbrev pub source_walk : Walk
source_walk = field_then path (λ _. field_then (number 1) (λ mark. asking (source_kids mark)))

-- a create input
abbrev pub create_walk : Walk
create_walk = walk_then (list_walk 8 builder_walk) (walk_then (list_walk 8 platform_walk) (walk_then source_walk (list_walk 8 reached_walk)))

-- what stands of a job input before the files that its source reaches
abbrev pub terms_walk : Walk
terms_walk =
    field_then name (λ _. field_then (number 4) (λ _. field_then platform (λ _. field_then name (λ _. field_then (run_of 8) (λ _. field_then path (λ _. asking (a_kid 0)))))))

-- a job input
abbrev pub input_walk : Walk
input_walk = walk_then terms_walk (walk_then (list_walk 8 reached_walk) (list_walk 8 handed_walk))

-- products
abbrev pub products_walk : Walk
products_walk = list_walk 4 product_walk

-- neither text nor kids are left
abbrev pub is_all : Option (List ℕ × List (Option ℕ)) → Bool
is_all None = false
is_all (Some left) = is_over left.0 left.1
  where
    is_over : List ℕ → List (Option ℕ) → Bool
    is_over [] tags = has_none tags
    is_over (b ∷ text) tags = false

-- the text has the form of the tag, and the kids have the tags that it asks for
unfoldable pub walked : ℕ → List ℕ → List (Option ℕ) → Bool
walked tag text tags =
    if tag == 0 then has_none tags
    else if tag == 1 then is_all (create_walk text tags)
    else if tag == 2 then is_all (input_walk text tags)
    else if tag == 3 then is_all (products_walk text tags)
    else false

-- ---- what calls say

-- it left this; or it refused, since nothing is behind
abbrev pub Leaves : {X : Type 0} → Option (Unit {0}) → Option X → X → Type 0
Leaves None left new = left ≡ None
Leaves (Some done) left new = left ≡ Some new

-- what is behind what was read
abbrev pub behind : {X : Type 0} → Option (X × List ℕ) → Option (List ℕ)
behind read = option_map (λ parts. parts.1) read
