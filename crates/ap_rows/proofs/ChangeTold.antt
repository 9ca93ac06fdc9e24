-- The bytes of a change spell it.
use Rattle.std.proofs.Common.{◌≡◌, ◌<◌, ◌≤◌, ◌+◌, ◌-◌, ℕ, zero, suc, true, ◌&&◌, List, [], ◌∷◌, ◌++◌, length, Option, Some, None, Result, Ok, Err, refl, ap, sym, ◌∙◌, subst, arith}
use Rattle.std.proofs.lemmas.List.{length-append}
use Rattle.ap_rows.specs.declared.change.Item.{Item}
use Rattle.ap_rows.specs.Grammar.{item, items_from, decoded, behind}
use Rattle.ap_rows.specs.Spelling.{item_field, spelled}
use Rattle.ap_rows.specs.Folded.{are_folded}
use Rattle.ap_rows.proofs.Numbers.{IsBytes}
use Rattle.ap_rows.proofs.ChangeByItem.{items-bad}
use Rattle.ap_rows.proofs.ChangeBack.{item-some}
use Rattle.ap_rows.proofs.OneSpelling.{item-told}

abbrev pub Whole : List ℕ → List Item → Type 0
Whole bytes items = (spelled items ≡ bytes) × (are_folded items ≡ true)

one-more : (n offset : ℕ) (x : Item) (old new : List ℕ) → 0 < length old → item old ≡ Some (x, new) → items_from (suc n) offset old ≡ behind x (items_from n (offset + (length old - length new)) new)
unfolding items_from
one-more n offset x [] new some e = absurd (omega arith)
one-more n offset x (b ∷ bytes) new some e = rw e refl

first : (x : Item) (rest : Result (List Item) ℕ) (items : List Item) → behind x rest ≡ Ok items → (others : List Item) × ((rest ≡ Ok others) × (x ∷ others ≡ items))
first x (Ok others) items e = (others, (refl, cc))
first x (Err offset) items e = absurd (cc)

Again : ℕ → Type 0
Again n = (offset : ℕ) (bytes : List ℕ) (items : List Item) → IsBytes bytes → length bytes ≤ n → items_from n offset bytes ≡ Ok items → Whole bytes items

-- an item, and then the others
more-told : (n offset : ℕ) (old : List ℕ) (items : List Item) → Again n → 0 < length old → IsBytes old → length old ≤ suc n → items_from (suc n) offset old ≡ Ok items
    → (read : Option (Item × List ℕ)) → item old ≡ read → Whole old items
unfolding Again
more-told n offset old items again some h enough e None none =
    let no : Err offset ≡ Ok items = sym (items-bad (suc n) offset old (omega arith) some none) ∙ e in
    absurd (cc)
more-told n offset old items again some h enough e (Some read) is =
    let rest = first read.0 (items_from n (offset + (length old - length read.1)) read.1) items (sym (one-more n offset read.0 old read.1 some is) ∙ e) in
    let told = item-told old read.0 read.1 h is in
    let shorter : length read.1 ≤ n = let long = ap length told.0 in omega (arith, length-append (item_field read.0) read.1, item-some read.0) in
    let others = again (offset + (length old - length read.1)) read.1 rest.0 told.2 shorter rest.1.0 in
    subst (Whole old) rest.1.1 (ap (λ l. item_field read.0 ++ l) others.0 ∙ sym told.0, ap (λ b. b && are_folded rest.0) told.1 ∙ others.1)

items-told : (n : ℕ) → Again n
unfolding items_from Again
items-told zero offset [] items h enough e = let none : [] ≡ items = cc in subst (Whole []) none (refl, refl)
items-told zero offset (b ∷ bytes) items h enough e = absurd (omega arith)
items-told (suc n) offset [] items h enough e = let none : [] ≡ items = cc in subst (Whole []) none (refl, refl)
items-told (suc n) offset (b ∷ bytes) items h enough e = more-told n offset (b ∷ bytes) items (items-told n) (omega arith) h enough e (item (b ∷ bytes)) refl

pub decoded-told : (bytes : List ℕ) (items : List Item) → IsBytes bytes → decoded bytes ≡ Ok items → Whole bytes items
unfolding decoded Again
decoded-told bytes items h e = items-told (length bytes) 0 bytes items h (omega arith) e
