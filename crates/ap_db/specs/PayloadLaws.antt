-- A payload item by item, and records one after another.
use Rattle.std.proofs.Common.{◌≡◌, ◌+◌, ◌-◌, ◌<◌, ℕ, zero, suc, Bool, true, false, cond, List, [], ◌∷◌, ◌++◌, length, Option, Some, None, Result, Ok, Err, refl, sym, ◌∙◌, ap, subst, arith}
use Rattle.ap_rows.specs.declared.change.Item.{Item}
use Rattle.ap_rows.specs.Grammar.{item, behind, items_from, decoded}
use Rattle.ap_journal.specs.Records.{standing, has_bad_header}
use Rattle.ap_db.specs.Stored.{Stored, nothing_stored, after_item, first_step, after_items, after_payload, Fault, after_payloads, stored_in}
use Rattle.ap_db.specs.Options.{from_then_some}
use Rattle.ap_db.specs.WellStored.{IsWellStored}
use Rattle.ap_db.specs.Keeping.{item_keeps, nothing_is_well_stored}
use Rattle.ap_db.specs.EachItem.{after_each}

-- ---- the next item of a payload

pub items_done : (n offset : ℕ) (stored : Stored) (bytes : List ℕ) → length bytes ≡ 0 → after_items n offset stored bytes ≡ Ok stored
unfolding after_items
items_done zero offset stored bytes e = refl
items_done (suc n) offset stored [] e = refl
items_done (suc n) offset stored (b ∷ bytes) e = absurd (omega (arith, e))

-- it isn't in the grammar
pub item_bad : (n offset : ℕ) (stored : Stored) (bytes : List ℕ) → 0 < length bytes → item bytes ≡ None → after_items (suc n) offset stored bytes ≡ Err offset
unfolding after_items first_step
item_bad n offset stored [] some e = absurd (omega (arith, some))
item_bad n offset stored (b ∷ bytes) some e = rw e refl

-- it isn't lawful
pub item_unlawful : (n offset : ℕ) (stored : Stored) (bytes rest : List ℕ) (x : Item) → 0 < length bytes → item bytes ≡ Some (x, rest) → after_item stored x ≡ None → after_items (suc n) offset stored bytes ≡ Err offset
unfolding after_items first_step
item_unlawful n offset stored [] rest x some e h = absurd (omega (arith, some))
item_unlawful n offset stored (b ∷ bytes) rest x some e h = rw (e, h) refl

-- it is lawful, and the others come behind it
pub item_lawful : (n offset : ℕ) (stored next : Stored) (bytes rest : List ℕ) (x : Item) → 0 < length bytes → item bytes ≡ Some (x, rest) → after_item stored x ≡ Some next
    → after_items (suc n) offset stored bytes ≡ after_items n (offset + (length bytes - length rest)) next rest
unfolding after_items first_step
item_lawful n offset stored next [] rest x some e h = absurd (omega (arith, some))
item_lawful n offset stored next (b ∷ bytes) rest x some e h = rw (e, h) refl

-- ---- a payload that spells items

item_read : (n offset : ℕ) (x : Item) (bytes rest : List ℕ) → 0 < length bytes → item bytes ≡ Some (x, rest) → items_from (suc n) offset bytes ≡ behind x (items_from n (offset + (length bytes - length rest)) rest)
unfolding items_from
item_read n offset x [] rest some e = absurd (omega (arith, some))
item_read n offset x (b ∷ bytes) rest some e = rw e refl

none_read : (n offset : ℕ) (bytes : List ℕ) → 0 < length bytes → item bytes ≡ None → items_from (suc n) offset bytes ≡ Err offset
unfolding items_from
none_read n offset [] some e = absurd (omega (arith, some))
none_read n offset (b ∷ bytes) some e = rw e refl

first_of_items : (x : Item) (rest : Result (List Item) ℕ) (items : List Item) → behind x rest ≡ Ok items → (others : List Item) × (rest ≡ Ok others) × (x ∷ others ≡ items)
first_of_items x (Ok others) items e = (others, refl, cc e)
first_of_items x (Err offset) items e = absurd (cc e)

items_spelled : (n offset : ℕ) (stored last : Stored) (bytes : List ℕ) (items : List Item) → items_from n offset bytes ≡ Ok items → after_each stored items ≡ Some last → after_items n offset stored bytes ≡ Ok last
unfolding items_from after_items
items_spelled zero offset stored last bytes items e each =
    let none : [] ≡ items = cc e in
    let same : Some stored ≡ Some last = subst (λ l. after_each stored l ≡ Some last) (sym none) each in
    cc same
items_spelled (suc n) offset stored last [] items e each =
    let none : [] ≡ items = cc e in
    let same : Some stored ≡ Some last = subst (λ l. after_each stored l ≡ Some last) (sym none) each in
    cc same
items_spelled (suc n) offset stored last (b ∷ bytes) items e each = step (item (b ∷ bytes)) refl (λ rest next others r l. items_spelled n (offset + (length (b ∷ bytes) - length rest)) next last rest others r l)
  where
    step : (read : Option (Item × List ℕ)) → item (b ∷ bytes) ≡ read
        → ((rest : List ℕ) (next : Stored) (others : List Item) → items_from n (offset + (length (b ∷ bytes) - length rest)) rest ≡ Ok others → after_each next others ≡ Some last → after_items n (offset + (length (b ∷ bytes) - length rest)) next rest ≡ Ok last)
        → after_items (suc n) offset stored (b ∷ bytes) ≡ Ok last
    step None is again =
        let bad : Err offset ≡ Ok items = sym (none_read n offset (b ∷ bytes) (omega arith) is) ∙ e in
        absurd (cc bad)
    step (Some read) is again =
        let parts = first_of_items read.0 (items_from n (offset + (length (b ∷ bytes) - length read.1)) read.1) items (sym (item_read n offset read.0 (b ∷ bytes) read.1 (omega arith) is) ∙ e) in
        let lawful = from_then_some (λ next. after_each next parts.0) (after_item stored read.0) last (subst (λ l. after_each stored l ≡ Some last) (sym parts.2) each) in
        item_lawful n offset stored lawful.0 (b ∷ bytes) read.1 read.0 (omega arith) is lawful.1 ∙ again read.1 lawful.0 parts.0 parts.1 lawful.2

-- what is stored after a payload that spells items of which each is lawful at its place
pub payload_spelled : (stored last : Stored) (payload : List ℕ) (items : List Item) → decoded payload ≡ Ok items → after_each stored items ≡ Some last → after_payload stored payload ≡ Ok last
unfolding decoded after_payload
payload_spelled stored last payload items e each = items_spelled (length payload) 0 stored last payload items e each

-- ---- what holds of all that records stand for

-- a lawful item that bytes spell keeps it
abbrev pub EachKeeps : (Stored → Type 0) → Type 0
EachKeeps P = (bytes rest : List ℕ) (stored next : Stored) (x : Item) → item bytes ≡ Some (x, rest) → P stored → after_item stored x ≡ Some next → P next

module _ (P : Stored → Type 0) (each : EachKeeps P) where
  items_hold : (n offset : ℕ) (stored last : Stored) (bytes : List ℕ) → P stored → after_items n offset stored bytes ≡ Ok last → P last
  unfolding after_items
  items_hold zero offset stored last bytes well e = let same : stored ≡ last = cc e in subst P same well
  items_hold (suc n) offset stored last [] well e = let same : stored ≡ last = cc e in subst P same well
  items_hold (suc n) offset stored last (b ∷ bytes) well e = step (item (b ∷ bytes)) refl (λ next rest w h. items_hold n (offset + (length (b ∷ bytes) - length rest)) next last rest w h)
    where
      lawful_or_not : (read : Item × List ℕ) (o : Option Stored) → item (b ∷ bytes) ≡ Some read → after_item stored read.0 ≡ o
          → ((next : Stored) (rest : List ℕ) → P next → after_items n (offset + (length (b ∷ bytes) - length rest)) next rest ≡ Ok last → P last) → P last
      lawful_or_not read None is unlawful again =
          let bad : Err offset ≡ Ok last = sym (item_unlawful n offset stored (b ∷ bytes) read.1 read.0 (omega arith) is unlawful) ∙ e in
          absurd (cc bad)
      lawful_or_not read (Some next) is lawful again =
          again next read.1 (each (b ∷ bytes) read.1 stored next read.0 is well lawful) (sym (item_lawful n offset stored next (b ∷ bytes) read.1 read.0 (omega arith) is lawful) ∙ e)

      step : (read : Option (Item × List ℕ)) → item (b ∷ bytes) ≡ read
          → ((next : Stored) (rest : List ℕ) → P next → after_items n (offset + (length (b ∷ bytes) - length rest)) next rest ≡ Ok last → P last) → P last
      step None is again =
          let bad : Err offset ≡ Ok last = sym (item_bad n offset stored (b ∷ bytes) (omega arith) is) ∙ e in
          absurd (cc bad)
      step (Some read) is again = lawful_or_not read (after_item stored read.0) is refl again

  pub payload_holds : (stored last : Stored) (payload : List ℕ) → P stored → after_payload stored payload ≡ Ok last → P last
  unfolding after_payload
  payload_holds stored last payload well e = items_hold (length payload) 0 stored last payload well e

-- ---- records one after another

pub record_good : (place : ℕ) (stored next : Stored) (payload : List ℕ) (payloads : List (List ℕ)) → after_payload stored payload ≡ Ok next → after_payloads place stored (payload ∷ payloads) ≡ after_payloads (suc place) next payloads
unfolding after_payloads
record_good place stored next payload payloads e = rw e refl

pub record_bad : (place offset : ℕ) (stored : Stored) (payload : List ℕ) (payloads : List (List ℕ)) → after_payload stored payload ≡ Err offset → after_payloads place stored (payload ∷ payloads) ≡ Err (record { place = place; offset = offset })
unfolding after_payloads
record_bad place offset stored payload payloads e = rw e refl

first_good : (place : ℕ) (stored last : Stored) (payload : List ℕ) (payloads : List (List ℕ)) → after_payloads place stored (payload ∷ payloads) ≡ Ok last
    → (next : Stored) × (after_payload stored payload ≡ Ok next) × (after_payloads (suc place) next payloads ≡ Ok last)
first_good place stored last payload payloads e = step (after_payload stored payload) refl
  where
    step : (r : Result Stored ℕ) → after_payload stored payload ≡ r → (next : Stored) × (after_payload stored payload ≡ Ok next) × (after_payloads (suc place) next payloads ≡ Ok last)
    step (Ok next) is = (next, is, sym (record_good place stored next payload payloads is) ∙ e)
    step (Err offset) is =
        let bad : Err (record { place = place; offset = offset }) ≡ Ok last = sym (record_bad place offset stored payload payloads is) ∙ e in
        absurd (cc bad)

no_records : (place : ℕ) (stored : Stored) → after_payloads place stored [] ≡ Ok stored
unfolding after_payloads
no_records place stored = refl

pub payloads_hold : (P : Stored → Type 0) → EachKeeps P → (place : ℕ) (stored last : Stored) (payloads : List (List ℕ)) → P stored → after_payloads place stored payloads ≡ Ok last → P last
payloads_hold P each place stored last [] well e =
    let both : Ok stored ≡ Ok last = sym (no_records place stored) ∙ e in
    let same : stored ≡ last = cc both in subst P same well
payloads_hold P each place stored last (payload ∷ payloads) well e =
    let first = first_good place stored last payload payloads e in
    payloads_hold P each (suc place) first.0 last payloads (payload_holds P each stored first.0 payload well first.1) first.2

-- one record more
pub one_more_record : (place : ℕ) (stored mid last : Stored) (payloads : List (List ℕ)) (payload : List ℕ) → after_payloads place stored payloads ≡ Ok mid → after_payload mid payload ≡ Ok last
    → after_payloads place stored (payloads ++ payload ∷ []) ≡ Ok last
one_more_record place stored mid last [] payload e next =
    let both : Ok stored ≡ Ok mid = sym (no_records place stored) ∙ e in
    let same : stored ≡ mid = cc both in
    record_good place stored last payload [] (ap (λ s. after_payload s payload) same ∙ next) ∙ no_records (suc place) last
one_more_record place stored mid last (first ∷ payloads) payload e next =
    let good = first_good place stored mid first payloads e in
    record_good place stored good.0 first (payloads ++ payload ∷ []) good.1 ∙ one_more_record (suc place) good.0 mid last payloads payload good.2 next

-- ---- files

good_header : (bad : Bool) (fault : Result Stored Fault) (rest : Result Stored Fault) (f : Fault) (stored : Stored) → fault ≡ Err f → cond bad fault rest ≡ Ok stored → rest ≡ Ok stored
good_header true fault rest f stored is e =
    let bad : Err f ≡ Ok stored = sym is ∙ e in absurd (cc bad)
good_header false fault rest f stored is e = e

-- what holds of no records, and is kept by each item, holds of what a file stands for
pub file_holds : (P : Stored → Type 0) → EachKeeps P → (file : List ℕ) (stored : Stored) → P nothing_stored → stored_in file ≡ Ok stored → P stored
unfolding stored_in
file_holds P each file stored none e =
    payloads_hold P each 1 nothing_stored stored (standing file) none
    (good_header (has_bad_header file) (Err (record { place = 0; offset = 0 })) (after_payloads 1 nothing_stored (standing file)) (record { place = 0; offset = 0 }) stored refl e)

-- so it is well stored
pub file_is_well_stored : (file : List ℕ) (stored : Stored) → stored_in file ≡ Ok stored → IsWellStored stored
file_is_well_stored file stored e = file_holds IsWellStored (λ bytes rest s next x is well lawful. item_keeps s next x well lawful) file stored nothing_is_well_stored e

-- what it stands for with one record more
pub file_with_one_more : (old new : List ℕ) (payload : List ℕ) (stored last : Stored) → stored_in old ≡ Ok stored → has_bad_header new ≡ false → standing new ≡ standing old ++ payload ∷ [] → after_payload stored payload ≡ Ok last
    → stored_in new ≡ Ok last
unfolding stored_in
file_with_one_more old new payload stored last e good records next =
    let was = good_header (has_bad_header old) (Err (record { place = 0; offset = 0 })) (after_payloads 1 nothing_stored (standing old)) (record { place = 0; offset = 0 }) stored refl e in
    ap (λ b. cond b (Err (record { place = 0; offset = 0 })) (after_payloads 1 nothing_stored (standing new))) good
    ∙ ap (after_payloads 1 nothing_stored) records
    ∙ one_more_record 1 nothing_stored stored last (standing old) payload was next

-- and with the same records
pub same_records : (old new : List ℕ) (stored : Stored) → stored_in old ≡ Ok stored → has_bad_header new ≡ false → standing new ≡ standing old → stored_in new ≡ Ok stored
unfolding stored_in
same_records old new stored e good records =
    let was = good_header (has_bad_header old) (Err (record { place = 0; offset = 0 })) (after_payloads 1 nothing_stored (standing old)) (record { place = 0; offset = 0 }) stored refl e in
    ap (λ b. cond b (Err (record { place = 0; offset = 0 })) (after_payloads 1 nothing_stored (standing new))) good ∙ ap (after_payloads 1 nothing_stored) records ∙ was
