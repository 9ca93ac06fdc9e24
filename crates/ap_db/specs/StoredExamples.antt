-- What files stand for, at bytes that were written by hand.
use Rattle.std.specs.Prelude.{◌≡◌, ℕ, List, [], ◌∷◌, ◌++◌, Some, codes, refl, Ok, Err}
use Rattle.std.specs.Str.{chars, is_utf8}
use Rattle.std.specs.Char.{encode_utf8}
use Rattle.ap_content.specs.Things.{bytes_thing}
use Rattle.ap_text.specs.PathRules.{is_rel_path}
use Rattle.ap_rows.specs.Readers.{is_folded, raw_path, path}
use Rattle.ap_rows.specs.Grammar.{thing_number, seen_by, seen, folder_row, source_row, define, item_by, item}
use Rattle.ap_rows.specs.Forms.{has_form}
use Rattle.ap_journal.specs.Records.{first_record, records_up_to, records}
use Rattle.ap_db.specs.Tables.{no_tables}
use Rattle.ap_db.specs.Stored.{nothing_stored, after_item, first_step, after_items, after_payload, after_payloads, stored_in}

abbrev head : List ℕ
head = codes "APSTORE1" ++ 0 ∷ 0 ∷ 0 ∷ 0 ∷ 0 ∷ 0 ∷ 0 ∷ 1 ∷ []

-- a record, and the closed gate behind it
abbrev one_record : List ℕ → ℕ → List ℕ
one_record payload size = 1 ∷ 0 ∷ 0 ∷ 0 ∷ size ∷ payload ++ 0 ∷ []

-- the first commit of a project without files: 37 bytes
pub one_folder : stored_in (head ++ one_record (9 ∷ 0 ∷ 0 ∷ 0 ∷ 1 ∷ 0 ∷ 0 ∷ 0 ∷ 0 ∷ 0 ∷ 4 ∷ codes "game") 15)
    ≡ Ok (record nothing_stored { tables = record no_tables { folders = record { order = 0; path = codes "game" } ∷ [] } })
unfolding chars is_utf8 encode_utf8 is_rel_path raw_path folder_row item_by item first_record records_up_to records after_item first_step after_items after_payload after_payloads stored_in
one_folder = refl

-- bytes that are no item
pub a_bad_record : stored_in (head ++ one_record (255 ∷ []) 1) ≡ Err (record { place = 1; offset = 0 })
unfolding item_by item first_record records_up_to records after_item first_step after_items after_payload after_payloads stored_in
a_bad_record = refl

-- behind a closed gate they are none
pub a_closed_gate : stored_in (head ++ 0 ∷ 0 ∷ 0 ∷ 0 ∷ 1 ∷ 255 ∷ 0 ∷ []) ≡ Ok nothing_stored
unfolding first_record records_up_to records after_payloads stored_in
a_closed_gate = refl

-- a file of no more than a header has no record
pub only_a_header : stored_in (255 ∷ 255 ∷ 255 ∷ 255 ∷ 255 ∷ 255 ∷ 255 ∷ 255 ∷ 255 ∷ 255 ∷ 255 ∷ 255 ∷ 255 ∷ 255 ∷ 255 ∷ 255 ∷ []) ≡ Ok nothing_stored
unfolding first_record records_up_to records after_payloads stored_in
only_a_header = refl

-- a record under another mark
pub a_bad_header : stored_in (codes "APSTORE2" ++ 0 ∷ 0 ∷ 0 ∷ 0 ∷ 0 ∷ 0 ∷ 0 ∷ 1 ∷ one_record [] 0) ≡ Err (record { place = 0; offset = 0 })
unfolding first_record records_up_to records stored_in
a_bad_header = refl

-- a Drop of a number that isn't live is in the grammar and not lawful; it is found before the bad item behind it
pub an_unlawful_item : stored_in (head ++ one_record (9 ∷ 0 ∷ 0 ∷ 0 ∷ 0 ∷ 2 ∷ 0 ∷ 0 ∷ 0 ∷ 0 ∷ 0 ∷ 0 ∷ 0 ∷ 1 ∷ 255 ∷ []) 15) ≡ Err (record { place = 1; offset = 5 })
unfolding thing_number item_by item first_record records_up_to records after_item first_step after_items after_payload after_payloads stored_in
an_unlawful_item = refl

-- the bytes `x` are thing 1, and a source has them
abbrev defines_x : List ℕ
defines_x = 1 ∷ 0 ∷ 0 ∷ 0 ∷ 0 ∷ 1 ∷ 120 ∷ 0 ∷ 0 ∷ 0 ∷ 0 ∷ []

abbrev puts_a : List ℕ
puts_a = 3 ∷ 0 ∷ 1 ∷ 97 ∷ 0 ∷ 0 ∷ 0 ∷ 0 ∷ 0 ∷ 1 ∷ 97 ∷ 0 ∷ 0 ∷ 0 ∷ 0 ∷ 0 ∷ 0 ∷ 0 ∷ 0 ∷ 1 ∷ []

pub a_source : after_payload nothing_stored (defines_x ++ puts_a)
    ≡ Ok (record {
      defined = 1;
      live = record { number = 1; value = bytes_thing (codes "x") } ∷ [];
      tables = record no_tables { sources = record { path = codes "a"; order = 0; name = codes "a"; content = Some (bytes_thing (codes "x")) } ∷ [] };
    })
unfolding chars is_utf8 encode_utf8 is_rel_path is_folded raw_path path thing_number seen_by seen source_row define item_by item has_form after_item first_step after_items after_payload
a_source = refl

-- no thing is defined twice
pub defined_twice : after_payload nothing_stored (defines_x ++ defines_x) ≡ Err 11
unfolding thing_number define item_by item has_form after_item first_step after_items after_payload
defined_twice = refl

-- a thing that a row names may not go
pub still_named : after_payload nothing_stored (defines_x ++ puts_a ++ 2 ∷ 0 ∷ 0 ∷ 0 ∷ 0 ∷ 0 ∷ 0 ∷ 0 ∷ 1 ∷ []) ≡ Err 31
unfolding chars is_utf8 encode_utf8 is_rel_path is_folded raw_path path thing_number seen_by seen source_row define item_by item has_form after_item first_step after_items after_payload
still_named = refl
