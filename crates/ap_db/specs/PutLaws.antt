-- The items of a lawful change are lawful by number, and make of the tables what they make as plain items.
use Rattle.std.proofs.Common.{◌≡◌, ◌==◌, ◌&&◌, ◌||◌, ℕ, Bool, true, false, cond, List, [], ◌∷◌, ◌++◌, map, Option, Some, None, is_some, refl, sym, ◌∙◌, ap, subst, ◌⊎◌, inl, inr, fold, option_map, option_and_then, append_assoc, option_to_list}
use Rattle.std.specs.List.{flat_map, list_all}
use Rattle.ap_content.specs.Things.{Thing}
use Rattle.ap_rows.specs.Readers.{is_folded}
use Rattle.ap_rows.specs.Folded.{is_folded_job, is_folded_created}
use Rattle.ap_rows.specs.Forms.{has_form}
use Rattle.ap_db.specs.Same.{tag_of, is_among}
use Rattle.ap_db.specs.Tables.{PlainSource, PlainCreate, PlainOutcome, done, failed, PlainResult, processed, on_cycle, lacks, after_failure, PlainJob, PlainTables}
use Rattle.ap_db.specs.Changes.{source_row_at, create_row_at, job_row_at, with_folders, with_source, without_source, with_create, without_create, with_job, without_job}
use Rattle.ap_db.specs.Stored.{Live, Stored, values, if_tagged, tagged_at, outcome_named, result_named, with_tables, seen_at, outcome_at, result_at, after_item}
use Rattle.ap_db.specs.Commit.{PlainItem, puts_folders, puts_source, removes_source, puts_create, removes_create, puts_job, removes_job, item_things, with_below, number_of, seen_item, outcome_item, result_item, numbered}
use Rattle.ap_db.specs.Lawful.{is_good_thing, is_good_content, is_good_outcome, is_good_result, is_lawful_item, after_plain, are_lawful}
use Rattle.ap_db.specs.Members.{Has, AreIn, in_front, in_back, in_either, passes_each}
use Rattle.ap_db.specs.SameThings.{both_parts, has_if_among}
use Rattle.ap_db.specs.DefineLaws.{AreNumbered, numbered_right}
use Rattle.ap_db.specs.NewThings.{AreGood}
use Rattle.ap_db.specs.EachItem.{after_each, each_first}

-- ---- what a lawful item names is good

either_way : (a b : Bool) → (a || b) ≡ true → (a ≡ true) ⊎ (b ≡ true)
either_way true b e = inl refl
either_way false b e = inr e

tag_of_good : (stored : Stored) (tag : ℕ) (x : Thing) → is_good_thing stored tag x ≡ true → tag_of x == tag ≡ true
unfolding is_good_thing
tag_of_good stored tag x good = (both_parts (tag_of x == tag) (list_all (λ part. is_among (values stored) part || has_form part) (with_below x)) good).0

parts_of_good : (stored : Stored) (tag : ℕ) (x : Thing) → is_good_thing stored tag x ≡ true → AreGood (values stored) (with_below x)
unfolding is_good_thing
parts_of_good stored tag x good y m =
    known_or_formed (either_way (is_among (values stored) y) (has_form y)
    (passes_each (λ part. is_among (values stored) part || has_form part) (with_below x) (both_parts (tag_of x == tag) (list_all (λ part. is_among (values stored) part || has_form part) (with_below x)) good).1 y m))
  where
    known_or_formed : (is_among (values stored) y ≡ true) ⊎ (has_form y ≡ true) → Has (values stored) y ⊎ (has_form y ≡ true)
    known_or_formed (inl e) = inl (has_if_among (values stored) y e)
    known_or_formed (inr e) = inr e

-- of one list or of another
good_append : (known xs ys : List Thing) → AreGood known xs → AreGood known ys → AreGood known (xs ++ ys)
good_append known xs ys first next y m = sort (in_either xs ys y m)
  where
    sort : Has xs y ⊎ Has ys y → Has known y ⊎ (has_form y ≡ true)
    sort (inl a) = first y a
    sort (inr b) = next y b

good_none : (known : List Thing) → AreGood known []
good_none known y m = absurd m

good_one : (stored : Stored) (tag : ℕ) (x : Thing) → is_good_thing stored tag x ≡ true → AreGood (values stored) (flat_map with_below (x ∷ []))
good_one stored tag x good y m = good_append (values stored) (with_below x) [] (λ z n. parts_of_good stored tag x good z n) (λ z n. good_none (values stored) z n) y m

good_content : (stored : Stored) (content : Option Thing) → is_good_content stored content ≡ true → AreGood (values stored) (flat_map with_below (option_to_list content))
good_content stored None good y m = absurd m
good_content stored (Some x) good y m = good_one stored 0 x good y m

good_outcome : (stored : Stored) (outcome : PlainOutcome) → is_good_outcome stored outcome ≡ true → AreGood (values stored) (flat_map with_below (outcome_named outcome))
good_outcome stored (done x) good y m = good_one stored 3 x good y m
good_outcome stored (failed code) good y m = absurd m

good_result : (stored : Stored) (result : PlainResult) → is_good_result stored result ≡ true → AreGood (values stored) (flat_map with_below (result_named result))
good_result stored (processed input outcome) good y m =
    let parts = both_parts (is_good_thing stored 2 input) (is_good_outcome stored outcome) good in
    good_append (values stored) (with_below input) (flat_map with_below (outcome_named outcome)) (λ z n. parts_of_good stored 2 input parts.0 z n) (λ z n. good_outcome stored outcome parts.1 z n) y m
good_result stored on_cycle good y m = absurd m
good_result stored (lacks d) good y m = absurd m
good_result stored (after_failure d) good y m = absurd m

pub good_item : (stored : Stored) (tables : PlainTables) (item : PlainItem) → is_lawful_item stored tables item ≡ true → AreGood (values stored) (flat_map with_below (item_things item))
unfolding is_lawful_item
good_item stored tables (puts_folders rows) lawful y m = absurd m
good_item stored tables (puts_source row) lawful y m = good_content stored row.content (both_parts (is_folded row.path) (is_good_content stored row.content) lawful).1 y m
good_item stored tables (removes_source path) lawful y m = absurd m
good_item stored tables (puts_create row) lawful y m =
    good_one stored 1 row.input (both_parts (is_folded row.source) (is_good_thing stored 1 row.input) (both_parts (is_folded row.source && is_good_thing stored 1 row.input) (is_folded_created row.created) lawful).0).1 y m
good_item stored tables (removes_create path) lawful y m = absurd m
good_item stored tables (puts_job row) lawful y m = good_result stored row.result (both_parts (is_folded_job row.id) (is_good_result stored row.result) lawful).1 y m
good_item stored tables (removes_job id) lawful y m = absurd m

flat_twice : (xs ys : List Thing) → flat_map with_below (xs ++ ys) ≡ flat_map with_below xs ++ flat_map with_below ys
flat_twice [] ys = refl
flat_twice (x ∷ xs) ys = ap (λ l. with_below x ++ l) (flat_twice xs ys) ∙ sym (append_assoc (with_below x) (flat_map with_below xs) (flat_map with_below ys))

pub good_change : (stored : Stored) (tables : PlainTables) (items : List PlainItem) → are_lawful stored tables items ≡ true → AreGood (values stored) (flat_map with_below (flat_map item_things items))
good_change stored tables [] lawful y m = absurd m
good_change stored tables (item ∷ items) lawful y m =
    let parts = both_parts (is_lawful_item stored tables item) (are_lawful stored (after_plain tables item) items) lawful in
    good_append (values stored) (flat_map with_below (item_things item)) (flat_map with_below (flat_map item_things items))
    (λ z n. good_item stored tables item parts.0 z n) (λ z n. good_change stored (after_plain tables item) items parts.1 z n)
    y (subst (λ l. Has l y) (flat_twice (item_things item) (flat_map item_things items)) m)

-- ---- rows by number

module _ (stored : Stored) (numbers : List Live) (now : Stored) (are : AreNumbered numbers now) where
  tagged_right : (tag : ℕ) (x : Thing) → is_good_thing stored tag x ≡ true → Has (values now) x → tagged_at tag now (number_of numbers x) ≡ Some x
  tagged_right tag x good lives =
      ap (option_and_then (if_tagged tag)) (numbered_right numbers now x are lives) ∙ ap (λ b. cond b (Some x) None) (tag_of_good stored tag x good)

  seen_right : (content : Option Thing) → is_good_content stored content ≡ true → AreIn (option_to_list content) (values now) → seen_at now (seen_item numbers content) ≡ Some content
  seen_right None good live = refl
  seen_right (Some x) good live = ap (option_map (λ (y : Thing). Some y)) (tagged_right 0 x good (live x (inl refl)))

  outcome_right : (outcome : PlainOutcome) → is_good_outcome stored outcome ≡ true → AreIn (outcome_named outcome) (values now) → outcome_at now (outcome_item numbers outcome) ≡ Some outcome
  outcome_right (done x) good live = ap (option_map done) (tagged_right 3 x good (live x (inl refl)))
  outcome_right (failed code) good live = refl

  result_right : (result : PlainResult) → is_good_result stored result ≡ true → AreIn (result_named result) (values now) → result_at now (result_item numbers result) ≡ Some result
  result_right (processed input outcome) good live =
      let parts = both_parts (is_good_thing stored 2 input) (is_good_outcome stored outcome) good in
      ap (option_and_then (λ input. option_map (processed input) (outcome_at now (outcome_item numbers outcome)))) (tagged_right 2 input parts.0 (live input (inl refl)))
      ∙ ap (option_map (processed input)) (outcome_right outcome parts.1 (λ x m. live x (inr m)))
  result_right on_cycle good live = refl
  result_right (lacks d) good live = refl
  result_right (after_failure d) good live = refl

  -- an item by number is lawful, and does what the plain one does
  pub item_right : (item : PlainItem) → is_lawful_item stored now.tables item ≡ true → AreIn (item_things item) (values now) → after_item now (numbered numbers item) ≡ Some (with_tables now (after_plain now.tables item))
  unfolding is_lawful_item after_item
  item_right (puts_folders rows) lawful live = ap (λ b. cond b (Some (with_tables now (with_folders now.tables rows))) None) lawful
  item_right (puts_source row) lawful live =
      ap (λ o. option_map (λ (r : PlainSource). with_tables now (with_source now.tables r)) (option_map (λ (content : Option Thing). record { path = row.path; order = row.order; name = row.name; content = content }) o))
      (seen_right row.content (both_parts (is_folded row.path) (is_good_content stored row.content) lawful).1 (λ x m. live x m))
  item_right (removes_source path) lawful live = there (source_row_at now.tables path) lawful
    where
      there : (o : Option PlainSource) → is_some o ≡ true → option_map (λ (row : PlainSource). with_tables now (without_source now.tables path)) o ≡ Some (with_tables now (without_source now.tables path))
      there None e = absurd (cc e)
      there (Some row) e = refl
  item_right (puts_create row) lawful live =
      ap (λ o. option_map (λ (r : PlainCreate). with_tables now (with_create now.tables r)) (option_map (λ (input : Thing). record { source = row.source; input = input; created = row.created }) o))
      (tagged_right 1 row.input (both_parts (is_folded row.source) (is_good_thing stored 1 row.input) (both_parts (is_folded row.source && is_good_thing stored 1 row.input) (is_folded_created row.created) lawful).0).1 (live row.input (inl refl)))
  item_right (removes_create path) lawful live = there (create_row_at now.tables path) lawful
    where
      there : (o : Option PlainCreate) → is_some o ≡ true → option_map (λ (row : PlainCreate). with_tables now (without_create now.tables path)) o ≡ Some (with_tables now (without_create now.tables path))
      there None e = absurd (cc e)
      there (Some row) e = refl
  item_right (puts_job row) lawful live =
      ap (λ o. option_map (λ (r : PlainJob). with_tables now (with_job now.tables r)) (option_map (λ (result : PlainResult). record { id = row.id; result = result }) o))
      (result_right row.result (both_parts (is_folded_job row.id) (is_good_result stored row.result) lawful).1 (λ x m. live x m))
  item_right (removes_job id) lawful live = there (job_row_at now.tables id) lawful
    where
      there : (o : Option PlainJob) → is_some o ≡ true → option_map (λ (row : PlainJob). with_tables now (without_job now.tables id)) o ≡ Some (with_tables now (without_job now.tables id))
      there None e = absurd (cc e)
      there (Some row) e = refl

-- the items of a change, by number, one after another
pub items_right : (stored : Stored) (numbers : List Live) (items : List PlainItem) (now : Stored) → AreNumbered numbers now → are_lawful stored now.tables items ≡ true → AreIn (flat_map item_things items) (values now)
    → after_each now (map (numbered numbers) items) ≡ Some (with_tables now (fold after_plain now.tables items))
items_right stored numbers [] now are lawful live = refl
items_right stored numbers (item ∷ items) now are lawful live =
    let parts = both_parts (is_lawful_item stored now.tables item) (are_lawful stored (after_plain now.tables item) items) lawful in
    let next = with_tables now (after_plain now.tables item) in
    each_first now next (with_tables now (fold after_plain (after_plain now.tables item) items)) (numbered numbers item) (map (numbered numbers) items)
    (item_right stored numbers now are item parts.0 (λ x m. live x (in_front (item_things item) (flat_map item_things items) x m)))
    (items_right stored numbers items next (record { falls = are.falls; have = λ y m. are.have y m; agree = λ a b ha hb e. are.agree a b ha hb e }) parts.1 (λ x m. live x (in_back (item_things item) (flat_map item_things items) x m)))
