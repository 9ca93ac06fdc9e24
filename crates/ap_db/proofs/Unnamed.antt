-- What nothing names after a change was named by nothing before, is new, or was named by a row that went.
use Rattle.std.proofs.Common.{◌≡◌, ◌+◌, ◌<◌, ℕ, zero, suc, Bool, true, false, cond, List, [], ◌∷◌, ◌++◌, fold, Option, refl, sym, subst, arith, ◌⊎◌, inl, inr}
use Rattle.std.specs.Prelude.{Contains}
use Rattle.std.specs.List.{flat_map}
use Rattle.std.proofs.lemmas.List.Elements.{Contains-append_left, Contains-append_right}
use Rattle.ap_content.specs.Things.{Thing}
use Rattle.ap_content.specs.Entries.{Entry, Stands}
use Rattle.ap_content.specs.declared.node.Number.{Number}
use Rattle.ap_rows.specs.declared.change.Item.{Item}
use Rattle.ap_db.specs.declared.old.Old.{Old}
use Rattle.ap_db.specs.declared.state.State.{State}
use Rattle.ap_db.specs.Same.{same_thing}
use Rattle.ap_db.specs.Tables.{PlainTables}
use Rattle.ap_db.specs.Changes.{source_cmp, create_cmp, job_row_cmp, source_row_at, create_row_at, job_row_at}
use Rattle.ap_db.specs.Commit.{PlainItem, puts_folders, puts_source, removes_source, puts_create, removes_create, puts_job, removes_job, item_things, new_things}
use Rattle.ap_db.specs.Lawful.{after_plain}
use Rattle.ap_db.specs.Listed.{AreAll, total, replaced}
use Rattle.ap_db.specs.Members.{Has}
use Rattle.ap_db.specs.Naming.{named_by}
use Rattle.ap_db.specs.Olds.{GivenIs, AreGiven, numbers_in}
use Rattle.ap_db.specs.Putting.{AreAllPut}
use Rattle.ap_db.specs.SameThings.{one_if_same}
use Rattle.ap_db.specs.States.{Names, TablesRise, times_in}
use Rattle.ap_db.specs.Stored.{Stored, values, named_things, kids_of_thing, row_things, content_named, with_tables, and_thing}
use Rattle.ap_db.specs.TakenOut.{AreCandidates}
use Rattle.ap_db.proofs.Alike.{total_append}
use Rattle.ap_db.proofs.PutRoom.{few}
use Rattle.ap_db.proofs.Puts.{create_named, job_named, sources_named, creates_named, jobs_named, source_put, create_put, job_put, source_taken, create_taken, job_taken}

-- ---- what the rows named that items replace or remove

abbrev gone : PlainTables → PlainItem → List Thing
gone tables (puts_folders rows) = []
gone tables (puts_source row) = named_by content_named (replaced source_cmp row tables.sources)
gone tables (removes_source path) = named_by content_named (source_row_at tables path)
gone tables (puts_create row) = named_by create_named (replaced create_cmp row tables.creates)
gone tables (removes_create path) = named_by create_named (create_row_at tables path)
gone tables (puts_job row) = named_by job_named (replaced job_row_cmp row tables.jobs)
gone tables (removes_job id) = named_by job_named (job_row_at tables id)

abbrev all_gone : PlainTables → List PlainItem → List Thing
all_gone tables [] = []
all_gone tables (item ∷ items) = gone tables item ++ all_gone (after_plain tables item) items

module _ (N : Number → Thing → Type 0) where
  both_alike : (ns ms : List Number) (xs ys : List Thing) → AreAll N ns xs → AreAll N ms ys → AreAll N (ns ++ ms) (xs ++ ys)
  both_alike [] ms [] ys first next = next
  both_alike [] ms (x ∷ xs) ys first next = absurd first
  both_alike (n ∷ ns) ms [] ys first next = absurd first
  both_alike (n ∷ ns) ms (x ∷ xs) ys first next = (first.0, both_alike ns ms xs ys first.1 next)

  gone_named : (tables : PlainTables) (item : PlainItem) (old : Old) → GivenIs N tables item old → AreAll N (numbers_in old) (gone tables item)
  gone_named tables (puts_folders rows) old h = subst (λ (o : Old). AreAll N (numbers_in o) []) (sym h) tt
  gone_named tables (puts_source row) old h = subst (λ (o : Old). AreAll N (numbers_in o) (named_by content_named (replaced source_cmp row tables.sources))) (sym h.1) (sources_named N h.0 (replaced source_cmp row tables.sources) h.2)
  gone_named tables (removes_source path) old h = subst (λ (o : Old). AreAll N (numbers_in o) (named_by content_named (source_row_at tables path))) (sym h.1) (sources_named N h.0 (source_row_at tables path) h.2)
  gone_named tables (puts_create row) old h = subst (λ (o : Old). AreAll N (numbers_in o) (named_by create_named (replaced create_cmp row tables.creates))) (sym h.1) (creates_named N h.0 (replaced create_cmp row tables.creates) h.2)
  gone_named tables (removes_create path) old h = subst (λ (o : Old). AreAll N (numbers_in o) (named_by create_named (create_row_at tables path))) (sym h.1) (creates_named N h.0 (create_row_at tables path) h.2)
  gone_named tables (puts_job row) old h = subst (λ (o : Old). AreAll N (numbers_in o) (named_by job_named (replaced job_row_cmp row tables.jobs))) (sym h.1) (jobs_named N h.0 (replaced job_row_cmp row tables.jobs) h.2)
  gone_named tables (removes_job id) old h = subst (λ (o : Old). AreAll N (numbers_in o) (named_by job_named (job_row_at tables id))) (sym h.1) (jobs_named N h.0 (job_row_at tables id) h.2)

  all_gone_named : (tables : PlainTables) (items : List PlainItem) (olds : List Old) → AreGiven N tables items olds → AreAll N (flat_map numbers_in olds) (all_gone tables items)
  all_gone_named tables [] [] h = tt
  all_gone_named tables [] (old ∷ olds) h = absurd h
  all_gone_named tables (item ∷ items) [] h = absurd h
  all_gone_named tables (item ∷ items) (old ∷ olds) h =
      both_alike (numbers_in old) (flat_map numbers_in olds) (gone tables item) (all_gone (after_plain tables item) items) (gone_named tables item old h.0) (all_gone_named (after_plain tables item) items olds h.1)

  -- ---- what is named has its number among these

  cons_contains : (y : Number) (ns : List Number) (m : Number) → Contains ns m → Contains (y ∷ ns) m
  cons_contains y ns m at = (suc at.0, omega (arith, at.1), at.2)

  number_among : (ns : List Number) (ys : List Thing) → AreAll N ns ys → (x : Thing) → 0 < times_in ys x → (m : Number) × Contains ns m × N m x
  number_among [] [] are x named = absurd (omega (arith, named))
  number_among [] (y ∷ ys) are x named = absurd are
  number_among (n ∷ ns) [] are x named = absurd are
  number_among (n ∷ ns) (y ∷ ys) are x named = step (same_thing x y) refl named (λ more. number_among ns ys are.1 x more)
    where
      step : (b : Bool) → same_thing x y ≡ b → 0 < cond b 1 0 + times_in ys x → (0 < times_in ys x → (m : Number) × Contains ns m × N m x) → (m : Number) × Contains (n ∷ ns) m × N m x
      step true same named later = (n, (0, omega arith, refl), subst (N n) (sym (one_if_same x y same)) are.0)
      step false same named later =
          let there = later (omega (arith, named)) in
          (there.0, cons_contains n ns there.0 there.1, there.2)

  number_of_each : (ns : List Number) (ys : List Thing) → AreAll N ns ys → (x : Thing) → Has ys x → (m : Number) × Contains ns m × N m x
  number_of_each [] [] are x h = absurd h
  number_of_each [] (y ∷ ys) are x h = absurd are
  number_of_each (n ∷ ns) [] are x h = absurd are
  number_of_each (n ∷ ns) (y ∷ ys) are x (inl same) = (n, (0, omega arith, refl), subst (N n) same are.0)
  number_of_each (n ∷ ns) (y ∷ ys) are x (inr h) =
      let there = number_of_each ns ys are.1 x h in
      (there.0, cons_contains n ns there.0 there.1, there.2)

-- ---- what the rows name comes from before and from the items, less what went

module _ (f : Thing → ℕ) where
  one_total : (tables : PlainTables) → TablesRise tables → (item : PlainItem) → total f (row_things (after_plain tables item)) + total f (gone tables item) ≡ total f (row_things tables) + total f (item_things item)
  one_total tables rise (puts_folders rows) = refl
  one_total tables rise (puts_source row) = source_put f tables row
  one_total tables rise (removes_source path) = omega (arith, source_taken f tables rise path)
  one_total tables rise (puts_create row) = create_put f tables row
  one_total tables rise (removes_create path) = omega (arith, create_taken f tables rise path)
  one_total tables rise (puts_job row) = job_put f tables row
  one_total tables rise (removes_job id) = omega (arith, job_taken f tables rise id)

  all_total : (tables : PlainTables) → TablesRise tables → (items : List PlainItem) → total f (row_things (fold after_plain tables items)) + total f (all_gone tables items) ≡ total f (row_things tables) + total f (flat_map item_things items)
  all_total tables rise [] = refl
  all_total tables rise (item ∷ items) =
      let one = one_total tables rise item in
      let more = all_total (after_plain tables item) (few (item ∷ []) tables rise).rise items in
      omega (arith, one, more, total_append f (gone tables item) (all_gone (after_plain tables item) items), total_append f (item_things item) (flat_map item_things items))

none_or_some : (n : ℕ) → (n ≡ 0) ⊎ (0 < n)
none_or_some zero = inl refl
none_or_some (suc n) = inr (omega arith)

-- what the items put, and what the rows named then, was named before or is named by the items
pub unnamed_before : (state : State) (contents : List (Option Entry)) (stored : Stored) (plain : List PlainItem) (items : List Item) (olds : List Old) → AreAllPut state contents stored plain items olds
    → (x : Thing) → times_in (named_things (with_tables stored (fold after_plain stored.tables plain))) x ≡ 0
    → (times_in (named_things stored) x ≡ 0) ⊎ ((m : Number) × Contains (flat_map numbers_in olds) m × Stands contents m x)
unnamed_before state contents stored plain items olds put x none = step (none_or_some (times_in went x))
  where
    N : Number → Thing → Type 0
    N = Names state.things.items contents

    now : PlainTables
    now = fold after_plain stored.tables plain

    went : List Thing
    went = all_gone stored.tables plain

    kids : List Thing
    kids = flat_map kids_of_thing (values stored)

    f : Thing → ℕ
    f y = cond (same_thing x y) 1 0

    step : (times_in went x ≡ 0) ⊎ (0 < times_in went x) → (times_in (named_things stored) x ≡ 0) ⊎ ((m : Number) × Contains (flat_map numbers_in olds) m × Stands contents m x)
    step (inl gone_none) =
        let all : times_in (row_things now) x + times_in went x ≡ times_in (row_things stored.tables) x + times_in (flat_map item_things plain) x = all_total (λ y. cond (same_thing x y) 1 0) stored.tables put.rise plain in
        let after : times_in (named_things (with_tables stored now)) x ≡ times_in (row_things now) x + times_in kids x = total_append (λ y. cond (same_thing x y) 1 0) (row_things now) kids in
        let before : times_in (named_things stored) x ≡ times_in (row_things stored.tables) x + times_in kids x = total_append (λ y. cond (same_thing x y) 1 0) (row_things stored.tables) kids in
        inl (omega (arith, all, after, before, none, gone_none))
    step (inr some) =
        let there = number_among N (flat_map numbers_in olds) went (all_gone_named N stored.tables plain olds put.given) x some in
        inr (there.0, there.1, there.2.stands)

-- what nothing names once these things are defined is one of them, or was there and nothing named it
pub unnamed_or_new : (stored : Stored) (xs : List Thing) (x : Thing) → Has (values (fold and_thing stored xs)) x → times_in (named_things (fold and_thing stored xs)) x ≡ 0
    → Has xs x ⊎ (Has (values stored) x × (times_in (named_things stored) x ≡ 0))
unnamed_or_new stored [] x lives none = inr (lives, none)
unnamed_or_new stored (y ∷ xs) x lives none = step (unnamed_or_new (and_thing stored y) xs x lives none)
  where
    kids : List Thing
    kids = flat_map kids_of_thing (values stored)

    fewer : times_in (named_things (and_thing stored y)) x ≡ 0 → times_in (named_things stored) x ≡ 0
    fewer e =
        let after : times_in (named_things (and_thing stored y)) x ≡ times_in (row_things stored.tables) x + times_in (kids_of_thing y ++ kids) x = total_append (λ z. cond (same_thing x z) 1 0) (row_things stored.tables) (kids_of_thing y ++ kids) in
        let more : times_in (kids_of_thing y ++ kids) x ≡ times_in (kids_of_thing y) x + times_in kids x = total_append (λ z. cond (same_thing x z) 1 0) (kids_of_thing y) kids in
        let before : times_in (named_things stored) x ≡ times_in (row_things stored.tables) x + times_in kids x = total_append (λ z. cond (same_thing x z) 1 0) (row_things stored.tables) kids in
        omega (arith, after, more, before, e)

    step : Has xs x ⊎ (Has (y ∷ values stored) x × (times_in (named_things (and_thing stored y)) x ≡ 0)) → Has (y ∷ xs) x ⊎ (Has (values stored) x × (times_in (named_things stored) x ≡ 0))
    step (inl h) = inl (inr h)
    step (inr (inl same, e)) = inl (inl same)
    step (inr (inr h, e)) = inr (h, fewer e)

-- ---- the candidates of a commit

-- the numbers of what nothing named before, of what is new and of what went are those of all that nothing names then
pub candidates : (state : State) (contents : List (Option Entry)) (stored : Stored) (plain : List PlainItem) (items : List Item) (olds : List Old) (loose defined : List Number) → AreCandidates contents stored loose
    → AreAll (Stands contents) defined (new_things stored plain) → AreAllPut state contents (fold and_thing stored (new_things stored plain)) plain items olds
    → AreCandidates contents (with_tables (fold and_thing stored (new_things stored plain)) (fold after_plain (fold and_thing stored (new_things stored plain)).tables plain)) ((loose ++ defined) ++ flat_map numbers_in olds)
candidates state contents stored plain items olds loose defined were new put x lives none = step (unnamed_before state contents then plain items olds put x none)
  where
    then : Stored
    then = fold and_thing stored (new_things stored plain)

    goal : Type 0
    goal = (m : Number) × Contains ((loose ++ defined) ++ flat_map numbers_in olds) m × Stands contents m x

    sort : Has (new_things stored plain) x ⊎ (Has (values stored) x × (times_in (named_things stored) x ≡ 0)) → goal
    sort (inl h) =
        let there = number_of_each (Stands contents) defined (new_things stored plain) new x h in
        (there.0, Contains-append_left (loose ++ defined) (flat_map numbers_in olds) there.0 (Contains-append_right loose defined there.0 there.1), there.2)
    sort (inr h) =
        let there = were x h.0 h.1 in
        (there.0, Contains-append_left (loose ++ defined) (flat_map numbers_in olds) there.0 (Contains-append_left loose defined there.0 there.1), there.2)

    step : (times_in (named_things then) x ≡ 0) ⊎ ((m : Number) × Contains (flat_map numbers_in olds) m × Stands contents m x) → goal
    step (inl e) = sort (unnamed_or_new stored (new_things stored plain) x lives e)
    step (inr there) = (there.0, Contains-append_right (loose ++ defined) (flat_map numbers_in olds) there.0 there.1, there.2)
