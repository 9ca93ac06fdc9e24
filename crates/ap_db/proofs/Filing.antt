-- Things that are in the file, by their numbers of the contents.
use Rattle.std.proofs.Common.{◌≡◌, ◌<◌, ◌==◌, ◌||◌, ℕ, Bool, true, false, cond, List, [], ◌∷◌, ◌++◌, map, Option, Some, refl, sym, ◌∙◌, ap, subst, arith}
use Rattle.std.specs.Prelude.{IsSome, option_map, find}
use Rattle.std.specs.List.{AllByRecursion, flat_map}
use Rattle.std.proofs.lemmas.Bool.Decides.{Decides-eqb}
use Rattle.ap_content.specs.Things.{Thing, Kids, no_kids, kid}
use Rattle.ap_content.specs.Entries.{Entry, IsTidy, Stands, StandEach}
use Rattle.ap_content.specs.declared.node.Number.{Number}
use Rattle.ap_rows.specs.Forms.{kids_in}
use Rattle.ap_rows.specs.declared.row.SourceRow.{SourceRow}
use Rattle.ap_rows.specs.declared.row.CreateRow.{CreateRow}
use Rattle.ap_rows.specs.declared.row.JobRow.{JobRow}
use Rattle.ap_rows.specs.declared.row.Tables.{Tables}
use Rattle.ap_db.specs.declared.things.FileThing.{FileThing}
use Rattle.ap_db.specs.Same.{same_thing, is_among}
use Rattle.ap_db.specs.Tables.{PlainSource, PlainCreate, PlainJob, PlainTables}
use Rattle.ap_db.specs.Stored.{Live, row_things, content_named, result_named}
use Rattle.ap_db.specs.Listed.{AreAll}
use Rattle.ap_db.specs.States.{SourceIs, CreateIs, JobIs, TablesAre, Names, IsFound, Falls, times_in}
use Rattle.ap_db.specs.Naming.{source_numbers, job_numbers}
use Rattle.ap_db.proofs.SameThings.{one_if_same, not_same}
use Rattle.ap_db.proofs.Renaming.{content_alike, result_alike}

pub or_parts : {G : Type 0} (a b : Bool) → (a || b) ≡ true → (a ≡ true → G) → (b ≡ true → G) → G
or_parts true b h f g = f refl
or_parts false b h f g = g h

pub or_second : (a b : Bool) → b ≡ true → (a || b) ≡ true
or_second true b h = refl
or_second false b h = h

pub all_append : {X : Type 0} (P : X → Type 0) (xs ys : List X) → AllByRecursion P xs → AllByRecursion P ys → AllByRecursion P (xs ++ ys)
all_append P [] ys p q = q
all_append P (x ∷ xs) ys p q = (p.0, all_append P xs ys p.1 q)

-- some number of a thing of the file is this one's
abbrev pub Filed : (Number → Thing → Type 0) → Thing → Type 0
Filed N y = (n : Number) × N n y

module _ (things : List (Option FileThing)) (contents : List (Option Entry)) where
  pub filed_among : (live : List Live) → AllByRecursion (IsFound things contents) live → (y : Thing) → is_among (map (λ live. live.value) live) y ≡ true → Filed (Names things contents) y
  filed_among [] found y h = absurd (cc h)
  filed_among (l ∷ live) found y h = or_parts (same_thing y l.value) (is_among (map (λ live. live.value) live) y) h
      (λ same.
      let f = found.0 in
      (f.number, record { file = subst IsSome (sym f.file) refl; stands = subst (λ (z : Thing). Stands contents f.number z) (sym (one_if_same y l.value same)) f.stands }))
      (λ later. filed_among live found.1 y later)

  -- kids that live are in the file under the numbers that they have
  pub kids_filed : IsTidy contents → (live : List Live) → AllByRecursion (IsFound things contents) live → (ns : List Number) (kids : Kids) → StandEach contents ns kids
      → AllByRecursion (λ k. is_among (map (λ live. live.value) live) k ≡ true) (kids_in kids) → AreAll (Names things contents) ns (kids_in kids)
  kids_filed tidy live found [] no_kids each among = tt
  kids_filed tidy live found [] (kid x xs) each among = absurd each
  kids_filed tidy live found (n ∷ ns) no_kids each among = absurd each
  kids_filed tidy live found (n ∷ ns) (kid x xs) each among =
      let filed = filed_among live found x among.0 in
      let one : filed.0 ≡ n = tidy.one_number filed.0 n x filed.1.stands each.0 in
      (subst (λ (k : Number). Names things contents k x) one filed.1, kids_filed tidy live found ns xs each.1 among.1)

module _ (N : Number → Thing → Type 0) where
  all_named : (ns : List Number) (ys : List Thing) → AreAll N ns ys → AllByRecursion (Filed N) ys
  all_named [] [] h = tt
  all_named [] (y ∷ ys) h = absurd h
  all_named (n ∷ ns) [] h = absurd h
  all_named (n ∷ ns) (y ∷ ys) h = ((n, h.0), all_named ns ys h.1)

  sources_filed : (rows : List SourceRow) (plain : List PlainSource) → AreAll (SourceIs N) rows plain → AllByRecursion (Filed N) (flat_map content_named plain)
  sources_filed [] [] h = tt
  sources_filed [] (p ∷ plain) h = absurd h
  sources_filed (r ∷ rows) [] h = absurd h
  sources_filed (r ∷ rows) (p ∷ plain) h = all_append (Filed N) (content_named p) (flat_map content_named plain) (all_named (source_numbers r) (content_named p) (content_alike N r p h.0)) (sources_filed rows plain h.1)

  creates_filed : (rows : List CreateRow) (plain : List PlainCreate) → AreAll (CreateIs N) rows plain → AllByRecursion (Filed N) (map (λ row. row.input) plain)
  creates_filed [] [] h = tt
  creates_filed [] (p ∷ plain) h = absurd h
  creates_filed (r ∷ rows) [] h = absurd h
  creates_filed (r ∷ rows) (p ∷ plain) h = ((r.input, h.0.input), creates_filed rows plain h.1)

  jobs_filed : (rows : List JobRow) (plain : List PlainJob) → AreAll (JobIs N) rows plain → AllByRecursion (Filed N) (flat_map (λ row. result_named row.result) plain)
  jobs_filed [] [] h = tt
  jobs_filed [] (p ∷ plain) h = absurd h
  jobs_filed (r ∷ rows) [] h = absurd h
  jobs_filed (r ∷ rows) (p ∷ plain) h = all_append (Filed N) (result_named p.result) (flat_map (λ row. result_named row.result) plain)
      (all_named (job_numbers r) (result_named p.result) (result_alike N r.result p.result h.0.result)) (jobs_filed rows plain h.1)

  pub rows_filed : (tables : Tables) (plain : PlainTables) → TablesAre N tables plain → AllByRecursion (Filed N) (row_things plain)
  rows_filed tables plain are = all_append (Filed N) (flat_map content_named plain.sources ++ map (λ row. row.input) plain.creates) (flat_map (λ row. result_named row.result) plain.jobs)
      (all_append (Filed N) (flat_map content_named plain.sources) (map (λ row. row.input) plain.creates) (sources_filed tables.sources.items plain.sources are.sources) (creates_filed tables.creates.items plain.creates are.creates))
      (jobs_filed tables.jobs.items plain.jobs are.jobs)

-- a thing that isn't in the file isn't among those that are
pub not_among_filed : (N : Number → Thing → Type 0) (x : Thing) → (Filed N x → ⊥) → (ys : List Thing) → AllByRecursion (Filed N) ys → times_in ys x ≡ 0
not_among_filed N x never [] h = refl
not_among_filed N x never (y ∷ ys) h =
    let differs : same_thing x y ≡ false = not_same x y (λ same. never (subst (Filed N) (sym same) h.0)) in
    let none : cond {A = ℕ} (same_thing x y) 1 0 ≡ 0 = ap (λ (b : Bool). cond b 1 0) differs in
    omega (arith, none, not_among_filed N x never ys h.1)

-- numbers fall, so a number that is found is below the top
pub found_below : (top n : ℕ) (live : List Live) (v : Thing) → Falls top live → option_map (λ live. live.value) (find (λ live. live.number == n) live) ≡ Some v → n < top
found_below top n [] v falls e = absurd (cc e)
found_below top n (l ∷ live) v falls e = step (l.number == n) refl (λ later. found_below l.number n live v falls.1 later) e
  where
    step : (b : Bool) → l.number == n ≡ b → (option_map (λ live. live.value) (find (λ live. live.number == n) live) ≡ Some v → n < l.number)
        → option_map (λ live. live.value) (cond (l.number == n) (Some l) (find (λ live. live.number == n) live)) ≡ Some v → n < top
    step true is rest e = let same : l.number ≡ n = (Decides-eqb l.number n).0 is in omega (arith, falls.0, same)
    step false is rest e =
        let below : n < l.number = rest (sym (ap (λ b. option_map (λ live. live.value) (cond b (Some l) (find (λ live. live.number == n) live))) is) ∙ e) in
        omega (arith, falls.0, below)
