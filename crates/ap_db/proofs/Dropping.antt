-- The state when a thing that nothing names goes from the file.
use Rattle.std.proofs.Common.{◌≡◌, ◌≢◌, ◌<◌, ◌≤◌, ◌+◌, ◌-◌, ◌==◌, ◌||◌, ℕ, suc, Bool, true, false, not, cond, List, [], ◌∷◌, ◌++◌, length, map, Option, Some, None, refl, sym, ◌∙◌, ap, subst, arith}
use Rattle.std.specs.Prelude.{IsSome, option_map, find, filter}
use Rattle.std.specs.List.{AllByRecursion, flat_map}
use Rattle.std.proofs.lemmas.Bool.Decides.{Decides-eqb}
use Rattle.ap_content.specs.Things.{Thing, Kids, thing}
use Rattle.ap_content.specs.Entries.{Entry, Stands, StandEach, node_at}
use Rattle.ap_content.specs.declared.node.Number.{Number}
use Rattle.ap_content.specs.declared.node.Node.{Node}
use Rattle.ap_rows.specs.Forms.{kids_in, has_form}
use Rattle.ap_rows.specs.declared.row.SourceRow.{SourceRow}
use Rattle.ap_rows.specs.declared.row.CreateRow.{CreateRow}
use Rattle.ap_rows.specs.declared.row.JobRow.{JobRow}
use Rattle.ap_rows.specs.declared.row.SeenRow.{SeenRow}
use Rattle.ap_rows.specs.declared.row.SeenRow.TheVariants.{Bytes, TooLarge}
use Rattle.ap_rows.specs.declared.row.OutcomeRow.{OutcomeRow}
use Rattle.ap_rows.specs.declared.row.OutcomeRow.TheVariants.{Done, Failed}
use Rattle.ap_rows.specs.declared.row.JobResult.{JobResult}
use Rattle.ap_rows.specs.declared.row.JobResult.TheVariants.{Processed, Cycle, Missing, DepFailed}
use Rattle.ap_rows.specs.declared.row.Tables.{Tables}
use Rattle.ap_db.specs.declared.things.FileThing.{FileThing}
use Rattle.ap_db.specs.declared.state.State.{State}
use Rattle.ap_db.specs.Same.{same_thing, is_among}
use Rattle.ap_db.specs.Tables.{PlainSource, PlainCreate, PlainOutcome, done, failed, PlainResult, processed, on_cycle, lacks, after_failure, PlainJob, PlainTables}
use Rattle.ap_db.specs.Stored.{Live, Stored, thing_at, values, named_things, kids_of_thing, row_things, content_named, outcome_named, result_named, and_no_thing}
use Rattle.ap_db.specs.Listed.{AreAll, total}
use Rattle.ap_db.specs.States.{SeenIs, SourceIs, CreateIs, OutcomeIs, ResultIs, JobIs, TablesAre, file_thing, file_number, Names, IsFound, IsKnown, StandsFor, IsSound, Falls, times_in}
use Rattle.ap_db.specs.Naming.{lowered, times_of}
use Rattle.ap_db.proofs.SameThings.{itself_same, not_same}
use Rattle.ap_db.proofs.Alike.{alike_length, total_append, total_flat}
use Rattle.ap_db.proofs.Renaming.{times_alike, tables_follow, all_follow}
use Rattle.ap_db.proofs.Filing.{kids_filed, or_parts, or_second}
use Rattle.ap_db.proofs.Defining.{kids_stand, equal_or_not}

-- ---- a list without one of its items

pub all_around : {X : Type 0} (P : X → Type 0) (front : List X) (x : X) (back : List X) → AllByRecursion P (front ++ x ∷ back) → AllByRecursion P front × P x × AllByRecursion P back
all_around P [] x back h = (tt, h.0, h.1)
all_around P (f ∷ front) x back h = let rest = all_around P front x back h.1 in ((h.0, rest.0), rest.1, rest.2)

pub all_without : {X : Type 0} (P : X → Type 0) (front : List X) (x : X) (back : List X) → AllByRecursion P (front ++ x ∷ back) → AllByRecursion P (front ++ back)
all_without P [] x back h = h.1
all_without P (f ∷ front) x back h = (h.0, all_without P front x back h.1)

-- where a number is found among numbers that fall, and the list without it
pub record IsCut (n : ℕ) (live : List Live) (v : Thing) : Type 0 where
  pub front : List Live
  pub here : Live
  pub back : List Live
  pub are : live ≡ front ++ here ∷ back
  pub number : here.number ≡ n
  pub value : here.value ≡ v
  pub left : filter (λ live. not (live.number == n)) live ≡ front ++ back

all_stay : (top n : ℕ) (live : List Live) → Falls top live → top ≤ n → filter (λ live. not (live.number == n)) live ≡ live
all_stay top n [] falls le = refl
all_stay top n (l ∷ live) falls le =
    let no : l.number == n ≡ false = grind (arith, falls.0, le) in
    ap (λ b. cond (not b) (l ∷ filter (λ live. not (live.number == n)) live) (filter (λ live. not (live.number == n)) live)) no
    ∙ ap (λ rest. l ∷ rest) (all_stay l.number n live falls.1 (omega (arith, falls.0, le)))

pub cut_at : (top n : ℕ) (live : List Live) (v : Thing) → Falls top live → option_map (λ live. live.value) (find (λ live. live.number == n) live) ≡ Some v → IsCut n live v
cut_at top n [] v falls e = absurd (cc e)
cut_at top n (l ∷ live) v falls e = step (l.number == n) refl (λ later. cut_at l.number n live v falls.1 later)
  where
    step : (b : Bool) → l.number == n ≡ b → (option_map (λ live. live.value) (find (λ live. live.number == n) live) ≡ Some v → IsCut n live v) → IsCut n (l ∷ live) v
    step true is rest =
        let same : l.number ≡ n = (Decides-eqb l.number n).0 is in
        let one : Some l.value ≡ Some v = sym (ap (λ b. option_map (λ live. live.value) (cond b (Some l) (find (λ live. live.number == n) live))) is) ∙ e in
        record {
          front = [];
          here = l;
          back = live;
          are = refl;
          number = same;
          value = cc one;
          left = ap (λ b. cond (not b) (l ∷ filter (λ live. not (live.number == n)) live) (filter (λ live. not (live.number == n)) live)) is ∙ all_stay l.number n live falls.1 (omega (arith, same));
        }
    step false is rest =
        let cut = rest (sym (ap (λ b. option_map (λ live. live.value) (cond b (Some l) (find (λ live. live.number == n) live))) is) ∙ e) in
        record {
          front = l ∷ cut.front;
          here = cut.here;
          back = cut.back;
          are = ap (λ rest. l ∷ rest) cut.are;
          number = cut.number;
          value = cut.value;
          left = ap (λ b. cond (not b) (l ∷ filter (λ live. not (live.number == n)) live) (filter (λ live. not (live.number == n)) live)) is ∙ ap (λ rest. l ∷ rest) cut.left;
        }

falls_lower : (top more : ℕ) (live : List Live) → top ≤ more → Falls top live → Falls more live
falls_lower top more [] le h = tt
falls_lower top more (l ∷ live) le h = (omega (arith, le, h.0), h.1)

falls_without : (top : ℕ) (front : List Live) (x : Live) (back : List Live) → Falls top (front ++ x ∷ back) → Falls top (front ++ back)
falls_without top [] x back h = falls_lower x.number top back (omega (arith, h.0)) h.1
falls_without top (f ∷ front) x back h = (h.0, falls_without f.number front x back h.1)

pub find_without : (k : ℕ) (front : List Live) (x : Live) (back : List Live) → x.number ≢ k → find (λ live. live.number == k) (front ++ back) ≡ find (λ live. live.number == k) (front ++ x ∷ back)
find_without k [] x back apart =
    let no : x.number == k ≡ false = grind (arith, apart) in
    sym (ap (λ b. cond b (Some x) (find (λ live. live.number == k) back)) no)
find_without k (f ∷ front) x back apart = ap (λ o. cond (f.number == k) (Some f) o) (find_without k front x back apart)

values_append : (front back : List Live) → map (λ live. live.value) (front ++ back) ≡ map (λ live. live.value) front ++ map (λ live. live.value) back
values_append [] back = refl
values_append (f ∷ front) back = ap (λ l. f.value ∷ l) (values_append front back)

-- what isn't the one is still among the others
among_without : (k : Thing) (front : List Thing) (x : Thing) (back : List Thing) → same_thing k x ≡ false → is_among (front ++ x ∷ back) k ≡ true → is_among (front ++ back) k ≡ true
among_without k [] x back differs h = sym (ap (λ b. b || is_among back k) differs) ∙ h
among_without k (f ∷ front) x back differs h = or_parts (same_thing k f) (is_among (front ++ x ∷ back) k) h
    (λ same. ap (λ b. b || is_among (front ++ back) k) same)
    (λ later. or_second (same_thing k f) (is_among (front ++ back) k) (among_without k front x back differs later))

flat_without : (f : Thing → ℕ) (g : Thing → List Thing) (front : List Thing) (x : Thing) (back : List Thing) → total f (flat_map g (front ++ x ∷ back)) ≡ total f (flat_map g (front ++ back)) + total f (g x)
flat_without f g [] x back = let all = total_append f (g x) (flat_map g back) in omega (arith, all)
flat_without f g (y ∷ front) x back =
    let one = total_append f (g y) (flat_map g (front ++ x ∷ back)) in
    let two = total_append f (g y) (flat_map g (front ++ back)) in
    omega (arith, one, two, flat_without f g front x back)

flat_all_without : (P : Thing → Type 0) (g : Thing → List Thing) (front : List Thing) (x : Thing) (back : List Thing) → AllByRecursion P (flat_map g (front ++ x ∷ back)) → AllByRecursion P (flat_map g (front ++ back))
flat_all_without P g [] x back h = behind (g x) (flat_map g back) h
  where
    behind : (xs ys : List Thing) → AllByRecursion P (xs ++ ys) → AllByRecursion P ys
    behind [] ys h = h
    behind (x ∷ xs) ys h = behind xs ys h.1
flat_all_without P g (y ∷ front) x back h = joined (g y) (flat_map g (front ++ x ∷ back)) (flat_map g (front ++ back)) (λ rest. flat_all_without P g front x back rest) h
  where
    joined : (xs ys zs : List Thing) → (AllByRecursion P ys → AllByRecursion P zs) → AllByRecursion P (xs ++ ys) → AllByRecursion P (xs ++ zs)
    joined [] ys zs f h = f h
    joined (x ∷ xs) ys zs f h = (h.0, joined xs ys zs f h.1)

-- ---- what is named of a thing that nothing names

pub not_one_of : (x : Thing) (ys : List Thing) → times_in ys x ≡ 0 → AllByRecursion (λ y. same_thing x y ≡ false) ys
not_one_of x [] h = tt
not_one_of x (y ∷ ys) h = step (same_thing x y) refl (λ rest. not_one_of x ys rest) h
  where
    step : (b : Bool) → same_thing x y ≡ b → (times_in ys x ≡ 0 → AllByRecursion (λ y. same_thing x y ≡ false) ys) → cond (same_thing x y) 1 0 + times_in ys x ≡ 0 → AllByRecursion (λ y. same_thing x y ≡ false) (y ∷ ys)
    step true e rest h =
        let one : cond {A = ℕ} (same_thing x y) 1 0 ≡ 1 = ap (λ (b : Bool). cond b 1 0) e in
        absurd (omega (arith, one, h))
    step false e rest h =
        let none : cond {A = ℕ} (same_thing x y) 1 0 ≡ 0 = ap (λ (b : Bool). cond b 1 0) e in
        (e, rest (omega (arith, none, h)))

-- what rows name has a property beside, where all that they name has it
module _ (N : Number → Thing → Type 0) (Q : Thing → Type 0) where
  abbrev Also : Number → Thing → Type 0
  Also n y = N n y × Q y

  pub split_all : (xs ys : List Thing) → AllByRecursion Q (xs ++ ys) → AllByRecursion Q xs × AllByRecursion Q ys
  split_all [] ys h = (tt, h)
  split_all (x ∷ xs) ys h = let rest = split_all xs ys h.1 in ((h.0, rest.0), rest.1)

  seen_also : (seen : SeenRow) (content : Option Thing) → SeenIs N seen content → AllByRecursion Q (Rattle.std.specs.Option.option_to_list content) → SeenIs Also seen content
  seen_also (Bytes n) None h q = h
  seen_also (Bytes n) (Some x) h q = (h, q.0)
  seen_also TooLarge None h q = h
  seen_also TooLarge (Some x) h q = h

  outcome_also : (outcome : OutcomeRow) (plain : PlainOutcome) → OutcomeIs N outcome plain → AllByRecursion Q (outcome_named plain) → OutcomeIs Also outcome plain
  outcome_also (Done n) (done x) h q = (h, q.0)
  outcome_also (Done n) (failed code) h q = h
  outcome_also (Failed code) (done x) h q = h
  outcome_also (Failed code) (failed plain) h q = h

  result_also : (result : JobResult) (plain : PlainResult) → ResultIs N result plain → AllByRecursion Q (result_named plain) → ResultIs Also result plain
  result_also (Processed n outcome) (processed input plain) h q = ((h.0, q.0), outcome_also outcome plain h.1 q.1)
  result_also (Processed n outcome) on_cycle h q = h
  result_also (Processed n outcome) (lacks d) h q = h
  result_also (Processed n outcome) (after_failure d) h q = h
  result_also Cycle (processed input plain) h q = h
  result_also Cycle on_cycle h q = h
  result_also Cycle (lacks d) h q = h
  result_also Cycle (after_failure d) h q = h
  result_also (Missing d) (processed input plain) h q = h
  result_also (Missing d) on_cycle h q = h
  result_also (Missing d) (lacks plain) h q = h
  result_also (Missing d) (after_failure plain) h q = h
  result_also (DepFailed d) (processed input plain) h q = h
  result_also (DepFailed d) on_cycle h q = h
  result_also (DepFailed d) (lacks plain) h q = h
  result_also (DepFailed d) (after_failure plain) h q = h

  sources_also : (rows : List SourceRow) (plain : List PlainSource) → AreAll (SourceIs N) rows plain → AllByRecursion Q (flat_map content_named plain) → AreAll (SourceIs Also) rows plain
  sources_also [] [] h q = tt
  sources_also [] (p ∷ plain) h q = absurd h
  sources_also (r ∷ rows) [] h q = absurd h
  sources_also (r ∷ rows) (p ∷ plain) h q =
      let parts = split_all (content_named p) (flat_map content_named plain) q in
      (record { path = h.0.path; order = h.0.order; name = h.0.name; seen = seen_also r.seen p.content h.0.seen parts.0 }, sources_also rows plain h.1 parts.1)

  creates_also : (rows : List CreateRow) (plain : List PlainCreate) → AreAll (CreateIs N) rows plain → AllByRecursion Q (map (λ row. row.input) plain) → AreAll (CreateIs Also) rows plain
  creates_also [] [] h q = tt
  creates_also [] (p ∷ plain) h q = absurd h
  creates_also (r ∷ rows) [] h q = absurd h
  creates_also (r ∷ rows) (p ∷ plain) h q = (record { source = h.0.source; input = (h.0.input, q.0); created = h.0.created }, creates_also rows plain h.1 q.1)

  jobs_also : (rows : List JobRow) (plain : List PlainJob) → AreAll (JobIs N) rows plain → AllByRecursion Q (flat_map (λ row. result_named row.result) plain) → AreAll (JobIs Also) rows plain
  jobs_also [] [] h q = tt
  jobs_also [] (p ∷ plain) h q = absurd h
  jobs_also (r ∷ rows) [] h q = absurd h
  jobs_also (r ∷ rows) (p ∷ plain) h q =
      let parts = split_all (result_named p.result) (flat_map (λ row. result_named row.result) plain) q in
      (record { id = h.0.id; result = result_also r.result p.result h.0.result parts.0 }, jobs_also rows plain h.1 parts.1)

  pub tables_also : (tables : Tables) (plain : PlainTables) → TablesAre N tables plain → AllByRecursion Q (row_things plain) → TablesAre Also tables plain
  tables_also tables plain are q =
      let last = split_all (flat_map content_named plain.sources ++ map (λ row. row.input) plain.creates) (flat_map (λ row. result_named row.result) plain.jobs) q in
      let first = split_all (flat_map content_named plain.sources) (map (λ row. row.input) plain.creates) last.0 in
      record {
        folders = are.folders;
        sources = sources_also tables.sources.items plain.sources are.sources first.0;
        creates = creates_also tables.creates.items plain.creates are.creates first.1;
        jobs = jobs_also tables.jobs.items plain.jobs are.jobs last.1;
      }

pub unnamed_number : (state : State) (contents : List (Option Entry)) (stored : Stored) (m : Number) (n : ℕ) (t : FileThing) → file_number state.things.items m ≡ Some n → file_thing state.things.items m ≡ Some t → t.number ≡ n
unnamed_number state contents stored m n t e is = let same : Some t.number ≡ Some n = sym (ap (λ o. option_map (λ t. t.number) o) is) ∙ e in cc same

-- ---- what is stored without one of its things

not_other : (x k : Thing) → same_thing x k ≡ false → same_thing k x ≡ false
not_other x k differs = not_same k x (λ same. absurd (cc (subst (λ (z : Thing). same_thing x z ≡ true) (sym same) (itself_same x), differs)))

module _ (stored : Stored) (n : ℕ) (x : Thing) (sound : IsSound stored) (live : thing_at stored (record { 0 = n }) ≡ Some x) where
  pub cut_of : IsCut n stored.live x
  cut_of = cut_at (suc stored.defined) n stored.live x sound.falls live

  abbrev before : List Thing
  before = map (λ live. live.value) cut_of.front

  abbrev behind_it : List Thing
  behind_it = map (λ live. live.value) cut_of.back

  abbrev all_kids : List Thing
  all_kids = flat_map kids_of_thing (values stored)

  abbrev kids_left : List Thing
  kids_left = flat_map kids_of_thing (values (and_no_thing stored n))

  pub values_are : values stored ≡ before ++ x ∷ behind_it
  values_are = ap (λ l. map (λ (live : Live). live.value) l) cut_of.are ∙ values_append cut_of.front (cut_of.here ∷ cut_of.back) ∙ ap (λ v. before ++ v ∷ behind_it) cut_of.value

  pub values_left : values (and_no_thing stored n) ≡ before ++ behind_it
  values_left = ap (λ l. map (λ (live : Live). live.value) l) cut_of.left ∙ values_append cut_of.front cut_of.back

  -- the kids are those of the others and the thing's own
  kids_total : (f : Thing → ℕ) → total f all_kids ≡ total f kids_left + total f (kids_of_thing x)
  kids_total f = ap (λ l. total f (flat_map kids_of_thing l)) values_are ∙ flat_without f kids_of_thing before x behind_it ∙ ap (λ l. total f (flat_map kids_of_thing l) + total f (kids_of_thing x)) (sym values_left)

  pub own_kids : AllByRecursion (λ k. is_among (values stored) k ≡ true) (kids_of_thing x)
  own_kids = in_flat before (subst (λ l. AllByRecursion (λ k. is_among (values stored) k ≡ true) (flat_map kids_of_thing l)) values_are sound.closed)
    where
      after_front : (xs ys : List Thing) → AllByRecursion (λ k. is_among (values stored) k ≡ true) (xs ++ ys) → AllByRecursion (λ k. is_among (values stored) k ≡ true) ys
      after_front [] ys h = h
      after_front (z ∷ xs) ys h = after_front xs ys h.1

      first_of : (xs ys : List Thing) → AllByRecursion (λ k. is_among (values stored) k ≡ true) (xs ++ ys) → AllByRecursion (λ k. is_among (values stored) k ≡ true) xs
      first_of [] ys h = tt
      first_of (z ∷ xs) ys h = (h.0, first_of xs ys h.1)

      in_flat : (front : List Thing) → AllByRecursion (λ k. is_among (values stored) k ≡ true) (flat_map kids_of_thing (front ++ x ∷ behind_it)) → AllByRecursion (λ k. is_among (values stored) k ≡ true) (kids_of_thing x)
      in_flat [] h = first_of (kids_of_thing x) (flat_map kids_of_thing behind_it) h
      in_flat (f ∷ front) h = in_flat front (after_front (kids_of_thing f) (flat_map kids_of_thing (front ++ x ∷ behind_it)) h)

  -- numbers of the others
  numbers_apart : (top : ℕ) (front : List Live) → Falls top (front ++ cut_of.here ∷ cut_of.back) → AllByRecursion (λ live. live.number ≢ n) (front ++ cut_of.back)
  numbers_apart top [] falls = below cut_of.here.number cut_of.back falls.1 (omega (arith, cut_of.number))
    where
      below : (top : ℕ) (live : List Live) → Falls top live → top ≤ n → AllByRecursion (λ live. live.number ≢ n) live
      below top [] falls le = tt
      below top (l ∷ live) falls le = (λ same. omega (arith, same, falls.0, le), below l.number live falls.1 (omega (arith, falls.0, le)))
  numbers_apart top (f ∷ front) falls = (λ same. omega (arith, same, cut_of.number, above f.number front falls.1), numbers_apart f.number front falls.1)
    where
      above : (top : ℕ) (front : List Live) → Falls top (front ++ cut_of.here ∷ cut_of.back) → cut_of.here.number < top
      above top [] falls = falls.0
      above top (f ∷ front) falls = omega (arith, falls.0, above f.number front falls.1)

  pub other_numbers : AllByRecursion (λ live. live.number ≢ n) (cut_of.front ++ cut_of.back)
  other_numbers = numbers_apart (suc stored.defined) cut_of.front (subst (Falls (suc stored.defined)) cut_of.are sound.falls)

  -- what is named is named still, or by the thing that goes
  pub left_names : (f : Thing → ℕ) → total f (named_things stored) ≡ total f (named_things (and_no_thing stored n)) + total f (kids_of_thing x)
  left_names f =
      let all : total f (named_things stored) ≡ total f (row_things stored.tables) + total f all_kids = total_append f (row_things stored.tables) all_kids in
      let left : total f (named_things (and_no_thing stored n)) ≡ total f (row_things stored.tables) + total f kids_left = total_append f (row_things stored.tables) kids_left in
      omega (arith, all, left, kids_total f)

  -- the kids of what nothing names are left
  pub own_kids_left : AllByRecursion (λ k. same_thing x k ≡ false) (kids_of_thing x) → AllByRecursion (λ k. is_among (values (and_no_thing stored n)) k ≡ true) (kids_of_thing x)
  own_kids_left others = stay (kids_of_thing x) own_kids others
    where
      stay : (ys : List Thing) → AllByRecursion (λ k. is_among (values stored) k ≡ true) ys → AllByRecursion (λ k. same_thing x k ≡ false) ys → AllByRecursion (λ k. is_among (values (and_no_thing stored n)) k ≡ true) ys
      stay [] p q = tt
      stay (y ∷ ys) p q = (
        subst (λ l. is_among l y ≡ true) (sym values_left) (among_without y before x behind_it (not_other x y q.0) (subst (λ l. is_among l y ≡ true) values_are p.0)),
        stay ys p.1 q.1,
      )

module _ (state new : State) (contents : List (Option Entry)) (stored : Stored) (m : Number) (t : FileThing) (node : Node) (stands : StandsFor state contents stored)
    (is : file_thing state.things.items m ≡ Some t) (none : t.named ≡ 0) (at : node_at contents m ≡ Some node)
    (tables : new.tables ≡ state.tables) (defined : new.defined ≡ state.defined) (names : new.names ≡ state.names - length node.kids)
    (here : file_thing new.things.items m ≡ None) (there : (k : Number) → k ≢ m → file_thing new.things.items k ≡ lowered (times_of node.kids k) (file_thing state.things.items k)) where
  abbrev things : List (Option FileThing)
  things = state.things.items

  abbrev known : IsKnown stored contents m t
  known = stands.known m t is

  abbrev x : Thing
  x = known.value

  abbrev cut : IsCut t.number stored.live x
  cut = cut_of stored t.number x stands.sound known.live

  abbrev vf : List Thing
  vf = map (λ live. live.value) cut.front

  abbrev vb : List Thing
  vb = map (λ live. live.value) cut.back

  kids : (ks : Kids) × (kids_of_thing x ≡ kids_in ks) × StandEach contents node.kids ks
  kids = kids_stand contents m x node at known.stands

  abbrev old_kids : List Thing
  old_kids = flat_map kids_of_thing (values stored)

  abbrev left_kids : List Thing
  left_kids = flat_map kids_of_thing (values (and_no_thing stored t.number))

  kids_are : AreAll (Names things contents) node.kids (kids_of_thing x)
  kids_are = subst (λ l. AreAll (Names things contents) node.kids l) (sym kids.1)
      (kids_filed things contents stands.tidy stored.live stands.found node.kids kids.0 kids.2 (subst (AllByRecursion (λ k. is_among (values stored) k ≡ true)) kids.1 (own_kids stored t.number x stands.sound known.live)))

  unnamed : AllByRecursion (λ y. same_thing x y ≡ false) (named_things stored)
  unnamed = not_one_of known.value (named_things stored) (sym known.named ∙ none)

  unnamed_rows : AllByRecursion (λ y. same_thing x y ≡ false) (row_things stored.tables)
  unnamed_rows = (split_all (λ n y. Unit {0}) (λ y. same_thing x y ≡ false) (row_things stored.tables) old_kids unnamed).0

  unnamed_kids : AllByRecursion (λ y. same_thing x y ≡ false) old_kids
  unnamed_kids = (split_all (λ n y. Unit {0}) (λ y. same_thing x y ≡ false) (row_things stored.tables) old_kids unnamed).1

  -- a number that names another thing is another number
  another : (k : Number) (y : Thing) → Stands contents k y → same_thing x y ≡ false → k ≢ m
  another k y sk differs same =
      let one : x ≡ y = stands.tidy.one_thing k x y (subst (λ (j : Number). Stands contents j x) (sym same) known.stands) sk in
      let is_same : same_thing x y ≡ true = subst (λ (z : Thing). same_thing x z ≡ true) one (itself_same x) in
      absurd (cc (is_same, differs))

  some_lowered : (n : ℕ) (o p : Option FileThing) → p ≡ lowered n o → IsSome o → IsSome p
  some_lowered n None p e h = absurd (cc h)
  some_lowered n (Some f) p e h = subst IsSome (sym e) refl

  still_named : (k : Number) (y : Thing) → Names things contents k y × (same_thing x y ≡ false) → Names new.things.items contents k y
  still_named k y h =
      let apart = another k y h.0.stands h.1 in
      record {
        file = some_lowered (times_of node.kids k) (file_thing things k) (file_thing new.things.items k) (there k apart) h.0.file;
        stands = h.0.stands;
      }

  apart_number : (k : Number) (f : FileThing) → file_thing things k ≡ Some f → f.number ≢ t.number → k ≢ m
  apart_number k f e differs same =
      let one : Some f ≡ Some t = sym e ∙ ap (λ (j : Number). file_thing things j) same ∙ is in
      let inside : f ≡ t = cc one in
      differs (ap (λ (g : FileThing). g.number) inside)

  still_found : (live : Live) → IsFound things contents live × (live.number ≢ t.number) → IsFound new.things.items contents live
  still_found live h =
      let f = h.0 in
      let apart = apart_number f.number f.thing f.file (λ same. h.1 (sym f.same ∙ same)) in
      record {
        number = f.number;
        thing = record f.thing { named = f.thing.named - times_of node.kids f.number };
        file = there f.number apart ∙ ap (λ o. lowered (times_of node.kids f.number) o) f.file;
        same = f.same;
        stands = f.stands;
      }

  with_both : (P Q : Live → Type 0) (xs : List Live) → AllByRecursion P xs → AllByRecursion Q xs → AllByRecursion (λ l. P l × Q l) xs
  with_both P Q [] p q = tt
  with_both P Q (l ∷ xs) p q = ((p.0, q.0), with_both P Q xs p.1 q.1)

  still_known : (k : Number) (f : FileThing) → k ≢ m → file_thing new.things.items k ≡ Some f → IsKnown (and_no_thing stored t.number) contents k f
  still_known k f apart e = step (file_thing things k) refl
    where
      step : (o : Option FileThing) → file_thing things k ≡ o → IsKnown (and_no_thing stored t.number) contents k f
      step None was =
          let gone : Some f ≡ None = sym e ∙ there k apart ∙ ap (λ o. lowered (times_of node.kids k) o) was in
          absurd (cc gone)
      step (Some old) was =
          let k_known = stands.known k old was in
          let now : Some (record old { named = old.named - times_of node.kids k }) ≡ Some f = sym (there k apart ∙ ap (λ o. lowered (times_of node.kids k) o) was) ∙ e in
          let inside : record old { named = old.named - times_of node.kids k } ≡ f = cc now in
          let number : old.number ≡ f.number = ap (λ (g : FileThing). g.number) inside in
          let named : old.named - times_of node.kids k ≡ f.named = ap (λ (g : FileThing). g.named) inside in
          let differs : t.number ≢ old.number = λ same.
          let one : Some x ≡ Some k_known.value = sym known.live ∙ ap (λ (n : ℕ). thing_at stored (record { 0 = n })) same ∙ k_known.live in
          let same_value : x ≡ k_known.value = cc one in
          apart (stands.tidy.one_number k m x (subst (λ (z : Thing). Stands contents k z) (sym same_value) k_known.stands) known.stands) in
          let kid_times : times_of node.kids k ≡ times_in (kids_of_thing x) k_known.value = times_alike contents stands.tidy things node.kids (kids_of_thing x) kids_are k k_known.value k_known.stands in
          let counts : times_in (named_things stored) k_known.value ≡ times_in (named_things (and_no_thing stored t.number)) k_known.value + times_in (kids_of_thing x) k_known.value = left_names stored t.number x stands.sound known.live (λ y. cond (same_thing k_known.value y) 1 0) in
          let was_named : old.named ≡ times_in (named_things stored) k_known.value = k_known.named in
          let is_named : f.named ≡ times_in (named_things (and_no_thing stored t.number)) k_known.value = omega (arith, named, kid_times, counts, was_named) in
          record {
            value = k_known.value;
            live = ap (λ l. option_map (λ (live : Live). live.value) (find (λ live. live.number == f.number) l)) cut.left
                ∙ ap (λ o. option_map (λ (live : Live). live.value) o) (find_without f.number cut.front cut.here cut.back (λ same. differs (sym cut.number ∙ same ∙ sym number)))
                ∙ ap (λ l. option_map (λ (live : Live). live.value) (find (λ live. live.number == f.number) l)) (sym cut.are)
                ∙ ap (λ (n : ℕ). thing_at stored (record { 0 = n })) (sym number) ∙ k_known.live;
            stands = k_known.stands;
            named = is_named;
          }

  closed_left : AllByRecursion (λ k. is_among (values (and_no_thing stored t.number)) k ≡ true) left_kids
  closed_left =
      let both = pair_up old_kids stands.sound.closed unnamed_kids in
      let without = flat_all_without (λ k. (is_among (values stored) k ≡ true) × (same_thing x k ≡ false)) kids_of_thing vf x vb (subst (λ l. AllByRecursion (λ k. (is_among (values stored) k ≡ true) × (same_thing x k ≡ false)) (flat_map kids_of_thing l)) (values_are stored t.number x stands.sound known.live) both) in
      subst (λ l. AllByRecursion (λ k. is_among l k ≡ true) (flat_map kids_of_thing l)) (sym (values_left stored t.number x stands.sound known.live))
      (all_follow (λ k. (is_among (values stored) k ≡ true) × (same_thing x k ≡ false)) (λ k. is_among (vf ++ vb) k ≡ true) (flat_map kids_of_thing (vf ++ vb))
      (λ k h. among_without k vf x vb (not_other x k h.1) (subst (λ l. is_among l k ≡ true) (values_are stored t.number x stands.sound known.live) h.0)) without)
    where
      pair_up : (ys : List Thing) → AllByRecursion (λ k. is_among (values stored) k ≡ true) ys → AllByRecursion (λ k. same_thing x k ≡ false) ys → AllByRecursion (λ k. (is_among (values stored) k ≡ true) × (same_thing x k ≡ false)) ys
      pair_up [] p q = tt
      pair_up (y ∷ ys) p q = ((p.0, q.0), pair_up ys p.1 q.1)

  pub is_dropped : StandsFor new contents (and_no_thing stored t.number)
  is_dropped = record {
    sound = record {
      falls = subst (Falls (suc stored.defined)) (sym cut.left) (falls_without (suc stored.defined) cut.front cut.here cut.back (subst (Falls (suc stored.defined)) cut.are stands.sound.falls));
      rise = stands.sound.rise;
      formed = subst (AllByRecursion (λ y. has_form y ≡ true)) (sym (values_left stored t.number x stands.sound known.live)) (all_without (λ y. has_form y ≡ true) vf x vb (subst (AllByRecursion (λ y. has_form y ≡ true)) (values_are stored t.number x stands.sound known.live) stands.sound.formed));
      closed = closed_left;
    };
    tidy = stands.tidy;
    defined = defined ∙ stands.defined;
    names =
        let kid_count : length node.kids ≡ length (kids_of_thing x) = alike_length (Names things contents) node.kids (kids_of_thing x) kids_are in
        let all : total (λ (y : Thing). 1) (named_things stored) ≡ total (λ (y : Thing). 1) (named_things (and_no_thing stored t.number)) + total (λ (y : Thing). 1) (kids_of_thing x) = left_names stored t.number x stands.sound known.live (λ y. 1) in
        let a : total (λ (y : Thing). 1) (named_things stored) ≡ length (named_things stored) = Rattle.ap_db.proofs.Alike.total_one (named_things stored) in
        let b : total (λ (y : Thing). 1) (named_things (and_no_thing stored t.number)) ≡ length (named_things (and_no_thing stored t.number)) = Rattle.ap_db.proofs.Alike.total_one (named_things (and_no_thing stored t.number)) in
        let c : total (λ (y : Thing). 1) (kids_of_thing x) ≡ length (kids_of_thing x) = Rattle.ap_db.proofs.Alike.total_one (kids_of_thing x) in
        omega (arith, names, stands.names, kid_count, all, a, b, c);
    tables = tables_follow (λ n y. Names things contents n y × (same_thing x y ≡ false)) (Names new.things.items contents) still_named new.tables stored.tables
        (subst (λ s. TablesAre (λ n y. Names things contents n y × (same_thing x y ≡ false)) s stored.tables) (sym tables)
        (tables_also (Names things contents) (λ y. same_thing x y ≡ false) state.tables stored.tables stands.tables unnamed_rows));
    found = subst (AllByRecursion (IsFound new.things.items contents)) (sym cut.left)
        (all_follow (λ live. IsFound things contents live × (live.number ≢ t.number)) (IsFound new.things.items contents) (cut.front ++ cut.back) still_found
        (with_both (IsFound things contents) (λ live. live.number ≢ t.number) (cut.front ++ cut.back)
        (all_without (IsFound things contents) cut.front cut.here cut.back (subst (AllByRecursion (IsFound things contents)) cut.are stands.found))
        (other_numbers stored t.number x stands.sound known.live)));
    known = λ k f e. equal_or_not k m
        (λ same. let gone : Some f ≡ None = sym e ∙ ap (λ (j : Number). file_thing new.things.items j) same ∙ here in absurd (cc gone))
        (λ apart. still_known k f apart e);
  }

-- what stands for a thing has a node
pub has_node : (contents : List (Option Entry)) (m : Number) (x : Thing) → Stands contents m x → (node : Node) × (node_at contents m ≡ Some node)
has_node contents m (thing tag text _) h = (h.0, h.1)
