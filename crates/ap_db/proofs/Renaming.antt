-- What a state stands for when rows change: its counts follow the names that come and go.
use Rattle.std.proofs.Common.{◌≡◌, ◌≢◌, ◌<◌, ◌≤◌, ◌+◌, ◌-◌, ◌==◌, ℕ, suc, Bool, true, false, cond, List, [], ◌∷◌, length, Option, Some, None, refl, sym, ◌∙◌, ap, subst, arith, length-append}
use Rattle.std.specs.Prelude.{IsSome, option_map}
use Rattle.std.specs.List.{AllByRecursion, flat_map}
use Rattle.std.proofs.lemmas.Bool.Decides.{Decides-eqb, not_from_Decides}
use Rattle.ap_content.specs.Things.{Thing}
use Rattle.ap_content.specs.Entries.{Entry, IsTidy, Stands}
use Rattle.ap_content.specs.declared.node.Number.{Number}
use Rattle.ap_rows.specs.declared.row.SourceRow.{SourceRow}
use Rattle.ap_rows.specs.declared.row.CreateRow.{CreateRow}
use Rattle.ap_rows.specs.declared.row.JobRow.{JobRow}
use Rattle.ap_rows.specs.declared.row.SeenRow.{SeenRow}
use Rattle.ap_rows.specs.declared.row.SeenRow.TheVariants.{Bytes, TooLarge}
use Rattle.ap_rows.specs.declared.row.OutcomeRow.{OutcomeRow}
use Rattle.ap_rows.specs.declared.row.OutcomeRow.TheVariants.{Done, Failed}
use Rattle.ap_rows.specs.declared.row.JobResult.{JobResult}
use Rattle.ap_rows.specs.declared.row.JobResult.TheVariants.{Processed, Cycle, Missing, DepFailed}
use Rattle.ap_rows.specs.declared.row.Tables.{Tables}
use Rattle.ap_db.specs.declared.things.FileThing.{FileThing}
use Rattle.ap_db.specs.declared.state.State.{State}
use Rattle.ap_db.specs.Same.{same_thing}
use Rattle.ap_db.specs.Tables.{PlainSource, PlainCreate, PlainOutcome, done, failed, PlainResult, processed, on_cycle, lacks, after_failure, PlainJob, PlainTables}
use Rattle.ap_db.specs.Stored.{Live, Stored, thing_at, values, named_things, kids_of_thing, row_things, with_tables, content_named, outcome_named, result_named}
use Rattle.ap_db.specs.Listed.{AreAll, total}
use Rattle.ap_db.specs.States.{SeenIs, SourceIs, CreateIs, OutcomeIs, ResultIs, JobIs, TablesAre, TablesRise, file_thing, file_number, Names, IsFound, IsKnown, StandsFor, times_in}
use Rattle.ap_db.specs.Naming.{HaveRoom, raised, lowered, one_if, times_of, both_of, seen_number, content_number, products_number, result_numbers}
use Rattle.ap_db.proofs.SameThings.{itself_same, not_same}
use Rattle.ap_db.proofs.Alike.{alike_follows, alike_length, total_append, total_one}

-- ---- names by number, and by thing

module _ (contents : List (Option Entry)) (tidy : IsTidy contents) where
  pub one_alike : (n k : Number) (y x : Thing) → Stands contents n y → Stands contents k x → one_if n k ≡ cond (same_thing x y) 1 0
  one_alike n k y x sn sk = step (n.0 == k.0) refl
    where
      step : (b : Bool) → n.0 == k.0 ≡ b → one_if n k ≡ cond (same_thing x y) 1 0
      step true e =
          let one : n ≡ k = ap (λ (m : ℕ). record { 0 = m }) ((Decides-eqb n.0 k.0).0 e) in
          let same : x ≡ y = tidy.one_thing k x y sk (subst (λ (m : Number). Stands contents m y) one sn) in
          ap (λ b. cond b 1 0) (e ∙ sym (subst (λ (z : Thing). same_thing x z ≡ true) same (itself_same x)))
      step false e =
          let apart : x ≢ y = λ same. not_from_Decides (n.0 == k.0) (Decides-eqb n.0 k.0) e (ap (λ (m : Number). m.0) (tidy.one_number n k x (subst (λ (z : Thing). Stands contents n z) (sym same) sn) sk)) in
          ap (λ b. cond b 1 0) (e ∙ sym (not_same x y apart))

  pub times_alike : (things : List (Option FileThing)) (ns : List Number) (ys : List Thing) → AreAll (Names things contents) ns ys → (k : Number) (x : Thing) → Stands contents k x → times_of ns k ≡ times_in ys x
  times_alike things [] [] are k x sk = refl
  times_alike things [] (y ∷ ys) are k x sk = absurd are
  times_alike things (n ∷ ns) [] are k x sk = absurd are
  times_alike things (n ∷ ns) (y ∷ ys) are k x sk = omega (arith, one_alike n k y x are.0.stands sk, times_alike things ns ys are.1 k x sk)

-- ---- rows stand for what they stood for

module _ (N M : Number → Thing → Type 0) (follows : (n : Number) (x : Thing) → N n x → M n x) where
  seen_follows : (seen : SeenRow) (content : Option Thing) → SeenIs N seen content → SeenIs M seen content
  seen_follows (Bytes n) None h = h
  seen_follows (Bytes n) (Some x) h = follows n x h
  seen_follows TooLarge None h = h
  seen_follows TooLarge (Some x) h = h

  outcome_follows : (outcome : OutcomeRow) (plain : PlainOutcome) → OutcomeIs N outcome plain → OutcomeIs M outcome plain
  outcome_follows (Done n) (done x) h = follows n x h
  outcome_follows (Done n) (failed code) h = h
  outcome_follows (Failed code) (done x) h = h
  outcome_follows (Failed code) (failed plain) h = h

  result_follows : (result : JobResult) (plain : PlainResult) → ResultIs N result plain → ResultIs M result plain
  result_follows (Processed n outcome) (processed input plain) h = (follows n input h.0, outcome_follows outcome plain h.1)
  result_follows (Processed n outcome) on_cycle h = h
  result_follows (Processed n outcome) (lacks d) h = h
  result_follows (Processed n outcome) (after_failure d) h = h
  result_follows Cycle (processed input plain) h = h
  result_follows Cycle on_cycle h = h
  result_follows Cycle (lacks d) h = h
  result_follows Cycle (after_failure d) h = h
  result_follows (Missing d) (processed input plain) h = h
  result_follows (Missing d) on_cycle h = h
  result_follows (Missing d) (lacks plain) h = h
  result_follows (Missing d) (after_failure plain) h = h
  result_follows (DepFailed d) (processed input plain) h = h
  result_follows (DepFailed d) on_cycle h = h
  result_follows (DepFailed d) (lacks plain) h = h
  result_follows (DepFailed d) (after_failure plain) h = h

  pub source_follows : (row : SourceRow) (plain : PlainSource) → SourceIs N row plain → SourceIs M row plain
  source_follows row plain h = record { path = h.path; order = h.order; name = h.name; seen = seen_follows row.seen plain.content h.seen }

  pub create_follows : (row : CreateRow) (plain : PlainCreate) → CreateIs N row plain → CreateIs M row plain
  create_follows row plain h = record { source = h.source; input = follows row.input plain.input h.input; created = h.created }

  pub job_follows : (row : JobRow) (plain : PlainJob) → JobIs N row plain → JobIs M row plain
  job_follows row plain h = record { id = h.id; result = result_follows row.result plain.result h.result }

  pub tables_follow : (tables : Tables) (plain : PlainTables) → TablesAre N tables plain → TablesAre M tables plain
  tables_follow tables plain h = record {
    folders = h.folders;
    sources = alike_follows (SourceIs N) (SourceIs M) source_follows tables.sources.items plain.sources h.sources;
    creates = alike_follows (CreateIs N) (CreateIs M) create_follows tables.creates.items plain.creates h.creates;
    jobs = alike_follows (JobIs N) (JobIs M) job_follows tables.jobs.items plain.jobs h.jobs;
  }

-- what a row names by number it names as a thing
module _ (N : Number → Thing → Type 0) where
  pub content_alike : (row : SourceRow) (plain : PlainSource) → SourceIs N row plain → AreAll N (both_of (content_number row) None) (content_named plain)
  content_alike row plain h = step row.seen plain.content h.seen
    where
      step : (seen : SeenRow) (content : Option Thing) → SeenIs N seen content → AreAll N (both_of (seen_number seen) None) (Rattle.std.specs.Option.option_to_list content)
      step (Bytes n) None h = absurd h
      step (Bytes n) (Some x) h = (h, tt)
      step TooLarge None h = tt
      step TooLarge (Some x) h = absurd h

  outcome_alike : (outcome : OutcomeRow) (plain : PlainOutcome) → OutcomeIs N outcome plain → AreAll N (Rattle.std.specs.Option.option_to_list (products_number outcome)) (outcome_named plain)
  outcome_alike (Done n) (done x) h = (h, tt)
  outcome_alike (Done n) (failed code) h = absurd h
  outcome_alike (Failed code) (done x) h = absurd h
  outcome_alike (Failed code) (failed plain) h = tt

  pub result_alike : (result : JobResult) (plain : PlainResult) → ResultIs N result plain → AreAll N (both_of (result_numbers result).0 (result_numbers result).1) (result_named plain)
  result_alike (Processed n outcome) (processed input plain) h = (h.0, outcome_alike outcome plain h.1)
  result_alike (Processed n outcome) on_cycle h = absurd h
  result_alike (Processed n outcome) (lacks d) h = absurd h
  result_alike (Processed n outcome) (after_failure d) h = absurd h
  result_alike Cycle (processed input plain) h = absurd h
  result_alike Cycle on_cycle h = tt
  result_alike Cycle (lacks d) h = absurd h
  result_alike Cycle (after_failure d) h = absurd h
  result_alike (Missing d) (processed input plain) h = absurd h
  result_alike (Missing d) on_cycle h = absurd h
  result_alike (Missing d) (lacks plain) h = tt
  result_alike (Missing d) (after_failure plain) h = absurd h
  result_alike (DepFailed d) (processed input plain) h = absurd h
  result_alike (DepFailed d) on_cycle h = absurd h
  result_alike (DepFailed d) (lacks plain) h = absurd h
  result_alike (DepFailed d) (after_failure plain) h = tt

-- ---- the change of a state

pub all_follow : {X : Type 0} (P Q : X → Type 0) (xs : List X) → ((x : X) → P x → Q x) → AllByRecursion P xs → AllByRecursion Q xs
all_follow P Q [] f h = tt
all_follow P Q (x ∷ xs) f h = (f x h.0, all_follow P Q xs f h.1)

-- counts of names change so
abbrev pub Recounts : State → State → List Number → List Number → Type 0
Recounts state new come gone = (k : Number) → file_thing new.things.items k ≡ lowered (times_of gone k) (raised (times_of come k) (file_thing state.things.items k))

some_stays : (a b : ℕ) (o p : Option FileThing) → p ≡ lowered b (raised a o) → IsSome o → IsSome p
some_stays a b None p e h = absurd (cc h)
some_stays a b (Some t) p e h = subst IsSome (sym e) refl

number_stays : (a b : ℕ) (o : Option FileThing) → option_map (λ t. t.number) (lowered b (raised a o)) ≡ option_map (λ t. t.number) o
number_stays a b None = refl
number_stays a b (Some t) = refl

pub numbers_stay : (state new : State) (come gone : List Number) → Recounts state new come gone → (m : Number) → file_number new.things.items m ≡ file_number state.things.items m
numbers_stay state new come gone counts m = ap (λ o. option_map (λ t. t.number) o) (counts m) ∙ number_stays (times_of come m) (times_of gone m) (file_thing state.things.items m)

module _ (state new : State) (contents : List (Option Entry)) (stored : Stored) (plain : PlainTables) (come gone : List Number) (came went : List Thing) (stands : StandsFor state contents stored)
    (rise : TablesRise plain) (tables : TablesAre (Names state.things.items contents) new.tables plain) (defined : new.defined ≡ state.defined)
    (names : new.names ≡ state.names + length come - length gone) (counts : Recounts state new come gone)
    (are_come : AreAll (Names state.things.items contents) come came) (are_gone : AreAll (Names state.things.items contents) gone went)
    (totals : (f : Thing → ℕ) → total f (row_things plain) + total f went ≡ total f (row_things stored.tables) + total f came) where
  still_named : (m : Number) (x : Thing) → Names state.things.items contents m x → Names new.things.items contents m x
  still_named m x h = record { file = some_stays (times_of come m) (times_of gone m) (file_thing state.things.items m) (file_thing new.things.items m) (counts m) h.file; stands = h.stands }

  still_found : (live : Live) → IsFound state.things.items contents live → IsFound new.things.items contents live
  still_found live h = record {
    number = h.number;
    thing = record h.thing { named = h.thing.named + times_of come h.number - times_of gone h.number };
    file = counts h.number ∙ ap (λ o. lowered (times_of gone h.number) (raised (times_of come h.number) o)) h.file;
    same = h.same;
    stands = h.stands;
  }

  abbrev kids : List Thing
  kids = flat_map kids_of_thing (values stored)

  still_known : (m : Number) (t : FileThing) → file_thing new.things.items m ≡ Some t → IsKnown (with_tables stored plain) contents m t
  still_known m t e = step (file_thing state.things.items m) refl
    where
      step : (o : Option FileThing) → file_thing state.things.items m ≡ o → IsKnown (with_tables stored plain) contents m t
      step None is =
          let gone_too : Some t ≡ None = sym e ∙ counts m ∙ ap (λ o. lowered (times_of gone m) (raised (times_of come m) o)) is in
          absurd (cc gone_too)
      step (Some was) is =
          let known = stands.known m was is in
          let now : Some (record was { named = was.named + times_of come m - times_of gone m }) ≡ Some t = sym (counts m ∙ ap (λ o. lowered (times_of gone m) (raised (times_of come m) o)) is) ∙ e in
          let inside : record was { named = was.named + times_of come m - times_of gone m } ≡ t = cc now in
          let number : was.number ≡ t.number = ap (λ (x : FileThing). x.number) inside in
          let named : was.named + times_of come m - times_of gone m ≡ t.named = ap (λ (x : FileThing). x.named) inside in
          let add : times_of come m ≡ times_in came known.value = times_alike contents stands.tidy state.things.items come came are_come m known.value known.stands in
          let take : times_of gone m ≡ times_in went known.value = times_alike contents stands.tidy state.things.items gone went are_gone m known.value known.stands in
          let rows : times_in (row_things plain) known.value + times_in went known.value ≡ times_in (row_things stored.tables) known.value + times_in came known.value = totals (λ y. cond (same_thing known.value y) 1 0) in
          let before : times_in (named_things stored) known.value ≡ times_in (row_things stored.tables) known.value + times_in kids known.value = total_append (λ y. cond (same_thing known.value y) 1 0) (row_things stored.tables) kids in
          let after : times_in (named_things (with_tables stored plain)) known.value ≡ times_in (row_things plain) known.value + times_in kids known.value = total_append (λ y. cond (same_thing known.value y) 1 0) (row_things plain) kids in
          let was_named : was.named ≡ times_in (named_things stored) known.value = known.named in
          let is_named : t.named ≡ times_in (named_things (with_tables stored plain)) known.value = omega (arith, named, was_named, add, take, rows, before, after) in
          record {
            value = known.value;
            live = ap (λ (n : ℕ). thing_at stored (record { 0 = n })) (sym number) ∙ known.live;
            stands = known.stands;
            named = is_named;
          }

  pub renamed : StandsFor new contents (with_tables stored plain)
  renamed = record {
    sound = record { falls = stands.sound.falls; rise = rise; formed = stands.sound.formed; closed = stands.sound.closed };
    tidy = stands.tidy;
    defined = defined ∙ stands.defined;
    names =
        let more : length come ≡ length came = alike_length (Names state.things.items contents) come came are_come in
        let fewer : length gone ≡ length went = alike_length (Names state.things.items contents) gone went are_gone in
        let rows : total (λ (y : Thing). 1) (row_things plain) + total (λ (y : Thing). 1) went ≡ total (λ (y : Thing). 1) (row_things stored.tables) + total (λ (y : Thing). 1) came = totals (λ y. 1) in
        let before : length (named_things stored) ≡ length (row_things stored.tables) + length kids = length-append (row_things stored.tables) kids in
        let after : length (named_things (with_tables stored plain)) ≡ length (row_things plain) + length kids = length-append (row_things plain) kids in
        omega (arith, names, stands.names, more, fewer, rows, total_one (row_things plain), total_one went, total_one (row_things stored.tables), total_one came, before, after);
    tables = tables_follow (Names state.things.items contents) (Names new.things.items contents) still_named new.tables plain tables;
    found = all_follow (IsFound state.things.items contents) (IsFound new.things.items contents) stored.live still_found stands.found;
    known = still_known;
  }

-- ---- room for names

times_few : (xs : List Thing) (x : Thing) → times_in xs x ≤ length xs
times_few [] x = omega arith
times_few (y ∷ ys) x = step (same_thing x y) (times_few ys x)
  where
    step : (b : Bool) → times_in ys x ≤ length ys → cond b 1 0 + times_in ys x ≤ suc (length ys)
    step true rest = omega (arith, rest)
    step false rest = omega (arith, rest)

pub have_room : (state : State) (contents : List (Option Entry)) (stored : Stored) (count : ℕ) → StandsFor state contents stored → state.names + count < 18446744073709551616 → HaveRoom state.things.items count
have_room state contents stored count stands fits m t is =
    let known = stands.known m t is in
    let few : times_in (named_things stored) known.value ≤ length (named_things stored) = times_few (named_things stored) known.value in
    let named : t.named ≡ times_in (named_things stored) known.value = known.named in
    let names : state.names ≡ length (named_things stored) = stands.names in
    omega (arith, few, named, names, fits)
