-- Items that are taken one after another.
use Rattle.std.proofs.Common.{◌≡◌, ◌≢◌, ◌<◌, ◌≤◌, ◌+◌, ◌-◌, ◌==◌, ◌||◌, ◌&&◌, ℕ, zero, suc, Bool, true, false, not, cond, if◌then◌else◌, List, [], ◌∷◌, ◌++◌, length, map, get_or, take, drop, Option, Some, None, refl, sym, ◌∙◌, ap, subst, arith, append_assoc}
use Rattle.std.specs.Prelude.{IsSome, is_some, option_map, option_and_then, find, slice_index_or}
use Rattle.std.specs.List.{AllByRecursion}
use Rattle.std.proofs.lemmas.Bool.Decides.{Decides-eqb, not_from_Decides}
use Rattle.std.proofs.lemmas.List.{take_all}
use Rattle.ap_text.specs.declared.job_id.JobId.{JobId}
use Rattle.ap_content.specs.Things.{Thing, thing, kids_of}
use Rattle.ap_content.specs.Entries.{Entry, IsTidy, Stands, StandEach, entry_at, Lives, Gains}
use Rattle.ap_content.specs.Laws.{Stands-gained}
use Rattle.ap_content.specs.declared.node.Number.{Number}
use Rattle.ap_content.specs.declared.node.Node.{Node}
use Rattle.ap_rows.specs.Forms.{kids_in, has_form, HaveForms}
use Rattle.ap_rows.specs.declared.row.FolderRow.{FolderRow}
use Rattle.ap_rows.specs.declared.row.SourceRow.{SourceRow}
use Rattle.ap_rows.specs.declared.row.CreateRow.{CreateRow}
use Rattle.ap_rows.specs.declared.row.JobRow.{JobRow}
use Rattle.ap_rows.specs.declared.change.Item.TheVariants as item
use Rattle.ap_db.specs.declared.things.FileThing.{FileThing}
use Rattle.ap_db.specs.declared.state.State.{State}
use Rattle.ap_db.specs.Same.{same_thing, is_among}
use Rattle.ap_db.specs.Tables.{PlainSource, PlainCreate, PlainJob}
use Rattle.ap_db.specs.Changes.{with_folders, with_source, without_source, with_create, without_create, with_job, without_job, source_row_at, create_row_at, job_row_at}
use Rattle.ap_db.specs.Stored.{Live, Stored, nothing_stored, thing_at, things_at, with_next, values, named_things, with_tables, with_thing, without_thing, and_thing, and_no_thing, source_at, create_at, job_at, orders_rise, after_item}
use Rattle.ap_db.specs.Listed.{AreAll, AreBoth}
use Rattle.ap_db.specs.States.{StandsFor, Names, IsFound, IsIndexOf, SameNumbers, indexed, file_thing, file_number, times_in}
use Rattle.ap_db.proofs.SameThings.{itself_same}
use Rattle.ap_db.proofs.Renaming.{tables_follow, all_follow}
use Rattle.ap_db.proofs.Filing.{filed_among, or_second}
use Rattle.ap_db.proofs.Dropping.{not_one_of, has_node}
use Rattle.ap_db.proofs.Defining.{equal_or_not}
use Rattle.ap_db.proofs.Indexing.{resolved}

module _ {X Y : Type 0} (Is : X → Y → Type 0) where
  pub both_some : (x : X) (o : Option Y) → AreBoth Is (Some x) o → (y : Y) × (o ≡ Some y) × Is x y
  both_some x None h = absurd h
  both_some x (Some y) h = (y, refl, h)

  pub both_none : (o : Option Y) → AreBoth Is None o → o ≡ None
  both_none None h = refl
  both_none (Some y) h = absurd h

pub same_index : (index : List (Option Number)) (old new : State) → IsIndexOf index old → SameNumbers old new → new.defined ≡ old.defined → IsIndexOf index new
same_index index old new is numbers defined = record {
  long = is.long ∙ ap suc (sym defined);
  points = λ n m e. numbers m ∙ is.points n m e;
  finds = λ m n e. is.finds m n (sym (numbers m) ∙ e);
}

-- ---- rows

module _ (stored : Stored) where
  pub source_taken : (row : SourceRow) (plain : PlainSource) → source_at stored row ≡ Some plain → after_item stored (item.PutSource row) ≡ Some (with_tables stored (with_source stored.tables plain))
  unfolding after_item
  source_taken row plain e = ap (λ o. option_map (λ row. with_tables stored (with_source stored.tables row)) o) e

  pub source_refused : (row : SourceRow) → source_at stored row ≡ None → after_item stored (item.PutSource row) ≡ None
  unfolding after_item
  source_refused row e = ap (λ o. option_map (λ row. with_tables stored (with_source stored.tables row)) o) e

  pub create_taken : (row : CreateRow) (plain : PlainCreate) → create_at stored row ≡ Some plain → after_item stored (item.PutCreate row) ≡ Some (with_tables stored (with_create stored.tables plain))
  unfolding after_item
  create_taken row plain e = ap (λ o. option_map (λ row. with_tables stored (with_create stored.tables row)) o) e

  pub create_refused : (row : CreateRow) → create_at stored row ≡ None → after_item stored (item.PutCreate row) ≡ None
  unfolding after_item
  create_refused row e = ap (λ o. option_map (λ row. with_tables stored (with_create stored.tables row)) o) e

  pub job_taken : (row : JobRow) (plain : PlainJob) → job_at stored row ≡ Some plain → after_item stored (item.PutJob row) ≡ Some (with_tables stored (with_job stored.tables plain))
  unfolding after_item
  job_taken row plain e = ap (λ o. option_map (λ row. with_tables stored (with_job stored.tables row)) o) e

  pub job_refused : (row : JobRow) → job_at stored row ≡ None → after_item stored (item.PutJob row) ≡ None
  unfolding after_item
  job_refused row e = ap (λ o. option_map (λ row. with_tables stored (with_job stored.tables row)) o) e

  mapped : {X Y : Type 0} (y : Y) (o : Option X) → true ≡ is_some o → option_map (λ x. y) o ≡ Some y
  mapped y None h = absurd (cc h)
  mapped y (Some x) h = refl

  unmapped : {X Y : Type 0} (y : Y) (o : Option X) → false ≡ is_some o → option_map (λ x. y) o ≡ None
  unmapped y None h = refl
  unmapped y (Some x) h = absurd (cc h)

  pub source_removed : (path : List ℕ) → true ≡ is_some (source_row_at stored.tables path) → after_item stored (item.RemoveSource path) ≡ Some (with_tables stored (without_source stored.tables path))
  unfolding after_item
  source_removed path h = mapped (with_tables stored (without_source stored.tables path)) (source_row_at stored.tables path) h

  pub no_source : (path : List ℕ) → false ≡ is_some (source_row_at stored.tables path) → after_item stored (item.RemoveSource path) ≡ None
  unfolding after_item
  no_source path h = unmapped (with_tables stored (without_source stored.tables path)) (source_row_at stored.tables path) h

  pub create_removed : (path : List ℕ) → true ≡ is_some (create_row_at stored.tables path) → after_item stored (item.RemoveCreate path) ≡ Some (with_tables stored (without_create stored.tables path))
  unfolding after_item
  create_removed path h = mapped (with_tables stored (without_create stored.tables path)) (create_row_at stored.tables path) h

  pub no_create : (path : List ℕ) → false ≡ is_some (create_row_at stored.tables path) → after_item stored (item.RemoveCreate path) ≡ None
  unfolding after_item
  no_create path h = unmapped (with_tables stored (without_create stored.tables path)) (create_row_at stored.tables path) h

  pub job_removed : (id : JobId) → true ≡ is_some (job_row_at stored.tables id) → after_item stored (item.RemoveJob id) ≡ Some (with_tables stored (without_job stored.tables id))
  unfolding after_item
  job_removed id h = mapped (with_tables stored (without_job stored.tables id)) (job_row_at stored.tables id) h

  pub no_job : (id : JobId) → false ≡ is_some (job_row_at stored.tables id) → after_item stored (item.RemoveJob id) ≡ None
  unfolding after_item
  no_job id h = unmapped (with_tables stored (without_job stored.tables id)) (job_row_at stored.tables id) h

  pub folders_taken : (rows : List FolderRow) → orders_rise rows ≡ true → after_item stored (item.PutFolders rows) ≡ Some (with_tables stored (with_folders stored.tables rows))
  unfolding after_item
  folders_taken rows e = ap (λ (b : Bool). if b then Some (with_tables stored (with_folders stored.tables rows)) else None) e

  pub folders_refused : (rows : List FolderRow) → orders_rise rows ≡ false → after_item stored (item.PutFolders rows) ≡ None
  unfolding after_item
  folders_refused rows e = ap (λ (b : Bool). if b then Some (with_tables stored (with_folders stored.tables rows)) else None) e

pub short_rises : (rows : List FolderRow) → length rows < 2 → true ≡ orders_rise rows
short_rises [] lt = refl
short_rises (row ∷ []) lt = refl
short_rises (row ∷ next ∷ rows) lt = absurd (omega (arith, lt))

-- ---- things that go

not_among : (x : Thing) (ys : List Thing) → AllByRecursion (λ y. same_thing x y ≡ false) ys → is_among ys x ≡ false
not_among x [] h = refl
not_among x (y ∷ ys) h = ap (λ b. b || is_among ys x) h.0 ∙ not_among x ys h.1

pub unnamed_among : (x : Thing) (ys : List Thing) → times_in ys x ≡ 0 → is_among ys x ≡ false
unnamed_among x ys h = not_among x ys (not_one_of x ys h)

pub named_among : (x : Thing) (ys : List Thing) → 0 < times_in ys x → is_among ys x ≡ true
named_among x [] h = absurd (omega (arith, h))
named_among x (y ∷ ys) h = step (same_thing x y) refl (λ more. named_among x ys more)
  where
    step : (b : Bool) → same_thing x y ≡ b → (0 < times_in ys x → is_among ys x ≡ true) → (same_thing x y || is_among ys x) ≡ true
    step true e rest = ap (λ b. b || is_among ys x) e
    step false e rest =
        let none : cond {A = ℕ} (same_thing x y) 1 0 ≡ 0 = ap (λ (b : Bool). cond b 1 0) e in
        ap (λ b. b || is_among ys x) e ∙ rest (omega (arith, h, none))

module _ (state : State) (contents : List (Option Entry)) (stored : Stored) (index : List (Option Number)) (stands : StandsFor state contents stored) (is_index : IsIndexOf index state) (n : Number) where
  pub drop_unknown : indexed index n.0 ≡ None → after_item stored (item.Drop n) ≡ None
  unfolding after_item
  drop_unknown e = ap (λ o. option_and_then (without_thing stored n.0) o) (both_none (Names state.things.items contents) (thing_at stored n) (resolved state contents stored index stands is_index n None e))

  module _ (m : Number) (e : indexed index n.0 ≡ Some m) where
    there : (x : Thing) × (thing_at stored n ≡ Some x) × Names state.things.items contents m x
    there = both_some (Names state.things.items contents) m (thing_at stored n) (resolved state contents stored index stands is_index n (Some m) e)

    pub drop_missing : file_thing state.things.items m ≡ None → after_item stored (item.Drop n) ≡ None
    drop_missing none = absurd (cc (subst IsSome none there.2.file))

    module _ (t : FileThing) (is : file_thing state.things.items m ≡ Some t) where
      counted : t.named ≡ times_in (named_things stored) there.0
      unfolding there
      counted =
          let known = stands.known m t is in
          let same : known.value ≡ there.0 = stands.tidy.one_thing m known.value there.0 known.stands there.2.stands in
          known.named ∙ ap (λ x. times_in (named_things stored) x) same

      pub drop_named : 0 < t.named → after_item stored (item.Drop n) ≡ None
      unfolding after_item there
      drop_named lt =
          let among = named_among there.0 (named_things stored) (omega (arith, lt, counted)) in
          ap (λ o. option_and_then (without_thing stored n.0) o) there.1 ∙ ap (λ (b : Bool). if b then None else Some (and_no_thing stored n.0)) among

      pub drop_taken : t.named ≡ 0 → after_item stored (item.Drop n) ≡ Some (and_no_thing stored n.0)
      unfolding after_item there
      drop_taken none =
          let among = unnamed_among there.0 (named_things stored) (sym counted ∙ none) in
          ap (λ o. option_and_then (without_thing stored n.0) o) there.1 ∙ ap (λ (b : Bool). if b then None else Some (and_no_thing stored n.0)) among

nat_equal_or_not : {G : Type 0} (k n : ℕ) → (k ≡ n → G) → (k ≢ n → G) → G
nat_equal_or_not {G} k n f g = step (k == n) refl
  where
    step : (b : Bool) → k == n ≡ b → G
    step true e = f ((Decides-eqb k n).0 e)
    step false e = g (not_from_Decides (k == n) (Decides-eqb k n) e)

pub index_forgets : (old new : List (Option Number)) (state after : State) (m : Number) (n : ℕ) → IsIndexOf old state → indexed old n ≡ Some m → length new ≡ length old → indexed new n ≡ None → ((k : ℕ) → k ≢ n → indexed new k ≡ indexed old k)
    → file_number after.things.items m ≡ None → ((k : Number) → k ≢ m → file_number after.things.items k ≡ file_number state.things.items k) → after.defined ≡ state.defined → IsIndexOf new after
index_forgets old new state after m n is at long here others gone rest defined = record {
  long = long ∙ is.long ∙ ap suc (sym defined);
  points = λ k j e. nat_equal_or_not k n
      (λ same. absurd (cc (sym e ∙ ap (λ i. indexed new i) same ∙ here)))
      (λ apart.
      let was : indexed old k ≡ Some j = sym (others k apart) ∙ e in
      let number : file_number state.things.items j ≡ Some k = is.points k j was in
      rest j (λ same.
      let one : Some k ≡ Some n = sym number ∙ ap (λ i. file_number state.things.items i) same ∙ is.points n m at in
      apart (cc one)) ∙ number);
  finds = λ j k e. equal_or_not j m
      (λ same. absurd (cc (sym e ∙ ap (λ i. file_number after.things.items i) same ∙ gone)))
      (λ apart.
      let number : file_number state.things.items j ≡ Some k = sym (rest j apart) ∙ e in
      let was : indexed old k ≡ Some j = is.finds j k number in
      others k (λ same.
      let one : Some j ≡ Some m = sym was ∙ ap (λ i. indexed old i) same ∙ at in
      apart (cc one)) ∙ was);
}

-- ---- things that come

pub index_there : {X : Type 0} (xs : List (Option X)) (y : Option X) (k : ℕ) → k < length xs → slice_index_or (xs ++ y ∷ []) k None ≡ slice_index_or xs k None
index_there [] y k lt = absurd (omega (arith, lt))
index_there (x ∷ xs) y zero lt = refl
index_there (x ∷ xs) y (suc k) lt = index_there xs y k (omega (arith, lt))

index_last : {X : Type 0} (xs : List (Option X)) (y : Option X) (k : ℕ) → k ≡ length xs → slice_index_or (xs ++ y ∷ []) k None ≡ y
index_last [] y zero e = refl
index_last [] y (suc k) e = absurd (omega (arith, e))
index_last (x ∷ xs) y zero e = absurd (omega (arith, e))
index_last (x ∷ xs) y (suc k) e = index_last xs y k (omega (arith, e))

index_within : {X : Type 0} (xs : List (Option X)) (k : ℕ) (v : X) → slice_index_or xs k None ≡ Some v → k < length xs
index_within [] k v e = absurd (cc e)
index_within (x ∷ xs) zero v e = omega arith
index_within (x ∷ xs) (suc k) v e = omega (arith, index_within xs k v e)

long_one : {X : Type 0} (xs : List X) (y : X) → length (xs ++ y ∷ []) ≡ suc (length xs)
long_one [] y = refl
long_one (x ∷ xs) y = ap suc (long_one xs y)

pub index_gains : (index : List (Option Number)) (state after : State) (m : Number) → IsIndexOf index state → file_number state.things.items m ≡ None → file_number after.things.items m ≡ Some (state.defined + 1)
    → ((k : Number) → k ≢ m → file_number after.things.items k ≡ file_number state.things.items k) → after.defined ≡ state.defined + 1 → IsIndexOf (index ++ Some m ∷ []) after
index_gains index state after m is none here others defined =
    let last : state.defined + 1 ≡ length index = omega (arith, is.long) in
    record {
      long = omega (arith, long_one index (Some m), is.long, defined);
      points = λ k j e. nat_equal_or_not k (length index)
          (λ same.
          let one : Some j ≡ Some m = sym e ∙ index_last index (Some m) k same in
          let is_m : j ≡ m = cc one in
          ap (λ i. file_number after.things.items i) is_m ∙ here ∙ ap (λ (i : ℕ). Some i) (last ∙ sym same))
          (λ apart.
          let within : k < length (index ++ Some m ∷ []) = index_within (index ++ Some m ∷ []) k j e in
          let was : indexed index k ≡ Some j = sym (index_there index (Some m) k (below within apart)) ∙ e in
          let number : file_number state.things.items j ≡ Some k = is.points k j was in
          others j (λ same. absurd (cc (sym number ∙ ap (λ i. file_number state.things.items i) same ∙ none))) ∙ number);
      finds = λ j k e. equal_or_not j m
          (λ same.
          let one : Some (state.defined + 1) ≡ Some k = sym here ∙ ap (λ i. file_number after.things.items i) (sym same) ∙ e in
          let number : state.defined + 1 ≡ k = cc one in
          index_last index (Some m) k (sym number ∙ last) ∙ ap (λ (i : Number). Some i) (sym same))
          (λ apart.
          let number : file_number state.things.items j ≡ Some k = sym (others j apart) ∙ e in
          let was : indexed index k ≡ Some j = is.finds j k number in
          index_there index (Some m) k (index_within index k j was) ∙ was);
    }
  where
    below : {k : ℕ} → k < length (index ++ Some m ∷ []) → k ≢ length index → k < length index
    below {k} lt apart =
        let long = long_one index (Some m) in
        grind (arith, lt, apart, long)

pub no_index : (index : List (Option Number)) (state : State) (contents : List (Option Entry)) → index ≡ None ∷ [] → StandsFor state contents nothing_stored → IsIndexOf index state
no_index index state contents same stands = record {
  long = ap length same ∙ ap suc (sym stands.defined);
  points = λ n m e. absurd (never n m (sym (ap (λ l. indexed l n) same) ∙ e));
  finds = λ m n e. absurd (nothing m n (file_thing state.things.items m) refl e);
}
  where
    never : (n : ℕ) (m : Number) → slice_index_or (None ∷ []) n None ≡ Some m → ⊥
    never zero m e = cc e
    never (suc n) m e = cc e

    nothing : (m : Number) (n : ℕ) (o : Option FileThing) → file_thing state.things.items m ≡ o → option_map (λ t. t.number) o ≡ Some n → ⊥
    nothing m n None is e = cc e
    nothing m n (Some t) is e = let known = stands.known m t is in cc known.live

-- ---- the contents gain a thing

stands_lives : (contents : List (Option Entry)) (m : Number) (x : Thing) → Stands contents m x → Lives contents m
stands_lives contents m x s = let node = has_node contents m x s in step (entry_at contents m) refl node.0 node.1
  where
    step : (o : Option Entry) → entry_at contents m ≡ o → (node : Node) → option_map (λ e. e.node) (entry_at contents m) ≡ Some node → IsSome (entry_at contents m)
    step None e node at = absurd (cc (sym at ∙ ap (λ o. option_map (λ e. e.node) o) e))
    step (Some y) e node at = subst IsSome (sym e) refl

module _ (state : State) (old new : List (Option Entry)) (stored : Stored) (n : Number) (node : Node) (stands : StandsFor state old stored) (gains : Gains old new n node) (tidy : IsTidy new) where
  pub still_stands : (m : Number) (x : Thing) → Stands old m x → Stands new m x
  still_stands m x s = Stands-gained old new n node gains stands.tidy x m (stands_lives old m x s) s

  pub gained : StandsFor state new stored
  gained = record {
    sound = stands.sound;
    tidy = tidy;
    defined = stands.defined;
    names = stands.names;
    tables = tables_follow (Names state.things.items old) (Names state.things.items new) (λ m x h. record { file = h.file; stands = still_stands m x h.stands }) state.tables stored.tables stands.tables;
    found = all_follow (IsFound state.things.items old) (IsFound state.things.items new) stored.live
        (λ live h. record { number = h.number; thing = h.thing; file = h.file; same = h.same; stands = still_stands h.number live.value h.stands }) stands.found;
    known = λ m t e.
        let known = stands.known m t e in
        record { value = known.value; live = known.live; stands = still_stands m known.value known.stands; named = known.named };
  }

pub live_among : (n : ℕ) (live : List Live) (v : Thing) → option_map (λ live. live.value) (find (λ live. live.number == n) live) ≡ Some v → is_among (map (λ live. live.value) live) v ≡ true
live_among n [] v e = absurd (cc e)
live_among n (l ∷ live) v e = step (l.number == n) refl (λ later. live_among n live v later)
  where
    step : (b : Bool) → l.number == n ≡ b → (option_map (λ live. live.value) (find (λ live. live.number == n) live) ≡ Some v → is_among (map (λ live. live.value) live) v ≡ true) → (same_thing v l.value || is_among (map (λ live. live.value) live) v) ≡ true
    step true is rest =
        let one : Some l.value ≡ Some v = sym (ap (λ b. option_map (λ live. live.value) (cond b (Some l) (find (λ live. live.number == n) live))) is) ∙ e in
        let same : l.value ≡ v = cc one in
        ap (λ b. b || is_among (map (λ live. live.value) live) v) (subst (λ (w : Thing). same_thing v w ≡ true) (sym same) (itself_same v))
    step false is rest = or_second (same_thing v l.value) (is_among (map (λ live. live.value) live) v)
        (rest (sym (ap (λ b. option_map (λ live. live.value) (cond b (Some l) (find (λ live. live.number == n) live))) is) ∙ e))

module _ (state : State) (contents : List (Option Entry)) (stored : Stored) (stands : StandsFor state contents stored) where
  pub named_lives : (m : Number) (x : Thing) → Names state.things.items contents m x → is_among (values stored) x ≡ true
  named_lives m x names = step (file_thing state.things.items m) refl names.file
    where
      step : (o : Option FileThing) → file_thing state.things.items m ≡ o → IsSome o → is_among (values stored) x ≡ true
      step None is h = absurd (cc h)
      step (Some t) is h =
          let known = stands.known m t is in
          let same : known.value ≡ x = stands.tidy.one_thing m known.value x known.stands names.stands in
          subst (λ v. is_among (values stored) v ≡ true) same (live_among t.number stored.live known.value known.live)

  pub kids_live : (ns : List Number) (xs : List Thing) → AreAll (Names state.things.items contents) ns xs → AllByRecursion (λ k. is_among (values stored) k ≡ true) (kids_in (kids_of xs))
  kids_live [] [] h = tt
  kids_live [] (x ∷ xs) h = absurd h
  kids_live (n ∷ ns) [] h = absurd h
  kids_live (n ∷ ns) (x ∷ xs) h = (named_lives n x h.0, kids_live ns xs h.1)

  formed_among : (ys : List Thing) → AllByRecursion (λ y. has_form y ≡ true) ys → (x : Thing) → is_among ys x ≡ true → has_form x ≡ true
  formed_among [] h x among = absurd (cc among)
  formed_among (y ∷ ys) h x among = Rattle.ap_db.proofs.Filing.or_parts (same_thing x y) (is_among ys x) among
      (λ same. subst (λ z. has_form z ≡ true) (sym (Rattle.ap_db.proofs.SameThings.one_if_same x y same)) h.0)
      (λ later. formed_among ys h.1 x later)

  pub kids_formed : (ns : List Number) (xs : List Thing) → AreAll (Names state.things.items contents) ns xs → HaveForms (kids_of xs)
  kids_formed [] [] h = tt
  kids_formed [] (x ∷ xs) h = absurd h
  kids_formed (n ∷ ns) [] h = absurd h
  kids_formed (n ∷ ns) (x ∷ xs) h = (formed_among (values stored) stands.sound.formed x (named_lives n x h.0), kids_formed ns xs h.1)

pub each_stands : (things : List (Option FileThing)) (contents : List (Option Entry)) (ns : List Number) (xs : List Thing) → AreAll (Names things contents) ns xs → StandEach contents ns (kids_of xs)
each_stands things contents [] [] h = tt
each_stands things contents [] (x ∷ xs) h = absurd h
each_stands things contents (n ∷ ns) [] h = absurd h
each_stands things contents (n ∷ ns) (x ∷ xs) h = (h.0.stands, each_stands things contents ns xs h.1)

pub contains_lives : (things : List (Option FileThing)) (contents : List (Option Entry)) (ns : List Number) (xs : List Thing) → AreAll (Names things contents) ns xs → (k : Number) (i : ℕ) → i < length ns → slice_index_or ns i k ≡ k → Lives contents k
contains_lives things contents [] xs h k i lt e = absurd (omega (arith, lt))
contains_lives things contents (n ∷ ns) [] h k i lt e = absurd h
contains_lives things contents (n ∷ ns) (x ∷ xs) h k zero lt e = subst (λ m. Lives contents m) e (stands_lives contents n x h.0.stands)
contains_lives things contents (n ∷ ns) (x ∷ xs) h k (suc i) lt e = contains_lives things contents ns xs h.1 k i (omega (arith, lt)) e

-- a thing whose number isn't that of a thing of the file isn't among those
pub new_among : (state : State) (contents : List (Option Entry)) (stored : Stored) (m : Number) (x : Thing) → StandsFor state contents stored → Stands contents m x → file_thing state.things.items m ≡ None → is_among (values stored) x ≡ false
new_among state contents stored m x stands s none = step (is_among (values stored) x) refl
  where
    step : (b : Bool) → is_among (values stored) x ≡ b → is_among (values stored) x ≡ false
    step true e =
        let filed = filed_among state.things.items contents stored.live stands.found x e in
        let one : filed.0 ≡ m = stands.tidy.one_number filed.0 m x filed.1.stands s in
        absurd (cc (subst IsSome (ap (λ k. file_thing state.things.items k) one ∙ none) filed.1.file))
    step false e = e

pub old_among : (state : State) (contents : List (Option Entry)) (stored : Stored) (m : Number) (x : Thing) (t : FileThing) → StandsFor state contents stored → Stands contents m x → file_thing state.things.items m ≡ Some t → is_among (values stored) x ≡ true
old_among state contents stored m x t stands s some =
    let known = stands.known m t some in
    let same : known.value ≡ x = stands.tidy.one_thing m known.value x known.stands s in
    subst (λ v. is_among (values stored) v ≡ true) same (live_among t.number stored.live known.value known.live)

pub define_taken : (stored : Stored) (tag : ℕ) (text : List ℕ) (kids : List Number) (xs : List Thing) → things_at stored kids ≡ Some xs → has_form (thing tag text (kids_of xs)) ≡ true → is_among (values stored) (thing tag text (kids_of xs)) ≡ false
    → after_item stored (item.Define tag text kids) ≡ Some (and_thing stored (thing tag text (kids_of xs)))
unfolding after_item
define_taken stored tag text kids xs at formed among =
    ap (λ o. option_and_then (λ things. with_thing stored (thing tag text (kids_of things))) o) at
    ∙ ap (λ (b : Bool). if (b && not (is_among (values stored) (thing tag text (kids_of xs)))) then Some (and_thing stored (thing tag text (kids_of xs))) else None) formed
    ∙ ap (λ (b : Bool). if not b then Some (and_thing stored (thing tag text (kids_of xs))) else None) among

pub define_unformed : (stored : Stored) (tag : ℕ) (text : List ℕ) (kids : List Number) (xs : List Thing) → things_at stored kids ≡ Some xs → has_form (thing tag text (kids_of xs)) ≡ false → after_item stored (item.Define tag text kids) ≡ None
unfolding after_item
define_unformed stored tag text kids xs at unformed =
    ap (λ o. option_and_then (λ things. with_thing stored (thing tag text (kids_of things))) o) at
    ∙ ap (λ (b : Bool). if (b && not (is_among (values stored) (thing tag text (kids_of xs)))) then Some (and_thing stored (thing tag text (kids_of xs))) else None) unformed

pub define_again : (stored : Stored) (tag : ℕ) (text : List ℕ) (kids : List Number) (xs : List Thing) → things_at stored kids ≡ Some xs → is_among (values stored) (thing tag text (kids_of xs)) ≡ true → after_item stored (item.Define tag text kids) ≡ None
unfolding after_item
define_again stored tag text kids xs at among =
    ap (λ o. option_and_then (λ things. with_thing stored (thing tag text (kids_of things))) o) at
    ∙ ap (λ (b : Bool). if (has_form (thing tag text (kids_of xs)) && not b) then Some (and_thing stored (thing tag text (kids_of xs))) else None) among
    ∙ step (has_form (thing tag text (kids_of xs)))
  where
    step : (b : Bool) → (if (b && false) then Some (and_thing stored (thing tag text (kids_of xs))) else None) ≡ None
    step true = refl
    step false = refl

pub define_unknown : (stored : Stored) (tag : ℕ) (text : List ℕ) (kids : List Number) → things_at stored kids ≡ None → after_item stored (item.Define tag text kids) ≡ None
unfolding after_item
define_unknown stored tag text kids at = ap (λ o. option_and_then (λ things. with_thing stored (thing tag text (kids_of things))) o) at

-- ---- kids by number

pub cons-again : {X : Type 0} (d : X) (xs : List X) → 1 ≤ length xs → get_or xs 0 d ∷ take (length xs - 1) (drop 1 xs) ≡ xs
cons-again d [] h = absurd (omega (arith, h))
cons-again d (x ∷ xs) h = ap (λ ys. x ∷ ys) (take_all (suc (length xs) - 1) xs (omega arith))

pub all_one : {X Y : Type 0} (Is : X → Y → Type 0) (xs : List X) (ys : List Y) (x : X) (y : Y) → AreAll Is xs ys → Is x y → AreAll Is (xs ++ x ∷ []) (ys ++ y ∷ [])
all_one Is [] [] x y h is = (is, tt)
all_one Is [] (b ∷ ys) x y h is = absurd h
all_one Is (a ∷ xs) [] x y h is = absurd h
all_one Is (a ∷ xs) (b ∷ ys) x y h is = (h.0, all_one Is xs ys x y h.1 is)

pub next_front : (xs : List Thing) (x : Thing) (o : Option (List Thing)) → option_map (λ ys. xs ++ ys) (with_next (Some x) o) ≡ option_map (λ ys. (xs ++ x ∷ []) ++ ys) o
next_front xs x None = refl
next_front xs x (Some ys) = ap (λ l. Some l) (sym (append_assoc xs (x ∷ []) ys))
