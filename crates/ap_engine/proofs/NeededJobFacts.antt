-- Which of the jobs of recorded creations are needed.
use Rattle.std.proofs.Common.{◌≡◌, ◌++◌, ℕ, Bool, true, false, not, cond, List, [], ◌∷◌, Option, refl, sym, ◌∙◌, ap, subst, append_assoc}
use Rattle.std.proofs.lemmas.List.{append-nil}
use Rattle.std.specs.Prelude.{find, filter}
use Rattle.ap_text.specs.JobOrder.{same_job}
use Rattle.ap_content.specs.Entries.{Entry}
use Rattle.ap_content.specs.declared.node.Number.{Number}
use Rattle.ap_rows.specs.Inputs.{MadeFrom, input_thing}
use Rattle.ap_builder.specs.declared.product.Product.{Product}
use Rattle.ap_builder.specs.declared.work.Outcome.TheVariants.{Done, Failed}
use Rattle.ap_builder.specs.declared.work.JobInput.{JobInput}
use Rattle.ap_builder.specs.Views.{job_view}
use Rattle.ap_db.specs.declared.db.Db.{Db}
use Rattle.ap_db.specs.Changes.{job_row_at}
use Rattle.ap_db.specs.Listed.{AreAll}
use Rattle.ap_db.specs.Stored.{Stored}
use Rattle.ap_db.specs.Tables.{PlainTables}
use Rattle.ap_engine.specs.declared.jobs.SourceJob.{SourceJob}
use Rattle.ap_engine.specs.declared.processing.NeededJob.{NeededJob}
use Rattle.ap_engine.specs.Need.{records_input}
use Rattle.ap_engine.specs.Ledgers.{IsBeside, IsHeld, StayHeld}
use Rattle.ap_engine.specs.NeededJobs.{made_of, id_from, IsJobOf, row_is_of, stands_in, needed_in, IsNeededJob}
use Rattle.ap_engine.proofs.JobNumbers.{same_record}
use Rattle.ap_engine.proofs.NextItems.{first_of}

-- the row of a job says whether it stands
pub stands_as : (db : Db) (contents : List (Option Entry)) (stored : Stored) → IsBeside db contents stored → (n : Number) (job : SourceJob) (from : MadeFrom)
    → IsHeld db contents n (input_thing (made_of job from.bytes)) → made_of job from.bytes ≡ from → job.id ≡ id_from from
    → (answer : Bool) → answer ≡ row_is_of n (find (λ row. same_job row.id job.id) db.state.tables.jobs.items) → stands_in stored.tables from ≡ answer
stands_as db contents stored is n job from held same id answer says =
    sym (says ∙ same_record db.state.things.items contents n (input_thing (made_of job from.bytes)) job.id db.state.tables.jobs.items stored.tables.jobs is.stands.tidy held.stands is.stands.tables.jobs
    ∙ (λ i. records_input (input_thing (same i)) (job_row_at stored.tables (id i))))

module _ (db : Db) (contents : List (Option Entry)) where
  pub none_needed : (tables : PlainTables) (from : MadeFrom) → stands_in tables from ≡ true → AreAll (IsNeededJob db contents) [] (needed_in tables (from ∷ []))
  none_needed tables from e = subst (λ (b : Bool). AreAll (IsNeededJob db contents) [] (cond (not b) (from ∷ []) [])) (sym e) tt

  pub one_needed : (tables : PlainTables) (from : MadeFrom) (needed : NeededJob) → stands_in tables from ≡ false → IsNeededJob db contents needed from → AreAll (IsNeededJob db contents) (needed ∷ []) (needed_in tables (from ∷ []))
  one_needed tables from needed e is = subst (λ (b : Bool). AreAll (IsNeededJob db contents) (needed ∷ []) (cond (not b) (from ∷ []) [])) (sym e) (is, tt)

  module _ (db' : Db) (contents' : List (Option Entry)) (stay : StayHeld db contents db' contents') where
    -- what is held stays so
    pub job_stays : (job : SourceJob) (from : MadeFrom) → IsJobOf db contents job from → IsJobOf db' contents' job from
    job_stays job from is = record { id = is.id; same = is.same; held = stay job.content _ is.held; typed = is.typed; short = is.short }

    pub needed_stays : (needed : NeededJob) (from : MadeFrom) → IsNeededJob db contents needed from → IsNeededJob db' contents' needed from
    needed_stays needed from is = record { job = job_stays needed.job.now from is.job; input = stay needed.input _ is.input }

    pub all_stay : (needed : List NeededJob) (froms : List MadeFrom) → AreAll (IsNeededJob db contents) needed froms → AreAll (IsNeededJob db' contents') needed froms
    all_stay [] [] are = tt
    all_stay [] (from ∷ froms) are = absurd are
    all_stay (n ∷ needed) [] are = absurd are
    all_stay (n ∷ needed) (from ∷ froms) are = (needed_stays n from are.0, all_stay needed froms are.1)

-- related lists one after another
pub are_joined : {X Y : Type 0} (R : X → Y → Type 0) (xs xs' : List X) (ys ys' : List Y) → AreAll R xs ys → AreAll R xs' ys' → AreAll R (xs ++ xs') (ys ++ ys')
are_joined R [] xs' [] ys' one two = two
are_joined R [] xs' (y ∷ ys) ys' one two = absurd one
are_joined R (x ∷ xs) xs' [] ys' one two = absurd one
are_joined R (x ∷ xs) xs' (y ∷ ys) ys' one two = (one.0, are_joined R xs xs' ys ys' one.1 two)

pub filter_joined : {X : Type 0} (test : X → Bool) (xs ys : List X) → filter test (xs ++ ys) ≡ filter test xs ++ filter test ys
filter_joined test [] ys = refl
filter_joined test (x ∷ xs) ys = by_test (test x) (filter_joined test xs ys)
  where
    by_test : (b : Bool) → filter test (xs ++ ys) ≡ filter test xs ++ filter test ys
        → cond b (x ∷ filter test (xs ++ ys)) (filter test (xs ++ ys)) ≡ cond b (x ∷ filter test xs) (filter test xs) ++ filter test ys
    by_test true more = ap (λ l. x ∷ l) more
    by_test false more = more

-- the needed ones of the jobs before those that are left
pub record AreSoFar (db : Db) (contents : List (Option Entry)) (db' : Db) (contents' : List (Option Entry)) (tables : PlainTables) (froms : List MadeFrom) (needed : List NeededJob) (rest : List SourceJob) : Type 0 where
  pub done : List MadeFrom
  pub left : List MadeFrom
  pub joined : done ++ left ≡ froms
  pub jobs : AreAll (IsJobOf db contents) rest left
  pub are : AreAll (IsNeededJob db' contents') needed (needed_in tables done)

module _ (db : Db) (contents : List (Option Entry)) (db' : Db) (contents' : List (Option Entry)) (stay : StayHeld db contents db' contents') (tables : PlainTables) (froms : List MadeFrom) (needed : List NeededJob) where
  pub first_left : (rest : List SourceJob) (job : SourceJob) (others : List SourceJob) → rest ≡ job ∷ others → AreSoFar db contents db' contents' tables froms needed rest → (from : MadeFrom) × IsJobOf db' contents' job from
  first_left rest job others again so_far =
      let first = first_of (IsJobOf db contents) job others so_far.left (subst (λ jobs. AreAll (IsJobOf db contents) jobs so_far.left) again so_far.jobs) in
      (first.0, job_stays db contents db' contents' stay job first.0 first.3)

  -- and with the next one
  pub next_so_far : (db'' : Db) (contents'' : List (Option Entry)) → StayHeld db' contents' db'' contents'' → (needed' more : List NeededJob) → needed' ≡ needed ++ more
      → (rest : List SourceJob) (job : SourceJob) (others : List SourceJob) → rest ≡ job ∷ others
      → ((from : MadeFrom) → IsJobOf db' contents' job from → AreAll (IsNeededJob db'' contents'') more (needed_in tables (from ∷ [])))
      → AreSoFar db contents db' contents' tables froms needed rest → AreSoFar db contents db'' contents'' tables froms needed' others
  next_so_far db'' contents'' stay' needed' more added rest job others again one so_far =
      let first = first_of (IsJobOf db contents) job others so_far.left (subst (λ jobs. AreAll (IsJobOf db contents) jobs so_far.left) again so_far.jobs) in
      record {
        done = so_far.done ++ first.0 ∷ [];
        left = first.1;
        joined = append_assoc so_far.done (first.0 ∷ []) first.1 ∙ ap (λ l. so_far.done ++ l) (sym first.2) ∙ so_far.joined;
        jobs = first.4;
        are = subst (λ needed. AreAll (IsNeededJob db'' contents'') needed (needed_in tables (so_far.done ++ first.0 ∷ []))) (sym added)
            (subst (AreAll (IsNeededJob db'' contents'') (needed ++ more)) (sym (filter_joined (λ from. not (stands_in tables from)) so_far.done (first.0 ∷ [])))
            (are_joined (IsNeededJob db'' contents'') needed more (needed_in tables so_far.done) (needed_in tables (first.0 ∷ []))
            (all_stay db' contents' db'' contents'' stay' needed (needed_in tables so_far.done) so_far.are) (one first.0 (job_stays db contents db' contents' stay job first.0 first.3))));
      }

  pub all_of_them : (rest : List SourceJob) → rest ≡ [] → AreSoFar db contents db' contents' tables froms needed rest → AreAll (IsNeededJob db' contents') needed (needed_in tables froms)
  all_of_them rest none so_far = subst (λ froms. AreAll (IsNeededJob db' contents') needed (needed_in tables froms)) (whole so_far.left so_far.joined (subst (λ jobs. AreAll (IsJobOf db contents) jobs so_far.left) none so_far.jobs)) so_far.are
    where
      whole : (left : List MadeFrom) → so_far.done ++ left ≡ froms → AreAll (IsJobOf db contents) [] left → so_far.done ≡ froms
      whole [] joined are = sym (append-nil so_far.done) ∙ joined
      whole (from ∷ left) joined are = absurd are

-- a view is that of a job where its parts are
pub view_is : (job : SourceJob) (bytes : List ℕ) (input : JobInput) → input.builder ≡ job.desc.builder → input.version ≡ job.desc.version → input.platform ≡ job.desc.platform → input.key ≡ job.desc.key
    → input.params ≡ job.desc.params → input.path ≡ job.id.source → input.bytes ≡ bytes → input.reached ≡ [] → input.handed ≡ [] → input ≡ job_view (made_of job bytes)
view_is job bytes input b v p k a s d r h = λ i. record { builder = b i; version = v i; platform = p i; key = k i; params = a i; path = s i; bytes = d i; reached = r i; handed = h i }

pub one_is_done : (products : List Product) (product : Product) → Done products ≡ Done (product ∷ []) → products ≡ product ∷ []
one_is_done products product e = cc e

pub not_failed : (product : Product) (code : ℕ) → Failed code ≡ Done (product ∷ []) → ⊥
not_failed product code e = cc e
