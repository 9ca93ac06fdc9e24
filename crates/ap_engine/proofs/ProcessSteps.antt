-- How the records of needed jobs follow one another.
use Rattle.std.proofs.Common.{◌≡◌, ◌≤◌, ◌++◌, ℕ, List, [], ◌∷◌, Contains, Option, refl, sym, ◌∙◌, ap, subst, append_assoc, arith}
use Rattle.std.specs.List.{AllByRecursion}
use Rattle.std.proofs.lemmas.List.{append-nil, map-append}
use Rattle.std.specs.Prelude.{◌^◌}
use Rattle.ap_content.specs.Entries.{Entry}
use Rattle.ap_journal.specs.State.{IsOf}
use Rattle.ap_text.specs.Causes.{Rose}
use Rattle.ap_text.proofs.Members.{Contains-head, Contains-tail_of}
use Rattle.ap_rows.specs.Inputs.{MadeFrom}
use Rattle.ap_builder.specs.Views.{job_view}
use Rattle.ap_builder.specs.declared.entry.Entry.{Entry as WorkEntry}
use Rattle.ap_builder.specs.declared.entry.Entry.TheVariants.{Process}
use Rattle.ap_builder.specs.declared.work.JobInput.{JobInput}
use Rattle.ap_builder.specs.declared.work.Outcome.{Outcome}
use Rattle.ap_db.specs.Changes.{Whole, put_job}
use Rattle.ap_db.specs.Listed.{AreAll}
use Rattle.ap_db.specs.Stored.{Stored}
use Rattle.ap_db.specs.WholeItems.{all_committed}
use Rattle.ap_db.specs.declared.db.Db.{Db}
use Rattle.ap_engine.specs.Ledgers.{IsBeside, IsReady, StayHeld, HasCommitted, HasStopped}
use Rattle.ap_engine.specs.declared.processing.NeededJob.{NeededJob}
use Rattle.ap_engine.specs.NeededJobs.{id_from, IsNeededJob, IsOneProduct, row_made, puts_made, work_of}
use Rattle.ap_engine.proofs.Following.{all_follow, stopped_behind, stopped_before, nothing_committed}
use Rattle.ap_engine.proofs.NextItems.{first_of}
use Rattle.ap_engine.proofs.NeededJobFacts.{needed_stays}

module _ {D : Type 0} (seen : D → Option (List ℕ)) (may_leave : D → List ℕ → Type 0) (clock_of : D → Option ℕ) (left_at : D → ℕ → List ℕ → Type 0) (room faults : D → ℕ) where
  -- a ledger that is ready is so beside contents that gained
  pub ready_on : (db : Db) (contents : List (Option Entry)) (db' : Db) (contents' : List (Option Entry)) (store : D × D) (stored : Stored) → db' ≡ db → IsBeside db' contents' stored
      → IsReady seen may_leave room db contents store stored → IsReady seen may_leave room db' contents' store stored
  ready_on db contents db' contents' store stored same beside ready = record {
    beside = beside;
    journal = subst (λ (db : Db). IsOf seen may_leave room db.journal store) (sym same) ready.journal;
    bounded = subst (λ (db : Db). db.journal.limit ≤ 2 ^ 32) (sym same) ready.bounded;
    unspent = ap (λ (db : Db). db.journal.spent) same ∙ ready.unspent;
    file = ready.file;
    durable = ready.durable;
  }

  -- what is committed from there is committed from before
  pub committed_from : (db : Db) (contents : List (Option Entry)) (db' : Db) (contents' : List (Option Entry)) (db'' : Db) (contents'' : List (Option Entry)) (old new : D × D) (stored : Stored) (given : List Whole)
      → db' ≡ db → StayHeld db contents db' contents'
      → HasCommitted seen may_leave clock_of left_at room faults db' contents' db'' contents'' old new stored given
      → HasCommitted seen may_leave clock_of left_at room faults db contents db'' contents'' old new stored given
  committed_from db contents db' contents' db'' contents'' old new stored given same stay is = record {
    commits = is.commits;
    told = is.told;
    ready = is.ready;
    stay = λ n x held. is.stay n x (stay n x held);
    limit = is.limit ∙ ap (λ (db : Db). db.journal.limit) same;
  }

-- ---- the needed jobs one after another

all_both : {X : Type 0} (P : X → Type 0) (xs ys : List X) → AllByRecursion P xs → AllByRecursion P ys → AllByRecursion P (xs ++ ys)
all_both P [] ys one two = two
all_both P (x ∷ xs) ys one two = (one.0, all_both P xs ys one.1 two)

behind_has : {X : Type 0} (xs : List X) (y : X) (ys : List X) → Contains (xs ++ y ∷ ys) y
behind_has [] y ys = Contains-head y ys
behind_has (x ∷ xs) y ys = Contains-tail_of x (xs ++ y ∷ ys) y (behind_has xs y ys)

module _ {D : Type 0} (seen : D → Option (List ℕ)) (may_leave : D → List ℕ → Type 0) (clock_of : D → Option ℕ) (left_at : D → ℕ → List ℕ → Type 0) (room faults : D → ℕ) (makes : JobInput → Outcome)
    (db : Db) (contents : List (Option Entry)) (store : D × D) (bench : List WorkEntry) (stored : Stored) (froms : List MadeFrom) where
  -- the jobs before those that are left are asked for and recorded
  pub record AreProcessed (db' : Db) (contents' : List (Option Entry)) (store' : D × D) (bench' : List WorkEntry) (rest : List NeededJob) : Type 0 where
    pub done : List MadeFrom
    pub left : List MadeFrom
    pub joined : done ++ left ≡ froms
    pub jobs : AreAll (IsNeededJob db contents) rest left
    pub commits : HasCommitted seen may_leave clock_of left_at room faults db contents db' contents' store store' stored (puts_made makes done)
    pub asked : bench' ≡ bench ++ work_of done
    pub one : AllByRecursion (λ from. IsOneProduct (makes (job_view from))) done

  pub none_processed : (needed : List NeededJob) → IsReady seen may_leave room db contents store stored → AreAll (IsNeededJob db contents) needed froms → AreProcessed db contents store bench needed
  none_processed needed ready are = record {
    done = [];
    left = froms;
    joined = refl;
    jobs = are;
    commits = nothing_committed seen may_leave clock_of left_at room faults db contents store stored ready;
    asked = sym (append-nil bench);
    one = tt;
  }

  module _ (db' : Db) (contents' : List (Option Entry)) (store' : D × D) (bench' : List WorkEntry) (rest : List NeededJob) (job : NeededJob) (others : List NeededJob) (again : rest ≡ job ∷ others)
      (so_far : AreProcessed db' contents' store' bench' rest) where
    -- what the next job is made from, and those behind it
    pub next : (from : MadeFrom) × (more : List MadeFrom) × (so_far.left ≡ from ∷ more) × IsNeededJob db contents job from × AreAll (IsNeededJob db contents) others more
    next = first_of (IsNeededJob db contents) job others so_far.left (subst (λ jobs. AreAll (IsNeededJob db contents) jobs so_far.left) again so_far.jobs)

    abbrev pub then : Stored
    then = all_committed stored (puts_made makes so_far.done)

    abbrev pub first_from : MadeFrom
    first_from = next.0

    pub next_ready : IsReady seen may_leave room db' contents' store' then
    next_ready = so_far.commits.ready

    pub next_needed : IsNeededJob db' contents' job first_from
    next_needed = needed_stays db contents db' contents' so_far.commits.stay job first_from next.3

    joined_on : (so_far.done ++ first_from ∷ []) ++ next.1 ≡ froms
    joined_on = append_assoc so_far.done (first_from ∷ []) next.1 ∙ ap (λ l. so_far.done ++ l) (sym next.2) ∙ so_far.joined

    puts_on : puts_made makes so_far.done ++ put_job (row_made makes first_from) ∷ [] ≡ puts_made makes (so_far.done ++ first_from ∷ [])
    puts_on = sym (map-append (λ from. put_job (row_made makes from)) so_far.done (first_from ∷ []))

    pub next_processed : (db'' : Db) (contents'' : List (Option Entry)) (store'' : D × D) (bench'' : List WorkEntry)
        → HasCommitted seen may_leave clock_of left_at room faults db' contents' db'' contents'' store' store'' then (put_job (row_made makes first_from) ∷ [])
        → bench'' ≡ bench' ++ Process job.job.now.id ∷ [] → IsOneProduct (makes (job_view first_from)) → AreProcessed db'' contents'' store'' bench'' others
    next_processed db'' contents'' store'' bench'' commits asked one = record {
      done = so_far.done ++ first_from ∷ [];
      left = next.1;
      joined = joined_on;
      jobs = next.4;
      commits = subst (HasCommitted seen may_leave clock_of left_at room faults db contents db'' contents'' store store'' stored) puts_on
          (all_follow seen may_leave clock_of left_at room faults db contents db' contents' db'' contents'' store store' store'' stored (puts_made makes so_far.done) (put_job (row_made makes first_from) ∷ []) so_far.commits commits);
      asked = asked ∙ (λ i. so_far.asked i ++ Process (next.3.job.id i) ∷ []) ∙ append_assoc bench (work_of so_far.done) (Process (id_from first_from) ∷ [])
          ∙ ap (λ l. bench ++ l) (sym (map-append (λ from. Process (id_from from)) so_far.done (first_from ∷ [])));
      one = all_both (λ from. IsOneProduct (makes (job_view from))) so_far.done (first_from ∷ []) so_far.one (one, tt);
    }

    pub next_stopped : (store'' : D × D) → HasStopped seen may_leave clock_of left_at room faults store' store'' then (put_job (row_made makes first_from) ∷ [])
        → HasStopped seen may_leave clock_of left_at room faults store store'' stored (puts_made makes froms)
    next_stopped store'' stopped =
        subst (HasStopped seen may_leave clock_of left_at room faults store store'' stored)
        (ap (λ l. l ++ puts_made makes next.1) puts_on ∙ sym (map-append (λ from. put_job (row_made makes from)) (so_far.done ++ first_from ∷ []) next.1) ∙ ap (puts_made makes) joined_on)
        (stopped_before seen may_leave clock_of left_at room faults store store'' stored (puts_made makes so_far.done ++ put_job (row_made makes first_from) ∷ []) (puts_made makes next.1)
        (stopped_behind seen may_leave clock_of left_at room faults db contents db' contents' store store' store'' stored (puts_made makes so_far.done) (put_job (row_made makes first_from) ∷ []) so_far.commits stopped))

    pub next_among : Contains froms first_from
    next_among = subst (λ froms. Contains froms first_from) (ap (λ l. so_far.done ++ l) (sym next.2) ∙ so_far.joined) (behind_has so_far.done first_from next.1)

  -- none is left
  pub all_done : (db' : Db) (contents' : List (Option Entry)) (store' : D × D) (bench' : List WorkEntry) (rest : List NeededJob) → rest ≡ [] → (so_far : AreProcessed db' contents' store' bench' rest) → so_far.done ≡ froms
  all_done db' contents' store' bench' rest none so_far = whole so_far.left so_far.joined (subst (λ jobs. AreAll (IsNeededJob db contents) jobs so_far.left) none so_far.jobs)
    where
      whole : (left : List MadeFrom) → so_far.done ++ left ≡ froms → AreAll (IsNeededJob db contents) [] left → so_far.done ≡ froms
      whole [] joined are = sym (append-nil so_far.done) ∙ joined
      whole (from ∷ left) joined are = absurd are

pub rose_since : (before then now : ℕ) → before ≤ then → Rose then now → Rose before now
rose_since before then now le rose = omega (arith, le, rose)
