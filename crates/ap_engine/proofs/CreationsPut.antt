-- Needed creations that are put one after another.
use Rattle.std.proofs.Common.{◌≡◌, ◌≤◌, ◌^◌, ℕ, not, List, [], ◌∷◌, ◌++◌, Contains, Option, refl, sym, ◌∙◌, ap, subst, append_assoc, arith, ⊎_elim}
use Rattle.std.specs.Prelude.{Result, Ok, Err, OnOk, OnErr, IfErr}
use Rattle.std.specs.List.{AllByRecursion}
use Rattle.std.proofs.lemmas.List.{append-nil, map-append}
use Rattle.std.proofs.lemmas.Grind.{flat_map-append}
use Rattle.std.proofs.lemmas.List.Elements.{Contains-append_right}
use Rattle.ap_text.specs.Causes.{Rose}
use Rattle.ap_text.proofs.Members.{Contains-none, Contains-cons_cases, Contains-head, AllByRecursion-join}
use Rattle.ap_content.specs.Entries.{Entry}
use Rattle.ap_config.specs.declared.config.Config.{Config}
use Rattle.ap_scan.specs.declared.results.Winner.{Winner}
use Rattle.ap_builder.specs.declared.entry.Entry.{Entry as Work}
use Rattle.ap_builder.specs.Meanings.{Meanings}
use Rattle.ap_db.specs.declared.db.Db.{Db}
use Rattle.ap_db.specs.Changes.{Whole, put_create}
use Rattle.ap_db.specs.Listed.{AreAll}
use Rattle.ap_db.specs.Stored.{Stored}
use Rattle.ap_db.specs.WholeItems.{all_committed}
use Rattle.ap_sources.specs.Sources.{matching, sources}
use Rattle.ap_content.proofs.Members.{Contains-filtered}
use Rattle.ap_journal.specs.State.{IsOf}
use Rattle.ap_rows.specs.InputRanges.{IsCreateInput}
use Rattle.ap_create.specs.Creation.{create_from}
use Rattle.ap_engine.specs.Need.{creation_stands, creates_of}
use Rattle.ap_engine.specs.Worlds.{AreQuiet}
use Rattle.ap_engine.specs.Settled.{create_row}
use Rattle.ap_engine.specs.Ledgers.{IsBeside, StayHeld, IsReady, HasCommitted, HasStopped}
use Rattle.ap_engine.specs.declared.creations.NeededCreation.{NeededCreation}
use Rattle.ap_engine.specs.Asked.{entries_of, needed_sources, IsNeeded, AreToPut, puts_of, asked_of, IsFree}
use Rattle.ap_engine.proofs.Following.{all_follow, stopped_behind, stopped_before, nothing_committed}
use Rattle.ap_engine.proofs.NeededSources.{stay_needed}

-- ---- from one clause to another

module _ {X E : Type 0} where
  pub on_ok_to : (result : Result X E) (P Q : Type 0) → OnOk result P → (P → Q) → OnOk result Q
  on_ok_to (Ok x) P Q p to = to p
  on_ok_to (Err stop) P Q p to = tt

  pub on_err_to : (result : Result X E) (P Q : Type 0) → OnErr result P → (P → Q) → OnErr result Q
  on_err_to (Ok x) P Q p to = tt
  on_err_to (Err stop) P Q p to = to p

  pub if_err_to : (result : Result X E) (P Q : E → Type 0) → IfErr result P → ((stop : E) → P stop → Q stop) → IfErr result Q
  if_err_to (Ok x) P Q p to = tt
  if_err_to (Err stop) P Q p to = to stop p

pub rose_on : (a b n : ℕ) → a ≤ b → Rose b n → Rose a n
rose_on a b n le rose = omega (arith, le, rose)

module _ (builders : Meanings) (config : Config) (winners : List Winner) {D : Type 0} (seen : D → Option (List ℕ)) (may_leave : D → List ℕ → Type 0) (clock : D → Option ℕ) (left_at : D → ℕ → List ℕ → Type 0) (room faults : D → ℕ) where
  -- some of the creations are put, and the others are to be put
  pub record ArePut (db : Db) (contents : List (Option Entry)) (db' : Db) (contents' : List (Option Entry)) (old new : D × D) (stored : Stored) (was is : List Work) (asked : List Winner) (rest : List NeededCreation) : Type 0 where
    pub done : List Winner
    pub after : List Winner
    pub joined : done ++ after ≡ asked
    pub behind : AreAll (IsNeeded builders config winners db' contents') rest after
    pub committed : HasCommitted seen may_leave clock left_at room faults db contents db' contents' old new stored (puts_of builders config winners done)
    pub free : AllByRecursion (IsFree builders config winners) done
    pub noted : is ≡ was ++ asked_of builders config winners done

  pub none_put : (db : Db) (contents : List (Option Entry)) (store : D × D) (stored : Stored) (was : List Work) (asked : List Winner) (needed : List NeededCreation)
      → AreToPut builders config winners seen may_leave room db contents store stored needed asked → ArePut db contents db contents store store stored was was asked needed
  none_put db contents store stored was asked needed to_put = record {
    done = [];
    after = asked;
    joined = refl;
    behind = to_put.each;
    committed = nothing_committed seen may_leave clock left_at room faults db contents store stored to_put.ready;
    free = tt;
    noted = sym (append-nil was);
  }

  -- ---- all are put

  pub record AllPut (db : Db) (contents : List (Option Entry)) (db' : Db) (contents' : List (Option Entry)) (old new : D × D) (stored : Stored) (was is : List Work) (asked : List Winner) : Type 0 where
    pub committed : HasCommitted seen may_leave clock left_at room faults db contents db' contents' old new stored (puts_of builders config winners asked)
    pub free : AllByRecursion (IsFree builders config winners) asked
    pub noted : is ≡ was ++ asked_of builders config winners asked

  pub all_put : (db : Db) (contents : List (Option Entry)) (db' : Db) (contents' : List (Option Entry)) (old new : D × D) (stored : Stored) (was is : List Work) (asked : List Winner)
      → ArePut db contents db' contents' old new stored was is asked [] → AllPut db contents db' contents' old new stored was is asked
  all_put db contents db' contents' old new stored was is asked put = by_after put.after put.joined put.behind
    where
      by_after : (after : List Winner) → put.done ++ after ≡ asked → AreAll (IsNeeded builders config winners db' contents') [] after → AllPut db contents db' contents' old new stored was is asked
      by_after [] joined behind = subst (AllPut db contents db' contents' old new stored was is) (sym (append-nil put.done) ∙ joined) (record { committed = put.committed; free = put.free; noted = put.noted })
      by_after (winner ∷ after) joined behind = absurd behind

  -- ---- the next one

  module _ (db : Db) (contents : List (Option Entry)) (db' : Db) (contents' : List (Option Entry)) (old new : D × D) (stored : Stored) (was is : List Work) (asked : List Winner) (creation : NeededCreation) (rest needed : List NeededCreation)
      (to_put : AreToPut builders config winners seen may_leave room db contents old stored needed asked) (put : ArePut db contents db' contents' old new stored was is asked (creation ∷ rest)) where
    -- the first of those that are left
    pub record HasNext : Type 0 where
      pub winner : Winner
      pub others : List Winner
      pub joined : put.done ++ winner ∷ others ≡ asked
      pub first : IsNeeded builders config winners db' contents' creation winner
      pub behind : AreAll (IsNeeded builders config winners db' contents') rest others

    pub next : HasNext
    next = by_after put.after put.joined put.behind
      where
        by_after : (after : List Winner) → put.done ++ after ≡ asked → AreAll (IsNeeded builders config winners db' contents') (creation ∷ rest) after → HasNext
        by_after [] joined behind = absurd behind
        by_after (winner ∷ others) joined behind = record { winner = winner; others = others; joined = joined; first = behind.0; behind = behind.1 }

    abbrev pub stored_now : Stored
    stored_now = all_committed stored (puts_of builders config winners put.done)

    pub next_asked : Contains asked next.winner
    next_asked = subst (λ wins. Contains wins next.winner) next.joined (Contains-append_right put.done (next.winner ∷ next.others) next.winner (Contains-head next.winner next.others))

    pub next_to_put : AreToPut builders config winners seen may_leave room db' contents' new stored_now (creation ∷ []) (next.winner ∷ [])
    next_to_put = record {
      ready = put.committed.ready;
      quiet = to_put.quiet;
      each = (next.first, tt);
      are = λ winner has. to_put.are winner (⊎_elim (λ same. subst (Contains asked) same next_asked) (λ none. absurd (Contains-none winner none)) (Contains-cons_cases next.winner [] winner has));
      typed = to_put.typed;
    }

    both_puts : puts_of builders config winners put.done ++ puts_of builders config winners (next.winner ∷ []) ≡ puts_of builders config winners (put.done ++ next.winner ∷ [])
    both_puts = sym (map-append (λ winner. put_create (create_row builders config winners winner.path)) put.done (next.winner ∷ []))

    all_joined : (put.done ++ next.winner ∷ []) ++ next.others ≡ asked
    all_joined = append_assoc put.done (next.winner ∷ []) next.others ∙ next.joined

    pub one_put : (db'' : Db) (contents'' : List (Option Entry)) (last : D × D) (now : List Work)
        → HasCommitted seen may_leave clock left_at room faults db' contents' db'' contents'' new last stored_now (puts_of builders config winners (next.winner ∷ []))
        → IsFree builders config winners next.winner → now ≡ is ++ entries_of creation.source.now.path (matching config creation.source.now.path)
        → ArePut db contents db'' contents'' old last stored was now asked rest
    one_put db'' contents'' last now committed free noted = record {
      done = put.done ++ next.winner ∷ [];
      after = next.others;
      joined = all_joined;
      behind = stay_needed builders config winners db' contents' db'' contents'' committed.stay rest next.others next.behind;
      committed = subst (HasCommitted seen may_leave clock left_at room faults db contents db'' contents'' old last stored) both_puts
          (all_follow seen may_leave clock left_at room faults db contents db' contents' db'' contents'' old new last stored (puts_of builders config winners put.done) (puts_of builders config winners (next.winner ∷ [])) put.committed committed);
      free = AllByRecursion-join (IsFree builders config winners) put.done (next.winner ∷ []) put.free (free, tt);
      noted = noted ∙ ap (λ path. is ++ entries_of path (matching config path)) next.first.of.path ∙ ap (λ l. l ++ entries_of next.winner.path (matching config next.winner.path)) put.noted
          ∙ append_assoc was (asked_of builders config winners put.done) (entries_of next.winner.path (matching config next.winner.path))
          ∙ ap (λ l. was ++ l) (ap (λ l. asked_of builders config winners put.done ++ l) (sym (append-nil (entries_of next.winner.path (matching config next.winner.path))))
          ∙ sym (flat_map-append (λ winner. creates_of builders config winners winner.path) put.done (next.winner ∷ [])));
    }

    pub one_stopped : (last : D × D) → HasStopped seen may_leave clock left_at room faults new last stored_now (puts_of builders config winners (next.winner ∷ []))
        → HasStopped seen may_leave clock left_at room faults old last stored (puts_of builders config winners asked)
    one_stopped last stopped = subst (HasStopped seen may_leave clock left_at room faults old last stored)
        (ap (λ l. l ++ puts_of builders config winners next.others) both_puts ∙ sym (map-append (λ winner. put_create (create_row builders config winners winner.path)) (put.done ++ next.winner ∷ []) next.others) ∙ ap (puts_of builders config winners) all_joined)
        (stopped_before seen may_leave clock left_at room faults old last stored (puts_of builders config winners put.done ++ puts_of builders config winners (next.winner ∷ [])) (puts_of builders config winners next.others)
        (stopped_behind seen may_leave clock left_at room faults db contents db' contents' old new last stored (puts_of builders config winners put.done) (puts_of builders config winners (next.winner ∷ [])) put.committed stopped))

  -- ---- all that are needed

  module _ (db : Db) (contents : List (Option Entry)) (db' : Db) (contents' : List (Option Entry)) (same : db' ≡ db) where
    pub ready_on : (store : D × D) (stored : Stored) → IsReady seen may_leave room db contents store stored → IsBeside db' contents' stored → IsReady seen may_leave room db' contents' store stored
    ready_on store stored ready beside = record {
      beside = beside;
      journal = subst (λ (db : Db). IsOf seen may_leave room db.journal store) (sym same) ready.journal;
      bounded = subst (λ (db : Db). db.journal.limit ≤ 2 ^ 32) (sym same) ready.bounded;
      unspent = ap (λ (db : Db). db.journal.spent) same ∙ ready.unspent;
      file = ready.file;
      durable = ready.durable;
    }

    pub are_to_put : (store : D × D) (stored : Stored) (needed : List NeededCreation) → IsReady seen may_leave room db contents store stored → AreQuiet builders config winners → IsBeside db' contents' stored
        → AreAll (IsNeeded builders config winners db' contents') needed (needed_sources builders config winners stored.tables)
        → ((winner : Winner) → Contains (sources config winners) winner → IsCreateInput (create_from builders config winners winner.path))
        → AreToPut builders config winners seen may_leave room db' contents' store stored needed (needed_sources builders config winners stored.tables)
    are_to_put store stored needed ready quiet beside each typed = record {
      ready = ready_on store stored ready beside;
      quiet = quiet;
      each = each;
      are = λ winner has. (Contains-filtered (λ winner. not (creation_stands builders config winners stored.tables winner.path)) (sources config winners) winner has).0;
      typed = typed;
    }

    pub committed_from : (db'' : Db) (contents'' : List (Option Entry)) (old new : D × D) (stored : Stored) (given : List Whole) → StayHeld db contents db' contents'
        → HasCommitted seen may_leave clock left_at room faults db' contents' db'' contents'' old new stored given → HasCommitted seen may_leave clock left_at room faults db contents db'' contents'' old new stored given
    committed_from db'' contents'' old new stored given stay is = record {
      commits = is.commits;
      told = is.told;
      ready = is.ready;
      stay = λ n x held. is.stay n x (stay n x held);
      limit = is.limit ∙ ap (λ (db : Db). db.journal.limit) same;
    }
