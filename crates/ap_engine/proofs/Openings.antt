-- An opening and the commits behind it are one run.
use Rattle.std.proofs.Common.{◌≡◌, ℕ, ◌⊎◌, inl, inr, cond, List, [], Option, Ok, Err, refl, sym, ◌∙◌, ap, arith}
use Rattle.std.specs.Prelude.{IfSome}
use Rattle.ap_disk.specs.Calls.{TellsAs}
use Rattle.ap_journal.specs.Between.{rests_on}
use Rattle.ap_journal.specs.Moments.{Opens}
use Rattle.ap_journal.specs.Records.{standing, has_bad_header, IsSameStore}
use Rattle.ap_journal.specs.Told.{two}
use Rattle.ap_db.specs.Changes.{Whole}
use Rattle.ap_db.specs.Stored.{Stored, nothing_stored, after_payloads, stored_in}
use Rattle.ap_engine.specs.Ledgers.{IsAbout, Commits, RunsOn}
use Rattle.ap_engine.proofs.Exits.{started, started_alone}
use Rattle.ap_engine.proofs.Following.{none_committed, clock as at_clocks, clocks as at_all_clocks, told_back}

-- files with the same records under as good a header stand for the same
pub same_store_stored : (file c : List ℕ) (stored : Stored) → IsSameStore file c → stored_in file ≡ Ok stored → stored_in c ≡ Ok stored
unfolding stored_in
same_store_stored file c stored same is =
    ap (λ bad. cond bad (Err (record { place = 0; offset = 0 })) (after_payloads 1 nothing_stored (standing c))) same.header
    ∙ ap (λ payloads. cond (has_bad_header file) (Err (record { place = 0; offset = 0 })) (after_payloads 1 nothing_stored payloads)) same.same ∙ is

module _ {D : Type 0} (seen : D → Option (List ℕ)) (may_leave : D → List ℕ → Type 0) (clock : D → Option ℕ) (left_at : D → ℕ → List ℕ → Type 0) (room faults : D → ℕ)
    (old mid : D × D) (stored : Stored) (opens : Opens seen may_leave clock left_at room faults old mid (may_leave old.0) (λ c. IfSome (seen old.0) (λ file. IsSameStore file c)))
    (stands : IfSome (seen old.0) (λ file. stored_in file ≡ Ok stored)) where
  -- no commit had begun
  at_first : (given : List Whole) (c : List ℕ) → IfSome (seen old.0) (λ file. IsSameStore file c) → IfSome (seen old.0) (λ _. IsAbout stored given 0 c)
  at_first given c same = two (seen old.0) (λ file. IsSameStore file c) (λ file. stored_in file ≡ Ok stored) (λ _. IsAbout stored given 0 c) same stands
      (λ file s is. inl (same_store_stored file c stored s is ∙ ap Ok (sym (none_committed stored))))

  -- commits behind an opening
  pub runs_on : (new : D × D) (given : List Whole) (answered : ℕ) → TellsAs (seen old.0) (seen mid.0) (λ _ _. Unit {0})
      → Commits seen may_leave clock left_at room faults mid new stored given answered → RunsOn seen may_leave clock left_at room faults old new stored given answered
  runs_on new given answered telling commits = record {
    lawful = commits.lawful;
    counted = commits.counted;
    moments = at_all_clocks (clock old.0) (clock mid.0) (clock new.0) _ _ _ opens.moments commits.moments
        (λ was at now one two. started was at now (left_at old.0) (left_at mid.0) (left_at new.0) (may_leave old.0) (λ c. IfSome (seen old.0) (λ file. IsSameStore file c))
        (λ count c. IfSome (seen old.0) (λ _. IsAbout stored given count c)) (λ count c. IfSome (seen mid.0) (λ _. IsAbout stored given count c)) answered one two (at_first given) carried);
    crash = λ c left. inr (carried answered c (commits.crash c left));
    same_room = commits.same_room ∙ opens.same_room;
    later = omega (arith, opens.later, commits.later);
    other = rests_on seen may_leave clock left_at room faults old.1 mid.1 new.1 opens.other commits.other;
  }
    where
      carried : (count : ℕ) (c : List ℕ) → IfSome (seen mid.0) (λ _. IsAbout stored given count c) → IfSome (seen old.0) (λ _. IsAbout stored given count c)
      carried count c is = told_back (seen old.0) (seen mid.0) (IsAbout stored given count c) (IsAbout stored given count c) telling (λ about. about) is

  -- an opening alone
  pub opens_alone : RunsOn seen may_leave clock left_at room faults old mid stored [] 0
  opens_alone = record {
    lawful = tt;
    counted = inl refl;
    moments = at_clocks (clock old.0) (clock mid.0) _ _ opens.moments
        (λ was now one. started_alone was now (left_at old.0) (left_at mid.0) (may_leave old.0) (λ c. IfSome (seen old.0) (λ file. IsSameStore file c))
        (λ count c. IfSome (seen old.0) (λ _. IsAbout stored [] count c)) one (at_first []));
    crash = λ c left. either c (opens.crash c left);
    same_room = opens.same_room;
    later = opens.later;
    other = opens.other;
  }
    where
      either : (c : List ℕ) → may_leave old.0 c ⊎ IfSome (seen old.0) (λ file. IsSameStore file c) → may_leave old.0 c ⊎ IfSome (seen old.0) (λ _. IsAbout stored [] 0 c)
      either c (inl before) = inl before
      either c (inr same) = inr (at_first [] c same)
