-- Openings of a store that go on with runs of calls, and what its file stands for.
use Rattle.std.proofs.Common.{◌≡◌, ℕ, ◌+◌, ◌≤◌, ◌<◌, ◌⊎◌, inl, inr, Bool, true, false, not, ◌&&◌, List, Option, Some, None, Ok, Err, refl, sym, ◌∙◌, ap, arith}
use Rattle.std.specs.Prelude.{Result, IfSome, IfErr}
use Rattle.std.specs.Result.{IsErr, IsErrAnd}
use Rattle.std.proofs.lemmas.Bool.{cases_lt}
use Rattle.ap_disk.specs.Calls.{TellsAs}
use Rattle.ap_disk.specs.Crashes.{Only}
use Rattle.ap_journal.specs.Moments.{Elapsed, Began, BetweenClocks, Steps, Opens}
use Rattle.ap_journal.specs.Records.{standing, has_bad_header, is_some_record, is_marked, IsAtRest, IsSameStore}
use Rattle.ap_journal.specs.State.{State, IsFileOf}
use Rattle.ap_journal.specs.declared.fault.JournalFault.{JournalFault}
use Rattle.ap_journal.specs.declared.fault.JournalFault.TheVariants as journal
use Rattle.ap_journal.specs.Between.{rests_on}
use Rattle.ap_journal.specs.Told.{one, two, back}
use Rattle.ap_db.specs.Stored.{Stored, nothing_stored, after_payloads, stored_in}
use Rattle.ap_db.specs.Opened.{after_records, HasBadRecord, IsBadStore}
use Rattle.ap_db.proofs.RecordByRecord.{with_header, without_header}
use Rattle.ap_db.specs.declared.fault.DbFault.{DbFault}
use Rattle.ap_db.specs.declared.fault.DbFault.TheVariants.{BadStore}
use Rattle.ap_db.specs.Faults.{db_fault_of}

joined : (was mid now : ℕ) (before during after : ℕ → List ℕ → Type 0) (First P Q : List ℕ → Type 0) → Began before during First P was mid → Elapsed during after Q mid now → ((c : List ℕ) → Q c → P c) → Began before after First P was now
joined was mid now before during after First P Q one two in_p = record {
  later = omega (arith, one.later, two.later);
  earlier = λ t c le left. one.earlier t c le (two.earlier t c (omega (arith, le, one.later)) left);
  kept = λ t c le left. two.kept t c (omega (arith, le, one.later)) (one.kept t c le left);
  first = λ c left. one.first c (two.earlier (was + 1) c (omega (arith, one.later)) left);
  since = λ t c lt le left. either t c lt le left (cases_lt mid t);
}
  where
    either : (t : ℕ) (c : List ℕ) → was + 1 < t → t ≤ now → after t c → (mid < t) ⊎ (t ≤ mid) → P c
    either t c lt le left (inl behind) = in_p c (two.since t c behind le left)
    either t c lt le left (inr before) = one.since t c lt before (two.earlier t c before left)

between : (old mid new : Option ℕ) (before during after : ℕ → List ℕ → Type 0) (First P Q : List ℕ → Type 0) → BetweenClocks old mid (Began before during First P) → BetweenClocks mid new (Elapsed during after Q) → ((c : List ℕ) → Q c → P c)
    → BetweenClocks old new (Began before after First P)
between None None None before during after First P Q one two in_p = tt
between None (Some mid) None before during after First P Q one two in_p = tt
between (Some was) None None before during after First P Q one two in_p = tt
between (Some was) (Some mid) None before during after First P Q one two in_p = tt
between None None (Some now) before during after First P Q one two in_p = two
between None (Some mid) (Some now) before during after First P Q one two in_p = one
between (Some was) None (Some now) before during after First P Q one two in_p = absurd two
between (Some was) (Some mid) (Some now) before during after First P Q one two in_p = joined was mid now before during after First P Q one two in_p

module _ {D : Type 0} (seen : D → Option (List ℕ)) (may_leave : D → List ℕ → Type 0) (clock : D → Option ℕ) (left_at : D → ℕ → List ℕ → Type 0) (room faults : D → ℕ) where
  -- an opening, and a run behind it
  pub opens_on : (old mid new : D × D) (First P Q : List ℕ → Type 0) → Opens seen may_leave clock left_at room faults old mid First P → Steps seen may_leave clock left_at room faults mid new Q → ((c : List ℕ) → Q c → P c)
      → Opens seen may_leave clock left_at room faults old new First P
  opens_on old mid new First P Q one two in_p = record {
    moments = between (clock old.0) (clock mid.0) (clock new.0) (left_at old.0) (left_at mid.0) (left_at new.0) First P Q one.moments two.moments in_p;
    crash = λ c left. inr (in_p c (two.crash c left));
    same_room = two.same_room ∙ one.same_room;
    later = omega (arith, one.later, two.later);
    other = rests_on seen may_leave clock left_at room faults old.1 mid.1 new.1 one.other two.other;
  }

-- ---- files

never_bad : (some marked : Bool) → marked ≡ true → (some && not marked) ≡ false
never_bad true true e = refl
never_bad false true e = refl
never_bad some false e = absurd (cc e)

pub good_at_rest : (file : List ℕ) → IsAtRest file → has_bad_header file ≡ false
good_at_rest file rests = never_bad (is_some_record (standing file)) (is_marked file) rests.marked

abbrev pub IsGood : List ℕ → Type 0
IsGood file = has_bad_header file ≡ false

abbrev pub SameRecords : List ℕ → List ℕ → Type 0
SameRecords old new = standing new ≡ standing old

pub good_of : (told : Option (List ℕ)) (journal : State) → IfSome told (IsFileOf journal) → IfSome told IsGood
good_of None journal is = tt
good_of (Some file) journal is = good_at_rest file is.rests

-- what a crash may leave is the same store
pub left_same : (old mid : Option (List ℕ)) (may_leave : List ℕ → Type 0) → IfSome old IsGood → TellsAs old mid SameRecords → IfSome mid IsGood → Only mid may_leave → (c : List ℕ) → may_leave c → IfSome old (λ file. IsSameStore file c)
left_same old mid may_leave good same now only c left =
    back old mid IsGood SameRecords (λ f. IsGood f × (c ≡ f)) (λ file. IsSameStore file c) good same
    (two mid IsGood (λ bytes. (c : List ℕ) → may_leave c → c ≡ bytes) (λ f. IsGood f × (c ≡ f)) now only (λ f g o. (g, o c left)))
    (λ x y g s h. record { same = ap standing h.1 ∙ s; header = ap has_bad_header h.1 ∙ h.0 ∙ sym g })

-- it stands for the same
pub same_stored : (old mid : Option (List ℕ)) → IfSome old IsGood → TellsAs old mid SameRecords → IfSome mid IsGood → TellsAs old mid (λ old new. stored_in new ≡ stored_in old)
same_stored None None good same now = tt
same_stored None (Some new) good same now = absurd same
same_stored (Some old) None good same now = absurd same
same_stored (Some old) (Some new) good same now = with_header new (stored_in old) now (ap (after_payloads 1 nothing_stored) same ∙ sym (with_header old (after_records old) good refl))

-- all its records were read
pub reads_file : (told : Option (List ℕ)) (stored : Stored) → IfSome told IsGood → IfSome told (λ file. after_records file ≡ Ok stored) → IfSome told (λ file. stored_in file ≡ Ok stored)
reads_file None stored good read = tt
reads_file (Some file) stored good read = with_header file (Ok stored) good read

-- it was bad before
pub was_bad : (old mid : Option (List ℕ)) (place offset : ℕ) → IfSome old IsGood → TellsAs old mid SameRecords → IfSome mid (HasBadRecord place offset) → IfSome old (IsBadStore place offset)
was_bad old mid place offset good same bad =
    back old mid IsGood SameRecords (HasBadRecord place offset) (IsBadStore place offset) good same bad
    (λ x y g s b. with_header x (Err (record { place = place; offset = offset })) g (ap (after_payloads 1 nothing_stored) (sym s) ∙ b))

-- ---- a bad header

bad_header : (stop : JournalFault) (told : Option (List ℕ)) → (stop ≡ journal.BadHeader → IfSome told (λ old. has_bad_header old ≡ true)) → (place offset : ℕ) → db_fault_of stop ≡ BadStore place offset → IfSome told (IsBadStore place offset)
bad_header journal.OutOfMemory told bad place offset e = absurd (cc e)
bad_header journal.DiskFault told bad place offset e = absurd (cc e)
bad_header (journal.Full length wanted) told bad place offset e = absurd (cc e)
bad_header journal.Spent told bad place offset e = absurd (cc e)
bad_header journal.BadHeader told bad place offset e =
    let at : 0 ≡ place = cc e in
    let from : 0 ≡ offset = cc e in
    one told (λ old. has_bad_header old ≡ true) (IsBadStore place offset) (bad refl)
    (λ old is. without_header old is ∙ ap (λ (k : ℕ). Err (record { place = k; offset = 0 })) at ∙ ap (λ (k : ℕ). Err (record { place = place; offset = k })) from)

pub from_header : {T : Type 0} (result : Result T DbFault) (stop : JournalFault) (told : Option (List ℕ)) → IsErr result × IsErrAnd result (λ e. e ≡ db_fault_of stop) → (stop ≡ journal.BadHeader → IfSome told (λ old. has_bad_header old ≡ true))
    → IfErr result (λ stop. (place offset : ℕ) → stop ≡ BadStore place offset → IfSome told (IsBadStore place offset))
from_header (Ok x) stop told is bad = tt
from_header (Err e) stop told is bad = λ place offset same. bad_header stop told bad place offset (sym is.1 ∙ same)
