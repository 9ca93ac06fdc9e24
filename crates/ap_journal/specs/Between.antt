-- How runs of calls on a pair go on from one to the next.
use Rattle.std.proofs.Common.{◌≡◌, ℕ, ◌+◌, ◌≤◌, ◌<◌, ◌⊎◌, inl, inr, List, Option, Some, None, refl, sym, ◌∙◌, subst, arith}
use Rattle.std.proofs.lemmas.Bool.{cases_lt}
use Rattle.ap_disk.specs.declared.side.Side.TheVariants.{A}
use Rattle.ap_disk.specs.Clocks.{Ticks, Moments, EndsMoment}
use Rattle.ap_disk.specs.Sides.{Rested}
use Rattle.ap_journal.specs.Moments.{Elapsed, Began, BetweenClocks, Rests, Steps, Opens}

-- one call is one moment
elapsed : (was now : ℕ) (before after : ℕ → List ℕ → Type 0) (P : List ℕ → Type 0) → now ≡ was + 1 → EndsMoment now before after P → Elapsed before after P was now
elapsed was now before after P next ends = record {
  later = omega (arith, next);
  earlier = λ t c le left. ends.earlier t c (omega (arith, next, le)) left;
  kept = λ t c le left. ends.kept t c (omega (arith, next, le)) left;
  since = λ t c lt le left. ends.this c (subst (λ (t : ℕ). after t c) (omega (arith, next, lt, le)) left);
}

-- so it is between clocks
ticked : (old new : Option ℕ) (before after : ℕ → List ℕ → Type 0) (P : List ℕ → Type 0) → Ticks old new → Moments new before after P → BetweenClocks old new (Elapsed before after P)
ticked None None before after P ticks ends = tt
ticked (Some was) None before after P ticks ends = tt
ticked None (Some now) before after P ticks ends = ticks
ticked (Some was) (Some now) before after P ticks ends = elapsed was now before after P ticks ends

-- two runs are one
pub joined : (was mid now : ℕ) (before during after : ℕ → List ℕ → Type 0) (P Q R : List ℕ → Type 0) → Elapsed before during P was mid → Elapsed during after Q mid now
    → ((c : List ℕ) → P c → R c) → ((c : List ℕ) → Q c → R c) → Elapsed before after R was now
joined was mid now before during after P Q R one two in_p in_q = record {
  later = omega (arith, one.later, two.later);
  earlier = λ t c le left. one.earlier t c le (two.earlier t c (omega (arith, le, one.later)) left);
  kept = λ t c le left. two.kept t c (omega (arith, le, one.later)) (one.kept t c le left);
  since = λ t c lt le left. either t c lt le left (cases_lt mid t);
}
  where
    either : (t : ℕ) (c : List ℕ) → was < t → t ≤ now → after t c → (mid < t) ⊎ (t ≤ mid) → R c
    either t c lt le left (inl behind) = in_q c (two.since t c behind le left)
    either t c lt le left (inr before) = in_p c (one.since t c lt before (two.earlier t c before left))

between : (old mid new : Option ℕ) (before during after : ℕ → List ℕ → Type 0) (P Q R : List ℕ → Type 0) → BetweenClocks old mid (Elapsed before during P) → BetweenClocks mid new (Elapsed during after Q)
    → ((c : List ℕ) → P c → R c) → ((c : List ℕ) → Q c → R c) → BetweenClocks old new (Elapsed before after R)
between None None None before during after P Q R one two in_p in_q = tt
between None (Some mid) None before during after P Q R one two in_p in_q = tt
between (Some was) None None before during after P Q R one two in_p in_q = tt
between (Some was) (Some mid) None before during after P Q R one two in_p in_q = tt
between None None (Some now) before during after P Q R one two in_p in_q = two
between None (Some mid) (Some now) before during after P Q R one two in_p in_q = one
between (Some was) None (Some now) before during after P Q R one two in_p in_q = absurd two
between (Some was) (Some mid) (Some now) before during after P Q R one two in_p in_q = joined was mid now before during after P Q R one two in_p in_q

-- a first call and a run behind it
begun : (was mid now : ℕ) (before during after : ℕ → List ℕ → Type 0) (First P : List ℕ → Type 0) → mid ≡ was + 1 → EndsMoment mid before during First → Elapsed during after P mid now
    → Began before after First P was now
begun was mid now before during after First P next one two = record {
  later = omega (arith, next, two.later);
  earlier = λ t c le left. one.earlier t c (omega (arith, next, le)) (two.earlier t c (omega (arith, next, le)) left);
  kept = λ t c le left. two.kept t c (omega (arith, next, le)) (one.kept t c (omega (arith, next, le)) left);
  first = λ c left. one.this c (two.earlier mid c (omega arith) (subst (λ (t : ℕ). after t c) (sym next) left));
  since = λ t c lt le left. two.since t c (omega (arith, next, lt)) le left;
}

begins : (old mid new : Option ℕ) (before during after : ℕ → List ℕ → Type 0) (First P : List ℕ → Type 0) → Ticks old mid → Moments mid before during First → BetweenClocks mid new (Elapsed during after P)
    → BetweenClocks old new (Began before after First P)
begins None None None before during after First P ticks one two = tt
begins None (Some mid) None before during after First P ticks one two = tt
begins (Some was) None None before during after First P ticks one two = tt
begins (Some was) (Some mid) None before during after First P ticks one two = tt
begins None None (Some now) before during after First P ticks one two = two
begins None (Some mid) (Some now) before during after First P ticks one two = ticks
begins (Some was) None (Some now) before during after First P ticks one two = absurd two
begins (Some was) (Some mid) (Some now) before during after First P ticks one two = begun was mid now before during after First P ticks one two

still : (clock : Option ℕ) (images : ℕ → List ℕ → Type 0) (P : List ℕ → Type 0) → BetweenClocks clock clock (Elapsed images images P)
still None images P = tt
still (Some now) images P = record {
  later = omega arith;
  earlier = λ t c le left. left;
  kept = λ t c le left. left;
  since = λ t c lt le left. absurd (omega (arith, lt, le));
}

module _ {D : Type 0} (seen : D → Option (List ℕ)) (may_leave : D → List ℕ → Type 0) (clock : D → Option ℕ) (left_at : D → ℕ → List ℕ → Type 0) (room faults : D → ℕ) where
  -- the disk that isn't called
  rests : (old new : D × D) → Rested seen may_leave clock left_at room faults A old new → Rests seen may_leave clock left_at room faults old.1 new.1
  rests old new rested = record {
    same = rested.same;
    crash = rested.crash;
    moments = ticked (clock old.1) (clock new.1) (left_at old.1) (left_at new.1) (may_leave old.1) rested.time rested.moments;
    same_room = rested.same_room;
    same_faults = rested.same_faults;
  }

  pub rests_on : (old mid new : D) → Rests seen may_leave clock left_at room faults old mid → Rests seen may_leave clock left_at room faults mid new → Rests seen may_leave clock left_at room faults old new
  rests_on old mid new one two = record {
    same = two.same ∙ one.same;
    crash = λ c left. one.crash c (two.crash c left);
    moments = between (clock old) (clock mid) (clock new) (left_at old) (left_at mid) (left_at new) (may_leave old) (may_leave mid) (may_leave old) one.moments two.moments (λ c left. left) one.crash;
    same_room = two.same_room ∙ one.same_room;
    same_faults = two.same_faults ∙ one.same_faults;
  }

  -- one call on the first disk
  pub call : (old new : D × D) (P : List ℕ → Type 0) → Ticks (clock old.0) (clock new.0) → Moments (clock new.0) (left_at old.0) (left_at new.0) P → ((c : List ℕ) → may_leave new.0 c → P c)
      → room new.0 ≡ room old.0 → faults old.0 ≤ faults new.0 → Rested seen may_leave clock left_at room faults A old new → Steps seen may_leave clock left_at room faults old new P
  call old new P time moments crash same_room later other = record {
    moments = ticked (clock old.0) (clock new.0) (left_at old.0) (left_at new.0) P time moments;
    crash = crash;
    same_room = same_room;
    later = later;
    other = rests old new other;
  }

  pub rests_still : (old : D) → Rests seen may_leave clock left_at room faults old old
  rests_still old = record { same = refl; crash = λ c left. left; moments = still (clock old) (left_at old) (may_leave old); same_room = refl; same_faults = refl }

  -- no call at all
  pub stays : (old : D × D) (P : List ℕ → Type 0) → ((c : List ℕ) → may_leave old.0 c → P c) → Steps seen may_leave clock left_at room faults old old P
  stays old P in_p = record {
    moments = still (clock old.0) (left_at old.0) P;
    crash = in_p;
    same_room = refl;
    later = omega arith;
    other = rests_still old.1;
  }

  -- two runs are one
  pub and_on : (old mid new : D × D) (P Q R : List ℕ → Type 0) → Steps seen may_leave clock left_at room faults old mid P → Steps seen may_leave clock left_at room faults mid new Q
      → ((c : List ℕ) → P c → R c) → ((c : List ℕ) → Q c → R c) → Steps seen may_leave clock left_at room faults old new R
  and_on old mid new P Q R one two in_p in_q = record {
    moments = between (clock old.0) (clock mid.0) (clock new.0) (left_at old.0) (left_at mid.0) (left_at new.0) P Q R one.moments two.moments in_p in_q;
    crash = λ c left. in_q c (two.crash c left);
    same_room = two.same_room ∙ one.same_room;
    later = omega (arith, one.later, two.later);
    other = rests_on old.1 mid.1 new.1 one.other two.other;
  }

  -- a run is one with more images
  pub more : (old new : D × D) (P Q : List ℕ → Type 0) → Steps seen may_leave clock left_at room faults old new P → ((c : List ℕ) → P c → Q c) → Steps seen may_leave clock left_at room faults old new Q
  more old new P Q run in_q = record {
    moments = widened (clock old.0) (clock new.0) run.moments;
    crash = λ c left. in_q c (run.crash c left);
    same_room = run.same_room;
    later = run.later;
    other = run.other;
  }
    where
      widened : (was now : Option ℕ) → BetweenClocks was now (Elapsed (left_at old.0) (left_at new.0) P) → BetweenClocks was now (Elapsed (left_at old.0) (left_at new.0) Q)
      widened None None run = tt
      widened (Some was) None run = tt
      widened None (Some now) run = run
      widened (Some was) (Some now) run = record { later = run.later; earlier = run.earlier; kept = run.kept; since = λ t c lt le left. in_q c (run.since t c lt le left) }

  -- a first call and a run behind it
  pub opens : (old mid new : D × D) (First P : List ℕ → Type 0) → Ticks (clock old.0) (clock mid.0) → Moments (clock mid.0) (left_at old.0) (left_at mid.0) First
      → room mid.0 ≡ room old.0 → faults old.0 ≤ faults mid.0 → Rested seen may_leave clock left_at room faults A old mid → Steps seen may_leave clock left_at room faults mid new P
      → Opens seen may_leave clock left_at room faults old new First P
  opens old mid new First P time moments same_room later other run = record {
    moments = begins (clock old.0) (clock mid.0) (clock new.0) (left_at old.0) (left_at mid.0) (left_at new.0) First P time moments run.moments;
    crash = λ c left. inr (run.crash c left);
    same_room = run.same_room ∙ same_room;
    later = omega (arith, later, run.later);
    other = rests_on old.1 mid.1 new.1 (rests old mid other) run.other;
  }
