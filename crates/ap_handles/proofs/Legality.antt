-- Legal histories, and how a longer one is legal.
use Rattle.std.proofs.Common.{◌≡◌, ◌≢◌, ℕ, zero, suc, ◌+◌, ◌<◌, ◌≤◌, List, [], ◌∷◌, ◌++◌, length, Bool, false, Option, Some, None, refl, sym, ap, ◌∙◌, subst, arith, append_assoc, length-append, ne_eqb, eq-eqb, cond}
use Rattle.std.proofs.lemmas.List.{append-nil}
use Rattle.std.proofs.lemmas.Option.{slice_get_within}
use Rattle.std.specs.Prelude.{slice_get}
use Rattle.ap_turn.specs.declared.held.Given.{Given}
use Rattle.ap_turn.specs.Views.{entries_of}
use Rattle.ap_handles.specs.declared.entry.HallEntry.{HallEntry}
use Rattle.ap_handles.specs.declared.call.Call.{Call}
use Rattle.ap_handles.specs.declared.call.Call.TheVariants as call
use Rattle.ap_handles.specs.Legal.{is_release, is_released, Gave, Replies, LegalAfter}

-- one more entry behind a legal history
pub legal_more : (before log : List (Given Call)) (g : Given Call) → LegalAfter before log → Replies (before ++ log) g.by g.entry → LegalAfter before (log ++ g ∷ [])
legal_more before [] g l r = (subst (λ h. Replies h g.by g.entry) (append-nil before) r, tt)
legal_more before (x ∷ xs) g l r = (l.0, legal_more (before ++ x ∷ []) xs g l.1 (subst (λ h. Replies h g.by g.entry) (sym (append_assoc before (x ∷ []) xs)) r))

-- the two parts of a legal history
pub legal_parts : (before xs ys : List (Given Call)) → LegalAfter before (xs ++ ys) → LegalAfter before xs × LegalAfter (before ++ xs) ys
legal_parts before [] ys l = (tt, subst (λ h. LegalAfter h ys) (sym (append-nil before)) l)
legal_parts before (x ∷ xs) ys l = let parts = legal_parts (before ++ x ∷ []) xs ys l.1 in ((l.0, parts.0), subst (λ h. LegalAfter h ys) (append_assoc before (x ∷ []) xs) parts.1)

-- what holds of the empty history, and of each legal one with one entry more, holds of all legal ones
pub legal_induction : (P : List (Given Call) → Type 0) → ((log : List (Given Call)) (g : Given Call) → P log → Replies log g.by g.entry → P (log ++ g ∷ []))
    → (before log : List (Given Call)) → P before → LegalAfter before log → P (before ++ log)
legal_induction P step before [] p l = subst P (sym (append-nil before)) p
legal_induction P step before (g ∷ more) p l = subst P (append_assoc before (g ∷ []) more) (legal_induction P step (before ++ g ∷ []) more (step before g p l.0) l.1)

-- what was given at a place is still there in a longer history
pub slice_get_longer : (xs ys : List (Given Call)) (k : ℕ) (g : Given Call) → slice_get xs k ≡ Some g → slice_get (xs ++ ys) k ≡ Some g
slice_get_longer [] ys k g e = absurd (cc e)
slice_get_longer (x ∷ xs) ys zero g e = e
slice_get_longer (x ∷ xs) ys (suc k) g e = slice_get_longer xs ys k g e

pub gave_longer : (xs ys : List (Given Call)) (by place : ℕ) (e : HallEntry) → Gave xs by place e → Gave (xs ++ ys) by place e
gave_longer xs ys by place e g = (g.0, g.1, slice_get_longer xs ys place _ g.2)

-- the seat of an entry, if there is one
abbrev seat_of : Option (Given Call) → ℕ
seat_of (Some g) = g.by
seat_of None = 0

-- one seat alone was given what stands at a place
pub gave_one : (xs : List (Given Call)) (by by' place : ℕ) (e e' : HallEntry) → Gave xs by place e → Gave xs by' place e' → by ≡ by'
gave_one xs by by' place e e' g g' = ap seat_of (sym g.2 ∙ g'.2)

-- no Release names a place that isn't in the history yet
pub released_below : (before log : List (Given Call)) → LegalAfter before log → (place : ℕ) → length (before ++ log) ≤ place → is_released place log ≡ false
released_below before [] l place far = refl
released_below before (g ∷ more) l place far =
    rw (not_named g.entry l.0) (released_below (before ++ g ∷ []) more l.1 place (subst (λ h. length h ≤ place) (sym (append_assoc before (g ∷ []) more)) far))
  where
    not_named : (c : Call) → Replies before g.by c → is_release place c ≡ false
    not_named (call.Publish entries n) r = refl
    not_named (call.Acquire platform id reply) r = refl
    not_named (call.Release other) r =
        let below : other < length before = slice_get_within before other _ r.0.1.2 in
        let all : length (before ++ g ∷ more) ≡ length before + length (g ∷ more) = length-append before (g ∷ more) in
        ne_eqb other place (λ same. omega (arith, same, below, all, far))
    not_named (call.Ask n) r = refl
    not_named (call.Status s) r = refl
    not_named call.Skip r = refl

-- a seat's handle is released by that seat alone
pub released_by_own : (before log : List (Given Call)) → LegalAfter before log → (by place : ℕ) (e : HallEntry) → Gave before by place e → entries_of by log ≡ [] → is_released place log ≡ false
released_by_own before [] l by place e gave none = refl
released_by_own before (g ∷ more) l by place e gave none =
    let other : g.by ≢ by = first_else by g more none in
    rw (not_named g.entry l.0 other) (released_by_own (before ++ g ∷ []) more l.1 by place e (gave_longer before (g ∷ []) by place e gave) (rest_none by g more other none))
  where
    first_else : (by : ℕ) (g : Given Call) (more : List (Given Call)) → entries_of by (g ∷ more) ≡ [] → g.by ≢ by
    first_else by g more none same = absurd (cc (ap (λ (b : Bool). cond b (g ∷ entries_of by more) (entries_of by more)) (sym (eq-eqb g.by by same)) ∙ none))

    rest_none : (by : ℕ) (g : Given Call) (more : List (Given Call)) → g.by ≢ by → entries_of by (g ∷ more) ≡ [] → entries_of by more ≡ []
    rest_none by g more other none = ap (λ (b : Bool). cond b (g ∷ entries_of by more) (entries_of by more)) (sym (ne_eqb g.by by other)) ∙ none

    not_named : (c : Call) → Replies before g.by c → g.by ≢ by → is_release place c ≡ false
    not_named (call.Publish entries n) r other = refl
    not_named (call.Acquire platform id reply) r other = refl
    not_named (call.Release at) r other = ne_eqb at place (λ same. other (gave_one before g.by by place r.0.0 e (subst (λ k. Gave before g.by k r.0.0) same r.0.1) gave))
    not_named (call.Ask n) r other = refl
    not_named (call.Status s) r other = refl
    not_named call.Skip r other = refl
