-- Live things by their numbers, and by what they are.
use Rattle.std.proofs.Common.{◌≡◌, ◌<◌, ◌≤◌, ◌==◌, ℕ, Bool, true, false, not, cond, List, [], ◌∷◌, Some, refl, sym, ◌∙◌, ap, subst, arith, inl, inr, filter, find, option_map}
use Rattle.std.proofs.lemmas.Bool.Decides.{Decides-eqb}
use Rattle.ap_content.specs.Things.{Thing}
use Rattle.ap_content.specs.declared.node.Number.{Number}
use Rattle.ap_db.specs.Stored.{Live, Stored, values, kids_of_thing, thing_at}
use Rattle.ap_db.specs.States.{Falls}
use Rattle.ap_db.specs.Members.{Has, AreIn, in_map, from_map, in_filter, from_filter, found_in}
use Rattle.ap_db.specs.Options.{from_map_some}
use Rattle.ap_db.specs.WellStored.{AreBuilt, things_of}

pub equal_numbers : (m n : ℕ) → m ≡ n → m == n ≡ true
equal_numbers m n e = (Decides-eqb m n).1 e

pub number_is : (m n : ℕ) → m == n ≡ true → m ≡ n
number_is m n e = (Decides-eqb m n).0 e

pub other_number : (m n : ℕ) → (m ≡ n → ⊥) → m == n ≡ false
other_number m n apart = step (m == n) refl
  where
    step : (b : Bool) → m == n ≡ b → m == n ≡ false
    step true e = absurd (apart (number_is m n e))
    step false e = e

-- ---- falling numbers

pub falls_below : (top : ℕ) (lives : List Live) (live : Live) → Falls top lives → Has lives live → live.number < top
falls_below top [] live falls h = absurd h
falls_below top (first ∷ others) live falls (inl e) = subst (λ (l : Live). l.number < top) e falls.0
falls_below top (first ∷ others) live falls (inr h) = let below = falls_below first.number others live falls.1 h in omega (arith, below, falls.0)

pub falls_more : (low high : ℕ) (lives : List Live) → low ≤ high → Falls low lives → Falls high lives
falls_more low high [] le falls = tt
falls_more low high (first ∷ others) le falls = (omega (arith, le, falls.0), falls.1)

pub falls_filter : (p : Live → Bool) (top : ℕ) (lives : List Live) → Falls top lives → Falls top (filter p lives)
falls_filter p top [] falls = tt
falls_filter p top (first ∷ others) falls = step (p first) (falls_filter p first.number others falls.1)
  where
    step : (b : Bool) → Falls first.number (filter p others) → Falls top (cond b (first ∷ filter p others) (filter p others))
    step true rest = (falls.0, rest)
    step false rest = falls_more first.number top (filter p others) (omega (arith, falls.0)) rest

-- a number is that of one live thing
pub one_number : (top : ℕ) (lives : List Live) (a b : Live) → Falls top lives → Has lives a → Has lives b → a.number ≡ b.number → a ≡ b
one_number top [] a b falls ha hb e = absurd ha
one_number top (first ∷ others) a b falls (inl ea) (inl eb) e = sym ea ∙ eb
one_number top (first ∷ others) a b falls (inl ea) (inr hb) e =
    let below = falls_below first.number others b falls.1 hb in
    let number : first.number ≡ b.number = ap (λ (l : Live). l.number) ea ∙ e in
    absurd (omega (arith, below, number))
one_number top (first ∷ others) a b falls (inr ha) (inl eb) e =
    let below = falls_below first.number others a falls.1 ha in
    let number : first.number ≡ a.number = ap (λ (l : Live). l.number) eb ∙ sym e in
    absurd (omega (arith, below, number))
one_number top (first ∷ others) a b falls (inr ha) (inr hb) e = one_number first.number others a b falls.1 ha hb e

-- a live thing is found by its number
pub found_by_number : (top : ℕ) (lives : List Live) (live : Live) → Falls top lives → Has lives live → find (λ l. l.number == live.number) lives ≡ Some live
found_by_number top [] live falls h = absurd h
found_by_number top (first ∷ others) live falls (inl e) =
    ap (λ b. cond b (Some first) (find (λ l. l.number == live.number) others)) (equal_numbers first.number live.number (ap (λ (l : Live). l.number) e)) ∙ ap (λ l. Some l) e
found_by_number top (first ∷ others) live falls (inr h) =
    let below = falls_below first.number others live falls.1 h in
    ap (λ b. cond b (Some first) (find (λ l. l.number == live.number) others)) (other_number first.number live.number (λ e. absurd (omega (arith, below, e))))
    ∙ found_by_number first.number others live falls.1 h

-- and nothing is found under a number that none has
pub gone_by_number : (n : ℕ) (lives : List Live) → ((live : Live) → Has lives live → live.number ≡ n → ⊥) → filter (λ l. not (l.number == n)) lives ≡ lives
gone_by_number n [] none = refl
gone_by_number n (first ∷ others) none =
    ap (λ b. cond (not b) (first ∷ filter (λ l. not (l.number == n)) others) (filter (λ l. not (l.number == n)) others)) (other_number first.number n (none first (inl refl)))
    ∙ ap (λ l. first ∷ l) (gone_by_number n others (λ live h. none live (inr h)))

-- ---- what a number gives

pub live_of : (stored : Stored) (n : Number) (x : Thing) → thing_at stored n ≡ Some x → (live : Live) × Has stored.live live × (live.number ≡ n.0) × (live.value ≡ x)
live_of stored n x e =
    let found = from_map_some (λ (live : Live). live.value) (find (λ live. live.number == n.0) stored.live) x e in
    let there = found_in (λ (live : Live). live.number == n.0) stored.live found.0 found.1 in
    (found.0, there.0, number_is found.0.number n.0 there.1, found.2)

pub value_of : (stored : Stored) (n : Number) (x : Thing) → thing_at stored n ≡ Some x → Has (values stored) x
value_of stored n x e =
    let live = live_of stored n x e in
    subst (Has (values stored)) live.3 (in_map (λ (live : Live). live.value) stored.live live.0 live.1)

pub at_number : (top : ℕ) (stored : Stored) (live : Live) → Falls top stored.live → Has stored.live live → thing_at stored (record { 0 = live.number }) ≡ Some live.value
at_number top stored live falls h = ap (option_map (λ (live : Live). live.value)) (found_by_number top stored.live live falls h)

-- ---- things that are built on others

pub kids_live : (lives : List Live) (live : Live) → AreBuilt lives → Has lives live → AreIn (kids_of_thing live.value) (things_of lives)
kids_live [] live built h k m = absurd h
kids_live (first ∷ others) live built (inl e) k m = inr (built.0.kids k (subst (λ (l : Live). Has (kids_of_thing l.value) k) (sym e) m))
kids_live (first ∷ others) live built (inr h) k m = inr (kids_live others live built.1 h k m)

-- a thing lives once
pub one_value : (lives : List Live) (a b : Live) → AreBuilt lives → Has lives a → Has lives b → a.value ≡ b.value → a ≡ b
one_value [] a b built ha hb e = absurd ha
one_value (first ∷ others) a b built (inl ea) (inl eb) e = sym ea ∙ eb
one_value (first ∷ others) a b built (inl ea) (inr hb) e =
    let value : b.value ≡ first.value = sym (ap (λ (l : Live). l.value) ea ∙ e) in
    absurd (built.0.fresh (subst (Has (things_of others)) value (in_map (λ (l : Live). l.value) others b hb)))
one_value (first ∷ others) a b built (inr ha) (inl eb) e =
    let value : a.value ≡ first.value = e ∙ sym (ap (λ (l : Live). l.value) eb) in
    absurd (built.0.fresh (subst (Has (things_of others)) value (in_map (λ (l : Live). l.value) others a ha)))
one_value (first ∷ others) a b built (inr ha) (inr hb) e = one_value others a b built.1 ha hb e

-- the kids of those that stay do stay
pub record KeepsKids (p : Live → Bool) (lives : List Live) : Type 0 where
  pub stay : (live : Live) → Has lives live → p live ≡ true → (kid : Live) → Has lives kid → Has (kids_of_thing live.value) kid.value → p kid ≡ true

pub built_filter : (p : Live → Bool) (lives : List Live) → KeepsKids p lives → AreBuilt lives → AreBuilt (filter p lives)
built_filter p [] keeps built = tt
built_filter p (first ∷ others) keeps built =
    step (p first) refl (built_filter p others (record { stay = λ live h stays kid m is. keeps.stay live (inr h) stays kid (inr m) is }) built.1)
  where
    fewer : (x : Thing) → Has (things_of (filter p others)) x → Has (things_of others) x
    fewer x h =
        let live = from_map (λ (l : Live). l.value) (filter p others) x h in
        subst (Has (things_of others)) live.2 (in_map (λ (l : Live). l.value) others live.0 (from_filter p others live.0 live.1).0)

    kids_stay : p first ≡ true → (k : Thing) → Has (kids_of_thing first.value) k → Has (things_of (filter p others)) k
    kids_stay stays k m =
        let live = from_map (λ (l : Live). l.value) others k (built.0.kids k m) in
        let kid = subst (Has (kids_of_thing first.value)) (sym live.2) m in
        subst (Has (things_of (filter p others))) live.2 (in_map (λ (l : Live). l.value) (filter p others) live.0 (in_filter p others live.0 live.1 (keeps.stay first (inl refl) stays live.0 (inr live.1) kid)))

    step : (b : Bool) → p first ≡ b → AreBuilt (filter p others) → AreBuilt (cond b (first ∷ filter p others) (filter p others))
    step true is rest = (record { formed = built.0.formed; fresh = λ h. built.0.fresh (fewer first.value h); kids = kids_stay is }, rest)
    step false is rest = rest
