-- Each step of a seat keeps the rule, and tells what it is said to tell.
use Rattle.std.proofs.Common.{◌≡◌, ◌≢◌, ℕ, ◌+◌, ◌%◌, ◌^◌, ◌<◌, eqb, Bool, List, [], ◌∷◌, ◌++◌, length, get_or, set, if◌then◌else◌, Option, Some, inl, inr, ⊎_elim, refl, sym, ap, ◌∙◌, subst, arith, length-append, length-set, eq-eqb, ne_eqb}
use mathlib.Core.Logic.{dite}
use mathlib.Core.List.{IsPrefix}
use mathlib.Core.Option as maybe
use mathlib.Core.Option.{none, some, some-injective}
use native.Mathlib.Decide.{ℕ_discrete}
use lib.ListN.{get_elem?}
use lib.Seq.{set-get_or}
use prog.Atomic.{either}
use Rattle.atomic_table.specs.Table.{State, Me, step, keeps, takes, gives, put_back, rest, stepped, opening, Allows, Splits, Joins}
use Rattle.atomic_table.proofs.Lists.{at_set, set_here, set_else, set_again, at_longer}
use Rattle.ap_turn.specs.declared.held.Given.{Given}
use Rattle.ap_turn.specs.declared.rule.View.{View}
use Rattle.ap_turn.specs.declared.rule.Stage.{Stage}
use Rattle.ap_turn.specs.declared.rule.Stage.TheVariants.{New, Idle, Waiting, Holding, Joining, Spent}
use Rattle.ap_turn.specs.Views.{given, entries_of, longer, opening_view, split_view, joined_view, spent_view}
use Rattle.ap_turn.specs.Tickets.{SomeSeat, UnusedHaveNone, HasWhole, HasTurn, SlotStands, Knows, Tickets}
use Rattle.ap_turn.specs.Learned.{looked, drew, Served, called, passed, numbered, settled}
use Rattle.ap_turn.proofs.Prefixes.{prefix_self, prefix_more, at_only, at_one_more, at_below, no_entries, entries_between, entries_else, longer_prefix, longer_whole}

-- the ticket number that a stage has
abbrev ticket_of : Stage → ℕ
ticket_of (Waiting n) = n
ticket_of (Holding n) = n
ticket_of _ = 0

module _ {E : Type 0} where
  -- what holds of the new view of one seat, and of the views of the others
  seats_stay : (K : ℕ → View E → Type 0) (vs : List (View E)) (me : ℕ) (w : View E) → K me w → ((j : ℕ) (v : View E) → j ≢ me → get_elem? vs j ≡ some v → K j v)
      → (j : ℕ) (v : View E) → get_elem? (set vs me w) j ≡ some v → K j v
  seats_stay K vs me w mine others j v e = ⊎_elim (λ (t : (j ≡ me) × (w ≡ v)). subst (λ (x : ℕ × View E). K x.0 x.1) (λ i. (sym t.0 i, t.1 i)) mine)
      (λ (t : (j ≢ me) × (get_elem? vs j ≡ some v)). others j v t.0 t.1) (at_set vs me j w v e)

  -- some view still is of a kind, where the new view of one seat is if the old one was
  some_stays : (P : View E → Type 0) (vs : List (View E)) (me : ℕ) (u w : View E) → get_elem? vs me ≡ some u → (P u → P w) → SomeSeat P vs → SomeSeat P (set vs me w)
  some_stays P vs me u w at keep f = dite (ℕ_discrete f.0 me)
      (λ same. (me, w, set_here vs me w (at_below vs me u at), keep (subst P (some-injective f.1 u (sym f.2 ∙ (ap (get_elem? vs) same ∙ at))) f.3)))
      (λ other. (f.0, f.1, set_else vs me f.0 w other ∙ f.2, f.3))

  some_more : (P : View E → Type 0) (vs : List (View E)) (w : View E) → SomeSeat P vs → SomeSeat P (vs ++ w ∷ [])
  some_more P vs w f = (f.0, f.1, at_longer vs (w ∷ []) f.0 f.1 f.2, f.3)

  unused_stay : (log : List (Given E)) (vs : List (View E)) (me : ℕ) (w : View E) → UnusedHaveNone log vs → UnusedHaveNone log (set vs me w)
  unused_stay log vs me w f j past = let n : length (set vs me w) ≡ length vs = length-set vs me w in f j (omega arith)

  -- a seat that only waits, or not even that, hasn't the turn
  no_turn : (log : List (Given E)) (v : View E) (P : Type 0) → v.stage ≡ Idle → HasTurn log v → P
  no_turn log v P idle has = absurd (cc (idle, has))

  idle_whole : (log : List (Given E)) (v : View E) → v.stage ≡ Idle → HasWhole log v → v.seen ≡ log
  idle_whole log v idle f = ⊎_elim (λ a. a) (λ b. absurd (cc (idle, b.0))) f.1

  -- the other seats know the same when one more number is drawn
  others_drew : (log : List (Given E)) (ticket : ℕ) (by by' : ℕ → ℕ) (j : ℕ) (v : View E) → ((n : ℕ) → n < ticket → by' n ≡ by n) → (st : Stage) → Knows log ticket by j v st → Knows log (ticket + 1) by' j v st
  others_drew log ticket by by' j v same New k = k
  others_drew log ticket by by' j v same Idle k = k
  others_drew log ticket by by' j v same (Waiting n) k = let l = k.2.1 in (k.0, k.1, (k.2.0, omega arith, same n k.2.1 ∙ k.2.2))
  others_drew log ticket by by' j v same (Holding n) k = let l = k.2.1 in (k.0, k.1, (k.2.0, omega arith, same n k.2.1 ∙ k.2.2), k.3)
  others_drew log ticket by by' j v same Joining k = k
  others_drew log ticket by by' j v same Spent k = k

  -- the other seats know the same when the seat whose number is served adds an entry
  others_heard : (log : List (Given E)) (ticket : ℕ) (by : ℕ → ℕ) (me j : ℕ) (v : View E) (e : E) → j ≢ me → by (length log) ≡ me → (st : Stage) → Knows log ticket by j v st → Knows (log ++ given me e ∷ []) ticket by j v st
  others_heard log ticket by me j v e ne mine New k = (prefix_more v.seen log (given me e ∷ []) k.0, entries_else me j log e ne ∙ k.1, k.2)
  others_heard log ticket by me j v e ne mine Idle k = (prefix_more v.seen log (given me e ∷ []) k.0, (k.1.0, k.1.1 ∙ sym (entries_else me j log e ne)))
  others_heard log ticket by me j v e ne mine (Waiting n) k =
      let past : length log ≢ n = λ is. ne (sym k.2.2 ∙ (ap by (sym is) ∙ mine)) in
      let l = k.2.0 in
      let m : length (log ++ given me e ∷ []) ≡ length log + 1 = length-append log (given me e ∷ []) in
      (prefix_more v.seen log (given me e ∷ []) k.0, (k.1.0, k.1.1 ∙ sym (entries_else me j log e ne)), (omega arith, k.2.1, k.2.2))
  others_heard log ticket by me j v e ne mine (Holding n) k = absurd (ne (sym k.2.2 ∙ (ap by k.3.0 ∙ mine)))
  others_heard log ticket by me j v e ne mine Joining k = (prefix_more v.seen log (given me e ∷ []) k.0, (k.1.0, k.1.1 ∙ sym (entries_else me j log e ne)), prefix_more v.told log (given me e ∷ []) k.2)
  others_heard log ticket by me j v e ne mine Spent k = tt

module _ {V E : Type 0} (stands : V → List (Given E) → Type 0) where
  abbrev St : Type 0
  St = State (Option V) (View E)

  abbrev M : Type 0
  M = Me (Option V) (View E)

  abbrev Rule : St → Type 0
  Rule = Tickets stands

  slot_stays : (log : List (Given E)) (homes : List (maybe.Option (Option V))) (vs : List (View E)) (me : ℕ) (u w : View E) → get_elem? vs me ≡ some u → (HasTurn log u → HasTurn log w)
      → SlotStands log stands homes vs → SlotStands log stands homes (set vs me w)
  slot_stays log homes vs me u w at keep f = ⊎_elim (λ h. inl h) (λ (h : (homes ≡ none ∷ []) × SomeSeat (HasTurn log) vs). inr (h.0, some_stays (HasTurn log) vs me u w at keep h.1)) f

  serving_is : (s : St) (r : Rule s) → get_or s.words 0 0 ≡ length r.log
  serving_is s r = ap (λ (ws : List ℕ). get_or ws 0 0) r.counted.0

  ticket_is : (s : St) (r : Rule s) → get_or s.words 1 0 ≡ r.ticket
  ticket_is s r = ap (λ (ws : List ℕ). get_or ws 1 0) r.counted.0

  -- a step that changes no word and moves no slot
  unmoved : (s : St) (r : Rule s) (i me : ℕ) (cs : List (ℕ × Option V)) (u w : View E) → get_elem? s.views me ≡ some u → (HasWhole r.log u → HasWhole r.log w) → (HasTurn r.log u → HasTurn r.log w)
      → Knows r.log r.ticket r.drawn_by me w w.stage → Rule (stepped s i (get_or s.words i 0) me cs w keeps)
  unmoved s r i me cs u w at whole turn mine = subst (λ (ws : List ℕ). Rule record { words = ws; homes = s.homes; views = set s.views me w }) (sym (set-get_or s.words i 0)) record {
    log = r.log;
    ticket = r.ticket;
    drawn_by = r.drawn_by;
    counted = r.counted;
    each_seat = seats_stay (λ j v. Knows r.log r.ticket r.drawn_by j v v.stage) s.views me w mine (λ j v _. r.each_seat j v);
    whole = some_stays (HasWhole r.log) s.views me u w at whole r.whole;
    unused = unused_stay r.log s.views me w r.unused;
    slot = slot_stays r.log s.homes s.views me u w at turn r.slot;
  }

  -- load of `ticket`
  pub looks : (slots id i : ℕ) (me : M) → Allows Rule slots id me i (λ x. x) (looked (step slots i 0 0 none) me)
  looks slots id i me s r _ at _ = (me.0, keeps, tt, unmoved s r i id me.1 me.0 me.0 at (λ f. f) (λ f. f) (r.each_seat id me.0 at), refl)

  -- who drew each number, once the seat id has drawn the number n
  abbrev redrawn : ℕ → ℕ → (ℕ → ℕ) → ℕ → ℕ
  redrawn id n by k = if eqb k n then id else by k

  draw_hit : (s : St) (r : Rule s) (id : ℕ) (me : M) (old new : ℕ) → get_elem? s.views id ≡ some me.0 → me.0.stage ≡ Idle → get_or s.words 1 0 ≡ old → new ≡ old + 1 → new < 18446744073709551616
      → Rule (stepped s 1 new id me.1 (record me.0 { stage = Waiting old }) keeps)
  draw_hit s r id me old new at idle hit up small =
      let w : View E = record me.0 { stage = Waiting old } in
      let is : r.ticket ≡ old = sym (ticket_is s r) ∙ hit in
      let known = subst (Knows r.log r.ticket r.drawn_by id me.0) idle (r.each_seat id me.0 at) in
      let drawn = r.counted.1 in
      record {
        log = r.log;
        ticket = r.ticket + 1;
        drawn_by = redrawn id old r.drawn_by;
        counted = (ap (λ (ws : List ℕ). set ws 1 new) r.counted.0 ∙ ap (λ (t : ℕ). length r.log ∷ t ∷ []) (omega arith), omega arith, omega arith);
        each_seat = seats_stay (λ j v. Knows r.log (r.ticket + 1) (redrawn id old r.drawn_by) j v v.stage) s.views id w
            (known.0, known.1, (omega arith, omega arith, ap (λ (b : Bool). if b then id else r.drawn_by old) (eq-eqb old old refl)))
            (λ j v _ there. others_drew r.log r.ticket r.drawn_by (redrawn id old r.drawn_by) j v
            (λ n l. ap (λ (b : Bool). if b then id else r.drawn_by n) (ne_eqb n old (λ e. omega arith))) v.stage (r.each_seat j v there));
        whole = some_stays (HasWhole r.log) s.views id me.0 w at (λ f. ((λ e. cc e), inl (idle_whole r.log me.0 idle f))) r.whole;
        unused = unused_stay r.log s.views id w r.unused;
        slot = slot_stays r.log s.homes s.views id me.0 w at (no_turn r.log me.0 (HasTurn r.log w) idle) r.slot;
      }

  -- draw
  pub draws : (slots id : ℕ) (me : M) (old new : ℕ) → me.0.stage ≡ Idle → new ≡ old + 1 → new < 18446744073709551616
      → Allows Rule slots id me 1 (λ x. either (eqb x old) new x) (drew (step slots 1 old new none) me)
  draws slots id me old new idle up small s r _ at _ = let x : ℕ = get_or s.words 1 0 in dite (ℕ_discrete x old)
      (λ hit. let w : View E = record me.0 { stage = Waiting old } in (
        w,
        keeps,
        tt,
        subst (λ b. Rule (stepped s 1 (either b new x) id me.1 w keeps)) (sym (eq-eqb x old hit)) (draw_hit s r id me old new at idle hit up small),
        ((λ _. refl), λ miss. absurd (miss hit)),
      ))
      (λ miss. (
        me.0,
        keeps,
        tt,
        subst (λ b. Rule (stepped s 1 (either b new x) id me.1 me.0 keeps)) (sym (ne_eqb x old miss))
            (unmoved s r 1 id me.1 me.0 me.0 at (λ f. f) (λ f. f) (r.each_seat id me.0 at)),
        ((λ hit. absurd (miss hit)), λ _. refl),
      ))

  -- the seat whose number is served takes the value
  takes_home : (s : St) (r : Rule s) (id : ℕ) (me : M) (n : ℕ) (v : V) → get_elem? s.views id ≡ some me.0 → me.0.stage ≡ Waiting n → n ≡ length r.log → s.homes ≡ some (Some v) ∷ []
      → Rule (stepped s 0 (get_or s.words 0 0) id me.1 (record me.0 { stage = Holding n; seen = r.log }) (takes 0 (Some v)))
  takes_home s r id me n v at waits served home =
      let w : View E = record me.0 { stage = Holding n; seen = r.log } in
      let known = subst (Knows r.log r.ticket r.drawn_by id me.0) waits (r.each_seat id me.0 at) in
      let here = set_here s.views id w (at_below s.views id me.0 at) in
      subst (λ (ws : List ℕ). Rule record { words = ws; homes = set s.homes 0 none; views = set s.views id w }) (sym (set-get_or s.words 0 0)) record {
        log = r.log;
        ticket = r.ticket;
        drawn_by = r.drawn_by;
        counted = r.counted;
        each_seat = seats_stay (λ j u. Knows r.log r.ticket r.drawn_by j u u.stage) s.views id w (prefix_self r.log, (known.1.0, refl), known.2, (served, refl)) (λ j u _. r.each_seat j u);
        whole = (id, w, here, ((λ e. cc e), inl refl));
        unused = unused_stay r.log s.views id w r.unused;
        slot = inr (ap (λ (hs : List (maybe.Option (Option V))). set hs 0 none) home, (id, w, here, ap Holding served));
      }

  -- the slot isn't out while the number of a waiting seat is served
  not_out : (s : St) (r : Rule s) (id : ℕ) (u : View E) (n : ℕ) → get_elem? s.views id ≡ some u → u.stage ≡ Waiting n → n ≡ length r.log → SomeSeat (HasTurn r.log) s.views → ⊥
  not_out s r id u n at waits served f =
      let mine = subst (Knows r.log r.ticket r.drawn_by id u) waits (r.each_seat id u at) in
      let theirs = subst (Knows r.log r.ticket r.drawn_by f.0 f.1) f.3 (r.each_seat f.0 f.1 f.2) in
      let same : f.0 ≡ id = sym theirs.2.2 ∙ (ap r.drawn_by (sym served) ∙ mine.2.2) in
      let one : f.1 ≡ u = some-injective f.1 u (sym f.2 ∙ (ap (get_elem? s.views) same ∙ at)) in
      let both : Holding (length r.log) ≡ Waiting n = sym f.3 ∙ (ap (λ (v : View E). v.stage) one ∙ waits) in
      absurd (cc both)

  -- load of `serving` with a ticket number
  pub calls : (slots id : ℕ) (me : M) (n : ℕ) → me.0.stage ≡ Waiting n → Allows Rule slots id me 0 (λ x. x) (called stands (step slots 0 0 0 none) me)
  calls slots id me n waits s r _ at _ = let x : ℕ = get_or s.words 0 0 in
      let known = subst (Knows r.log r.ticket r.drawn_by id me.0) waits (r.each_seat id me.0 at) in
      let one : (k : ℕ) → me.0.stage ≡ Waiting k → n ≡ k = λ k is. ap ticket_of (sym waits ∙ is) in
      dite (ℕ_discrete x n)
      (λ hit. let served : n ≡ length r.log = sym hit ∙ serving_is s r in let below = known.2.1 in let few = r.counted.2 in
      ⊎_elim (λ (h : (v : V) × (s.homes ≡ some (Some v) ∷ []) × stands v r.log). let w : View E = record me.0 { stage = Holding n; seen = r.log } in (
        w,
        takes 0 (Some h.0),
        ap (λ (hs : List (maybe.Option (Option V))). get_elem? hs 0) h.1,
        takes_home s r id me n h.0 at waits served h.1,
        λ k is. (
          (λ _. (
            h.0,
            subst (λ (z : ℕ). Served stands (Some h.0) me z h.0 (w, (0, Some h.0) ∷ me.1)) (one k is)
                (r.log, refl, known.0, subst (λ (z : ℕ). entries_of z r.log ≡ entries_of z me.0.seen) (sym known.1.0) (sym known.1.1), h.2, sym served, omega arith),
          )),
          λ miss. absurd (miss (hit ∙ one k is)),
        ),
      ))
      (λ (h : (s.homes ≡ none ∷ []) × SomeSeat (HasTurn r.log) s.views). absurd (not_out s r id me.0 n at waits served h.1)) r.slot)
      (λ miss. (me.0, keeps, tt, unmoved s r 0 id me.1 me.0 me.0 at (λ f. f) (λ f. f) (r.each_seat id me.0 at), λ k is. ((λ hit. absurd (miss (hit ∙ sym (one k is)))), λ _. refl)))

  -- the slot's place, once a value is put there
  put_home : (homes : List (maybe.Option (Option V))) (log : List (Given E)) (vs : List (View E)) (x : V) → SlotStands log stands homes vs → set homes 0 (some (Some x)) ≡ some (Some x) ∷ []
  put_home homes log vs x f = ⊎_elim (λ (h : (v : V) × (homes ≡ some (Some v) ∷ []) × stands v log). ap (λ (hs : List (maybe.Option (Option V))). set hs 0 (some (Some x))) h.1)
      (λ (h : (homes ≡ none ∷ []) × SomeSeat (HasTurn log) vs). ap (λ (hs : List (maybe.Option (Option V))). set hs 0 (some (Some x))) h.0) f

  -- pass on
  pub passes : (slots id : ℕ) (me : M) (n : ℕ) (x : V) (e : E) → me.0.stage ≡ Holding n → me.1 ≡ (0, Some x) ∷ [] → stands x (me.0.seen ++ given me.0.number e ∷ [])
      → Allows Rule slots id me 0 (λ k. (k + 1) % 2 ^ 64) (passed (Some e) (step slots 0 1 0 none) me)
  passes slots id me n x e holds out right s r _ at _ =
      let known = subst (Knows r.log r.ticket r.drawn_by id me.0) holds (r.each_seat id me.0 at) in
      let w : View E = record me.0 { stage = Idle; seen = me.0.seen ++ given me.0.number e ∷ [] } in
      let log : List (Given E) = r.log ++ given id e ∷ [] in
      let same : me.0.seen ++ given me.0.number e ∷ [] ≡ log = λ i. known.3.1 i ++ given (known.1.0 i) e ∷ [] in
      let here = set_here s.views id w (at_below s.views id me.0 at) in
      let more : length log ≡ length r.log + 1 = length-append r.log (given id e ∷ []) in
      let served = known.3.0 in let below = known.2.1 in let few = r.counted.2 in let found = serving_is s r in
      let mine : r.drawn_by (length r.log) ≡ id = ap r.drawn_by (sym known.3.0) ∙ known.2.2 in
      let inside = at_below s.views id me.0 at in (
        w,
        gives,
        tt,
        record {
          log = log;
          ticket = r.ticket;
          drawn_by = r.drawn_by;
          counted = (ap (λ (ws : List ℕ). set ws 0 ((get_or s.words 0 0 + 1) % 2 ^ 64)) r.counted.0 ∙ ap (λ (k : ℕ). k ∷ r.ticket ∷ []) (omega arith), omega arith, few);
          each_seat = seats_stay (λ j v. Knows log r.ticket r.drawn_by j v v.stage) s.views id w
              (subst (λ (z : List (Given E)). IsPrefix z log) (sym same) (prefix_self log), (known.1.0, ap (entries_of id) same))
              (λ j v ne there. others_heard r.log r.ticket r.drawn_by id j v e ne mine v.stage (r.each_seat j v there));
          whole = (id, w, here, ((λ z. cc z), inl same));
          unused = λ j past. let l : length (set s.views id w) ≡ length s.views = length-set s.views id w in entries_else id j r.log e (λ is. omega arith) ∙ r.unused j (omega arith);
          slot = inl (x, ap (λ (cs : List (ℕ × Option V)). put_back s.homes cs) out ∙ put_home s.homes r.log s.views x r.slot, subst (stands x) same right);
        },
        ap (λ (cs : List (ℕ × Option V)). (w, rest cs)) out,
      )

  -- split seat
  pub splits : (id : ℕ) (v : View E) → v.stage ≡ Idle → Splits Rule id v v (split_view v)
  splits id v idle s r at =
      let known = subst (Knows r.log r.ticket r.drawn_by id v) idle (r.each_seat id v at) in
      let w : View E = split_view v in
      let inside = at_below s.views id v at in
      subst (λ (vs : List (View E)). Rule record { words = s.words; homes = s.homes; views = vs ++ w ∷ [] }) (sym (set_again s.views id v at)) record {
        log = r.log;
        ticket = r.ticket;
        drawn_by = r.drawn_by;
        counted = r.counted;
        each_seat = λ j u there. ⊎_elim (r.each_seat j u) (λ (t : (j ≡ length s.views) × (w ≡ u)). let past = t.0 in
            subst (λ (z : View E). Knows r.log r.ticket r.drawn_by j z z.stage) t.1 (known.0, r.unused j (omega arith), λ is. let own = known.1.0 in omega arith)) (at_one_more s.views w u j there);
        whole = some_more (HasWhole r.log) s.views w r.whole;
        unused = λ j past. let l : length (s.views ++ w ∷ []) ≡ length s.views + 1 = length-append s.views (w ∷ []) in r.unused j (omega arith);
        slot = ⊎_elim (λ h. inl h) (λ (h : (s.homes ≡ none ∷ []) × SomeSeat (HasTurn r.log) s.views). inr (h.0, some_more (HasTurn r.log) s.views w h.1)) r.slot;
      }

  -- load of `serving` by a new seat
  pub numbers : (slots id i : ℕ) (me : M) → me.0.stage ≡ New → Allows Rule slots id me i (λ x. x) (numbered (step slots i 0 0 none) me)
  numbers slots id i me new s r _ at _ =
      let known = subst (Knows r.log r.ticket r.drawn_by id me.0) new (r.each_seat id me.0 at) in
      let none_seen = no_entries id me.0.seen r.log known.0 known.1 in
      let w : View E = record { number = id; stage = Idle; seen = me.0.seen; told = [] } in (
        w,
        keeps,
        tt,
        unmoved s r i id me.1 me.0 w at (λ f. ((λ e. cc e), ⊎_elim (λ a. inl a) (λ b. absurd (cc (new, b.0))) f.1)) (λ f. absurd (cc (new, f))) (known.0, (refl, none_seen ∙ sym known.1)),
        (id, refl, (λ e. known.2 (sym e)), none_seen),
      )

  -- join seat
  pub joins : (id : ℕ) (v : View E) (other : ℕ) (u : View E) → v.stage ≡ Idle → u.stage ≡ Idle → Joins Rule id v other u (joined_view v u) spent_view
  joins id v other u idle idle' s r at apart there =
      let w : View E = joined_view v u in let vs : List (View E) = set s.views id w in
      let there' : get_elem? s.views other ≡ some u = sym (set_else s.views id other w apart) ∙ there in
      let known = subst (Knows r.log r.ticket r.drawn_by id v) idle (r.each_seat id v at) in
      let told = subst (Knows r.log r.ticket r.drawn_by other u) idle' (r.each_seat other u there') in
      let here : get_elem? vs id ≡ some w = set_here s.views id w (at_below s.views id v at) in
      let here' : get_elem? (set vs other spent_view) id ≡ some w = set_else vs other id spent_view (λ e. apart (sym e)) ∙ here in
      record {
        log = r.log;
        ticket = r.ticket;
        drawn_by = r.drawn_by;
        counted = r.counted;
        each_seat = seats_stay (λ j z. Knows r.log r.ticket r.drawn_by j z z.stage) vs other spent_view tt
            (λ j z _. seats_stay (λ i y. Knows r.log r.ticket r.drawn_by i y y.stage) s.views id w (known.0, known.1, told.0) (λ i y _. r.each_seat i y) j z);
        whole = let f = some_stays (HasWhole r.log) s.views id v w at (λ h. ((λ e. cc e), inl (idle_whole r.log v idle h))) r.whole in dite (ℕ_discrete f.0 other)
            (λ is. let one : f.1 ≡ u = some-injective f.1 u (sym f.2 ∙ (ap (get_elem? vs) is ∙ there)) in
            (id, w, here', ((λ e. cc e), inr (refl, idle_whole r.log u idle' (subst (HasWhole r.log) one f.3)))))
            (λ ne. (f.0, f.1, set_else vs other f.0 spent_view ne ∙ f.2, f.3));
        unused = unused_stay r.log vs other spent_view (unused_stay r.log s.views id w r.unused);
        slot = slot_stays r.log s.homes vs other u spent_view there (no_turn r.log u (HasTurn r.log spent_view) idle') (slot_stays r.log s.homes s.views id v w at (no_turn r.log v (HasTurn r.log w) idle) r.slot);
      }

  -- load of `serving` by a seat that was told of another's history
  pub settles : (slots id i : ℕ) (me : M) → me.0.stage ≡ Joining → Allows Rule slots id me i (λ x. x) (settled (step slots i 0 0 none) me)
  settles slots id i me joining s r _ at _ =
      let known = subst (Knows r.log r.ticket r.drawn_by id me.0) joining (r.each_seat id me.0 at) in
      let both : List (Given E) = longer me.0.seen me.0.told in
      let l = longer_prefix me.0.seen me.0.told r.log known.0 known.2 in
      let own = entries_between id me.0.seen both r.log l.0 l.2 known.1.1 in
      let w : View E = record me.0 { stage = Idle; seen = both; told = [] } in (
        w,
        keeps,
        tt,
        unmoved s r i id me.1 me.0 w at (λ f. ((λ e. cc e), inl (longer_whole me.0.seen me.0.told r.log known.0 known.2 (⊎_elim (λ a. inl a) (λ b. inr b.1) f.1)))) (λ f. absurd (cc (joining, f))) (l.2, (known.1.0, own)),
        (refl, l.0, l.1, subst (λ (z : ℕ). entries_of z both ≡ entries_of z me.0.seen) (sym known.1.0) (own ∙ sym known.1.1)),
      )

  -- the words, the slot and the first seat at the start
  pub opens : (x : V) → stands x [] → Rule (opening (0 ∷ 0 ∷ []) (Some x ∷ []) opening_view)
  opens x right = record {
    log = [];
    ticket = 0;
    drawn_by = λ _. 0;
    counted = (refl, omega arith, omega arith);
    each_seat = λ j v there. subst (λ (z : View E). Knows [] 0 (λ _. 0) j z z.stage) (at_only opening_view v j there).1 (prefix_self [], (sym (at_only opening_view v j there).0, refl));
    whole = (0, opening_view, refl, ((λ e. cc e), inl refl));
    unused = λ _ _. refl;
    slot = inl (x, refl, right);
  }
