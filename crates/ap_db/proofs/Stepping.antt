-- The items of a payload, one after another.
use Rattle.std.proofs.Common.{◌≡◌, ◌<◌, ◌≤◌, ◌+◌, ◌-◌, ℕ, zero, suc, List, [], ◌∷◌, length, Option, Some, None, Ok, Err, refl, sym, ◌∙◌, ap, subst, arith}
use Rattle.std.specs.Prelude.{option_map, option_and_then, MatchOption, Result, IfOk}
use Rattle.ap_rows.specs.Grammar.{item}
use Rattle.ap_rows.specs.declared.change.Item.{Item}
use Rattle.ap_db.specs.Stored.{Stored, after_item, first_step, on_step, after_items, after_payload}
use Rattle.ap_db.specs.Options.{from_then_some, from_map_some}
use Rattle.ap_db.specs.WellStored.{IsWellStored}
use Rattle.ap_db.specs.Keeping.{item_keeps}

pub step_taken : (stored next : Stored) (bytes after : List ℕ) (x : Item) → item bytes ≡ Some (x, after) → after_item stored x ≡ Some next → first_step stored bytes ≡ Some (next, after)
unfolding first_step
step_taken stored next bytes after x e f = ap (λ o. option_and_then (λ read. option_map (λ next. (next, read.1)) (after_item stored read.0)) o) e ∙ ap (λ o. option_map (λ next. (next, after)) o) f

pub step_unknown : (stored : Stored) (bytes : List ℕ) → item bytes ≡ None → first_step stored bytes ≡ None
unfolding first_step
step_unknown stored bytes e = ap (λ o. option_and_then (λ read. option_map (λ next. (next, read.1)) (after_item stored read.0)) o) e

pub step_unlawful : (stored : Stored) (bytes after : List ℕ) (x : Item) → item bytes ≡ Some (x, after) → after_item stored x ≡ None → first_step stored bytes ≡ None
unfolding first_step
step_unlawful stored bytes after x e f = ap (λ o. option_and_then (λ read. option_map (λ next. (next, read.1)) (after_item stored read.0)) o) e ∙ ap (λ o. option_map (λ next. (next, after)) o) f

-- what an answer that is Ok has, it has of what follows
pub if_ok : {T E : Type 0} (P Q : T → Type 0) (r : Result T E) → ((t : T) → P t → Q t) → IfOk r P → IfOk r Q
if_ok P Q (Ok t) f h = f t h
if_ok P Q (Err e) f h = tt

-- a step keeps it well stored
pub step_keeps : (stored next : Stored) (bytes after : List ℕ) → IsWellStored stored → first_step stored bytes ≡ Some (next, after) → IsWellStored next
unfolding first_step
step_keeps stored next bytes after well e =
    let read = from_then_some (λ read. option_map (λ next. (next, read.1)) (after_item stored read.0)) (item bytes) (next, after) e in
    let mapped = from_map_some (λ (s : Stored). (s, read.0.1)) (after_item stored read.0.0) (next, after) read.2 in
    subst IsWellStored (ap (λ (p : Stored × List ℕ). p.0) mapped.2) (item_keeps stored mapped.0 read.0.0 well mapped.1)

-- a step among items
pub items_step : (n offset : ℕ) (stored : Stored) (bytes : List ℕ) → 0 < length bytes → after_items (suc n) offset stored bytes ≡ on_step offset (length bytes) (after_items n) (first_step stored bytes)
unfolding after_items
items_step n offset stored [] lt = absurd (omega (arith, lt))
items_step n offset stored (b ∷ bytes) lt = refl

pub items_done : (n offset : ℕ) (stored : Stored) (bytes : List ℕ) → length bytes ≡ 0 → after_items n offset stored bytes ≡ Ok stored
unfolding after_items
items_done zero offset stored [] e = refl
items_done (suc n) offset stored [] e = refl
items_done n offset stored (b ∷ bytes) e = absurd (omega (arith, e))

-- the items before the rest of a payload are taken, and the rest stands for what is left of it
pub record HasTaken (payload rest : List ℕ) (stored now : Stored) : Type 0 where
  pub most : ℕ
  pub enough : length rest ≤ most
  pub same : after_items most (length payload - length rest) now rest ≡ after_payload stored payload

pub none_taken : (payload : List ℕ) (stored : Stored) → HasTaken payload payload stored stored
unfolding after_payload
none_taken payload stored =
    let none : length payload - length payload ≡ 0 = omega arith in
    record { most = length payload; enough = omega arith; same = ap (λ (k : ℕ). after_items (length payload) k stored payload) none }

pub one_taken : (payload rest after : List ℕ) (stored now next : Stored) → length rest ≤ length payload → length after < length rest → HasTaken payload rest stored now → first_step now rest ≡ Some (next, after) → HasTaken payload after stored next
one_taken payload rest after stored now next within shorter has e = step has.most has.enough has.same
  where
    step : (most : ℕ) → length rest ≤ most → after_items most (length payload - length rest) now rest ≡ after_payload stored payload → HasTaken payload after stored next
    step zero enough same = absurd (omega (arith, enough, shorter))
    step (suc n) enough same =
        let at : length payload - length rest + (length rest - length after) ≡ length payload - length after = omega (arith, within, shorter) in
        record {
          most = n;
          enough = omega (arith, enough, shorter);
          same = ap (λ (k : ℕ). after_items n k next after) (sym at) ∙ sym (ap (λ o. on_step (length payload - length rest) (length rest) (after_items n) o) e)
              ∙ sym (items_step n (length payload - length rest) now rest (omega (arith, shorter))) ∙ same;
        }

pub stopped : (payload rest : List ℕ) (stored now : Stored) → 0 < length rest → HasTaken payload rest stored now → first_step now rest ≡ None → after_payload stored payload ≡ Err (length payload - length rest)
stopped payload rest stored now some has e = step has.most has.enough has.same
  where
    step : (most : ℕ) → length rest ≤ most → after_items most (length payload - length rest) now rest ≡ after_payload stored payload → after_payload stored payload ≡ Err (length payload - length rest)
    step zero enough same = absurd (omega (arith, enough, some))
    step (suc n) enough same = sym same ∙ items_step n (length payload - length rest) now rest some ∙ ap (λ o. on_step (length payload - length rest) (length rest) (after_items n) o) e

pub all_taken : (payload rest : List ℕ) (stored now : Stored) → length rest ≡ 0 → HasTaken payload rest stored now → after_payload stored payload ≡ Ok now
all_taken payload rest stored now none has = sym has.same ∙ items_done has.most (length payload - length rest) now rest none

-- ---- what may be there

pub match_none : {X : Type 0} (o : Option X) (P : Type 0) (Q : X → Type 0) → o ≡ None → MatchOption o P Q → P
match_none None P Q e h = h
match_none (Some x) P Q e h = absurd (cc e)

pub match_some : {X : Type 0} (o : Option X) (x : X) (P : Type 0) (Q : X → Type 0) → o ≡ Some x → MatchOption o P Q → Q x
match_some None x P Q e h = absurd (cc e)
match_some (Some y) x P Q e h = let same : y ≡ x = cc e in subst Q same h
