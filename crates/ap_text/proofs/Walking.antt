-- A pattern held against a text from its front, one character after another.
use Rattle.std.proofs.Common.{◌≡◌, ◌≢◌, ◌+◌, ℕ, zero, suc, Bool, true, false, List, [], ◌∷◌, drop, refl, sym, ap, subst, ◌∙◌, inl, inr}
use Rattle.std.specs.Prelude.{◌==◌, ◌&&◌}
use Rattle.std.proofs.lemmas.Bool.{or_parts, or_left, or_from, and_parts, and_left, cond-false, ne_eqb, cases_Bool, false_from_ne_true, both_ways}
use Rattle.std.proofs.lemmas.List.{drop-drop}
use Rattle.ap_text.specs.Wild.{wild_chars, some_end, first_and_others, stands_for, is_over}
use Rattle.ap_text.specs.Walk.{ReachesStar}

-- what passes as it stands passes with some end
pub some_end-whole : (passes : List ℕ → Bool) (text : List ℕ) → passes text ≡ true → some_end passes text ≡ true
some_end-whole passes [] h = h
some_end-whole passes (c ∷ text) h = or_left (passes (c ∷ text)) (some_end passes text) h

-- where no end of a text passes, no end of a later part of it does
some_end-later : (passes : List ℕ → Bool) (n : ℕ) (text : List ℕ) → some_end passes (drop n text) ≡ false → some_end passes (drop (suc n) text) ≡ false
some_end-later passes zero [] h = h
some_end-later passes zero (c ∷ text) h = (or_parts (passes (c ∷ text)) (some_end passes text) h).1
some_end-later passes (suc n) [] h = h
some_end-later passes (suc n) (c ∷ text) h = some_end-later passes n text h

-- what needs an end behind its first n characters to pass has none where there is none
some_end-none : (passes others : List ℕ → Bool) (n : ℕ) → ((text : List ℕ) → passes text ≡ true → some_end others (drop n text) ≡ true) →
    (text : List ℕ) → some_end others (drop n text) ≡ false → some_end passes text ≡ false
some_end-none passes others n needs [] none = false_from_ne_true (passes []) (λ h. both_ways (some_end others (drop n [])) none (needs [] h))
some_end-none passes others n needs (c ∷ text) none =
    or_from (passes (c ∷ text)) (some_end passes text)
    (false_from_ne_true (passes (c ∷ text)) (λ h. both_ways (some_end others (drop n (c ∷ text))) none (needs (c ∷ text) h)))
    (some_end-none passes others n needs text (some_end-later others n (c ∷ text) none))

-- a character that is no star takes one character
plain_mark : (mark : ℕ) (pattern text : List ℕ) → mark ≢ 42 → wild_chars (mark ∷ pattern) text ≡ first_and_others (stands_for mark) (wild_chars pattern) text
plain_mark mark pattern text ne = ap (λ f. f text) (cond-false (mark == 42) (some_end (wild_chars pattern)) (first_and_others (stands_for mark) (wild_chars pattern)) (ne_eqb mark 42 ne))

others-pass : (test : ℕ → Bool) (passes : List ℕ → Bool) (text : List ℕ) → first_and_others test passes text ≡ true → passes (drop 1 text) ≡ true
others-pass test passes [] h = cc
others-pass test passes (c ∷ text) h = (and_parts (test c) (passes text) h).1

-- a pattern and a text, and what is left of each after so many characters that stood for one another
pub record Walking (pattern text marks left : List ℕ) : Type 0 where
  pub same : wild_chars pattern text ≡ wild_chars marks left
  pub count : ℕ
  pub behind : left ≡ drop count text
  pub needs : (other : List ℕ) → wild_chars pattern other ≡ true → wild_chars marks (drop count other) ≡ true

pub Walking-none : (pattern text : List ℕ) → Walking pattern text pattern text
Walking-none pattern text = record { same = refl; count = 0; behind = refl; needs = λ other h. h }

-- the same, where what is left is known
pub Walking-at : {pattern text marks marks' left left' : List ℕ} → marks ≡ marks' → left ≡ left' → Walking pattern text marks left → Walking pattern text marks' left'
Walking-at {pattern} {text} {marks} {marks'} {left} {left'} e f w = subst (λ l. Walking pattern text marks' l) f (subst (λ m. Walking pattern text m left) e w)

module _ (pattern text marks left : List ℕ) (mark : ℕ) where
  pub Walking-differs_at_end : Walking pattern text (mark ∷ marks) [] → mark ≢ 42 → wild_chars pattern text ≡ false
  Walking-differs_at_end w ne = w.same ∙ plain_mark mark marks [] ne

  pub Walking-differs : (c : ℕ) → Walking pattern text (mark ∷ marks) (c ∷ left) → mark ≢ 42 → stands_for mark c ≡ false → wild_chars pattern text ≡ false
  Walking-differs c w ne other = w.same ∙ plain_mark mark marks (c ∷ left) ne ∙ and_left (stands_for mark c) (wild_chars marks left) other

  pub Walking-more : (c : ℕ) → Walking pattern text (mark ∷ marks) (c ∷ left) → mark ≢ 42 → stands_for mark c ≡ true → Walking pattern text marks left
  Walking-more c w ne holds = record {
    same = w.same ∙ plain_mark mark marks (c ∷ left) ne ∙ ap (λ b. b && wild_chars marks left) holds;
    count = w.count + 1;
    behind = ap (drop 1) w.behind ∙ drop-drop 1 w.count text;
    needs = λ other h. subst (λ t. wild_chars marks t ≡ true) (drop-drop 1 w.count other)
        (others-pass (stands_for mark) (wild_chars marks) (drop w.count other) (sym (plain_mark mark marks (drop w.count other) ne) ∙ w.needs other h));
  }

pub Walking-ends : (pattern text left : List ℕ) → Walking pattern text [] left → wild_chars pattern text ≡ is_over left
Walking-ends pattern text left w = w.same

-- at a star all that was passed may stay passed
pub Walking-star : (pattern text marks left : List ℕ) → Walking pattern text (42 ∷ marks) left → ReachesStar pattern text marks left
Walking-star pattern text marks left w = record { here = w.same; anywhere = elim (cases_Bool found) as (λ _. some_end (wild_chars pattern) text ≡ found) [ inl h ↦ some_end-whole (wild_chars pattern) text (w.same ∙ h) ∙ sym h | inr h ↦ none h ∙ sym h ] }
  where
    found : Bool
    found = some_end (wild_chars marks) left

    none : found ≡ false → some_end (wild_chars pattern) text ≡ false
    none h = some_end-none (wild_chars pattern) (wild_chars marks) w.count w.needs text (ap (λ t. some_end (wild_chars marks) t) (sym w.behind) ∙ h)
