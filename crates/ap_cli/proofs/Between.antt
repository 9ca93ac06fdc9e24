-- A cache while files are laid over it.
use Rattle.std.proofs.Common.{◌≡◌, ◌≢◌, ◌≤◌, ◌⊎◌, Bool, true, false, ◌&&◌, ℕ, List, [], ◌∷◌, length, get_or, refl, sym, ◌∙◌, ap, subst, inl, inr, arith, ⊎_elim}
use Rattle.std.specs.Prelude.{Option, Some, None, is_none, bytes_eq}
use Rattle.std.proofs.lemmas.Slice.Eq.{bytes_eq-Decides}
use Rattle.ap_tree.specs.Files.{content_at, has_distinct_paths}
use Rattle.ap_tree.specs.Changes.{TellsAs, Puts, KeepsOthers}
use Rattle.ap_scan.specs.Winners.{Files}
use Rattle.ap_cli.specs.Overlay.{LaidAllButOne}
use Rattle.ap_engine.proofs.SliceSteps.{after, after-cons}

-- each file is as it was or as it is put
abbrev pub Between : Files → Files → Files → Type 0
Between put old new = (path : List ℕ) → (content_at new path ≡ content_at old path) ⊎ (content_at new path ≡ content_at put path)

pub between_itself : (put : Files) (told : Option Files) → TellsAs told told (Between put)
between_itself put None = tt
between_itself put (Some files) = λ path. inl refl

-- what the first of the files left has, it has among all
pub has_first : (files whole : Files) (file : List ℕ × List ℕ) → 1 ≤ length files → file ≡ get_or files 0 file →
    ((path bytes : List ℕ) → content_at files path ≡ Some bytes → content_at whole path ≡ Some bytes) → content_at whole file.0 ≡ Some file.1
has_first [] whole file some is inside = absurd (omega arith)
has_first (first ∷ files) whole file some is inside =
    subst (λ (f : List ℕ × List ℕ). content_at whole f.0 ≡ Some f.1) (sym is) (inside first.0 first.1 here)
  where
    same : bytes_eq first.0 first.0 ≡ true
    same = (bytes_eq-Decides first.0 first.0).1 refl

    here : content_at (first ∷ files) first.0 ≡ Some first.1
    here = rw same refl

-- what the rest has, all had
pub has_after : (files whole : Files) → has_distinct_paths files ≡ true →
    ((path bytes : List ℕ) → content_at files path ≡ Some bytes → content_at whole path ≡ Some bytes) →
    (path bytes : List ℕ) → content_at (after files) path ≡ Some bytes → content_at whole path ≡ Some bytes
has_after [] whole distinct inside path bytes has = inside path bytes has
has_after (first ∷ files) whole distinct inside path bytes has = inside path bytes (by_test (bytes_eq first.0 path) refl)
  where
    none_first : (o : Option (List ℕ)) (rest : Bool) → (is_none o && rest) ≡ true → o ≡ None
    none_first None rest is = refl
    none_first (Some x) rest is = cc

    rest_has : content_at files path ≡ Some bytes
    rest_has = subst (λ (l : Files). content_at l path ≡ Some bytes) (after-cons first files) has

    by_test : (t : Bool) → bytes_eq first.0 path ≡ t → content_at (first ∷ files) path ≡ Some bytes
    by_test true is =
        let e : first.0 ≡ path = (bytes_eq-Decides first.0 path).0 is in
        let none : content_at files path ≡ None = ap (content_at files) (sym e) ∙ none_first (content_at files first.0) (has_distinct_paths files) distinct in
        cc rest_has
    by_test false is = rw is rest_has

-- one more file is put
pub between_more : (put : Files) (start old new : Option Files) (path bytes : List ℕ) → content_at put path ≡ Some bytes →
    TellsAs start old (Between put) → TellsAs old new (λ o n. Puts o n path (Some bytes)) → TellsAs start new (Between put)
between_more put None None None path bytes has so_far puts = tt
between_more put None None (Some new) path bytes has so_far puts = puts
between_more put None (Some old) new path bytes has so_far puts = absurd so_far
between_more put (Some start) None new path bytes has so_far puts = absurd so_far
between_more put (Some start) (Some old) None path bytes has so_far puts = absurd puts
between_more put (Some start) (Some old) (Some new) path bytes has so_far puts = λ other. by_test other (bytes_eq other path) refl
  where
    by_test : (other : List ℕ) (t : Bool) → bytes_eq other path ≡ t → (content_at new other ≡ content_at start other) ⊎ (content_at new other ≡ content_at put other)
    by_test other true is =
        let e : other ≡ path = (bytes_eq-Decides other path).0 is in
        inr (ap (content_at new) e ∙ puts.here ∙ sym has ∙ ap (content_at put) (sym e))
    by_test other false is =
        let differs : other ≢ path = λ e. cc ((bytes_eq-Decides other path).1 e) in
        ⊎_elim (λ was. inl (puts.others other differs ∙ was)) (λ was. inr (puts.others other differs ∙ was)) (so_far other)

-- where a write failed, all but its file are so
pub all_but_one : (put : Files) (start old new : Option Files) (path : List ℕ) →
    TellsAs start old (Between put) → TellsAs old new (λ o n. KeepsOthers o n path) → TellsAs start new (LaidAllButOne put)
all_but_one put None None None path so_far keeps = tt
all_but_one put None None (Some new) path so_far keeps = keeps
all_but_one put None (Some old) new path so_far keeps = absurd so_far
all_but_one put (Some start) None new path so_far keeps = absurd so_far
all_but_one put (Some start) (Some old) None path so_far keeps = absurd keeps
all_but_one put (Some start) (Some old) (Some new) path so_far keeps =
    (path, λ other differs. ⊎_elim (λ was. inl (keeps other differs ∙ was)) (λ was. inr (keeps other differs ∙ was)) (so_far other))
