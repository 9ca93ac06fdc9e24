-- Files that are laid over others one after another.
use Rattle.std.proofs.Common.{◌≡◌, ◌≢◌, ◌≤◌, Bool, true, false, ◌&&◌, ℕ, List, [], ◌∷◌, length, get_or, refl, sym, ◌∙◌, ap, subst, arith}
use Rattle.std.specs.Prelude.{Option, Some, None, is_none, bytes_eq}
use Rattle.std.proofs.lemmas.Slice.Eq.{bytes_eq-Decides}
use Rattle.ap_tree.specs.Files.{content_at, has_distinct_paths}
use Rattle.ap_tree.specs.Changes.{TellsAs, Puts}
use Rattle.ap_scan.specs.Winners.{Files}
use Rattle.ap_cli.specs.Overlay.{Overlays, or_else}
use Rattle.ap_engine.proofs.SliceSteps.{after, after-cons}

none_from : (o : Option (List ℕ)) (rest : Bool) → (is_none o && rest) ≡ true → o ≡ None
none_from None rest is = refl
none_from (Some x) rest is = cc

rest_from : (o : Option (List ℕ)) (rest : Bool) → (is_none o && rest) ≡ true → rest ≡ true
rest_from None rest is = is
rest_from (Some x) rest is = cc

-- the first of some files, and then the rest
lays_first : (old mid final : Files) (path bytes : List ℕ) (rest : Files) → content_at rest path ≡ None → Puts old mid path (Some bytes) →
    Overlays rest mid final → Overlays ((path, bytes) ∷ rest) old final
lays_first old mid final path bytes rest new put laid p = by_test (bytes_eq path p) refl
  where
    by_test : (t : Bool) → bytes_eq path p ≡ t → content_at final p ≡ or_else (content_at ((path, bytes) ∷ rest) p) (content_at old p)
    by_test true is =
        let e : path ≡ p = (bytes_eq-Decides path p).0 is in
        let none : content_at rest p ≡ None = ap (content_at rest) (sym e) ∙ new in
        let here : content_at mid p ≡ Some bytes = ap (content_at mid) (sym e) ∙ put.here in
        rw is (laid p ∙ ap (λ o. or_else o (content_at mid p)) none ∙ here)
    by_test false is =
        let other : p ≢ path = λ e. cc ((bytes_eq-Decides path p).1 (sym e)) in
        rw is (laid p ∙ ap (or_else (content_at rest p)) (put.others p other))

lays_first_where_told : (old mid final : Option Files) (path bytes : List ℕ) (rest : Files) → content_at rest path ≡ None →
    TellsAs old mid (λ old new. Puts old new path (Some bytes)) → TellsAs mid final (Overlays rest) → TellsAs old final (Overlays ((path, bytes) ∷ rest))
lays_first_where_told None None None path bytes rest new put laid = tt
lays_first_where_told None None (Some final) path bytes rest new put laid = laid
lays_first_where_told None (Some mid) final path bytes rest new put laid = absurd put
lays_first_where_told (Some old) None final path bytes rest new put laid = absurd put
lays_first_where_told (Some old) (Some mid) None path bytes rest new put laid = laid
lays_first_where_told (Some old) (Some mid) (Some final) path bytes rest new put laid = lays_first old mid final path bytes rest new put laid

pub distinct_after : (files : Files) → has_distinct_paths files ≡ true → has_distinct_paths (after files) ≡ true
distinct_after [] distinct = refl
distinct_after (file ∷ files) distinct = rw (after-cons file files) (rest_from (content_at files file.0) (has_distinct_paths files) distinct)

pub laid_after : (old mid final : Option Files) (files : Files) (file : List ℕ × List ℕ) → 1 ≤ length files → file ≡ get_or files 0 file → has_distinct_paths files ≡ true →
    TellsAs old mid (λ old new. Puts old new file.0 (Some file.1)) → TellsAs mid final (Overlays (after files)) → TellsAs old final (Overlays files)
laid_after old mid final [] file some is distinct put laid = absurd (omega arith)
laid_after old mid final (first ∷ files) file some is distinct put laid =
    lays_first_where_told old mid final first.0 first.1 files (none_from (content_at files first.0) (has_distinct_paths files) distinct)
    (subst (λ (f : List ℕ × List ℕ). TellsAs old mid (λ old new. Puts old new f.0 (Some f.1))) is put)
    (subst (λ (l : Files). TellsAs mid final (Overlays l)) (after-cons first files) laid)
