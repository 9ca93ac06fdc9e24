-- The candidates and the odd names of the folders are those that the rules name.
use Rattle.std.proofs.Common.{◌≡◌, ◌≢◌, ◌<◌, ◌+◌, ℕ, suc, Bool, true, false, not, List, [], ◌∷◌, ◌++◌, length, drop, get_or, Contains, refl, sym, ◌∙◌, ap, subst, ⊎_elim, arith, bytes_eq}
use Rattle.std.specs.Prelude.{◌↔◌, ◌&&◌, ◌==◌, nat_le, nat_lt, nat_eq, slice_index, Some, if◌then◌else◌}
use Rattle.std.specs.List.{AllByRecursion, flat_map, starts_with}
use Rattle.std.specs.Str.{str_to_ascii_lowercase, is_utf8}
use Rattle.std.proofs.Math.Seq.{drop-cons}
use Rattle.std.proofs.lemmas.Str.{IsUtf8-from_is_utf8}
use Rattle.std.proofs.lemmas.Bool.Decides.{Decides-eqb, Decides-ltb}
use Rattle.std.proofs.lemmas.Slice.Eq.{bytes_eq-Decides, starts_is}
use Rattle.std.proofs.lemmas.Grind.{common_steps}
use Rattle.ap_text.specs.PathRules.{IsRelPath, has_bad_part_lem, has_bad_byte_lem}
use Rattle.ap_text.specs.Wild.{some_matches_lem}
use Rattle.ap_text.proofs.Members.{Contains-none, Contains-head, Contains-cons_cases}
use Rattle.ap_tree.specs.Files.{is_below_lem, names_below, content_at}
use Rattle.ap_config.specs.Configuration.{is_path}
use Rattle.ap_config.specs.declared.config.Config.{Config}
use Rattle.ap_config.specs.declared.config.Folder.{Folder}
use Rattle.ap_config.proofs.Grammars.{path-accepted}
use Rattle.ap_scan.specs.declared.candidate.Candidate.{Candidate}
use Rattle.ap_scan.specs.declared.results.Odd.{Odd}
use Rattle.ap_scan.specs.Winners.{Files, in_folder, HasOwnOrders, IsCandidate, IsOdd}
use Rattle.ap_scan.specs.Candidates.{candidate_of, is_candidate_name, candidates_in, odd_of, odd_in, candidates_of, odds_of, IsFolded}
use Rattle.ap_scan.proofs.Members.{made-from, made-in, all-made}

both : (a b : Bool) → (a && b) ≡ true → (a ≡ true) × (b ≡ true)
both true b e = (refl, e)
both false b e = cc

not-true : (b : Bool) → not b ≡ true → b ≡ false
not-true true e = cc
not-true false e = refl

some-bytes : (bs : List ℕ) → not (length bs == 0) ≡ true → bs ≢ []
some-bytes [] e = cc
some-bytes (b ∷ bs) e = λ none. cc

pub path-from : (bs : List ℕ) → is_path bs ≡ true → IsRelPath bs
path-from bs e =
    let five = both (not (length bs == 0) && nat_le (length bs) 240 && is_utf8 bs && not (has_bad_part_lem bs)) (not (has_bad_byte_lem bs)) e in
    let four = both (not (length bs == 0) && nat_le (length bs) 240 && is_utf8 bs) (not (has_bad_part_lem bs)) five.0 in
    let three = both (not (length bs == 0) && nat_le (length bs) 240) (is_utf8 bs) four.0 in
    let two = both (not (length bs == 0)) (nat_le (length bs) 240) three.0 in
    let short : nat_le (length bs) 240 ≡ true = two.1 in
    record {
      some = some-bytes bs two.0;
      short = grind (arith, short, common_steps);
      text = IsUtf8-from_is_utf8 bs three.1;
      parts = not-true (has_bad_part_lem bs) four.1;
      plain = not-true (has_bad_byte_lem bs) five.1;
    }

-- where a candidate comes from
pub record IsFound (folders : List Folder) (files : Files) (c : Candidate) : Type 0 where
  pub folder : Folder
  pub configured : Contains folders folder
  pub listed : Contains (names_below folder.path files) c.name
  pub named : is_candidate_name folder c.name ≡ true
  pub is : candidate_of folder c.name ≡ c

one-in : {X : Type 0} (test : Bool) (x y : X) → Contains (if test then x ∷ [] else []) y → (test ≡ true) × (x ≡ y)
one-in true x y member = ⊎_elim (λ e. (refl, e)) (λ none. absurd (Contains-none y none)) (Contains-cons_cases x [] y member)
one-in false x y member = absurd (Contains-none y member)

in-one : {X : Type 0} (test : Bool) (x : X) → test ≡ true → Contains (if test then x ∷ [] else []) x
in-one true x e = Contains-head x []
in-one false x e = cc

none-in : {X : Type 0} (test : Bool) (x y : X) → Contains (if test then [] else x ∷ []) y → (test ≡ false) × (x ≡ y)
none-in false x y member = ⊎_elim (λ e. (refl, e)) (λ none. absurd (Contains-none y none)) (Contains-cons_cases x [] y member)
none-in true x y member = absurd (Contains-none y member)

in-none : {X : Type 0} (test : Bool) (x : X) → test ≡ false → Contains (if test then [] else x ∷ []) x
in-none false x e = Contains-head x []
in-none true x e = cc

module _ (folders : List Folder) (files : Files) where
  pub found : (c : Candidate) → Contains (candidates_of files folders) c ↔ IsFound folders files c
  found c = (
    λ member.
        let by_folder = made-from (λ (f : Folder). flat_map (candidates_in f) (names_below f.path files)) folders c member in
        let by_name = made-from (candidates_in by_folder.0) (names_below by_folder.0.path files) c by_folder.2 in
        let one = one-in (is_candidate_name by_folder.0 by_name.0) (candidate_of by_folder.0 by_name.0) c by_name.2 in
        let name : by_name.0 ≡ c.name = ap (λ (d : Candidate). d.name) one.1 in
        record {
          folder = by_folder.0;
          configured = by_folder.1;
          listed = subst (λ (n : List ℕ). Contains (names_below by_folder.0.path files) n) name by_name.1;
          named = subst (λ (n : List ℕ). is_candidate_name by_folder.0 n ≡ true) name one.0;
          is = subst (λ (n : List ℕ). candidate_of by_folder.0 n ≡ c) name one.1;
        },
    λ f. made-in (λ (g : Folder). flat_map (candidates_in g) (names_below g.path files)) folders f.folder c f.configured
        (made-in (candidates_in f.folder) (names_below f.folder.path files) c.name c f.listed
        (subst (λ (d : Candidate). Contains (candidates_in f.folder c.name) d) f.is (in-one (is_candidate_name f.folder c.name) (candidate_of f.folder c.name) f.named))),
  )

-- candidates of one order and name are one
pub one-candidate : (folders : List Folder) (files : Files) (own : HasOwnOrders folders) (a b : Candidate) → IsFound folders files a → IsFound folders files b →
    a.order ≡ b.order → a.name ≡ b.name → a ≡ b
one-candidate folders files own a b fa fb order name =
    let folder : fa.folder ≡ fb.folder = own fa.folder fb.folder fa.configured fb.configured
    (ap (λ (c : Candidate). c.order) fa.is ∙ order ∙ ap (λ (c : Candidate). c.order) (sym fb.is)) in
    sym fa.is ∙ ap (λ (f : Folder). candidate_of f a.name) folder ∙ ap (candidate_of fb.folder) name ∙ fb.is

abbrev odd_at : ℕ → List ℕ → Odd
odd_at order name = record { order = order; name = name }

module _ (config : Config) (files : Files) where
  pub is-candidate : (c : Candidate) → IsFound config.folders files c → IsCandidate config files c.path c.order c.name
  is-candidate c f =
      let path : str_to_ascii_lowercase c.name ≡ c.path = ap (λ (d : Candidate). d.path) f.is in
      let named = both (is_path c.name) (not (some_matches_lem f.folder.exclude (str_to_ascii_lowercase c.name))) f.named in
      record {
        folder = f.folder;
        configured = f.configured;
        ordered = ap (λ (d : Candidate). d.order) f.is;
        listed = f.listed;
        readable = path-from c.name named.0;
        folds = path;
        included = subst (λ (p : List ℕ). some_matches_lem f.folder.exclude p ≡ false) path (not-true (some_matches_lem f.folder.exclude (str_to_ascii_lowercase c.name)) named.1);
      }

  -- the candidate of a file that may stand for a path
  pub record Stands (path : List ℕ) (order : ℕ) (name : List ℕ) : Type 0 where
    pub candidate : Candidate
    pub found : IsFound config.folders files candidate
    pub path_is : candidate.path ≡ path
    pub order_is : candidate.order ≡ order
    pub name_is : candidate.name ≡ name

  pub stands : (path : List ℕ) (order : ℕ) (name : List ℕ) → IsCandidate config files path order name → Stands path order name
  stands path order name is = record {
    candidate = candidate_of is.folder name;
    found = record {
      folder = is.folder;
      configured = is.configured;
      listed = is.listed;
      named = rw (path-accepted name is.readable, is.folds, is.included) refl;
      is = refl;
    };
    path_is = is.folds;
    order_is = is.ordered;
    name_is = refl;
  }

  pub odd-found : (o : Odd) → Contains (odds_of files config.folders) o ↔ IsOdd config files o
  odd-found o = (
    λ member.
        let by_folder = made-from (λ (f : Folder). flat_map (odd_in f) (names_below f.path files)) config.folders o member in
        let by_name = made-from (odd_in by_folder.0) (names_below by_folder.0.path files) o by_folder.2 in
        let one = none-in (is_path by_name.0) (odd_of by_folder.0 by_name.0) o by_name.2 in
        let name : by_name.0 ≡ o.name = ap (λ (d : Odd). d.name) one.1 in (
          record {
            folder = by_folder.0;
            configured = by_folder.1;
            ordered = ap (λ (d : Odd). d.order) one.1;
            listed = subst (λ (n : List ℕ). Contains (names_below by_folder.0.path files) n) name by_name.1;
          },
          λ readable. cc (sym one.0 ∙ ap is_path name ∙ path-accepted o.name readable),
        ),
    λ is. made-in (λ (g : Folder). flat_map (odd_in g) (names_below g.path files)) config.folders is.0.folder o is.0.configured
        (made-in (odd_in is.0.folder) (names_below is.0.folder.path files) o.name o is.0.listed
        (subst (λ (d : Odd). Contains (odd_in is.0.folder o.name) d) (ap (λ (n : ℕ). odd_at n o.name) is.0.ordered)
        (in-none (is_path o.name) (odd_of is.0.folder o.name) (refused (is_path o.name) refl is.1)))),
  )
    where
      refused : (test : Bool) → is_path o.name ≡ test → ¬ IsRelPath o.name → is_path o.name ≡ false
      refused true e unread = absurd (unread (path-from o.name e))
      refused false e unread = e

-- a file below a folder has its path behind the folder's
below-is : (folder path : List ℕ) → is_below_lem folder path ≡ true → path ≡ in_folder folder (drop (length folder + 1) path)
below-is folder path is =
    let parts = both (nat_lt (length folder) (length path) && starts_with nat_eq path folder) (slice_index path (length folder) == 47) is in
    let front = both (nat_lt (length folder) (length path)) (starts_with nat_eq path folder) parts.0 in
    let within : length folder < length path = (Decides-ltb (length folder) (length path)).0 front.0 in
    let begins : path ≡ folder ++ drop (length folder) path = (starts_is Decides-eqb path folder (starts_with nat_eq path folder) refl).0 front.1 in
    let slash : slice_index path (length folder) ≡ 47 = (Decides-eqb (slice_index path (length folder)) 47).0 parts.1 in
    let next : suc (length folder) ≡ length folder + 1 = omega arith in
    let split : drop (length folder) path ≡ slice_index path (length folder) ∷ drop (length folder + 1) path = drop-cons path (length folder) 0 within ∙ ap (λ n. get_or path (length folder) 0 ∷ drop n path) next in
    begins ∙ ap (λ (l : List ℕ). folder ++ l) (split ∙ ap (λ (b : ℕ). b ∷ drop (length folder + 1) path) slash)

pub has-content : (files : Files) (folder name : List ℕ) → Contains (names_below folder files) name → (bytes : List ℕ) × (content_at files (in_folder folder name) ≡ Some bytes)
has-content [] folder name member = absurd (Contains-none name member)
has-content (file ∷ files) folder name member = by_tests (has-content files folder name) (is_below_lem folder file.0) refl (bytes_eq file.0 (in_folder folder name)) refl member
  where
    by_tests : (Contains (names_below folder files) name → (bytes : List ℕ) × (content_at files (in_folder folder name) ≡ Some bytes)) →
        (is_below : Bool) → is_below_lem folder file.0 ≡ is_below → (same : Bool) → bytes_eq file.0 (in_folder folder name) ≡ same →
        Contains (if is_below then drop (length folder + 1) file.0 ∷ names_below folder files else names_below folder files) name →
        (bytes : List ℕ) × ((if same then Some file.1 else content_at files (in_folder folder name)) ≡ Some bytes)
    by_tests later is_below lies true e place = (file.1, refl)
    by_tests later false lies false e place = later place
    by_tests later true lies false e place = ⊎_elim
        (λ here. absurd (cc (sym e ∙ (bytes_eq-Decides file.0 (in_folder folder name)).1 (below-is folder file.0 lies ∙ ap (in_folder folder) here))))
        later
        (Contains-cons_cases (drop (length folder + 1) file.0) (names_below folder files) name place)

-- candidates are under their folded names
pub all-folded : (folder : Folder) (names : List (List ℕ)) → AllByRecursion IsFolded (flat_map (candidates_in folder) names)
all-folded folder names = all-made IsFolded (candidates_in folder) names (λ name. by_test name (is_candidate_name folder name))
  where
    by_test : (name : List ℕ) (test : Bool) → AllByRecursion IsFolded (if test then candidate_of folder name ∷ [] else [])
    by_test name true = (refl, tt)
    by_test name false = tt
