-- Replacing, adding and leaving out a file of a list of files.
use Rattle.std.proofs.Common.{◌≡◌, ◌≢◌, ℕ, suc, ◌<◌, ◌≤◌, Bool, true, false, ◌&&◌, cond, List, [], ◌∷◌, ◌++◌, length, set, Option, Some, None, is_none, refl, sym, ◌∙◌, ap, subst, arith}
use Rattle.std.specs.List.{remove}
use Rattle.std.specs.Str.{bytes_eq}
use Rattle.std.proofs.lemmas.Slice.Eq.{bytes_eq-Decides}
use Rattle.ap_tree.specs.Files.{content_at, has_distinct_paths}
use Rattle.ap_tree.specs.Changes.{Puts}
use Rattle.ap_tree.specs.Slots.{slot_of}

-- two paths are one, or differ
data Compared (a b : List ℕ) : Type 0 where
  same : a ≡ b → bytes_eq a b ≡ true → Compared a b
  other : a ≢ b → bytes_eq a b ≡ false → Compared a b

compared : (a b : List ℕ) → Compared a b
compared a b = by_test (bytes_eq a b) refl
  where
    by_test : (t : Bool) → bytes_eq a b ≡ t → Compared a b
    by_test true is = same ((bytes_eq-Decides a b).0 is) is
    by_test false is = other (λ e. let t = (bytes_eq-Decides a b).1 e in cc) is

equal : (a : List ℕ) → bytes_eq a a ≡ true
equal a = (bytes_eq-Decides a a).1 refl

apart : (a b : List ℕ) → a ≢ b → bytes_eq a b ≡ false
apart a b ne = elim (compared a b) [ same e t ↦ absurd (ne e) | other _ t ↦ t ]

-- the first file is at the path, or isn't
first : (file : List ℕ × List ℕ) (files : List (List ℕ × List ℕ)) (path : List ℕ) → bytes_eq file.0 path ≡ true → content_at (file ∷ files) path ≡ Some file.1
first file files path is = rw is refl

later : (file : List ℕ × List ℕ) (files : List (List ℕ × List ℕ)) (path : List ℕ) → bytes_eq file.0 path ≡ false → content_at (file ∷ files) path ≡ content_at files path
later file files path is = rw is refl

-- a file in front of equal look-ups
behind : (file : List ℕ × List ℕ) (new old : List (List ℕ × List ℕ)) (path : List ℕ) → content_at new path ≡ content_at old path → content_at (file ∷ new) path ≡ content_at (file ∷ old) path
behind file new old path e = ap (λ c. cond (bytes_eq file.0 path) (Some file.1) c) e

-- both tests hold
left_of : (a b : Bool) → (a && b) ≡ true → a ≡ true
left_of true b d = refl
left_of false b d = d

right_of : (a b : Bool) → (a && b) ≡ true → b ≡ true
right_of true b d = d
right_of false b d = cc

joined : (a b : Bool) → a ≡ true → b ≡ true → (a && b) ≡ true
joined true b x y = y
joined false b x y = x

none_of : (o : Option (List ℕ)) → is_none o ≡ true → o ≡ None
none_of None is = refl
none_of (Some x) is = cc

-- the first file of a path is replaced
pub record Replaced (files : List (List ℕ × List ℕ)) (path bytes : List ℕ) (new : List (List ℕ × List ℕ)) : Type 0 where
  pub puts : Puts files new path (Some bytes)
  pub distinct : has_distinct_paths files ≡ true → has_distinct_paths new ≡ true

replaced_here : (file : List ℕ × List ℕ) (files : List (List ℕ × List ℕ)) (path bytes : List ℕ) → file.0 ≡ path → Replaced (file ∷ files) path bytes ((path, bytes) ∷ files)
replaced_here file files path bytes e =
    record {
      puts = record {
        here = first (path, bytes) files path (equal path);
        others = λ o ne.
            let a : bytes_eq path o ≡ false = apart path o (λ q. ne (sym q)) in
            let b : bytes_eq file.0 o ≡ false = rw e a in
            later (path, bytes) files o a ∙ sym (later file files o b);
      };
      distinct = λ d. rw (sym e) d;
    }

replaced_there : (file : List ℕ × List ℕ) (files new : List (List ℕ × List ℕ)) (path bytes : List ℕ) → file.0 ≢ path → Replaced files path bytes new → Replaced (file ∷ files) path bytes (file ∷ new)
replaced_there file files new path bytes ne r =
    record {
      puts = record {
        here = later file new path (apart file.0 path ne) ∙ r.puts.here;
        others = λ o no. behind file new files o (r.puts.others o no);
      };
      distinct = λ d.
          joined _ _ (ap is_none (r.puts.others file.0 ne) ∙ left_of _ _ d) (r.distinct (right_of _ _ d));
    }

pub replaced : (files : List (List ℕ × List ℕ)) (path bytes : List ℕ) (at : ℕ) → at ≡ slot_of files path → at < length files → Replaced files path bytes (set files at (path, bytes))
replaced [] path bytes at is lt = absurd (omega arith)
replaced (file ∷ files) path bytes at is lt =
    elim (compared file.0 path) [
      | same e t ↦
          let zero : at ≡ 0 = is ∙ (rw t refl) in
          let P : ℕ → Type 0 = λ n. Replaced (file ∷ files) path bytes (set (file ∷ files) n (path, bytes)) in
          subst P (sym zero) (replaced_here file files path bytes e)
      | other ne t ↦
          let next : at ≡ suc (slot_of files path) = is ∙ (rw t refl) in
          let P : ℕ → Type 0 = λ n. Replaced (file ∷ files) path bytes (set (file ∷ files) n (path, bytes)) in
          let below : slot_of files path < length files = omega arith in
          subst P (sym next) (replaced_there file files (set files (slot_of files path) (path, bytes)) path bytes ne (replaced files path bytes (slot_of files path) refl below))
    ]

-- a file is put behind those of other paths
pub added : (files : List (List ℕ × List ℕ)) (path bytes : List ℕ) → content_at files path ≡ None → Replaced files path bytes (files ++ (path, bytes) ∷ [])
added [] path bytes is =
    record {
      puts = record {
        here = first (path, bytes) [] path (equal path);
        others = λ o ne. later (path, bytes) [] o (apart path o (λ q. ne (sym q)));
      };
      distinct = λ d. refl;
    }
added (file ∷ files) path bytes is =
    elim (compared file.0 path) [
      | same e t ↦ let some : content_at (file ∷ files) path ≡ Some file.1 = first file files path t in cc
      | other ne t ↦ replaced_there file files (files ++ (path, bytes) ∷ []) path bytes ne (added files path bytes (sym (later file files path t) ∙ is))
    ]

pub none_at_end : (files : List (List ℕ × List ℕ)) (path : List ℕ) (at : ℕ) → at ≡ slot_of files path → length files ≤ at → content_at files path ≡ None
none_at_end [] path at is le = refl
none_at_end (file ∷ files) path at is le =
    elim (compared file.0 path) [
      | same e t ↦ let zero : at ≡ 0 = is ∙ (rw t refl) in absurd (omega arith)
      | other ne t ↦
          let next : at ≡ suc (slot_of files path) = is ∙ (rw t refl) in
          let above : length files ≤ slot_of files path = omega arith in
          later file files path t ∙ none_at_end files path (slot_of files path) refl above
    ]

-- the file of a path is left out
pub record Dropped (files : List (List ℕ × List ℕ)) (path : List ℕ) (new : List (List ℕ × List ℕ)) : Type 0 where
  pub puts : Puts files new path None
  pub distinct : has_distinct_paths new ≡ true

dropped_here : (file : List ℕ × List ℕ) (files : List (List ℕ × List ℕ)) (path : List ℕ) → file.0 ≡ path → bytes_eq file.0 path ≡ true → has_distinct_paths (file ∷ files) ≡ true → Dropped (file ∷ files) path files
dropped_here file files path e t d =
    record {
      puts = record {
        here = rw (sym e) (none_of (content_at files file.0) (left_of _ _ d));
        others = λ o ne.
            let a : bytes_eq path o ≡ false = apart path o (λ q. ne (sym q)) in
            let b : bytes_eq file.0 o ≡ false = rw e a in
            sym (later file files o b);
      };
      distinct = right_of _ _ d;
    }

dropped_there : (file : List ℕ × List ℕ) (files new : List (List ℕ × List ℕ)) (path : List ℕ) → file.0 ≢ path → has_distinct_paths (file ∷ files) ≡ true → Dropped files path new → Dropped (file ∷ files) path (file ∷ new)
dropped_there file files new path ne d r =
    record {
      puts = record {
        here = later file new path (apart file.0 path ne) ∙ r.puts.here;
        others = λ o no. behind file new files o (r.puts.others o no);
      };
      distinct = joined _ _ (ap is_none (r.puts.others file.0 ne) ∙ left_of _ _ d) r.distinct;
    }

pub dropped : (files : List (List ℕ × List ℕ)) (path : List ℕ) (at : ℕ) → at ≡ slot_of files path → at < length files → has_distinct_paths files ≡ true → Dropped files path (remove files at)
dropped [] path at is lt d = absurd (omega arith)
dropped (file ∷ files) path at is lt d =
    elim (compared file.0 path) [
      | same e t ↦
          let zero : at ≡ 0 = is ∙ (rw t refl) in
          let P : ℕ → Type 0 = λ n. Dropped (file ∷ files) path (remove (file ∷ files) n) in
          subst P (sym zero) (dropped_here file files path e t d)
      | other ne t ↦
          let next : at ≡ suc (slot_of files path) = is ∙ (rw t refl) in
          let P : ℕ → Type 0 = λ n. Dropped (file ∷ files) path (remove (file ∷ files) n) in
          let below : slot_of files path < length files = omega arith in
          subst P (sym next) (dropped_there file files (remove files (slot_of files path)) path ne d (dropped files path (slot_of files path) refl below (right_of _ _ d)))
    ]

-- what the calls leave, by what they copied
pub put_at : (files : List (List ℕ × List ℕ)) (path bytes path' bytes' : List ℕ) (at : ℕ) → path' ≡ path → bytes' ≡ bytes → at ≡ slot_of files path → at < length files → Replaced files path bytes (set files at (path', bytes'))
put_at files path bytes path' bytes' at p b is lt = rw p (rw b (replaced files path bytes at is lt))

pub put_behind : (files : List (List ℕ × List ℕ)) (path bytes path' bytes' : List ℕ) (at : ℕ) → path' ≡ path → bytes' ≡ bytes → at ≡ slot_of files path → length files ≤ at → Replaced files path bytes (files ++ (path', bytes') ∷ [])
put_behind files path bytes path' bytes' at p b is le = rw p (rw b (added files path bytes (none_at_end files path at is le)))

pub unchanged : (files : List (List ℕ × List ℕ)) (path : List ℕ) (at : ℕ) → at ≡ slot_of files path → length files ≤ at → Puts files files path None
unchanged files path at is le = record { here = none_at_end files path at is le; others = λ o ne. refl }
