-- The answers of `copy` keep to what every builder's answers keep to.
use Rattle.std.specs.Prelude.{◌≡◌, ◌<◌, ℕ, zero, suc, slice_index, Bool, true, false, cond, List, [], ◌∷◌, map, Option, Some, IfSome, find, bytes_eq, codes, if◌then◌else◌}
use Rattle.std.specs.List.{AllByRecursion}
use Rattle.std.specs.Str.{str_to_ascii_lowercase}
use Rattle.std.proofs.lemmas.Str.{IsUtf8-from_ascii}
use Rattle.std.proofs.Common.{refl, subst, arith, length-drop, lit<, lit≤}
use Rattle.std.proofs.lemmas.List.{length-map}
use Rattle.ap_text.specs.PathRules.{file_name_lem}
use Rattle.ap_text.proofs.Members.{AllByRecursion-from, Contains-map_cases}
use Rattle.ap_builder.specs.declared.work.CreateInput.{CreateInput}
use Rattle.ap_builder.specs.declared.work.JobInput.{JobInput}
use Rattle.ap_builder.specs.Offers.{HasPatterns}
use Rattle.ap_builder.specs.Paths.{IsShort}
use Rattle.ap_builder.specs.Answers.{DeclaresWell, CreatesFor, MakesWell, IsJobBy}
use Rattle.ap_cli.specs.CopyBuilder.{copy_offers, copy_declares, copy_creates, copy_makes, copy_job, version_in_lem}

-- five bytes of ASCII are a text
five_are_ascii : (a b c d e : ℕ) → a < 128 → b < 128 → c < 128 → d < 128 → e < 128 → (i : ℕ) → slice_index (a ∷ b ∷ c ∷ d ∷ e ∷ []) i < 128
five_are_ascii a b c d e ha hb hc hd he zero = ha
five_are_ascii a b c d e ha hb hc hd he (suc zero) = hb
five_are_ascii a b c d e ha hb hc hd he (suc (suc zero)) = hc
five_are_ascii a b c d e ha hb hc hd he (suc (suc (suc zero))) = hd
five_are_ascii a b c d e ha hb hc hd he (suc (suc (suc (suc zero)))) = he
five_are_ascii a b c d e ha hb hc hd he (suc (suc (suc (suc (suc i))))) = lit< tt

pub copy_patterns : AllByRecursion HasPatterns copy_offers
copy_patterns = (
  (
    record { some = λ e. cc; short = lit≤ tt; text = IsUtf8-from_ascii (codes "*.txt") (five_are_ascii 42 46 116 120 116 (lit< tt) (lit< tt) (lit< tt) (lit< tt) (lit< tt)) },
    (
      record { some = λ e. cc; short = lit≤ tt; text = IsUtf8-from_ascii (codes "*.png") (five_are_ascii 42 46 112 110 103 (lit< tt) (lit< tt) (lit< tt) (lit< tt) (lit< tt)) },
      (record { some = λ e. cc; short = lit≤ tt; text = IsUtf8-from_ascii (codes "*.wav") (five_are_ascii 42 46 119 97 118 (lit< tt) (lit< tt) (lit< tt) (lit< tt) (lit< tt)) }, tt),
    ),
  ),
  tt,
)

pub copy_declared : (builder path bytes : List ℕ) → DeclaresWell bytes (copy_declares builder path bytes)
copy_declared builder path bytes = record { each = tt; short = λ _. lit< tt }

-- the version of a listed builder
first_by : (t : Bool) (listed : List ℕ × ℕ) (found : Option (List ℕ × ℕ)) (version : ℕ) → IfSome found (λ l. version ≡ l.1) →
    IfSome (cond t (Some listed) found) (λ l. (if t then listed.1 else version) ≡ l.1)
first_by true listed found version rest = refl
first_by false listed found version rest = rest

first_listed : (builders : List (List ℕ × ℕ)) (builder : List ℕ) → IfSome (find (λ listed. bytes_eq listed.0 builder) builders) (λ listed. version_in_lem builders builder ≡ listed.1)
first_listed [] builder = tt
first_listed (listed ∷ builders) builder =
    first_by (bytes_eq listed.0 builder) listed (find (λ l. bytes_eq l.0 builder) builders) (version_in_lem builders builder) (first_listed builders builder)

pub copy_created : (builder : List ℕ) (input : CreateInput) → CreatesFor builder input (copy_creates builder input)
copy_created builder input = AllByRecursion-from (IsJobBy builder input) (map (copy_job builder input) input.platforms) (λ job member.
    let from = Contains-map_cases (copy_job builder input) input.platforms job member in
    subst (IsJobBy builder input) from.2 (record {
      named = refl;
      platform = from.1;
      version = first_listed input.builders builder;
      folded = tt;
      short = λ _. (lit< tt, lit< tt);
    }))

-- a file's folded name is no longer than its path
name_short : (path : List ℕ) → IsShort path → IsShort (str_to_ascii_lowercase (file_name_lem path))
name_short path short = rw length-map (omega (arith, short, length-drop {A = ℕ}))

pub copy_made : (input : JobInput) → MakesWell input (copy_makes input)
copy_made input = (
  (
    record {
      refs = tt;
      formerly = tt;
      short = λ path bytes. record { name = name_short input.path path; bytes = bytes; refs = lit< tt; old = lit< tt; formerly = lit< tt };
    },
    tt,
  ),
  λ _. lit< tt,
)
