-- What the lines of a source ask for.
use Rattle.std.specs.Prelude.{ℕ, ℤ, Bool, ◌==◌, not, ◌&&◌, nat_le, List, length, Option, Some, None, option_map, if◌then◌else◌}
use Rattle.std.specs.List.{before_last, after_last, filter_map}
use Rattle.std.specs.Str.{is_utf8, str_to_ascii_lowercase}
use Rattle.ap_text.specs.PathRules.{is_rel_path}
use Rattle.ap_text.specs.NameRules.{is_name}
use Rattle.ap_rows.specs.declared.job.DepKind.{DepKind}
use Rattle.ap_rows.specs.declared.job.DepKind.TheVariants.{Order, OrderOnce, Fingerprint}
use Rattle.ap_samples.specs.declared.words.Word.{Word}
use Rattle.ap_samples.specs.declared.words.Word.TheVariants as words
use Rattle.ap_samples.specs.declared.directive.Directive.{Directive}
use Rattle.ap_samples.specs.declared.directive.Directive.TheVariants.{Include, Glob, Job, Key, Priority, Part, Ref, OldSub, Formerly, Fail, Malformed}
use Rattle.ap_samples.specs.Words.{is_space, word_in, argument_in}
use Rattle.ap_samples.specs.Numbers.{number_within, signed_number_lem}

-- ---- arguments

-- the path that the bytes spell, folded
unfoldable pub folded_path : List ℕ → Option (List ℕ)
folded_path bytes = if is_rel_path bytes then Some (str_to_ascii_lowercase bytes) else None

unfoldable pub name_that_is : List ℕ → Option (List ℕ)
name_that_is bytes = if is_name bytes then Some bytes else None

-- UTF-8 of 1 to 240 bytes
abbrev pub is_pattern_lem : List ℕ → Bool
is_pattern_lem bytes = not (length bytes == 0) && nat_le (length bytes) 240 && is_utf8 bytes

unfoldable pub pattern_that_is : List ℕ → Option (List ℕ)
pattern_that_is bytes = if is_pattern_lem bytes then Some bytes else None

-- a 32-bit number
abbrev pub number : List ℕ → Option ℕ
number = number_within 0 4294967295

-- two arguments stand before and behind the last space
abbrev pub former : List ℕ → List ℕ
former argument = before_last is_space argument

abbrev pub latter : List ℕ → List ℕ
latter argument = after_last is_space argument

-- ---- directives

-- what an argument makes, if it is one that the word takes
abbrev pub made_by : {X : Type 0} → (X → Directive) → Option X → Directive
made_by make None = Malformed
made_by make (Some x) = make x

abbrev pub made_by_both : {X Y : Type 0} → (X → Y → Directive) → Option X → Option Y → Directive
made_by_both make None y = Malformed
made_by_both make (Some x) y = made_by (make x) y

-- a dependency on the job of a source and a key
unfoldable pub job_directive : DepKind → List ℕ → Directive
job_directive kind argument = made_by_both (Job kind) (folded_path (former argument)) (name_that_is (latter argument))

-- a dependency on the product of a source and a sub id
unfoldable pub ref_directive : List ℕ → Directive
ref_directive argument = made_by_both Ref (folded_path (former argument)) (number (latter argument))

-- what a word and an argument ask for
abbrev pub directive_by : Word → List ℕ → Directive
directive_by words.Include argument = made_by Include (folded_path argument)
directive_by words.Glob argument = made_by Glob (pattern_that_is argument)
directive_by words.After argument = job_directive Order argument
directive_by words.Once argument = job_directive OrderOnce argument
directive_by words.Print argument = job_directive Fingerprint argument
directive_by words.Key argument = made_by Key (name_that_is argument)
directive_by words.Priority argument = made_by Priority (signed_number_lem argument)
directive_by words.Part argument = made_by Part (name_that_is argument)
directive_by words.Ref argument = ref_directive argument
directive_by words.OldSub argument = made_by OldSub (number argument)
directive_by words.Formerly argument = made_by Formerly (folded_path argument)
directive_by words.Fail argument = made_by Fail (number_within 1 4294967295 argument)

-- what a line asks for, unless it is plain
abbrev pub directive_in : List ℕ → Option Directive
directive_in line = option_map (λ word. directive_by word (argument_in line)) (word_in line)

-- what the lines of a source ask for, in order
abbrev pub directives_in : List (List ℕ) → List Directive
directives_in lines = filter_map directive_in lines
