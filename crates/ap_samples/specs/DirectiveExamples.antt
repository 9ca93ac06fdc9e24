-- What some lines and sources ask for, by the definitions.
use Rattle.std.specs.Prelude.{◌≡◌, ℕ, List, [], ◌∷◌, ◌++◌, Some, None, codes, pos, negsuc, refl, true, false}
use Rattle.std.specs.Str.{chars, is_utf8}
use Rattle.std.specs.Str.Lines.{lines}
use Rattle.std.specs.Char.{encode_utf8}
use Rattle.ap_text.specs.PathRules.{is_rel_path}
use Rattle.ap_text.specs.NameRules.{is_name}
use Rattle.ap_rows.specs.declared.job.DepKind.TheVariants.{Order, OrderOnce, Fingerprint}
use Rattle.ap_samples.specs.declared.directive.Directive.TheVariants.{Include, Glob, Job, Key, Priority, Part, Ref, OldSub, Formerly, Fail, Malformed}
use Rattle.ap_samples.specs.Words.{word_by}
use Rattle.ap_samples.specs.Directives.{folded_path, name_that_is, pattern_that_is, job_directive, ref_directive, directive_in}

-- ---- lines

-- a carriage return is dropped before a line feed alone, and a last piece is a line where it isn't empty
pub cut : lines (codes "a" ++ (13 ∷ 10 ∷ 10 ∷ codes "b" ++ (13 ∷ []))) ≡ codes "a" ∷ [] ∷ (codes "b" ++ (13 ∷ [])) ∷ []
cut = refl

pub cut_whole : lines (codes "a\n") ≡ codes "a" ∷ []
cut_whole = refl

pub cut_nothing : lines [] ≡ []
cut_nothing = refl

-- ---- plain lines

pub other_word : directive_in (codes "@includex a") ≡ None
unfolding word_by
other_word = refl

-- a word ends at a space alone
pub tab : directive_in (codes "@fail" ++ (9 ∷ codes "7")) ≡ None
unfolding word_by
tab = refl

pub space_first : directive_in (codes " @fail 7") ≡ None
space_first = refl

pub upper_case : directive_in (codes "@Fail 7") ≡ None
unfolding word_by
upper_case = refl

-- ---- directives

pub include : directive_in (codes "@include Maps/A b.INC") ≡ Some (Include (codes "maps/a b.inc"))
unfolding chars is_utf8 encode_utf8 is_rel_path word_by folded_path
include = refl

pub glob : directive_in (codes "@glob Maps/*.txt") ≡ Some (Glob (codes "Maps/*.txt"))
unfolding chars is_utf8 encode_utf8 word_by pattern_that_is
glob = refl

-- two arguments stand before and behind the last space
pub after : directive_in (codes "@after a b.mat flat") ≡ Some (Job Order (codes "a b.mat") (codes "flat"))
unfolding chars is_utf8 encode_utf8 is_rel_path is_name word_by folded_path name_that_is job_directive
after = refl

pub once : directive_in (codes "@once A.mat k-1") ≡ Some (Job OrderOnce (codes "a.mat") (codes "k-1"))
unfolding chars is_utf8 encode_utf8 is_rel_path is_name word_by folded_path name_that_is job_directive
once = refl

pub print : directive_in (codes "@print a.mat flat") ≡ Some (Job Fingerprint (codes "a.mat") (codes "flat"))
unfolding chars is_utf8 encode_utf8 is_rel_path is_name word_by folded_path name_that_is job_directive
print = refl

pub key : directive_in (codes "@key k") ≡ Some (Key (codes "k"))
unfolding is_name word_by name_that_is
key = refl

pub least_priority : directive_in (codes "@priority -2147483648") ≡ Some (Priority (negsuc 2147483647))
unfolding word_by
least_priority = refl

pub part : directive_in (codes "@part a") ≡ Some (Part (codes "a"))
unfolding is_name word_by name_that_is
part = refl

pub ref : directive_in (codes "@ref A.mat 0") ≡ Some (Ref (codes "a.mat") 0)
unfolding chars is_utf8 encode_utf8 is_rel_path word_by folded_path ref_directive
ref = refl

pub old_sub : directive_in (codes "@oldsub 4294967295") ≡ Some (OldSub 4294967295)
unfolding word_by
old_sub = refl

pub formerly : directive_in (codes "@formerly B.mat") ≡ Some (Formerly (codes "b.mat"))
unfolding chars is_utf8 encode_utf8 is_rel_path word_by folded_path
formerly = refl

pub fail : directive_in (codes "@fail 7") ≡ Some (Fail 7)
unfolding word_by
fail = refl

-- ---- malformed lines

pub no_argument : directive_in (codes "@include") ≡ Some Malformed
unfolding chars is_utf8 encode_utf8 is_rel_path word_by folded_path
no_argument = refl

-- the second space belongs to the argument
pub two_spaces : directive_in (codes "@key  k") ≡ Some Malformed
unfolding is_name word_by name_that_is
two_spaces = refl

pub one_of_two : directive_in (codes "@after flat") ≡ Some Malformed
unfolding chars is_utf8 encode_utf8 is_rel_path is_name word_by folded_path name_that_is job_directive
one_of_two = refl

pub minus_zero : directive_in (codes "@priority -0") ≡ Some Malformed
unfolding word_by
minus_zero = refl

pub leading_zero : directive_in (codes "@oldsub 01") ≡ Some Malformed
unfolding word_by
leading_zero = refl

pub plus : directive_in (codes "@priority +1") ≡ Some Malformed
unfolding word_by
plus = refl

pub zero_failure : directive_in (codes "@fail 0") ≡ Some Malformed
unfolding word_by
zero_failure = refl

pub too_great : directive_in (codes "@oldsub 4294967296") ≡ Some Malformed
unfolding word_by
too_great = refl

pub return_at_the_end : directive_in (codes "@include b.inc" ++ (13 ∷ [])) ≡ Some Malformed
unfolding chars is_utf8 encode_utf8 is_rel_path word_by folded_path
return_at_the_end = refl
