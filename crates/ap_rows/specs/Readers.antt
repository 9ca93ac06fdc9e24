-- Forms that bytes may begin with: numbers, runs, lists, paths and names.
use Rattle.std.specs.Prelude.{◌≡◌, ℕ, zero, suc, ◌+◌, ◌*◌, Bool, not, List, [], ◌∷◌, length, take, drop, Option, Some, None, ◌==◌, ◌&&◌, nat_le, if◌then◌else◌, option_and_then}
use Rattle.std.specs.List.{list_all}
use Rattle.std.specs.Str.{is_utf8}
use Rattle.ap_text.specs.PathRules.{is_rel_path}
use Rattle.ap_text.specs.NameRules.{is_name, is_platform, is_file_name}
use Rattle.ap_text.specs.declared.job_id.JobId.{JobId}

-- what begins a list of bytes, and the bytes behind it; None where nothing of this form begins it
abbrev pub Reader : Type 0 → Type 0
Reader X = List ℕ → Option (X × List ℕ)

-- one form, and then the next
infixl 20 ◌>>=◌
abbrev pub ◌>>=◌ : {X Y : Type 0} → Reader X → (X → Reader Y) → Reader Y
◌>>=◌ first next bytes = option_and_then (λ read. next read.0 read.1) (first bytes)

-- a value, of no bytes
abbrev pub gives : {X : Type 0} → X → Reader X
gives x bytes = Some (x, bytes)

-- no form at all
abbrev pub refuses : {X : Type 0} → Reader X
refuses bytes = None

-- only where the value passes the test
abbrev pub that : {X : Type 0} → (X → Bool) → Reader X → Reader X
that test reader = reader >>= λ x. if test x then gives x else refuses

-- the number whose digits these bytes are, behind those of n
abbrev pub value_onto : ℕ → List ℕ → ℕ
value_onto n [] = n
value_onto n (b ∷ bytes) = value_onto (n * 256 + b) bytes

-- so many bytes
abbrev pub bytes_of : ℕ → Reader (List ℕ)
bytes_of n bytes = if nat_le n (length bytes) then Some (take n bytes, drop n bytes) else None

-- a number of so many bytes, the highest first
abbrev pub number : ℕ → Reader ℕ
number width = bytes_of width >>= λ digits. gives (value_onto 0 digits)

-- a length of so many bytes, and the bytes
abbrev pub run_of : ℕ → Reader (List ℕ)
run_of width = number width >>= bytes_of

-- so many items
abbrev pub times : {X : Type 0} → Reader X → ℕ → Reader (List X)
times item zero = gives []
times item (suc n) = item >>= λ x. times item n >>= λ xs. gives (x ∷ xs)

-- a count of so many bytes, and the items
abbrev pub list_of : {X : Type 0} → ℕ → Reader X → Reader (List X)
list_of width item = number width >>= times item

-- they have no upper-case letter of ASCII
unfoldable pub is_folded : List ℕ → Bool
is_folded path = list_all (λ b. not (nat_le 65 b && nat_le b 90)) path

-- any relative path
unfoldable pub raw_path : Reader (List ℕ)
raw_path = that is_rel_path (run_of 2)

-- a folded relative path
unfoldable pub path : Reader (List ℕ)
path = that is_folded raw_path

unfoldable pub name : Reader (List ℕ)
name = that is_name (run_of 1)

unfoldable pub platform : Reader (List ℕ)
platform = that is_platform (run_of 1)

unfoldable pub file_name : Reader (List ℕ)
file_name = that is_file_name (run_of 2)

-- a job id
unfoldable pub job_id : Reader JobId
job_id = path >>= λ source. name >>= λ key. platform >>= λ platform. gives (record { source = source; key = key; platform = platform })

-- reading left new of old and gave this, or left all where the form doesn't begin it
abbrev pub Reads : {X : Type 0} → Reader X → List ℕ → List ℕ → Option X → Type 0
Reads reader old new None = (reader old ≡ None) × (new ≡ old)
Reads reader old new (Some x) = reader old ≡ Some (x, new)
