-- How a number, a text and a list are spelled in bytes, the highest byte first.
use Rattle.std.specs.Prelude.{ℕ, Bool, List, ◌++◌, length, ◌==◌, ◌||◌}
use Rattle.std.specs.List.{flat_map}
use Rattle.std.specs.Int.{bytes_high_first}
use Rattle.ap_text.specs.declared.job_id.JobId.{JobId}

-- the widths of numbers
abbrev pub is_width : ℕ → Bool
is_width width = width == 1 || width == 2 || width == 4 || width == 8

-- a number of so many bytes
abbrev pub number_field : ℕ → ℕ → List ℕ
number_field width n = bytes_high_first width n

-- a length of so many bytes, and the bytes
abbrev pub run_field : ℕ → List ℕ → List ℕ
run_field width bytes = number_field width (length bytes) ++ bytes

-- a count of so many bytes, and the items
abbrev pub list_field : {X : Type 0} → ℕ → (X → List ℕ) → List X → List ℕ
list_field width item items = number_field width (length items) ++ flat_map item items

-- a path, or a file's name
abbrev pub path_field : List ℕ → List ℕ
path_field = run_field 2

-- a name, or a platform
abbrev pub name_field : List ℕ → List ℕ
name_field = run_field 1

-- a job id
abbrev pub job_field : JobId → List ℕ
job_field job = path_field job.source ++ name_field job.key ++ name_field job.platform
