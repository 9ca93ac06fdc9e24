-- The lines of a report.
use Rattle.std.specs.Prelude.{ℕ, ◌+◌, ◌/◌, ◌%◌, nat_lt, List, [], ◌∷◌, ◌++◌, codes, decimal, if◌then◌else◌}
use Rattle.std.specs.List.{flat_map}
use Rattle.ap_builder.specs.declared.entry.Entry.{Entry}
use Rattle.ap_builder.specs.declared.entry.Entry.TheVariants.{Create, Process}
use Rattle.ap_scan.specs.declared.results.Hidden.{Hidden}
use Rattle.ap_scan.specs.declared.results.Odd.{Odd}
use Rattle.ap_cli.specs.declared.ending.Ending.{Ending}
use Rattle.ap_cli.specs.declared.ending.Ending.TheVariants.{Well, Problems}
use Rattle.ap_cli.specs.declared.other_files.OtherFiles.{OtherFiles}
use Rattle.ap_cli.specs.declared.report.Counts.{Counts}

-- words with a space between each two, and a line feed
abbrev pub line_lem : List (List ℕ) → List ℕ
line_lem [] = 10 ∷ []
line_lem (word ∷ []) = word ++ 10 ∷ []
line_lem (word ∷ next ∷ words) = word ++ 32 ∷ line_lem (next ∷ words)

-- the line of an entry
abbrev pub entry_line_lem : Entry → List ℕ
entry_line_lem (Create source builder) = line_lem (codes "create" ∷ builder ∷ source ∷ [])
entry_line_lem (Process id) = line_lem (codes "process" ∷ id.platform ∷ id.key ∷ id.source ∷ [])

-- a label and a number in decimal
abbrev pub labelled_lem : List ℕ → ℕ → List ℕ
labelled_lem label number = label ++ decimal number

-- the line of counts
abbrev pub work_counts_lem : Counts → List ℕ
work_counts_lem counts = labelled_lem (codes "sources ") counts.sources ++ labelled_lem (codes " jobs ") counts.jobs ++ labelled_lem (codes " done ") counts.done

abbrev pub product_counts_lem : Counts → List ℕ
product_counts_lem counts = labelled_lem (codes " published ") counts.published ++ labelled_lem (codes " shadowed ") counts.shadowed

abbrev pub cache_counts_lem : Counts → List ℕ
cache_counts_lem counts = labelled_lem (codes " wrote ") counts.wrote ++ labelled_lem (codes " removed ") counts.removed

abbrev pub counts_line_lem : Counts → List ℕ
counts_line_lem counts = work_counts_lem counts ++ product_counts_lem counts ++ cache_counts_lem counts ++ 10 ∷ []

-- ---- hidden files and odd names

-- a digit of base 16
abbrev pub hex_digit_lem : ℕ → ℕ
hex_digit_lem n = if nat_lt n 10 then n + 48 else n + 87

abbrev pub byte_hex_lem : ℕ → List ℕ
byte_hex_lem byte = hex_digit_lem (byte / 16) ∷ hex_digit_lem (byte % 16) ∷ []

-- bytes, each by two digits
abbrev pub hex_lem : List ℕ → List ℕ
hex_lem bytes = flat_map byte_hex_lem bytes

-- the line of a hidden file, by its name as written
abbrev pub hidden_line_lem : Hidden → List ℕ
hidden_line_lem hidden = line_lem (codes "hidden" ∷ decimal hidden.order ∷ hidden.name ∷ [])

-- the line of an odd name
abbrev pub odd_line_lem : Odd → List ℕ
odd_line_lem odd = line_lem (codes "odd" ∷ decimal odd.order ∷ hex_lem odd.name ∷ [])

abbrev pub other_lines_lem : OtherFiles → List ℕ
other_lines_lem others = flat_map hidden_line_lem others.hidden ++ flat_map odd_line_lem others.odd

-- ---- how a run ends

-- an odd name is a problem, and a hidden file is none
abbrev pub ending_by : List Odd → Ending
ending_by [] = Well
ending_by (odd ∷ others) = Problems

abbrev pub ending_of : OtherFiles → Ending
ending_of others = ending_by others.odd

abbrev pub ending_status : Ending → ℕ
ending_status Well = 0
ending_status Problems = 1

abbrev pub ending_line_lem : Ending → List ℕ
ending_line_lem Well = line_lem (codes "ok" ∷ [])
ending_line_lem Problems = line_lem (codes "problems" ∷ [])

-- the report of a run that asked for these entries and passed over these files
abbrev pub report_lem : List Entry → OtherFiles → Counts → List ℕ
report_lem entries others counts = flat_map entry_line_lem entries ++ other_lines_lem others ++ counts_line_lem counts ++ ending_line_lem (ending_of others)
