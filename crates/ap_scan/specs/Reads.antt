-- The candidates that win, as they are read.
use Rattle.std.specs.Prelude.{ℕ, Bool, true, false, List, map, filter}
use Rattle.ap_text.specs.declared.seen.Seen.{Seen}
use Rattle.ap_text.specs.declared.seen.Seen.TheVariants.{Bytes, Absent, TooLarge}
use Rattle.ap_tree.specs.Files.{content_at, seen_up_to}
use Rattle.ap_scan.specs.declared.candidate.Candidate.{Candidate}
use Rattle.ap_scan.specs.declared.results.Winner.{Winner}
use Rattle.ap_scan.specs.Winners.{Files}

abbrev pub winner_of : Candidate → Seen → Winner
winner_of candidate seen = record { path = candidate.path; order = candidate.order; name = candidate.name; seen = seen }

-- how the tree has it
abbrev pub seen_in : Files → Candidate → Seen
seen_in files candidate = seen_up_to 4194304 (content_at files candidate.file)

abbrev pub winner_in : Files → Candidate → Winner
winner_in files candidate = winner_of candidate (seen_in files candidate)

abbrev pub winners_in : Files → List Candidate → List Winner
winners_in files candidates = map (winner_in files) candidates

abbrev pub is_seen : Seen → Bool
is_seen (Bytes bytes) = true
is_seen Absent = false
is_seen TooLarge = true

-- those that were there
abbrev pub those_there : List Winner → List Winner
those_there = filter (λ winner. is_seen winner.seen)

abbrev pub paths_of : List Candidate → List (List ℕ)
paths_of candidates = map (λ candidate. candidate.path) candidates

abbrev pub winner_paths : List Winner → List (List ℕ)
winner_paths winners = map (λ winner. winner.path) winners
