-- Of candidates in order, the first for each path, and the others.
use Rattle.std.specs.Prelude.{Bool, List, [], ◌∷◌, bytes_eq, if◌then◌else◌}
use Rattle.ap_scan.specs.declared.candidate.Candidate.{Candidate}
use Rattle.ap_scan.specs.declared.results.Hidden.{Hidden}

abbrev pub has_path_of : Candidate → Candidate → Bool
has_path_of first candidate = bytes_eq first.path candidate.path

-- behind the first for a path, which is among them
abbrev pub firsts_from : Candidate → List Candidate → List Candidate
firsts_from first [] = first ∷ []
firsts_from first (candidate ∷ candidates) =
    if has_path_of first candidate then firsts_from first candidates else first ∷ firsts_from candidate candidates

abbrev pub others_from : Candidate → List Candidate → List Candidate
others_from first [] = []
others_from first (candidate ∷ candidates) =
    if has_path_of first candidate then candidate ∷ others_from first candidates else others_from candidate candidates

abbrev pub firsts : List Candidate → List Candidate
firsts [] = []
firsts (candidate ∷ candidates) = firsts_from candidate candidates

abbrev pub others : List Candidate → List Candidate
others [] = []
others (candidate ∷ candidates) = others_from candidate candidates

abbrev pub hidden_of : Candidate → Hidden
hidden_of candidate = record { order = candidate.order; name = candidate.name }
