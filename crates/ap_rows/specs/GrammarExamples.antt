-- The grammar and the spelling, at bytes that were written by hand.
use Rattle.std.specs.Prelude.{◌≡◌, ℕ, List, [], ◌∷◌, codes, refl, Ok, Err, negsuc}
use Rattle.std.specs.Str.{chars, is_utf8}
use Rattle.std.specs.Char.{encode_utf8}
use Rattle.ap_text.specs.declared.job_id.JobId.{JobId}
use Rattle.ap_rows.specs.declared.job.DepKind.TheVariants.{Fingerprint}
use Rattle.ap_rows.specs.declared.job.Created.TheVariants.{Jobs, DuplicateKey}
use Rattle.ap_rows.specs.declared.row.SeenRow.TheVariants.{Bytes}
use Rattle.ap_rows.specs.declared.row.OutcomeRow.TheVariants.{Done, Failed}
use Rattle.ap_rows.specs.declared.row.JobResult.TheVariants.{Processed, Missing}
use Rattle.ap_rows.specs.declared.change.Item.{Item}
use Rattle.ap_rows.specs.declared.change.Item.TheVariants.{Define, Drop, PutSource, RemoveSource, PutCreate, RemoveCreate, PutJob, RemoveJob, PutFolders}
use Rattle.ap_text.specs.PathRules.{is_rel_path}
use Rattle.ap_text.specs.NameRules.{is_name, is_platform}
use Rattle.ap_rows.specs.Readers.{is_folded, raw_path, path, name, platform, job_id}
use Rattle.ap_rows.specs.Grammar.{thing_number, kind_by, dep_kind, dependency, job_desc, seen_by, seen, created_by, created, outcome_by, outcome, result_by, job_result, folder_row, source_row, create_row, job_row, define, item_by, item, items_from, decoded}
use Rattle.ap_rows.specs.Spelling.{spelled}

-- the payload of the first commit of a project without files
pub one_folder : decoded (9 ∷ 0 ∷ 0 ∷ 0 ∷ 1 ∷ 0 ∷ 0 ∷ 0 ∷ 0 ∷ 0 ∷ 4 ∷ codes "game") ≡ Ok (PutFolders (record { order = 0; path = codes "game" } ∷ []) ∷ [])
unfolding chars is_utf8 encode_utf8 is_rel_path raw_path folder_row item_by item items_from decoded
one_folder = refl

pub one_folder_spelled : spelled (PutFolders (record { order = 0; path = codes "game" } ∷ []) ∷ []) ≡ 9 ∷ 0 ∷ 0 ∷ 0 ∷ 1 ∷ 0 ∷ 0 ∷ 0 ∷ 0 ∷ 0 ∷ 4 ∷ codes "game"
one_folder_spelled = refl

pub nothing : decoded [] ≡ Ok []
unfolding items_from decoded
nothing = refl

pub no_item : decoded (255 ∷ []) ≡ Err 0
unfolding item_by item items_from decoded
no_item = refl

-- the second item has a path that isn't folded
pub a_second_item : decoded (2 ∷ 0 ∷ 0 ∷ 0 ∷ 0 ∷ 0 ∷ 0 ∷ 0 ∷ 1 ∷ 4 ∷ 0 ∷ 1 ∷ codes "A") ≡ Err 9
unfolding chars is_utf8 encode_utf8 is_rel_path is_folded raw_path path thing_number item_by item items_from decoded
a_second_item = refl

abbrev job : List ℕ → JobId
job source = record { source = source; key = codes "k"; platform = codes "pc" }

-- an item of each kind
abbrev items : List Item
items = Define 0 (codes "text") [] ∷ Define 3 [] (record { 0 = 1 } ∷ record { 0 = 2 } ∷ []) ∷ Drop (record { 0 = 513 })
    ∷ PutSource (record { path = codes "a.mat"; order = 20; name = codes "A.mat"; seen = Bytes (record { 0 = 1 }) }) ∷ RemoveSource (codes "b")
    ∷ PutCreate (record { source = codes "a"; input = record { 0 = 7 }; created = Jobs (record { builder = codes "b"; version = 1; platform = codes "pc"; key = codes "k"; priority = negsuc 4; params = codes "p"; deps = record { kind = Fingerprint; job = job (codes "c") } ∷ [] } ∷ []) })
    ∷ PutCreate (record { source = codes "a"; input = record { 0 = 7 }; created = DuplicateKey (codes "k") (codes "pc") }) ∷ RemoveCreate (codes "a")
    ∷ PutJob (record { id = job (codes "a"); result = Processed (record { 0 = 3 }) (Done (record { 0 = 4 })) }) ∷ PutJob (record { id = job (codes "a"); result = Processed (record { 0 = 3 }) (Failed 9) })
    ∷ PutJob (record { id = job (codes "b"); result = Missing (job (codes "c")) }) ∷ RemoveJob (job (codes "d")) ∷ []

pub read_as_spelled : decoded (spelled items) ≡ Ok items
unfolding chars is_utf8 encode_utf8 is_rel_path is_folded is_name is_platform raw_path path name platform job_id thing_number kind_by dep_kind dependency job_desc seen_by seen created_by created outcome_by outcome result_by job_result folder_row source_row create_row job_row define item_by item items_from decoded
read_as_spelled = refl
