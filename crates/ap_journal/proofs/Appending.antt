-- A journal after an append.
use Rattle.std.proofs.Common.{◌≡◌, ℕ, ◌+◌, ◌^◌, ◌<◌, List, [], ◌∷◌, ◌++◌, length, Option, IfSome, ◌∙◌, ap, arith, append_assoc}
use Rattle.ap_disk.specs.Calls.{TellsAs}
use Rattle.ap_journal.specs.Records.{standing}
use Rattle.ap_journal.specs.Changes.{IsCommitted, frame}
use Rattle.ap_journal.specs.State.{State, IsPlace, IsFileOf}
use Rattle.ap_journal.specs.Told.{onto}

-- the places of the records before are places
same_place : (old new : List ℕ) (payload : List ℕ) (at : ℕ) → IsPlace old at → standing new ≡ standing old ++ payload ∷ [] → IsPlace new at
same_place old new payload at is same = record {
  before = is.before;
  behind = is.behind ++ payload ∷ [];
  are = same ∙ ap (λ (l : List (List ℕ)). l ++ payload ∷ []) is.are ∙ append_assoc is.before is.behind (payload ∷ []);
  here = is.here;
}

after_commit : (journal : State) (reserved : ℕ) (bytes payload old new : List ℕ) → length payload < 2 ^ 32 → bytes ≡ frame payload → IsFileOf journal old → IsCommitted bytes old new
    → IsFileOf (record journal { size = journal.size + (length payload + 5); reserved = reserved }) new
after_commit journal reserved bytes payload old new fits framed is committed =
    let all = committed payload fits framed in
    record { rests = all.0; size = omega (arith, all.2, is.size); place = same_place old new payload journal.cursor is.place all.1 }

-- the journal's file after a commit
pub file_after_commit : (told_old told_new : Option (List ℕ)) (journal : State) (reserved : ℕ) (bytes payload : List ℕ) → length payload < 2 ^ 32 → bytes ≡ frame payload
    → IfSome told_old (IsFileOf journal) → TellsAs told_old told_new (IsCommitted bytes) → IfSome told_new (IsFileOf (record journal { size = journal.size + (length payload + 5); reserved = reserved }))
file_after_commit told_old told_new journal reserved bytes payload fits framed file committed =
    onto told_old told_new (IsFileOf journal) (IsCommitted bytes) (IsFileOf (record journal { size = journal.size + (length payload + 5); reserved = reserved })) file committed
    (λ x y is done. after_commit journal reserved bytes payload x y fits framed is done)
