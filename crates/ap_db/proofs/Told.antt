-- Facts of answers that may be Ok, and of what may be there.
use Rattle.std.proofs.Common.{Result, Ok, Err}
use Rattle.std.specs.Prelude.{IfOk, OnOk, IsErrOf}

module _ {X E : Type 0} where
  pub where_ok : (result : Result X E) (P Q : X → Type 0) → IfOk result P → ((x : X) → P x → Q x) → IfOk result Q
  where_ok (Ok x) P Q p q = q x p
  where_ok (Err stop) P Q p q = tt

  pub on_ok : (result : Result X E) (P Q : Type 0) → OnOk result P → (P → Q) → OnOk result Q
  on_ok (Ok x) P Q p q = q p
  on_ok (Err stop) P Q p q = tt

-- an error is one whatever the answer would have been
pub err_moved : {S T E : Type 0} (stop e : E) → IsErrOf {T = S} (Err stop) e → IsErrOf {T = T} (Err stop) e
err_moved stop e h = cc h
