-- From the clauses of an answer that may be Ok to others.
use Rattle.std.proofs.Common.{◌≡◌, refl, subst}
use Rattle.std.specs.Prelude.{Result, Ok, Err, IfOk, OnOk, IfErr, OnErr}

module _ {X E : Type 0} where
  pub on_ok : (result : Result X E) (P : X → Type 0) (Q : Type 0) → IfOk result P → ((x : X) → P x → Q) → OnOk result Q
  on_ok (Ok x) P Q p to = to x p
  on_ok (Err stop) P Q p to = tt

  pub if_ok : (result : Result X E) (P R S : X → Type 0) → IfOk result P → IfOk result R → ((x : X) → P x → R x → S x) → IfOk result S
  if_ok (Ok x) P R S p r to = to x p r
  if_ok (Err stop) P R S p r to = tt

module _ {X E : Type 0} where
  pub on_five : (result : Result X E) (A B C D F Q : Type 0) → OnOk result A → OnOk result B → OnOk result C → OnOk result D → OnOk result F → (A → B → C → D → F → Q) → OnOk result Q
  on_five (Ok x) A B C D F Q a b c d f to = to a b c d f
  on_five (Err stop) A B C D F Q a b c d f to = tt

  pub if_err : (result : Result X E) (P : E → Type 0) → ((stop : E) → result ≡ Err stop → P stop) → IfErr result P
  if_err (Ok x) P to = tt
  if_err (Err stop) P to = to stop refl

  pub err_of : (result : Result X E) (P : E → Type 0) (stop : E) → IfErr result P → result ≡ Err stop → P stop
  err_of (Ok x) P stop p is = absurd (cc is)
  err_of (Err other) P stop p is = subst P (cc is) p

  pub on_err : (result : Result X E) (Q : Type 0) → ((stop : E) → result ≡ Err stop → Q) → OnErr result Q
  on_err (Ok x) Q to = tt
  on_err (Err stop) Q to = to stop refl

  pub on_map : (result : Result X E) (A Q : Type 0) → OnOk result A → (A → Q) → OnOk result Q
  on_map (Ok x) A Q a to = to a
  on_map (Err stop) A Q a to = tt

  pub err_map : (result : Result X E) (A Q : Type 0) → OnErr result A → (A → Q) → OnErr result Q
  err_map (Ok x) A Q a to = tt
  err_map (Err stop) A Q a to = to a

  pub on_three : (result : Result X E) (A B C Q : Type 0) → OnOk result A → OnOk result B → OnOk result C → (A → B → C → Q) → OnOk result Q
  on_three (Ok x) A B C Q a b c to = to a b c
  on_three (Err stop) A B C Q a b c to = tt
