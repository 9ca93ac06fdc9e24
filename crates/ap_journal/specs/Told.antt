-- Facts of what a disk may tell, and of answers that may be Ok.
use Rattle.std.proofs.Common.{◌≡◌, ℕ, List, Option, Some, None, refl, sym, subst}
use Rattle.std.specs.Prelude.{Result, Ok, Err, IfSome, IfOk, OnOk}
use Rattle.ap_disk.specs.Calls.{TellsAs}
use Rattle.ap_disk.specs.Crashes.{Only}

module _ {X : Type 0} where
  pub every : (told : Option X) (P : X → Type 0) → ((x : X) → P x) → IfSome told P
  every None P p = tt
  every (Some x) P p = p x

  pub one : (told : Option X) (P Q : X → Type 0) → IfSome told P → ((x : X) → P x → Q x) → IfSome told Q
  one None P Q p q = tt
  one (Some x) P Q p q = q x p

  pub two : (told : Option X) (P Q R : X → Type 0) → IfSome told P → IfSome told Q → ((x : X) → P x → Q x → R x) → IfSome told R
  two None P Q R p q r = tt
  two (Some x) P Q R p q r = r x p q

  -- from a file to the next one
  pub onto : (old new : Option X) (F : X → Type 0) (P : X → X → Type 0) (G : X → Type 0) → IfSome old F → TellsAs old new P → ((x y : X) → F x → P x y → G y) → IfSome new G
  onto None None F P G f p g = tt
  onto None (Some y) F P G f p g = absurd p
  onto (Some x) None F P G f p g = tt
  onto (Some x) (Some y) F P G f p g = g x y f p

  -- back to it
  pub back : (old new : Option X) (F : X → Type 0) (P : X → X → Type 0) (G H : X → Type 0) → IfSome old F → TellsAs old new P → IfSome new G → ((x y : X) → F x → P x y → G y → H x) → IfSome old H
  back None new F P G H f p g h = tt
  back (Some x) None F P G H f p g h = absurd p
  back (Some x) (Some y) F P G H f p g h = h x y f p g

  -- over two calls
  pub across : (old mid new : Option X) (F : X → Type 0) (P Q R : X → X → Type 0) → IfSome old F → TellsAs old mid P → TellsAs mid new Q → ((x y z : X) → F x → P x y → Q y z → R x z) → TellsAs old new R
  across None None None F P Q R f p q r = tt
  across None None (Some z) F P Q R f p q r = q
  across None (Some y) new F P Q R f p q r = absurd p
  across (Some x) None new F P Q R f p q r = absurd p
  across (Some x) (Some y) None F P Q R f p q r = q
  across (Some x) (Some y) (Some z) F P Q R f p q r = r x y z f p q

  -- a file that stays
  pub same : (old new : Option X) (F : X → Type 0) (R : X → X → Type 0) → new ≡ old → IfSome old F → ((x y : X) → y ≡ x → F x → R x y) → TellsAs old new R
  same None None F R is f r = tt
  same None (Some y) F R is f r = absurd (cc is)
  same (Some x) None F R is f r = absurd (cc is)
  same (Some x) (Some y) F R is f r = let e : y ≡ x = cc is in r x y e f

module _ {X E : Type 0} where
  pub where_ok : (result : Result X E) (P Q : X → Type 0) → IfOk result P → ((x : X) → P x → Q x) → IfOk result Q
  where_ok (Ok x) P Q p q = q x p
  where_ok (Err stop) P Q p q = tt

  pub on_ok : (result : Result X E) (P Q : Type 0) → OnOk result P → (P → Q) → OnOk result Q
  on_ok (Ok x) P Q p q = q p
  on_ok (Err stop) P Q p q = tt

pub not_some : {X : Type 0} (found : Option X) → ((x : X) → found ≡ Some x → ⊥) → found ≡ None
not_some None never = refl
not_some (Some x) never = absurd (never x refl)

-- nothing is pending still where a crash may leave no more
pub still_durable : (old new : Option (List ℕ)) (may_leave less : List ℕ → Type 0) → new ≡ old → Only old may_leave → ((c : List ℕ) → less c → may_leave c) → Only new less
still_durable old new may_leave less same durable fewer = subst (λ (o : Option (List ℕ)). Only o less) (sym same) (told old durable)
  where
    told : (o : Option (List ℕ)) → Only o may_leave → Only o less
    told None durable = tt
    told (Some x) durable = λ c left. durable c (fewer c left)
