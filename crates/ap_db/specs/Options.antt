-- What follows where an answer is there.
use Rattle.std.proofs.Common.{◌≡◌, Bool, true, false, not, cond, Option, Some, None, refl, option_map, option_and_then}

module _ {X Y : Type 0} where
  pub from_map_some : (f : X → Y) (o : Option X) (y : Y) → option_map f o ≡ Some y → (x : X) × (o ≡ Some x) × (f x ≡ y)
  from_map_some f None y e = absurd (cc e)
  from_map_some f (Some x) y e = (x, refl, cc e)

  pub from_then_some : (f : X → Option Y) (o : Option X) (y : Y) → option_and_then f o ≡ Some y → (x : X) × (o ≡ Some x) × (f x ≡ Some y)
  from_then_some f None y e = absurd (cc e)
  from_then_some f (Some x) y e = (x, refl, e)

module _ {X : Type 0} where
  pub where_some : (b : Bool) (o : Option X) (y : X) → cond b o None ≡ Some y → (b ≡ true) × (o ≡ Some y)
  where_some true o y e = (refl, e)
  where_some false o y e = absurd (cc e)

  pub where_none : (b : Bool) (o : Option X) (y : X) → cond b None o ≡ Some y → (b ≡ false) × (o ≡ Some y)
  where_none true o y e = absurd (cc e)
  where_none false o y e = (refl, e)

pub no_is : (b : Bool) → not b ≡ true → b ≡ false
no_is true e = absurd (cc e)
no_is false e = refl
