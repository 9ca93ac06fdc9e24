-- The order in which a product is found by its platform and id.
use Rattle.std.specs.Prelude.{ℕ, Bool, List, map}
use Rattle.std.specs.Ordering.{nat_cmp, on, then_cmp, is_lt}
use Rattle.std.specs.declared.cmp.Ordering.{Ordering}
use Rattle.std.specs.List.Sorted.{IsPermutation, IsSortedBy}
use Rattle.ap_text.specs.Order.{bytes_cmp}
use Rattle.ap_text.specs.declared.job_id.AssetId.{AssetId}
use Rattle.ap_handles.specs.declared.entry.HallEntry.{HallEntry}
use Rattle.ap_handles.specs.Publishing.{AreDistinct}

-- what a product is found by
pub record Key : Type 0 where
  pub platform : List ℕ
  pub id : AssetId

abbrev pub key : List ℕ → AssetId → Key
key platform id = record { platform = platform; id = id }

abbrev pub key_of : HallEntry → Key
key_of e = key e.platform e.id

-- by platform, then by UUID, then by sub id
abbrev pub key_cmp : Key → Key → Ordering
key_cmp = then_cmp (on (λ k. k.platform) bytes_cmp) (then_cmp (on (λ k. k.id.uuid) bytes_cmp) (on (λ k. k.id.sub) nat_cmp))

abbrev pub is_below : HallEntry → HallEntry → Bool
is_below a b = is_lt (key_cmp (key_of a) (key_of b))

-- things that have the products of a publication as their values, in the order of the keys
pub record IsIndexOf {A : Type 0} (value : A → HallEntry) (published : List HallEntry) (by_key : List A) : Type 0 where
  pub distinct : AreDistinct published
  pub same : IsPermutation published (map value by_key)
  pub sorted : IsSortedBy (λ a b. is_below (value a) (value b)) by_key
