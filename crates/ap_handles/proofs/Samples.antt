-- Products of the tests.
use Rattle.std.proofs.Common.{◌≡◌, ℕ, List, [], ◌∷◌, zero, suc, ◌<◌, length, ◌≤◌, arith, refl, sym, subst}
use Rattle.std.specs.Prelude.{slice_index}
use Rattle.std.specs.List.{AllByRecursion}
use Rattle.std.proofs.lemmas.Str.{IsUtf8-from_ascii}
use Rattle.ap_handles.specs.declared.entry.HallEntry.{HallEntry}
use Rattle.ap_handles.specs.Publishing.{IsProductPath, ArePublishable}

ascii : (bs : List ℕ) → AllByRecursion (λ b. b < 128) bs → (i : ℕ) → slice_index bs i < 128
ascii [] a i = omega arith
ascii (b ∷ bs) a zero = a.0
ascii (b ∷ bs) a (suc i) = ascii bs a.1 i

-- the path `a.flat`
pub is_flat_path : (path : List ℕ) → path ≡ 97 ∷ 46 ∷ 102 ∷ 108 ∷ 97 ∷ 116 ∷ [] → IsProductPath path
is_flat_path path is = subst IsProductPath (sym is) record {
  some = λ e. cc e;
  short = omega arith;
  text = IsUtf8-from_ascii _ (ascii (97 ∷ 46 ∷ 102 ∷ 108 ∷ 97 ∷ 116 ∷ []) (omega arith, (omega arith, (omega arith, (omega arith, (omega arith, (omega arith, tt)))))));
  parts = refl;
  plain = refl;
  folded = refl;
}

-- one product by itself
pub one_publishable : (entries : List HallEntry) (entry : HallEntry) → entries ≡ entry ∷ [] → IsProductPath entry.path → length entry.bytes ≤ 268435456 → ArePublishable entries
one_publishable entries entry is path short = subst ArePublishable (sym is) record { distinct = (refl, tt); each = (record { path = path; short = short }, tt) }
