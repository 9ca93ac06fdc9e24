-- The folders of a configuration that was read have orders of their own.
use Rattle.std.proofs.Common.{◌≡◌, ℕ, Bool, true, false, not, List, [], ◌∷◌, Contains, refl, sym, ◌∙◌, ap, subst, ⊎_elim}
use Rattle.std.specs.Prelude.{◌||◌, nat_eq, Ok}
use Rattle.std.specs.List.{list_any}
use Rattle.std.proofs.lemmas.Bool.Decides.{Decides-eqb}
use Rattle.ap_text.proofs.Members.{Contains-none, Contains-cons_cases}
use Rattle.ap_config.specs.declared.config.Config.{Config}
use Rattle.ap_config.specs.declared.config.Folder.{Folder}
use Rattle.ap_config.specs.declared.offer.Offer.{Offer}
use Rattle.ap_config.specs.declared.fault.ConfigFault.{ConfigFault}
use Rattle.ap_config.specs.declared.fault.ConfigFault.TheVariants.{SameOrder, BadPath}
use Rattle.ap_config.specs.declared.values.FolderValues.{FolderValues}
use Rattle.ap_config.specs.Configuration.{passes, is_path, is_in_cache_lem, orders_differ, each_value, folder_of, config_read, next}
use Rattle.ap_config.proofs.Parts.{next_ok, same_answer, read_is_made}
use Rattle.ap_scan.specs.Winners.{HasOwnOrders}

passed : (test : Bool) (fault : ConfigFault) (u : Unit {0}) → passes test fault ≡ Ok u → test ≡ false
passed true fault u e = cc
passed false fault u e = refl

both-false : (a b : Bool) → (a || b) ≡ false → (a ≡ false) × (b ≡ false)
both-false true b e = cc
both-false false b e = (refl, e)

same-order : (values : FolderValues) (folder : Folder) → folder_of values ≡ Ok folder → folder.order ≡ values.order
same-order values folder e =
    let made = next_ok (passes (not (is_path values.path) || is_in_cache_lem values.path) (BadPath values.path)) _ folder e in
    let is = same_answer made.2 in
    sym (ap (λ (f : Folder). f.order) is)

pub record Own (earlier : List ℕ) (folders : List Folder) : Type 0 where
  pub new : (f : Folder) → Contains folders f → list_any (nat_eq f.order) earlier ≡ false
  pub own : HasOwnOrders folders

own-orders : (values : List FolderValues) (folders : List Folder) (earlier : List ℕ) (u : Unit {0}) → orders_differ earlier values ≡ Ok u → each_value folder_of values ≡ Ok folders → Own earlier folders
own-orders [] folders earlier u differ made = subst (λ (l : List Folder). Own earlier l) none (record { new = λ f member. absurd (Contains-none f member); own = λ a b in_a in_b same. absurd (Contains-none a in_a) })
  where
    none : [] ≡ folders
    none = cc
own-orders (v ∷ vs) folders earlier u differ made =
    let first = next_ok (passes (list_any (nat_eq v.order) earlier) (SameOrder v.order)) (λ _. orders_differ (v.order ∷ earlier) vs) u differ in
    let one = next_ok (folder_of v) (λ y. next (each_value folder_of vs) (λ ys. Ok (y ∷ ys))) folders made in
    let more = next_ok (each_value folder_of vs) (λ ys. Ok (one.0 ∷ ys)) folders one.2 in
    let whole : one.0 ∷ more.0 ≡ folders = cc more.2 in
    let later = own-orders vs more.0 (v.order ∷ earlier) u first.2 more.1 in
    subst (λ (l : List Folder). Own earlier l) whole (joined one.0 more.0 (same-order v one.0 one.1) (passed (list_any (nat_eq v.order) earlier) (SameOrder v.order) first.0 first.1) later)
  where
    joined : (f : Folder) (fs : List Folder) → f.order ≡ v.order → list_any (nat_eq v.order) earlier ≡ false → Own (v.order ∷ earlier) fs → Own earlier (f ∷ fs)
    joined f fs order unused later = record {
      new = λ g member. ⊎_elim
          (λ e. ap (λ n. list_any (nat_eq n) earlier) (sym (ap (λ (x : Folder). x.order) e) ∙ order) ∙ unused)
          (λ behind. (both-false (nat_eq g.order v.order) (list_any (nat_eq g.order) earlier) (later.new g behind)).1)
          (Contains-cons_cases f fs g member);
      own = λ a b in_a in_b same. ⊎_elim
          (λ here_a. ⊎_elim (λ here_b. sym here_a ∙ here_b)
          (λ far_b. absurd (apart b far_b (sym same ∙ sym (ap (λ (x : Folder). x.order) here_a) ∙ order)))
          (Contains-cons_cases f fs b in_b))
          (λ far_a. ⊎_elim (λ here_b. absurd (apart a far_a (same ∙ sym (ap (λ (x : Folder). x.order) here_b) ∙ order)))
          (λ far_b. later.own a b far_a far_b same)
          (Contains-cons_cases f fs b in_b))
          (Contains-cons_cases f fs a in_a);
    }
      where
        apart : (g : Folder) → Contains fs g → g.order ≡ v.order → ⊥
        apart g member same = cc (sym ((both-false (nat_eq g.order v.order) (list_any (nat_eq g.order) earlier) (later.new g member)).0) ∙ (Decides-eqb g.order v.order).1 same)

pub read-has-own-orders : (bytes : List ℕ) (offered : List Offer) (config : Config) → config_read bytes offered ≡ Ok config → HasOwnOrders config.folders
read-has-own-orders bytes offered config e =
    let made = (read_is_made bytes offered config e).1 in
    (own-orders (read_is_made bytes offered config e).0.folders config.folders [] tt made.orders made.folders).own
