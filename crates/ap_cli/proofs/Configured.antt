-- The builders of a configuration that was read are offered.
use Rattle.std.proofs.Common.{◌≡◌, ℕ, Bool, true, false, List, [], ◌∷◌, ◌++◌, refl, sym, ap, subst}
use Rattle.std.specs.Prelude.{◌||◌, cond, Option, Some, None, Result, Ok, Err, IsTrue, bytes_eq, is_some}
use Rattle.std.specs.List.{AllByRecursion}
use Rattle.std.specs.Option.{ok_or}
use Rattle.std.proofs.lemmas.Slice.Eq.{bytes_eq-Decides}
use Rattle.ap_text.proofs.Members.{AllByRecursion-join}
use Rattle.ap_config.specs.Configuration.{passes, offer_of, configured, config_read, builders_of}
use Rattle.ap_config.specs.declared.config.Config.{Config}
use Rattle.ap_config.specs.declared.fault.ConfigFault.{ConfigFault}
use Rattle.ap_config.specs.declared.fault.ConfigFault.TheVariants.{UnknownBuilder}
use Rattle.ap_config.specs.declared.offer.Offer.{Offer}
use Rattle.ap_config.specs.declared.values.BuilderValues.{BuilderValues}
use Rattle.ap_config.proofs.Parts.{next_ok, same_answer, read_is_made}
use Rattle.ap_builder.specs.Offers.{is_offered}

some_of : {X : Type 0} (o : Option X) (fault : ConfigFault) (x : X) → ok_or o fault ≡ Ok x → o ≡ Some x
some_of (Some x) fault y e = cc
some_of None fault y e = cc

abbrev pub IsOffered : List Offer → Offer → Type 0
IsOffered offered offer = IsTrue (is_offered offered offer.name)

-- an offer that is found is offered
found_is_offered : (offered : List Offer) (name : List ℕ) (offer : Offer) → offer_of offered name ≡ Some offer → IsTrue (is_offered offered offer.name)
found_is_offered [] name offer e = cc
found_is_offered (first ∷ offered) name offer e = by_test (bytes_eq first.name name) refl (found_is_offered offered name offer)
  where
    same : bytes_eq offer.name offer.name ≡ true
    same = (bytes_eq-Decides offer.name offer.name).1 refl

    here : first ≡ offer → IsTrue (is_offered (first ∷ offered) offer.name)
    here is = subst (λ (o : Offer). IsTrue (is_offered (o ∷ offered) offer.name)) (sym is) (rw same refl)

    behind : (t : Bool) → IsTrue (is_offered offered offer.name) → IsTrue (t || is_offered offered offer.name)
    behind true there = refl
    behind false there = there

    by_test : (t : Bool) → bytes_eq first.name name ≡ t → (offer_of offered name ≡ Some offer → IsTrue (is_offered offered offer.name)) → IsTrue (is_offered (first ∷ offered) offer.name)
    by_test true is later = here (cc (subst (λ (b : Bool). cond b (Some first) (offer_of offered name) ≡ Some offer) is e))
    by_test false is later = behind (bytes_eq first.name offer.name) (later (subst (λ (b : Bool). cond b (Some first) (offer_of offered name) ≡ Some offer) is e))

all_offered : (offered before : List Offer) (values : List BuilderValues) (builders : List Offer) → AllByRecursion (IsOffered offered) before → builders_of offered before values ≡ Ok builders
    → AllByRecursion (IsOffered offered) builders
all_offered offered before [] builders all e = subst (AllByRecursion (IsOffered offered)) (same_answer e) all
all_offered offered before (value ∷ values) builders all e =
    let once = next_ok (passes (is_some (offer_of before value.name)) (UnknownBuilder value.name)) _ builders e in
    let offer = next_ok (ok_or (offer_of offered value.name) (UnknownBuilder value.name)) _ builders once.2 in
    all_offered offered (before ++ configured value offer.0 ∷ []) values builders
    (AllByRecursion-join (IsOffered offered) before (configured value offer.0 ∷ []) all (found_is_offered offered value.name offer.0 (some_of (offer_of offered value.name) (UnknownBuilder value.name) offer.0 offer.1), tt))
    offer.2

pub read_is_offered : (bytes : List ℕ) (offered : List Offer) (config : Config) → config_read bytes offered ≡ Ok config → AllByRecursion (IsOffered offered) config.builders
read_is_offered bytes offered config e =
    let made = (read_is_made bytes offered config e).1 in
    all_offered offered [] (read_is_made bytes offered config e).0.builders config.builders tt made.builders
