-- What a configuration that was read is made of.
use Rattle.std.proofs.Common.{◌≡◌, ℕ, List, [], refl, subst}
use Rattle.std.specs.Prelude.{Result, Ok, Err}
use Rattle.ap_config.specs.declared.config.Config.{Config}
use Rattle.ap_config.specs.declared.offer.Offer.{Offer}
use Rattle.ap_config.specs.declared.fault.ConfigFault.{ConfigFault}
use Rattle.ap_config.specs.declared.values.Values.{Values}
use Rattle.ap_config.specs.Configuration.{next, orders_differ, each_value, folder_of, config_of, config_read, parsed, values_of, builders_of, platforms_of, something_in, folders_have_patterns, builders_have_patterns}

-- what was answered was made of what came before
pub next_ok : {X Y : Type 0} (r : Result X ConfigFault) (f : X → Result Y ConfigFault) (y : Y) → next r f ≡ Ok y → (x : X) × (r ≡ Ok x) × (f x ≡ Ok y)
next_ok (Ok x) f y e = (x, refl, e)
next_ok (Err fault) f y e = cc

pub same_answer : {X : Type 0} {x y : X} → let a : Result X ConfigFault = Ok x in a ≡ Ok y → x ≡ y
same_answer e = cc

-- the values of a text, and the parts that they give
pub record IsMadeOf (offered : List Offer) (values : Values) (config : Config) : Type 0 where
  pub orders : orders_differ [] values.folders ≡ Ok tt
  pub folders : each_value folder_of values.folders ≡ Ok config.folders
  pub builders : builders_of offered [] values.builders ≡ Ok config.builders

made : (offered : List Offer) (values : Values) (config : Config) → config_of offered values ≡ Ok config → IsMadeOf offered values config
made offered values config e =
    let orders = next_ok (orders_differ [] values.folders) _ config e in
    let builders = next_ok (builders_of offered [] values.builders) _ config orders.2 in
    let platforms = next_ok (platforms_of [] values.platforms) _ config builders.2 in
    let something = next_ok (something_in values) _ config platforms.2 in
    let folders = next_ok (each_value folder_of values.folders) _ config something.2 in
    let excludes = next_ok (folders_have_patterns values.folders) _ config folders.2 in
    let patterns = next_ok (builders_have_patterns values.builders) _ config excludes.2 in
    let whole = same_answer patterns.2 in
    record {
      orders = orders.1;
      folders = subst (λ (c : Config). each_value folder_of values.folders ≡ Ok c.folders) whole folders.1;
      builders = subst (λ (c : Config). builders_of offered [] values.builders ≡ Ok c.builders) whole builders.1;
    }

pub read_is_made : (bytes : List ℕ) (offered : List Offer) (config : Config) → config_read bytes offered ≡ Ok config → (values : Values) × IsMadeOf offered values config
unfolding config_read
read_is_made bytes offered config e =
    let members = next_ok (parsed bytes) (λ m. next (values_of m) (config_of offered)) config e in
    let values = next_ok (values_of members.0) (config_of offered) config members.2 in
    (values.0, made offered values.0 config values.2)
