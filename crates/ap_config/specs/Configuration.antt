-- What the text of a configuration says: a configuration, or the first of its faults.
--
-- The text is parsed. Then each key is read in turn, up to the first that is unknown or whose value is of
-- another kind. Then the values are judged, one rule after another.
use Rattle.std.specs.Prelude.{◌≡◌, ◌≢◌, ◌++◌, ℕ, ℤ, pos, Bool, true, false, not, ◌&&◌, ◌||◌, ◌==◌, nat_le, nat_eq, List, [], ◌∷◌, length, codes, bytes_eq, unwrap_or, is_some, Option, Some, None, Result, Ok, Err, if◌then◌else◌}
use Rattle.std.specs.List.{list_any, list_all, find, before_first}
use Rattle.std.specs.Option.{ok_or, option_and_then}
use Rattle.std.specs.Str.{is_utf8, str_eq_ignore_ascii_case}
use Rattle.toml.specs.Data.{Data, Items, no_items, item, Members, no_members, member, as_str, as_integer, as_array, as_table}
use Rattle.toml.specs.Parse.{parse_document}
use Rattle.ap_text.specs.NameRules.{is_platform_byte_lem}
use Rattle.ap_text.specs.PathRules.{has_bad_part_lem, has_bad_byte_lem}
use Rattle.ap_config.specs.declared.config.Config.{Config}
use Rattle.ap_config.specs.declared.config.Folder.{Folder}
use Rattle.ap_config.specs.declared.offer.Offer.{Offer}
use Rattle.ap_config.specs.declared.fault.ConfigFault.{ConfigFault}
use Rattle.ap_config.specs.declared.fault.ConfigFault.TheVariants.{NotToml, UnknownKey, WrongKind, SameOrder, UnknownBuilder, BadPlatform, NothingEnabled, BadPath, BadPattern, OutOfMemory}
use Rattle.ap_config.specs.declared.values.FolderValues.{FolderValues}
use Rattle.ap_config.specs.declared.values.BuilderValues.{BuilderValues}
use Rattle.ap_config.specs.declared.values.Values.{Values}
use Rattle.ap_config.specs.declared.values.FolderKeys.{FolderKeys}
use Rattle.ap_config.specs.declared.values.BuilderKeys.{BuilderKeys}

-- a call answers what is given, unless it wanted memory
abbrev pub Answers : {X : Type 0} → Result X ConfigFault → Result X ConfigFault → Type 0
Answers given (Ok x) = given ≡ Ok x
Answers given (Err fault) = fault ≢ OutOfMemory → given ≡ Err fault

-- what comes next, where nothing was refused
abbrev pub next : {X Y : Type 0} → Result X ConfigFault → (X → Result Y ConfigFault) → Result Y ConfigFault
next (Ok x) f = f x
next (Err fault) f = Err fault

abbrev pub of_kind : {X : Type 0} → List ℕ → Option X → Result X ConfigFault
of_kind key found = ok_or found (WrongKind key)

-- an integer from the least one to 4,294,967,295
abbrev pub in_range : ℕ → ℤ → Option ℕ
in_range least (pos n) = if nat_le least n && nat_le n 4294967295 then Some n else None
in_range least z = None

abbrev pub text_at : List ℕ → Data → Result (List ℕ) ConfigFault
text_at key value = of_kind key (as_str value)

abbrev pub number_at : ℕ → List ℕ → Data → Result ℕ ConfigFault
number_at least key value = of_kind key (option_and_then (in_range least) (as_integer value))

-- each item in turn
abbrev pub each : {X : Type 0} → (Data → Result X ConfigFault) → Items → Result (List X) ConfigFault
each read no_items = Ok []
each read (item value items) = next (read value) (λ x. next (each read items) (λ xs. Ok (x ∷ xs)))

abbrev pub list_at : {X : Type 0} → List ℕ → (Data → Result X ConfigFault) → Data → Result (List X) ConfigFault
list_at key read value = next (of_kind key (as_array value)) (each read)

abbrev pub texts_at : List ℕ → Data → Result (List (List ℕ)) ConfigFault
texts_at key = list_at key (text_at key)

-- each key in turn, in byte order
abbrev pub each_key : {X : Type 0} → (List ℕ → Data → X → Result X ConfigFault) → Members → X → Result X ConfigFault
each_key put no_members keys = Ok keys
each_key put (member key value members) keys = next (put key value keys) (each_key put members)

-- a folder
abbrev pub no_folder_keys : FolderKeys
no_folder_keys = record { order = None; path = None; exclude = [] }

abbrev pub put_folder_key : List ℕ → Data → FolderKeys → Result FolderKeys ConfigFault
put_folder_key key value keys =
    if bytes_eq key (codes "exclude") then next (texts_at key value) (λ exclude. Ok (record keys { exclude = exclude }))
    else if bytes_eq key (codes "order") then next (number_at 0 key value) (λ order. Ok (record keys { order = Some order }))
    else if bytes_eq key (codes "path") then next (text_at key value) (λ path. Ok (record keys { path = Some path }))
    else Err (UnknownKey key)

abbrev pub folder_of_keys : FolderKeys → Result FolderValues ConfigFault
folder_of_keys keys =
    next (of_kind (codes "order") keys.order) (λ order.
    next (of_kind (codes "path") keys.path) (λ path.
    Ok (record { order = order; path = path; exclude = keys.exclude })))

abbrev pub folder_at : Data → Result FolderValues ConfigFault
folder_at value = next (of_kind (codes "folder") (as_table value)) (λ members. next (each_key put_folder_key members no_folder_keys) folder_of_keys)

-- a builder
abbrev pub no_builder_keys : BuilderKeys
no_builder_keys = record { name = None; patterns = None; version = None }

abbrev pub put_builder_key : List ℕ → Data → BuilderKeys → Result BuilderKeys ConfigFault
put_builder_key key value keys =
    if bytes_eq key (codes "name") then next (text_at key value) (λ name. Ok (record keys { name = Some name }))
    else if bytes_eq key (codes "patterns") then next (texts_at key value) (λ patterns. Ok (record keys { patterns = Some patterns }))
    else if bytes_eq key (codes "version") then next (number_at 1 key value) (λ version. Ok (record keys { version = Some version }))
    else Err (UnknownKey key)

abbrev pub builder_of_keys : BuilderKeys → Result BuilderValues ConfigFault
builder_of_keys keys = next (of_kind (codes "name") keys.name) (λ name. Ok (record { name = name; patterns = keys.patterns; version = keys.version }))

abbrev pub builder_at : Data → Result BuilderValues ConfigFault
builder_at value = next (of_kind (codes "builder") (as_table value)) (λ members. next (each_key put_builder_key members no_builder_keys) builder_of_keys)

-- the whole text
abbrev pub no_values : Values
no_values = record { platforms = []; folders = []; builders = [] }

abbrev pub put_key : List ℕ → Data → Values → Result Values ConfigFault
put_key key value values =
    if bytes_eq key (codes "builder") then next (list_at key builder_at value) (λ builders. Ok (record values { builders = builders }))
    else if bytes_eq key (codes "folder") then next (list_at key folder_at value) (λ folders. Ok (record values { folders = folders }))
    else if bytes_eq key (codes "platforms") then next (texts_at key value) (λ platforms. Ok (record values { platforms = platforms }))
    else Err (UnknownKey key)

abbrev pub values_of : Members → Result Values ConfigFault
values_of members = each_key put_key members no_values

-- each value in turn
abbrev pub each_value : {X Y : Type 0} → (X → Result Y ConfigFault) → List X → Result (List Y) ConfigFault
each_value judge [] = Ok []
each_value judge (x ∷ xs) = next (judge x) (λ y. next (each_value judge xs) (λ ys. Ok (y ∷ ys)))

-- a value passes where it isn't bad
abbrev pub passes : Bool → ConfigFault → Result (Unit {0}) ConfigFault
passes true fault = Err fault
passes false fault = Ok tt

-- no folder has the order of an earlier one
abbrev pub orders_differ : List ℕ → List FolderValues → Result (Unit {0}) ConfigFault
orders_differ earlier [] = Ok tt
orders_differ earlier (folder ∷ folders) =
    next (passes (list_any (nat_eq folder.order) earlier) (SameOrder folder.order)) (λ _. orders_differ (folder.order ∷ earlier) folders)

-- the offer of a name
abbrev pub offer_of : List Offer → List ℕ → Option Offer
offer_of offered name = find (λ offer. bytes_eq offer.name name) offered

-- the builder that is configured: what the text lacks is as offered
abbrev pub configured : BuilderValues → Offer → Offer
configured values offer = record { name = offer.name; patterns = unwrap_or values.patterns offer.patterns; version = unwrap_or values.version offer.version }

-- each builder is offered and stands once; those before are configured
abbrev pub builders_of : List Offer → List Offer → List BuilderValues → Result (List Offer) ConfigFault
builders_of offered before [] = Ok before
builders_of offered before (builder ∷ builders) =
    next (passes (is_some (offer_of before builder.name)) (UnknownBuilder builder.name)) (λ _.
    next (ok_or (offer_of offered builder.name) (UnknownBuilder builder.name)) (λ offer.
    builders_of offered (before ++ configured builder offer ∷ []) builders))

-- 1 to 16 lower-case letters and digits
abbrev pub is_platform : List ℕ → Bool
is_platform text = not (length text == 0) && nat_le (length text) 16 && list_all is_platform_byte_lem text

-- each platform is in the grammar and stands once
abbrev pub platforms_of : List (List ℕ) → List (List ℕ) → Result (List (List ℕ)) ConfigFault
platforms_of before [] = Ok before
platforms_of before (platform ∷ platforms) =
    next (passes (not (is_platform platform) || list_any (bytes_eq platform) before) (BadPlatform platform)) (λ _.
    platforms_of (before ++ platform ∷ []) platforms)

abbrev pub is_none_of : {X : Type 0} → List X → Bool
is_none_of [] = true
is_none_of (x ∷ xs) = false

-- some platform, some folder and some builder
abbrev pub something_in : Values → Result (Unit {0}) ConfigFault
something_in values = passes (is_none_of values.platforms || is_none_of values.folders || is_none_of values.builders) NothingEnabled

-- a relative path: UTF-8 of 1 to 240 bytes, whose parts name something and which has no bad byte
abbrev pub is_path : List ℕ → Bool
is_path text = not (length text == 0) && nat_le (length text) 240 && is_utf8 text && not (has_bad_part_lem text) && not (has_bad_byte_lem text)

-- the first part of a path is `cache`, in upper or lower case
abbrev pub is_in_cache_lem : List ℕ → Bool
is_in_cache_lem path = str_eq_ignore_ascii_case (before_first (λ b. b == 47) path) (codes "cache")

abbrev pub folder_of : FolderValues → Result Folder ConfigFault
folder_of values =
    next (passes (not (is_path values.path) || is_in_cache_lem values.path) (BadPath values.path)) (λ _.
    Ok (record { order = values.order; path = values.path; exclude = values.exclude }))

-- UTF-8 of 1 to 240 bytes
abbrev pub is_pattern_lem : List ℕ → Bool
is_pattern_lem text = not (length text == 0) && nat_le (length text) 240 && is_utf8 text

-- each text is a pattern
abbrev pub are_patterns : List (List ℕ) → Result (Unit {0}) ConfigFault
are_patterns [] = Ok tt
are_patterns (text ∷ texts) = next (passes (not (is_pattern_lem text)) (BadPattern text)) (λ _. are_patterns texts)

abbrev pub folders_have_patterns : List FolderValues → Result (Unit {0}) ConfigFault
folders_have_patterns [] = Ok tt
folders_have_patterns (folder ∷ folders) = next (are_patterns folder.exclude) (λ _. folders_have_patterns folders)

abbrev pub builders_have_patterns : List BuilderValues → Result (Unit {0}) ConfigFault
builders_have_patterns [] = Ok tt
builders_have_patterns (builder ∷ builders) = next (are_patterns (unwrap_or builder.patterns [])) (λ _. builders_have_patterns builders)

-- the configuration of some values
abbrev pub config_of : List Offer → Values → Result Config ConfigFault
config_of offered values =
    next (orders_differ [] values.folders) (λ _.
    next (builders_of offered [] values.builders) (λ builders.
    next (platforms_of [] values.platforms) (λ platforms.
    next (something_in values) (λ _.
    next (each_value folder_of values.folders) (λ folders.
    next (folders_have_patterns values.folders) (λ _.
    next (builders_have_patterns values.builders) (λ _.
    Ok (record { platforms = platforms; folders = folders; builders = builders }))))))))

-- what the bytes spell in TOML
abbrev pub parsed : List ℕ → Result Members ConfigFault
parsed bytes = if is_utf8 bytes then ok_or (parse_document bytes) NotToml else Err NotToml

-- the configuration that the bytes spell for some offers
unfoldable pub config_read : List ℕ → List Offer → Result Config ConfigFault
config_read bytes offered = next (parsed bytes) (λ members. next (values_of members) (config_of offered))
