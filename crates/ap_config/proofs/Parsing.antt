-- What bytes are parsed to, by whether they are UTF-8.
use Rattle.std.proofs.Common.{◌≡◌, ℕ, List, Some, None, Ok, Err, inl, inr}
use Rattle.std.specs.Str.{IsUtf8, is_utf8}
use Rattle.std.proofs.lemmas.Str.{is_utf8-from_IsUtf8, IsUtf8-from_is_utf8}
use Rattle.std.proofs.lemmas.Bool.{cases_Bool}
use Rattle.toml.specs.Data.{Members}
use Rattle.toml.specs.Parse.{parse_document}
use Rattle.ap_config.specs.declared.fault.ConfigFault.TheVariants.{NotToml}
use Rattle.ap_config.specs.Configuration.{parsed}

pub parsed-table : (bytes : List ℕ) (table : Members) → IsUtf8 bytes → parse_document bytes ≡ Some table → parsed bytes ≡ Ok table
parsed-table bytes table text is = rw (is_utf8-from_IsUtf8 bytes text, is)

pub parsed-refused : (bytes : List ℕ) → (IsUtf8 bytes → parse_document bytes ≡ None) → parsed bytes ≡ Err NotToml
parsed-refused bytes none = elim (cases_Bool (is_utf8 bytes)) [
  | inl text ↦ rw (text, none (IsUtf8-from_is_utf8 bytes text))
  | inr other ↦ rw other
]
