-- The lines of a source.
--
-- Its bytes are split at the line feeds. A carriage return directly before a line feed is dropped, and a last
-- piece without a line feed is a line where it isn't empty: these are `lines` of `Str.Lines`.
use Rattle.std.specs.Prelude.{◌≡◌, ◌<◌, ℕ, List, ◌∷◌, length}
use Rattle.std.specs.Str.Lines.{lines}

-- the first line of the bytes, and what stands behind it
pub record SplitsLine (bytes line rest : List ℕ) : Type 0 where
  pub split : lines bytes ≡ line ∷ lines rest
  pub shorter : length rest < length bytes
