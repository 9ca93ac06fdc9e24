-- Which builders match a file, what they name, and what is reached from it.
use Rattle.std.specs.Prelude.{ℕ, Bool, true, not, List, [], ◌∷◌, length, map, filter, find, Option, Some, None, bytes_eq}
use Rattle.std.specs.List.{flat_map}
use Rattle.ap_text.specs.declared.seen.Seen.{Seen}
use Rattle.ap_text.specs.declared.seen.Seen.TheVariants.{Bytes, Absent, TooLarge}
use Rattle.ap_text.specs.Order.{bytes_cmp, in_order}
use Rattle.ap_text.specs.Wild.{wild_lem, some_matches_lem}
use Rattle.ap_config.specs.declared.config.Config.{Config}
use Rattle.ap_config.specs.declared.offer.Offer.{Offer}
use Rattle.ap_scan.specs.declared.results.Winner.{Winner}
use Rattle.ap_builder.specs.declared.offer.Target.{Target}
use Rattle.ap_builder.specs.declared.offer.Target.TheVariants.{File, Glob}
use Rattle.ap_builder.specs.Meanings.{Meanings}
use Rattle.ap_text.specs.Chain.{ends}

-- the builders of which some pattern matches the path, in configuration order
abbrev pub matching : Config → List ℕ → List Offer
matching config path = filter (λ builder. some_matches_lem builder.patterns path) config.builders

-- a list has an item
abbrev pub is_some_item : {X : Type 0} → List X → Bool
is_some_item [] = Bool.false
is_some_item (x ∷ xs) = true

-- the winners that some builder matches
abbrev pub sources : Config → List Winner → List Winner
sources config winners = filter (λ winner. is_some_item (matching config winner.path)) winners

-- how a winner is seen; absent where there is none
abbrev pub seen_of : Option Winner → Seen
seen_of None = Absent
seen_of (Some winner) = winner.seen

-- how the file of a path is seen
abbrev pub seen_at : List Winner → List ℕ → Seen
seen_at winners path = seen_of (find (λ winner. bytes_eq winner.path path) winners)

-- the bytes, where some are seen
abbrev pub bytes_seen : Seen → List ℕ
bytes_seen (Bytes bytes) = bytes
bytes_seen Absent = []
bytes_seen TooLarge = []

-- the bytes of the file of a path, none where it isn't seen with bytes
abbrev pub content_at_path : List Winner → List ℕ → List ℕ
content_at_path winners path = bytes_seen (seen_at winners path)

-- the path of a file, or of every winner that the pattern matches
abbrev pub named_by : List Winner → Target → List (List ℕ)
named_by winners (File path) = path ∷ []
named_by winners (Glob pattern) = filter (wild_lem pattern) (map (λ winner. winner.path) winners)

-- the targets of a file, by how it is seen
abbrev pub targets_seen : Meanings → Config → List Winner → List ℕ → Seen → List (List ℕ)
targets_seen builders config winners path Absent = []
targets_seen builders config winners path TooLarge = []
targets_seen builders config winners path (Bytes bytes) =
    flat_map (λ builder. flat_map (named_by winners) (builders.declares builder.name path bytes)) (matching config path)

-- the paths that the builders of a file name
abbrev pub targets : Meanings → Config → List Winner → List ℕ → List (List ℕ)
targets builders config winners path = targets_seen builders config winners path (seen_at winners path)

-- the paths other than the file's own to which a chain of targets leads from it, in byte order: a chain to a new
-- file passes no winner twice
abbrev pub reach : Meanings → Config → List Winner → List ℕ → List (List ℕ)
reach builders config winners path =
    in_order bytes_cmp (filter (λ other. not (bytes_eq other path)) (ends (targets builders config winners) (length winners) path))

-- the reached paths, each with how it is seen
abbrev pub reached : Meanings → Config → List Winner → List ℕ → List (List ℕ × Seen)
reached builders config winners path = map (λ other. (other, seen_at winners other)) (reach builders config winners path)
