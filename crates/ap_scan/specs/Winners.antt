-- Which of the listed files stand for a path.
use Rattle.std.specs.Prelude.{◌≡◌, ◌<◌, ◌⊎◌, ℕ, false, List, ◌∷◌, ◌++◌, Contains}
use Rattle.std.specs.declared.cmp.Ordering.{Ordering}
use Rattle.std.specs.declared.cmp.Ordering.TheVariants.{Less}
use Rattle.std.specs.Ordering.{nat_cmp, ordering_then, on}
use Rattle.std.specs.Str.{str_to_ascii_lowercase}
use Rattle.ap_text.specs.PathRules.{IsRelPath}
use Rattle.ap_text.specs.Wild.{some_matches_lem}
use Rattle.ap_text.specs.Order.{bytes_cmp, Lists}
use Rattle.ap_tree.specs.Files.{names_below, content_at, seen_up_to}
use Rattle.ap_config.specs.declared.config.Config.{Config}
use Rattle.ap_config.specs.declared.config.Folder.{Folder}
use Rattle.ap_scan.specs.declared.results.Winner.{Winner}
use Rattle.ap_scan.specs.declared.results.Hidden.{Hidden}
use Rattle.ap_scan.specs.declared.results.Odd.{Odd}

-- a tree: its files by their distinct paths
abbrev pub Files : Type 0
Files = List (List ℕ × List ℕ)

-- the path of a folder's file from the root of the project on
abbrev pub in_folder : List ℕ → List ℕ → List ℕ
in_folder folder name = folder ++ 47 ∷ name

-- no two folders have one order
abbrev pub HasOwnOrders : List Folder → Type 0
HasOwnOrders folders = (a b : Folder) → Contains folders a → Contains folders b → a.order ≡ b.order → a ≡ b

-- a configured folder of this order has a file of this name
pub record IsListed (config : Config) (files : Files) (order : ℕ) (name : List ℕ) : Type 0 where
  pub folder : Folder
  pub configured : Contains config.folders folder
  pub ordered : folder.order ≡ order
  pub listed : Contains (names_below folder.path files) name

-- a file that may stand for this path: its name is a path, folds to it, and isn't excluded from its folder
pub record IsCandidate (config : Config) (files : Files) (path : List ℕ) (order : ℕ) (name : List ℕ) : Type 0 where
  pub folder : Folder
  pub configured : Contains config.folders folder
  pub ordered : folder.order ≡ order
  pub listed : Contains (names_below folder.path files) name
  pub readable : IsRelPath name
  pub folds : str_to_ascii_lowercase name ≡ path
  pub included : some_matches_lem folder.exclude path ≡ false

-- of two files the one of lesser order goes first, and of two of one order the one of byte-lesser name
abbrev pub Beats : ℕ → List ℕ → ℕ → List ℕ → Type 0
Beats order name order' name' = (order < order') ⊎ ((order ≡ order') × (bytes_cmp name name' ≡ Less))

-- a candidate that goes before every other candidate for its path
pub record Wins (config : Config) (files : Files) (path : List ℕ) (order : ℕ) (name : List ℕ) : Type 0 where
  pub candidate : IsCandidate config files path order name
  pub unbeaten : (order' : ℕ) (name' : List ℕ) → IsCandidate config files path order' name' →
      ((order' ≡ order) × (name' ≡ name)) ⊎ Beats order name order' name'

-- a winner, seen as the tree has it
pub record IsWinner (config : Config) (files : Files) (winner : Winner) : Type 0 where
  pub wins : Wins config files winner.path winner.order winner.name
  pub folder : Folder
  pub configured : Contains config.folders folder
  pub ordered : folder.order ≡ winner.order
  pub seen_as : winner.seen ≡ seen_up_to 4194304 (content_at files (in_folder folder.path winner.name))

-- the order of winners: by path
abbrev pub winner_cmp : Winner → Winner → Ordering
winner_cmp = on (λ winner. winner.path) bytes_cmp

-- all winners by path
abbrev pub AreWinners : Config → Files → List Winner → Type 0
AreWinners config files = Lists winner_cmp (IsWinner config files)

-- a candidate that another candidate for its path goes before
pub record IsHidden (config : Config) (files : Files) (hidden : Hidden) : Type 0 where
  pub candidate : IsCandidate config files (str_to_ascii_lowercase hidden.name) hidden.order hidden.name
  pub order' : ℕ
  pub name' : List ℕ
  pub other : IsCandidate config files (str_to_ascii_lowercase hidden.name) order' name'
  pub beaten : Beats order' name' hidden.order hidden.name

-- the order of hidden files: by folded name, order and name
abbrev pub hidden_cmp : Hidden → Hidden → Ordering
hidden_cmp a b = ordering_then (bytes_cmp (str_to_ascii_lowercase a.name) (str_to_ascii_lowercase b.name))
    (ordering_then (nat_cmp a.order b.order) (bytes_cmp a.name b.name))

-- all hidden files
abbrev pub AreHidden : Config → Files → List Hidden → Type 0
AreHidden config files = Lists hidden_cmp (IsHidden config files)

-- a listed name that is no path
abbrev pub IsOdd : Config → Files → Odd → Type 0
IsOdd config files odd = IsListed config files odd.order odd.name × ¬ IsRelPath odd.name

-- the order of odd names: by order and name
abbrev pub odd_cmp : Odd → Odd → Ordering
odd_cmp a b = ordering_then (nat_cmp a.order b.order) (bytes_cmp a.name b.name)

-- all odd names
abbrev pub AreOdd : Config → Files → List Odd → Type 0
AreOdd config files = Lists odd_cmp (IsOdd config files)
