-- What a contract sees of `Contents`: the node and the holds at each number that lives.
use Rattle.std.specs.Prelude.{◌≡◌, ◌≢◌, ◌⊎◌, ⊤, ℕ, ◌+◌, ◌-◌, ◌<◌, List, [], ◌∷◌, Option, Some, None, IsSome, Contains, option_map, slice_index_or, ◌==◌, if◌then◌else◌}
use Rattle.ap_content.specs.Things.{Thing, Kids, thing, no_kids, kid}
use Rattle.ap_content.specs.declared.node.Number.{Number}
use Rattle.ap_content.specs.declared.node.Node.{Node}

-- a thing that lives: its node, whose kids are numbers, and how many holds there are on it
pub record Entry : Type 0 where
  pub node : Node
  pub holds : ℕ

-- what lives under a number
abbrev pub entry_at : List (Option Entry) → Number → Option Entry
entry_at contents n = slice_index_or contents n.0 None

-- the node under a number
abbrev pub node_at : List (Option Entry) → Number → Option Node
node_at contents n = option_map (λ e. e.node) (entry_at contents n)

-- how many holds there are on a number: none where it doesn't live
abbrev pub holds_in : Option Entry → ℕ
holds_in None = 0
holds_in (Some e) = e.holds

abbrev pub holds_at : List (Option Entry) → Number → ℕ
holds_at contents n = holds_in (entry_at contents n)

abbrev pub Lives : List (Option Entry) → Number → Type 0
Lives contents n = IsSome (entry_at contents n)

-- the number lives and stands for the thing: they have one tag and one text, and their kids stand for
-- the thing's kids, one by one
abbrev mutual
  pub Stands : List (Option Entry) → Number → Thing → Type 0
  Stands contents n (thing tag text kids) =
      (node : Node) × (node_at contents n ≡ Some node) × (node.tag ≡ tag) × (node.text ≡ text) × StandEach contents node.kids kids

  pub StandEach : List (Option Entry) → List Number → Kids → Type 0
  StandEach contents [] no_kids = ⊤
  StandEach contents [] (kid x xs) = ⊥
  StandEach contents (n ∷ ns) no_kids = ⊥
  StandEach contents (n ∷ ns) (kid x xs) = Stands contents n x × StandEach contents ns xs

-- the number m has the number n as a kid
pub record HasKid (contents : List (Option Entry)) (m n : Number) : Type 0 where
  pub node : Node
  pub lives : node_at contents m ≡ Some node
  pub has : Contains node.kids n

-- what is true of the contents at all times
pub record IsTidy (contents : List (Option Entry)) : Type 0 where
  -- two numbers are one exactly where their things are
  pub one_number : (n m : Number) (x : Thing) → Stands contents n x → Stands contents m x → n ≡ m
  pub one_thing : (n : Number) (x y : Thing) → Stands contents n x → Stands contents n y → x ≡ y
  -- each number that lives stands for a thing
  pub stands : (n : Number) → Lives contents n → (x : Thing) × Stands contents n x
  -- a kid of what lives does live, and what lives is held or is such a kid
  pub kids_live : (m n : Number) → HasKid contents m n → Lives contents n
  pub needed : (n : Number) → Lives contents n → (0 < holds_at contents n) ⊎ ((m : Number) × HasKid contents m n)

-- one more hold, which stops at the last count
abbrev pub one_more : ℕ → ℕ
one_more holds = if holds == 18446744073709551615 then holds else (holds + 1)

-- one hold less, but never from the last count
abbrev pub one_less : ℕ → ℕ
one_less holds = if holds == 18446744073709551615 then holds else (holds - 1)

-- the number has this node and one hold more, and nothing else changed
pub record Gains (old new : List (Option Entry)) (n : Number) (node : Node) : Type 0 where
  pub held : entry_at new n ≡ Some (record { node = node; holds = one_more (holds_at old n) })
  pub was : (e : Entry) → entry_at old n ≡ Some e → e.node ≡ node
  pub others : (m : Number) → m ≢ n → entry_at new m ≡ entry_at old m

-- the number has one hold less, no other number's holds changed, and what lives now lived before with
-- its node
pub record Loses (old new : List (Option Entry)) (n : Number) : Type 0 where
  pub held : holds_at new n ≡ one_less (holds_at old n)
  pub others : (m : Number) → m ≢ n → holds_at new m ≡ holds_at old m
  pub nodes : (m : Number) → Lives new m → node_at new m ≡ node_at old m
