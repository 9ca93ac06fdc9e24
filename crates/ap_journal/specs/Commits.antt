-- What commits, one after another, leave of a store at each of their moments.
use Rattle.std.specs.Prelude.{◌≡◌, ◌≤◌, ◌<◌, ◌⊎◌, ◌+◌, ℕ, suc, List, [], ◌∷◌, ◌++◌, length, take, Option, IfSome, nat_lt, cond}
use Rattle.std.specs.List.{AllByRecursion}
use Rattle.ap_disk.specs.Calls.{TellsAs}
use Rattle.ap_journal.specs.Records.{standing, has_bad_header}
use Rattle.ap_journal.specs.Moments.{BetweenClocks, Rests}

-- a file has the records of an old one and these behind them, under as good a header
pub record Holds (old : List ℕ) (added : List (List ℕ)) (file : List ℕ) : Type 0 where
  pub stand : standing file ≡ standing old ++ added
  pub header : has_bad_header file ≡ has_bad_header old

-- it has the first so many of these records, or one more of them
abbrev pub HasFirst : List ℕ → List (List ℕ) → ℕ → List ℕ → Type 0
HasFirst old given count file = Holds old (take count given) file ⊎ Holds old (take (count + 1) given) file

-- how many of these moments are before one
abbrev pub count_before : ℕ → List ℕ → ℕ
count_before t [] = 0
count_before t (exit ∷ exits) = cond (nat_lt exit t) 1 0 + count_before t exits

-- no moment of the list is before an earlier one of it
abbrev pub Rises : List ℕ → Type 0
Rises [] = Unit {0}
Rises (moment ∷ moments) = AllByRecursion (λ later. moment ≤ later) moments × Rises moments

-- the moments at which commits had answered Ok: they rise, and lie between two moments
pub record AreExits (was now : ℕ) (exits : List ℕ) : Type 0 where
  pub rise : Rises exits
  pub within : AllByRecursion (λ exit. (was ≤ exit) × (exit ≤ now)) exits

-- from a moment on to another: earlier moments keep their images, and each image of a later one has what the
-- number of the commits that had answered Ok before it says
pub record Committed (before after : ℕ → List ℕ → Type 0) (Has : ℕ → List ℕ → Type 0) (answered was now : ℕ) : Type 0 where
  pub later : was ≤ now
  pub earlier : (t : ℕ) (c : List ℕ) → t ≤ was → after t c → before t c
  pub kept : (t : ℕ) (c : List ℕ) → t ≤ was → before t c → after t c
  pub exits : List ℕ
  pub are : AreExits was now exits
  pub count : length exits ≡ answered
  pub since : (t : ℕ) (c : List ℕ) → was < t → t ≤ now → after t c → Has (count_before t exits) c

-- the same where the first call's images are apart: they have First
pub record Started (before after : ℕ → List ℕ → Type 0) (First : List ℕ → Type 0) (Has : ℕ → List ℕ → Type 0) (answered was now : ℕ) : Type 0 where
  pub later : was < now
  pub earlier : (t : ℕ) (c : List ℕ) → t ≤ was → after t c → before t c
  pub kept : (t : ℕ) (c : List ℕ) → t ≤ was → before t c → after t c
  pub exits : List ℕ
  pub are : AreExits was now exits
  pub count : length exits ≡ answered
  pub first : (c : List ℕ) → after (was + 1) c → First c
  pub since : (t : ℕ) (c : List ℕ) → was + 1 < t → t ≤ now → after t c → Has (count_before t exits) c

-- all of these commits answered Ok, or all but the last
abbrev pub IsAnswered : ℕ → List (List ℕ) → Type 0
IsAnswered answered given = (length given ≡ answered) ⊎ (length given ≡ suc answered)

module _ {D : Type 0} (seen : D → Option (List ℕ)) (may_leave : D → List ℕ → Type 0) (clock : D → Option ℕ) (left_at : D → ℕ → List ℕ → Type 0) (room faults : D → ℕ) where
  -- commits of these records on the first disk of a pair, so many of which answered Ok
  pub record Commits (old new : D × D) (given : List (List ℕ)) (answered : ℕ) : Type 0 where
    pub counted : IsAnswered answered given
    pub moments : BetweenClocks (clock old.0) (clock new.0)
        (Committed (left_at old.0) (left_at new.0) (λ count c. IfSome (seen old.0) (λ file. HasFirst file given count c)) answered)
    pub crash : (c : List ℕ) → may_leave new.0 c → IfSome (seen old.0) (λ file. HasFirst file given answered c)
    pub same_room : room new.0 ≡ room old.0
    pub later : faults old.0 ≤ faults new.0
    pub other : Rests seen may_leave clock left_at room faults old.1 new.1

  -- all of them answered Ok, and the file as it reads has them
  pub record CommitsAll (old new : D × D) (given : List (List ℕ)) : Type 0 where
    pub commits : Commits old new given (length given)
    pub reads : TellsAs (seen old.0) (seen new.0) (λ old new. standing new ≡ standing old ++ given)

  -- they are the first of these
  pub record CommitsSome (old new : D × D) (all : List (List ℕ)) : Type 0 where
    pub given : List (List ℕ)
    pub rest : List (List ℕ)
    pub front : all ≡ given ++ rest
    pub answered : ℕ
    pub commits : Commits old new given answered

  -- an opening, in whose first call's images nothing has changed, and then such commits
  pub record RunsOn (old new : D × D) (given : List (List ℕ)) (answered : ℕ) : Type 0 where
    pub counted : IsAnswered answered given
    pub moments : BetweenClocks (clock old.0) (clock new.0)
        (Started (left_at old.0) (left_at new.0) (may_leave old.0) (λ count c. IfSome (seen old.0) (λ file. HasFirst file given count c)) answered)
    pub crash : (c : List ℕ) → may_leave new.0 c → may_leave old.0 c ⊎ IfSome (seen old.0) (λ file. HasFirst file given answered c)
    pub same_room : room new.0 ≡ room old.0
    pub later : faults old.0 ≤ faults new.0
    pub other : Rests seen may_leave clock left_at room faults old.1 new.1
