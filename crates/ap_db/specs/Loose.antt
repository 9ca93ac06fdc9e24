-- The things of the file that nothing names.
use Rattle.std.specs.Prelude.{ℕ, suc, List, [], ◌∷◌, ◌++◌, Option, Some, None, ◌==◌, if◌then◌else◌}
use Rattle.ap_content.specs.declared.node.Number.{Number}
use Rattle.ap_db.specs.declared.things.FileThing.{FileThing}

-- the number of a thing that nothing names
abbrev pub if_unnamed : Number → Option FileThing → List Number
if_unnamed m None = []
if_unnamed m (Some thing) = if thing.named == 0 then m ∷ [] else []

-- the numbers from n on of things that nothing names
abbrev pub unnamed_from : ℕ → List (Option FileThing) → List Number
unnamed_from n [] = []
unnamed_from n (thing ∷ things) = if_unnamed (record { 0 = n }) thing ++ unnamed_from (suc n) things
