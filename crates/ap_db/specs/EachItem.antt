-- What is stored after items of which each is lawful at its place.
use Rattle.std.proofs.Common.{◌≡◌, List, [], ◌∷◌, ◌++◌, Option, Some, ◌∙◌, ap, subst, option_and_then}
use Rattle.std.specs.Prelude.{unwrap_or}
use Rattle.ap_rows.specs.declared.change.Item.{Item}
use Rattle.ap_db.specs.Stored.{Stored, after_item}
use Rattle.ap_db.specs.Commit.{after_lawful}
use Rattle.ap_db.specs.Options.{from_then_some}
use Rattle.ap_db.specs.WellStored.{IsWellStored}
use Rattle.ap_db.specs.Keeping.{item_keeps}

-- what is stored after items, where each is lawful at its place
abbrev pub after_each : Stored → List Item → Option Stored
after_each stored [] = Some stored
after_each stored (x ∷ items) = option_and_then (λ next. after_each next items) (after_item stored x)

-- one item, and then others
pub each_first : (stored next last : Stored) (x : Item) (items : List Item) → after_item stored x ≡ Some next → after_each next items ≡ Some last → after_each stored (x ∷ items) ≡ Some last
each_first stored next last x items e rest = ap (option_and_then (λ s. after_each s items)) e ∙ rest

-- some items, and then others
pub each_then : (stored mid last : Stored) (xs ys : List Item) → after_each stored xs ≡ Some mid → after_each mid ys ≡ Some last → after_each stored (xs ++ ys) ≡ Some last
each_then stored mid last [] ys first rest = let same : stored ≡ mid = cc first in ap (λ s. after_each s ys) same ∙ rest
each_then stored mid last (x ∷ xs) ys first rest =
    let found = from_then_some (λ next. after_each next xs) (after_item stored x) mid first in
    each_first stored found.0 last x (xs ++ ys) found.1 (each_then found.0 mid last xs ys found.2 rest)

-- where all are lawful, they are after_lawful's
pub each_lawful : (stored last : Stored) (items : List Item) → after_each stored items ≡ Some last → after_lawful stored items ≡ last
each_lawful stored last [] e = cc e
each_lawful stored last (x ∷ items) e =
    let found = from_then_some (λ next. after_each next items) (after_item stored x) last e in
    ap (λ o. after_lawful (unwrap_or o stored) items) found.1 ∙ each_lawful found.0 last items found.2

-- lawful items keep what holds of all that records stand for
pub each_keeps : (stored last : Stored) (items : List Item) → IsWellStored stored → after_each stored items ≡ Some last → IsWellStored last
each_keeps stored last [] well e = let same : stored ≡ last = cc e in subst IsWellStored same well
each_keeps stored last (x ∷ items) well e =
    let found = from_then_some (λ next. after_each next items) (after_item stored x) last e in
    each_keeps found.0 last items (item_keeps stored found.0 x well found.1) found.2
