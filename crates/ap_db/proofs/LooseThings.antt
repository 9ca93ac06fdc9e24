-- The things of the file that nothing names, by number.
use Rattle.std.proofs.Common.{◌≡◌, ◌+◌, ℕ, true, zero, suc, List, [], ◌∷◌, ◌++◌, Option, Some, None, sym, ◌∙◌, ap, subst, arith, slice_index_or, cond, Contains, ◌==◌}
use Rattle.std.proofs.lemmas.Bool.Decides.{nat_tests}
use Rattle.std.proofs.lemmas.List.Elements.{Contains-append_right, Contains-append_left}
use Rattle.ap_text.proofs.Members.{Contains-head}
use Rattle.ap_content.specs.Entries.{Entry, Stands}
use Rattle.ap_content.specs.declared.node.Number.{Number}
use Rattle.ap_db.specs.declared.things.FileThing.{FileThing}
use Rattle.ap_db.specs.declared.state.State.{State}
use Rattle.ap_db.specs.Stored.{Live, Stored, named_things}
use Rattle.ap_db.specs.Members.{from_map, true_of}
use Rattle.ap_db.specs.States.{StandsFor, IsFound, file_thing, times_in}
use Rattle.ap_db.specs.Loose.{if_unnamed, unnamed_from}
use Rattle.ap_db.specs.TakenOut.{AreCandidates}

noted : (m : Number) (thing : FileThing) → thing.named ≡ 0 → Contains (if_unnamed m (Some thing)) m
noted m thing none =
    let is : (thing.named == 0) ≡ true = grind (arith, nat_tests, none) in
    subst (λ (l : List Number). Contains l m) (sym (ap (λ b. cond b (m ∷ []) []) is)) (Contains-head m [])

unnamed_has : (n k : ℕ) (things : List (Option FileThing)) (thing : FileThing) → slice_index_or things k None ≡ Some thing → thing.named ≡ 0 → Contains (unnamed_from n things) (record { 0 = n + k })
unnamed_has n k [] thing at none = absurd (cc at)
unnamed_has n zero (first ∷ things) thing at none =
    let same : n + 0 ≡ n = omega arith in
    subst (λ (j : ℕ). Contains (if_unnamed (record { 0 = n }) first ++ unnamed_from (suc n) things) (record { 0 = j })) (sym same)
    (Contains-append_left (if_unnamed (record { 0 = n }) first) (unnamed_from (suc n) things) (record { 0 = n })
    (subst (λ o. Contains (if_unnamed (record { 0 = n }) o) (record { 0 = n })) (sym at) (noted (record { 0 = n }) thing none)))
unnamed_has n (suc k) (first ∷ things) thing at none =
    let same : n + suc k ≡ suc n + k = omega arith in
    subst (λ (j : ℕ). Contains (if_unnamed (record { 0 = n }) first ++ unnamed_from (suc n) things) (record { 0 = j })) (sym same)
    (Contains-append_right (if_unnamed (record { 0 = n }) first) (unnamed_from (suc n) things) (record { 0 = suc n + k })
    (unnamed_has (suc n) k things thing at none))

unnamed_at : (things : List (Option FileThing)) (m : Number) (thing : FileThing) → file_thing things m ≡ Some thing → thing.named ≡ 0 → Contains (unnamed_from 0 things) m
unnamed_at things m thing at none = let same : 0 + m.0 ≡ m.0 = omega arith in subst (λ (j : ℕ). Contains (unnamed_from 0 things) (record { 0 = j })) same (unnamed_has 0 m.0 things thing at none)

-- those that were found are all
pub all_unnamed : (state : State) (contents : List (Option Entry)) (stored : Stored) (found : List Number) → StandsFor state contents stored → found ≡ unnamed_from 0 state.things.items → AreCandidates contents stored found
all_unnamed state contents stored found stands is = λ x has none.
    let live = from_map (λ (l : Live). l.value) stored.live x has in
    let at = true_of (IsFound state.things.items contents) stored.live stands.found live.0 live.1 in
    let known = stands.known at.number at.thing at.file in
    let same : known.value ≡ x = stands.tidy.one_thing at.number known.value x known.stands (subst (Stands contents at.number) live.2 at.stands) in
    let unnamed : at.thing.named ≡ 0 = known.named ∙ ap (times_in (named_things stored)) same ∙ none in (
      at.number,
      subst (λ (l : List Number). Contains l at.number) (sym is) (unnamed_at state.things.items at.number at.thing at.file unnamed),
      subst (Stands contents at.number) live.2 at.stands,
    )
