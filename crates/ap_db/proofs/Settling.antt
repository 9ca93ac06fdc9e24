-- The database's holds once a commit stands: on what it defined, and no more on what it dropped.
use Rattle.std.proofs.Common.{◌≡◌, ◌≢◌, ◌<◌, ◌≤◌, ◌+◌, ◌==◌, ℕ, zero, suc, not, Bool, true, false, cond, List, [], ◌∷◌, map, Option, Some, None, refl, sym, ◌∙◌, ap, subst, arith, ◌⊎◌, inl, inr, ⊎_elim, fold}
use Rattle.std.specs.Prelude.{IsSome, IfSome, is_some, option_map}
use Rattle.std.proofs.lemmas.Bool.Decides.{nat_tests}
use Rattle.ap_content.specs.Things.{Thing}
use Rattle.ap_content.specs.Entries.{Entry, IsTidy, Stands, holds_at, holds_in, entry_at, node_at, one_more, one_less, Lives, Gains, Loses}
use Rattle.ap_content.specs.Laws.{Stands-kept, Stands-gained, node_at-gained}
use Rattle.ap_content.specs.declared.node.Number.{Number}
use Rattle.ap_content.specs.declared.node.Node.{Node}
use Rattle.ap_db.specs.declared.things.FileThing.{FileThing}
use Rattle.ap_db.specs.declared.drops.Dropped.{Dropped}
use Rattle.ap_db.specs.declared.state.State.{State}
use Rattle.ap_db.specs.Stored.{Live, Stored, values, thing_at, and_thing, and_no_thing}
use Rattle.ap_db.specs.Commit.{PlainItem, new_things}
use Rattle.ap_db.specs.CommitLaw.{after_puts, grown}
use Rattle.ap_db.specs.DefineLaws.{AreGrown}
use Rattle.ap_db.specs.Listed.{AreAll}
use Rattle.ap_db.specs.LiveLaws.{equal_numbers, number_is, other_number, live_of, value_of, at_number, one_value}
use Rattle.ap_db.specs.Members.{Has, in_map, from_map, in_filter, from_filter}
use Rattle.ap_db.specs.Naming.{one_if, times_of}
use Rattle.ap_db.specs.Planned.{IsSettled, AreHeldBeside, HoldsFollow, more_by, fewer_by}
use Rattle.ap_db.specs.States.{StandsFor, Names, IsFound, AreHeld, file_thing}
use Rattle.ap_db.specs.TakenOut.{without_things, number_here, IsSpare, AreSpare}
use Rattle.ap_db.specs.WellStored.{IsWellStored}
use Rattle.ap_db.proofs.Defining.{equal_or_not}
use Rattle.ap_db.proofs.Dropping.{has_node}
use Rattle.ap_db.proofs.Holding.{lives_if_held}
use Rattle.ap_db.proofs.NamedItems.{names_live, has_value, number_among}
use Rattle.ap_db.proofs.Renaming.{tables_follow, all_follow}
use Rattle.ap_db.proofs.Spares.{well_without_one}

-- ---- what lives has a node, and what has one lives

node_if_lives : (contents : List (Option Entry)) (m : Number) → Lives contents m → (node : Node) × (node_at contents m ≡ Some node)
node_if_lives contents m lives = step (entry_at contents m) lives
  where
    step : (o : Option Entry) → IsSome o → (node : Node) × (option_map (λ (e : Entry). e.node) o ≡ Some node)
    step None h = absurd (cc h)
    step (Some e) h = (e.node, refl)

lives_if_node : (contents : List (Option Entry)) (m : Number) (node : Node) → node_at contents m ≡ Some node → Lives contents m
lives_if_node contents m node at = step (entry_at contents m) at
  where
    step : (o : Option Entry) → option_map (λ (e : Entry). e.node) o ≡ Some node → IsSome o
    step None h = absurd (cc h)
    step (Some e) h = refl

pub stands_lives : (contents : List (Option Entry)) (m : Number) (x : Thing) → Stands contents m x → Lives contents m
stands_lives contents m x s = let has = has_node contents m x s in lives_if_node contents m has.0 has.1

-- the numbers of things live
pub all_live : (contents : List (Option Entry)) (ns : List Number) (xs : List Thing) → AreAll (Stands contents) ns xs → (m : Number) → Has ns m → Lives contents m
all_live contents [] xs each m h = absurd h
all_live contents (n ∷ ns) [] each m h = absurd each
all_live contents (n ∷ ns) (x ∷ xs) each m (inl e) = subst (Lives contents) e (stands_lives contents n x each.0)
all_live contents (n ∷ ns) (x ∷ xs) each m (inr h) = all_live contents ns xs each.1 m h

-- ---- one hold more

one_same : (n k : Number) → k ≡ n → one_if n k ≡ 1
one_same n k same = ap (λ b. cond b 1 0) (equal_numbers n.0 k.0 (ap (λ (j : Number). j.0) (sym same)))

one_apart : (n k : Number) → k ≢ n → one_if n k ≡ 0
one_apart n k apart = ap (λ b. cond b 1 0) (other_number n.0 k.0 (λ e. apart (ap (λ (i : ℕ). record { 0 = i }) (sym e))))

one_at_least : (h : ℕ) → h ≤ one_more h
one_at_least h = grind (arith, nat_tests)

more_than_least : (least h : ℕ) → least ≤ h → least < 18446744073709551615 → least < one_more h
more_than_least least h le below = grind (arith, nat_tests, le, below)

more_at_least : (n h : ℕ) → h ≤ more_by n h
more_at_least zero h = omega arith
more_at_least (suc n) h =
    let rest : one_more h ≤ more_by n (one_more h) = more_at_least n (one_more h) in
    omega (arith, one_at_least h, rest)

more_than : (n least h : ℕ) → 1 ≤ n → least ≤ h → least < 18446744073709551615 → least < more_by n h
more_than zero least h some le below = absurd (omega (arith, some))
more_than (suc n) least h some le below =
    let rest : one_more h ≤ more_by n (one_more h) = more_at_least n (one_more h) in
    omega (arith, more_than_least least h le below, rest)

has_times : (ns : List Number) (m : Number) → Has ns m → 1 ≤ times_of ns m
has_times [] m h = absurd h
has_times (n ∷ ns) m (inl same) = let one : one_if n m ≡ 1 = one_same n m (sym same) in omega (arith, one)
has_times (n ∷ ns) m (inr h) = let rest : 1 ≤ times_of ns m = has_times ns m h in omega (arith, rest)

-- those of the numbers that aren't among the rest are held once more
pub record AreGained (old now : List (Option Entry)) (ns rest : List Number) : Type 0 where
  pub live : (m : Number) → Has rest m → Lives now m
  pub exact : (m : Number) → more_by (times_of rest m) (holds_at now m) ≡ more_by (times_of ns m) (holds_at old m)
  pub stood : (m : Number) (x : Thing) → Stands old m x → Stands now m x
  pub tidy : IsTidy now

pub none_gained : (old : List (Option Entry)) (ns : List Number) → ((m : Number) → Has ns m → Lives old m) → IsTidy old → AreGained old old ns ns
none_gained old ns live tidy = record { live = live; exact = λ m. refl; stood = λ m x s. s; tidy = tidy }

pub one_gained : (old now next : List (Option Entry)) (ns rest : List Number) (m : Number) → AreGained old now ns (m ∷ rest) → IfSome (node_at now m) (Gains now next m) → IsTidy next → AreGained old next ns rest
one_gained old now next ns rest m so_far if_some tidy = record {
  live = λ k has. let node = node_if_lives now k (so_far.live k (inr has)) in
      lives_if_node next k node.0 (node_at-gained now next m here.0 gains k (so_far.live k (inr has)) ∙ node.1);
  exact = λ k. counted k;
  stood = λ k x s. let still = so_far.stood k x s in Stands-gained now next m here.0 gains so_far.tidy x k (stands_lives now k x still) still;
  tidy = tidy;
}
  where
    here : (node : Node) × (node_at now m ≡ Some node)
    here = node_if_lives now m (so_far.live m (inl refl))

    gains : Gains now next m here.0
    gains = subst (λ (o : Option Node). IfSome o (Gains now next m)) here.1 if_some

    counted : (k : Number) → more_by (times_of rest k) (holds_at next k) ≡ more_by (times_of ns k) (holds_at old k)
    counted k = equal_or_not k m
        (λ same.
        let here_one : one_if m k ≡ 1 = one_same m k same in
        let one : one_if m k + times_of rest k ≡ suc (times_of rest k) = omega (arith, here_one) in
        let held : holds_at next k ≡ one_more (holds_at now k) = ap (holds_at next) same ∙ ap holds_in gains.held ∙ ap (λ (j : Number). one_more (holds_at now j)) (sym same) in
        ap (more_by (times_of rest k)) held ∙ sym (ap (λ (c : ℕ). more_by c (holds_at now k)) one) ∙ so_far.exact k)
        (λ apart.
        let none : one_if m k ≡ 0 = one_apart m k apart in
        let as_many : one_if m k + times_of rest k ≡ times_of rest k = omega (arith, none) in
        let held : holds_at next k ≡ holds_at now k = ap holds_in (gains.others k apart) in
        ap (more_by (times_of rest k)) held ∙ sym (ap (λ (c : ℕ). more_by c (holds_at now k)) as_many) ∙ so_far.exact k)

-- the first of the rest lives
pub first_lives : (old now : List (Option Entry)) (ns rest : List Number) (m : Number) → AreGained old now ns (m ∷ rest) → Lives now m
first_lives old now ns rest m so_far = so_far.live m (inl refl)

pub all_gained : (old now : List (Option Entry)) (ns : List Number) → AreGained old now ns [] → (m : Number) → holds_at now m ≡ more_by (times_of ns m) (holds_at old m)
all_gained old now ns all m = all.exact m

-- ---- one hold less

least_left : (least h : ℕ) → least + 1 ≤ h → least ≤ one_less h
least_left least h le = grind (arith, nat_tests, le)

fewer_left : (n least h : ℕ) → least + n ≤ h → least ≤ fewer_by n h
fewer_left zero least h le = let sum : least + 0 ≤ h = le in omega (arith, sum)
fewer_left (suc n) least h le =
    let sum : least + suc n ≤ h = le in
    let less : least + n ≤ one_less h = least_left (least + n) h (omega (arith, sum)) in
    fewer_left n least (one_less h) less

-- those of these that aren't among the rest are released once
pub record AreReleased (old now : List (Option Entry)) (dropped rest : List Dropped) : Type 0 where
  pub exact : (m : Number) → fewer_by (times_of (map number_here rest) m) (holds_at now m) ≡ fewer_by (times_of (map number_here dropped) m) (holds_at old m)
  pub enough : (m : Number) → times_of (map number_here rest) m ≤ holds_at now m
  pub stood : (m : Number) (x : Thing) → Stands old m x → Lives now m → Stands now m x
  pub tidy : IsTidy now

pub none_released : (old : List (Option Entry)) (dropped : List Dropped) → ((m : Number) → times_of (map number_here dropped) m ≤ holds_at old m) → IsTidy old → AreReleased old old dropped dropped
none_released old dropped held tidy = record { exact = λ m. refl; enough = held; stood = λ m x s lives. s; tidy = tidy }

-- the first of the rest is held
pub first_held : (old now : List (Option Entry)) (dropped rest : List Dropped) (d : Dropped) → AreReleased old now dropped (d ∷ rest) → 0 < holds_at now d.m
first_held old now dropped rest d so_far =
    let one : one_if d.m d.m ≡ 1 = one_same d.m d.m refl in
    let le : one_if d.m d.m + times_of (map number_here rest) d.m ≤ holds_at now d.m = so_far.enough d.m in
    omega (arith, one, le)

pub one_released : (old now next : List (Option Entry)) (dropped rest : List Dropped) (d : Dropped) → AreReleased old now dropped (d ∷ rest) → Loses now next d.m → IsTidy next → AreReleased old next dropped rest
one_released old now next dropped rest d so_far loses tidy = record {
  exact = λ k. counted k;
  enough = λ k. fewer k (so_far.enough k);
  stood = λ k x s lives. Stands-kept now next d.m loses tidy x k lives (so_far.stood k x s (lived k lives));
  tidy = tidy;
}
  where
    lived : (k : Number) → Lives next k → Lives now k
    lived k lives = let node = node_if_lives next k lives in lives_if_node now k node.0 (sym (loses.nodes k lives) ∙ node.1)

    counted : (k : Number) → fewer_by (times_of (map number_here rest) k) (holds_at next k) ≡ fewer_by (times_of (map number_here dropped) k) (holds_at old k)
    counted k = equal_or_not k d.m
        (λ same.
        let here_one : one_if d.m k ≡ 1 = one_same d.m k same in
        let one : one_if d.m k + times_of (map number_here rest) k ≡ suc (times_of (map number_here rest) k) = omega (arith, here_one) in
        let held : holds_at next k ≡ one_less (holds_at now k) = ap (holds_at next) same ∙ loses.held ∙ ap (λ (j : Number). one_less (holds_at now j)) (sym same) in
        ap (fewer_by (times_of (map number_here rest) k)) held ∙ sym (ap (λ (c : ℕ). fewer_by c (holds_at now k)) one) ∙ so_far.exact k)
        (λ apart.
        let none : one_if d.m k ≡ 0 = one_apart d.m k apart in
        let as_many : one_if d.m k + times_of (map number_here rest) k ≡ times_of (map number_here rest) k = omega (arith, none) in
        ap (fewer_by (times_of (map number_here rest) k)) (loses.others k apart) ∙ sym (ap (λ (c : ℕ). fewer_by c (holds_at now k)) as_many) ∙ so_far.exact k)

    fewer : (k : Number) → one_if d.m k + times_of (map number_here rest) k ≤ holds_at now k → times_of (map number_here rest) k ≤ holds_at next k
    fewer k le = equal_or_not k d.m
        (λ same.
        let one : one_if d.m k ≡ 1 = one_same d.m k same in
        let now_is : holds_at now k ≡ holds_at now d.m = ap (holds_at now) same in
        let next_is : holds_at next k ≡ one_less (holds_at now d.m) = ap (holds_at next) same ∙ loses.held in
        let less = least_left (times_of (map number_here rest) k) (holds_at now d.m) (omega (arith, le, one, now_is)) in
        omega (arith, next_is, less))
        (λ apart.
        let none : one_if d.m k ≡ 0 = one_apart d.m k apart in
        let is : holds_at next k ≡ holds_at now k = loses.others k apart in
        omega (arith, le, none, is))

pub all_released : (old now : List (Option Entry)) (dropped : List Dropped) → AreReleased old now dropped [] → (m : Number) → holds_at now m ≡ fewer_by (times_of (map number_here dropped) m) (holds_at old m)
all_released old now dropped all m = all.exact m

-- ---- what is in the file then, or was dropped, was there after the items, and is counted once

-- a count of a number is one where it stands for a live thing, and else none
abbrev IsOneOf : List (Option Entry) → Stored → Number → ℕ → Type 0
IsOneOf contents stored k count = ((count ≡ 0) × ((x : Thing) → Has (values stored) x → Stands contents k x → ⊥)) ⊎ ((count ≡ 1) × (x : Thing) × Has (values stored) x × Stands contents k x)

abbrev in_file : State → Number → ℕ
in_file state k = cond (is_some (file_thing state.things.items k)) 1 0

filed_once : (contents : List (Option Entry)) (state : State) (stored : Stored) → StandsFor state contents stored → (k : Number) → IsOneOf contents stored k (in_file state k)
filed_once contents state stored stands k = step (file_thing state.things.items k) refl
  where
    step : (o : Option FileThing) → file_thing state.things.items k ≡ o → IsOneOf contents stored k (cond (is_some o) 1 0)
    step None e = inl (refl, λ x lives s. absurd (cc (subst IsSome e (names_live state contents stored k x stands lives s).file)))
    step (Some t) e = let known = stands.known k t e in inr (refl, known.value, value_of stored (record { 0 = t.number }) known.value known.live, known.stands)

same_count : (contents : List (Option Entry)) (stored : Stored) (k : Number) (a b : ℕ) → IsOneOf contents stored k a → IsOneOf contents stored k b → a ≡ b
same_count contents stored k a b (inl none) (inl other) = none.0 ∙ sym other.0
same_count contents stored k a b (inl none) (inr there) = absurd (none.1 there.1 there.2 there.3)
same_count contents stored k a b (inr there) (inl none) = absurd (none.1 there.1 there.2 there.3)
same_count contents stored k a b (inr there) (inr other) = there.0 ∙ sym other.0

module _ (contents : List (Option Entry)) (new : State) (tidy : IsTidy contents) where
  module _ (stored : Stored) (d : Dropped) (well : IsWellStored stored) (spare : IsSpare contents stored d) where
    abbrev later : Stored
    later = and_no_thing stored d.thing.number

    stayed : (x : Thing) → Has (values later) x → (live : Live) × Has stored.live live × (live.value ≡ x) × (not (live.number == d.thing.number) ≡ true)
    stayed x has =
        let live = from_map (λ (l : Live). l.value) later.live x has in
        let was = from_filter (λ (l : Live). not (l.number == d.thing.number)) stored.live live.0 live.1 in
        (live.0, was.0, live.2, was.1)

    lived : (x : Thing) → Has (values later) x → Has (values stored) x
    lived x has = let live = stayed x has in subst (Has (values stored)) live.2 (in_map (λ (l : Live). l.value) stored.live live.0 live.1)

    gone : (x : Thing) → Has (values later) x → x ≡ spare.value → ⊥
    gone x has same =
        let live = stayed x has in
        let here = live_of stored (record { 0 = d.thing.number }) spare.value spare.live in
        let one : live.0 ≡ here.0 = one_value stored.live live.0 here.0 well.built live.1 here.1 (live.2 ∙ same ∙ sym here.3) in
        let number : (live.0.number == d.thing.number) ≡ true = equal_numbers live.0.number d.thing.number (ap (λ (l : Live). l.number) one ∙ here.2) in
        absurd (cc (sym live.3 ∙ ap not number))

    stays_or_is : (x : Thing) → Has (values stored) x → Has (values later) x ⊎ (x ≡ spare.value)
    stays_or_is x lives =
        let live = from_map (λ (l : Live). l.value) stored.live x lives in
        subst (λ (y : Thing). Has (values later) y ⊎ (y ≡ spare.value)) live.2 (sort live.0 (live.0.number == d.thing.number) live.1 refl)
      where
        sort : (live : Live) (b : Bool) → Has stored.live live → live.number == d.thing.number ≡ b → Has (values later) live.value ⊎ (live.value ≡ spare.value)
        sort live true has e =
            let number : live.number ≡ d.thing.number = number_is live.number d.thing.number e in
            let same : Some live.value ≡ Some spare.value =
            sym (at_number (suc stored.defined) stored live well.falls has) ∙ ap (λ (n : ℕ). thing_at stored (record { 0 = n })) number ∙ spare.live in
            inr (cc same)
        sort live false has e = inl (in_map (λ (l : Live). l.value) later.live live (in_filter (λ (l : Live). not (l.number == d.thing.number)) stored.live live has (ap not e)))

    none_stands : (k : Number) → k ≢ d.m → ((x : Thing) → Has (values later) x → Stands contents k x → ⊥) → (x : Thing) → Has (values stored) x → Stands contents k x → ⊥
    none_stands k apart none x lives s = ⊎_elim
        (λ stays. none x stays s)
        (λ same. apart (tidy.one_number k d.m x s (subst (Stands contents d.m) (sym same) spare.stands)))
        (stays_or_is x lives)

    one_more_once : (k : Number) (count : ℕ) → IsOneOf contents later k count → (now : ℕ) → now ≡ count + one_if d.m k → IsOneOf contents stored k now
    one_more_once k count others now is = equal_or_not k d.m
        (λ same.
        let one : one_if d.m k ≡ 1 = one_same d.m k same in
        let here : Stands contents k spare.value = subst (λ (j : Number). Stands contents j spare.value) (sym same) spare.stands in
        ⊎_elim
        (λ none. inr (omega (arith, none.0, one, is), spare.value, value_of stored (record { 0 = d.thing.number }) spare.value spare.live, here))
        (λ there. absurd (gone there.1 there.2 (tidy.one_thing k there.1 spare.value there.3 here)))
        others)
        (λ apart.
        let none_of : one_if d.m k ≡ 0 = one_apart d.m k apart in
        ⊎_elim
        (λ none. inl (omega (arith, none.0, none_of, is), none_stands k apart none.1))
        (λ there. inr (omega (arith, there.0, none_of, is), there.1, lived there.1 there.2, there.3))
        others)

  counted_once : (ds : List Dropped) (stored : Stored) → IsWellStored stored → AreSpare contents stored ds → StandsFor new contents (without_things stored ds) → (k : Number)
      → IsOneOf contents stored k (in_file new k + times_of (map number_here ds) k)
  counted_once [] stored well spare stands k =
      let same : in_file new k ≡ in_file new k + 0 = omega arith in
      subst (IsOneOf contents stored k) same (filed_once contents new stored stands k)
  counted_once (d ∷ ds) stored well spare stands k =
      one_more_once stored d well spare.0 k (in_file new k + times_of (map number_here ds) k)
      (counted_once ds (and_no_thing stored d.thing.number) (well_without_one contents stored d well spare.0) spare.1 stands k)
      (in_file new k + (one_if d.m k + times_of (map number_here ds) k)) (omega arith)

-- ---- what was in the file, or was defined, is counted once too

module _ (contents : List (Option Entry)) (tidy : IsTidy contents) where
  module _ (stored : Stored) (n : Number) (x : Thing) (fresh : Has (values stored) x → ⊥) (stands : Stands contents n x) where
    still_none : (k : Number) → k ≢ n → ((y : Thing) → Has (values stored) y → Stands contents k y → ⊥) → (y : Thing) → Has (values (and_thing stored x)) y → Stands contents k y → ⊥
    still_none k apart none y (inl e) s = apart (tidy.one_number k n y s (subst (Stands contents n) e stands))
    still_none k apart none y (inr h) s = none y h s

    one_new_once : (k : Number) (count : ℕ) → IsOneOf contents stored k count → IsOneOf contents (and_thing stored x) k (count + one_if n k)
    one_new_once k count others = equal_or_not k n
        (λ same.
        let one : one_if n k ≡ 1 = one_same n k same in
        let here : Stands contents k x = subst (λ (j : Number). Stands contents j x) (sym same) stands in
        ⊎_elim
        (λ none. inr (omega (arith, none.0, one), x, inl refl, here))
        (λ there. absurd (fresh (subst (Has (values stored)) (tidy.one_thing k there.1 x there.3 here) there.2)))
        others)
        (λ apart.
        let none_of : one_if n k ≡ 0 = one_apart n k apart in
        ⊎_elim
        (λ none. inl (omega (arith, none.0, none_of), still_none k apart none.1))
        (λ there. inr (omega (arith, there.0, none_of), there.1, inr there.2, there.3))
        others)

  grown_once : (xs : List Thing) (ns : List Number) (stored : Stored) → AreGrown stored xs → AreAll (Stands contents) ns xs → (k : Number) (count now : ℕ) → IsOneOf contents stored k count
      → now ≡ count + times_of ns k → IsOneOf contents (fold and_thing stored xs) k now
  grown_once [] [] stored grows each k count now is e =
      let sum : now ≡ count + 0 = e in
      let same : count ≡ now = omega (arith, sum) in
      subst (IsOneOf contents stored k) same is
  grown_once [] (n ∷ ns) stored grows each k count now is e = absurd each
  grown_once (x ∷ xs) [] stored grows each k count now is e = absurd each
  grown_once (x ∷ xs) (n ∷ ns) stored grows each k count now is e =
      let sum : now ≡ count + (one_if n k + times_of ns k) = e in
      grown_once xs ns (and_thing stored x) grows.1 each.1 k (count + one_if n k) now (one_new_once stored n x (λ h. grows.0.fresh h) each.0 k count is) (omega (arith, sum))

-- ---- the holds of a commit

count_some : (o : Option FileThing) → IsSome o → ◌≡◌ {A = ℕ} (cond (is_some o) 1 0) 1
count_some None h = absurd (cc h)
count_some (Some t) h = refl

beside_none : (things : List (Option FileThing)) (contents : List (Option Entry)) → AreHeld things contents → AreHeldBeside (λ m. 0) things contents
beside_none things contents held = λ m. step (holds_at contents m) (file_thing things m) (held m)
  where
    step : (h : ℕ) (o : Option FileThing) → (IsSome o → 0 < h) → 0 + cond (is_some o) 1 0 ≤ h
    step h None f = omega arith
    step h (Some t) f = let some = f refl in omega (arith, some)

held_beside : (others : Number → ℕ) (things : List (Option FileThing)) (contents : List (Option Entry)) → AreHeldBeside others things contents → AreHeld things contents
held_beside others things contents held = λ m some. omega (arith, held m, count_some (file_thing things m) some)

-- with the new holds there are enough for what is in the file then, and for those that are released
pub enough_held : (others : Number → ℕ) (old new : State) (before mid : List (Option Entry)) (stored : Stored) (plain : List PlainItem) (defined : List Number) (dropped : List Dropped)
    → IsSettled old new before stored plain defined dropped → ((m : Number) → others m < 18446744073709551614) → AreHeldBeside others old.things.items before
    → ((m : Number) → holds_at mid m ≡ more_by (times_of defined m) (holds_at before m))
    → (k : Number) → others k + cond (is_some (file_thing new.things.items k)) 1 0 + times_of (map number_here dropped) k ≤ holds_at mid k
enough_held others old new before mid stored plain defined dropped settled bound held gains k =
    ⊎_elim
    (λ none. omega (arith, none.0, had, kept))
    (λ one. ⊎_elim
    (λ filed. let was : cond (is_some (file_thing old.things.items k)) 1 0 ≡ 1 = count_some (file_thing old.things.items k) filed in omega (arith, one.0, was, had, kept))
    (λ has. let now = more_than (times_of defined k) (others k) (holds_at before k) (has_times defined k has) (omega (arith, had)) (omega (arith, bound k)) in omega (arith, one.0, gains k, now))
    (filed_or_new one.1 one.2 one.3))
    (counted_once before new settled.before.tidy dropped (after_puts stored plain) settled.swept.out.well settled.swept.out.spare settled.swept.out.stands k)
  where
    had : others k + cond (is_some (file_thing old.things.items k)) 1 0 ≤ holds_at before k
    had = held k

    kept : holds_at before k ≤ holds_at mid k
    kept = omega (arith, gains k, more_at_least (times_of defined k) (holds_at before k))

    filed_or_new : (x : Thing) → Has (values (after_puts stored plain)) x → Stands before k x → IsSome (file_thing old.things.items k) ⊎ Has defined k
    filed_or_new x has s = ⊎_elim
        (λ lived. inl (names_live old before stored k x settled.before lived s).file)
        (λ is_new. let found = number_among before defined (new_things stored plain) x settled.new is_new in
        inr (subst (Has defined) (settled.before.tidy.one_number found.0 k x found.2 s) found.1))
        (has_value stored (new_things stored plain) x has)

module _ (old new : State) (before mid : List (Option Entry)) (stored : Stored) (plain : List PlainItem) (defined : List Number) (dropped : List Dropped) (settled : IsSettled old new before stored plain defined dropped)
    (held : AreHeld old.things.items before) (gains : (m : Number) → holds_at mid m ≡ more_by (times_of defined m) (holds_at before m)) where
  alone : (k : Number) → 0 + cond (is_some (file_thing new.things.items k)) 1 0 + times_of (map number_here dropped) k ≤ holds_at mid k
  alone = enough_held (λ m. 0) old new before mid stored plain defined dropped settled (λ m. omega arith) (beside_none old.things.items before held) gains

  -- each hold that is released is there
  pub first_enough : (k : Number) → times_of (map number_here dropped) k ≤ holds_at mid k
  first_enough k = omega (arith, alone k)

-- so many are left
pub still_left : (others : Number → ℕ) (old new : State) (before mid after : List (Option Entry)) (stored : Stored) (plain : List PlainItem) (defined : List Number) (dropped : List Dropped)
    → IsSettled old new before stored plain defined dropped → ((m : Number) → others m < 18446744073709551614) → AreHeldBeside others old.things.items before
    → ((m : Number) → holds_at mid m ≡ more_by (times_of defined m) (holds_at before m))
    → ((m : Number) → holds_at after m ≡ fewer_by (times_of (map number_here dropped) m) (holds_at mid m))
    → AreHeldBeside others new.things.items after
still_left others old new before mid after stored plain defined dropped settled bound held gains loses k =
    let enough = enough_held others old new before mid stored plain defined dropped settled bound held gains k in
    let left = fewer_left (times_of (map number_here dropped) k) (others k + cond (is_some (file_thing new.things.items k)) 1 0) (holds_at mid k) enough in
    omega (arith, left, loses k)

pub settled_held : (old new : State) (before mid after : List (Option Entry)) (stored : Stored) (plain : List PlainItem) (defined : List Number) (dropped : List Dropped) → IsSettled old new before stored plain defined dropped
    → AreHeld old.things.items before → ((m : Number) → holds_at mid m ≡ more_by (times_of defined m) (holds_at before m))
    → ((m : Number) → holds_at after m ≡ fewer_by (times_of (map number_here dropped) m) (holds_at mid m))
    → AreHeld new.things.items after
settled_held old new before mid after stored plain defined dropped settled held gains loses =
    held_beside (λ m. 0) new.things.items after
    (still_left (λ m. 0) old new before mid after stored plain defined dropped settled (λ m. omega arith) (beside_none old.things.items before held) gains loses)

-- ---- the holds follow the file

more_then_less : (h : ℕ) → h < 18446744073709551614 → one_less (one_more h) ≡ h
more_then_less h below = grind (arith, nat_tests, below)

module _ (old new : State) (before mid after : List (Option Entry)) (stored : Stored) (plain : List PlainItem) (defined : List Number) (dropped : List Dropped) (settled : IsSettled old new before stored plain defined dropped)
    (gains : (m : Number) → holds_at mid m ≡ more_by (times_of defined m) (holds_at before m))
    (loses : (m : Number) → holds_at after m ≡ fewer_by (times_of (map number_here dropped) m) (holds_at mid m)) where
  abbrev came : Number → ℕ
  came m = times_of defined m

  abbrev went : Number → ℕ
  went m = times_of (map number_here dropped) m

  there_once : (k : Number) → IsOneOf before (after_puts stored plain) k (in_file old k + came k)
  there_once k = grown_once before settled.before.tidy (new_things stored plain) defined stored (grown stored plain settled.well settled.lawful) settled.new k
      (in_file old k) (in_file old k + came k) (filed_once before old stored settled.before k) refl

  at_most_once : (k : Number) → in_file old k + came k ≤ 1
  at_most_once k = ⊎_elim (λ none. omega (arith, none.0)) (λ one. omega (arith, one.0)) (there_once k)

  -- what was there or came has stayed or went
  same_sums : (k : Number) → in_file old k + came k ≡ in_file new k + went k
  same_sums k = same_count before (after_puts stored plain) k (in_file old k + came k) (in_file new k + went k) (there_once k)
      (counted_once before new settled.before.tidy dropped (after_puts stored plain) settled.swept.out.well settled.swept.out.spare settled.swept.out.stands k)

  count_none : (o : Option FileThing) → o ≡ None → ◌≡◌ {A = ℕ} (cond (is_some o) 1 0) 0
  count_none None e = refl
  count_none (Some t) e = absurd (cc e)

  more : (m : Number) (count : ℕ) → came m ≡ count → holds_at mid m ≡ more_by count (holds_at before m)
  more m count e = gains m ∙ ap (λ (c : ℕ). more_by c (holds_at before m)) e

  fewer : (m : Number) (count : ℕ) → went m ≡ count → holds_at after m ≡ fewer_by count (holds_at mid m)
  fewer m count e = loses m ∙ ap (λ (c : ℕ). fewer_by c (holds_at mid m)) e

  neither : (m : Number) → came m ≡ 0 → went m ≡ 0 → holds_at after m ≡ holds_at before m
  neither m c w = fewer m 0 w ∙ more m 0 c

  both : (m : Number) → came m ≡ 1 → went m ≡ 1 → holds_at before m < 18446744073709551614 → holds_at after m ≡ holds_at before m
  both m c w below = fewer m 1 w ∙ ap one_less (more m 1 c) ∙ more_then_less (holds_at before m) below

  pub holds_follow : HoldsFollow old.things.items new.things.items before after
  holds_follow = record {
    released = λ m was is.
        let o : in_file old m ≡ 1 = count_some (file_thing old.things.items m) was in
        let n : in_file new m ≡ 0 = count_none (file_thing new.things.items m) is in
        let c : came m ≡ 0 = omega (arith, o, at_most_once m) in
        let w : went m ≡ 1 = omega (arith, o, n, c, same_sums m) in
        fewer m 1 w ∙ ap one_less (more m 0 c);
    same = λ m was is.
        let o : in_file old m ≡ 1 = count_some (file_thing old.things.items m) was in
        let n : in_file new m ≡ 1 = count_some (file_thing new.things.items m) is in
        let c : came m ≡ 0 = omega (arith, o, at_most_once m) in
        neither m c (omega (arith, o, n, c, same_sums m));
    gained = λ m was is.
        let o : in_file old m ≡ 0 = count_none (file_thing old.things.items m) was in
        let n : in_file new m ≡ 1 = count_some (file_thing new.things.items m) is in
        let w : went m ≡ 0 = omega (arith, o, n, at_most_once m, same_sums m) in
        let c : came m ≡ 1 = omega (arith, o, n, w, same_sums m) in
        fewer m 0 w ∙ more m 1 c;
    beside = λ m was is below.
        let o : in_file old m ≡ 0 = count_none (file_thing old.things.items m) was in
        let n : in_file new m ≡ 0 = count_none (file_thing new.things.items m) is in
        ⊎_elim
        (λ none. neither m (omega (arith, o, none.0)) (omega (arith, o, n, none.0, same_sums m)))
        (λ one. both m (omega (arith, o, one.0)) (omega (arith, o, n, one.0, same_sums m)) below)
        (there_once m);
  }

-- ---- the state, once the holds are as they were to be

module _ (state : State) (before after : List (Option Entry)) (stored : Stored) (stands : StandsFor state before stored) (tidy : IsTidy after) (held : AreHeld state.things.items after)
    (kept : (k : Number) (y : Thing) → Stands before k y → Lives after k → Stands after k y) where
  abbrev things : List (Option FileThing)
  things = state.things.items

  still_stands : (k : Number) (y : Thing) → IsSome (file_thing things k) → Stands before k y → Stands after k y
  still_stands k y some s = kept k y s (lives_if_held after k (held k some))

  pub stands_on : StandsFor state after stored
  stands_on = record {
    sound = stands.sound;
    tidy = tidy;
    defined = stands.defined;
    names = stands.names;
    tables = tables_follow (Names things before) (Names things after) (λ k y h. record { file = h.file; stands = still_stands k y h.file h.stands }) state.tables stored.tables stands.tables;
    found = all_follow (IsFound things before) (IsFound things after) stored.live
        (λ live h. record { number = h.number; thing = h.thing; file = h.file; same = h.same; stands = still_stands h.number live.value (subst IsSome (sym h.file) refl) h.stands }) stands.found;
    known = λ k t e.
        let known = stands.known k t e in
        record { value = known.value; live = known.live; stands = still_stands k known.value (subst IsSome (sym e) refl) known.stands; named = known.named };
  }
