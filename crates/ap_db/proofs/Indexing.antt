-- Numbers of the file, by an index of the contents' numbers.
use Rattle.std.proofs.Common.{◌≡◌, ◌==◌, ℕ, Bool, true, false, cond, if◌then◌else◌, List, [], ◌∷◌, Option, Some, None, refl, sym, ◌∙◌, ap, subst}
use Rattle.std.specs.Prelude.{IsSome, option_map, option_and_then, find}
use Rattle.std.specs.List.{AllByRecursion}
use Rattle.std.proofs.lemmas.Bool.Decides.{Decides-eqb}
use Rattle.ap_content.specs.Things.{Thing}
use Rattle.ap_content.specs.Entries.{Entry, Stands}
use Rattle.ap_content.specs.declared.node.Number.{Number}
use Rattle.ap_db.specs.declared.things.FileThing.{FileThing}
use Rattle.ap_db.specs.declared.state.State.{State}
use Rattle.ap_db.specs.Same.{tag_of}
use Rattle.ap_db.specs.Stored.{Live, Stored, thing_at, tagged_at, if_tagged}
use Rattle.ap_db.specs.Listed.{AreBoth}
use Rattle.ap_db.specs.States.{StandsFor, Names, IsFound, IsIndexOf, indexed, file_thing, file_number}

-- what is found of a number has what all have
pub found_at : (P : Live → Type 0) (n : ℕ) (live : List Live) (x : Thing) → AllByRecursion P live → option_map (λ live. live.value) (find (λ live. live.number == n) live) ≡ Some x
    → (l : Live) × P l × (l.number ≡ n) × (l.value ≡ x)
found_at P n [] x all e = absurd (cc e)
found_at P n (l ∷ live) x all e = step (l.number == n) refl (λ later. found_at P n live x all.1 later)
  where
    step : (b : Bool) → l.number == n ≡ b → (option_map (λ live. live.value) (find (λ live. live.number == n) live) ≡ Some x → (l : Live) × P l × (l.number ≡ n) × (l.value ≡ x)) → (l : Live) × P l × (l.number ≡ n) × (l.value ≡ x)
    step true is rest =
        let one : Some l.value ≡ Some x = sym (ap (λ b. option_map (λ live. live.value) (cond b (Some l) (find (λ live. live.number == n) live))) is) ∙ e in
        (l, all.0, (Decides-eqb l.number n).0 is, cc one)
    step false is rest = rest (sym (ap (λ b. option_map (λ live. live.value) (cond b (Some l) (find (λ live. live.number == n) live))) is) ∙ e)

pub number_is : (n : Number) → record { 0 = n.0 } ≡ n
number_is n = refl

some_thing : (things : List (Option FileThing)) (m : Number) (n : ℕ) → file_number things m ≡ Some n → (t : FileThing) × (file_thing things m ≡ Some t) × (t.number ≡ n)
some_thing things m n e = step (file_thing things m) refl e
  where
    step : (o : Option FileThing) → file_thing things m ≡ o → option_map (λ t. t.number) o ≡ Some n → (t : FileThing) × (file_thing things m ≡ Some t) × (t.number ≡ n)
    step None is e = absurd (cc e)
    step (Some t) is e = (t, is, cc e)

module _ (state : State) (contents : List (Option Entry)) (stored : Stored) (index : List (Option Number)) (stands : StandsFor state contents stored) (is_index : IsIndexOf index state) where
  pub names_number : (m : Number) (n : ℕ) → file_number state.things.items m ≡ Some n → (x : Thing) × (thing_at stored (record { 0 = n }) ≡ Some x) × Names state.things.items contents m x
  names_number m n e =
      let t = some_thing state.things.items m n e in
      let known = stands.known m t.0 t.1 in
      (known.value, ap (λ (k : ℕ). thing_at stored (record { 0 = k })) (sym t.2) ∙ known.live, record { file = subst IsSome (sym t.1) refl; stands = known.stands })

  pub resolved : (n : Number) (o : Option Number) → indexed index n.0 ≡ o → AreBoth (Names state.things.items contents) o (thing_at stored n)
  resolved n (Some m) e =
      let r = names_number m n.0 (is_index.points n.0 m e) in
      subst (λ p. AreBoth (Names state.things.items contents) (Some m) p) (sym r.1) r.2
  resolved n None e = step (thing_at stored n) refl
    where
      step : (p : Option Thing) → thing_at stored n ≡ p → AreBoth (Names state.things.items contents) None p
      step None is = tt
      step (Some x) is =
          let l = found_at (IsFound state.things.items contents) n.0 stored.live x stands.found is in
          let number : file_number state.things.items l.1.number ≡ Some n.0 = ap (λ o. option_map (λ t. t.number) o) l.1.file ∙ ap (λ (k : ℕ). Some k) (l.1.same ∙ l.2) in
          let there : indexed index n.0 ≡ Some l.1.number = is_index.finds l.1.number n.0 number in
          absurd (cc (e, there))

  pub tagged_is : (tag : ℕ) (n m : Number) → indexed index n.0 ≡ Some m → (has : Bool) → ((x : Thing) → Stands contents m x → has ≡ (tag_of x == tag))
      → AreBoth (Names state.things.items contents) (if has then Some m else None) (tagged_at tag stored n)
  tagged_is tag n m e has tells = step (thing_at stored n) refl (resolved n (Some m) e)
    where
      step : (p : Option Thing) → thing_at stored n ≡ p → AreBoth (Names state.things.items contents) (Some m) p → AreBoth (Names state.things.items contents) (if has then Some m else None) (tagged_at tag stored n)
      step None is names = absurd names
      step (Some x) is names =
          subst (λ p. AreBoth (Names state.things.items contents) (if has then Some m else None) (option_and_then (if_tagged tag) p)) (sym is)
          (subst (λ (b : Bool). AreBoth (Names state.things.items contents) (if has then Some m else None) (if b then Some x else None)) (tells x names.stands) (either has))
        where
          either : (b : Bool) → AreBoth (Names state.things.items contents) (if b then Some m else None) (if b then Some x else None)
          either true = names
          either false = tt

  pub untagged : (tag : ℕ) (n : Number) → indexed index n.0 ≡ None → AreBoth (Names state.things.items contents) None (tagged_at tag stored n)
  untagged tag n e = step (thing_at stored n) refl (resolved n None e)
    where
      step : (p : Option Thing) → thing_at stored n ≡ p → AreBoth (Names state.things.items contents) None p → AreBoth (Names state.things.items contents) None (tagged_at tag stored n)
      step None is names = subst (λ p. AreBoth (Names state.things.items contents) None (option_and_then (if_tagged tag) p)) (sym is) tt
      step (Some x) is names = absurd names
