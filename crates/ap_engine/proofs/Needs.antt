-- Whether a row records an input, by the numbers of both.
use Rattle.std.proofs.Common.{◌≡◌, ◌==◌, ℕ, Bool, true, false, cond, List, [], ◌∷◌, Option, Some, None, refl, sym, ◌∙◌, ap, subst}
use Rattle.std.specs.Prelude.{find, bytes_eq}
use Rattle.std.proofs.lemmas.Bool.Decides.{Decides-eqb}
use Rattle.ap_content.specs.Things.{Thing}
use Rattle.ap_content.specs.Entries.{Entry, IsTidy, Stands}
use Rattle.ap_content.specs.declared.node.Number.{Number}
use Rattle.ap_rows.specs.declared.row.CreateRow.{CreateRow}
use Rattle.ap_db.specs.declared.db.Db.{Db}
use Rattle.ap_db.specs.declared.things.FileThing.{FileThing}
use Rattle.ap_db.specs.Changes.{create_row_at}
use Rattle.ap_db.specs.Stored.{Stored}
use Rattle.ap_db.specs.Listed.{AreAll, AreBoth}
use Rattle.ap_db.specs.Same.{same_thing}
use Rattle.ap_db.specs.States.{Names, CreateIs}
use Rattle.ap_db.specs.Tables.{PlainCreate}
use Rattle.ap_db.proofs.SameThings.{itself_same, one_if_same}
use Rattle.ap_engine.specs.Need.{is_of_input}
use Rattle.ap_engine.specs.Ledgers.{IsBeside, IsHeld}
use Rattle.ap_engine.specs.Asked.{is_of_number}

module _ (N : Number → Thing → Type 0) where
  -- both or neither is found
  pub found_both : (path : List ℕ) (rows : List CreateRow) (plains : List PlainCreate) → AreAll (CreateIs N) rows plains
      → AreBoth (CreateIs N) (find (λ row. bytes_eq row.source path) rows) (find (λ row. bytes_eq row.source path) plains)
  found_both path [] [] are = tt
  found_both path [] (plain ∷ plains) are = absurd are
  found_both path (row ∷ rows) [] are = absurd are
  found_both path (row ∷ rows) (plain ∷ plains) are = by_case (bytes_eq row.source path) (bytes_eq plain.source path) (ap (λ source. bytes_eq source path) are.0.source) (found_both path rows plains are.1)
    where
      by_case : (a b : Bool) → a ≡ b → AreBoth (CreateIs N) (find (λ row. bytes_eq row.source path) rows) (find (λ row. bytes_eq row.source path) plains)
          → AreBoth (CreateIs N) (cond a (Some row) (find (λ row. bytes_eq row.source path) rows)) (cond b (Some plain) (find (λ row. bytes_eq row.source path) plains))
      by_case true true e more = are.0
      by_case true false e more = absurd (cc e)
      by_case false true e more = absurd (cc e)
      by_case false false e more = more

-- two numbers are the same exactly where their things are
pub same_numbers : (contents : List (Option Entry)) (m n : Number) (x y : Thing) → IsTidy contents → Stands contents m x → Stands contents n y → (m.0 == n.0) ≡ same_thing x y
same_numbers contents m n x y tidy one two = by_case (m.0 == n.0) refl (same_thing x y) refl
  where
    by_case : (a : Bool) → (m.0 == n.0) ≡ a → (b : Bool) → same_thing x y ≡ b → a ≡ b
    by_case true e true f = refl
    by_case true e false f =
        let numbers : m ≡ n = let digits : m.0 ≡ n.0 = (Decides-eqb m.0 n.0).0 e in λ i. record { 0 = digits i } in
        let things : x ≡ y = tidy.one_thing n x y (subst (λ k. Stands contents k x) numbers one) two in
        sym (itself_same y) ∙ ap (λ z. same_thing z y) (sym things) ∙ f
    by_case false e true f =
        let things : x ≡ y = one_if_same x y f in
        let numbers : m ≡ n = tidy.one_number m n y (subst (Stands contents m) things one) two in
        sym (sym ((Decides-eqb n.0 n.0).1 refl) ∙ ap (λ (k : Number). k.0 == n.0) (sym numbers) ∙ e)
    by_case false e false f = refl

same_record : (things : List (Option FileThing)) (contents : List (Option Entry)) (n : Number) (x : Thing) (path : List ℕ) (rows : List CreateRow) (plains : List PlainCreate)
    → IsTidy contents → Stands contents n x → AreAll (CreateIs (Names things contents)) rows plains
    → is_of_number n (find (λ row. bytes_eq row.source path) rows) ≡ is_of_input x (find (λ row. bytes_eq row.source path) plains)
same_record things contents n x path rows plains tidy stands are =
    by_rows (find (λ row. bytes_eq row.source path) rows) (find (λ row. bytes_eq row.source path) plains) (found_both (Names things contents) path rows plains are)
  where
    by_rows : (row : Option CreateRow) (plain : Option PlainCreate) → AreBoth (CreateIs (Names things contents)) row plain → is_of_number n row ≡ is_of_input x plain
    by_rows None None both = refl
    by_rows None (Some plain) both = absurd both
    by_rows (Some row) None both = absurd both
    by_rows (Some row) (Some plain) both = same_numbers contents row.input n plain.input x tidy both.input.stands stands

module _ (db : Db) (contents : List (Option Entry)) (stored : Stored) (is : IsBeside db contents stored) where
  pub recorded_beside : (n : Number) (x : Thing) (path : List ℕ) → IsHeld db contents n x → (answer : Bool)
      → answer ≡ is_of_number n (find (λ row. bytes_eq row.source path) db.state.tables.creates.items) → is_of_input x (create_row_at stored.tables path) ≡ answer
  recorded_beside n x path held answer says =
      sym (says ∙ same_record db.state.things.items contents n x path db.state.tables.creates.items stored.tables.creates is.stands.tidy held.stands is.stands.tables.creates)
