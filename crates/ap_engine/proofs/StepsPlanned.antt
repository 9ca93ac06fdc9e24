-- Steps that are planned, those for the first path before the others.
use Rattle.std.proofs.Common.{◌≡◌, ◌==◌, ◌&&◌, ℕ, Bool, true, false, cond, List, [], ◌∷◌, ◌++◌, map, Option, Some, None, refl, sym, ◌∙◌, ap, subst, append_assoc, Bor}
use Rattle.std.specs.Prelude.{⊤, bytes_eq}
use Rattle.std.specs.List.Sorted.{IsStrictlySortedBy}
use Rattle.std.specs.declared.cmp.Ordering.TheVariants.{Less}
use Rattle.std.proofs.lemmas.Bool.Decides.{Decides-eqb}
use Rattle.std.proofs.lemmas.List.{append-nil}
use Rattle.std.proofs.lemmas.Slice.Eq.{bytes_eq-Decides}
use Rattle.ap_text.specs.Order.{bytes_cmp}
use Rattle.ap_text.proofs.Members.{Contains-none, Contains-head, Contains-tail_of}
use Rattle.ap_content.specs.Things.{Thing, bytes_thing}
use Rattle.ap_content.specs.Entries.{Entry, IsTidy, Stands}
use Rattle.ap_content.specs.declared.node.Number.{Number}
use Rattle.ap_scan.specs.declared.results.Winner.{Winner}
use Rattle.ap_rows.specs.declared.row.SourceRow.{SourceRow}
use Rattle.ap_rows.specs.declared.row.SeenRow.{SeenRow}
use Rattle.ap_rows.specs.declared.row.SeenRow.TheVariants.{Bytes as WithBytes, TooLarge}
use Rattle.ap_db.specs.declared.db.Db.{Db}
use Rattle.ap_db.specs.Changes.{Whole, put_source, remove_source}
use Rattle.ap_db.specs.Listed.{AreAll}
use Rattle.ap_db.specs.SameThings.{same_if_one, not_same}
use Rattle.ap_db.specs.States.{Names, SeenIs, SourceIs}
use Rattle.ap_db.specs.Tables.{PlainSource}
use Rattle.ap_engine.specs.declared.source.Source.{Source}
use Rattle.ap_engine.specs.declared.source_rows.Step.{Step}
use Rattle.ap_engine.specs.declared.source_rows.Step.TheVariants.{Put, Remove}
use Rattle.ap_engine.specs.Interned.{IsSourceOf, AreSourcesOf}
use Rattle.ap_engine.specs.Rows.{same_content, same_source}
use Rattle.ap_engine.specs.Settled.{content_thing, source_row}
use Rattle.ap_engine.specs.SourceSteps.{AreRead, is_seen_with, is_row_of, changes_among, IsStepFor, AreStepsFor, ArePlanned}
use Rattle.ap_engine.proofs.MergedPaths.{IsBelow, tail_rises, below_all, new_first, gone_first, both_first}
use Rattle.ap_engine.proofs.RisingLists.{keys_rise}

-- ---- winners that are read

winners_rise : (winners : List Winner) → AreRead winners → IsStrictlySortedBy bytes_cmp (map (λ winner. winner.path) winners)
winners_rise winners read = keys_rise bytes_cmp (λ winner. winner.path) winners read.rise

others_read : (winner : Winner) (winners : List Winner) → AreRead (winner ∷ winners) → AreRead winners
unfolding IsStrictlySortedBy
others_read winner winners read = record {
  rise = read.rise.1;
  read = λ other m. read.read other (Contains-tail_of winner winners other m);
  folded = λ other m. read.folded other (Contains-tail_of winner winners other m);
}

-- ---- a row and a source of one path

one_of : (n m : Number) → n.0 ≡ m.0 → n ≡ m
one_of n m e = λ i. record { 0 = e i }

module _ (db : Db) (contents : List (Option Entry)) (tidy : IsTidy contents) where
  abbrev Named : Number → Thing → Type 0
  Named = Names db.state.things.items contents

  seen_same : (seen : SeenRow) (plain : Option Thing) → SeenIs Named seen plain → (content : Number) (x : Thing) → Stands contents content x → same_content plain (Some x) ≡ is_seen_with seen content
  seen_same (WithBytes n) None is content x stands = absurd is
  seen_same TooLarge None is content x stands = refl
  seen_same TooLarge (Some y) is content x stands = absurd is
  seen_same (WithBytes n) (Some y) is content x stands = by_case (n.0 == content.0) refl
    where
      by_case : (b : Bool) → (n.0 == content.0) ≡ b → same_content (Some y) (Some x) ≡ b
      by_case true e = same_if_one y x (tidy.one_thing n y x is.stands (subst (λ m. Stands contents m x) (sym (one_of n content ((Decides-eqb n.0 content.0).0 e))) stands))
      by_case false e = not_same y x (λ same. cc (sym e ∙ (Decides-eqb n.0 content.0).1 (ap (λ (m : Number). m.0) (tidy.one_number n content x (subst (Stands contents n) same is.stands) stands))))

  row_same : (row : SourceRow) (old : PlainSource) (source : Source) (winner : Winner) → SourceIs Named row old → IsSourceOf db contents source winner → row.path ≡ source.path → same_source old (source_row winner) ≡ is_row_of row source
  row_same row old source winner is of same =
      let path : bytes_eq old.path winner.path ≡ true = (bytes_eq-Decides old.path winner.path).1 (sym is.path ∙ same ∙ of.path) in
      let order : (old.order == winner.order) ≡ (row.order == source.order) = λ i. sym is.order i == sym of.order i in
      let name : bytes_eq old.name winner.name ≡ bytes_eq row.name source.name = λ i. bytes_eq (sym is.name i) (sym of.name i) in
      let content : same_content old.content (content_thing winner.seen) ≡ is_seen_with row.seen source.content =
      ap (λ seen. same_content old.content (content_thing seen)) of.seen ∙ seen_same row.seen old.content is.seen source.content (bytes_thing of.bytes) of.held.stands in
      λ i. path i && order i && name i && content i

-- ---- one step more

one_more : (db : Db) (contents : List (Option Entry)) (steps : List Step) (changes : List Whole) (step : Step) (change : Whole) → AreStepsFor db contents steps changes → IsStepFor db contents step change → AreStepsFor db contents (steps ++ step ∷ []) (changes ++ change ∷ [])
one_more db contents [] [] step change are is = (is, tt)
one_more db contents [] (other ∷ changes) step change are is = absurd are
one_more db contents (other ∷ steps) [] step change are is = absurd are
one_more db contents (first ∷ steps) (other ∷ changes) step change are is = (are.0, one_more db contents steps changes step change are.1 is)

-- the first of rows and sources has a greater path, where there are any
abbrev pub HasAbove : {X : Type 0} → (X → List ℕ) → List ℕ → List X → Type 0
HasAbove key p [] = ⊤
HasAbove key p (x ∷ xs) = bytes_cmp p (key x) ≡ Less

module _ (db : Db) (contents : List (Option Entry)) where
  abbrev Are : List SourceRow → List PlainSource → Type 0
  Are = AreAll (SourceIs (Names db.state.things.items contents))

  below_winners : (p : List ℕ) (sources : List Source) (winners : List Winner) → AreSourcesOf db contents sources winners → IsStrictlySortedBy bytes_cmp (map (λ winner. winner.path) winners) → HasAbove (λ (source : Source). source.path) p sources → IsBelow p (map (λ winner. winner.path) winners)
  below_winners p [] [] are rise above = λ q m. absurd (Contains-none q m)
  below_winners p [] (winner ∷ winners) are rise above = absurd are
  below_winners p (source ∷ sources) [] are rise above = absurd are
  below_winners p (source ∷ sources) (winner ∷ winners) are rise above = below_all (λ (winner : Winner). winner.path) p winner winners rise (ap (bytes_cmp p) (sym are.0.path) ∙ above)

  below_olds : (p : List ℕ) (rows : List SourceRow) (olds : List PlainSource) → Are rows olds → IsStrictlySortedBy bytes_cmp (map (λ row. row.path) olds) → HasAbove (λ (row : SourceRow). row.path) p rows → IsBelow p (map (λ row. row.path) olds)
  below_olds p [] [] are rise above = λ q m. absurd (Contains-none q m)
  below_olds p [] (old ∷ olds) are rise above = absurd are
  below_olds p (row ∷ rows) [] are rise above = absurd are
  below_olds p (row ∷ rows) (old ∷ olds) are rise above = below_all (λ (old : PlainSource). old.path) p old olds rise (ap (bytes_cmp p) (sym are.0.path) ∙ above)

  module _ (steps : List Step) (all : List Whole) where
    -- a row without a source
    pub row_gone : (row : SourceRow) (rows : List SourceRow) (sources : List Source) (path : List ℕ) → path ≡ row.path → HasAbove (λ (source : Source). source.path) row.path sources
        → ArePlanned db contents (row ∷ rows) sources steps all → ArePlanned db contents rows sources (steps ++ Remove path ∷ []) all
    row_gone row rows sources path is above planned = by_olds planned.olds planned.are_rows planned.rise planned.joined
      where
        by_olds : (olds : List PlainSource) → Are (row ∷ rows) olds → IsStrictlySortedBy bytes_cmp (map (λ row. row.path) olds) → planned.changes ++ changes_among planned.winners olds ≡ all → ArePlanned db contents rows sources (steps ++ Remove path ∷ []) all
        by_olds [] are rise joined = absurd are
        by_olds (old ∷ olds) are rise joined = record {
          olds = olds;
          winners = planned.winners;
          are_rows = are.1;
          are_sources = planned.are_sources;
          rise = tail_rises (λ (old : PlainSource). old.path) old olds rise;
          read = planned.read;
          changes = planned.changes ++ remove_source old.path ∷ [];
          each = one_more db contents steps planned.changes (Remove path) (remove_source old.path) planned.each (is ∙ are.0.path);
          joined = append_assoc planned.changes (remove_source old.path ∷ []) (changes_among planned.winners olds)
              ∙ ap (λ l. planned.changes ++ l) (sym (gone_first planned.winners old olds rise
              (subst (λ p. IsBelow p (map (λ winner. winner.path) planned.winners)) are.0.path (below_winners row.path sources planned.winners planned.are_sources (winners_rise planned.winners planned.read) above))))
              ∙ joined;
        }

    -- a source without a row
    pub source_new : (source : Bor Source) (sources : List Source) (rows : List SourceRow) → HasAbove (λ (row : SourceRow). row.path) source.now.path rows
        → ArePlanned db contents rows (source.now ∷ sources) steps all → ArePlanned db contents rows sources (steps ++ Put source ∷ []) all
    source_new source sources rows above planned = by_winners planned.winners planned.are_sources planned.read planned.joined
      where
        by_winners : (winners : List Winner) → AreSourcesOf db contents (source.now ∷ sources) winners → AreRead winners → planned.changes ++ changes_among winners planned.olds ≡ all → ArePlanned db contents rows sources (steps ++ Put source ∷ []) all
        by_winners [] are read joined = absurd are
        by_winners (winner ∷ winners) are read joined = record {
          olds = planned.olds;
          winners = winners;
          are_rows = planned.are_rows;
          are_sources = are.1;
          rise = planned.rise;
          read = others_read winner winners read;
          changes = planned.changes ++ put_source (source_row winner) ∷ [];
          each = one_more db contents steps planned.changes (Put source) (put_source (source_row winner)) planned.each (winner, are.0, read.folded winner (Contains-head winner winners), refl);
          joined = append_assoc planned.changes (put_source (source_row winner) ∷ []) (changes_among winners planned.olds)
              ∙ ap (λ l. planned.changes ++ l) (sym (new_first winner winners planned.olds (winners_rise (winner ∷ winners) read)
              (subst (λ p. IsBelow p (map (λ row. row.path) planned.olds)) are.0.path (below_olds source.now.path rows planned.olds planned.are_rows planned.rise above))))
              ∙ joined;
        }

    -- what is left behind a source with its row
    joined_behind : IsTidy contents → (source : Source) (winner : Winner) (winners : List Winner) (row : SourceRow) (old : PlainSource) (olds : List PlainSource) (changes : List Whole) → SourceIs (Names db.state.things.items contents) row old → IsSourceOf db contents source winner
        → row.path ≡ source.path → IsStrictlySortedBy bytes_cmp (map (λ row. row.path) (old ∷ olds)) → AreRead (winner ∷ winners) → changes ++ changes_among (winner ∷ winners) (old ∷ olds) ≡ all
        → (b : Bool) → is_row_of row source ≡ b → changes ++ (cond b [] (put_source (source_row winner) ∷ []) ++ changes_among winners olds) ≡ all
    joined_behind tidy source winner winners row old olds changes is of same rise read joined b e =
        ap (λ b. changes ++ (cond b [] (put_source (source_row winner) ∷ []) ++ changes_among winners olds)) (sym (row_same db contents tidy row old source winner is of same ∙ e))
        ∙ ap (λ l. changes ++ l) (sym (both_first winner winners old olds (winners_rise (winner ∷ winners) read) rise (sym is.path ∙ same ∙ of.path))) ∙ joined

    -- a source that its row records
    pub row_kept : IsTidy contents → (source : Source) (sources : List Source) (row : SourceRow) (rows : List SourceRow) → row.path ≡ source.path → is_row_of row source ≡ true
        → ArePlanned db contents (row ∷ rows) (source ∷ sources) steps all → ArePlanned db contents rows sources steps all
    row_kept tidy source sources row rows same e planned = by_both planned.olds planned.winners planned.are_rows planned.are_sources planned.rise planned.read planned.joined
      where
        by_both : (olds : List PlainSource) (winners : List Winner) → Are (row ∷ rows) olds → AreSourcesOf db contents (source ∷ sources) winners → IsStrictlySortedBy bytes_cmp (map (λ row. row.path) olds) → AreRead winners
            → planned.changes ++ changes_among winners olds ≡ all → ArePlanned db contents rows sources steps all
        by_both [] winners are_rows are rise read joined = absurd are_rows
        by_both (old ∷ olds) [] are_rows are rise read joined = absurd are
        by_both (old ∷ olds) (winner ∷ winners) are_rows are rise read joined = record {
          olds = olds;
          winners = winners;
          are_rows = are_rows.1;
          are_sources = are.1;
          rise = tail_rises (λ (old : PlainSource). old.path) old olds rise;
          read = others_read winner winners read;
          changes = planned.changes;
          each = planned.each;
          joined = joined_behind tidy source winner winners row old olds planned.changes are_rows.0 are.0 same rise read joined true e;
        }

    -- a source that differs from its row
    pub row_changed : IsTidy contents → (source : Bor Source) (sources : List Source) (row : SourceRow) (rows : List SourceRow) → row.path ≡ source.now.path → is_row_of row source.now ≡ false
        → ArePlanned db contents (row ∷ rows) (source.now ∷ sources) steps all → ArePlanned db contents rows sources (steps ++ Put source ∷ []) all
    row_changed tidy source sources row rows same e planned = by_both planned.olds planned.winners planned.are_rows planned.are_sources planned.rise planned.read planned.joined
      where
        by_both : (olds : List PlainSource) (winners : List Winner) → Are (row ∷ rows) olds → AreSourcesOf db contents (source.now ∷ sources) winners → IsStrictlySortedBy bytes_cmp (map (λ row. row.path) olds) → AreRead winners
            → planned.changes ++ changes_among winners olds ≡ all → ArePlanned db contents rows sources (steps ++ Put source ∷ []) all
        by_both [] winners are_rows are rise read joined = absurd are_rows
        by_both (old ∷ olds) [] are_rows are rise read joined = absurd are
        by_both (old ∷ olds) (winner ∷ winners) are_rows are rise read joined = record {
          olds = olds;
          winners = winners;
          are_rows = are_rows.1;
          are_sources = are.1;
          rise = tail_rises (λ (old : PlainSource). old.path) old olds rise;
          read = others_read winner winners read;
          changes = planned.changes ++ put_source (source_row winner) ∷ [];
          each = one_more db contents steps planned.changes (Put source) (put_source (source_row winner)) planned.each (winner, are.0, read.folded winner (Contains-head winner winners), refl);
          joined = append_assoc planned.changes (put_source (source_row winner) ∷ []) (changes_among winners olds)
              ∙ joined_behind tidy source.now winner winners row old olds planned.changes are_rows.0 are.0 same rise read joined false e;
        }

-- ---- all steps

pub all_planned : (db : Db) (contents : List (Option Entry)) (steps : List Step) (all : List Whole) → ArePlanned db contents [] [] steps all → AreStepsFor db contents steps all
all_planned db contents steps all planned = by_both planned.olds planned.winners planned.are_rows planned.are_sources planned.joined
  where
    by_both : (olds : List PlainSource) (winners : List Winner) → AreAll (SourceIs (Names db.state.things.items contents)) [] olds → AreSourcesOf db contents [] winners → planned.changes ++ changes_among winners olds ≡ all → AreStepsFor db contents steps all
    by_both [] [] are_rows are joined = subst (AreStepsFor db contents steps) (sym (append-nil planned.changes) ∙ joined) planned.each
    by_both [] (winner ∷ winners) are_rows are joined = absurd are
    by_both (old ∷ olds) winners are_rows are joined = absurd are_rows
