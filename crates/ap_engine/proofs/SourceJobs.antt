-- The job rows of one source among rows that rise.
use Rattle.std.proofs.Common.{◌≡◌, ◌<◌, ◌⊎◌, inl, inr, ℕ, zero, suc, Bool, true, false, not, cond, List, [], ◌∷◌, length, map, filter, bytes_eq, refl, sym, ◌∙◌, ap, subst, arith, slice_index_or}
use Rattle.std.specs.List.{AllByRecursion}
use Rattle.std.specs.Cmp.Lexicographic.{nat_list_cmp_total}
use Rattle.std.specs.declared.cmp.Ordering.{Ordering}
use Rattle.std.specs.declared.cmp.Ordering.TheVariants.{Less, Equal, Greater}
use Rattle.std.specs.Ordering.{is_lt, is_eq, ordering_then, ordering_reverse}
use Rattle.std.proofs.Math.ListN.{get_or-map}
use Rattle.std.proofs.lemmas.List.{length-map}
use Rattle.std.proofs.lemmas.Map.Keys.{Less-from_sorted}
use Rattle.std.proofs.lemmas.Map.Text.{is_eq-slice_cmp}
use Rattle.ap_text.specs.Order.{bytes_cmp}
use Rattle.ap_text.specs.JobOrder.{job_cmp}
use Rattle.ap_text.specs.declared.job_id.JobId.{JobId}
use Rattle.ap_rows.specs.declared.row.JobRow.{JobRow}
use Rattle.ap_db.specs.Rows.{JobsRise}

-- an earlier row is of a source that is no greater
abbrev IsNoGreater : Ordering → Type 0
IsNoGreater o = (o ≡ Less) ⊎ (o ≡ Equal)

first_part : (o rest : Ordering) → ordering_then o rest ≡ Less → IsNoGreater o
first_part Less rest is = inl refl
first_part Equal rest is = inr refl
first_part Greater rest is = absurd (cc is)

no_greater : (rows : List JobRow) → JobsRise rows → (i j : ℕ) (d : JobRow) → i < j → j < length rows
    → IsNoGreater (bytes_cmp (slice_index_or rows i d).id.source (slice_index_or rows j d).id.source)
no_greater rows rise i j d lt len =
    let ids = map (λ (row : JobRow). row.id) rows in
    let less = Less-from_sorted job_cmp ids i j d.id rise lt (let same = length-map rows (λ (row : JobRow). row.id) in omega (arith, len, same)) in
    let at : (n : ℕ) → slice_index_or ids n d.id ≡ (slice_index_or rows n d).id = λ n. get_or-map (λ (row : JobRow). row.id) rows n d in
    first_part (bytes_cmp (slice_index_or rows i d).id.source (slice_index_or rows j d).id.source) _
    (subst (λ (b : JobId). job_cmp (slice_index_or rows i d).id b ≡ Less) (at j) (subst (λ (a : JobId). job_cmp a (slice_index_or ids j d.id) ≡ Less) (at i) less))

-- one below a source: so is an earlier one
is_less : (o : Ordering) → is_lt o ≡ true → o ≡ Less
is_less Less is = refl
is_less Equal is = absurd (cc is)
is_less Greater is = absurd (cc is)

lower : (a b s : List ℕ) → IsNoGreater (bytes_cmp a b) → is_lt (bytes_cmp b s) ≡ true → is_lt (bytes_cmp a s) ≡ true
lower a b s (inl less) below = ap is_lt (nat_list_cmp_total.trans a b s less (is_less (bytes_cmp b s) below))
lower a b s (inr same) below = ap is_lt (nat_list_cmp_total.congr a b s same) ∙ below

pub below_earlier : (s : List ℕ) (rows : List JobRow) → JobsRise rows → (i j : ℕ) (d : JobRow) → i < j → j < length rows
    → is_lt (bytes_cmp (slice_index_or rows j d).id.source s) ≡ true → is_lt (bytes_cmp (slice_index_or rows i d).id.source s) ≡ true
below_earlier s rows rise i j d lt len below = lower (slice_index_or rows i d).id.source (slice_index_or rows j d).id.source s (no_greater rows rise i j d lt len) below

-- where none is below, one before one of the source is of the source
as_low : (a b s : List ℕ) → IsNoGreater (bytes_cmp a b) → is_lt (bytes_cmp a s) ≡ false → bytes_eq b s ≡ true → bytes_eq a s ≡ true
as_low a b s no_more not_below is =
    let same : bytes_cmp b s ≡ Equal = is_same (bytes_cmp b s) (is_eq-slice_cmp b s ∙ is) in
    sym (is_eq-slice_cmp a s) ∙ by_case no_more same
  where
    is_same : (o : Ordering) → is_eq o ≡ true → o ≡ Equal
    is_same Less e = absurd (cc e)
    is_same Equal e = refl
    is_same Greater e = absurd (cc e)

    upto : bytes_cmp a b ≡ Less → bytes_cmp b s ≡ Equal → bytes_cmp a s ≡ Less
    upto less same =
        let back : bytes_cmp s a ≡ bytes_cmp b a = sym (nat_list_cmp_total.congr b s a same) in
        nat_list_cmp_total.antisymm a s ∙ ap ordering_reverse back ∙ sym (nat_list_cmp_total.antisymm a b) ∙ less

    by_case : IsNoGreater (bytes_cmp a b) → bytes_cmp b s ≡ Equal → is_eq (bytes_cmp a s) ≡ true
    by_case (inl less) same =
        let flipped = nat_list_cmp_total.antisymm s b in
        let below : is_lt (bytes_cmp a s) ≡ true = ap is_lt (upto less same) in
        absurd (cc (below, not_below))
    by_case (inr equal) same = ap is_eq (nat_list_cmp_total.congr a b s equal ∙ same)

all_at : (P : JobRow → Type 0) (rows : List JobRow) (i : ℕ) (d : JobRow) → i < length rows → AllByRecursion P rows → P (slice_index_or rows i d)
all_at P [] i d lt all = absurd (omega (arith, lt))
all_at P (row ∷ rows) zero d lt all = all.0
all_at P (row ∷ rows) (suc i) d lt all = all_at P rows i d (omega (arith, lt)) all.1

pub same_earlier : (s : List ℕ) (rows : List JobRow) → JobsRise rows → AllByRecursion (λ row. is_lt (bytes_cmp row.id.source s) ≡ false) rows → (i j : ℕ) (d : JobRow) → i < j → j < length rows
    → bytes_eq (slice_index_or rows j d).id.source s ≡ true → bytes_eq (slice_index_or rows i d).id.source s ≡ true
same_earlier s rows rise none i j d lt len is =
    as_low (slice_index_or rows i d).id.source (slice_index_or rows j d).id.source s (no_greater rows rise i j d lt len)
    (all_at (λ row. is_lt (bytes_cmp row.id.source s) ≡ false) rows i d (omega (arith, lt, len)) none) is

abbrev of_source : List ℕ → JobRow → Bool
of_source s row = bytes_eq row.id.source s

abbrev is_high : List ℕ → JobRow → Bool
is_high s row = not (is_lt (bytes_cmp row.id.source s))

-- those that aren't below have all rows of the source
pub same_there : (s : List ℕ) (rows : List JobRow) → filter (λ row. bytes_eq row.id.source s) (filter (λ row. not (is_lt (bytes_cmp row.id.source s))) rows) ≡ filter (λ row. bytes_eq row.id.source s) rows
same_there s [] = refl
same_there s (row ∷ rows) = step (bytes_cmp row.id.source s) refl (same_there s rows)
  where
    step : (o : Ordering) → bytes_cmp row.id.source s ≡ o → filter (of_source s) (filter (is_high s) rows) ≡ filter (of_source s) rows
        → filter (of_source s) (cond (not (is_lt o)) (row ∷ filter (is_high s) rows) (filter (is_high s) rows)) ≡ cond (of_source s row) (row ∷ filter (of_source s) rows) (filter (of_source s) rows)
    step Less is rest = rest ∙ sym (ap (λ (b : Bool). cond b (row ∷ filter (of_source s) rows) (filter (of_source s) rows)) (sym (is_eq-slice_cmp row.id.source s) ∙ ap is_eq is))
    step Equal is rest = ap (λ (l : List JobRow). cond (of_source s row) (row ∷ l) l) rest
    step Greater is rest = ap (λ (l : List JobRow). cond (of_source s row) (row ∷ l) l) rest

pub none_below : (s : List ℕ) (rows : List JobRow) → AllByRecursion (λ row. is_lt (bytes_cmp row.id.source s) ≡ false) (filter (λ row. not (is_lt (bytes_cmp row.id.source s))) rows)
none_below s [] = tt
none_below s (row ∷ rows) = step (is_lt (bytes_cmp row.id.source s)) refl (none_below s rows)
  where
    step : (b : Bool) → is_lt (bytes_cmp row.id.source s) ≡ b → AllByRecursion (λ row. is_lt (bytes_cmp row.id.source s) ≡ false) (filter (is_high s) rows)
        → AllByRecursion (λ row. is_lt (bytes_cmp row.id.source s) ≡ false) (cond (not b) (row ∷ filter (is_high s) rows) (filter (is_high s) rows))
    step true is rest = rest
    step false is rest = (is, rest)
