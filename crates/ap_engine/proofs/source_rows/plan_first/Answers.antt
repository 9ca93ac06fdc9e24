use Rattle.std.proofs.Common.{◌≡◌, ◌∙◌, List, ◌∷◌, sym, ap, subst, Vec, Global}
use Rattle.std.specs.Cmp.Lexicographic.{nat_list_cmp_total}
use Rattle.std.specs.Ordering.{ordering_reverse}
use Rattle.ap_rows.specs.declared.row.SourceRow.{SourceRow}
use Rattle.ap_engine.specs.declared.source.Source.{Source}
use Rattle.ap_engine.specs.declared.source_rows.Step.{Step}
use Rattle.ap_engine.specs.SourceSteps.{ArePlanned}
use Rattle.ap_engine.proofs.SliceSteps.{after, first_of, none_of}
use Rattle.ap_engine.proofs.StepsPlanned.{HasAbove, row_gone, source_new, row_kept, row_changed}
use Rattle.ap_engine.proofs.Steps.{bytes_tied}
use Rattle.ap_engine.proofs.source_rows.plan_first.Goals.{then-not-records+in_ok-push-in-Equal, else-not-records}
use Rattle.ap_engine.proofs.source_rows.plan_first.Goals as goal

pub returns-in_default-clause-planned : goal.returns-in_default-clause-planned
returns-in_default-clause-planned c = λ db contents tidy changes planned.
    let rows = c.args.rows.now in
    let sources = c.args.sources.now in
    let steps = c.args.steps.now.items in
    subst (λ (l : List Step). ArePlanned db contents (after rows) sources l changes) (sym c.in_ok-push.ensures.items)
    (row_gone db contents steps changes c.row-item.result (after rows) sources c.in_ok-copy.field-0 c.in_ok-copy.ensures (subst (HasAbove (λ (source : Source). source.path) c.row-item.result.path) (sym (none_of sources c.in_default.len_below)) tt)
    (subst (λ (rows : List SourceRow). ArePlanned db contents rows sources steps changes) (first_of rows c.row-item.result c.in-len1-up-rows.len_at_least c.row-item.is) planned))

pub returns-in_default-rows-2-clause-planned : goal.returns-in_default-rows-2-clause-planned
returns-in_default-rows-2-clause-planned c = λ db contents tidy changes planned.
    let rows = c.args.rows.now in
    let sources = c.args.sources.now in
    let steps = c.args.steps.now.items in
    subst (λ (l : List Step). ArePlanned db contents rows (after sources) l changes) (sym c.in_ok-push-2.ensures.items)
    (source_new db contents steps changes _ (after sources) rows (subst (HasAbove (λ (row : SourceRow). row.path) c.source-item.result.path) (sym (none_of rows c.in_default-rows-2.len_below)) tt)
    (subst (λ (sources : List Source). ArePlanned db contents rows sources steps changes) (first_of sources c.source-item.result c.in-len1-up.len_at_least c.source-item.is) planned))

pub returns-in_ok-push-in-Less-clause-planned : goal.returns-in_ok-push-in-Less-clause-planned
returns-in_ok-push-in-Less-clause-planned c = λ db contents tidy changes planned.
    let rows = c.args.rows.now in
    let sources = c.args.sources.now in
    let steps = c.args.steps.now.items in
    subst (λ (l : List Step). ArePlanned db contents (after rows) sources l changes) (sym c.in_ok-push-in-Less.ensures.items)
    (row_gone db contents steps changes c.row-item-2.result (after rows) sources c.in_ok-copy-in-Less.field-0 c.in_ok-copy-in-Less.ensures
    (subst (HasAbove (λ (source : Source). source.path) c.row-item-2.result.path) (sym (first_of sources c.source-item.result c.in-len1-up.len_at_least c.source-item.is)) (sym c.cmp.ensures ∙ c.in-Less.is))
    (subst (λ (rows : List SourceRow). ArePlanned db contents rows sources steps changes) (first_of rows c.row-item-2.result c.in-len1-up-rows-2.len_at_least c.row-item-2.is) planned))

pub returns-after-not-records-clause-planned : goal.returns-after-not-records-clause-planned
returns-after-not-records-clause-planned c = λ db contents tidy changes planned.
    let rows = c.args.rows.now in
    let sources = c.args.sources.now in
    let steps = c.args.steps.now.items in
    let row = c.row-item-2.result in
    let source = c.source-item.result in
    let same : row.path ≡ source.path = bytes_tied row.path source.path (sym c.cmp.ensures ∙ c.in-Equal.is) in
    let whole : ArePlanned db contents (row ∷ after rows) (source ∷ after sources) steps changes =
    subst (λ (rows : List SourceRow). ArePlanned db contents rows (source ∷ after sources) steps changes) (first_of rows row c.in-len1-up-rows-2.len_at_least c.row-item-2.is)
    (subst (λ (sources : List Source). ArePlanned db contents rows sources steps changes) (first_of sources source c.in-len1-up.len_at_least c.source-item.is) planned) in
    elim c.if-not-records.branch [
      | then-not-records+in_ok-push-in-Equal w ↦ subst (λ (l : List Step). ArePlanned db contents (after rows) (after sources) l changes) (sym (ap (λ (v : Vec Step Global). v.items) w.steps-is ∙ w.in_ok-push-in-Equal.ensures.items))
          (row_changed db contents steps changes tidy _ (after sources) row (after rows) same (sym c.records.ensures ∙ w.if-not-records.true) whole)
      | else-not-records w ↦ subst (λ (l : List Step). ArePlanned db contents (after rows) (after sources) l changes) (sym (ap (λ (v : Vec Step Global). v.items) w.steps-is))
          (row_kept db contents steps changes tidy source (after sources) row (after rows) same (sym c.records.ensures ∙ w.if-not-records.false) whole)
    ]

pub returns-in_ok-push-in-Greater-clause-planned : goal.returns-in_ok-push-in-Greater-clause-planned
returns-in_ok-push-in-Greater-clause-planned c = λ db contents tidy changes planned.
    let rows = c.args.rows.now in
    let sources = c.args.sources.now in
    let steps = c.args.steps.now.items in
    subst (λ (l : List Step). ArePlanned db contents rows (after sources) l changes) (sym c.in_ok-push-in-Greater.ensures.items)
    (source_new db contents steps changes _ (after sources) rows
    (subst (HasAbove (λ (row : SourceRow). row.path) c.source-item.result.path) (sym (first_of rows c.row-item-2.result c.in-len1-up-rows-2.len_at_least c.row-item-2.is))
    (nat_list_cmp_total.antisymm c.source-item.result.path c.row-item-2.result.path ∙ ap ordering_reverse (sym c.cmp.ensures ∙ c.in-Greater.is)))
    (subst (λ (sources : List Source). ArePlanned db contents rows sources steps changes) (first_of sources c.source-item.result c.in-len1-up.len_at_least c.source-item.is) planned))
