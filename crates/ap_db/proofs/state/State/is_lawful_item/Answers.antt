use Rattle.std.proofs.Common.{◌∙◌, sym, subst, ap, fold}
use Rattle.ap_content.specs.Entries.{Stands}
use Rattle.ap_db.specs.Stored.{orders_rise}
use Rattle.ap_db.specs.Lawful.{is_lawful_item, after_plain}
use Rattle.ap_db.specs.Said.{Says, ItemIs, says_remove_source, says_remove_create, says_remove_job, says_folders}
use Rattle.ap_db.proofs.state.State.is_lawful_item.Goals as goal

pub returns-in-PutSource : goal.returns-in-PutSource
returns-in-PutSource c stored plain stands are =
    subst (λ i. Says c.is_lawful_source.result (ItemIs (Stands c.args.contents.now) i) (is_lawful_item stored (fold after_plain stored.tables plain))) (sym c.in-PutSource.is)
    (c.is_lawful_source.ensures stored (fold after_plain stored.tables plain) stands)

pub returns-in-PutCreate : goal.returns-in-PutCreate
returns-in-PutCreate c stored plain stands are =
    subst (λ i. Says c.is_lawful_create.result (ItemIs (Stands c.args.contents.now) i) (is_lawful_item stored (fold after_plain stored.tables plain))) (sym c.in-PutCreate.is)
    (c.is_lawful_create.ensures stored (fold after_plain stored.tables plain) stands)

pub returns-in-PutJob : goal.returns-in-PutJob
returns-in-PutJob c stored plain stands are =
    subst (λ i. Says c.is_lawful_job.result (ItemIs (Stands c.args.contents.now) i) (is_lawful_item stored (fold after_plain stored.tables plain))) (sym c.in-PutJob.is)
    (c.is_lawful_job.ensures stored (fold after_plain stored.tables plain) stands)

pub returns-in-RemoveSource : goal.returns-in-RemoveSource
returns-in-RemoveSource c stored plain stands are =
    subst (λ i. Says c.source_there.result (ItemIs (Stands c.args.contents.now) i) (is_lawful_item stored (fold after_plain stored.tables plain))) (sym c.in-RemoveSource.is)
    (says_remove_source (Stands c.args.contents.now) stored (fold after_plain stored.tables plain) c.source_there.result c.in-RemoveSource.path (c.source_there.ensures stored plain stands are))

pub returns-in-RemoveCreate : goal.returns-in-RemoveCreate
returns-in-RemoveCreate c stored plain stands are =
    subst (λ i. Says c.create_there.result (ItemIs (Stands c.args.contents.now) i) (is_lawful_item stored (fold after_plain stored.tables plain))) (sym c.in-RemoveCreate.is)
    (says_remove_create (Stands c.args.contents.now) stored (fold after_plain stored.tables plain) c.create_there.result c.in-RemoveCreate.source (c.create_there.ensures stored plain stands are))

pub returns-in-RemoveJob : goal.returns-in-RemoveJob
returns-in-RemoveJob c stored plain stands are =
    subst (λ i. Says c.job_there.result (ItemIs (Stands c.args.contents.now) i) (is_lawful_item stored (fold after_plain stored.tables plain))) (sym c.in-RemoveJob.is)
    (says_remove_job (Stands c.args.contents.now) stored (fold after_plain stored.tables plain) c.job_there.result c.in-RemoveJob.id (c.job_there.ensures stored plain stands are))

pub returns-in-PutFolders : goal.returns-in-PutFolders
returns-in-PutFolders c stored plain stands are =
    subst (λ i. Says c.do_orders_rise.result (ItemIs (Stands c.args.contents.now) i) (is_lawful_item stored (fold after_plain stored.tables plain))) (sym c.in-PutFolders.is)
    (says_folders (Stands c.args.contents.now) stored (fold after_plain stored.tables plain) c.do_orders_rise.result c.in-PutFolders.rows (c.do_orders_rise.ensures ∙ ap orders_rise c.as_slice.ensures))
