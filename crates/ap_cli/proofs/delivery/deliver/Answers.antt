use Rattle.std.proofs.Common.{inr, ◌∙◌, sym, ap, subst, map}
use Rattle.ap_tree.specs.Changes.{TellsAs}
use Rattle.ap_tree.specs.Written.{Gains}
use Rattle.ap_cli.specs.declared.report.Counts.{Counts}
use Rattle.ap_cli.specs.Lines.{report_lem}
use Rattle.ap_cli.specs.Output.{TakesShort}
use Rattle.ap_cli.specs.ProductIds.{plain_id}
use Rattle.ap_cli.specs.Overlay.{Overlays}
use Rattle.ap_cli.proofs.Delivering.{counted, delivered}
use Rattle.ap_cli.proofs.delivery.deliver.Goals as goal

pub returns-in-Ok-write_out-clause-done : goal.returns-in-Ok-write_out-clause-done
returns-in-Ok-write_out-clause-done g c = λ plain are.
    delivered c.args.tables.now c.args.contents.now c.deref.result.now (map plain_id c.in-Ok.laid.ids.items) plain are (c.deref.ensures.value ∙ c.in-Ok.ensures.laid plain are) (c.in-Ok.ensures.ids plain are)
    (λ put. TellsAs (g.C.CacheDir.files c.args.cache.now) (g.C.CacheDir.files c.write_out.new.cache) (Overlays put))
    (λ counts. Gains (g.O.Sink.written c.args.out.now) (g.O.Sink.written c.write_out.new.out) (report_lem c.args.entries.now c.args.others.now counts))
    (c.in-Ok.ensures.made plain are) c.in-Ok-write_out.ensures.apart (c.are_distinct_ids.ensures.distinct c.if-not-are_distinct_ids.false) c.in-Ok-write_out.ensures.put
    (subst (λ (counts : Counts). Gains (g.O.Sink.written c.args.out.now) (g.O.Sink.written c.write_out.new.out) (report_lem c.args.entries.now c.args.others.now counts))
    (c.counts-counts.ensures ∙ ap (counted c.args.tables.now) (c.len.ensures ∙ sym c.deref.ensures.len)) c.in-Ok-write_out.ensures.told)

pub returns-clause-front : goal.returns-clause-front
returns-clause-front g c = λ why plain are.
    delivered c.args.tables.now c.args.contents.now c.deref.result.now (map plain_id c.in-Ok.laid.ids.items) plain are (c.deref.ensures.value ∙ c.in-Ok.ensures.laid plain are) (c.in-Ok.ensures.ids plain are)
    (λ put. TellsAs (g.C.CacheDir.files c.args.cache.now) (g.C.CacheDir.files c.write_out.new.cache) (Overlays put))
    (λ counts. TakesShort (g.O.Sink.room c.args.out.now) (g.O.Sink.written c.args.out.now) (g.O.Sink.written c.write_out.new.out) (report_lem c.args.entries.now c.args.others.now counts))
    (c.in-Ok.ensures.made plain are) (c.in-Err-write_out.ensures.apart_then (inr why)) (c.are_distinct_ids.ensures.distinct c.if-not-are_distinct_ids.false) (c.in-Err-write_out.ensures.put_then why)
    (subst (λ (counts : Counts). TakesShort (g.O.Sink.room c.args.out.now) (g.O.Sink.written c.args.out.now) (g.O.Sink.written c.write_out.new.out) (report_lem c.args.entries.now c.args.others.now counts))
    (c.counts-counts.ensures ∙ ap (counted c.args.tables.now) (c.len.ensures ∙ sym c.deref.ensures.len)) (c.in-Err-write_out.ensures.short why))
