use Rattle.std.proofs.Common.{◌≡◌, ◌⊎◌, inl, inr, List, ℕ, sym, ◌∙◌, ap, subst, ⊎_elim}
use Rattle.std.specs.Prelude.{Option, IfSome}
use Rattle.ap_text.specs.Causes.{Rose}
use Rattle.ap_tree.specs.Changes.{TellsAs}
use Rattle.ap_tree.specs.Written.{Gains}
use Rattle.ap_engine.specs.Asked.{meanings_of}
use Rattle.ap_engine.specs.Sound.{IsSound}
use Rattle.ap_cli.specs.Lines.{report_lem, ending_of, ending_status}
use Rattle.ap_cli.specs.Output.{GainsFront, TakesShort}
use Rattle.ap_cli.specs.Overlay.{Overlays}
use Rattle.ap_cli.specs.Refusals.{refusal_line}
use Rattle.ap_cli.specs.Run.{Ran}
use Rattle.ap_cli.specs.Store.{limit_of, IsGood}
use Rattle.ap_cli.specs.Words.{OnBatch}
use Rattle.ap_cli.specs.declared.stop.Stop.TheVariants.{Usage, Configuration, Tree, Memory}
use Rattle.ap_cli.proofs.Naming.{named_too}
use Rattle.ap_cli.proofs.Running.{told_too}
use Rattle.ap_cli.proofs.Refusing.{is_output, said_as, says_nothing, caused_as, other_than, good_as, not_for, tree_at, configuration_at, bad_at, limit_at, full_at, configured_as, some_status}
use Rattle.ap_cli.proofs.top.run.Goals as goal

pub returns-in-Err-clause-front : goal.returns-in-Err-clause-front
returns-in-Err-clause-front g c = λ seven.
    let said = c.refuse.ensures.said in
    let output = is_output said.0 (sym said.2 ∙ seven) in
    subst (λ (w : Option (List ℕ)). IfSome (g.D.Disk.seen c.args.store.now.0) (λ file. IsSound (meanings_of g.B.Builders.declares g.B.Builders.creates g.B.Builders.makes) file → OnBatch c.args.words.now (g.T.Tree.files c.args.tree.now) (λ path files.
    Ran g.D.Disk.seen g.D.Disk.may_leave g.D.Disk.clock g.D.Disk.left_at g.D.Disk.room g.D.Disk.faults c.args.store.now c.run_batch.new.store (meanings_of g.B.Builders.declares g.B.Builders.creates g.B.Builders.makes) (g.B.Builders.offers c.args.builders.now) path c.args.bench.now c.run_batch.new.bench
    (λ put. TellsAs (g.C.CacheDir.files c.args.cache.now) (g.C.CacheDir.files c.run_batch.new.cache) (Overlays put))
    (λ entries others counts. TakesShort (g.O.Sink.room c.args.out.now) (g.O.Sink.written c.args.out.now) w (report_lem entries others counts)) files file)))
    (says_nothing _ _ said.0 output said.3) (c.in-Err.ensures.front (said_as said.0 c.in-Err.stop said.1 output))

pub returns-in-Err-clause-line : goal.returns-in-Err-clause-line
returns-in-Err-clause-line g c = λ some problem other.
    let said = c.refuse.ensures.said in
    let same : c.run_batch.new.out ≡ c.args.out.now = c.in-Err.ensures.silent (other_than c.refuse.result said.0 c.in-Err.stop said.1 said.2 other) in
    record {
      stop = said.0;
      status_is = said.2;
      caused = caused_as c.args.words.now (g.B.Builders.offers c.args.builders.now) (g.T.Tree.files c.args.tree.now) (g.D.Disk.seen c.args.store.now.0) (limit_of (g.D.Disk.room c.args.store.now.0) (g.D.Disk.room c.args.store.now.1)) said.0 c.in-Err.stop said.1 c.in-Err.ensures.caused;
      front = subst (λ out. GainsFront (g.O.Sink.written out) (g.O.Sink.written c.refuse.new.out) (refusal_line said.0)) same said.3;
      whole = subst (λ out. Gains (g.O.Sink.written out) (g.O.Sink.written c.refuse.new.out) (refusal_line said.0) ⊎ Rose (g.O.Sink.faults out) (g.O.Sink.faults c.refuse.new.out)) same said.4;
    }

pub returns-in-Err-clause-good : goal.returns-in-Err-clause-good
returns-in-Err-clause-good g c =
    let said = c.refuse.ensures.said in
    good_as (c.run_batch.new.store ≡ c.args.store.now) (IfSome (g.D.Disk.seen c.args.store.now.0) IsGood) c.refuse.result said.0 c.in-Err.stop said.1 said.2 c.in-Err.ensures.good

pub returns-in-Err-clause-kept : goal.returns-in-Err-clause-kept
returns-in-Err-clause-kept g c = λ some. c.in-Err.ensures.kept
    (⊎_elim (λ nine. inl (bad_at c.refuse.result c.refuse.ensures.said.0 c.in-Err.stop c.refuse.ensures.said.1 c.refuse.ensures.said.2 nine)) (λ ten. inr (limit_at c.refuse.result c.refuse.ensures.said.0 c.in-Err.stop c.refuse.ensures.said.1 c.refuse.ensures.said.2 ten)) some)

pub returns-in-Err-clause-kept_early : goal.returns-in-Err-clause-kept_early
returns-in-Err-clause-kept_early g c = λ four. c.in-Err.ensures.kept_early (tree_at c.refuse.result c.refuse.ensures.said.0 c.in-Err.stop c.refuse.ensures.said.1 c.refuse.ensures.said.2 four)

pub returns-in-Err-clause-scanned : goal.returns-in-Err-clause-scanned
returns-in-Err-clause-scanned g c = λ eleven. let full = full_at c.refuse.result c.refuse.ensures.said.0 c.in-Err.stop c.refuse.ensures.said.1 c.refuse.ensures.said.2 eleven in
    c.in-Err.ensures.scanned full.0 full.1 full.2

pub returns-in-Err-clause-unread : goal.returns-in-Err-clause-unread
returns-in-Err-clause-unread g c = λ three. let why = configuration_at c.refuse.result c.refuse.ensures.said.0 c.in-Err.stop c.refuse.ensures.said.1 c.refuse.ensures.said.2 three in
    c.in-Err.ensures.unread why.0 why.1

pub returns-in-Err-clause-unasked : goal.returns-in-Err-clause-unasked
returns-in-Err-clause-unasked g c = λ some. c.in-Err.ensures.unasked
    (⊎_elim (λ four. inl (tree_at c.refuse.result c.refuse.ensures.said.0 c.in-Err.stop c.refuse.ensures.said.1 c.refuse.ensures.said.2 four)) (λ later. inr
    (⊎_elim (λ nine. inl (bad_at c.refuse.result c.refuse.ensures.said.0 c.in-Err.stop c.refuse.ensures.said.1 c.refuse.ensures.said.2 nine)) (λ ten. inr (limit_at c.refuse.result c.refuse.ensures.said.0 c.in-Err.stop c.refuse.ensures.said.1 c.refuse.ensures.said.2 ten)) later)) some)

pub returns-in-Err-clause-stopped : goal.returns-in-Err-clause-stopped
returns-in-Err-clause-stopped g c = λ usage configuration tree memory. c.in-Err.ensures.stopped_at
    (not_for c.refuse.result c.refuse.ensures.said.0 c.in-Err.stop c.refuse.ensures.said.1 c.refuse.ensures.said.2 Usage memory usage)
    (not_for c.refuse.result c.refuse.ensures.said.0 c.in-Err.stop c.refuse.ensures.said.1 c.refuse.ensures.said.2 Tree memory tree)
    (not_for c.refuse.result c.refuse.ensures.said.0 c.in-Err.stop c.refuse.ensures.said.1 c.refuse.ensures.said.2 Memory memory memory)
    (λ why. not_for c.refuse.result c.refuse.ensures.said.0 c.in-Err.stop c.refuse.ensures.said.1 c.refuse.ensures.said.2 (Configuration why) memory configuration)

pub returns-in-Err-clause-batch : goal.returns-in-Err-clause-batch
returns-in-Err-clause-batch g c = λ usage memory. c.in-Err.ensures.batch
    (not_for c.refuse.result c.refuse.ensures.said.0 c.in-Err.stop c.refuse.ensures.said.1 c.refuse.ensures.said.2 Usage memory usage)
    (not_for c.refuse.result c.refuse.ensures.said.0 c.in-Err.stop c.refuse.ensures.said.1 c.refuse.ensures.said.2 Memory memory memory)

pub returns-in-Err-clause-configured : goal.returns-in-Err-clause-configured
returns-in-Err-clause-configured g c = configured_as c.refuse.result c.refuse.ensures.said.0 c.in-Err.stop c.refuse.ensures.said.1 c.refuse.ensures.said.2 _ c.in-Err.ensures.configured

pub returns-in-Err-clause-others : goal.returns-in-Err-clause-others
returns-in-Err-clause-others g c = some_status c.refuse.result c.refuse.ensures.said.0 c.refuse.ensures.said.2

pub returns-in-Ok-clause-done : goal.returns-in-Ok-clause-done
returns-in-Ok-clause-done g c = λ some. named_too c.args.words.now (g.T.Tree.files c.args.tree.now) (g.D.Disk.seen c.args.store.now.0) _ _ _
    (λ file path files. told_too g.D.Disk.seen g.D.Disk.may_leave g.D.Disk.clock g.D.Disk.left_at g.D.Disk.room g.D.Disk.faults c.args.store.now c.run_batch.new.store (meanings_of g.B.Builders.declares g.B.Builders.creates g.B.Builders.makes)
    (g.B.Builders.offers c.args.builders.now) path c.args.bench.now c.run_batch.new.bench
    (λ put. TellsAs (g.C.CacheDir.files c.args.cache.now) (g.C.CacheDir.files c.run_batch.new.cache) (Overlays put))
    (λ entries others counts. Gains (g.O.Sink.written c.args.out.now) (g.O.Sink.written c.run_batch.new.out) (report_lem entries others counts) × (c.in-Ok.ending ≡ ending_of others))
    (λ entries others counts. Gains (g.O.Sink.written c.args.out.now) (g.O.Sink.written c.run_batch.new.out) (report_lem entries others counts) × (c.status.result ≡ ending_status (ending_of others)))
    (λ entries others counts told. (told.0, c.status.ensures ∙ ap ending_status told.1)) files file)
    c.in-Ok.ensures.done
