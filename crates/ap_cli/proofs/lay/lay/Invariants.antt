use Rattle.std.proofs.Common.{List, length}
use Rattle.std.specs.Prelude.{Option}
use Rattle.ap_db.specs.declared.things.FileThing.{FileThing}
use Rattle.ap_db.specs.Listed.{AreAll}
use Rattle.ap_db.specs.States.{Names, JobIs}
use Rattle.ap_db.specs.Tables.{PlainJob}
use Rattle.ap_cli.proofs.JobFiles.{AreLeft}
use Rattle.ap_cli.proofs.lay.lay.Given as goal

abbrev pub invariant-loop-rest : goal.invariant-loop-rest
invariant-loop-rest l = (things : List (Option FileThing)) (jobs : List PlainJob) → AreAll (JobIs (Names things l.contents)) l.tables.jobs.items jobs → AreLeft things l.contents jobs l.files.items l.ids.items l.rest

abbrev pub decreases-loop-rest : goal.decreases-loop-rest
decreases-loop-rest l = length l.rest
