use Rattle.ap_db.proofs.Rooms.{job_fits}
use Rattle.ap_db.proofs.state.State.put_job_reserved.Goals as goal

pub returns-in-Err-clause-stands : goal.returns-in-Err-clause-stands
returns-in-Err-clause-stands c = absurd (job_fits 0 0 0 0 c.args.self.now c.requires.room c.in-Err.ensures.room)

pub returns-in-Err-clause-numbers : goal.returns-in-Err-clause-numbers
returns-in-Err-clause-numbers c = absurd (job_fits 0 0 0 0 c.args.self.now c.requires.room c.in-Err.ensures.room)

pub returns-in-Err-clause-gives : goal.returns-in-Err-clause-gives
returns-in-Err-clause-gives c = absurd (job_fits 0 0 0 0 c.args.self.now c.requires.room c.in-Err.ensures.room)

pub returns-in-Err-clause-takes : goal.returns-in-Err-clause-takes
returns-in-Err-clause-takes c = absurd (job_fits 0 0 0 0 c.args.self.now c.requires.room c.in-Err.ensures.room)

pub returns-in-Err-clause-replaces : goal.returns-in-Err-clause-replaces
returns-in-Err-clause-replaces c = absurd (job_fits 0 0 0 0 c.args.self.now c.requires.room c.in-Err.ensures.room)
