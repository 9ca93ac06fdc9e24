use Rattle.ap_db.proofs.reading.Reading.into_state.Goals as goal

pub returns-clause-stands : goal.returns-clause-stands
returns-clause-stands c = λ stored reads. (reads.replays.stands, reads.replays.held)
