use Rattle.journal_ring.proofs.RunningLemmas.CallRoom.{call_fits, first_fits}
use Rattle.journal_ring.specs.running.laws.Notes.{noted_all, apart_touched, apart_revoked}
use Rattle.journal_ring.proofs.running.laws.calls_are_noted.Goals as goal

pub returns-clause-noted : goal.returns-clause-noted
returns-clause-noted c = noted_all

pub returns-clause-touched : goal.returns-clause-touched
returns-clause-touched c = apart_touched

pub returns-clause-revoked : goal.returns-clause-revoked
returns-clause-revoked c = apart_revoked

pub returns-clause-room : goal.returns-clause-room
returns-clause-room c = call_fits

pub returns-clause-first : goal.returns-clause-first
returns-clause-first c = first_fits
