use Rattle.call_sessions.proofs.PowerCutsLemmas.ImagesLemmas.SessionLaws.{kept_run}
use Rattle.call_sessions.proofs.power_cuts.images.laws.requests_of_sessions_are_readable.Goals as goal

pub returns : goal.returns
returns c = λ s events i n q sizes at there. (kept_run s sizes (c.new_volumes_are_in_use.ensures s.geometry sizes.sound) events).readable.sent i n q at there
