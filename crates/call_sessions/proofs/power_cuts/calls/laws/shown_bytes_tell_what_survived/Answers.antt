use Rattle.call_sessions.proofs.PowerCutsLemmas.CallsLemmas.ShownFiles.{later_kept}
use Rattle.call_sessions.proofs.power_cuts.calls.laws.shown_bytes_tell_what_survived.Goals as goal

pub returns : goal.returns
returns c = λ g journal wide closed h m tree to base f i e bytes order shows. later_kept g journal wide closed h m tree to base order shows f i e bytes
