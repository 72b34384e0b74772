use Rattle.crash_laws.proofs.BrokenExamples.{unfenced_closed, unfenced_found, unfenced_wrong, late_order, late_closed, late_found, late_missing}
use Rattle.crash_laws.proofs.laws.rules.weaker_rules_lose_a_sentence.Goals as goal

pub returns : goal.returns
returns c = record { body = (unfenced_closed, unfenced_found, unfenced_wrong); page = (late_order, late_closed, late_found, late_missing) }
