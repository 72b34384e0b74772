use Rattle.std.proofs.Common.{sym, ap, ◌∙◌}
use Rattle.host_core.proofs.GatesLemmas.Gates.{told, refused_as, needed_as}
use Rattle.host_core.proofs.gates.asking.asked.Goals as goal

pub returns-in-Refused-clause-refusal : goal.returns-in-Refused-clause-refusal
returns-in-Refused-clause-refusal c = sym (ap told c.in-Refused.is) ∙ refused_as c.args.volume.now c.args.call.now c.asked-answer.result.0 c.asked-answer.ensures.answer

pub returns-in-Refused-clause-zones : goal.returns-in-Refused-clause-zones
returns-in-Refused-clause-zones c = needed_as c.args.volume.now c.args.call.now c.asked-answer.result.1 c.asked-answer.ensures.zones

pub returns-in-Change-clause-refusal : goal.returns-in-Change-clause-refusal
returns-in-Change-clause-refusal c = sym (ap told c.in-Change.is) ∙ refused_as c.args.volume.now c.args.call.now c.asked-answer.result.0 c.asked-answer.ensures.answer

pub returns-in-Change-clause-zones : goal.returns-in-Change-clause-zones
returns-in-Change-clause-zones c = needed_as c.args.volume.now c.args.call.now c.asked-answer.result.1 c.asked-answer.ensures.zones
