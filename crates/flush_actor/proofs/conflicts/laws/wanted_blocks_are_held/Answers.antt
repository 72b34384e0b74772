use Rattle.flush_actor.specs.conflicts.laws.Wants.{In-want, want-In, In-released, released-In, least_some, least_none, none_least}
use Rattle.flush_actor.proofs.conflicts.laws.wanted_blocks_are_held.Goals as goal

pub returns-clause-held : goal.returns-clause-held
returns-clause-held c t b s i = s.held b i

pub returns-clause-wanted : goal.returns-clause-wanted
returns-clause-wanted c t blocks b = (In-want t blocks b, want-In t blocks b)

pub returns-clause-released : goal.returns-clause-released
returns-clause-released c t k b s = (In-released t k b s, released-In t k b s)

pub returns-clause-least : goal.returns-clause-least
returns-clause-least c t b s e = least_some t.held t.wanted b s.rising e

pub returns-clause-clear : goal.returns-clause-clear
returns-clause-clear c t = (least_none t.held t.wanted, none_least t.held t.wanted)
