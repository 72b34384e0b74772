use Rattle.std.proofs.Common.{refl}
use Rattle.flush_actor.specs.conflicts.Calls.{nothing_held}
use Rattle.flush_actor.specs.conflicts.laws.Holds.{In-hold, hold-In, In-unhold, unhold-In, holder_of}
use Rattle.flush_actor.specs.conflicts.laws.Wants.{sound_after}
use Rattle.flush_actor.proofs.conflicts.laws.blocks_have_one_holder.Goals as goal

pub returns-clause-sound : goal.returns-clause-sound
returns-clause-sound c calls = sound_after calls nothing_held (record { once = tt; rising = tt; held = λ b i. absurd i })

pub returns-clause-held : goal.returns-clause-held
returns-clause-held c t k b h s = (In-hold t.held k b h s.once, hold-In t.held k b h)

pub returns-clause-wanted : goal.returns-clause-wanted
returns-clause-wanted c t blocks = refl

pub returns-clause-released : goal.returns-clause-released
returns-clause-released c t k h = (In-unhold k t h, unhold-In k t h)

pub returns-clause-holder : goal.returns-clause-holder
returns-clause-holder c t h s i = holder_of t.held h s.once i
