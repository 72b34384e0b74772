use Rattle.crash_laws.specs.PromiseRules.{Covers, CoversEntry}
use Rattle.crash_laws.proofs.CallSteps.{held_by_target, held_by_barrier, held_by_flush}
use Rattle.crash_laws.proofs.laws.calls.calls_are_held_when_they_answer.Goals as goal

pub returns : goal.returns
returns c = record {
  target = λ h s call k c barrier commit le pairs metadata. held_by_target h s (Covers h call) (CoversEntry call) k c barrier commit le pairs metadata;
  barrier = λ h s call committed own barrier now trees last le cut versions none pairs. held_by_barrier h s (Covers h call) (CoversEntry call) committed own barrier now trees last le cut versions none pairs;
  flush = λ h s call need flush taken lt flushed held. held_by_flush h s (Covers h call) (CoversEntry call) need flush lt taken flushed held;
}
