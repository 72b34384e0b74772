use Rattle.crash_laws.specs.PromiseRules.{Covers, CoversEntry}
use Rattle.crash_laws.proofs.PromiseSteps.{barrier_at_end, barrier_pushed, sync_pushed, barrier_covers, sync_covers}
use Rattle.crash_laws.proofs.laws.rules.promises_stay_kept.Goals as goal

pub returns : goal.returns
returns c = record {
  answered = λ h s call e barrier fence held versions cuts. barrier_at_end h s e barrier (Covers h call) (CoversEntry call) fence held versions cuts;
  barrier_pushed = λ h p call e kept. barrier_pushed p kept;
  sync_pushed = λ h p call taken kept. sync_pushed p kept;
  barrier_grows = λ h more s now call e extends begun kept. barrier_covers extends call e begun kept;
  sync_grows = λ h more s now call taken extends begun kept. sync_covers extends call taken begun kept;
}
