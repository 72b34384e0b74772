use Rattle.call_sessions.proofs.PowerCutsLemmas.RecoveryLemmas.Attempted.{on_model_devices}
use Rattle.call_sessions.proofs.power_cuts.recovery.laws.attempts_on_model_devices.Goals as goal

pub returns : goal.returns
returns c = on_model_devices
