use Rattle.call_sessions.proofs.Spelled.{well_formed_bytes}
use Rattle.call_sessions.proofs.laws.calls_of_scripts_write_bytes.Goals as goal

pub returns : goal.returns
returns c = well_formed_bytes
