use Rattle.session_core.proofs.CallEnds.{gone_off, failed_first, at_limit, ends_by_tree}
use Rattle.session_core.proofs.laws.calls_end_as_their_script_says.Goals as goal

pub returns : goal.returns
returns c = record { down = gone_off; read_only = failed_first; session_full = at_limit; by_tree = ends_by_tree }
