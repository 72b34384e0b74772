use Rattle.system_laws.proofs.ProgressLemmas.MadeBarriers.{begins}
use Rattle.system_laws.proofs.progress.laws.barrier_calls_begin_at_once.Goals as goal

pub returns : goal.returns
returns c = λ g journal wide limit programs events t call path sound least most words lines going next named.
    begins g journal wide limit programs sound least most words lines c.calls_of_scripts_write_bytes.ensures (c.new_volumes_are_in_use.ensures g sound) t call events going next (path, named)
