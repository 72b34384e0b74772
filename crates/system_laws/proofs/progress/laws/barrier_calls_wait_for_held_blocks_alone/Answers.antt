use Rattle.system_laws.proofs.ProgressLemmas.MadeBarriers.{all_answered}
use Rattle.system_laws.proofs.progress.laws.barrier_calls_wait_for_held_blocks_alone.Goals as goal

pub returns : goal.returns
returns c = λ g journal wide limit programs events t call sound least most words lines going.
    all_answered g journal wide limit programs sound least most words lines c.calls_of_scripts_write_bytes.ensures (c.new_volumes_are_in_use.ensures g sound) t call events going
