use Rattle.system_laws.proofs.ProgressLemmas.MadeProgress.{commits}
use Rattle.system_laws.proofs.progress.laws.transactions_under_way_are_committed.Goals as goal

pub returns : goal.returns
returns c = λ g journal wide limit programs events k sound least most words lines.
    commits g journal wide limit programs events sound least most words lines c.calls_of_scripts_write_bytes.ensures (c.new_volumes_are_in_use.ensures g sound) k
