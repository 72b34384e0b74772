use Rattle.std.proofs.Common.{sym, ◌∙◌}
use Rattle.barrierfs_top.proofs.ThreadsScripts.{read_without}
use Rattle.barrierfs_top.proofs.threads_script.read_threads_script.Goals as goal

pub returns-in-None-clause-model : goal.returns-in-None-clause-model
returns-in-None-clause-model c = read_without c.args.text.now c.read_session.result (sym c.in_ok-flash_line_of.ensures ∙ c.in-None.is) c.read_session.ensures.ok
