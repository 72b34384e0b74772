use Rattle.std.proofs.Common.{sym, ◌∙◌}
use Rattle.host_core.proofs.BegunLemmas.Listed.{found_by}
use Rattle.host_core.proofs.begun.pages.next_unsent.Goals as goal

pub returns-in-loop-at-clause-found : goal.returns-in-loop-at-clause-found
returns-in-loop-at-clause-found c = found_by c.args.pages.now.pages _ _ c.in-Some.page (sym c.page.ensures ∙ c.in-Some.is)
