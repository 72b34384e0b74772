use Rattle.crash_laws.proofs.EntryTrees.{done_changes, turned_away_stays, begun_stays, begin_stays}
use Rattle.crash_laws.proofs.laws.sessions.trees_change_by_calls_that_are_done.Goals as goal

pub returns : goal.returns
returns c = record { done = done_changes; turned_away = turned_away_stays; waited = begun_stays; begins = begin_stays }
