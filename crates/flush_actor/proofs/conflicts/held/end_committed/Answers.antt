use Rattle.std.proofs.Common.{rules}
use Rattle.std.specs.Prelude.{not}
use Rattle.std.proofs.lemmas.Fn.{filter_same}
use Rattle.flush_actor.specs.conflicts.Commits.{is_committed}
use Rattle.flush_actor.specs.declared.conflicts.held.Held.{Held}
use Rattle.flush_actor.proofs.conflicts.held.end_committed.Goals as goal

pub returns-clause-held : goal.returns-clause-held
returns-clause-held c =
    filter_same _ (λ (h : Held). not (is_committed c.args.before h.transaction c.args.commits.now.commits)) _ (λ x b g called. search rules) c.args.held.now.items c.retain.new.self.items c.retain.ensures.filtered
