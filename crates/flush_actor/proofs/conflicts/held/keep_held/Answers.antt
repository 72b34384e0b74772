use Rattle.std.proofs.Common.{rules}
use Rattle.std.specs.List.{list_any}
use Rattle.std.specs.Prelude.{◌==◌}
use Rattle.std.proofs.lemmas.Fn.{filter_same}
use Rattle.flush_actor.specs.declared.conflicts.held.Held.{Held}
use Rattle.flush_actor.proofs.conflicts.held.keep_held.Goals as goal

pub returns-clause-blocks : goal.returns-clause-blocks
returns-clause-blocks c =
    filter_same _ (λ b. list_any (λ (h : Held). h.block == b) c.args.held.now) _ (λ x b g called. search rules) c.args.blocks.now.items c.retain.new.self.items c.retain.ensures.filtered
