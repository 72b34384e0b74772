use Rattle.std.proofs.Common.{sym, true, false}
use Rattle.std.proofs.lemmas.Bool.{true≢false}
use Rattle.volume_calls.proofs.Renamed.{full_after}
use Rattle.volume_calls.proofs.renames.Moved.is_full.Goals as goal

pub returns-then-not-changes_parent : goal.returns-then-not-changes_parent
returns-then-not-changes_parent c = λ blocks. full_after c.args.self.now c.requires blocks false false (c.if-not-changes_parent.ensures blocks) (λ t. absurd (true≢false (sym t)))

pub returns : goal.returns
returns c = λ blocks. full_after c.args.self.now c.requires blocks true c.is_full.result (c.if-not-changes_parent.ensures blocks) (λ t. c.is_full.ensures)
