use Rattle.std.proofs.Common.{ap, sym, ◌∙◌, List, ℕ, length}
use Rattle.journal_blocks.specs.Super.{super_of}
use Rattle.journal_replay.specs.laws.Attempts.{body_at-some}
use Rattle.call_sessions.proofs.PowerCutsLemmas.RecoveryLemmas.Kept.{not_bad}
use Rattle.call_sessions.proofs.power_cuts.recovery.remounting.journal_of.Goals as goal

pub unreachable-requires : goal.unreachable-requires
unreachable-requires c =
    not_bad c.args.base c.args.image.now c.in-Err.field-0 c.requires.fine
    (ap super_of (body_at-some c.args.image.now c.args.base c.block.result.now c.block.ensures) ∙ (sym c.read_super.ensures.value ∙ c.in-Err.is))

pub returns-clause-read : goal.returns-clause-read
returns-clause-read c =
    ap super_of (body_at-some c.args.image.now c.args.base c.block.result.now c.block.ensures) ∙ (sym c.read_super.ensures.value ∙ c.in-Ok.is)

pub returns-clause-size : goal.returns-clause-size
returns-clause-size c =
    ap (λ (b : List ℕ). length b) (body_at-some c.args.image.now c.args.base c.block.result.now c.block.ensures) ∙ c.read_super.ensures.size
