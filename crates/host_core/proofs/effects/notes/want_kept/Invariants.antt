use Rattle.std.proofs.Common.{◌≡◌, drop}
use Rattle.number_sets.specs.Sets.{without_all}
use Rattle.host_core.specs.effects.code.Noting.{wants}
use Rattle.host_core.proofs.effects.notes.want_kept.Given as goal

abbrev pub invariant-loop-block : goal.invariant-loop-block
invariant-loop-block l =
    (wants (without_all (drop l.block-index l.blocks) l.revoked) l.journal ≡ wants (without_all l.blocks l.revoked) l.fn.journal)
    × (l.journal.blocks ≡ l.fn.journal.blocks)
