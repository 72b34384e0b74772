use Rattle.std.proofs.Common.{◌∙◌, ℕ, List, ap, arith}
use Rattle.journal_replay.specs.Revokes.{place_of}
use Rattle.journal_replay.specs.laws.Tables.{table_more}
use Rattle.journal_replay.proofs.revoke_map.put_all.Goals as goal

pub loop-block-preserved : goal.loop-block-preserved
loop-block-preserved c b =
    ap (λ (es : List (ℕ × ℕ)). place_of es b) c.in_ok-put.ensures
    ∙ table_more c.loop-block.map.entries c.args.map.now.entries c.args.blocks.now c.loop-block.block-index c.args.at b _ (omega arith) (c.loop-block.invariant b)
