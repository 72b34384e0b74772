use Rattle.std.specs.Prelude.{refl, []}
use Rattle.log_model.proofs.Log.{take_blocks-append, nothing_more_done}
use Rattle.log_model.specs.Log.{Reading}
use Rattle.log_model.proofs.laws.logs_are_read_block_by_block.Goals as goal

pub returns : goal.returns
returns c = record {
  join = take_blocks-append;
  end = λ f sequence txs blocks other. nothing_more_done f sequence txs (Reading sequence [] [] [] txs) blocks other (refl, refl);
}
