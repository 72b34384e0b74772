-- Blocks, as the lists of their bytes.
use Rattle.std.specs.Prelude.{ℕ, List, replicate}
use Rattle.blk_base.specs.declared.block.TheConstants.{BLOCK_BYTES}

-- the block whose bytes are all v
unfoldable pub filled : ℕ → List ℕ
filled v = replicate BLOCK_BYTES v
