use Rattle.vol_check.proofs.KeptCleanLemmas.ChangedLemmas.AllBlocks.{quiet_blocks, unlink_blocks, rmdir_blocks, truncate_blocks, write_blocks, bytes_blocks, create_blocks, mkdir_blocks, link_blocks, rename_blocks}
use Rattle.vol_check.proofs.kept_clean.changed.laws.touched_blocks_have_changed.Goals as goal

pub returns : goal.returns
returns c = record {
  quiet = quiet_blocks;
  unlink = unlink_blocks;
  rmdir = rmdir_blocks;
  truncate = truncate_blocks;
  write = write_blocks;
  bytes = bytes_blocks;
  create = create_blocks;
  mkdir = mkdir_blocks;
  link = link_blocks;
  rename = rename_blocks;
}
