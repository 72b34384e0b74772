-- The second clause is what the definitions compute.
use Rattle.std.specs.Prelude.{refl}
use Rattle.minix_tables.specs.inodes.Map.{zone_at}
use Rattle.tree_model.specs.Paths.{path_of}
use Rattle.tree_model.specs.Calls.{outcome, row, used_zones, file_zones, mapped_groups}
use Rattle.minix_tables.specs.directories.Slots.{with_slot}
use Rattle.volume_model.specs.MapBlock.{map_block}
use Rattle.volume_model.specs.Moves.{inode_told, inode_written}
use Rattle.volume_model.specs.Trees.{tree_now}
use Rattle.volume_steps.specs.Calls.{called, changed}
use Rattle.image_tests.proofs.CallRules.{lower_is_used}
use Rattle.image_tests.proofs.calling.new_nodes_take_the_lowest_inode.Goals as goal

pub returns : goal.returns
unfolding called changed outcome row tree_now path_of used_zones file_zones mapped_groups with_slot map_block zone_at inode_told inode_written
returns c = record { lowest = lower_is_used; replaced = refl }
