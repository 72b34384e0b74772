-- The last two clauses are what the definitions compute.
use Rattle.std.specs.Prelude.{refl}
use Rattle.minix_tables.specs.inodes.Map.{zone_at}
use Rattle.tree_model.specs.Paths.{path_of}
use Rattle.tree_model.specs.Calls.{outcome, row, used_zones, file_zones, mapped_groups}
use Rattle.minix_tables.specs.directories.Slots.{with_slot}
use Rattle.volume_model.specs.MapBlock.{map_block}
use Rattle.volume_model.specs.Moves.{inode_told, inode_written}
use Rattle.volume_model.specs.Trees.{tree_now}
use Rattle.volume_steps.specs.Calls.{called, changed}
use Rattle.image_tests.proofs.FirstZones.{lowest_first}
use Rattle.image_tests.proofs.calling.new_directories_take_their_zone_first.Goals as goal

pub returns : goal.returns
unfolding called changed outcome row tree_now path_of used_zones file_zones mapped_groups with_slot map_block zone_at inode_told inode_written
returns c = record { own = lowest_first; child = refl; parent = refl }
