-- Volumes with the same metadata have one walk and trees that are alike.
use Rattle.std.specs.Prelude.{◌≡◌, ℕ, ◌<◌, List, Ok}
use Rattle.minix_layout.specs.declared.division.Geometry.{Geometry}
use Rattle.tree_model.specs.declared.node.Node.{Node}
use Rattle.tree_model.specs.Maps.{at_number}
use Rattle.tree_model.specs.Trees.{AreAlike}
use Rattle.volume_ops.specs.laws.ReadsLaws.{answer-agrees}
use Rattle.volume_ops.specs.Volume.{disk_of, walked, tree_of}
use Rattle.volume_ops.specs.Walk.{walk_volume}
use Rattle.volume_ops.specs.laws.Alike.{SameMetadataAtOrNone}
use Rattle.volume_ops.proofs.AlikeLaws.{changed_all}
use Rattle.volume_ops.specs.Metadata.{AgreeOnMetadata}
use Rattle.volume_ops.proofs.BlockPlaces.{same_reads}

pub same_walk : (g : Geometry) (blocks other : List (List ℕ)) → 0 < g.inodes → AgreeOnMetadata g blocks other → walked g other ≡ walked g blocks
unfolding walked
same_walk g blocks other some same = answer-agrees (disk_of blocks) (disk_of other) (walk_volume g) (same_reads g blocks other some same)

pub same_trees : (g : Geometry) (blocks other : List (List ℕ)) (tree : List (ℕ × Node)) → 0 < g.inodes → AgreeOnMetadata g blocks other → tree_of g blocks ≡ Ok tree →
    (changed : List (ℕ × Node)) × (tree_of g other ≡ Ok changed) × AreAlike tree changed × ((birth : ℕ) → SameMetadataAtOrNone (at_number tree birth) (at_number changed birth))
same_trees g blocks other tree some same r = changed_all g blocks other tree (same_reads g blocks other some same) r
