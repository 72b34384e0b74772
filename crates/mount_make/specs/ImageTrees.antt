-- The tree of an image, in no order, and the blocks of an image that say what its tree is.
use Rattle.std.specs.Prelude.{◌≡◌, ℕ, ◌≤◌, true, List, None, Ok}
use Rattle.minix_layout.specs.declared.division.Geometry.{Geometry}
use Rattle.tree_model.specs.declared.node.Node.{Node}
use Rattle.volume_ops.specs.Volume.{disk_of}
use Rattle.volume_ops.specs.Metadata.{IsMetadata}
use Rattle.volume_ops.specs.VolumeTrees.{IsVolumeTree}
use Rattle.mount_make.specs.Images.{divided, has_journal, fault_in_journal, volume_in}

-- the image is whole, its journal has no fault, and this is the tree of its volume, once that was recovered
pub record IsImageTree (blocks : List (List ℕ)) (tree : List (ℕ × Node)) : Type 0 where
  pub geometry : Geometry
  pub is_divided : divided blocks ≡ Ok geometry
  pub journal : fault_in_journal geometry.zones blocks ≡ None
  pub tree_is : IsVolumeTree geometry (volume_in geometry blocks) tree

-- A block of the metadata: one of the recovered volume's, the block behind the volume, by which a journal is known,
-- or one of the journal.
pub data IsImageMetadata (g : Geometry) (blocks : List (List ℕ)) (b : ℕ) : Type 0 where
  in_volume : IsMetadata g (volume_in g blocks) b → IsImageMetadata g blocks b
  behind : b ≡ g.zones → IsImageMetadata g blocks b
  in_journal : has_journal g.zones blocks ≡ true → g.zones ≤ b → IsImageMetadata g blocks b

-- two images have the same bytes in the metadata of the first
abbrev pub AgreeOnImage : Geometry → List (List ℕ) → List (List ℕ) → Type 0
AgreeOnImage g blocks other = (b : ℕ) → IsImageMetadata g blocks b → disk_of other b ≡ disk_of blocks b
