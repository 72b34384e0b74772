-- The text that an image is shown as, or its first fault.
use Rattle.std.specs.Prelude.{◌≡◌, ℕ, ◌+◌, List, None, Result, Ok, Err}
use Rattle.tree_model.specs.declared.node.Node.{Node}
use Rattle.tree_model.specs.Text.{tree_text}
use Rattle.volume_ops.specs.Volume.{VolumeState}
use Rattle.mount_make.specs.Images.{FaultPlace, mounted, tree_after, image_tree}
use Rattle.device_epochs.specs.declared.device.DeviceSetup.{DeviceSetup}
use Rattle.script_grammar.specs.declared.limits.TheConstants.{DEFAULT_DEPTH}
use Rattle.barrierfs_top.specs.declared.fault.TopFault.{TopFault}
use Rattle.barrierfs_top.specs.declared.fault.TopFault.TheVariants as faults

-- the text of a tree, or the fault for which there is none
abbrev pub text_after : Result (List (ℕ × Node)) FaultPlace → Result (List ℕ) FaultPlace
text_after (Ok tree) = Ok (tree_text tree)
text_after (Err told) = Err told

-- the text of the tree of a volume that was mounted
abbrev pub shown_volume : VolumeState → Result (List ℕ) FaultPlace
shown_volume v = text_after (tree_after (Ok v))

-- the text of the tree of an image with these blocks, or its first fault
abbrev pub shown : List (List ℕ) → Result (List ℕ) FaultPlace
shown blocks = text_after (image_tree blocks)

-- how the device over an image of so many blocks is set up: there is room for a recovery, and nothing fails
abbrev pub recovery_setup : ℕ → DeviceSetup
recovery_setup blocks = record { depth = DEFAULT_DEPTH; limit = blocks + 2; fail_at = None; bad_read = None; cut_at = None }

-- the first fault of an image whose tree is asked for, or want of memory
abbrev pub IsMountedFault : List (List ℕ) → TopFault → Type 0
IsMountedFault blocks (faults.Image fault block) = mounted blocks ≡ Err (fault, block)
IsMountedFault blocks faults.NoMemory = Unit {0}
IsMountedFault blocks other = ⊥
