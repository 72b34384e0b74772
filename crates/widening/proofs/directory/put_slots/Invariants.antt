use Rattle.std.proofs.Common.{◌≡◌, drop}
use Rattle.volume_model.specs.Edits.{edited_all}
use Rattle.widening.specs.Directories.{slot_edits}
use Rattle.widening.proofs.directory.put_slots.Given as goal

abbrev pub invariant-loop-zone : goal.invariant-loop-zone
invariant-loop-zone l = edited_all l.g l.image (slot_edits (drop l.zone-index l.zones) l.rest) ≡ edited_all l.g l.initial.image (slot_edits l.zones l.slots)
