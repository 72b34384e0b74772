use Rattle.std.proofs.Common.{◌≡◌, drop}
use Rattle.volume_model.specs.Edits.{edited_all}
use Rattle.widening.specs.Directories.{bit_edits}
use Rattle.widening.proofs.directory.set_bits.Given as goal

abbrev pub invariant-loop-zone : goal.invariant-loop-zone
invariant-loop-zone l = edited_all l.g l.image (bit_edits l.g l.used (drop l.zone-index l.zones)) ≡ edited_all l.g l.initial.image (bit_edits l.g l.used l.zones)
