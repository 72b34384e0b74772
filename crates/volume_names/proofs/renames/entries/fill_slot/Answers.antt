use Rattle.std.proofs.Common.{ap, ◌∙◌, length}
use Rattle.volume_names.proofs.RenamesLemmas.NamesPut.{slot_inside}
use Rattle.volume_names.proofs.renames.entries.fill_slot.Goals as goal

pub returns-clause-place : goal.returns-clause-place
returns-clause-place c = slot_inside c.args.directory.now c.args.slot c.in-Ok.at c.len.result c.requires.free c.in-Ok.ensures.ok.0 (c.len.ensures ∙ ap length c.in-Ok.ensures.ok.1)
