use Rattle.std.proofs.Common.{◌≡◌, ◌++◌}
use Rattle.volume_model.specs.editing.Zones.{numbers_cut}
use Rattle.volume_model.specs.editing.code.Cutting.{keeps_listed}
use Rattle.volume_model.proofs.EditingLemmas.FreedSteps.{numbers_among, groups_from}
use Rattle.volume_model.proofs.editing.freed.numbers_cut.Given as goal

abbrev pub invariant-loop-group : goal.invariant-loop-group
invariant-loop-group l =
    l.gone.items ++ numbers_among l.blocks l.inode (keeps_listed l.zones l.from) (groups_from l.group)
    ≡ numbers_cut l.blocks l.inode (keeps_listed l.zones l.from)
