use Rattle.std.proofs.Common.{◌≡◌, ◌++◌, drop}
use Rattle.volume_model.specs.editing.Zones.{blocks_cut}
use Rattle.volume_model.proofs.editing.freed.blocks_cut.Given as goal

abbrev pub invariant-loop-m : goal.invariant-loop-m
invariant-loop-m l = l.gone.items ++ blocks_cut (drop l.m-index l.zones) l.from ≡ blocks_cut l.zones l.from
