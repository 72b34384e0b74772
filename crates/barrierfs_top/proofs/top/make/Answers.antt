use Rattle.minix_layout.specs.Widths.{of_14}
use Rattle.barrierfs_top.proofs.top.make.Goals as goal

pub make_volume-requires-clause-width : goal.make_volume-requires-clause-width
make_volume-requires-clause-width c = of_14
