use Rattle.minix_layout.specs.laws.SuperLaws.{super_read}
use Rattle.minix_layout.proofs.laws.super_is_read.Goals as goal

pub returns : goal.returns
returns c = super_read
