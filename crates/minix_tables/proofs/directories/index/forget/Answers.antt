use Rattle.std.proofs.Common.{subst}
use Rattle.minix_tables.specs.directories.Told.{AreTold, told}
use Rattle.minix_tables.specs.directories.laws.Told.{told_gone}
use Rattle.minix_tables.proofs.directories.index.forget.Goals as goal

pub returns-in-Some : goal.returns-in-Some
returns-in-Some c slots at stands h = told_gone slots (told c.in-Some.names) (told c.remove.new.self) c.args.name.now at stands c.remove.ensures (subst (AreTold slots) c.in-Some.is h)
