use Rattle.std.proofs.Common.{arith}
use Rattle.journal_blocks.specs.laws.Escapes.{restored-escaped, unlike-escaped}
use Rattle.journal_blocks.proofs.laws.bodies_are_restored.Goals as goal

pub returns : goal.returns
returns c = record { unlike = unlike-escaped; back = λ b size fits. restored-escaped b (omega (arith, size)) fits }
