use Rattle.std.proofs.Common.{◌∙◌, ap, arith, length, length-append}
use Rattle.byte_fields.specs.Fields.{zeros}
use Rattle.byte_fields.specs.laws.ReadLaws.{length-zeros}
use Rattle.journal_blocks.proofs.Fronts.{length-front, front-skip, written-skip}
use Rattle.journal_blocks.proofs.cursor.Cursor.skip.Goals as goal

pub invariant_of-self : goal.invariant_of-self
invariant_of-self c =
    let size = length-front c.self.inside.at c.self.inside.bytes c.self.invariant in
    let same = ap length c.self.view_is in
    front-skip c.self.inside.at c.args.n c.self.inside.bytes c.self.invariant (omega arith)

pub returns-clause-value : goal.returns-clause-value
returns-clause-value c =
    let size = length-front c.self.inside.at c.self.inside.bytes c.self.invariant in
    let same = ap length c.self.view_is in
    rw (← c.self.view_is) (written-skip c.self.inside.at c.args.n c.self.inside.bytes c.self.invariant (omega arith))

pub returns-clause-len : goal.returns-clause-len
returns-clause-len c =
    let more = length-append c.args.self.now (zeros c.args.n) in
    let few = length-zeros c.args.n in
    ap length (returns-clause-value c) ∙ omega (arith, more, few)
