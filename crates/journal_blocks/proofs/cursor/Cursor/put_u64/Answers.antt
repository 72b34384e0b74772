use Rattle.std.proofs.Common.{◌∙◌, ap, arith, length, length-append}
use Rattle.byte_fields.specs.Fields.{bytes_of}
use Rattle.byte_fields.specs.Fields.Order.{big}
use Rattle.byte_fields.specs.laws.ReadLaws.{length-bytes_of}
use Rattle.journal_blocks.proofs.Fronts.{length-front, front-put, written-put}
use Rattle.journal_blocks.proofs.cursor.Cursor.put_u64.Goals as goal

pub invariant_of-self : goal.invariant_of-self
invariant_of-self c =
    let size = length-front c.self.inside.at c.self.inside.bytes c.self.invariant in
    let same = ap length c.self.view_is in
    rw c.put_u64_be.ensures (front-put c.self.inside.at 8 c.args.n c.self.inside.bytes c.self.invariant (omega arith))

pub returns-clause-value : goal.returns-clause-value
returns-clause-value c =
    let size = length-front c.self.inside.at c.self.inside.bytes c.self.invariant in
    let same = ap length c.self.view_is in
    rw (c.put_u64_be.ensures, ← c.self.view_is) (written-put c.self.inside.at 8 c.args.n c.self.inside.bytes c.self.invariant (omega arith))

pub returns-clause-len : goal.returns-clause-len
returns-clause-len c =
    let more = length-append c.args.self.now (bytes_of big 8 c.args.n) in
    let few = length-bytes_of big 8 c.args.n in
    ap length (returns-clause-value c) ∙ omega (arith, more, few)
