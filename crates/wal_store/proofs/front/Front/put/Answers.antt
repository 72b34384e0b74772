use Rattle.std.proofs.Common.{◌∙◌, ap, arith, length, length-append}
use Rattle.wal_store.proofs.Fronts.{length-front, front-more, written-more}
use Rattle.wal_store.proofs.front.Front.put.Goals as goal

pub invariant_of-self : goal.invariant_of-self
invariant_of-self c =
    let size = length-front c.self.inside.at c.self.inside.bytes c.self.invariant in
    let same = ap length c.self.view_is in
    rw c.copy_from_slice.ensures.after (front-more c.self.inside.at c.args.more.now c.self.inside.bytes c.self.invariant (omega arith))

pub returns-clause-value : goal.returns-clause-value
returns-clause-value c =
    let size = length-front c.self.inside.at c.self.inside.bytes c.self.invariant in
    let same = ap length c.self.view_is in
    rw (c.copy_from_slice.ensures.after, ← c.self.view_is) (written-more c.self.inside.at c.args.more.now c.self.inside.bytes c.self.invariant (omega arith))

pub returns-clause-len : goal.returns-clause-len
returns-clause-len c =
    let more = length-append c.args.self.now c.args.more.now in
    ap length (returns-clause-value c) ∙ omega (arith, more)
