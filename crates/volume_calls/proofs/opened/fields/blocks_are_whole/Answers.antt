use Rattle.std.proofs.Common.{sym, subst, arith, ⊎_elim}
use Rattle.std.proofs.lemmas.Bool.{cases_eq, cases_lt}
use Rattle.volume_ops.specs.Volume.{disk_of}
use Rattle.volume_calls.proofs.OpenedLemmas.Whole.{IsWholeBlock, whole_behind}
use Rattle.volume_calls.proofs.opened.fields.blocks_are_whole.Goals as goal

pub loop-b-preserved : goal.loop-b-preserved
loop-b-preserved c b less =
    ⊎_elim
    (λ e. subst (λ k. IsWholeBlock (disk_of c.args.disk.now k)) (sym e) (subst IsWholeBlock c.body.ensures (c.is_whole.ensures.whole, c.is_whole.ensures.bytes)))
    (λ apart. c.loop-b.invariant b (omega arith))
    (cases_eq b c.loop-b.b)

pub returns-clause-whole : goal.returns-clause-whole
returns-clause-whole c b =
    ⊎_elim (λ low. (c.loop-b.invariant b (omega arith)).0) (λ high. (whole_behind c.args.disk.now b (omega arith)).0) (cases_lt b c.args.count)

pub returns-clause-bytes : goal.returns-clause-bytes
returns-clause-bytes c b =
    ⊎_elim (λ low. (c.loop-b.invariant b (omega arith)).1) (λ high. (whole_behind c.args.disk.now b (omega arith)).1) (cases_lt b c.args.count)
