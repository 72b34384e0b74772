use Rattle.std.proofs.Common.{◌+◌, ◌<◌, length, drop, ap, ◌∙◌, subst, sym}
use Rattle.std.proofs.lemmas.List.{length-set}
use Rattle.vol_check.specs.code.Births.{found_at, last_at}
use Rattle.vol_check.proofs.Tables.{note_more}
use Rattle.vol_check.proofs.births.note_places.Goals as goal

pub loop-k-preserved : goal.loop-k-preserved
loop-k-preserved c =
    let n = c.index-nodes-k.result in
    let now = c.loop-k.places.items in
    let size = c.loop-k.invariant.size in
    record {
      size = ap length c.note_place.ensures ∙ (length-set now n.birth (c.loop-k.k + 1) ∙ size);
      noted = λ birth inside.
          ap (λ places. last_at (drop (c.loop-k.k + 1) c.args.nodes.now) birth (found_at c.args.nodes.now places birth)) c.note_place.ensures
          ∙ (note_more c.args.nodes.now now c.loop-k.k n c.loop-k-test.true c.index-nodes-k.is birth (subst (λ size. birth < size) (sym size) inside)
          ∙ c.loop-k.invariant.noted birth inside);
    }
