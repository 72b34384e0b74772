use Rattle.std.proofs.Common.{◌≤◌, [], length, ◌∙◌, sym, arith}
use Rattle.journal_ring.proofs.RunningLemmas.Adding.{added_all, map_map}
use Rattle.journal_ring.specs.running.Closing.{writers, written_tag}
use Rattle.journal_ring.specs.running.Plan.{tag_of}
use Rattle.journal_ring.proofs.running.closing.tags_of.Goals as goal

pub returns-clause-value : goal.returns-clause-value
returns-clause-value c =
    let s = c.args.stamp.now in
    let at = c.loop-body in
    let f = tag_of (writers s.made_with) s.tx s.sequence in
    let past : length c.args.bodies.now ≤ at.body-index = (let no = c.loop-body-test.false in let end = at.auto.body-index-end in omega arith) in
    added_all (λ b. written_tag (f b)) [] c.args.bodies.now at.tags.items at.body-index at.invariant.0 past ∙ sym (map_map written_tag f c.args.bodies.now)
