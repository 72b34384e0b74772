use Rattle.std.proofs.Common.{◌≡◌, ◌<◌, ◌≤◌, ◌++◌, rules, length, take, ap, sym, subst, ◌∙◌, arith}
use Rattle.journal_blocks.specs.Super.{is_wide}
use Rattle.journal_blocks.specs.Written.{most_tags}
use Rattle.journal_ring.proofs.RunningLemmas.Chunks.{described_added}
use Rattle.journal_ring.proofs.RunningLemmas.BlockRoom.{some_tags}
use Rattle.journal_ring.specs.running.Closing.{writers}
use Rattle.journal_ring.specs.running.Plan.{chunks, described, all_described}
use Rattle.journal_ring.proofs.running.closing.add_bodies.Goals as goal

pub loop-rest-preserved : goal.loop-rest-preserved
loop-rest-preserved c =
    let s = c.args.stamp.now in
    let at = c.loop-rest in
    let w = writers s.made_with in
    let some : 0 < length at.rest.now = search (rules, c.is_empty.ensures, c.loop-rest-test.ensures) in
    let most = (writers s.made_with).most_tags in
    let same : c.most_tags-most.result ≡ most = c.most_tags-most.ensures ∙ ap most_tags c.is_wide.ensures in
    let least = c.min.ensures in
    let fits : c.min.result ≤ most = omega (arith, least, same) in
    let within : c.min.result ≤ length at.rest.now = omega (arith, least, same) in
    let whole : c.min.result < most → c.min.result ≡ length at.rest.now = (λ less. omega (arith, least, same, less)) in
    let put : c.describe.new.pieces ≡ at.pieces ++ described w s.tx s.sequence (take c.min.result at.rest.now) =
    c.in_ok-describe.ensures ∙ ap (λ l. at.pieces ++ described w s.tx s.sequence l) c.split_at.ensures.front in
    subst (λ l. c.describe.new.pieces ++ all_described w s.tx s.sequence (chunks most l) ≡ c.args.pieces.now ++ all_described w s.tx s.sequence (chunks most c.args.bodies.now)) (sym c.split_at.ensures.back)
    (described_added w s.tx s.sequence most c.min.result c.args.pieces.now at.pieces c.describe.new.pieces c.args.bodies.now at.rest.now at.invariant put (some_tags (is_wide s.made_with)) some fits within whole)
