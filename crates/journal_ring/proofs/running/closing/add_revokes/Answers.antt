use Rattle.std.proofs.Common.{◌≡◌, ◌<◌, ◌≤◌, ◌∷◌, ◌++◌, [], rules, map, length, take, ap, sym, subst, ◌∙◌, arith}
use Rattle.order_model.specs.declared.note.Note.TheVariants.{Revoke}
use Rattle.journal_blocks.specs.Super.{is_wide}
use Rattle.journal_blocks.specs.Written as written
use Rattle.journal_blocks.specs.Written.{most_revokes}
use Rattle.journal_ring.proofs.RunningLemmas.Chunks.{part_added}
use Rattle.journal_ring.proofs.RunningLemmas.BlockRoom.{some_revokes}
use Rattle.journal_ring.specs.running.Closing.{writers}
use Rattle.journal_ring.specs.running.Plan.{chunks, revoke_block}
use Rattle.journal_ring.specs.declared.running.pieces.UnplacedBlock.{UnplacedBlock}
use Rattle.journal_ring.proofs.running.closing.add_revokes.Goals as goal

pub loop-rest-preserved : goal.loop-rest-preserved
loop-rest-preserved c =
    let s = c.args.stamp.now in
    let at = c.loop-rest in
    let f = revoke_block (writers s.made_with) s.tx s.sequence in
    let some : 0 < length at.rest.now = search (rules, c.is_empty.ensures, c.loop-rest-test.ensures) in
    let most = (writers s.made_with).most_revokes in
    let same : c.most_revokes-most.result ≡ most = c.most_revokes-most.ensures ∙ ap most_revokes c.is_wide-wide.ensures in
    let least = c.min.ensures in
    let fits : c.min.result ≤ most = omega (arith, least, same) in
    let within : c.min.result ≤ length at.rest.now = omega (arith, least, same) in
    let whole : c.min.result < most → c.min.result ≡ length at.rest.now = (λ less. omega (arith, least, same, less)) in
    let put : c.push.new.self ≡ at.pieces ++ f (take c.min.result at.rest.now) ∷ [] =
    c.in_ok-push.ensures.ok
    ∙ ap (λ b. let x : UnplacedBlock = record { note = Revoke s.tx; body = b } in at.pieces ++ x ∷ []) (c.write_revoke.ensures.value ∙ ap (λ b. written.revoke_block b s.sequence c.split_at.result.0.now) c.is_wide-wide.ensures ∙ ap (written.revoke_block (is_wide s.made_with) s.sequence) c.split_at.ensures.front) in
    subst (λ l. c.push.new.self ++ map f (chunks most l) ≡ c.args.pieces.now ++ map f (chunks most c.args.revoked.now)) (sym c.split_at.ensures.back)
    (part_added f most c.min.result c.args.pieces.now at.pieces c.push.new.self c.args.revoked.now at.rest.now at.invariant put (some_revokes (is_wide s.made_with)) some fits within whole)
