use Rattle.std.proofs.Common.{◌≡◌, ℕ, ◌<◌, List, length, sym, ap, subst, ◌∙◌, arith}
use Rattle.blk_base.specs.Members.{In}
use Rattle.number_sets.specs.Sets.{without_all}
use Rattle.commit_actor.specs.Actor.{CommitActor}
use Rattle.host_core.specs.effects.code.Noting.{touches, revokes, changes, wants}
use Rattle.host_core.proofs.EffectsLemmas.Noted.{touched_room, revoked_room, touched_blocks, revoked_blocks, changed_blocks, noted_is}
use Rattle.host_core.proofs.effects.notes.note_call.Goals as goal

pub touch_all-requires-clause-blocks : goal.touch_all-requires-clause-blocks
touch_all-requires-clause-blocks c b i = c.requires.blocks b (subst (In b) c.blocks-2.ensures i)

pub revoke_all-requires : goal.revoke_all-requires
revoke_all-requires c =
    let room = touched_room c.blocks-2.result.now c.args.journal.now in
    let spare = ap (λ (x : CommitActor). x.spare) c.touch_all.ensures in
    let blocks = ap (λ (l : List ℕ). length l) c.blocks-2.ensures in
    let revoked = ap (λ (l : List ℕ). length l) c.revoked.ensures in
    let notes = c.requires.notes in
    omega (arith, room, spare, blocks, revoked, notes)

pub change_all-requires : goal.change_all-requires
change_all-requires c =
    let room = touched_room c.blocks-2.result.now c.args.journal.now in
    let spare = ap (λ (x : CommitActor). x.spare) c.touch_all.ensures in
    let more = revoked_room c.revoked.result.now c.touch_all.new.journal in
    let left = ap (λ (x : CommitActor). x.spare) c.revoke_all.ensures in
    let blocks = ap (λ (l : List ℕ). length l) c.blocks-2.ensures in
    let revoked = ap (λ (l : List ℕ). length l) c.revoked.ensures in
    let nodes = ap (λ (l : List ℕ). length l) c.nodes.ensures in
    let notes = c.requires.notes in
    omega (arith, room, spare, more, left, blocks, revoked, nodes, notes)

pub want_kept-requires : goal.want_kept-requires
want_kept-requires c b i =
    let same : c.change_all.new.journal.blocks ≡ c.args.journal.now.blocks =
    ap (λ (x : CommitActor). x.blocks) c.change_all.ensures ∙ changed_blocks c.nodes.result.now c.revoke_all.new.journal
    ∙ ap (λ (x : CommitActor). x.blocks) c.revoke_all.ensures ∙ revoked_blocks c.revoked.result.now c.touch_all.new.journal
    ∙ ap (λ (x : CommitActor). x.blocks) c.touch_all.ensures ∙ touched_blocks c.blocks-2.result.now c.args.journal.now in
    subst (λ n. b < n) (sym same) (c.requires.blocks b (subst (In b) c.blocks-3.ensures i))

pub returns : goal.returns
returns c =
    noted_is c.args.touched.now.touched c.args.journal.now c.touch_all.new.journal c.revoke_all.new.journal c.change_all.new.journal c.want_kept.new.journal
    (c.touch_all.ensures ∙ ap (λ l. touches l c.args.journal.now) c.blocks-2.ensures)
    (c.revoke_all.ensures ∙ ap (λ l. revokes l c.touch_all.new.journal) c.revoked.ensures)
    (c.change_all.ensures ∙ ap (λ l. changes l c.revoke_all.new.journal) c.nodes.ensures)
    (c.want_kept.ensures ∙ ap (λ l. wants (without_all l c.revoked-2.result.now) c.change_all.new.journal) c.blocks-3.ensures ∙ ap (λ l. wants (without_all c.args.touched.now.touched.blocks l) c.change_all.new.journal) c.revoked-2.ensures)
