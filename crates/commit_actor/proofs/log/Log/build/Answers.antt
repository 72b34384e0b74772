use Rattle.std.proofs.Common.{◌≡◌, ◌<◌, ◌^◌, ℕ, List, not, true, false, nat_lt, map, sym, subst, ap, ◌∙◌, rules}
use Rattle.log_model.specs.Marks.{Logged}
use Rattle.log_model.specs.Ring.{IsPlace}
use Rattle.journal_blocks.specs.declared.super_block.JournalSuper.{JournalSuper}
use Rattle.flush_actor.specs.conflicts.Conflicts.{hold}
use Rattle.journal_ring.specs.Journal.{JournalRing}
use Rattle.journal_ring.specs.LogRing.{ring_free, place_blocks}
use Rattle.journal_ring.specs.running.Closing.{writers, logged_of, unplaced_blocks}
use Rattle.journal_ring.specs.running.Open.{OpenTransaction, sequence_of}
use Rattle.journal_ring.specs.running.Running.{log_needs}
use Rattle.flush_actor.specs.Actor.{FlushActor}
use Rattle.commit_actor.specs.Actor.{LogState, part_of}
use Rattle.commit_actor.specs.Journal.{Closing, Committing}
use Rattle.commit_actor.specs.Steps.{plan_built}
use Rattle.commit_actor.specs.code.Sending.{plan_left}
use Rattle.commit_actor.specs.declared.sending.Sending.{Sending}
use Rattle.commit_actor.proofs.Logs.{logged_inside, log_built, needs_few}
use Rattle.commit_actor.proofs.Plans.{rest_is_plan, blocks_of_logged, journal_part, same_plan, same_part}
use Rattle.commit_actor.proofs.Turns.{pieces_enough}
use Rattle.commit_actor.proofs.log.Log.build.Goals as goal

pub overflow_cast-needs : goal.overflow_cast-needs
overflow_cast-needs g c =
    let l = c.self.inside in
    let room = subst (λ (x : LogState). nat_lt (ring_free x.ring) (log_needs (writers x.made_with) x.running) ≡ false) (sym c.self.view_is) c.requires.room in
    let short = subst (λ (m : JournalSuper). nat_lt (ring_free l.ring.ring) (log_needs (writers m) l.running.running) ≡ false) (sym c.self.invariant.same) room in
    let small : c.needs-needs.result < 2 ^ 32 = subst (λ n. n < 2 ^ 32) (sym c.needs-needs.ensures) (needs_few l.flush l.ring l.running l.journal (writers l.running.made_with) c.self.invariant short).1 in
    search (rules, small)

pub hold_all-requires : goal.hold_all-requires
hold_all-requires g c = logged_inside (g.B.BodySource.bodies c.args.bodies.now) c.self.inside.running.running.touched c.in_ok-plan.plan.homes.pairs.items c.deref.result.now _ c.in_ok-plan.ensures.bodies c.deref.ensures.value c.self.invariant.touched

pub invariant_of-self-2 : goal.invariant_of-self-2
invariant_of-self-2 g c =
    let l = c.self.inside in
    log_built l.flush _ l.ring _ _ l.running _ l.journal _ _ c.self.invariant c.hold_all.ensures c.place-place.ensures.ring c.start.ensures c.in_ok-plan.ensures.next

pub returns-clause-ok : goal.returns-clause-ok
returns-clause-ok g c =
    let l = c.self.inside in
    let bodies = g.B.BodySource.bodies c.args.bodies.now in
    let r = l.running.running in
    let s = l.ring.made_with in
    let logged = logged_of bodies r.touched in
    let plan = c.in_ok-plan.plan in
    let x : Sending = record { sequence = plan.sequence; place = c.place-place.result; super_left = not c.has_started-super_left.result; pieces = plan.pieces; homes = plan.homes; changed = plan.changed } in
    let same = c.self.invariant.same in
    let held = ap (λ (y : FlushActor). y.part) c.hold_all.ensures
    ∙ ap (λ (ls : List Logged). record l.flush.part { conflicts = hold c.number-tx.result (map (λ (y : Logged). y.block) ls) l.flush.part.conflicts }) (c.deref.ensures.value ∙ c.in_ok-plan.ensures.bodies)
    ∙ ap (λ (bs : List ℕ). record l.flush.part { conflicts = hold c.number-tx.result bs l.flush.part.conflicts }) (blocks_of_logged bodies r.touched)
    ∙ ap (λ k. record l.flush.part { conflicts = hold k r.touched l.flush.part.conflicts }) c.number-tx.ensures in
    let ring = ap (λ (y : JournalRing). y.ring) c.start.ensures
    ∙ ap (λ (y : JournalRing). record y.ring { started = true }) c.place-place.ensures.ring
    ∙ ap (λ n. record (place_blocks n l.ring.ring) { started = true }) (c.needs-needs.ensures ∙ ap (λ (m : JournalSuper). log_needs (writers m) r) same) in
    let sequence = c.in_ok-plan.ensures.sequence ∙ ap (λ (m : JournalSuper). sequence_of m r.number) same in
    let pieces = c.in_ok-plan.ensures.pieces ∙ ap (λ (m : JournalSuper). unplaced_blocks (writers m) r.number (sequence_of m r.number) logged r.revoked) same in
    let rest = rest_is_plan l.journal s l.ring.ring.places x l.ring.ring.head l.ring.ring.started r.number (sequence_of s r.number) logged r.revoked sequence c.place-place.ensures.place (ap not c.has_started-super_left.ensures) pieces in
    subst (λ (y : LogState). journal_part c.hold_all.new.flush.part c.start.new.self.ring c.close.new.self.running (Committing (plan_left y.journal y.made_with y.ring.places x)) ≡ plan_built (writers y.made_with) y.journal y.made_with.sequence bodies (part_of y Closing)) c.self.view_is
    (same_part _ _ _ _ _ _ _ _ held ring (ap (λ (y : OpenTransaction). y.running) c.in_ok-plan.ensures.next) (same_plan _ _ _ _ _ _ _ _ rest c.in_ok-plan.ensures.bodies c.in_ok-plan.ensures.revoked c.in_ok-plan.ensures.changed))

pub returns-clause-pieces : goal.returns-clause-pieces
returns-clause-pieces g c =
    let l = c.self.inside in
    let r = l.running.running in
    pieces_enough (writers l.running.made_with) r.number (sequence_of l.running.made_with r.number) (logged_of (g.B.BodySource.bodies c.args.bodies.now) r.touched) c.in_ok-plan.plan.homes.pairs.items r.revoked c.in_ok-plan.plan.pieces
    c.in_ok-plan.ensures.bodies c.in_ok-plan.ensures.pieces

pub returns-clause-place : goal.returns-clause-place
returns-clause-place g c =
    subst (λ (y : LogState). IsPlace y.ring.places c.place-place.result) c.self.view_is (subst (IsPlace c.self.inside.ring.ring.places) (sym c.place-place.ensures.place) c.self.invariant.head)
