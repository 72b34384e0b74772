use Rattle.std.proofs.Common.{if◌then◌else◌, ap, sym, ◌∙◌, drop}
use Rattle.commit_actor.specs.Actor.{LogState, part_of, with_parts}
use Rattle.commit_actor.specs.Journal as model
use Rattle.commit_actor.specs.Steps.{planned_out, planned_done, plan_sent}
use Rattle.commit_actor.specs.code.Sending.{planned_of, plan_left, rest_of}
use Rattle.flush_actor.specs.Outcomes.{is_queue_full}
use Rattle.commit_actor.proofs.Turns.{turned, submits_did, plan_next, done_is_sent}
use Rattle.commit_actor.proofs.journal_part.send_planned.Goals as goal

pub returns-clause-step : goal.returns-clause-step
returns-clause-step g c ps =
    let l = c.args.log.now in
    let s = c.args.sending in
    let t = c.send_planned-turn.result in
    let p = plan_left l.journal l.made_with l.ring.places s in
    let rest = rest_of l.journal l.made_with l.ring.places s in
    let j = part_of l (model.Committing p) in
    let x = planned_of c.in-Some.put in
    let first = sym c.in-Some.ensures in
    let d = sym c.did.ensures ∙ c.if-not-did.false in
    let sent = c.send_planned-turn.ensures.log ∙ ap (λ b. if b then with_parts l (planned_out (part_of l model.Closing) x) else l) d in
    let part = c.planned_sent.ensures.part
    ∙ ap (λ (y : LogState). planned_done (part_of y (model.Committing (plan_left y.journal y.made_with y.ring.places s))) (plan_left y.journal y.made_with y.ring.places s) (rest_of y.journal y.made_with y.ring.places s)) sent
    ∙ done_is_sent j p rest x first in
    ap (λ y. turned y ps t) part ∙ submits_did t j (plan_sent j p x (drop 1 rest)) ps ps c.send_planned-turn.ensures.turn d ∙ plan_next (is_queue_full t) j ps p x first
