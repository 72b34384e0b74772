use Rattle.std.proofs.Common.{sym, ap, ◌∙◌, subst, ◌≡◌, ◌∷◌, ◌++◌, [], List, true}
use Rattle.order_model.specs.declared.command.Command.{Command}
use Rattle.order_model.specs.Device.{Seen}
use Rattle.journal_replay.specs.Driving.{sent}
use Rattle.journal_replay.specs.laws.Drives.{sent-none, sent-next}
use Rattle.journal_replay.specs.code.Sending.{CanSend, KeepsAll, next_receivable, keeps-received, keeps-more, can_send-kept}
use Rattle.journal_replay.proofs.Results.{on_ok}
use Rattle.order_model.specs.Machine.{Machine, machine_of}
use Rattle.journal_replay.proofs.drive.send.Goals as goal

pub receive-requires : goal.receive-requires
receive-requires g c =
    let d = g.D.OrderedDev in
    let i = c.loop-plan.invariant in
    let now = d.state c.loop-plan.dev in
    next_receivable (d.seen now) c.in-Some.command c.next.new.self (g.met.D.OrderedDev.surface now i.valid) (subst (CanSend (d.seen now)) c.in-Some.ensures.some i.can)

pub loop-plan-preserved : goal.loop-plan-preserved
loop-plan-preserved g c =
    let d = g.D.OrderedDev in
    let laws = g.met.D.OrderedDev in
    let m : Machine d.State = machine_of d in
    let i = c.loop-plan.invariant in
    let now = d.state c.loop-plan.dev in
    let old = d.state c.args.dev.now in
    let command = c.in-Some.command in
    let left = c.next.new.self in
    let plan = c.in-Some.ensures.some in
    let can = subst (CanSend (d.seen now)) plan i.can in
    let may = next_receivable (d.seen now) command left (laws.surface now i.valid) can in
    let room : d.has_room now ≡ true = sym c.room.ensures ∙ c.loop-plan-test.true in
    let after = on_ok c.receive.result _ (c.receive.ensures.when ∙ room) c.receive.ensures.ok in
    let law = laws.receives now command i.valid may room in
    let kept = keeps-received (d.seen now) (d.seen (d.received now command)) command left law.1 in
    rw after (record {
      sent = sym (sent-next m now command left room) ∙ (ap (sent m now) (sym plan) ∙ i.sent);
      valid = law.0;
      can = can_send-kept (d.seen now) (d.seen (d.received now command)) (command ∷ left) left kept can;
      kept = keeps-more (d.seen old) (d.seen now) (d.seen (d.received now command)) c.args.plan.now (command ∷ left) left (subst (KeepsAll (d.seen old) c.args.plan.now (d.seen now)) plan i.kept) kept;
      others = law.1 ∙ ap (λ (x : Seen). let made : Seen = record x { took = (d.seen now).took ++ command ∷ [] } in made) i.others ∙ ap (λ (cs : List Command). let made : Seen = record (d.seen old) { took = cs } in made) (sym (ap (λ (x : Seen). x.took) law.1));
      on = λ on. laws.stays_received now command (i.on on);
      sound = λ sound. let p = i.sound sound in (laws.sound_received now command p.0, ap (λ (x : Seen). x.faults) law.1 ∙ p.1);
    })

pub returns-clause-sent : goal.returns-clause-sent
returns-clause-sent g c =
    let d = g.D.OrderedDev in
    let m : Machine d.State = machine_of d in
    sym (sent-none m (d.state c.loop-plan.dev) c.loop-plan.plan (sym c.room.ensures ∙ c.loop-plan-test.false)) ∙ c.loop-plan.invariant.sent
