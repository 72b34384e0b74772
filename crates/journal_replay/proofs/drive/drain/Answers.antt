use Rattle.std.proofs.Common.{sym, ap, ◌∙◌, subst, ◌≡◌, Some, Option}
use Rattle.order_model.specs.Device.{Seen}
use Rattle.order_model.specs.declared.completion.Completion.{Completion}
use Rattle.order_model.specs.Steps.{Answers}
use Rattle.journal_replay.specs.Driving.{drained, by_completion, end_of}
use Rattle.journal_replay.specs.laws.Drives.{drained-next, drain_more, end-answered}
use Rattle.order_model.specs.Machine.{Machine, machine_of}
use Rattle.journal_replay.specs.code.Runs.{DrainKeeps}
use Rattle.journal_replay.proofs.drive.drain.Goals as goal

pub loop-completion-preserved : goal.loop-completion-preserved
loop-completion-preserved g c =
    let d = g.D.OrderedDev in
    let laws = g.met.D.OrderedDev in
    let m : Machine d.State = machine_of d in
    let i = c.loop-completion.invariant in
    let now = d.state c.loop-completion.dev in
    let next : d.next_answer now ≡ Some c.in-Some.completion = sym c.answer.ensures.value ∙ c.in-Some.is in
    let law = laws.answers now i.valid in
    let told = subst (λ (o : Option Completion). Answers (d.seen now) o (d.seen (d.answered now))) next law.1 in
    let after = c.answer.ensures.state in
    record {
      drained = ap (drained m) after ∙ (sym (drained-next m now c.in-Some.completion next told) ∙ i.drained);
      valid = subst d.valid (sym after) law.0;
      end = c.and-end.ensures ∙ (ap (λ e. by_completion e c.in-Some.completion) i.end ∙ (sym (end-answered (d.seen now) (d.seen (d.answered now)) c.in-Some.completion told) ∙ ap (λ (s : d.State). end_of (d.seen s)) (sym after)));
      kept = subst (λ (s : d.State). DrainKeeps (d.seen (d.state c.args.dev.now)) (d.seen s)) (sym after) (drain_more (d.seen (d.state c.args.dev.now)) (d.seen now) (d.seen (d.answered now)) (Some c.in-Some.completion) i.kept told);
      on = λ on. subst d.stays_on (sym after) (laws.stays now 0 (i.on on)).2;
      sound = λ sound. let p = i.sound sound in subst (λ (s : d.State). d.sound s × ((d.seen s).faults ≡ (d.seen (d.state c.args.dev.now)).faults)) (sym after) ((laws.stays_sound now 0 p.0).2, ap (λ (x : Seen). x.faults) law.1.rest ∙ p.1);
      left = ap d.work_left after ∙ ((laws.falls now 0 i.valid).2 ∙ i.left);
    }

pub returns-clause-on : goal.returns-clause-on
returns-clause-on g c on =
    let d = g.D.OrderedDev in
    subst d.stays_on (sym c.answer.ensures.state) (g.met.D.OrderedDev.stays (d.state c.loop-completion.dev) 0 (c.loop-completion.invariant.on on)).2

pub returns-clause-left : goal.returns-clause-left
returns-clause-left g c =
    let d = g.D.OrderedDev in
    ap d.work_left c.answer.ensures.state ∙ ((g.met.D.OrderedDev.falls (d.state c.loop-completion.dev) 0 c.loop-completion.invariant.valid).2 ∙ c.loop-completion.invariant.left)

pub returns-clause-sound : goal.returns-clause-sound
returns-clause-sound g c sound =
    let d = g.D.OrderedDev in
    let laws = g.met.D.OrderedDev in
    let now = d.state c.loop-completion.dev in
    let p = c.loop-completion.invariant.sound sound in
    subst (λ (s : d.State). d.sound s × ((d.seen s).faults ≡ (d.seen (d.state c.args.dev.now)).faults)) (sym c.answer.ensures.state) ((laws.stays_sound now 0 p.0).2, ap (λ (x : Seen). x.faults) (laws.answers now c.loop-completion.invariant.valid).1.rest ∙ p.1)
