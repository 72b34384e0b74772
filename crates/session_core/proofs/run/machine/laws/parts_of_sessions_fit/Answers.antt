use Rattle.std.proofs.Common.{[], refl}
use Rattle.order_model.specs.Machine.{machine_of}
use Rattle.session_core.specs.run.machine.Machine.{opened_session}
use Rattle.session_core.specs.run.machine.Fits.{IsDevice}
use Rattle.session_core.proofs.RunLemmas.MachineLemmas.SessionRuns.{opened_holds, run_holds}
use Rattle.session_core.proofs.RunLemmas.MachineLemmas.SameDevice.{IsSame, made_as_itself, same_device}
use Rattle.session_core.proofs.run.machine.laws.parts_of_sessions_fit.Goals as goal

pub returns : goal.returns
returns g c =
    let t = g.D.OrderedDev in
    let k = g.S.Scheduler in
    let l = g.met.D.OrderedDev in
    let keeps = g.met.S.Scheduler.keeps in
    let device : IsDevice (machine_of t) t.valid = record { receives = l.receives; transfers = l.transfers; persists = l.persists; no_transfer = l.no_transfer; no_persist = l.no_persist; answers = l.answers; surface = l.surface } in
    record {
      device = device;
      fit = λ s b sched dev es written opened journal bytes ok can start.
          (run_holds s k.steps (machine_of t) k.valid t.valid keeps device b written opened journal bytes start.blocks [] (opened_session s b sched dev) refl
          (opened_holds s k.steps (machine_of t) k.valid t.valid keeps device b sched dev ok can start) es).fits;
      valid = λ s b sched dev es written opened journal bytes ok can start.
          let v = run_holds s k.steps (machine_of t) k.valid t.valid keeps device b written opened journal bytes start.blocks [] (opened_session s b sched dev) refl
          (opened_holds s k.steps (machine_of t) k.valid t.valid keeps device b sched dev ok can start) es in
          (v.sched, v.dev, v.image);
      made = λ s b sched dev es written opened journal bytes ok can start.
          let first = t.seen dev in
          let same = same_device (machine_of t) t.valid first device in
          (run_holds s k.steps (machine_of t) k.valid (IsSame (machine_of t) t.valid first) keeps same b written opened journal bytes start.blocks [] (opened_session s b sched dev) refl
          (opened_holds s k.steps (machine_of t) k.valid (IsSame (machine_of t) t.valid first) keeps same b sched dev ok (can, made_as_itself first) start) es).dev.1;
    }
