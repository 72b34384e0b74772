use Rattle.std.proofs.Common.{sym, ◌∙◌}
use Rattle.order_model.specs.Machine.{machine_of}
use Rattle.system_laws.proofs.AnsweredLemmas.FreshFits.{fresh_fits, few_map_blocks}
use Rattle.system_laws.proofs.AnsweredLemmas.Going.{GoesOn}
use Rattle.system_laws.proofs.AnsweredLemmas.MadeRounds.{rounds_finish}
use Rattle.system_laws.proofs.answered.laws.sessions_never_get_stuck.Goals as goal

pub returns : goal.returns
returns g c =
    let d = g.D.OrderedDev in
    let l = g.met.D.OrderedDev in
    let s = g.S.Scheduler in
    let keeps = g.met.S.Scheduler.keeps in
    let m = machine_of d in
    let good = λ (x : d.State). d.valid x × d.stays_on x × d.sound x in
    let going : GoesOn m good d.work_left = record {
      device = record {
        receives = λ x c ok may room. let r = l.receives x c ok.0 may room in ((r.0, l.stays_received x c ok.1, l.sound_received x c ok.2), r.1);
        transfers = λ x pick ok may. let r = l.transfers x pick ok.0 may in ((r.0, (l.stays x pick ok.1).0, (l.stays_sound x pick ok.2).0), r.1);
        persists = λ x pick ok may. let r = l.persists x pick ok.0 may in ((r.0, (l.stays x pick ok.1).1, (l.stays_sound x pick ok.2).1), r.1);
        no_transfer = l.no_transfer;
        no_persist = l.no_persist;
        answers = λ x ok. let r = l.answers x ok.0 in ((r.0, (l.stays x 0 ok.1).2, (l.stays_sound x 0 ok.2).2), r.1);
        surface = λ x ok. l.surface x ok.0;
      };
      transferred = λ x pick ok may. (l.falls x pick ok.0).0 may;
      persisted = λ x pick ok may. (l.falls x pick ok.0).1 may;
      answered = λ x ok. (l.falls x 0 ok.0).2;
      unanswered = l.no_answer;
      progress = λ x ok. l.progress x ok.0 (l.on x ok.0 ok.1) (l.works x ok.0 ok.2).0;
      completes = λ x ok. l.completion x ok.0;
      uncut = λ x ok i. let no = (l.power_cut x ok.0).0.told.0 i in let on = l.on x ok.0 ok.1 in absurd (cc (sym no ∙ on));
      unfailed = λ x id ok i. let no = ((l.failure x ok.0).known id i).0 in let fine = (l.works x ok.0 ok.2).0 in absurd (cc (sym no ∙ fine));
    } in
    record {
      rounds = λ geometry journal wide limit capacity programs sched dev events sound least most words lines queues can waits valid on works start.
          rounds_finish s.steps m s.valid good d.work_left keeps going geometry journal wide limit capacity programs sound least most words lines c.calls_of_scripts_write_bytes.ensures (c.new_volumes_are_in_use.ensures geometry sound)
          sched dev can (valid, on, works) start queues waits events;
      room = fresh_fits;
      few_blocks = few_map_blocks;
    }
