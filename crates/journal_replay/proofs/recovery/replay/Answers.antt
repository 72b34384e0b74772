use Rattle.std.proofs.Common.{◌≡◌, ◌∙◌, ℕ, List, length, ap, sym, subst, arith}
use Rattle.std.proofs.lemmas.List.{length-map}
use Rattle.blk_base.specs.Members.{In}
use Rattle.order_model.specs.declared.completion.Completion.TheVariants.{Failed}
use Rattle.order_model.specs.Machine.{Machine, machine_of}
use Rattle.log_model.specs.Marks.{Logged, Transaction, mark_in}
use Rattle.journal_replay.specs.Driving.{all_choices, is_running, is_failed}
use Rattle.journal_replay.specs.Endings.{HasNoLog, FailsBetween}
use Rattle.journal_replay.specs.laws.Failures.{ended_true, ended_false}
use Rattle.journal_replay.specs.code.Homes.{logged, logged_of}
use Rattle.journal_replay.specs.laws.Plans.{length-homes}
use Rattle.journal_replay.specs.laws.Whole.{commands_are, failed_in}
use Rattle.journal_replay.specs.laws.Recoveries.{has_log, emptied_log, run_from, recoverable_from, fine_log, few_transactions, next_is}
use Rattle.journal_replay.proofs.Faults.{same_failed}
use Rattle.journal_replay.proofs.recovery.replay.Goals as goal

pub overflow_cast-replayed : goal.overflow_cast-replayed
overflow_cast-replayed g c =
    let d = g.D.OrderedDev in
    let image = (d.seen (d.state c.args.dev.now)).surface in
    let j = c.args.journal in
    let few = few_transactions c.args.base j.fields image c.requires.journal.sound c.requires.full in
    let same = ap (λ (ts : List Transaction). length ts) c.requires.journal.log in
    let count = c.len-replayed.ensures in
    omega (arith, few, same, count)

pub write_back-requires-clause-image : goal.write_back-requires-clause-image
write_back-requires-clause-image g c =
    let d = g.D.OrderedDev in
    let image = (d.seen (d.state c.args.dev.now)).surface in
    let j = c.requires.journal in
    recoverable_from c.args.base image c.args.journal.fields c.requires.within j.size j.read (fine_log c.args.base image c.args.journal.fields j.read c.requires.full j.fine)

pub write_back-requires-clause-log : goal.write_back-requires-clause-log
write_back-requires-clause-log g c =
    let d = g.D.OrderedDev in
    has_log c.args.base (d.seen (d.state c.args.dev.now)).surface c.args.journal (logged_of c.in-Ok-homes_of.homes.items) c.len-replayed.result c.set_tail.new.b c.requires.journal c.requires.full c.in-Ok-homes_of.ensures c.len-replayed.ensures c.set_tail.ensures.value

pub write_back-requires-clause-few : goal.write_back-requires-clause-few
write_back-requires-clause-few g c =
    let size : length (logged_of c.in-Ok-homes_of.homes.items) ≡ length c.in-Ok-homes_of.homes.items = length-map c.in-Ok-homes_of.homes.items logged in
    let few = length-homes (mark_in c.args.journal.log) 0 c.args.base in
    let same = ap (λ (hs : List Logged). length hs) c.in-Ok-homes_of.ensures in
    let fits = c.ranges.base.fits in
    omega arith

pub returns-in-Flushed-clause-next : goal.returns-in-Flushed-clause-next
returns-in-Flushed-clause-next g c =
    let d = g.D.OrderedDev in
    let j = c.requires.journal in
    next_is c.args.base c.args.journal.fields (d.seen (d.state c.args.dev.now)).surface c.len-replayed.result j.sound c.requires.full (c.len-replayed.ensures ∙ ap (λ (ts : List Transaction). length ts) j.log)

pub returns-in-Running-clause-next : goal.returns-in-Running-clause-next
returns-in-Running-clause-next g c =
    let d = g.D.OrderedDev in
    let j = c.requires.journal in
    next_is c.args.base c.args.journal.fields (d.seen (d.state c.args.dev.now)).surface c.len-replayed.result j.sound c.requires.full (c.len-replayed.ensures ∙ ap (λ (ts : List Transaction). length ts) j.log)

pub returns-in-Flushed-clause-run : goal.returns-in-Flushed-clause-run
returns-in-Flushed-clause-run g c =
    let d = g.D.OrderedDev in
    let m : Machine d.State = machine_of d in
    run_from m (commands_are c.args.base (d.seen (d.state c.args.dev.now)).surface (logged_of c.in-Ok-homes_of.homes.items) c.set_tail.new.b (has_log c.args.base (d.seen (d.state c.args.dev.now)).surface c.args.journal (logged_of c.in-Ok-homes_of.homes.items) c.len-replayed.result c.set_tail.new.b c.requires.journal c.requires.full c.in-Ok-homes_of.ensures c.len-replayed.ensures c.set_tail.ensures.value)) (all_choices c.args.steer.now) c.args.cut (d.state c.args.dev.now) (d.state c.write_back.new.dev) c.write_back.ensures.cut_run c.write_back.ensures.whole_run
    (λ whole. ap is_running (sym c.write_back.ensures.told) ∙ c.write_back.ensures.ended whole)

pub returns-in-Running-clause-run : goal.returns-in-Running-clause-run
returns-in-Running-clause-run g c =
    let d = g.D.OrderedDev in
    let m : Machine d.State = machine_of d in
    run_from m (commands_are c.args.base (d.seen (d.state c.args.dev.now)).surface (logged_of c.in-Ok-homes_of.homes.items) c.set_tail.new.b (has_log c.args.base (d.seen (d.state c.args.dev.now)).surface c.args.journal (logged_of c.in-Ok-homes_of.homes.items) c.len-replayed.result c.set_tail.new.b c.requires.journal c.requires.full c.in-Ok-homes_of.ensures c.len-replayed.ensures c.set_tail.ensures.value)) (all_choices c.args.steer.now) c.args.cut (d.state c.args.dev.now) (d.state c.write_back.new.dev) c.write_back.ensures.cut_run c.write_back.ensures.whole_run
    (λ whole. ap is_running (sym c.write_back.ensures.told) ∙ c.write_back.ensures.ended whole)

pub returns-in-Failed-clause-failed_run : goal.returns-in-Failed-clause-failed_run
returns-in-Failed-clause-failed_run g c id e =
    let d = g.D.OrderedDev in
    let m : Machine d.State = machine_of d in
    run_from m (commands_are c.args.base (d.seen (d.state c.args.dev.now)).surface (logged_of c.in-Ok-homes_of.homes.items) c.set_tail.new.b (has_log c.args.base (d.seen (d.state c.args.dev.now)).surface c.args.journal (logged_of c.in-Ok-homes_of.homes.items) c.len-replayed.result c.set_tail.new.b c.requires.journal c.requires.full c.in-Ok-homes_of.ensures c.len-replayed.ensures c.set_tail.ensures.value)) (all_choices c.args.steer.now) c.args.cut (d.state c.args.dev.now) (d.state c.write_back.new.dev) c.write_back.ensures.cut_run c.write_back.ensures.whole_run
    (λ whole. ap is_running (sym c.write_back.ensures.told) ∙ c.write_back.ensures.ended whole)

pub returns-in-Failed-clause-device_failed : goal.returns-in-Failed-clause-device_failed
returns-in-Failed-clause-device_failed g c id e =
    let d = g.D.OrderedDev in
    let same : c.in-Failed.id ≡ id = same_failed c.in-Failed.id id e in (
      c.write_back.ensures.failed c.in-Failed.id c.in-Failed.is,
      subst (λ (i : ℕ). In (Failed i) (d.seen (d.state c.write_back.new.dev)).sent) same (failed_in c.in-Failed.id (d.seen (d.state c.write_back.new.dev)).sent (sym c.write_back.ensures.told ∙ c.in-Failed.is)),
    )

pub returns-in-Flushed-clause-flushed : goal.returns-in-Flushed-clause-flushed
returns-in-Flushed-clause-flushed g c =
    let d = g.D.OrderedDev in
    ended_true (commands_are c.args.base (d.seen (d.state c.args.dev.now)).surface (logged_of c.in-Ok-homes_of.homes.items) c.set_tail.new.b (has_log c.args.base (d.seen (d.state c.args.dev.now)).surface c.args.journal (logged_of c.in-Ok-homes_of.homes.items) c.len-replayed.result c.set_tail.new.b c.requires.journal c.requires.full c.in-Ok-homes_of.ensures c.len-replayed.ensures c.set_tail.ensures.value))
    (d.seen (d.state c.write_back.new.dev)) c.write_back.result c.write_back.ensures.ends.flushed c.in-Flushed.is

pub returns-in-Flushed-clause-no_failure : goal.returns-in-Flushed-clause-no_failure
returns-in-Flushed-clause-no_failure g c = c.write_back.ensures.ends.failed_is ∙ ap is_failed c.in-Flushed.is

pub returns-in-Running-clause-flushed : goal.returns-in-Running-clause-flushed
returns-in-Running-clause-flushed g c =
    let d = g.D.OrderedDev in
    ended_false (commands_are c.args.base (d.seen (d.state c.args.dev.now)).surface (logged_of c.in-Ok-homes_of.homes.items) c.set_tail.new.b (has_log c.args.base (d.seen (d.state c.args.dev.now)).surface c.args.journal (logged_of c.in-Ok-homes_of.homes.items) c.len-replayed.result c.set_tail.new.b c.requires.journal c.requires.full c.in-Ok-homes_of.ensures c.len-replayed.ensures c.set_tail.ensures.value))
    (d.seen (d.state c.write_back.new.dev)) c.write_back.result c.write_back.ensures.ends.flushed c.in-Running.is

pub returns-in-Running-clause-no_failure : goal.returns-in-Running-clause-no_failure
returns-in-Running-clause-no_failure g c = c.write_back.ensures.ends.failed_is ∙ ap is_failed c.in-Running.is

pub returns-in-Flushed-clause-emptied : goal.returns-in-Flushed-clause-emptied
returns-in-Flushed-clause-emptied g c ended =
    let d = g.D.OrderedDev in
    let j = c.requires.journal in
    subst (λ (i : List (List ℕ)). HasNoLog c.args.base i) (sym (c.write_back.ensures.whole c.in-Flushed.is).0)
    (emptied_log c.args.base (d.seen (d.state c.args.dev.now)).surface c.args.journal.fields c.requires.within j.size j.read c.requires.full)

pub returns-in-Failed-clause-failure : goal.returns-in-Failed-clause-failure
returns-in-Failed-clause-failure g c id e =
    let d = g.D.OrderedDev in
    let same : c.in-Failed.id ≡ id = same_failed c.in-Failed.id id e in
    subst (λ (i : ℕ). FailsBetween (d.seen (d.state c.args.dev.now)) (d.seen (d.state c.write_back.new.dev)) i) same (c.write_back.ensures.ends.failure c.in-Failed.id c.in-Failed.is)
