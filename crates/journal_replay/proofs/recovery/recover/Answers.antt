use Rattle.std.proofs.Common.{◌≡◌, ◌∙◌, [], Err, ap, sym, subst, refl}
use Rattle.std.proofs.lemmas.Bool.{eq-eqb, false≢true}
use Rattle.order_model.specs.Device.{Seen}
use Rattle.order_model.specs.Machine.{Machine, machine_of}
use Rattle.journal_blocks.specs.declared.super_block.JournalSuper.{JournalSuper}
use Rattle.journal_replay.specs.laws.Attempts.{recovered-empty}
use Rattle.journal_replay.specs.declared.fault.RecoverFault.{RecoverFault}
use Rattle.journal_replay.specs.declared.fault.RecoverFault.TheVariants.{ReadFault, DeviceFailed}
use Rattle.journal_replay.specs.laws.Drives.{later_rose}
use Rattle.journal_replay.specs.laws.Failures.{fresh_fine, others_fine, fails_before, flushed_read}
use Rattle.journal_replay.specs.laws.Reads.{asked_in_vain, asked_before, sound_reads}
use Rattle.journal_replay.specs.laws.Recoveries.{recovered_super-empty, no_log, not_empty, ok_not_empty, run_behind, run_read, next_from}
use Rattle.journal_replay.specs.Commands.{commands}
use Rattle.journal_replay.specs.Driving.{all_choices, WereRead}
use Rattle.journal_replay.proofs.recovery.recover.Goals as goal

pub returns-then-journal-eq0-clause-whole : goal.returns-then-journal-eq0-clause-whole
returns-then-journal-eq0-clause-whole g c ended =
    let d = g.D.OrderedDev in
    let image = (d.seen (d.state c.args.dev.now)).surface in
    let j = c.in_ok-journal.ensures.journal in
    let read = c.in_ok-journal.ensures.unchanged in
    let empty = eq-eqb c.in_ok-journal.journal.fields.start 0 c.if-journal-eq0.true in
    (ap (λ (x : Seen). x.surface) read.reads.0 ∙ sym (recovered-empty c.args.base image c.in_ok-journal.journal.fields j.read empty), read.quiet)

pub returns-then-journal-eq0-clause-next : goal.returns-then-journal-eq0-clause-next
returns-then-journal-eq0-clause-next g c t read =
    let d = g.D.OrderedDev in
    let image = (d.seen (d.state c.args.dev.now)).surface in
    let s = c.in_ok-journal.journal.fields in
    let same : s ≡ t = recovered_super-empty c.args.base image s t c.in_ok-journal.ensures.journal.read c.if-journal-eq0.true read in
    (ap (λ (q : JournalSuper). q.sequence) (sym same), ap (λ (q : JournalSuper). q.start) (sym same) ∙ c.if-journal-eq0.true)

pub returns-clause-next : goal.returns-clause-next
returns-clause-next g c =
    let d = g.D.OrderedDev in
    let same = ap (λ (x : Seen). x.surface) c.in_ok-journal.ensures.unchanged.reads.0 in
    next_from c.args.base (d.seen (d.state c.args.dev.now)).surface (d.seen (d.state c.open.new.dev)).surface c.in_ok-journal.journal c.replay.result c.in_ok-journal.ensures.journal c.if-journal-eq0.false c.requires.within same c.replay.ensures.next

pub returns-clause-run : goal.returns-clause-run
returns-clause-run g c =
    let d = g.D.OrderedDev in
    let m : Machine d.State = machine_of d in
    let old = d.state c.args.dev.now in
    let read = c.in_ok-journal.ensures.unchanged.reads in
    run_read m c.args.base (d.seen old).surface c.replay.result (ap (λ (x : Seen). commands c.args.base x.surface) read.0) (all_choices c.args.steer.now) c.args.cut old (d.state c.open.new.dev) (d.state c.replay.new.dev) read (c.in_ok-journal.ensures.asked old ([], refl, refl)) c.replay.ensures.run

pub returns-clause-failed_run : goal.returns-clause-failed_run
returns-clause-failed_run g c id e =
    let d = g.D.OrderedDev in
    let m : Machine d.State = machine_of d in
    let old = d.state c.args.dev.now in
    let read = c.in_ok-journal.ensures.unchanged.reads in
    run_behind m (ap (λ (x : Seen). commands c.args.base x.surface) read.0) (all_choices c.args.steer.now) c.args.cut old (d.state c.open.new.dev) (d.state c.replay.new.dev) read (c.in_ok-journal.ensures.asked old ([], refl, refl)) (c.replay.ensures.failed_run id e)

pub returns-clause-device_failed : goal.returns-clause-device_failed
returns-clause-device_failed g c id e =
    let d = g.D.OrderedDev in
    let failed = c.replay.ensures.device_failed id e in
    (later_rose (d.seen (d.state c.args.dev.now)).faults (d.seen (d.state c.open.new.dev)).faults (d.seen (d.state c.replay.new.dev)).faults failed.0 c.in_ok-journal.ensures.unchanged.reads.1 c.replay.ensures.counts, failed.1)

-- ---- a journal that could not be read

pub returns-in_err-journal-clause-no_failure : goal.returns-in_err-journal-clause-no_failure
returns-in_err-journal-clause-no_failure g c none =
    let d = g.D.OrderedDev in
    let laws = g.met.D.OrderedDev in
    let mid = d.state c.open.new.dev in
    let o = c.open.ensures in
    let v = o.valid in
    fresh_fine (d.seen mid) (ap (λ (x : Seen). x.took) o.unchanged.reads.0 ∙ c.requires.fresh) (laws.on mid v (o.on c.requires.on)) (laws.completion mid v) (laws.failure mid v) (laws.power_cut mid v).0

pub returns-in_err-journal-clause-read_failed : goal.returns-in_err-journal-clause-read_failed
returns-in_err-journal-clause-read_failed g c e =
    let d = g.D.OrderedDev in
    let m : Machine d.State = machine_of d in
    let old = d.state c.args.dev.now in
    let h = rw e at c.from_residual.ensures.1 in
    let same : ◌≡◌ {A = RecoverFault} c.in_err-journal.field-0.0 ReadFault = sym h in
    asked_in_vain m c.open.result old (d.state c.open.new.dev) (c.in_err-journal.was ∙ ap Err same) (c.open.ensures.asked old ([], refl, refl))

pub returns-in_err-journal-clause-refused_read : goal.returns-in_err-journal-clause-refused_read
returns-in_err-journal-clause-refused_read g c fault e other failed =
    let d = g.D.OrderedDev in
    let m : Machine d.State = machine_of d in
    let old = d.state c.args.dev.now in
    let h = rw e at c.from_residual.ensures.1 in
    let same : ◌≡◌ {A = RecoverFault} c.in_err-journal.field-0.0 fault = sym h in
    asked_before m c.open.result fault old (d.state c.open.new.dev) (c.in_err-journal.was ∙ ap Err same) other (c.open.ensures.asked old ([], refl, refl))

pub returns-in_err-journal-clause-works : goal.returns-in_err-journal-clause-works
returns-in_err-journal-clause-works g c sound =
    let d = g.D.OrderedDev in
    let laws = g.met.D.OrderedDev in
    let m : Machine d.State = machine_of d in
    let old = d.state c.args.dev.now in (
      λ e.
          let h = rw e at c.from_residual.ensures.1 in
          let same : ◌≡◌ {A = RecoverFault} c.in_err-journal.field-0.0 ReadFault = sym h in
          sound_reads m d.valid d.sound (λ s b v. (laws.reads s b v).0) (λ s b w. (laws.stays_sound s b w).3) (λ s v w. (laws.works s v w).1) old (d.state c.open.new.dev) c.open.ensures.was_valid sound
          (asked_in_vain m c.open.result old (d.state c.open.new.dev) (c.in_err-journal.was ∙ ap Err same) (c.open.ensures.asked old ([], refl, refl))),
      λ id e.
          let h = rw e at c.from_residual.ensures.1 in
          let same : ◌≡◌ {A = RecoverFault} c.in_err-journal.field-0.0 (DeviceFailed id) = sym h in
          c.open.ensures.no_failure id (c.in_err-journal.was ∙ ap Err same),
    )

-- ---- an empty log

pub returns-then-journal-eq0-clause-flushed : goal.returns-then-journal-eq0-clause-flushed
returns-then-journal-eq0-clause-flushed g c s read some =
    let d = g.D.OrderedDev in
    absurd (not_empty c.args.base (d.seen (d.state c.args.dev.now)).surface s c.in_ok-journal.journal.fields read c.in_ok-journal.ensures.journal.read some c.if-journal-eq0.true)

pub returns-then-journal-eq0-clause-emptied : goal.returns-then-journal-eq0-clause-emptied
returns-then-journal-eq0-clause-emptied g c ended =
    let d = g.D.OrderedDev in
    no_log c.args.base (d.seen (d.state c.args.dev.now)).surface (d.seen (d.state c.open.new.dev)).surface c.in_ok-journal.journal.fields c.in_ok-journal.ensures.journal.read c.if-journal-eq0.true
    (ap (λ (x : Seen). x.surface) c.in_ok-journal.ensures.unchanged.reads.0)

pub returns-then-journal-eq0-clause-no_failure : goal.returns-then-journal-eq0-clause-no_failure
returns-then-journal-eq0-clause-no_failure g c none =
    let d = g.D.OrderedDev in
    let laws = g.met.D.OrderedDev in
    let mid = d.state c.open.new.dev in
    let o = c.in_ok-journal.ensures in
    let v = o.valid in
    fresh_fine (d.seen mid) (ap (λ (x : Seen). x.took) o.unchanged.reads.0 ∙ c.requires.fresh) (laws.on mid v (o.on c.requires.on)) (laws.completion mid v) (laws.failure mid v) (laws.power_cut mid v).0

pub returns-then-journal-eq0-clause-all_read : goal.returns-then-journal-eq0-clause-all_read
returns-then-journal-eq0-clause-all_read g c s read none = c.in_ok-journal.ensures.asked (g.D.OrderedDev.state c.args.dev.now) ([], refl, refl)

-- ---- a log that is replayed

pub returns-clause-flushed : goal.returns-clause-flushed
returns-clause-flushed g c =
    let d = g.D.OrderedDev in
    flushed_read c.args.base (d.seen (d.state c.args.dev.now)).surface (d.seen (d.state c.open.new.dev)).surface (d.seen (d.state c.replay.new.dev)) c.replay.result (ap (λ (x : Seen). x.surface) c.in_ok-journal.ensures.unchanged.reads.0) c.replay.ensures.flushed

pub returns-clause-failure : goal.returns-clause-failure
returns-clause-failure g c id e =
    let d = g.D.OrderedDev in
    fails_before (d.seen (d.state c.args.dev.now)) (d.seen (d.state c.open.new.dev)) (d.seen (d.state c.replay.new.dev)) id c.in_ok-journal.ensures.unchanged.reads.0 (c.replay.ensures.failure id e)

pub returns-clause-no_failure : goal.returns-clause-no_failure
returns-clause-no_failure g c none =
    let d = g.D.OrderedDev in
    let laws = g.met.D.OrderedDev in
    let mid = d.state c.open.new.dev in
    let o = c.in_ok-journal.ensures in
    let v = o.valid in
    others_fine (λ (s : d.State). (d.seen s).failed) c.replay.result mid (d.state c.replay.new.dev)
    (fresh_fine (d.seen mid) (ap (λ (x : Seen). x.took) o.unchanged.reads.0 ∙ c.requires.fresh) (laws.on mid v (o.on c.requires.on)) (laws.completion mid v) (laws.failure mid v) (laws.power_cut mid v).0)
    c.replay.ensures.no_failure c.replay.ensures.refused none

pub returns-clause-read_failed : goal.returns-clause-read_failed
returns-clause-read_failed g c e =
    let same = (c.replay.ensures.refused ReadFault e (λ id h. let no : ◌≡◌ {A = RecoverFault} ReadFault (DeviceFailed id) = h in cc)).0 in
    absurd (cc)

pub returns-clause-all_read : goal.returns-clause-all_read
returns-clause-all_read g c =
    let d = g.D.OrderedDev in
    ok_not_empty _ c.args.base (d.seen (d.state c.args.dev.now)).surface c.in_ok-journal.journal.fields c.replay.result c.in_ok-journal.ensures.journal.read c.if-journal-eq0.false

pub returns-clause-refused_read : goal.returns-clause-refused_read
returns-clause-refused_read g c fault e other failed =
    let d = g.D.OrderedDev in
    let m : Machine d.State = machine_of d in
    let old = d.state c.args.dev.now in
    subst (λ (s : d.State). WereRead m old s) (sym (c.replay.ensures.refused fault e failed).1) (c.in_ok-journal.ensures.asked old ([], refl, refl))

pub returns-clause-works : goal.returns-clause-works
returns-clause-works g c sound =
    let d = g.D.OrderedDev in
    let laws = g.met.D.OrderedDev in
    let new = d.state c.replay.new.dev in (
      λ e.
          let same = (c.replay.ensures.refused ReadFault e (λ id h. let no : ◌≡◌ {A = RecoverFault} ReadFault (DeviceFailed id) = h in cc)).0 in
          cc,
      λ id e.
          let fine = (laws.works new c.replay.ensures.valid (c.replay.ensures.sound (c.in_ok-journal.ensures.sound sound).0).0).0 in
          false≢true (sym fine ∙ (c.replay.ensures.failure id e).failed),
    )
