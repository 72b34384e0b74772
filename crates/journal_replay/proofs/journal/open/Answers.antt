use Rattle.std.proofs.Common.{◌≡◌, ◌∙◌, ℕ, List, None, Some, Ok, Err, length, ap, sym, arith}
use Rattle.order_model.specs.Device.{Seen}
use Rattle.journal_blocks.specs.declared.fault.JournalFault.{JournalFault}
use Rattle.journal_replay.specs.declared.fault.RecoverFault.{RecoverFault}
use Rattle.journal_replay.specs.declared.fault.RecoverFault.TheVariants.{BadJournal}
use Rattle.journal_blocks.specs.Super.{super_of}
use Rattle.journal_blocks.specs.Log.{body_at}
use Rattle.journal_blocks.specs.declared.fault.JournalFault.TheVariants.{BadCount}
use Rattle.journal_replay.specs.Recovered.{transactions_of, fault_of}
use Rattle.journal_replay.specs.laws.Recoveries.{fault-super, fault-long, fault-log}
use Rattle.journal_replay.proofs.Faults.{same_bad}
use Rattle.order_model.specs.Machine.{Machine, machine_of}
use Rattle.journal_replay.specs.laws.Reads.{asked_failed}
use Rattle.journal_replay.proofs.journal.open.Goals as goal

pub returns-in-Err-clause-bad : goal.returns-in-Err-clause-bad
returns-in-Err-clause-bad g c fault block e =
    let d = g.D.OrderedDev in
    let image = (d.seen (d.state c.args.dev.now)).surface in
    let read : super_of (body_at image c.args.base) ≡ Err c.in-Err.fault = ap super_of c.in-Ok.ensures.body ∙ (sym c.read_super.ensures.value ∙ c.in-Err.is) in
    fault-super c.args.base image c.in-Err.fault read ∙ same_bad c.in-Err.fault fault c.args.base block e

pub returns-then-blocks-base-clause-bad : goal.returns-then-blocks-base-clause-bad
returns-then-blocks-base-clause-bad g c fault block e =
    let d = g.D.OrderedDev in
    let image = (d.seen (d.state c.args.dev.now)).surface in
    let s = c.in-Ok-read_super.fields in
    let read : super_of (body_at image c.args.base) ≡ Ok s = ap super_of c.in-Ok.ensures.body ∙ (sym c.read_super.ensures.value ∙ c.in-Ok-read_super.is) in
    let count = c.blocks-blocks.ensures.count in
    let long = c.if-blocks-base.true in
    fault-long c.args.base image s read (omega (arith, count, long)) ∙ same_bad BadCount fault c.args.base block e

pub returns-in_err-log-clause-bad : goal.returns-in_err-log-clause-bad
returns-in_err-log-clause-bad g c fault block e =
    let d = g.D.OrderedDev in
    let base = c.args.base in
    let image = (d.seen (d.state c.args.dev.now)).surface in
    let s = c.in-Ok-read_super.fields in
    let read : super_of (body_at image base) ≡ Ok s = ap super_of c.in-Ok.ensures.body ∙ (sym c.read_super.ensures.value ∙ c.in-Ok-read_super.is) in
    let image_same = ap (λ (x : Seen). x.surface) c.in-Ok.ensures.read.reads.0 in
    let count = c.blocks-blocks.ensures.count in
    let short = c.if-blocks-base.false in
    let h = rw e at c.from_residual.ensures.1 in
    let same : ◌≡◌ {A = RecoverFault} c.in_err-log.field-0.0 (BadJournal fault block) = sym h in
    let bad = c.scan.ensures.bad fault block (c.in_err-log.was ∙ ap Err same) in
    fault-log base image s (Some block) read (omega (arith, count, short)) (ap (fault_of base s) (sym image_same) ∙ bad.1)
    ∙ ap (λ (f : JournalFault). let p : JournalFault × ℕ = (f, block) in Some p) (sym bad.0)

pub returns-clause-journal : goal.returns-clause-journal
returns-clause-journal g c =
    let d = g.D.OrderedDev in
    let base = c.args.base in
    let image = (d.seen (d.state c.args.dev.now)).surface in
    let s = c.in-Ok-read_super.fields in
    let read : super_of (body_at image base) ≡ Ok s = ap super_of c.in-Ok.ensures.body ∙ (sym c.read_super.ensures.value ∙ c.in-Ok-read_super.is) in
    let same = ap (λ (x : Seen). x.surface) c.in-Ok.ensures.read.reads.0 in
    let count = c.blocks-blocks.ensures.count in
    let short = c.if-blocks-base.false in
    let fine = c.in_ok-log.ensures.fine in
    record {
      superblock = c.in-Ok.ensures.body;
      size = ap (λ (b : List ℕ). length b) c.in-Ok.ensures.body ∙ c.read_super.ensures.size;
      read = read;
      sound = c.in-Ok-read_super.ensures.sound;
      log = c.in_ok-log.ensures.log ∙ ap (transactions_of base s) same;
      fine = fault-log base image s None read (omega (arith, count, short)) (ap (fault_of base s) (sym same) ∙ fine);
    }

pub returns-in_default-clause-asked : goal.returns-in_default-clause-asked
returns-in_default-clause-asked g c first before =
    let d = g.D.OrderedDev in
    let m : Machine d.State = machine_of d in
    asked_failed m c.read_place.result first (d.state c.read_place.new.dev) (c.in_default.is ∙ ap Err c.in_default.ensures.read_fault) (c.read_place.ensures.asked first before)
