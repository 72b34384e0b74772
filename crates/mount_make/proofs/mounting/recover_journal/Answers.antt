use Rattle.std.proofs.Common.{◌≡◌, ℕ, ◌<◌, true, List, Some, Ok, Err, length, sym, ap, ◌∙◌, subst, arith, refl}
use Rattle.journal_blocks.specs.Super.{super_of, is_journal}
use Rattle.journal_replay.specs.laws.Drives.{later_rose}
use Rattle.journal_replay.specs.laws.Failures.{fails_before}
use Rattle.journal_replay.specs.laws.Recoveries.{fault-super}
use Rattle.volume_ops.specs.Volume.{disk_of}
use Rattle.mount_make.specs.declared.fault.ImageFault.{ImageFault}
use Rattle.mount_make.specs.declared.fault.MountFault.{MountFault}
use Rattle.mount_make.specs.declared.fault.MountFault.TheVariants.{DeviceFailed}
use Rattle.mount_make.specs.Images.{FaultPlace, journal_at}
use Rattle.mount_make.specs.code.Mounting.{KeepsImage}
use Rattle.mount_make.specs.laws.Recovering.{keeps_attempt, keeps_failed, failed_is, ok_fine, err_fine, found_fault, journal_after}
use Rattle.mount_make.proofs.mounting.recover_journal.Goals as goal

pub returns-in-Err-clause-told : goal.returns-in-Err-clause-told
returns-in-Err-clause-told g c =
    let d = g.D.OrderedDev in
    let base = c.args.base in
    let old = (d.seen (d.state c.args.dev.now)).surface in
    let read = c.in_ok-first.ensures.read in
    let count = c.blocks-2.ensures.count in
    let more = c.if-blocks-base.false in
    let within : base < length old = omega (arith, count, more) in
    let found : is_journal (disk_of old base) ≡ true = ap is_journal c.in_ok-first.ensures.body ∙ (sym c.is_journal.ensures ∙ c.if-not-is_journal.false) in
    let is : super_of (disk_of old base) ≡ Err c.in-Err.fault = ap super_of c.in_ok-first.ensures.body ∙ (sym c.read_super.ensures.value ∙ c.in-Err.is) in
    found_fault base old c.in-Err.fault base within found (fault-super base old c.in-Err.fault is) ∙ ap (λ (kind : ImageFault). let told : FaultPlace = (kind, base) in Some told) (sym c.journal_kind.ensures)

pub returns-in-Ok-recover-clause-log : goal.returns-in-Ok-recover-clause-log
returns-in-Ok-recover-clause-log g c =
    let d = g.D.OrderedDev in
    let base = c.args.base in
    let old = (d.seen (d.state c.args.dev.now)).surface in
    let read = c.in_ok-first.ensures.read in
    let count = c.blocks-2.ensures.count in
    let more = c.if-blocks-base.false in
    let within : base < length old = omega (arith, count, more) in
    let mid = (d.seen (d.state c.read_block.new.dev)).surface in
    let there : base < length mid = subst (λ (i : List (List ℕ)). base < length i) (sym read.same) within in
    let body : disk_of mid base ≡ c.in_ok-first.first = ap (λ (i : List (List ℕ)). disk_of i base) read.same ∙ c.in_ok-first.ensures.body in
    let size : length (disk_of mid base) ≡ 1024 = ap (λ (b : List ℕ). length b) body ∙ c.read_super.ensures.size in
    let is : super_of (disk_of mid base) ≡ Ok c.in-Ok.log = ap super_of body ∙ (sym c.read_super.ensures.value ∙ c.in-Ok.is) in
    let whole = (c.in-Ok-recover.ensures.whole (c.in-Ok-recover.ensures.ended refl)).0 in
    sym (ap (journal_at base) whole ∙ journal_after base mid c.in-Ok.log c.in-Ok-recover.done.next there size is c.in-Ok-recover.ensures.next)

pub returns-in-Ok-recover-clause-attempt : goal.returns-in-Ok-recover-clause-attempt
returns-in-Ok-recover-clause-attempt g c =
    let d = g.D.OrderedDev in
    let base = c.args.base in
    let old = (d.seen (d.state c.args.dev.now)).surface in
    let read = c.in_ok-first.ensures.read in
    let count = c.blocks-2.ensures.count in
    let more = c.if-blocks-base.false in
    let within : base < length old = omega (arith, count, more) in
    let mid = (d.seen (d.state c.read_block.new.dev)).surface in
    let there : base < length mid = subst (λ (i : List (List ℕ)). base < length i) (sym read.same) within in
    let body : disk_of mid base ≡ c.in_ok-first.first = ap (λ (i : List (List ℕ)). disk_of i base) read.same ∙ c.in_ok-first.ensures.body in
    let size : length (disk_of mid base) ≡ 1024 = ap (λ (b : List ℕ). length b) body ∙ c.read_super.ensures.size in
    let is : super_of (disk_of mid base) ≡ Ok c.in-Ok.log = ap super_of body ∙ (sym c.read_super.ensures.value ∙ c.in-Ok.is) in
    subst (λ (i : List (List ℕ)). KeepsImage base i (d.seen (d.state c.recover.new.dev)).surface) read.same
    (keeps_attempt base mid (d.seen (d.state c.recover.new.dev)).surface c.in-Ok.log there size is c.in-Ok-recover.ensures.fine c.recover.ensures.attempt c.recover.ensures.between)

pub returns-in-Err-recover-clause-attempt : goal.returns-in-Err-recover-clause-attempt
returns-in-Err-recover-clause-attempt g c =
    let d = g.D.OrderedDev in
    let base = c.args.base in
    let old = (d.seen (d.state c.args.dev.now)).surface in
    let read = c.in_ok-first.ensures.read in
    let count = c.blocks-2.ensures.count in
    let more = c.if-blocks-base.false in
    let within : base < length old = omega (arith, count, more) in
    let mid = (d.seen (d.state c.read_block.new.dev)).surface in
    let there : base < length mid = subst (λ (i : List (List ℕ)). base < length i) (sym read.same) within in
    let body : disk_of mid base ≡ c.in_ok-first.first = ap (λ (i : List (List ℕ)). disk_of i base) read.same ∙ c.in_ok-first.ensures.body in
    let size : length (disk_of mid base) ≡ 1024 = ap (λ (b : List ℕ). length b) body ∙ c.read_super.ensures.size in
    let is : super_of (disk_of mid base) ≡ Ok c.in-Ok.log = ap super_of body ∙ (sym c.read_super.ensures.value ∙ c.in-Ok.is) in
    subst (λ (i : List (List ℕ)). KeepsImage base i (d.seen (d.state c.recover.new.dev)).surface) read.same
    (keeps_failed base (d.seen (d.state c.read_block.new.dev)) (d.seen (d.state c.recover.new.dev)) c.in-Ok.log there size is c.recover.ensures.attempt c.recover.ensures.between c.in-Err-recover.fault
    (λ id e. c.recover.ensures.failed_fine id (c.in-Err-recover.is ∙ ap Err e))
    (λ other. c.recover.ensures.unwritten c.in-Err-recover.fault c.in-Err-recover.is other))

pub returns-in-Err-recover-clause-device_failed : goal.returns-in-Err-recover-clause-device_failed
returns-in-Err-recover-clause-device_failed g c id e =
    let d = g.D.OrderedDev in
    let same : ◌≡◌ {A = MountFault} c.recovery_fault.result (DeviceFailed id) = cc in
    let failed = c.recover.ensures.device_failed id (c.in-Err-recover.is ∙ ap Err (failed_is c.in-Err-recover.fault id (sym c.recovery_fault.ensures ∙ same))) in
    (later_rose (d.seen (d.state c.args.dev.now)).faults (d.seen (d.state c.read_block.new.dev)).faults (d.seen (d.state c.recover.new.dev)).faults failed.0 c.in_ok-first.ensures.read.reads.1 c.recover.ensures.counts, failed.1)

pub returns-in-Err-recover-clause-failure : goal.returns-in-Err-recover-clause-failure
returns-in-Err-recover-clause-failure g c id e =
    let d = g.D.OrderedDev in
    let same : ◌≡◌ {A = MountFault} c.recovery_fault.result (DeviceFailed id) = cc in
    fails_before (d.seen (d.state c.args.dev.now)) (d.seen (d.state c.read_block.new.dev)) (d.seen (d.state c.recover.new.dev)) id c.in_ok-first.ensures.read.reads.0
    (c.recover.ensures.failure id (c.in-Err-recover.is ∙ ap Err (failed_is c.in-Err-recover.fault id (sym c.recovery_fault.ensures ∙ same))))

pub returns-in-Ok-recover-clause-no_failure : goal.returns-in-Ok-recover-clause-no_failure
returns-in-Ok-recover-clause-no_failure g c none before = c.recover.ensures.no_failure (ok_fine c.recover.result c.in-Ok-recover.done c.in-Ok-recover.is)

pub returns-in-Err-recover-clause-no_failure : goal.returns-in-Err-recover-clause-no_failure
returns-in-Err-recover-clause-no_failure g c none before = c.recover.ensures.no_failure (err_fine c.recover.result c.in-Err-recover.fault c.recovery_fault.result c.in-Err-recover.is c.recovery_fault.ensures none)
