use Rattle.std.specs.Prelude.{Result, Ok}
use Rattle.std.specs.Result.{IsErrAnd}
use Rattle.std.proofs.Common.{◌≡◌, ℕ, List, Err, sym, ap, ◌∙◌, subst}
use Rattle.order_model.specs.Device.{Seen}
use Rattle.journal_replay.specs.laws.Failures.{fresh_fine, fails_before}
use Rattle.mount_make.specs.declared.fault.MountFault.{MountFault}
use Rattle.mount_make.specs.declared.fault.MountFault.TheVariants.{DeviceFailed}
use Rattle.volume_ops.specs.laws.DeviceReads.{quiet_after, same_surface}
use Rattle.mount_make.specs.Images.{recovered_image}
use Rattle.mount_make.specs.code.Mounting.{KeepsImage}
use Rattle.mount_make.specs.laws.Recovering.{recovers_same}
use Rattle.mount_make.proofs.mounting.mount.Goals as goal

pub returns-in_err-log-clause-attempt : goal.returns-in_err-log-clause-attempt
returns-in_err-log-clause-attempt g c =
    let d = g.D.OrderedDev in
    let first = (d.seen (d.state c.args.dev.now)).surface in
    let read = c.in_ok-g.ensures.read.same in
    let volume = c.in_ok-g.g in
    let after = (d.seen (d.state c.recover_journal.new.dev)).surface in
    let kept : KeepsImage volume.zones first after =
    subst (λ (n : ℕ). KeepsImage n first after) c.from-zones.ensures (subst (λ (i : List (List ℕ)). KeepsImage c.from-zones.result i after) read c.recover_journal.ensures.attempt) in
    recovers_same first after volume c.in_ok-g.ensures.ok c.in_ok-g.ensures.sound kept

pub returns-in_default-clause-attempt : goal.returns-in_default-clause-attempt
returns-in_default-clause-attempt g c =
    let d = g.D.OrderedDev in
    let first = (d.seen (d.state c.args.dev.now)).surface in
    let read = c.in_ok-g.ensures.read.same in
    let volume = c.in_ok-g.g in
    let after = (d.seen (d.state c.recover_journal.new.dev)).surface in
    let kept : KeepsImage volume.zones first after =
    subst (λ (n : ℕ). KeepsImage n first after) c.from-zones.ensures (subst (λ (i : List (List ℕ)). KeepsImage c.from-zones.result i after) read c.recover_journal.ensures.attempt) in
    recovers_same first after volume c.in_ok-g.ensures.ok c.in_ok-g.ensures.sound kept

pub returns-in-Ok-read_all-clause-attempt : goal.returns-in-Ok-read_all-clause-attempt
returns-in-Ok-read_all-clause-attempt g c =
    let d = g.D.OrderedDev in
    let first = (d.seen (d.state c.args.dev.now)).surface in
    let read = c.in_ok-g.ensures.read.same in
    let volume = c.in_ok-g.g in
    let after = (d.seen (d.state c.recover_journal.new.dev)).surface in
    let kept : KeepsImage volume.zones first after =
    subst (λ (n : ℕ). KeepsImage n first after) c.from-zones.ensures (subst (λ (i : List (List ℕ)). KeepsImage c.from-zones.result i after) read c.recover_journal.ensures.attempt) in
    ap recovered_image (same_surface (d.seen (d.state c.recover_journal.new.dev)) (d.seen (d.state c.read_all.new.dev)) c.read_all.ensures.reads)
    ∙ recovers_same first after volume c.in_ok-g.ensures.ok c.in_ok-g.ensures.sound kept

pub returns-in-Err-clause-attempt : goal.returns-in-Err-clause-attempt
returns-in-Err-clause-attempt g c =
    let d = g.D.OrderedDev in
    let first = (d.seen (d.state c.args.dev.now)).surface in
    let read = c.in_ok-g.ensures.read.same in
    let volume = c.in_ok-g.g in
    let after = (d.seen (d.state c.recover_journal.new.dev)).surface in
    let kept : KeepsImage volume.zones first after =
    subst (λ (n : ℕ). KeepsImage n first after) c.from-zones.ensures (subst (λ (i : List (List ℕ)). KeepsImage c.from-zones.result i after) read c.recover_journal.ensures.attempt) in
    ap recovered_image (same_surface (d.seen (d.state c.recover_journal.new.dev)) (d.seen (d.state c.read_all.new.dev)) c.read_all.ensures.reads)
    ∙ recovers_same first after volume c.in_ok-g.ensures.ok c.in_ok-g.ensures.sound kept

pub returns-in-Ok-read_all-clause-quiet : goal.returns-in-Ok-read_all-clause-quiet
returns-in-Ok-read_all-clause-quiet g c =
    let d = g.D.OrderedDev in
    quiet_after (d.seen (d.state c.recover_journal.new.dev)) (d.seen (d.state c.read_all.new.dev)) c.read_all.ensures.reads c.in_ok-log.ensures.quiet

-- ---- a device that failed, and one that did not

-- a fault that is handed on
err_of : {A E : Type 0} (r : Result A E) (fault : E) → IsErrAnd r (λ x. x ≡ fault) → r ≡ Err fault
err_of (Ok x) fault h = absurd h
err_of (Err e) fault h = ap Err h

same_err : {A E : Type 0} (x y : E) → ◌≡◌ {A = Result A E} (Err x) (Err y) → x ≡ y
same_err x y e = cc

pub returns-in_err-g-clause-no_failure : goal.returns-in_err-g-clause-no_failure
returns-in_err-g-clause-no_failure g c none =
    let d = g.D.OrderedDev in
    let laws = g.met.D.OrderedDev in
    let old = d.state c.args.dev.now in
    let v = c.read_geometry.ensures.was_valid in
    ap (λ (x : Seen). x.failed) c.read_geometry.ensures.read.reads.0 ∙ fresh_fine (d.seen old) c.requires.fresh (laws.on old v c.requires.on) (laws.completion old v) (laws.failure old v) (laws.power_cut old v).0

pub returns-in_err-log-clause-failure : goal.returns-in_err-log-clause-failure
returns-in_err-log-clause-failure g c id e =
    let d = g.D.OrderedDev in
    let h = rw e at c.from_residual-in_err-log.ensures.1 in
    let same : ◌≡◌ {A = MountFault} c.in_err-log.field-0.0 (DeviceFailed id) = sym h in
    fails_before (d.seen (d.state c.args.dev.now)) (d.seen (d.state c.read_geometry.new.dev)) (d.seen (d.state c.recover_journal.new.dev)) id c.in_ok-g.ensures.read.reads.0
    (c.recover_journal.ensures.failure id (c.in_err-log.was ∙ ap Err same))

pub returns-in_err-log-clause-no_failure : goal.returns-in_err-log-clause-no_failure
returns-in_err-log-clause-no_failure g c none =
    let d = g.D.OrderedDev in
    let laws = g.met.D.OrderedDev in
    let old = d.state c.args.dev.now in
    let v = c.read_geometry.ensures.was_valid in
    let before = ap (λ (x : Seen). x.failed) c.read_geometry.ensures.read.reads.0 ∙ fresh_fine (d.seen old) c.requires.fresh (laws.on old v c.requires.on) (laws.completion old v) (laws.failure old v) (laws.power_cut old v).0 in
    let is = err_of c.from_residual-in_err-log.result c.in_err-log.field-0.0 c.from_residual-in_err-log.ensures.1 in
    c.in_err-log.ensures.no_failure (λ id e. none id (is ∙ ap Err (same_err c.in_err-log.field-0.0 (DeviceFailed id) e))) before

pub returns-in_default-clause-no_failure : goal.returns-in_default-clause-no_failure
returns-in_default-clause-no_failure g c none =
    let d = g.D.OrderedDev in
    let laws = g.met.D.OrderedDev in
    let old = d.state c.args.dev.now in
    let v = c.read_geometry.ensures.was_valid in
    let before = ap (λ (x : Seen). x.failed) c.read_geometry.ensures.read.reads.0 ∙ fresh_fine (d.seen old) c.requires.fresh (laws.on old v c.requires.on) (laws.completion old v) (laws.failure old v) (laws.power_cut old v).0 in
    c.in_ok-log.ensures.no_failure (λ id e. absurd (cc)) before

pub returns-in-Ok-read_all-clause-no_failure : goal.returns-in-Ok-read_all-clause-no_failure
returns-in-Ok-read_all-clause-no_failure g c none =
    let d = g.D.OrderedDev in
    let laws = g.met.D.OrderedDev in
    let old = d.state c.args.dev.now in
    let v = c.read_geometry.ensures.was_valid in
    let before = ap (λ (x : Seen). x.failed) c.read_geometry.ensures.read.reads.0 ∙ fresh_fine (d.seen old) c.requires.fresh (laws.on old v c.requires.on) (laws.completion old v) (laws.failure old v) (laws.power_cut old v).0 in
    ap (λ (x : Seen). x.failed) c.read_all.ensures.reads.0 ∙ c.in_ok-log.ensures.no_failure (λ id e. absurd (cc)) before

pub returns-in-Err-clause-no_failure : goal.returns-in-Err-clause-no_failure
returns-in-Err-clause-no_failure g c none =
    let d = g.D.OrderedDev in
    let laws = g.met.D.OrderedDev in
    let old = d.state c.args.dev.now in
    let v = c.read_geometry.ensures.was_valid in
    let before = ap (λ (x : Seen). x.failed) c.read_geometry.ensures.read.reads.0 ∙ fresh_fine (d.seen old) c.requires.fresh (laws.on old v c.requires.on) (laws.completion old v) (laws.failure old v) (laws.power_cut old v).0 in
    ap (λ (x : Seen). x.failed) c.read_all.ensures.reads.0 ∙ c.in_ok-log.ensures.no_failure (λ id e. absurd (cc)) before
