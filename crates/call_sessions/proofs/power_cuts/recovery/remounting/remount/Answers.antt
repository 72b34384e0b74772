use Rattle.std.proofs.Common.{◌+◌, ℕ, length, sym, ap, ◌∙◌}
use Rattle.journal_replay.specs.Recovered.{transactions_of}
use Rattle.mount_make.specs.Images.{journal_at, recovered_image}
use Rattle.call_sessions.proofs.PowerCutsLemmas.RecoveryLemmas.Mounted.{mountable, zones_are, mounted_still, mounted_again, log_after, reached_by, counted_as, volume_is}
use Rattle.call_sessions.proofs.power_cuts.recovery.remounting.remount.Goals as goal

pub mount_image-requires : goal.mount_image-requires
mount_image-requires g c =
    let v = c.requires.mounts in
    let zones = zones_are c.args.image v.0.geometry c.args.base (mountable c.args.image v.0 v.1).is_divided c.requires.base in
    record { mounts = (v.0, (mounted_still c.args.base c.args.image c.in_ok-attempts.left v.0 v.1 zones c.requires.journal c.in_ok-attempts.ensures.left).mounts) }

pub returns-clause-volume : goal.returns-clause-volume
returns-clause-volume g c =
    let v = c.requires.mounts in
    let zones = zones_are c.args.image v.0.geometry c.args.base (mountable c.args.image v.0 v.1).is_divided c.requires.base in
    v.1 ∙ (sym (mounted_still c.args.base c.args.image c.in_ok-attempts.left v.0 v.1 zones c.requires.journal c.in_ok-attempts.ensures.left).mounts ∙ c.in_ok-mounted.ensures.volume)

pub returns-clause-recovered : goal.returns-clause-recovered
returns-clause-recovered g c =
    let v = c.requires.mounts in
    let zones = zones_are c.args.image v.0.geometry c.args.base (mountable c.args.image v.0 v.1).is_divided c.requires.base in
    (mounted_again c.args.base c.args.image c.in_ok-attempts.left c.in_ok-mounted.image v.0 v.1 zones c.requires.journal c.in_ok-attempts.ensures.left c.journal_of-journal.ensures.size c.in_ok-mounted.ensures.recovered).recovered_is

pub returns-clause-again : goal.returns-clause-again
returns-clause-again g c =
    let v = c.requires.mounts in
    let zones = zones_are c.args.image v.0.geometry c.args.base (mountable c.args.image v.0 v.1).is_divided c.requires.base in
    let again = mounted_again c.args.base c.args.image c.in_ok-attempts.left c.in_ok-mounted.image v.0 v.1 zones c.requires.journal c.in_ok-attempts.ensures.left c.journal_of-journal.ensures.size c.in_ok-mounted.ensures.recovered in
    let same = (mounted_still c.args.base c.args.image c.in_ok-attempts.left v.0 v.1 zones c.requires.journal c.in_ok-attempts.ensures.left).mounts in
    again.mounts ∙ (sym same ∙ c.in_ok-mounted.ensures.volume)

pub returns-clause-attempts : goal.returns-clause-attempts
returns-clause-attempts g c = record { left = c.in_ok-attempts.left; made = c.in_ok-attempts.ensures.attempts; mounts = c.in_ok-mounted.ensures.volume }

pub returns-clause-found : goal.returns-clause-found
returns-clause-found g c =
    let base = c.args.base in
    let image = c.args.image in
    let left = c.in_ok-attempts.left in
    let s = c.journal_of-journal.result in
    let read = c.journal_of-journal.ensures in
    let v = c.requires.mounts in
    let zones = zones_are image v.0.geometry base (mountable image v.0 v.1).is_divided c.requires.base in
    let same = volume_is left v.0 c.in_ok-mounted.mounted.volume (mounted_still base image left v.0 v.1 zones c.requires.journal c.in_ok-attempts.ensures.left).mounts c.in_ok-mounted.ensures.volume in
    counted_as base c.args.first_sequence image s c.found_before.result read.read c.found_before.ensures.none
    (λ some.
    c.found_before.ensures.some _ (s.sequence + length (transactions_of base s image)) some
    (c.in_ok-mounted.ensures.log ∙ (ap (λ (n : ℕ). journal_at n (recovered_image left)) (same ∙ zones)
    ∙ log_after base image left v.0 v.1 zones c.requires.journal c.in_ok-attempts.ensures.left s read.read read.size some))
    (reached_by base image s read.sound.fits.sequence some))
