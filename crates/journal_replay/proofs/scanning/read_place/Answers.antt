use Rattle.std.proofs.Common.{◌≡◌, is_ok, sym, ap, subst}
use Rattle.order_model.specs.Machine.{machine_of}
use Rattle.journal_replay.specs.Driving.{WereRead, FailsToRead}
use Rattle.journal_replay.specs.code.Scans.{HasRead}
use Rattle.journal_replay.specs.laws.Reads.{read_more_of, read_failed, could_read, could_not_read}
use Rattle.journal_replay.specs.laws.Scans.{has_read}
use Rattle.journal_replay.proofs.scanning.read_place.Goals as goal

pub returns-in-Ok-clause-read : goal.returns-in-Ok-clause-read
returns-in-Ok-clause-read g c =
    let d = g.D.OrderedDev in
    let s = d.state c.args.dev.now in
    let law = (g.met.D.OrderedDev.reads s c.args.block c.requires.valid).1 in
    subst (λ (x : d.State). HasRead (d.seen s) (d.seen x)) (sym c.read.ensures.state) (has_read (d.seen s) (d.seen (d.after_read s c.args.block)) law c.requires.quiet)

pub returns-in-Err-clause-read : goal.returns-in-Err-clause-read
returns-in-Err-clause-read g c =
    let d = g.D.OrderedDev in
    let s = d.state c.args.dev.now in
    let law = (g.met.D.OrderedDev.reads s c.args.block c.requires.valid).1 in
    subst (λ (x : d.State). HasRead (d.seen s) (d.seen x)) (sym c.read.ensures.state) (has_read (d.seen s) (d.seen (d.after_read s c.args.block)) law c.requires.quiet)

pub returns-in-Ok-clause-on : goal.returns-in-Ok-clause-on
returns-in-Ok-clause-on g c on =
    let d = g.D.OrderedDev in
    let s = d.state c.args.dev.now in
    subst d.stays_on (sym c.read.ensures.state) (g.met.D.OrderedDev.stays s c.args.block on).3

pub returns-in-Err-clause-on : goal.returns-in-Err-clause-on
returns-in-Err-clause-on g c on =
    let d = g.D.OrderedDev in
    let s = d.state c.args.dev.now in
    subst d.stays_on (sym c.read.ensures.state) (g.met.D.OrderedDev.stays s c.args.block on).3

pub returns-in-Ok-clause-sound : goal.returns-in-Ok-clause-sound
returns-in-Ok-clause-sound g c sound =
    let d = g.D.OrderedDev in
    let laws = g.met.D.OrderedDev in
    let s = d.state c.args.dev.now in
    subst (λ (x : d.State). d.sound x × ((d.seen x).faults ≡ (d.seen s).faults)) (sym c.read.ensures.state) ((laws.stays_sound s c.args.block sound).3, (laws.no_fault s c.args.block c.requires.valid sound).1)

pub returns-in-Err-clause-sound : goal.returns-in-Err-clause-sound
returns-in-Err-clause-sound g c sound =
    let d = g.D.OrderedDev in
    let laws = g.met.D.OrderedDev in
    let s = d.state c.args.dev.now in
    subst (λ (x : d.State). d.sound x × ((d.seen x).faults ≡ (d.seen s).faults)) (sym c.read.ensures.state) ((laws.stays_sound s c.args.block sound).3, (laws.no_fault s c.args.block c.requires.valid sound).1)

pub returns-in-Ok-clause-asked : goal.returns-in-Ok-clause-asked
returns-in-Ok-clause-asked g c first before =
    let d = g.D.OrderedDev in
    let s = d.state c.args.dev.now in
    let fine = could_read (is_ok c.read.result) (d.read_fails s) c.read.ensures.when (ap is_ok c.in-Ok.is) in
    subst (λ (x : d.State). WereRead (machine_of d) first x) (sym c.read.ensures.state) (read_more_of (machine_of d) first s c.args.block before fine)

pub returns-in-Err-clause-asked : goal.returns-in-Err-clause-asked
returns-in-Err-clause-asked g c first before =
    let d = g.D.OrderedDev in
    let s = d.state c.args.dev.now in
    let fails = could_not_read (is_ok c.read.result) (d.read_fails s) c.read.ensures.when (ap is_ok c.in-Err.is) in
    subst (λ (x : d.State). FailsToRead (machine_of d) first x) (sym c.read.ensures.state) (read_failed (machine_of d) first s c.args.block before fails)
