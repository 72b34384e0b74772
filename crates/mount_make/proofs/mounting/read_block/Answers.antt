use Rattle.std.proofs.Common.{◌≡◌, sym, subst}
use Rattle.mount_make.specs.code.Mounting.{HasRead, has_read}
use Rattle.mount_make.proofs.mounting.read_block.Goals as goal

pub returns-in-Ok-clause-read : goal.returns-in-Ok-clause-read
returns-in-Ok-clause-read g c =
    let t = g.D.OrderedDev in
    let s = t.state c.args.dev.now in
    let law = (g.met.D.OrderedDev.reads s c.args.block c.requires.valid).1 in
    let read = has_read (t.seen s) (t.seen (t.after_read s c.args.block)) law c.requires.quiet in
    subst (λ x. HasRead (t.seen s) (t.seen x)) (sym c.read.ensures.state) read

pub returns-in-Ok-clause-sound : goal.returns-in-Ok-clause-sound
returns-in-Ok-clause-sound g c sound =
    let t = g.D.OrderedDev in
    let s = t.state c.args.dev.now in
    let after = t.after_read s c.args.block in
    let stays = (g.met.D.OrderedDev.stays_sound s c.args.block sound).3 in
    let same = (g.met.D.OrderedDev.no_fault s c.args.block c.requires.valid sound).1 in
    subst (λ x. t.sound x × ((t.seen x).faults ≡ (t.seen s).faults)) (sym c.read.ensures.state) (stays, same)

pub returns-in-Err-clause-read : goal.returns-in-Err-clause-read
returns-in-Err-clause-read g c =
    let t = g.D.OrderedDev in
    let s = t.state c.args.dev.now in
    let law = (g.met.D.OrderedDev.reads s c.args.block c.requires.valid).1 in
    let read = has_read (t.seen s) (t.seen (t.after_read s c.args.block)) law c.requires.quiet in
    subst (λ x. HasRead (t.seen s) (t.seen x)) (sym c.read.ensures.state) read

pub returns-in-Err-clause-sound : goal.returns-in-Err-clause-sound
returns-in-Err-clause-sound g c sound =
    let t = g.D.OrderedDev in
    let s = t.state c.args.dev.now in
    let after = t.after_read s c.args.block in
    let stays = (g.met.D.OrderedDev.stays_sound s c.args.block sound).3 in
    let same = (g.met.D.OrderedDev.no_fault s c.args.block c.requires.valid sound).1 in
    subst (λ x. t.sound x × ((t.seen x).faults ≡ (t.seen s).faults)) (sym c.read.ensures.state) (stays, same)

pub returns-in-Ok-clause-on : goal.returns-in-Ok-clause-on
returns-in-Ok-clause-on g c on =
    let t = g.D.OrderedDev in
    let s = t.state c.args.dev.now in
    subst t.stays_on (sym c.read.ensures.state) (g.met.D.OrderedDev.stays s c.args.block on).3

pub returns-in-Err-clause-on : goal.returns-in-Err-clause-on
returns-in-Err-clause-on g c on =
    let t = g.D.OrderedDev in
    let s = t.state c.args.dev.now in
    subst t.stays_on (sym c.read.ensures.state) (g.met.D.OrderedDev.stays s c.args.block on).3
