use Rattle.std.proofs.Common.{arith}
use Rattle.session_core.specs.opening.Opened.{no_pages}
use Rattle.session_core.specs.Core.{geometry_of, opened_host}
use Rattle.session_core.proofs.Made.{script_writes_bytes, made_for, sound_of, is_new}
use Rattle.session_core.proofs.running.check_parts.Goals as goal

pub returns : goal.returns
returns g c =
    let s = c.args.script.now in
    let is = c.requires.script in
    let limit = is.header.limit in
    let sizes = geometry_of s in
    let sched = g.S.Scheduler.state c.args.sched.now in
    let dev = g.D.OrderedDev.state c.args.dev.now in
    let sound = sound_of c.make.result s.inodes s.zones s.width c.make.ensures.sound c.make.ensures.made c.make.ensures.too_small is.sizes.some_data in
    let bytes = script_writes_bytes s is c.calls_of_scripts_write_bytes.ensures in
    made_for _ _ s (opened_host s) c.args.host.now sched dev c.requires.host
    (c.sessions_on_made_images_can_be_run.ensures sizes s.journal s.wide s.header.limit s.header.queue (no_pages sizes) s.programs sched dev sound is.sizes.least_journal is.sizes.most_journal (omega (arith, limit)) bytes
    c.can_accept.ensures.valid c.blocks-2.ensures.valid (is_new s _ _ c.requires.scheduler c.requires.device))
