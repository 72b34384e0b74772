use Rattle.std.proofs.Common.{ap, refl, arith}
use Rattle.minix_layout.specs.declared.division.Geometry.{Geometry}
use Rattle.host_core.proofs.Opened.{made_done, made_is_host}
use Rattle.host_core.proofs.host.Host.make.Goals as goal

pub returns-in-Ok : goal.returns-in-Ok
returns-in-Ok c =
    let ts = c.into_threads-threads in
    let zones = ap (λ (g : Geometry). g.zones) c.geometry.ensures in
    made_done c.in-Ok.journal c.args.volume c.args.volume c.args.pages c.args.pages c.in-Ok.owners.items c.new.result.items c.new-in-Ok.result.items ts.result.items c.args.ring c.args.programs
    c.geometry.result.now.zones c.geometry.result.now.zones c.len.result
    c.in-Ok.ensures.journal refl refl c.requires.pages c.in-Ok.ensures.owners c.new.ensures.items c.new-in-Ok.ensures.items ts.ensures.programs ts.ensures.fresh
    zones zones (omega (arith, c.len.ensures, ts.result.ok.0))

pub invariant_of-result : goal.invariant_of-result
invariant_of-result c =
    let ts = c.into_threads-threads in
    let zones = ap (λ (g : Geometry). g.zones) c.geometry.ensures in
    made_is_host c.in-Ok.journal c.args.volume c.args.volume c.in-Ok.known ts.result.items c.new.result.items c.args.ring c.args.programs c.geometry.result.now.zones c.len.result
    c.in-Ok.ensures.journal refl zones (omega (arith, c.len.ensures, ts.result.ok.0)) ts.ensures.programs c.requires.threads ts.ensures.fresh c.new.ensures.items c.in-Ok.ensures.calls c.in-Ok.ensures.to_come
