use Rattle.std.proofs.Common.{subst, sym}
use Rattle.minix_tables.specs.zones.Zones.{Zones}
use Rattle.volume_steps.specs.Now.{VolumeNow}
use Rattle.volume_calls.specs.code.MarkedVolume.{IsMarkedVolume}
use Rattle.volume_steps.proofs.Release.{release_plain}
use Rattle.volume_calls.proofs.plain.PlainVolume.release.Goals as goal

pub invariant_of-self : goal.invariant_of-self
invariant_of-self c =
    let p = c.parts.inside in
    let v : VolumeNow = record { geometry = p.geometry; contents = record { blocks = p.blocks; nodes = p.nodes.entries }; zones = p.zones } in
    let marked : IsMarkedVolume v c.self.inside.inodes = rw c.parts.view_is c.self.invariant in
    subst (λ (z : Zones). IsMarkedVolume (record { geometry = p.geometry; contents = record { blocks = p.blocks; nodes = p.nodes.entries }; zones = z }) c.self.inside.inodes)
    (sym c.release.ensures) (record { plain = release_plain v c.args.tx marked.plain; inodes = marked.inodes })
