use Rattle.std.proofs.Common.{rules, ◌≡◌, subst, ◌∙◌}
use Rattle.volume_model.specs.Volume.{IsPart}
use Rattle.volume_steps.specs.Now.{tree_of_now}
use Rattle.volume_steps.specs.Plain.{IsPlainNow}
use Rattle.volume_steps.proofs.Files.{node_is_file}
use Rattle.volume_calls.specs.code.Kept.{keeps_mapped}
use Rattle.volume_calls.proofs.LastBirths.{file_keeps, found_keeps}
use Rattle.volume_calls.proofs.plain.PlainVolume.cuts_nothing.Goals as goal

pub returns : goal.returns
returns c =
    let v = c.args.self.now in
    let p = c.in-Ok.found.placed.now in
    let zones = c.in-File.zones in
    let plain : IsPlainNow v = subst IsPlainNow c.self.view_is c.self.invariant.plain in
    let part = subst (IsPart v.geometry v.contents.blocks p.inode) c.in-File.is (plain.in_use.volume.0.each c.in-Ok.found.birth p c.in-Ok.ensures.stands).part in
    let kept : c.keeps_mapped.result ≡ keeps_mapped c.args.size p.inode.size zones = search rules in
    kept
    ∙ file_keeps v.contents.blocks zones c.args.size p.inode.size p.inode.links
    ∙ found_keeps (tree_of_now v) c.args.path.now c.args.size (record { birth = c.in-Ok.found.birth; node = _ }) _ c.in-Ok.ensures.found (node_is_file v.contents.blocks p zones c.in-File.is part.rising)
