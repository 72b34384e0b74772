use Rattle.std.proofs.Common.{rules, ap}
use Rattle.volume_steps.specs.Now.{VolumeNow}
use Rattle.volume_in_use.proofs.BytesLemmas.WholeCuts.{told_moved}
use Rattle.volume_in_use.proofs.bytes.truncating.listed.Goals as goal

pub returns : goal.returns
returns c = record {
  placed = c.in-Some.node.now;
  zones = c.as_slice.result.now;
  stands = search rules;
  is_file = search rules;
  blocks = c.in_ok-gone.ensures.blocks;
  numbers = search rules;
  told = told_moved c.v.inside.blocks c.args.v.now.contents.blocks c.in-Some.node.now.inode c.as_slice-2.result.now c.as_slice.result.now c.args.from _
      (ap (λ (v : VolumeNow). v.contents.blocks) c.v.view_is) (search rules) c.zones_written-written.ensures;
}
