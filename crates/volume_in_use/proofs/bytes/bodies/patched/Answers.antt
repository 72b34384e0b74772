use Rattle.std.proofs.Common.{rules, ◌+◌, replicate}
use Rattle.volume_in_use.specs.bytes.Contents.{bytes_of}
use Rattle.volume_in_use.proofs.BytesLemmas.Patches.{three_parts}
use Rattle.volume_in_use.proofs.bytes.bodies.patched.Goals as goal

pub returns : goal.returns
returns c =
    three_parts c.args.index c.args.off (bytes_of c.args.content.now) c.args.old.now (replicate 1024 0) c.copy_front.new.bytes c.copy_part.new.bytes c.of.result
    c.saturating_sub-from.result c.saturating_sub-skip.result (c.saturating_sub-from.result + c.min-count.result)
    (search rules) (search rules) (search rules) (search rules) (search rules) (search rules) (search rules) (search rules) (search rules)
