use Rattle.std.proofs.Common.{rules, ◌≡◌}
use Rattle.volume_ops.specs.Marks.{marked}
use Rattle.volume_names.specs.UsedInodes.{lowest_unmarked}
use Rattle.volume_names.proofs.LowestInodes.{taken_map}
use Rattle.volume_names.proofs.inode_map.InodeMap.take.Goals as goal

pub invariant_of-self : goal.invariant_of-self
invariant_of-self c =
    let marks = c.self.inside.marks.items in
    let new : c.set_mark.new.marks.items ≡ marked marks c.args.number = search rules in
    let lowest : c.args.number ≡ lowest_unmarked marks = search rules in
    let same : c.from.result ≡ c.args.number = search rules in
    rw (new, same) (taken_map marks c.self.inside.low c.args.number c.self.invariant lowest)
