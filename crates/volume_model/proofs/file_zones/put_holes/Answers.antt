use Rattle.std.proofs.Common.{rules, vec_capacity, ◌+◌}
use Rattle.volume_model.specs.Holes.{with_holes}
use Rattle.std.specs.List.{range_with_len}
use Rattle.volume_model.specs.laws.Holes.{hole_turn}
use Rattle.volume_model.proofs.file_zones.put_holes.Goals as goal

pub loop-index-preserved : goal.loop-index-preserved
loop-index-preserved c =
    hole_turn c.loop-index.items.items c.put_hole.new.items.items (with_holes c.args.items.now.items (range_with_len c.args.first c.args.count)) c.loop-index.index (c.args.first + c.args.count)
    (vec_capacity c.loop-index.items) (vec_capacity c.put_hole.new.items) (search rules) c.loop-index.invariant.0 c.loop-index.invariant.1 c.put_hole.ensures.capacity c.loop-index.invariant.2 c.put_hole.ensures.items
