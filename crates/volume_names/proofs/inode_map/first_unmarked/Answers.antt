use Rattle.std.proofs.Common.{rules, ◌≡◌, false, arith}
use Rattle.volume_ops.specs.Marks.{is_marked}
use Rattle.volume_names.proofs.LowestInodes.{lowest_here, lowest_none}
use Rattle.volume_names.proofs.inode_map.first_unmarked.Goals as goal

pub returns-then-not-marks-number : goal.returns-then-not-marks-number
returns-then-not-marks-number c =
    let free : is_marked c.args.marks.now c.loop-number.number ≡ false = search rules in
    lowest_here c.args.marks.now c.loop-number.number (omega arith) (omega arith) c.loop-number.invariant free

pub returns : goal.returns
returns c = lowest_none c.args.marks.now c.loop-number.number (omega arith) c.loop-number.invariant
