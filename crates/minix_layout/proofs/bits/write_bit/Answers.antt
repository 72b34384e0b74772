use Rattle.std.proofs.Common.{rules, ◌≡◌, length}
use Rattle.minix_layout.specs.Bits.{put_bit}
use Rattle.minix_layout.specs.laws.BitLaws.{bit_read_back, other_bit}
use Rattle.minix_layout.proofs.bits.write_bit.Goals as goal

pub returns-clause-read : goal.returns-clause-read
returns-clause-read c =
    let size : length c.args.b.now ≡ 1024 = search rules in
    let value : c.set.new.self ≡ put_bit c.args.b.now c.args.at c.args.value = search rules in
    rw value (bit_read_back c.args.b.now c.args.at c.args.value size c.requires)

pub returns-clause-others : goal.returns-clause-others
returns-clause-others c k apart =
    let size : length c.args.b.now ≡ 1024 = search rules in
    let value : c.set.new.self ≡ put_bit c.args.b.now c.args.at c.args.value = search rules in
    rw value (other_bit c.args.b.now c.args.at k c.args.value size c.requires apart)
