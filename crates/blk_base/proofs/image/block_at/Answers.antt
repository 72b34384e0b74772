use Rattle.std.proofs.Common.{◌≡◌, ℕ, ◌-◌, ◌+◌, ◌*◌, take, drop, ap, arith}
use Rattle.blk_base.proofs.image.block_at.Goals as goal

pub returns-clause-value : goal.returns-clause-value
returns-clause-value c =
    let whole : 1024 * c.args.b + 1024 - 1024 * c.args.b ≡ 1024 = omega arith in
    ap (λ (n : ℕ). take n (drop (1024 * c.args.b) c.args.bytes.now)) whole
