use Rattle.std.proofs.Common.{◌≡◌, ◌+◌, ◌-◌, refl, arith}
use Rattle.byte_fields.specs.Fields.{bytes_at}
use Rattle.minix_layout.proofs.parts.part.Goals as goal

pub returns-clause-value : goal.returns-clause-value
unfolding bytes_at
returns-clause-value c =
    let same : c.args.start + c.args.len - c.args.start ≡ c.args.len = omega arith in
    rw (same, c.as_slice.ensures.value) refl
