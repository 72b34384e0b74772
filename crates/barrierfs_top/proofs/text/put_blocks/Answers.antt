use Rattle.std.proofs.Common.{◌<◌, ◌-◌, ◌+◌, ◌++◌, length, sym, ap, ap₂, ◌∙◌, append_assoc, slice_get, arith}
use Rattle.std.specs.String.{string_bytes}
use Rattle.barrierfs_top.specs.Text.{block_line, block_lines, byte_of, origin_at}
use Rattle.barrierfs_top.proofs.BlockLines.{block_lines-more}
use Rattle.barrierfs_top.proofs.text.put_blocks.Goals as goal

pub loop-b-preserved : goal.loop-b-preserved
loop-b-preserved c =
    let image = c.args.image.now in
    let origins = c.args.origins.now in
    let b = c.loop-b.b in
    let n = length image in
    let lt : b < n = omega (arith, c.len-b-end.ensures) in
    let byte = c.first_byte.ensures ∙ sym (ap byte_of c.block.ensures) in
    let line = ap₂ (block_line b) byte c.origin_at.ensures in
    let rest = block_lines image origins (b + 1) (n - (b + 1)) in
    let more = block_lines-more image origins b n lt in
    ap (λ l. l ++ rest) (c.in_ok-put_block.ensures ∙ ap (λ l. string_bytes c.loop-b.out ++ l) line)
    ∙ (append_assoc (string_bytes c.loop-b.out) (block_line b (byte_of (slice_get image b)) (origin_at origins b)) rest
    ∙ (ap (λ l. string_bytes c.loop-b.out ++ l) (sym more) ∙ c.loop-b.invariant))
