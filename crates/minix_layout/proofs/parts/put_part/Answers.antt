use Rattle.std.proofs.Common.{◌≡◌, ◌+◌, ◌++◌, length, take, drop, sym, ap, ◌∙◌, arith}
use Rattle.std.proofs.lemmas.List.Edits.{paste_more, paste_all}
use Rattle.byte_fields.specs.Fields.{put_bytes}
use Rattle.minix_layout.proofs.parts.put_part.Goals as goal

pub loop-k-preserved : goal.loop-k-preserved
loop-k-preserved c =
    let size : length c.args.b.now ≡ 1024 = ap length (sym c.as_slice-size.ensures.value) ∙ c.as_slice-size.ensures.len in
    rw (c.set.ensures, c.loop-k.invariant) (paste_more c.args.b.now c.args.start c.args.bytes.now c.loop-k.k 0 (omega arith) (omega arith))

pub returns-clause-value : goal.returns-clause-value
unfolding put_bytes
returns-clause-value c =
    let done : c.loop-k.k ≡ length c.args.bytes.now = omega arith in
    c.loop-k.invariant
    ∙ paste_all c.args.b.now c.args.start c.args.bytes.now c.loop-k.k done
    ∙ ap (λ n. take c.args.start c.args.b.now ++ (c.args.bytes.now ++ drop (c.args.start + n) c.args.b.now)) done
