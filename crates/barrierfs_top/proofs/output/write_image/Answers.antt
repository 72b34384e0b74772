use Rattle.std.proofs.Common.{◌≡◌, ◌∙◌, take, Some, Result, Ok, Err, slice_get, sym, ap, subst}
use Rattle.std.specs.Prelude.{OnErr}
use Rattle.std.specs.List.{concat}
use Rattle.std.specs.Io.KnownBytes.{Appends}
use Rattle.std.proofs.KnownBytes.{Appends-trans}
use Rattle.blk_base.specs.Streams.{AppendsFront}
use Rattle.barrierfs_top.proofs.Pieces.{concat_next, front_of_all}
use Rattle.barrierfs_top.proofs.output.write_image.Goals as goal

on_err : {X E : Type 0} (P : Type 0) (r : Result X E) → P → OnErr r P
on_err P (Ok x) p = tt
on_err P (Err e) p = p

pub returns-in_err-write_all-clause-front : goal.returns-in_err-write_all-clause-front
returns-in_err-write_all-clause-front g c =
    let taken = g.W.Sink.taken in
    let there : slice_get c.args.image.now c.loop-b.b ≡ Some c.as_slice.result.now = c.block.ensures ∙ ap Some (sym c.as_slice.ensures.value) in
    on_err (AppendsFront (taken c.args.out.now) (taken c.write_all.new.out) (concat c.args.image.now)) c.from_residual.result
    (front_of_all c.args.image.now c.loop-b.b c.as_slice.result.now (taken c.args.out.now) (taken c.loop-b.out) (taken c.write_all.new.out) there c.loop-b.invariant.taken c.in_err-write_all.ensures.front)

pub loop-b-preserved : goal.loop-b-preserved
loop-b-preserved g c =
    let taken = g.W.Sink.taken in
    let there : slice_get c.args.image.now c.loop-b.b ≡ Some c.as_slice.result.now = c.block.ensures ∙ ap Some (sym c.as_slice.ensures.value) in
    record {
      taken = subst (Appends (taken c.args.out.now) (taken c.write_all.new.out)) (sym (concat_next c.args.image.now c.loop-b.b c.as_slice.result.now there))
          (Appends-trans (taken c.args.out.now) (taken c.loop-b.out) (taken c.write_all.new.out) (concat (take c.loop-b.b c.args.image.now)) c.as_slice.result.now c.loop-b.invariant.taken c.in_ok-write_all.ensures.ok);
      faults = c.in_ok-write_all.ensures.steady ∙ c.loop-b.invariant.faults;
    }
