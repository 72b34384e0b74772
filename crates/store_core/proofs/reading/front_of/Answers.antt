use Rattle.std.proofs.Common.{◌++◌, ◌∷◌, [], length, sym, ap, ◌∙◌, arith}
use Rattle.std.proofs.lemmas.List.{length-append}
use Rattle.std.specs.Option.{option_copied}
use Rattle.store_core.proofs.LogReads.{front-ends, front-more}
use Rattle.store_core.proofs.reading.front_of.Goals as goal

pub returns-in_default-clause-front : goal.returns-in_default-clause-front
returns-in_default-clause-front c =
    front-ends c.args.blocks.now c.loop-place.place c.args.room c.loop-place.front.items _ c.loop-place-test.true
    (sym c.get.ensures ∙ ap option_copied c.in_default.is) c.loop-place.invariant.front

pub loop-place-preserved : goal.loop-place-preserved
loop-place-preserved c =
    let xs = c.loop-place.front.items in
    let size = ap length c.in_ok-push.ensures.items in
    let more = length-append xs (c.copy.result ∷ []) in
    let few = c.loop-place.invariant.few in
    record {
      front = front-more c.args.blocks.now c.loop-place.place c.args.room xs c.push.new.self.items _ c.in-Some.block.now c.loop-place-test.true
          (sym c.get.ensures ∙ ap option_copied c.in-Some.is) (c.in_ok-push.ensures.items ∙ ap (λ b. xs ++ b ∷ []) c.copy.ensures) c.loop-place.invariant.front;
      few = omega (arith, size, more, few);
    }
