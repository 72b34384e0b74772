use Rattle.std.proofs.Common.{◌≡◌, ◌<◌, false, length, nat_le, sym, ap, ◌∙◌, arith, tests}
use Rattle.flush_actor.proofs.Waiting.{part_submitted}
use Rattle.flush_actor.specs.Actor.{FlushActor}
use Rattle.flush_actor.specs.Part.{at_limit}
use Rattle.flush_actor.proofs.flush_part.FlushPart.submit.Goals as goal

pub invariant_of-self : goal.invariant_of-self
invariant_of-self g c =
    let f = c.self.inside in
    let open_end : nat_le f.submission.limit (length f.submission.requests) ≡ false =
    ap (λ (x : FlushActor). at_limit x.part) c.self.view_is ∙ sym c.at_limit.ensures ∙ c.if-at_limit.false in
    let less : length f.submission.requests < f.submission.limit = grind (arith, tests, open_end) in
    part_submitted f.submission c.push.new.self f.completed f.blocks f.conflicts f.waits.items c.with-requests.result.items _ c.args.note c.self.invariant less c.with-requests.ensures c.push.ensures
