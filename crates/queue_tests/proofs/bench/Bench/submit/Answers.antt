-- A request with the next number, and the numbers behind it.
use Rattle.std.proofs.Common.{rules}
use Rattle.queue_tests.proofs.Numbered.{next_acceptable, next_numbered}
use Rattle.queue_tests.proofs.bench.Bench.submit.Goals as goal

pub accept-requires : goal.accept-requires
accept-requires g c = next_acceptable _ c.args.self.now.count c.request.result c.args.self.now.numbered c.if-self-ge-LIMIT.false c.request.ensures

pub invariant_of-self-2 : goal.invariant_of-self-2
invariant_of-self-2 g c =
    let bench = c.args.self.now in
    let trait_of = g.S.Scheduler in
    record { numbered = next_numbered trait_of.steps trait_of.valid _ _ bench.count c.request.result g.met.S.Scheduler.keeps c.can_accept.ensures.valid bench.numbered c.if-self-ge-LIMIT.false c.request.ensures (search rules) c.in_default.ensures.ok }
