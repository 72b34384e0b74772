-- The request at a place of the list, by going from each to the next.
use Rattle.std.proofs.Common.{◌≡◌, ◌+◌, None, MatchOption, length, slice_get, sym, subst, ◌∙◌, arith}
use Rattle.std.proofs.lemmas.Option.{slice_get_past}
use Rattle.std.proofs.lemmas.List.Sums.{length-filter, count_by-le-length}
use Rattle.schedulers.specs.reassign.Epoch.{eligible, may_leave}
use Rattle.schedulers.specs.elevator.Elevator.{listed}
use Rattle.schedulers.specs.elevator.laws.List.{length-in_order}
use Rattle.schedulers.specs.elevator.code.Found.{IsListedAt}
use Rattle.schedulers.proofs.ElevatorLemmas.Finding.{lone_first, lone_none, first_found, none_first, next_found, none_next, none_from}
use Rattle.schedulers.proofs.elevator.searches.find_listed.Goals as goal

pub returns-then-pick-eq0 : goal.returns-then-pick-eq0
returns-then-pick-eq0 c =
    let ws = c.args.queue.now.waiting in
    let one = sym c.waiting.ensures ∙ c.if-waiting-eq1.true in
    subst (λ n. IsListedAt ws c.args.head n 0) (sym (c.if-pick-eq0.true)) (lone_first ws c.args.head one)

pub returns-else-pick-eq0 : goal.returns-else-pick-eq0
returns-else-pick-eq0 c =
    let one = sym c.waiting.ensures ∙ c.if-waiting-eq1.true in
    lone_none c.args.queue.now.waiting c.args.head c.args.pick one c.if-pick-eq0.false

pub returns-then-pick-waiting : goal.returns-then-pick-waiting
returns-then-pick-waiting c =
    let ws = c.args.queue.now.waiting in
    slice_get_past (listed c.args.head ws) c.args.pick (omega (arith, length-in_order c.args.head (eligible ws), length-filter (may_leave ws) ws, count_by-le-length (may_leave ws) ws))

pub returns-in_err-found : goal.returns-in_err-found
returns-in_err-found c =
    let ws = c.args.queue.now.waiting in
    let more : length ws ≡ 1 → ⊥ = λ one. c.if-waiting-eq1.false (c.waiting.ensures ∙ one) in
    let none = none_from (listed c.args.head ws) 0 c.args.pick (none_first ws c.args.head more c.in_err-found.ensures) (omega arith) in
    subst (λ o. MatchOption o (slice_get (listed c.args.head ws) c.args.pick ≡ None) (IsListedAt ws c.args.head c.args.pick)) (sym c.from_residual.ensures) none

pub loop-i-init : goal.loop-i-init
loop-i-init c =
    let ws = c.args.queue.now.waiting in
    let more : length ws ≡ 1 → ⊥ = λ one. c.if-waiting-eq1.false (c.waiting.ensures ∙ one) in
    let f = c.in_ok-found.ensures in
    record {
      found = record { listed = first_found ws c.args.head c.in_ok-found.found c.requires more f; there = f.there };
      few = omega arith;
    }

pub returns-in_err-found-2 : goal.returns-in_err-found-2
returns-in_err-found-2 c =
    let ws = c.args.queue.now.waiting in
    let more : length ws ≡ 1 → ⊥ = λ one. c.if-waiting-eq1.false (c.waiting.ensures ∙ one) in
    let next = none_next ws c.args.head c.loop-i.i c.loop-i.found c.requires more c.loop-i.invariant.found c.in_err-found-2.ensures in
    let lt = c.loop-i-test.true in
    let none = none_from (listed c.args.head ws) (c.loop-i.i + 1) c.args.pick next (omega (arith, lt)) in
    subst (λ o. MatchOption o (slice_get (listed c.args.head ws) c.args.pick ≡ None) (IsListedAt ws c.args.head c.args.pick)) (sym c.from_residual-in_err-found-2.ensures) none

pub loop-i-preserved : goal.loop-i-preserved
loop-i-preserved c =
    let ws = c.args.queue.now.waiting in
    let more : length ws ≡ 1 → ⊥ = λ one. c.if-waiting-eq1.false (c.waiting.ensures ∙ one) in
    let f = c.in_ok-found-2.ensures in
    let lt = c.loop-i-test.true in
    record {
      found = record { listed = next_found ws c.args.head c.loop-i.i c.loop-i.found c.in_ok-found-2.found c.requires more c.loop-i.invariant.found f; there = f.there };
      few = omega (arith, lt);
    }
