-- One round more.
use Rattle.std.proofs.Common.{◌≡◌, ◌+◌, ◌-◌, true, length, sym, ap, subst, ◌∙◌, arith}
use Rattle.std.proofs.lemmas.Option.{same_Some}
use Rattle.order_model.specs.declared.command.Command.{Command}
use Rattle.order_model.specs.Parts.{block_follows}
use Rattle.schedulers.proofs.ElevatorLemmas.Joining.{gathered-none, gathered-end, joining_may, round_of, round_gathered, round_rising, joined_parts}
use Rattle.schedulers.proofs.elevator.gathering.gather.Goals as goal

pub leave_at-requires : goal.leave_at-requires
leave_at-requires c = λ w there. joining_may c.loop-n.queue c.loop-n.block c.in-Some.at c.args.ordered w c.in-Some.ensures there

pub join-requires-clause-follows : goal.join-requires-clause-follows
join-requires-clause-follows c = λ block put.
    let r = c.in-Some-leave_at.request in
    let t = round_of c.loop-n.queue c.loop-n.block c.in-Some.at c.args.ordered r c.in-Some-leave_at.flagged c.in-Some.ensures c.in-Some-leave_at.ensures.given in
    subst (λ b. block_follows c.loop-n.command.parts b ≡ true) (same_Some c.loop-n.block block (sym t.put ∙ put)) c.loop-n.invariant.follows

pub loop-n-preserved : goal.loop-n-preserved
loop-n-preserved c =
    let r = c.in-Some-leave_at.request in
    let flagged = c.in-Some-leave_at.flagged in
    let old = c.loop-n.invariant in
    let state = c.in-Some-leave_at.ensures.state in
    let t = round_of c.loop-n.queue c.loop-n.block c.in-Some.at c.args.ordered r flagged c.in-Some.ensures c.in-Some-leave_at.ensures.given in
    let parts = joined_parts c.loop-n.command r flagged c.loop-n.block t.put in
    let e = c.join.ensures in
    let lt = c.loop-n-test.true in
    let bound = old.bound in
    record {
      run = round_gathered c.loop-n.n c.loop-n.block c.in-Some.at c.args.ordered c.loop-n.queue _ c.loop-n.command _ r flagged t lt state e ∙ old.run;
      rising = round_rising c.loop-n.queue _ c.loop-n.block c.in-Some.at c.args.ordered r flagged t old.rising state;
      parts = ap (λ (d : Command). length d.parts) e ∙ parts.0 ∙ ap (λ n. n + 1) old.parts;
      follows = ap (λ (d : Command). block_follows d.parts (c.loop-n.block + 1)) e ∙ parts.1;
      bound = omega (arith, bound);
    }

pub returns-in_default : goal.returns-in_default
returns-in_default c =
    sym (gathered-none (16 - c.loop-n.n) c.loop-n.block c.args.ordered (record { queue = c.loop-n.queue; command = c.loop-n.command }) c.in_default.ensures) ∙ c.loop-n.invariant.run

pub returns : goal.returns
returns c =
    sym (gathered-end c.loop-n.n c.loop-n.block c.args.ordered (record { queue = c.loop-n.queue; command = c.loop-n.command }) c.loop-n-test.false) ∙ c.loop-n.invariant.run
