use Rattle.std.proofs.Common.{◌≤◌, ◌+◌, [], length, ap, arith}
use Rattle.commit_actor.specs.Actor.{part_of}
use Rattle.commit_actor.specs.Journal as model
use Rattle.commit_actor.specs.code.Sending.{plan_left}
use Rattle.commit_actor.specs.declared.sending.Sending.{Sending}
use Rattle.commit_actor.proofs.Turns.{more_left, last_sent, at_rest}
use Rattle.commit_actor.proofs.journal_part.planned_sent.Goals as goal

pub returns-then-len-gt0-clause-part : goal.returns-then-len-gt0-clause-part
returns-then-len-gt0-clause-part c =
    let l = c.args.log.now in
    let size = c.len.ensures in
    let some = c.if-len-gt0.true in
    more_left l.journal l.made_with l.ring.places c.args.sending c.advance.new.sending (part_of l (model.Committing (plan_left l.journal l.made_with l.ring.places c.args.sending)))
    c.advance.ensures c.requires.left (omega (arith, size, some))

pub returns-clause-phase : goal.returns-clause-phase
returns-clause-phase c =
    let l = c.args.log.now in
    let size = c.len.ensures in
    let none = c.if-len-gt0.false in
    let last = last_sent l.ring.places c.args.sending c.advance.new.sending c.advance.ensures c.requires.left (omega (arith, size, none)) in
    let one = last.1 in
    let waiting = c.requires.waiting in
    let same = ap (λ (x : Sending). length x.homes.pairs.items) c.advance.ensures in
    let few : length l.ring.homes + length c.advance.new.sending.homes.pairs.items ≤ length l.flush.requests = omega (arith, waiting, one, same) in
    let homes = c.advance.new.sending.homes in
    at_rest l c.commit.new.self (record { rest = []; bodies = homes.pairs.items; revokes = homes.revoked.items; changed = [] }) _ c.commit.ensures c.requires.first c.requires.number few
