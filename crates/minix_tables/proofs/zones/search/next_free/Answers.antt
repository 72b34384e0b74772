use Rattle.std.proofs.Common.{rules, ◌≡◌, sym, arith, length, get_or, true, false}
use Rattle.minix_tables.specs.zones.laws.Lowest.{least_is, least_none}
use Rattle.minix_tables.specs.zones.Zones.{NoneFreeBelow, is_free}
use Rattle.minix_tables.specs.declared.zones.zone_state.ZoneState.TheVariants as states
use Rattle.minix_tables.proofs.ZonesLemmas.Steps.{none_free_more, free_at, not_free_at}
use Rattle.minix_tables.proofs.zones.search.next_free.Goals as goal

pub returns-then-is_free-clause-least : goal.returns-then-is_free-clause-least
returns-then-is_free-clause-least c =
    let tested : is_free (get_or c.args.states.now c.loop-at.at states.Free) ≡ true = search rules in
    sym (least_is c.args.states.now c.loop-at.at (free_at c.args.states.now c.loop-at.at states.Free (search rules) tested) c.loop-at.invariant)

pub returns-then-is_free-clause-free : goal.returns-then-is_free-clause-free
returns-then-is_free-clause-free c =
    let tested : is_free (get_or c.args.states.now c.loop-at.at states.Free) ≡ true = search rules in
    (free_at c.args.states.now c.loop-at.at states.Free (search rules) tested, c.loop-at.invariant)

pub loop-at-preserved : goal.loop-at-preserved
loop-at-preserved c =
    let tested : is_free (get_or c.args.states.now c.loop-at.at states.Free) ≡ false = search rules in
    none_free_more c.args.states.now c.loop-at.at c.loop-at.invariant (not_free_at c.args.states.now c.loop-at.at states.Free tested)

pub returns-clause-least : goal.returns-clause-least
returns-clause-least c =
    let none : NoneFreeBelow c.args.states.now (length c.args.states.now) = search rules in
    sym (least_none c.args.states.now (length c.args.states.now) (omega arith) none)
