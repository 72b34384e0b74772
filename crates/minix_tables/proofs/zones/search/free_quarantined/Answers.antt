use Rattle.std.proofs.Common.{◌≡◌, ◌+◌, get_or, slice_set, ap, ◌∙◌, arith}
use Rattle.std.proofs.lemmas.List.{get_or_default}
use Rattle.std.proofs.lemmas.List.Edits.{map_over_more}
use Rattle.minix_tables.specs.declared.zones.zone_state.ZoneState.TheVariants as states
use Rattle.minix_tables.specs.zones.Zones.{let_go, is_quarantined_for}
use Rattle.minix_tables.specs.zones.laws.Counts.{one_if}
use Rattle.minix_tables.proofs.ZonesLemmas.Steps.{freed_more, byte_is_one}
use Rattle.minix_tables.proofs.zones.search.free_quarantined.Goals as goal

pub loop-state-preserved : goal.loop-state-preserved
loop-state-preserved c =
    let at = c.loop-state.state-index in
    let z = get_or c.loop-state.states at states.Free in
    let here : z ≡ get_or c.loop-state.states at z = get_or_default c.loop-state.states at states.Free z (let all = c.loop-state.auto.states in let inside = c.loop-state-test.true in omega arith) in
    let counted : c.from-freed.result ≡ one_if (is_quarantined_for c.args.tx z) = c.from-freed.ensures ∙ byte_is_one c.is_quarantined_for.result ∙ ap one_if c.is_quarantined_for.ensures in (
      ap (λ y. slice_set c.loop-state.states at y) c.let_go.ensures ∙ map_over_more (let_go c.args.tx) c.args.states.now c.loop-state.states at z c.loop-state-test.true c.loop-state.invariant.0 here,
      ap (λ n. c.loop-state.freed + n) counted ∙ freed_more c.args.tx c.args.states.now c.loop-state.states at c.loop-state.freed z c.loop-state-test.true c.loop-state.invariant.0 here c.loop-state.invariant.1,
    )
