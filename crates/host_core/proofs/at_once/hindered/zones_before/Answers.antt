use Rattle.std.specs.List.{count_by}
use Rattle.std.proofs.Common.{rules, ◌≡◌, ◌+◌, ap, ◌∙◌}
use Rattle.minix_tables.specs.zones.Zones.{Zones, is_quarantined_to}
use Rattle.host_core.proofs.AtOnceLemmas.Waiting.{waits_counted, none_waits}
use Rattle.host_core.proofs.at_once.hindered.zones_before.Goals as goal

pub returns-in_default-clause-ok : goal.returns-in_default-clause-ok
returns-in_default-clause-ok c =
    let none : c.args.number ≡ 0 = search rules in
    none_waits c.args.volume.now c.args.number none

pub returns-in-Ok-clause-ok : goal.returns-in-Ok-clause-ok
returns-in-Ok-clause-ok c =
    let last : c.args.number ≡ c.in-Ok.last + 1 = search rules in
    c.held_to.ensures
    ∙ (ap (λ (z : Zones). count_by (is_quarantined_to c.in-Ok.last) z.states) c.zones.ensures
    ∙ waits_counted c.args.volume.now c.args.number c.in-Ok.last last)
