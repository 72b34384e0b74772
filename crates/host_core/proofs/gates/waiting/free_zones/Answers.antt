use Rattle.std.proofs.Common.{rules, ◌≡◌, ◌∙◌}
use Rattle.std.specs.List.{count_by}
use Rattle.minix_tables.specs.zones.Zones.{is_free}
use Rattle.host_core.proofs.GatesLemmas.Gates.{free_is}
use Rattle.host_core.proofs.gates.waiting.free_zones.Goals as goal

pub returns : goal.returns
returns c =
    let counted : c.free_count.result ≡ count_by is_free c.args.volume.now.zones.states = search rules in
    counted ∙ free_is c.args.volume.now
