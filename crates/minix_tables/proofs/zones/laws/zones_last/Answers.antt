use Rattle.minix_tables.specs.zones.laws.Lasting.{used_lasts, quarantine_lasts, release_frees, release_keeps}
use Rattle.minix_tables.proofs.zones.laws.zones_last.Goals as goal

pub returns : goal.returns
returns c = record { used = used_lasts; quarantined = quarantine_lasts; frees = release_frees; others = release_keeps }
