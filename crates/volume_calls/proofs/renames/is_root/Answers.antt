use Rattle.std.proofs.Common.{sym, ◌∙◌}
use Rattle.volume_calls.proofs.Renamed.{no_names}
use Rattle.volume_calls.proofs.renames.is_root.Goals as goal

pub returns-clause-root : goal.returns-clause-root
returns-clause-root c = c.is_empty.ensures ∙ sym (no_names c.args.names.now)
