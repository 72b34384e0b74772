use Rattle.std.proofs.Common.{rules}
use Rattle.std.proofs.lemmas.List.{length-drop}
use Rattle.host_core.proofs.host.has_ended.Goals as goal

pub returns : goal.returns
returns c = search (rules, length-drop)
