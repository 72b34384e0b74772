use Rattle.std.proofs.Common.{rules, ◌∙◌}
use Rattle.volume_in_use.proofs.BytesLemmas.Patches.{zeros_behind}
use Rattle.volume_in_use.proofs.bytes.bodies.cut_off.Goals as goal

pub returns : goal.returns
returns c = (search rules) ∙ zeros_behind c.args.keep c.args.old.now
