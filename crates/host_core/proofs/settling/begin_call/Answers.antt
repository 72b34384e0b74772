use Rattle.std.proofs.Common.{◌≡◌, ◌+◌, refl, arith}
use Rattle.host_answers.specs.declared.entry.EntryKind.TheVariants as kinds
use Rattle.host_core.proofs.Placed.{noted_more}
use Rattle.host_core.proofs.settling.begin_call.Goals as goal

pub returns-clause-notes : goal.returns-clause-notes
returns-clause-notes c =
    let old = c.args.caller.now in
    let same : old.ended ≡ old.ended + 0 = omega arith in
    noted_more c.args.thread old _ c.args.history.now.items refl kinds.Begin c.requires.thread c.requires.left same _ c.push_entry.ensures
