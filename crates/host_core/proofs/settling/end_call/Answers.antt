use Rattle.std.proofs.Common.{refl}
use Rattle.host_answers.specs.declared.entry.EntryKind.TheVariants as kinds
use Rattle.host_core.proofs.Placed.{noted_more}
use Rattle.host_core.proofs.settling.end_call.Goals as goal

pub returns-clause-notes : goal.returns-clause-notes
returns-clause-notes c = noted_more c.args.thread c.args.caller.now _ c.args.history.now.items refl (kinds.End c.args.reply) c.requires.thread c.requires.left refl _ c.push_entry.ensures
