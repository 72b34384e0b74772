use Rattle.session_core.specs.Core.{core}
use Rattle.barrierfs_top.proofs.bulk.summary_of.Goals as goal

pub noted-requires : goal.noted-requires
noted-requires c = (core c.args.script.now, c.requires.report)
