use Rattle.std.specs.String.{string_bytes}
use Rattle.barrierfs_top.proofs.Workloads.{workload_is}
use Rattle.barrierfs_top.proofs.bulk.run_workload.Goals as goal

pub returns-in-Ok-summary_of-clause-ok : goal.returns-in-Ok-summary_of-clause-ok
returns-in-Ok-summary_of-clause-ok c =
    let ran = c.in-Ok.ensures in
    workload_is c.args.number c.in-Ok.script c.in-Ok.report (string_bytes c.in-Ok-summary_of.text) ran.script ran.core ran.headline c.in-Ok-summary_of.ensures
