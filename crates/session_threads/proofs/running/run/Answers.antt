use Rattle.order_model.specs.Machine.{machine_of}
use Rattle.session_threads.proofs.Reports.{on_elevator, on_plain}
use Rattle.session_threads.proofs.running.run.Goals as goal

pub returns-in-Ok : goal.returns-in-Ok
returns-in-Ok g c = on_elevator (machine_of g.D.OrderedDev) c.args.script.now _ _ c.run_parts.result c.if-script.true c.run_parts.ensures

pub returns-in-Ok-make : goal.returns-in-Ok-make
returns-in-Ok-make g c = on_plain (machine_of g.D.OrderedDev) c.args.script.now _ _ c.run_parts-else-script.result c.if-script.false c.run_parts-else-script.ensures
