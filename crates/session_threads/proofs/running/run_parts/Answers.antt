use Rattle.std.proofs.Common.{sym, ap, subst, ◌∙◌, false, replicate}
use Rattle.session_core.specs.Core.{IsNewFor}
use Rattle.session_threads.proofs.running.run_parts.Goals as goal

pub run_named-requires-clause-device_ids : goal.run_named-requires-clause-device_ids
run_named-requires-clause-device_ids g c = λ κs outlive. c.in-Ok.ensures.device_ids ∙ ap (λ n. replicate n false) (sym c.requires.ids)

pub run_named-requires-clause-new_device : goal.run_named-requires-clause-new_device
run_named-requires-clause-new_device g c = λ κs outlive. c.requires.new_device.untouched

pub end_parts-requires-clause-device : goal.end_parts-requires-clause-device
end_parts-requires-clause-device g c =
    let t = g.D.OrderedDev in
    subst (λ (d : t.State). IsNewFor c.args.script.now (t.seen d)) c.requires.device c.requires.new_device

pub end_parts-requires-clause-blocks : goal.end_parts-requires-clause-blocks
end_parts-requires-clause-blocks g c = c.check_parts.ensures.begins.starts.blocks
