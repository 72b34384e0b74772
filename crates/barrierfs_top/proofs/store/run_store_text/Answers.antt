use Rattle.std.specs.String.{string_bytes}
use Rattle.barrierfs_top.proofs.StoreRuns.{store_ran}
use Rattle.barrierfs_top.proofs.store.run_store_text.Goals as goal

pub returns-in-Ok-text_of-clause-ok : goal.returns-in-Ok-text_of-clause-ok
returns-in-Ok-text_of-clause-ok c =
    let left = c.in-Ok-run_store.field-0 in
    let ran = c.in-Ok-run_store.ensures in
    store_ran c.args.bytes.now c.in-Ok.script left.session left.summary (string_bytes c.in-Ok-text_of.text) c.in-Ok.ensures.ok ran.report ran.headline ran.steps ran.requests ran.acknowledged ran.held c.in-Ok-text_of.ensures
