use Rattle.std.proofs.Common.{◌<◌, length, rules}
use Rattle.std.proofs.lemmas.List.Edits.{map_over_more}
use Rattle.order_model.specs.Received.{all_parts}
use Rattle.device_epochs.specs.queue.Told.{id_at}
use Rattle.device_epochs.proofs.queue.completing.read_ids.Goals as goal

pub loop-i-preserved : goal.loop-i-preserved
loop-i-preserved c =
    let ids = c.args.places.items in
    let long = c.args.places.ok in
    let lt : c.loop-i.i < length ids = search rules in
    record {
      len = search rules;
      rest =
          rw c.id_at.ensures
          (map_over_more (id_at (all_parts c.args.took.now.items)) ids c.loop-i.ids.items c.loop-i.i c.index.result.now lt c.loop-i.invariant.rest (search rules));
    }
