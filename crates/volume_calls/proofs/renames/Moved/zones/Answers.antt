use Rattle.std.proofs.Common.{sym}
use Rattle.volume_calls.proofs.Renamed.{zones_there, zones_within}
use Rattle.volume_calls.proofs.renames.Moved.zones.Goals as goal

pub returns-then-not-changes_parent : goal.returns-then-not-changes_parent
returns-then-not-changes_parent c = λ blocks none. zones_within c.args.self.now c.requires blocks (sym (c.if-not-changes_parent.ensures blocks))

pub returns : goal.returns
returns c = λ blocks none. zones_there c.args.self.now c.requires blocks c.slot_zones.result (sym (c.if-not-changes_parent.ensures blocks)) (c.slot_zones.ensures.more c.args.self.now.to.name none)
