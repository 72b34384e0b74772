use Rattle.thread_sides.proofs.device_side.DeviceSide.into_parts.Goals as goal

pub returns-clause-side : goal.returns-clause-side
returns-clause-side g c = record { flags = c.self.inside.flags; kept = c.self.inside.kept; unfit = c.self.inside.unfit; side = c.self.invariant }
