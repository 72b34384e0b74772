use Rattle.std.proofs.Common.{◌≡◌, ◌≤◌, vec_len, vec_capacity}
use Rattle.device_epochs.proofs.queue.queue.blank_slots.Given as goal

abbrev pub invariant-loop : goal.invariant-loop
invariant-loop l = (vec_len l.slots ≡ l.counter) × (l.depth ≤ vec_capacity l.slots)
