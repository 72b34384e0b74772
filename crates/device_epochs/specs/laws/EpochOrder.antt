-- Why the model device keeps the order of epochs: what is on the medium was moved there from a command that was done, and all of
-- an earlier epoch is kept before it. From the facts that each step keeps.
use Rattle.std.specs.Prelude.{◌≡◌, ℕ, ◌<◌, ◌≤◌, true, length, Some, slice_get}
use Rattle.std.proofs.Common.{sym, ap, ◌∙◌, inl, inr, arith}
use Rattle.std.proofs.lemmas.Option.{same_Some}
use Rattle.blk_base.specs.laws.Members.{slice_get-In, slice_get-length, slice_get-in_range}
use Rattle.order_model.specs.declared.part.Part.{Part}
use Rattle.order_model.specs.declared.command.Command.{Command}
use Rattle.order_model.specs.Received.{all_parts, part_at, command_of_part, epoch_of, IsBarrier}
use Rattle.order_model.specs.Device.{IsMoved, IsPartKept, IsSurface, KeepsEpochOrder}
use Rattle.order_model.proofs.Received.{command_of_part-lt, command_of_part-mono, epoch_of-between, barrier-is}
use Rattle.device_epochs.specs.queue.laws.QueueLaws.{part_at-lt, part_of-waiting}
use Rattle.device_epochs.specs.Device.{DeviceState, seen}
use Rattle.device_epochs.specs.queue.laws.EpochLaws.{barrier-ordered, waiting-taken, done-before_ordered, ordered-done_before, waits-or-done}
use Rattle.device_epochs.specs.queue.laws.QueueLaws.{place-before}
use Rattle.device_epochs.specs.queue.Facts.{IsDone, with_waiting}
use Rattle.device_epochs.specs.laws.Valid.{IsHeld, IsValid}

-- ---- what is kept

pub kept : (s : DeviceState) (x : ℕ) (p : Part) → part_at s.took x ≡ Some p → IsHeld s.origins p.block x → IsPartKept (seen s) x
kept s x p e h = record { part = p; taken = e; origin = h.0; held = h.1; later = h.2 }

-- a part that is kept was moved
pub kept_is_done : (s : DeviceState) (v : IsValid s) → (x : ℕ) → IsPartKept (seen s) x → IsDone s.took v.pending (command_of_part s.took x)
kept_is_done s v x k =
    let o = v.medium.written k.part.block k.origin k.held in
    elim (waits-or-done s.took v.pending (command_of_part s.took x) (command_of_part-lt s.took x (part_at-lt s.took x k.part k.taken))) [
      | inl w ↦
          let at = part_of-waiting s.took (with_waiting s.queue v.pending) w.0 x k.part v.queue w.1 k.taken (sym w.2) in
          let lt = place-before s.took (with_waiting s.queue v.pending) w.0 k.origin at.0 o.0 k.part v.queue w.1 (part_at-lt s.took k.origin o.0 o.1) o.4 o.1 at.2 (sym o.2) in
          let le = k.later in
          let n = at.1 in
          absurd (omega (arith, lt, le, n))
      | inr d ↦ d
    ]

pub moved_from_done : (s : DeviceState) (v : IsValid s) → (x : ℕ) → x < length (all_parts s.took) → IsDone s.took v.pending (command_of_part s.took x) → IsMoved (seen s) x
moved_from_done s v x lt d = (epoch_of s.took (command_of_part s.took x), v.moved.all x lt d)

pub kept_is_moved : (s : DeviceState) → IsValid s → (x : ℕ) → IsPartKept (seen s) x → IsMoved (seen s) x
kept_is_moved s v x k = moved_from_done s v x (part_at-lt s.took x k.part k.taken) (kept_is_done s v x k)

-- ---- the surface law

pub surface_law : (s : DeviceState) → IsValid s → IsSurface (seen s)
surface_law s v = record {
  blocks = v.medium.blocks;
  places = v.medium.places;
  written = λ b x o.
      let w = v.medium.written b x o in
      (w.0, w.1, w.2, w.3, moved_from_done s v x (part_at-lt s.took x w.0 w.1) w.4);
  untouched = v.medium.untouched;
}

-- ---- the epoch order law

-- a barrier is done where something behind it is
barrier_is_done : (s : DeviceState) (v : IsValid s) → (b k : ℕ) (c : Command) → slice_get s.took b ≡ Some c → c.barrier ≡ true → b < k → IsDone s.took v.pending k → IsDone s.took v.pending b
barrier_is_done s v b k c at is lt d =
    elim (waits-or-done s.took v.pending b (slice_get-length s.took b c at)) [
      | inl w ↦
          let n = w.2 in
          let taken = waiting-taken s.took (with_waiting s.queue v.pending) w.0 v.queue w.1 in
          let same : w.0.command ≡ c = same_Some w.0.command c (sym (v.queue.queued w.0 w.1) ∙ ap (slice_get s.took) w.2 ∙ at) in
          let ordered = barrier-ordered (length s.base) s.limit s.took w.0.command v.commands taken (ap (λ (a : Command). a.barrier) same ∙ is) in
          let before = done-before_ordered s.took (with_waiting s.queue v.pending) w.0 k v.queue w.1 ordered d in
          absurd (omega (arith, n, lt, before))
      | inr h ↦ h
    ]

-- what stands at or before a barrier is done, where something behind it is
done_before_barrier : (s : DeviceState) (v : IsValid s) → (j b k : ℕ) → IsBarrier s.took b → j ≤ b → b < k → IsDone s.took v.pending k → IsDone s.took v.pending j
done_before_barrier s v j b k h le lt d =
    let c = barrier-is s.took b h in
    let here = barrier_is_done s v b k c.0 c.1 c.2 lt d in
    let within = here.taken in
    let ordered = barrier-ordered (length s.base) s.limit s.took c.0 v.commands (slice_get-In s.took b c.0 c.1) c.2 in
    elim (waits-or-done s.took v.pending j (omega arith)) [
      | inl w ↦
          let n = w.2 in
          let before = ordered-done_before s.took (with_waiting s.queue v.pending) w.0 b c.0 v.queue w.1 here c.1 ordered in
          absurd (omega (arith, n, le, before))
      | inr done ↦ done
    ]

pub epoch_order_law : (s : DeviceState) → IsValid s → KeepsEpochOrder (seen s)
epoch_order_law s v = record {
  epochs = λ x y b lt h before after k.
      let o = v.medium.written k.part.block k.origin k.held in
      let mono = command_of_part-mono s.took y k.origin k.later in
      let behind : b < command_of_part s.took k.origin = omega arith in
      let d = done_before_barrier s v (command_of_part s.took x) b (command_of_part s.took k.origin) h before behind o.4 in
      let p = slice_get-in_range (all_parts s.took) x lt in
      elim (v.medium.covered x p.0 p.1 d) [
        | inl cached ↦
            let above = epoch_of-between s.took (command_of_part s.took x) b (command_of_part s.took k.origin) h before behind in
            let older = v.medium.older k.part.block k.origin cached.entry k.held cached.there in
            let same = cached.same_epoch in
            absurd (omega (arith, above, older, same))
        | inr held ↦ kept s x p.0 p.1 held
      ];
  blocks = λ x y p q le at there same k.
      let part : k.part ≡ q = same_Some k.part q (sym k.taken ∙ there) in
      let block : p.block ≡ k.part.block = same ∙ ap (λ (r : Part). r.block) (sym part) in
      let later = k.later in
      record { part = p; taken = at; origin = k.origin; held = ap (slice_get s.origins) block ∙ k.held; later = omega (arith, le, later) };
}
