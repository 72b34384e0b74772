-- What the slots of a directory say of its names.
use Rattle.std.proofs.Common.{◌≡◌, ◌<◌, ℕ, ◌+◌, nat_eq, nat_lt, not, length, inl, inr, arith}
use Rattle.std.proofs.lemmas.Bool.{cases_eq}
use Rattle.minix_tables.specs.directories.Slots.{room, used_count}
use Rattle.minix_tables.specs.directories.laws.Slots.{room-within, room-count, full-count}
use Rattle.tree_model.specs.Calls.{needs_slot}
use Rattle.volume_model.specs.declared.placed.DirectoryPart.{DirectoryPart}
use Rattle.volume_model.specs.Trees.{directory_from}

-- no slot is free exactly where as many are in use as there are
pub room_tells : (d : DirectoryPart) → used_count d.slots ≡ 2 + length d.names → nat_eq (room d.slots) (length d.slots) ≡ needs_slot (directory_from d)
room_tells d counted = elim (cases_eq (room d.slots) (length d.slots)) [
  | inl e ↦ (let full = full-count d.slots e in by_full (room d.slots) (length d.slots) (length d.names) (used_count d.slots) e full counted)
  | inr a ↦
      let low = room-within d.slots in
      let less : room d.slots < length d.slots = omega arith in
      by_free (room d.slots) (length d.slots) (length d.names) (used_count d.slots) less (room-count d.slots less) counted
]
  where
    by_full : (r l n u : ℕ) → r ≡ l → u ≡ l → u ≡ 2 + n → nat_eq r l ≡ not (nat_lt (n + 2) l)
    by_full r l n u e f h = grind arith

    by_free : (r l n u : ℕ) → r < l → u < l → u ≡ 2 + n → nat_eq r l ≡ not (nat_lt (n + 2) l)
    by_free r l n u e f h = grind arith
