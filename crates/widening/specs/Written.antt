-- The blocks of a directory with names of 30 bytes.
use Rattle.std.specs.Prelude.{ℕ, suc, ◌*◌, List, [], ◌∷◌, Some}
use Rattle.byte_fields.specs.Fields.{put, put_record}
use Rattle.byte_fields.specs.Fields.Order.{little}
use Rattle.minix_layout.specs.declared.slot.Slot.{Slot}
use Rattle.minix_layout.specs.Slots.{slot_bytes}

-- a block with these slots, from place `at` on
abbrev pub put_slots : ℕ → List Slot → List ℕ → List ℕ
put_slots at [] body = body
put_slots at (s ∷ slots) body = put_slots (suc at) slots (put_record 32 at (slot_bytes 30 (Some s)) body)

-- a block with these numbers, from place `at` on
abbrev pub put_numbers : ℕ → List ℕ → List ℕ → List ℕ
put_numbers at [] body = body
put_numbers at (z ∷ zones) body = put_numbers (suc at) zones (put little 2 (2 * at) z body)
