-- The slots of a directory as a list; None is a free slot.
use Rattle.std.specs.Prelude.{◌≡◌, ℕ, suc, nat_lt, Bool, false, if◌then◌else◌, List, [], ◌∷◌, ◌++◌, length, slice_set, get_or, Option, Some, None, position}
use Rattle.std.specs.List.{slice_get}
use Rattle.std.specs.Str.{bytes_eq}
use Rattle.minix_layout.specs.declared.slot.Slot.{Slot}

-- the place of a new slot: the first free one, or one more at the end
abbrev pub room : List (Option Slot) → ℕ
room [] = 0
room (None ∷ slots) = 0
room (Some s ∷ slots) = suc (room slots)

-- the slot stands at this place; past the last one it is one more at the end
unfoldable pub with_slot : List (Option Slot) → ℕ → Slot → List (Option Slot)
with_slot slots at slot = if nat_lt at (length slots) then slice_set slots at (Some slot) else slots ++ Some slot ∷ []

-- one free slot more at the end, where none is free
unfoldable pub reserved : List (Option Slot) → List (Option Slot)
reserved slots = if nat_lt (room slots) (length slots) then slots else slots ++ None ∷ []

abbrev pub used_count : List (Option Slot) → ℕ
used_count [] = 0
used_count (None ∷ slots) = used_count slots
used_count (Some s ∷ slots) = suc (used_count slots)

-- the slot at a place; None where it is free, and behind the last one
abbrev pub slot_at : List (Option Slot) → ℕ → Option Slot
slot_at slots at = get_or slots at None

-- a slot in use has this name
abbrev pub has_name : List ℕ → Option Slot → Bool
has_name name None = false
has_name name (Some s) = bytes_eq s.name name

-- the place of a name: the first slot that has it
abbrev pub place_of : List (Option Slot) → List ℕ → Option ℕ
place_of slots name = position (has_name name) slots

-- what stands at a place that was found
abbrev pub slot_found : List (Option Slot) → Option ℕ → Option Slot
slot_found slots None = None
slot_found slots (Some at) = slot_at slots at

-- the slot there is free
abbrev pub freed : List (Option Slot) → Option ℕ → List (Option Slot)
freed slots None = slots
freed slots (Some at) = slice_set slots at None

-- the slots without a name: its slot is free, and no other place changes
abbrev pub slots_without : List (Option Slot) → List ℕ → List (Option Slot)
slots_without slots name = freed slots (place_of slots name)

-- the slot at a place leads to another inode, and keeps its name; a free slot, and a place behind the last one, stay
abbrev pub led_to : List (Option Slot) → ℕ → ℕ → Option Slot → List (Option Slot)
led_to slots at inode None = slots
led_to slots at inode (Some s) = slice_set slots at (Some (record { inode = inode; name = s.name }))

-- so, for what stands at the place
abbrev pub slots_led : List (Option Slot) → ℕ → ℕ → List (Option Slot)
slots_led slots at inode = led_to slots at inode (slot_at slots at)

-- no name stands in two slots
abbrev pub NamesStandOnce : List (Option Slot) → Type 0
NamesStandOnce slots =
    (j k : ℕ) (s t : Slot) → slice_get slots j ≡ Some (Some s) → slice_get slots k ≡ Some (Some t) → s.name ≡ t.name → j ≡ k
