-- Where a slot stands: in which block, and at which place of it. A block has 64 slots or 32.
use Rattle.std.specs.Prelude.{◌≡◌, ℕ, ◌+◌, ◌-◌, ◌*◌, ◌/◌, ◌%◌, ◌<◌, ◌≤◌, ◌==◌, Bool, true, false, if◌then◌else◌, refl}
use Rattle.std.proofs.Common.{arith}
use Rattle.minix_layout.specs.Widths.{IsWidth, of_14, of_30, slot_size, slots_a_block}

-- the bytes of a slot, and the slots of a block
pub data IsForm : ℕ → ℕ → Type 0 where
  narrow : IsForm 16 64
  wide : IsForm 32 32

pub form_is : (width : ℕ) → IsForm (slot_size width) (slots_a_block width)
form_is width = by (width == 30)
  where
    by : (b : Bool) → IsForm (if b then 32 else 16) (if b then 32 else 64)
    by true = wide
    by false = narrow

-- for the two widths they are what the format says
pub size_fits : (width : ℕ) → IsWidth width → slot_size width ≡ width + 2
size_fits width of_14 = refl
size_fits width of_30 = refl

pub per_fits : (width : ℕ) → IsWidth width → slots_a_block width ≡ 1024 / (width + 2)
per_fits width of_14 = refl
per_fits width of_30 = refl

-- ---- places, by the slots of a block

pub place_low : (size per : ℕ) → IsForm size per → (place : ℕ) → place % per < per
place_low size per narrow place = omega arith
place_low size per wide place = omega arith

pub place_whole : (size per : ℕ) → IsForm size per → (place : ℕ) → per * (place / per) + place % per ≡ place
place_whole size per narrow place = omega arith
place_whole size per wide place = omega arith

pub block_of : (size per : ℕ) → IsForm size per → (index at : ℕ) → at < per → (per * index + at) / per ≡ index
block_of size per narrow index at below = omega arith
block_of size per wide index at below = omega arith

pub at_of : (size per : ℕ) → IsForm size per → (index at : ℕ) → at < per → (per * index + at) % per ≡ at
at_of size per narrow index at below = omega arith
at_of size per wide index at below = omega arith

-- the block of a place between two others
pub block_low : (size per : ℕ) → IsForm size per → (low place : ℕ) → per * low ≤ place → low ≤ place / per
block_low size per narrow low place from = omega arith
block_low size per wide low place from = omega arith

pub block_high : (size per : ℕ) → IsForm size per → (high place : ℕ) → place < per * high → place / per < high
block_high size per narrow high place to = omega arith
block_high size per wide high place to = omega arith

-- a number of slots, by the bytes that they have
pub slots_few : (size per : ℕ) → IsForm size per → (bytes place blocks : ℕ) → bytes ≤ 1024 * blocks → place < bytes / size → place < per * blocks
slots_few size per narrow bytes place blocks most below = omega arith
slots_few size per wide bytes place blocks most below = omega arith

-- places of one block, at one place of it, are one
pub same_slot : (size per : ℕ) → IsForm size per → (j k : ℕ) → j / per ≡ k / per → j % per ≡ k % per → j ≡ k
same_slot size per narrow j k group place = omega arith
same_slot size per wide j k group place = omega arith

-- a directory's bytes, and how many slots they are
pub bytes_of_slots : (size per : ℕ) → IsForm size per → (slots : ℕ) → (size * slots) / size ≡ slots
bytes_of_slots size per narrow slots = omega arith
bytes_of_slots size per wide slots = omega arith

pub whole_slots : (size per : ℕ) → IsForm size per → (slots : ℕ) → (size * slots) % size ≡ 0
whole_slots size per narrow slots = omega arith
whole_slots size per wide slots = omega arith

pub some_slots : (size per : ℕ) → IsForm size per → (2 ≤ per) × (2 ≤ size)
some_slots size per narrow = (omega arith, omega arith)
some_slots size per wide = (omega arith, omega arith)

-- a directory with so few slots has so few bytes
pub bytes_few : (size per : ℕ) → IsForm size per → (slots : ℕ) → slots ≤ 519 * per → size * slots ≤ 531456
bytes_few size per narrow slots few = omega arith
bytes_few size per wide slots few = omega arith

-- and a whole number of slots is as many bytes
pub bytes_whole : (size per : ℕ) → IsForm size per → (bytes : ℕ) → bytes % size ≡ 0 → bytes ≡ size * (bytes / size)
bytes_whole size per narrow bytes whole = omega arith
bytes_whole size per wide bytes whole = omega arith

-- the block of a place below a number of slots begins below it
pub begins_below : (size per : ℕ) → IsForm size per → (place slots : ℕ) → place < slots → per * (place / per) < slots
begins_below size per narrow place slots below = omega arith
begins_below size per wide place slots below = omega arith

-- the first two places stand in the first block
pub slot_zero_stands : (size per : ℕ) → IsForm size per → (0 / per ≡ 0) × (0 % per ≡ 0)
slot_zero_stands size per narrow = (refl, refl)
slot_zero_stands size per wide = (refl, refl)

pub slot_one_stands : (size per : ℕ) → IsForm size per → (1 / per ≡ 0) × (1 % per ≡ 1)
slot_one_stands size per narrow = (refl, refl)
slot_one_stands size per wide = (refl, refl)
