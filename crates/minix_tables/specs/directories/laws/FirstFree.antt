-- Where the first free slot is after slots changed.
use Rattle.std.specs.Prelude.{◌≡◌, ℕ, zero, suc, ◌+◌, ◌<◌, ◌≤◌, List, [], ◌∷◌, ◌++◌, length, take, drop, slice_set, Option, Some, None, refl}
use Rattle.std.proofs.Common.{ap, sym, subst, ◌∙◌, arith}
use Rattle.std.proofs.lemmas.Option.{none-some}
use Rattle.minix_layout.specs.declared.slot.Slot.{Slot}
use Rattle.minix_tables.specs.directories.Slots.{room, slot_at}

-- where the first free slot is taken, the next one is looked for behind it
pub room-taken : (slots : List (Option Slot)) (s : Slot) → room slots < length slots →
    suc (room slots) + room (drop (suc (room slots)) (slice_set slots (room slots) (Some s))) ≡ room (slice_set slots (room slots) (Some s))
room-taken [] s low = absurd (omega arith)
room-taken (None ∷ slots) s low = omega arith
room-taken (Some t ∷ slots) s low = (let e = room-taken slots s (omega arith) in omega arith)

pub room-taken_at : (slots : List (Option Slot)) (s : Slot) (at next found : ℕ) → at ≡ room slots → at < length slots → next ≡ at + 1 →
    found ≡ next + room (drop next (slice_set slots at (Some s))) → found ≡ room (slice_set slots at (Some s))
room-taken_at slots s at next found e low is told =
    let from : next ≡ suc (room slots) = omega arith in
    let inside : room slots < length slots = omega arith in
    told ∙ (ap (λ k. k + room (drop k (slice_set slots at (Some s)))) from
    ∙ subst (λ k. suc (room slots) + room (drop (suc (room slots)) (slice_set slots k (Some s))) ≡ room (slice_set slots k (Some s))) (sym e) (room-taken slots s inside))

-- where none is free, a slot in use at the end leaves none free
pub room-pushed : (slots : List (Option Slot)) (s : Slot) → room slots ≡ length slots → room (slots ++ Some s ∷ []) ≡ suc (room slots)
room-pushed [] s e = refl
room-pushed (None ∷ slots) s e = absurd (omega arith)
room-pushed (Some t ∷ slots) s e = ap suc (room-pushed slots s (omega arith))

-- and a free one at the end is the first
pub room-reserved : (slots : List (Option Slot)) → room slots ≡ length slots → room (slots ++ None ∷ []) ≡ room slots
room-reserved [] e = refl
room-reserved (None ∷ slots) e = absurd (omega arith)
room-reserved (Some t ∷ slots) e = ap suc (room-reserved slots (omega arith))

-- of fewer slots, those before the first free one are in use
pub room-cut : (slots : List (Option Slot)) (n : ℕ) → n < room slots → room (take n slots) ≡ n
room-cut [] n low = absurd (omega arith)
room-cut (None ∷ slots) n low = absurd (omega arith)
room-cut (Some t ∷ slots) zero low = refl
room-cut (Some t ∷ slots) (suc n) low = ap suc (room-cut slots n (omega arith))

pub room-left : (slots : List (Option Slot)) (n : ℕ) → room slots ≤ n → room (take n slots) ≡ room slots
room-left [] zero high = refl
room-left [] (suc n) high = refl
room-left (None ∷ slots) zero high = refl
room-left (None ∷ slots) (suc n) high = refl
room-left (Some t ∷ slots) zero high = absurd (omega arith)
room-left (Some t ∷ slots) (suc n) high = ap suc (room-left slots n (omega arith))

-- a slot that gets free before the first free one is the first
pub room-freed : (slots : List (Option Slot)) (at : ℕ) → at < room slots → room (slice_set slots at None) ≡ at
room-freed [] at low = absurd (omega arith)
room-freed (None ∷ slots) at low = absurd (omega arith)
room-freed (Some t ∷ slots) zero low = refl
room-freed (Some t ∷ slots) (suc at) low = ap suc (room-freed slots at (omega arith))

-- one behind it is not
pub room-freed_behind : (slots : List (Option Slot)) (at : ℕ) → room slots ≤ at → room (slice_set slots at None) ≡ room slots
room-freed_behind [] at high = refl
room-freed_behind (None ∷ slots) zero high = refl
room-freed_behind (None ∷ slots) (suc at) high = refl
room-freed_behind (Some t ∷ slots) zero high = absurd (omega arith)
room-freed_behind (Some t ∷ slots) (suc at) high = ap suc (room-freed_behind slots at (omega arith))

-- a slot in use that stays in use
pub room-led : (slots : List (Option Slot)) (at : ℕ) (s t : Slot) → slot_at slots at ≡ Some s → room (slice_set slots at (Some t)) ≡ room slots
room-led [] at s t e = refl
room-led (None ∷ slots) zero s t e = absurd (none-some s e)
room-led (None ∷ slots) (suc at) s t e = refl
room-led (Some u ∷ slots) zero s t e = refl
room-led (Some u ∷ slots) (suc at) s t e = ap suc (room-led slots at s t e)

-- a slot that is written as it is
pub room-kept : (slots : List (Option Slot)) (at : ℕ) (o : Option Slot) → slot_at slots at ≡ o → room (slice_set slots at o) ≡ room slots
room-kept [] at o e = refl
room-kept (None ∷ slots) zero o e = ap (λ (x : Option Slot). room (x ∷ slots)) (sym e)
room-kept (None ∷ slots) (suc at) o e = refl
room-kept (Some u ∷ slots) zero o e = ap (λ (x : Option Slot). room (x ∷ slots)) (sym e)
room-kept (Some u ∷ slots) (suc at) o e = ap suc (room-kept slots at o e)
