-- What is read of the blocks of a directory.
use Rattle.std.specs.Prelude.{◌≡◌, ℕ, zero, suc, ◌+◌, ◌*◌, ◌^◌, ◌<◌, ◌≤◌, List, [], ◌∷◌, length, slice_index, slice_get, Option, Some, Result, Ok, refl}
use Rattle.std.proofs.Common.{ap, ◌∙◌, inl, inr, arith}
use Rattle.blk_base.specs.Members.{In}
use Rattle.byte_fields.specs.Fields.{put, put_record, record_at, number_at}
use Rattle.byte_fields.specs.Fields.Order.{little}
use Rattle.byte_fields.specs.laws.ReadLaws.{length-put_bytes, length-put, number_at-put_same, number_at-put_other}
use Rattle.minix_layout.specs.Widths.{of_30}
use Rattle.minix_layout.specs.declared.slot.Slot.{Slot}
use Rattle.minix_layout.specs.declared.fault.LayoutFault.{LayoutFault}
use Rattle.minix_layout.specs.Slots.{slot_of, slot_bytes, IsEntry}
use Rattle.minix_layout.specs.laws.SlotLaws.{slot_read_back, other_slot, length-slot_bytes}
use Rattle.widening.specs.Written.{put_slots, put_numbers}

-- ---- slots

-- slot k of a block
abbrev pub slot_at : List ℕ → ℕ → Result (Option Slot) LayoutFault
slot_at body k = slot_of 30 (record_at 32 k body)

length-put_slot : (at : ℕ) (s : Slot) (body : List ℕ) → at < 32 → IsEntry 30 s → length body ≡ 1024 → length (put_record 32 at (slot_bytes 30 (Some s)) body) ≡ 1024
length-put_slot at s body low entry size =
    let n = length-slot_bytes 30 (Some s) of_30 entry.short in
    length-put_bytes (32 * at) (slot_bytes 30 (Some s)) body (omega (arith, n, size)) ∙ size

pub length-put_slots : (at : ℕ) (slots : List Slot) (body : List ℕ) → at + length slots ≤ 32 → ((s : Slot) → In s slots → IsEntry 30 s) → length body ≡ 1024 → length (put_slots at slots body) ≡ 1024
length-put_slots at [] body few entries size = size
length-put_slots at (s ∷ slots) body few entries size =
    length-put_slots (suc at) slots (put_record 32 at (slot_bytes 30 (Some s)) body) (omega (arith, few)) (λ t i. entries t (inr i))
    (length-put_slot at s body (omega (arith, few)) (entries s (inl refl)) size)

-- those before the first that is written stay
pub slot_before : (at : ℕ) (slots : List Slot) (body : List ℕ) → at + length slots ≤ 32 → ((s : Slot) → In s slots → IsEntry 30 s) → length body ≡ 1024 →
    (k : ℕ) → k < at → slot_at (put_slots at slots body) k ≡ slot_at body k
slot_before at [] body few entries size k low = refl
slot_before at (s ∷ slots) body few entries size k low =
    let entry = entries s (inl refl) in
    slot_before (suc at) slots (put_record 32 at (slot_bytes 30 (Some s)) body) (omega (arith, few)) (λ t i. entries t (inr i))
    (length-put_slot at s body (omega (arith, few)) entry size) k (omega (arith, low))
    ∙ other_slot 30 body at k (Some s) of_30 size (omega (arith, few)) (omega (arith, few, low)) (λ same. omega (arith, same, low)) entry.short

pub slot_there : (at : ℕ) (slots : List Slot) (body : List ℕ) → at + length slots ≤ 32 → ((s : Slot) → In s slots → IsEntry 30 s) → length body ≡ 1024 →
    (k : ℕ) (t : Slot) → slice_get slots k ≡ Some t → slot_at (put_slots at slots body) (at + k) ≡ Ok (Some t)
slot_there at [] body few entries size k t got = absurd (cc)
slot_there at (s ∷ slots) body few entries size zero t got =
    let entry = entries s (inl refl) in
    ap (slot_at (put_slots (suc at) slots (put_record 32 at (slot_bytes 30 (Some s)) body))) (omega arith)
    ∙ (slot_before (suc at) slots (put_record 32 at (slot_bytes 30 (Some s)) body) (omega (arith, few)) (λ t i. entries t (inr i))
    (length-put_slot at s body (omega (arith, few)) entry size) at (omega arith)
    ∙ (slot_read_back 30 body at (Some s) of_30 size (omega (arith, few)) entry ∙ ap Ok got))
slot_there at (s ∷ slots) body few entries size (suc k) t got =
    ap (slot_at (put_slots (suc at) slots (put_record 32 at (slot_bytes 30 (Some s)) body))) (omega arith)
    ∙ slot_there (suc at) slots (put_record 32 at (slot_bytes 30 (Some s)) body) (omega (arith, few)) (λ t i. entries t (inr i))
    (length-put_slot at s body (omega (arith, few)) (entries s (inl refl)) size) k t got

-- those behind the last stay
pub slot_behind_all : (at : ℕ) (slots : List Slot) (body : List ℕ) → at + length slots ≤ 32 → ((s : Slot) → In s slots → IsEntry 30 s) → length body ≡ 1024 →
    (k : ℕ) → at + length slots ≤ k → k < 32 → slot_at (put_slots at slots body) k ≡ slot_at body k
slot_behind_all at [] body few entries size k high low = refl
slot_behind_all at (s ∷ slots) body few entries size k high low =
    let entry = entries s (inl refl) in
    slot_behind_all (suc at) slots (put_record 32 at (slot_bytes 30 (Some s)) body) (omega (arith, few)) (λ t i. entries t (inr i))
    (length-put_slot at s body (omega (arith, few)) entry size) k (omega (arith, high)) low
    ∙ other_slot 30 body at k (Some s) of_30 size (omega (arith, few)) low (λ same. omega (arith, same, high)) entry.short

-- ---- numbers

pub length-put_numbers : (at : ℕ) (zones body : List ℕ) → at + length zones ≤ 512 → length body ≡ 1024 → length (put_numbers at zones body) ≡ 1024
length-put_numbers at [] body few size = size
length-put_numbers at (z ∷ zones) body few size =
    length-put_numbers (suc at) zones (put little 2 (2 * at) z body) (omega (arith, few)) (length-put little 2 (2 * at) z body (omega (arith, few, size)) ∙ size)

abbrev pub number_of : List ℕ → ℕ → ℕ
number_of body k = number_at little 2 (2 * k) body

pub number_before : (at : ℕ) (zones body : List ℕ) → at + length zones ≤ 512 → length body ≡ 1024 → (k : ℕ) → k < at → number_of (put_numbers at zones body) k ≡ number_of body k
number_before at [] body few size k low = refl
number_before at (z ∷ zones) body few size k low =
    number_before (suc at) zones (put little 2 (2 * at) z body) (omega (arith, few)) (length-put little 2 (2 * at) z body (omega (arith, few, size)) ∙ size) k (omega (arith, low))
    ∙ number_at-put_other little 2 (2 * k) 2 (2 * at) z body (omega (arith, few, low, size)) (omega (arith, few, size)) (inl (omega (arith, low)))

pub number_there : (at : ℕ) (zones body : List ℕ) → at + length zones ≤ 512 → length body ≡ 1024 → ((z : ℕ) → In z zones → z < 2 ^ 16) →
    (k : ℕ) → k < length zones → number_of (put_numbers at zones body) (at + k) ≡ slice_index zones k
number_there at [] body few size fit k low = absurd (omega arith)
number_there at (z ∷ zones) body few size fit zero low =
    ap (number_of (put_numbers (suc at) zones (put little 2 (2 * at) z body))) (omega arith)
    ∙ (number_before (suc at) zones (put little 2 (2 * at) z body) (omega (arith, few)) (length-put little 2 (2 * at) z body (omega (arith, few, size)) ∙ size) at (omega arith)
    ∙ number_at-put_same little 2 (2 * at) z body (omega (arith, few, size)) (fit z (inl refl)))
number_there at (z ∷ zones) body few size fit (suc k) low =
    ap (number_of (put_numbers (suc at) zones (put little 2 (2 * at) z body))) (omega arith)
    ∙ number_there (suc at) zones (put little 2 (2 * at) z body) (omega (arith, few)) (length-put little 2 (2 * at) z body (omega (arith, few, size)) ∙ size) (λ y i. fit y (inr i)) k (omega (arith, low))

pub number_behind : (at : ℕ) (zones body : List ℕ) → at + length zones ≤ 512 → length body ≡ 1024 → (k : ℕ) → at + length zones ≤ k → k < 512 → number_of (put_numbers at zones body) k ≡ number_of body k
number_behind at [] body few size k high low = refl
number_behind at (z ∷ zones) body few size k high low =
    number_behind (suc at) zones (put little 2 (2 * at) z body) (omega (arith, few)) (length-put little 2 (2 * at) z body (omega (arith, few, size)) ∙ size) k (omega (arith, high)) low
    ∙ number_at-put_other little 2 (2 * k) 2 (2 * at) z body (omega (arith, low, size)) (omega (arith, few, size)) (inr (omega (arith, high)))
