-- What is read of a slot that was written, and when it is refused.
use Rattle.std.specs.Prelude.{◌≡◌, ◌≢◌, ℕ, zero, suc, ◌+◌, ◌-◌, ◌*◌, ◌^◌, ◌<◌, ◌≤◌, ◌==◌, Bool, true, false, not, cond, nat_lt, nat_le, if◌then◌else◌, ◌↔◌, IsTrue, IfErr, IfSome, slice_index, List, [], ◌∷◌, ◌++◌, length, take, drop, Option, Some, None, Result, Ok, Err, refl}
use Rattle.std.specs.List.{list_any, before_first, position_or_len, prefix_len}
use Rattle.std.proofs.Common.{sym, ap, ◌∙◌, arith, inl, inr, lit≤}
use Rattle.std.proofs.lemmas.Bool.{and_parts, and_from, ltb-true, lt-ltb, le-leb, eqb-true, eqb-false, eq-eqb, ne_eqb, not-true, not_from_false, or_left, or_right, or_from, or_parts, cases_lt, both_ways}
use Rattle.std.proofs.lemmas.List.{take_all, drop_at, drop-replicate, length-take, length-append, length-take-le}
use Rattle.byte_fields.specs.laws.ReadLaws.{get_or-put_other, length-zeros, length-put, length-put_bytes, bytes_at-put, number_at-put_same, record_at-put_same, record_at-put_other}
use Rattle.byte_fields.specs.Fields.{Apart, zeros, bytes_at, put_bytes, number_of, number_at, record_at, put_record}
use Rattle.byte_fields.specs.Fields.Order.{little}
use Rattle.minix_layout.specs.declared.slot.Slot.{Slot}
use Rattle.minix_layout.specs.declared.fault.LayoutFault.{LayoutFault}
use Rattle.minix_layout.specs.declared.fault.LayoutFault.TheVariants.{BadSlot}
use Rattle.minix_layout.specs.Words.{is_name, name_from}
use Rattle.minix_layout.specs.Widths.{IsWidth, of_14, of_30, slot_size, slots_a_block}
use Rattle.minix_layout.specs.Slots.{inode_in, name_in, is_bad_name, slot_of, slot_of_size, slot_bytes, IsEntry, IsNamed, IsReadable}

-- the byte that ends a name
abbrev pub is_zero : ℕ → Bool
is_zero b = b == 0

abbrev pub is_slash : ℕ → Bool
is_slash b = b == 47

take_one : (n y : ℕ) (ys : List ℕ) → take (1 + n) (y ∷ ys) ≡ y ∷ take n ys
take_one n y ys =
    let more : 1 + n ≡ suc n = omega arith in
    ap (λ (m : ℕ). take m (y ∷ ys)) more

-- the front of a list, by its first element
no_zero_at : (is : Bool) (n y : ℕ) (ys : List ℕ) → is_zero y ≡ is → list_any is_zero (take n ys) ≡ false → list_any is_zero (take (cond (not is) (1 + n) 0) (y ∷ ys)) ≡ false
no_zero_at true n y ys e ih = refl
no_zero_at false n y ys e ih = ap (list_any is_zero) (take_one n y ys) ∙ or_from _ _ e ih

-- a name ends before its first byte of 0
no_zero : (ys : List ℕ) → list_any is_zero (before_first is_zero ys) ≡ false
no_zero [] = refl
no_zero (y ∷ ys) = no_zero_at (is_zero y) (prefix_len (λ b. not (is_zero b)) ys) y ys refl (no_zero ys)

-- a name with bytes of 0 behind it is read up to those
name_before : (name : List ℕ) (m : ℕ) → list_any is_zero name ≡ false → before_first is_zero (name ++ zeros m) ≡ name
unfolding zeros
name_before [] zero none = refl
name_before [] (suc m) none = refl
name_before (y ∷ ys) m none =
    let parts = or_parts (is_zero y) (list_any is_zero ys) none in
    let rest = prefix_len (λ b. not (is_zero b)) (ys ++ zeros m) in
    ap (λ (is : Bool). take (cond (not is) (1 + rest) 0) (y ∷ (ys ++ zeros m))) parts.0
    ∙ take_one rest y (ys ++ zeros m)
    ∙ ap (λ (xs : List ℕ). y ∷ xs) (name_before ys m parts.1)

-- what a reader says, by its two tests
abbrev said : Bool → Bool → Slot → Result (Option Slot) LayoutFault
said free bad s = if free then Ok None else if bad then Err BadSlot else Ok (Some s)

above_zero : (n : ℕ) → (n ≡ 0 → ⊥) → 0 < n
above_zero n h = omega arith

not_zero : (n : ℕ) → 0 < n → n ≡ 0 → ⊥
not_zero n h e = absurd (omega arith)

said_free : (free bad : Bool) (s : Slot) → said free bad s ≡ Ok None → free ≡ true
said_free true bad s h = refl
said_free false true s h = absurd (cc)
said_free false false s h = absurd (cc)

said_bad : (free bad : Bool) (s : Slot) → said free bad s ≡ Err BadSlot → (free ≡ false) × (bad ≡ true)
said_bad true bad s h = absurd (cc)
said_bad false true s h = (refl, refl)
said_bad false false s h = absurd (cc)

said_fault : (free bad : Bool) (s : Slot) → IfErr (said free bad s) (λ f. f ≡ BadSlot)
said_fault true bad s = tt
said_fault false true s = refl
said_fault false false s = tt

-- a slot is free exactly where its number is 0
pub slot_free : (width : ℕ) (bytes : List ℕ) → (slot_of width bytes ≡ Ok None) ↔ (inode_in bytes ≡ 0)
unfolding slot_of
slot_free width bytes = (
  λ h. eqb-true _ _ (said_free (inode_in bytes == 0) (is_bad_name (name_in width bytes)) (record { inode = inode_in bytes; name = name_in width bytes }) h),
  λ h. rw h refl,
)

-- a slot has one kind of fault
pub slot_fault : (width : ℕ) (bytes : List ℕ) → IfErr (slot_of width bytes) (λ f. f ≡ BadSlot)
unfolding slot_of
slot_fault width bytes = said_fault (inode_in bytes == 0) (is_bad_name (name_in width bytes)) (record { inode = inode_in bytes; name = name_in width bytes })

-- and has it exactly where it is in use under a bad name
pub slot_bad : (width : ℕ) (bytes : List ℕ) → (slot_of width bytes ≡ Err BadSlot) ↔ ((0 < inode_in bytes) × IsTrue (is_bad_name (name_in width bytes)))
unfolding slot_of
slot_bad width bytes = (
  λ h.
      let tests = said_bad (inode_in bytes == 0) (is_bad_name (name_in width bytes)) (record { inode = inode_in bytes; name = name_in width bytes }) h in
      let used = eqb-false (inode_in bytes) 0 tests.0 in
      (above_zero (inode_in bytes) used, tests.1),
  λ h.
      let used : (inode_in bytes == 0) ≡ false = ne_eqb (inode_in bytes) 0 (not_zero (inode_in bytes) h.0) in
      let bad : is_bad_name (name_in width bytes) ≡ true = h.1 in
      ap (λ (free : Bool). said free (is_bad_name (name_in width bytes)) (record { inode = inode_in bytes; name = name_in width bytes })) used
      ∙ ap (λ (fails : Bool). said false fails (record { inode = inode_in bytes; name = name_in width bytes })) bad,
)

-- what a slot in use under a bad name says
pub used_bad : (width : ℕ) (bytes : List ℕ) (inode : ℕ) (name : List ℕ) → inode ≡ inode_in bytes → (inode ≡ 0 → ⊥) → name ≡ name_in width bytes → is_bad_name name ≡ true → Err BadSlot ≡ slot_of width bytes
used_bad width bytes inode name number used same bad =
    let in_use : 0 < inode_in bytes = omega arith in
    sym ((slot_bad width bytes).1 (in_use, ap is_bad_name (sym same) ∙ bad))

-- what a slot in use under another name says
pub used_good : (width : ℕ) (bytes : List ℕ) (inode : ℕ) (name : List ℕ) → inode ≡ inode_in bytes → (inode ≡ 0 → ⊥) → name ≡ name_in width bytes → is_bad_name name ≡ false → Ok (Some (record { inode = inode; name = name })) ≡ slot_of width bytes
unfolding slot_of
used_good width bytes inode name number used same good =
    let in_use : (inode_in bytes == 0) ≡ false = ne_eqb (inode_in bytes) 0 (λ h. used (number ∙ h)) in
    let fails : is_bad_name (name_in width bytes) ≡ false = ap is_bad_name (sym same) ∙ good in
    let found : Slot = record { inode = inode_in bytes; name = name_in width bytes } in
    ap (λ (n : ℕ). let made : Slot = record { inode = n; name = name } in said false false made) number
    ∙ ap (λ (n : List ℕ). let made : Slot = record { inode = inode_in bytes; name = n } in said false false made) same
    ∙ ap (λ (b : Bool). said false b found) (sym fails)
    ∙ ap (λ (b : Bool). said b (is_bad_name (name_in width bytes)) found) (sym in_use)

some_of : (is : Bool) (name n : List ℕ) → Some name ≡ (if is then Some n else None) → (name ≡ n) × (is ≡ true)
some_of true name n h = (cc, refl)
some_of false name n h = absurd (cc)

none_of : (is : Bool) (n : List ℕ) → None ≡ (if is then Some n else None) → is ≡ false
none_of true n h = absurd (cc)
none_of false n h = refl

-- what the answer of `Name::of` says of the bytes
pub name_some : (n name : List ℕ) → Some name ≡ name_from n → (name ≡ n) × (is_name n ≡ true)
name_some n name h = some_of (is_name n) name n h

pub name_none : (n : List ℕ) → None ≡ name_from n → is_name n ≡ false
name_none n h = none_of (is_name n) n h

pub bad_slash : (name : List ℕ) → list_any is_slash name ≡ true → is_bad_name name ≡ true
bad_slash name slash = or_right _ _ slash

pub good_name : (name : List ℕ) → is_name name ≡ true → list_any is_slash name ≡ false → is_bad_name name ≡ false
good_name name is slash =
    let some = ltb-true 0 (length name) (and_parts (nat_lt 0 (length name)) _ is).0 in
    or_from _ _ (ne_eqb (length name) 0 (not_zero (length name) some)) slash

short_front : (width : ℕ) (ys : List ℕ) → length ys ≤ width → length (before_first is_zero ys) ≤ width
short_front width ys short = omega (arith, length-take (position_or_len is_zero ys) ys)

short_part : (width : ℕ) (bytes : List ℕ) → length (bytes_at width 2 bytes) ≤ width
unfolding bytes_at
short_part width bytes = omega (arith, length-take width (drop 2 bytes))

-- a name that is read has at most the width
pub short_name : (width : ℕ) (bytes : List ℕ) → length (name_in width bytes) ≤ width
short_name width bytes = short_front width (bytes_at width 2 bytes) (short_part width bytes)

-- bytes of a slot that are no name are none
pub bad_empty : (width : ℕ) (bytes : List ℕ) → width ≤ 30 → is_name (name_in width bytes) ≡ false → is_bad_name (name_in width bytes) ≡ true
bad_empty width bytes narrow fails =
    let most = short_name width bytes in
    let short : length (name_in width bytes) ≤ 30 = omega arith in
    let none = no_zero (bytes_at width 2 bytes) in
    elim (cases_lt 0 (length (name_in width bytes))) [
      | inl some ↦ absurd (both_ways _ fails (and_from _ _ (lt-ltb _ _ some) (and_from _ _ (le-leb _ _ short) (not_from_false _ none))))
      | inr empty ↦ or_left _ _ (eq-eqb (length (name_in width bytes)) 0 (omega arith))
    ]

-- what is left of bytes of 0 behind the number and a name
zeros_behind : (width n : ℕ) → n ≤ width → drop (2 + n) (zeros (width + 2)) ≡ zeros (width - n)
unfolding zeros
zeros_behind width n short =
    let count : width + 2 - (2 + n) ≡ width - n = omega arith in
    drop-replicate {X = ℕ} (2 + n) (width + 2) 0 ∙ ap zeros count

-- the name and its bytes of 0
padded : (width : ℕ) (name : List ℕ) → length name ≤ width → bytes_at width 2 (put_bytes 2 name (zeros (width + 2))) ≡ name ++ zeros (width - length name)
unfolding bytes_at put_bytes
padded width name short =
    let behind = zeros_behind width (length name) short in
    let front = length-take-le 2 (zeros (width + 2)) (omega (arith, length-zeros (width + 2))) in
    let size : length (name ++ zeros (width - length name)) ≤ width = omega (arith, length-append name (zeros (width - length name)), length-zeros (width - length name)) in
    ap (take width) (drop_at (take 2 (zeros (width + 2))) (name ++ drop (2 + length name) (zeros (width + 2))) 2 front)
    ∙ ap (λ (t : List ℕ). take width (name ++ t)) behind
    ∙ take_all width (name ++ zeros (width - length name)) size

named_whole : (s : Slot) → IsNamed s → list_any is_zero s.name ≡ false
named_whole s named =
    let first = and_parts (nat_lt 0 (length s.name)) _ named in
    not-true _ (and_parts (nat_le (length s.name) 30) _ first.1).1

length-named : (width : ℕ) (s : Slot) → length s.name ≤ width → length (put_bytes 2 s.name (zeros (width + 2))) ≡ width + 2
length-named width s short =
    let size = length-zeros (width + 2) in
    length-put_bytes 2 s.name (zeros (width + 2)) (omega arith) ∙ size

name_read : (width : ℕ) (s : Slot) → IsEntry width s → name_in width (slot_of_size (width + 2) (Some s)) ≡ s.name
unfolding slot_of_size
name_read width s e =
    let size = length-named width s e.short in
    ap (before_first is_zero) (bytes_at-put little width 2 2 0 s.inode (put_bytes 2 s.name (zeros (width + 2))) (omega arith) (omega arith) (inr (lit≤ tt)) ∙ padded width s.name e.short)
    ∙ name_before s.name (width - length s.name) (named_whole s e.name)

inode_read : (width : ℕ) (s : Slot) → IsEntry width s → inode_in (slot_of_size (width + 2) (Some s)) ≡ s.inode
unfolding slot_of_size
inode_read width s e =
    number_at-put_same little 2 0 s.inode (put_bytes 2 s.name (zeros (width + 2))) (omega arith) e.fits

-- the bytes of a slot in use are read as that slot
slot_read_sized : (width : ℕ) (s : Slot) → IsEntry width s → slot_of width (slot_of_size (width + 2) (Some s)) ≡ Ok (Some s)
slot_read_sized width s e =
    sym (used_good width (slot_of_size (width + 2) (Some s)) s.inode s.name (sym (inode_read width s e)) (not_zero s.inode e.used) (sym (name_read width s e)) (good_name s.name e.name e.no_slash))

pub slot_read : (width : ℕ) (s : Slot) → IsWidth width → IsEntry width s → slot_of width (slot_bytes width (Some s)) ≡ Ok (Some s)
slot_read width s of_14 e = slot_read_sized 14 s e
slot_read width s of_30 e = slot_read_sized 30 s e

-- the bytes of a free slot are read as none
pub free_read : (width : ℕ) → IsWidth width → slot_of width (slot_bytes width None) ≡ Ok None
unfolding slot_of_size zeros number_at number_of
free_read width of_14 =
    let none : inode_in (slot_bytes 14 None) ≡ 0 = refl in
    (slot_free 14 (slot_bytes 14 None)).1 none
free_read width of_30 =
    let none : inode_in (slot_bytes 30 None) ≡ 0 = refl in
    (slot_free 30 (slot_bytes 30 None)).1 none

any_read : (width : ℕ) (s : Option Slot) → IsWidth width → IfSome s (λ e. IsEntry width e) → slot_of width (slot_bytes width s) ≡ Ok s
any_read width None is entry = free_read width is
any_read width (Some s) is entry = slot_read width s is entry

length-used : (width : ℕ) (s : Slot) → length s.name ≤ width → length (slot_of_size (width + 2) (Some s)) ≡ width + 2
unfolding slot_of_size
length-used width s short =
    let size = length-named width s short in
    length-put little 2 0 s.inode (put_bytes 2 s.name (zeros (width + 2))) (omega arith) ∙ size

length-free : (width : ℕ) → length (slot_bytes width None) ≡ slot_size width
unfolding slot_of_size
length-free width = length-zeros (slot_size width)

-- a slot has its width and two bytes
pub length-slot_bytes : (width : ℕ) (s : Option Slot) → IsWidth width → IfSome s (λ e. length e.name ≤ width) → length (slot_bytes width s) ≡ slot_size width
length-slot_bytes width None is short = length-free width
length-slot_bytes width (Some s) of_14 short = length-used 14 s short
length-slot_bytes width (Some s) of_30 short = length-used 30 s short

-- an entry has a short name
pub entries_short : (width : ℕ) (s : Option Slot) → IfSome s (λ e. IsEntry width e) → IfSome s (λ e. length e.name ≤ width)
entries_short width None entry = tt
entries_short width (Some s) entry = entry.short

-- each slot is an entry
pub all_entries : (width : ℕ) (s : Option Slot) → IfSome s (λ e. IsReadable e) → IfSome s (λ e. length e.name ≤ width) →
    IfSome s (λ e. IsReadable e → (e.inode < 2 ^ 16) × IsNamed e) → IfSome s (λ e. IsEntry width e)
all_entries width None readable short entry = tt
all_entries width (Some s) readable short entry =
    let more = entry readable in
    record { used = readable.0; fits = more.0; name = more.1; short = short; no_slash = readable.1 }

-- a place of a block lies in it
pub slot_within : (width at : ℕ) → IsWidth width → at < slots_a_block width → slot_size width * at + slot_size width ≤ 1024
slot_within width at of_14 below = omega arith
slot_within width at of_30 below = omega arith

-- a slot that was written to a directory is read there
pub slot_read_back : (width : ℕ) (b : List ℕ) (at : ℕ) (s : Option Slot) → IsWidth width → length b ≡ 1024 → at < slots_a_block width → IfSome s (λ e. IsEntry width e) →
    slot_of width (record_at (slot_size width) at (put_record (slot_size width) at (slot_bytes width s) b)) ≡ Ok s
slot_read_back width b at s is size below entry =
    let within = slot_within width at is below in
    ap (slot_of width) (record_at-put_same (slot_size width) at (slot_bytes width s) b (length-slot_bytes width s is (entries_short width s entry)) (rw size within)) ∙ any_read width s is entry

-- another slot of the directory is read as before
pub other_slot : (width : ℕ) (b : List ℕ) (at other : ℕ) (s : Option Slot) → IsWidth width → length b ≡ 1024 → at < slots_a_block width → other < slots_a_block width → at ≢ other → IfSome s (λ e. length e.name ≤ width) →
    slot_of width (record_at (slot_size width) other (put_record (slot_size width) at (slot_bytes width s) b)) ≡ slot_of width (record_at (slot_size width) other b)
other_slot width b at other s is size below other_below differ short =
    let within = slot_within width at is below in
    let other_within = slot_within width other is other_below in
    ap (slot_of width) (record_at-put_other (slot_size width) at other (slot_bytes width s) b (length-slot_bytes width s is short) (rw size within) (rw size other_within) differ)

-- a byte beside the slot is as it was
pub byte_beside_slot : (width : ℕ) (b : List ℕ) (at k : ℕ) (s : Option Slot) → IsWidth width → length b ≡ 1024 → at < slots_a_block width → IfSome s (λ e. length e.name ≤ width) →
    Apart 1 k (slot_size width) (slot_size width * at) → slice_index (put_record (slot_size width) at (slot_bytes width s) b) k ≡ slice_index b k
byte_beside_slot width b at k s is size below short apart =
    let long = length-slot_bytes width s is short in
    let within = slot_within width at is below in
    get_or-put_other (slot_size width * at) (slot_bytes width s) b k 0 (omega arith) (rw long apart)
