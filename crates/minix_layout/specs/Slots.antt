-- Slots of directories: the number of an inode, and a name of at most the width of the volume's names.
use Rattle.std.specs.Prelude.{◌≡◌, ℕ, ◌^◌, ◌<◌, ◌≤◌, ◌==◌, Bool, ◌||◌, if◌then◌else◌, IsTrue, false, List, [], ◌∷◌, length, Option, Some, None, Result, Ok, Err}
use Rattle.std.specs.List.{list_any, before_first}
use Rattle.byte_fields.specs.Fields.{zeros, bytes_at, put_bytes, number_at, field, written}
use Rattle.byte_fields.specs.Fields.Order.{little}
use Rattle.minix_layout.specs.declared.slot.Slot.{Slot}
use Rattle.minix_layout.specs.declared.fault.LayoutFault.{LayoutFault}
use Rattle.minix_layout.specs.declared.fault.LayoutFault.TheVariants.{BadSlot}
use Rattle.minix_layout.specs.Widths.{slot_size}
use Rattle.minix_layout.specs.Words.{is_name}

-- the name of a slot ends at its first byte of 0, or at the width
abbrev pub name_in : ℕ → List ℕ → List ℕ
name_in width bytes = before_first (λ b. b == 0) (bytes_at width 2 bytes)

-- no file can have this name
abbrev pub is_bad_name : List ℕ → Bool
is_bad_name name = (length name == 0) || list_any (λ b. b == 47) name

-- the number of a slot's inode; 0 where the slot is free
abbrev pub inode_in : List ℕ → ℕ
inode_in bytes = number_at little 2 0 bytes

-- what the bytes of a slot say
unfoldable pub slot_of : ℕ → List ℕ → Result (Option Slot) LayoutFault
slot_of width bytes =
    if inode_in bytes == 0 then Ok None
    else if is_bad_name (name_in width bytes) then Err BadSlot
    else Ok (Some (record { inode = inode_in bytes; name = name_in width bytes }))

-- so many bytes of a slot: the number, the name, and bytes of 0
unfoldable pub slot_of_size : ℕ → Option Slot → List ℕ
slot_of_size size None = zeros size
slot_of_size size (Some s) = written little (field 2 0 s.inode ∷ []) (put_bytes 2 s.name (zeros size))

-- a slot where names have this width, as its bytes; zeros where it is free
abbrev pub slot_bytes : ℕ → Option Slot → List ℕ
slot_bytes width s = slot_of_size (slot_size width) s

-- what holds of each slot: its name is one
abbrev pub IsNamed : Slot → Type 0
IsNamed s = IsTrue (is_name s.name)

-- the slot is in use, and its name has no slash
abbrev pub IsReadable : Slot → Type 0
IsReadable s = (0 < s.inode) × (list_any (λ b. b == 47) s.name ≡ false)

-- a slot that is in use, as it can be read
pub record IsEntry (width : ℕ) (s : Slot) : Type 0 where
  pub used : 0 < s.inode
  pub fits : s.inode < 2 ^ 16
  pub name : IsNamed s
  pub short : length s.name ≤ width
  pub no_slash : list_any (λ b. b == 47) s.name ≡ false
