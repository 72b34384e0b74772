-- The block that spells a put, and the put that a block spells.
use Rattle.std.specs.Prelude.{ℕ, ◌+◌, ◌-◌, ◌&&◌, Bool, List, [], ◌∷◌, ◌++◌, length, take, drop, slice_index, Option, Some, None, if◌then◌else◌, codes}
use Rattle.std.specs.Str.{bytes_eq}
use Rattle.byte_fields.specs.Fields.{zeros, bytes_of, number_at}
use Rattle.byte_fields.specs.Fields.Order.{big}
use Rattle.wal_store.specs.declared.puts.Put.{Put}
use Rattle.wal_store.specs.Puts.{is_key, is_value}

-- what such a block begins with, in ASCII
abbrev pub magic : List ℕ
magic = codes "WAL1"

-- the magic number, the number of the put, how long key and value are, key and value
abbrev pub record_of : ℕ → List ℕ → List ℕ → List ℕ
record_of number key value = magic ++ (bytes_of big 4 number ++ (length key ∷ length value ∷ (key ++ value)))

-- and zeros behind them
unfoldable pub spelled : ℕ → List ℕ → List ℕ → List ℕ
spelled number key value = record_of number key value ++ zeros (1024 - length (record_of number key value))

-- the block that is written for a put with this number
abbrev pub encode : ℕ → Put → List ℕ
encode number p = spelled number p.key p.value

-- ---- and back

-- the number in bytes 4 to 7, counted from 0, the highest first, whatever the block is
abbrev pub number_in : List ℕ → ℕ
number_in b = number_at big 4 4 b

-- the key from byte 10 on, as long as byte 8 says
abbrev pub key_in : List ℕ → List ℕ
key_in b = take (slice_index b 8) (drop 10 b)

-- the value right behind the key, as long as byte 9 says
abbrev pub value_in : List ℕ → List ℕ
value_in b = take (slice_index b 9) (drop (slice_index b 8) (drop 10 b))

-- what stands in the block's places of number, key and value
abbrev pub put_in : List ℕ → Put
put_in b = record { key = key_in b; value = value_in b }

-- the block has a key and a value that a put may have, and no byte differs from what is written of them
abbrev pub spells : List ℕ → Bool
spells b = is_key (key_in b) && (is_value (value_in b) && bytes_eq b (spelled (number_in b) (key_in b) (value_in b)))

-- The number and the put that a block spells, where it is what is written of them.
abbrev pub decode : List ℕ → Option (ℕ × Put)
decode b = if spells b then Some (number_in b, put_in b) else None
