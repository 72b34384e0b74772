-- The calls of a store's session.
use Rattle.std.specs.Prelude.{ℕ, suc, ◌+◌, ◌-◌, ◌*◌, ◌/◌, ◌<◌, min, List, [], ◌∷◌, ◌++◌, codes, map}
use Rattle.std.specs.List.{range_with_len}
use Rattle.tree_model.specs.declared.call.Call.{Call}
use Rattle.tree_model.specs.declared.call.Call.TheVariants.{Create, Write, Bytes, Fsync, Fdatasync, Fdatabarrier}
use Rattle.wal_store.specs.declared.puts.Op.{Op}
use Rattle.wal_store.specs.declared.puts.Op.TheVariants as ops
use Rattle.wal_store.specs.Puts.{IsPut}
use Rattle.wal_store.specs.Blocks.{encode}
use Rattle.wal_store.specs.declared.calls.calls.TheConstants.{MOST_ROOM}

-- the file of the log
abbrev pub log_path : List ℕ
log_path = codes "/log"

-- ---- the log is filled with zeros, 65,536 bytes a call

-- so many bytes from place j of these on are to be filled
abbrev pub fill_call : ℕ → ℕ → Call
fill_call room j = Write log_path (65536 * j) (min 65536 (1024 * room - 65536 * j)) 0

-- so many calls from the one for place j on
abbrev pub fills_from : ℕ → ℕ → ℕ → List Call
fills_from room j n = map (fill_call room) (range_with_len j n)

-- a call fills 64 blocks, the last one what is left
abbrev pub fill_count : ℕ → ℕ
fill_count room = (room + 63) / 64

-- zeros in all of a log of so many blocks
abbrev pub fills : ℕ → List Call
fills room = fills_from room 0 (fill_count room)

-- ---- puts and flushes

-- put number i goes to block i, and a barrier call stands behind it
abbrev pub op_calls : ℕ → Op → List Call
op_calls i (ops.Put p) = Bytes log_path (1024 * i) (encode (i + 1) p) ∷ Fdatabarrier log_path ∷ []
op_calls i ops.Flush = Fdatasync log_path ∷ []

-- the number of the put that comes next
abbrev pub next : ℕ → Op → ℕ
next i (ops.Put p) = i + 1
next i ops.Flush = i

-- the calls of what is asked, where the next put is put number i, counted from 0
abbrev pub calls_from : ℕ → List Op → List Call
calls_from i [] = []
calls_from i (x ∷ xs) = op_calls i x ++ calls_from (next i x) xs

-- The calls of a store whose log has so many blocks: the file, zeros in all its blocks, and then what is asked.
abbrev pub calls_of : ℕ → List Op → List Call
calls_of room xs = Create log_path ∷ (fills room ++ (Fsync log_path ∷ calls_from 0 xs))

-- how many of them are puts
abbrev pub put_count : List Op → ℕ
put_count [] = 0
put_count (ops.Put p ∷ xs) = suc (put_count xs)
put_count (ops.Flush ∷ xs) = put_count xs

-- how many calls each is
abbrev pub call_count : List Op → ℕ
call_count [] = 0
call_count (ops.Put p ∷ xs) = 2 + call_count xs
call_count (ops.Flush ∷ xs) = 1 + call_count xs

-- each put has a key and a value of the lengths and characters that they may have
abbrev pub ArePuts : List Op → Type 0
ArePuts [] = Unit {0}
ArePuts (ops.Put p ∷ xs) = IsPut p × ArePuts xs
ArePuts (ops.Flush ∷ xs) = ArePuts xs

-- a put can be made as put number i
abbrev pub Fits : ℕ → Op → Type 0
Fits i (ops.Put p) = (i < MOST_ROOM) × IsPut p
Fits i ops.Flush = Unit {0}
