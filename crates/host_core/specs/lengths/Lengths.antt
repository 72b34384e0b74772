-- How much a call tells, and how many blocks of a file it may write.
use Rattle.std.specs.Prelude.{ℕ, ◌+◌, ◌/◌, length}
use Rattle.tree_model.specs.declared.call.Call.{Call}
use Rattle.tree_model.specs.declared.call.Call.TheVariants as calls
use Rattle.volume_model.specs.Touched.{Touched}

-- what a transaction notes of it: blocks, revokes and nodes
abbrev pub notes_in : Touched → ℕ
notes_in t = length t.blocks + length t.revoked + length t.nodes

-- the bytes that a call writes
abbrev pub bytes_in : Call → ℕ
bytes_in (calls.Write path off len value) = len
bytes_in (calls.Bytes path off bytes) = length bytes
bytes_in other = 0

-- so many blocks have them, wherever they begin
abbrev pub blocks_in : Call → ℕ
blocks_in c = bytes_in c / 1024 + 2
