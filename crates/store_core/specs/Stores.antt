-- A store's session: the puts that were acknowledged, and those that are held in what is left of it.
use Rattle.std.specs.Prelude.{◌&&◌, Bool, true, false, if◌then◌else◌, ℕ, zero, suc, ◌+◌, ◌-◌, ◌*◌, List, [], ◌∷◌, take, Option, Some, None, Ok, Err}
use Rattle.std.specs.Option.{option_map}
use Rattle.tree_model.specs.declared.call.Call.{Call}
use Rattle.tree_model.specs.declared.call.Call.TheVariants as calls
use Rattle.tree_model.specs.declared.call.Reply.{Reply}
use Rattle.tree_model.specs.declared.call.Reply.TheVariants as replies
use Rattle.tree_model.specs.Calls.{Tree, one_if}
use Rattle.tree_model.specs.Histories.{block_at, is_ok}
use Rattle.tree_model.specs.Trees.{node_of_path}
use Rattle.wal_store.specs.declared.puts.Put.{Put}
use Rattle.wal_store.specs.declared.puts.Op as store
use Rattle.wal_store.specs.declared.puts.Op.TheVariants as ops
use Rattle.wal_store.specs.Blocks.{encode, decode}
use Rattle.wal_store.specs.Log.{held_puts}
use Rattle.wal_store.specs.calls.Calls.{log_path, calls_from, fill_count}
use Rattle.store_grammar.specs.declared.script.StoreScript.{StoreScript}
use Rattle.host_machine.specs.State.{Ending, Answered, Begins, Ends, Entry}
use Rattle.call_sessions.specs.promises.Entries.{EndsAt}
use Rattle.call_sessions.specs.promises.Legal.{events_in}
use Rattle.session_core.specs.Core.{EndState}
use Rattle.store_core.specs.Order.{ends, StandsBefore}
use Rattle.store_core.specs.Program.{log_names}

-- the number of the put that a block spells
abbrev pub number_in : List ℕ → Option ℕ
number_in b = option_map (λ (x : ℕ × Put). x.0) (decode b)

-- the puts, without the flushes
abbrev pub puts_in : List store.Op → List Put
puts_in [] = []
puts_in (ops.Put p ∷ xs) = p ∷ puts_in xs
puts_in (ops.Flush ∷ xs) = puts_in xs

-- ---- acknowledged puts

-- the call that writes a put to the log
abbrev pub is_put : Call → Bool
is_put (calls.Bytes path off bytes) = true
is_put other = false

-- the call that makes the puts before it durable
abbrev pub is_flush : Call → Bool
is_flush (calls.Fdatasync path) = true
is_flush other = false

abbrev pub is_answered_ok : Ending Reply → Bool
is_answered_ok (Answered reply) = is_ok reply
is_answered_ok other = false

-- Put i, and the barrier call behind it, stand before the call that ends at entry e, among what is asked of the store. In front of
-- it stand the calls that make its log.
abbrev pub IsPutBefore : StoreScript → EndState → ℕ → ℕ → Type 0
IsPutBefore x end i e = StandsBefore log_path (calls_from 0 x.ops) i (ends (take e (events_in end.host.history)) - (fill_count x.room + 2))

-- the entry ends a put
abbrev pub is_put_end : Entry Call Reply → Bool
is_put_end e = elim e.what as (λ _. Bool) [ Begins ↦ false | Ends x ↦ is_put e.call ]

-- it answers a flush with Ok
abbrev pub is_flushed : Entry Call Reply → Bool
is_flushed e = elim e.what as (λ _. Bool) [ Begins ↦ false | Ends x ↦ is_answered_ok x && is_flush e.call ]

-- As many puts as ended before the last flush that was answered Ok, or none.
abbrev pub acknowledged_from : ℕ → ℕ → List (Entry Call Reply) → ℕ
acknowledged_from puts last [] = last
acknowledged_from puts last (e ∷ es) = acknowledged_from (puts + one_if (is_put_end e)) (if is_flushed e then puts else last) es

-- how many puts the store was told are durable, when the session ended
abbrev pub acknowledged_in : EndState → ℕ
acknowledged_in end = acknowledged_from 0 0 end.host.history

-- ---- held puts

-- the blocks of a file from block i on, up to the first that is not mapped, so many at most
abbrev pub blocks_from : Tree → ℕ → ℕ → ℕ → List (List ℕ)
blocks_from tree file i zero = []
blocks_from tree file i (suc n) = elim (block_at tree file i) as (λ _. List (List ℕ)) [ None ↦ [] | Some b ↦ b ∷ blocks_from tree file (i + 1) n ]

-- the blocks of the log in a tree; none where it has no log
abbrev pub log_in : ℕ → Tree → List (List ℕ)
log_in room tree = elim (node_of_path tree log_names) as (λ _. List (List ℕ)) [ Err refusal ↦ [] | Ok file ↦ blocks_from tree file 0 room ]

-- The puts that a tree holds of a store.
abbrev pub held_of : StoreScript → Tree → List Put
held_of x tree = held_puts (log_in x.room tree)

-- put number i of the store was answered Ok
abbrev pub WasPut : EndState → ℕ → Put → Type 0
WasPut end i p = (e : ℕ) × (t : ℕ) × EndsAt end.host.history e t (calls.Bytes log_path (1024 * i) (encode (i + 1) p)) (Answered replies.Ok)
