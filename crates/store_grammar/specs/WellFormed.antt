-- What holds of every store's script that is read.
use Rattle.std.specs.Prelude.{◌≡◌, ℕ, ◌+◌, ◌≤◌, List, length, Some}
use Rattle.blk_base.specs.Members.{In}
use Rattle.script_words.specs.declared.limits.TheConstants.{MOST_EVENTS}
use Rattle.script_grammar.specs.declared.limits.TheConstants.{MOST_DEPTH, MOST_QUEUE, MOST_STEPS, MOST_TRANSFERS}
use Rattle.line_grammar.specs.declared.events.event.EventLine.{EventLine}
use Rattle.line_grammar.specs.declared.events.steer.Steer.{Steer}
use Rattle.line_grammar.specs.events.WellFormed.{IsSteerLine}
use Rattle.session_grammar.specs.declared.limits.TheConstants.{MOST_CALLS, MOST_RECOVERS}
use Rattle.session_grammar.specs.WellFormed.{IsEventOf, expanded_of}
use Rattle.wal_store.specs.calls.Calls.{ArePuts, call_count, fill_count, put_count}
use Rattle.store_grammar.specs.declared.limits.TheConstants.{MOST_STORE}
use Rattle.store_grammar.specs.declared.script.StoreHeader.{StoreHeader}
use Rattle.store_grammar.specs.declared.script.StoreScript.{StoreScript}

-- the numbers of the header lines are within their limits
pub record IsHeader (h : StoreHeader) : Type 0 where
  pub some_depth : 1 ≤ h.depth
  pub depth : h.depth ≤ MOST_DEPTH
  pub some_queue : 1 ≤ h.queue
  pub queue : h.queue ≤ MOST_QUEUE
  pub least_fail : (n : ℕ) → h.fail ≡ Some n → 1 ≤ n
  pub most_fail : (n : ℕ) → h.fail ≡ Some n → n ≤ MOST_TRANSFERS
  pub cut : (n : ℕ) → h.cut ≡ Some n → n ≤ MOST_STEPS

-- a script whose log has room for its puts, with numbers, calls and events within their limits
pub record IsWellFormed (s : StoreScript) : Type 0 where
  pub some_room : 1 ≤ s.room
  pub room : s.room ≤ MOST_STORE
  pub header : IsHeader s.header
  pub puts : ArePuts s.ops
  pub few_puts : put_count s.ops ≤ s.room
  -- with those that make the log and fill it
  pub few_calls : fill_count s.room + 2 + call_count s.ops ≤ MOST_CALLS
  pub events : (l : EventLine) → In l s.events → IsEventOf 1 l
  pub expanded : expanded_of 1 s.events ≤ MOST_EVENTS
  pub recovers : (ss : List Steer) → In ss s.recovers → IsSteerLine ss
  pub few_recovers : length s.recovers ≤ MOST_RECOVERS
