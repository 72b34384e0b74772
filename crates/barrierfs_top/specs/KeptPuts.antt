-- What `kv` promises of the bytes that it writes.
use Rattle.std.specs.Prelude.{◌≡◌, ℕ, ◌<◌, ◌≤◌, List, length, take, Option, Some, None, Ok, slice_get}
use Rattle.tree_model.specs.Calls.{Tree}
use Rattle.tree_model.specs.Histories.{block_at}
use Rattle.tree_model.specs.Trees.{node_of_path}
use Rattle.mount_make.specs.Images.{image_tree}
use Rattle.wal_store.specs.declared.puts.Put.{Put}
use Rattle.wal_store.specs.Blocks.{decode}
use Rattle.store_grammar.specs.declared.script.StoreScript.{StoreScript}
use Rattle.store_grammar.specs.Grammar.{store_of}
use Rattle.store_grammar.specs.Made.{volume_script}
use Rattle.store_core.specs.declared.report.StoreSummary.{StoreSummary}
use Rattle.store_core.specs.Program.{NoneFull, log_names}
use Rattle.store_core.specs.Runs.{held_on}
use Rattle.store_core.specs.Stores.{WasPut, acknowledged_in, held_of, puts_in}
use Rattle.store_core.specs.SummaryText.{summary_text}
use Rattle.session_core.specs.Core.{EndState, core}
use Rattle.barrierfs_top.specs.declared.command_line.InputTask.TheVariants as commands
use Rattle.barrierfs_top.specs.declared.fault.TopFault.{TopFault}
use Rattle.barrierfs_top.specs.Promise.{IsWritten}
use Rattle.barrierfs_top.specs.Top.{WasRead}

-- where a store's session ends
abbrev pub store_end : StoreScript → EndState
store_end x = core (volume_script x)

-- The source spells a store's script, and the bytes are the text of its session. So many puts are held as it says, and these pairs are
-- what they leave.
pub record TellsStore (old new : Option (List ℕ)) (fault : Option TopFault) (bytes : List ℕ) : Type 0 where
  pub script : StoreScript
  pub read : WasRead commands.Kv old new (λ input. store_of input ≡ Ok script)
  -- what the text says
  pub summary : StoreSummary
  pub written : IsWritten fault (summary_text summary) bytes
  pub steps : summary.steps ≡ (store_end script).dev.steps
  pub requests : summary.requests ≡ length (store_end script).host.journal.flush.requests
  pub acknowledged : summary.acknowledged ≡ acknowledged_in (store_end script)
  -- The tree is that of the medium as the session's device left it, once it was recovered, and holds what is printed.
  pub tree : Tree
  pub recovered : image_tree (store_end script).dev.surface ≡ Ok tree
  pub held : summary.held ≡ held_on script.room tree
  -- Where no call was turned away for want of requests, no fewer puts are held than were acknowledged.
  pub acknowledged_held : NoneFull (store_end script) → summary.acknowledged ≤ summary.held.count
  -- They are the first ones of the script, and each of them was answered Ok.
  pub held_first : NoneFull (store_end script) → held_of script tree ≡ take summary.held.count (puts_in script.ops)
  pub held_answered : NoneFull (store_end script) → (i : ℕ) → i < summary.held.count → (p : Put) × (slice_get (puts_in script.ops) i ≡ Some p) × WasPut (store_end script) i p
  -- No block of the log behind them spells a put: nothing that was put later survived a put that was lost.
  pub nothing_later : NoneFull (store_end script) → (g j : ℕ) (b : List ℕ) → node_of_path tree log_names ≡ Ok g → summary.held.count ≤ j → block_at tree g j ≡ Some b → decode b ≡ None
