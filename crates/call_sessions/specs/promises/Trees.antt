-- The trees of a session: that after so many of its entries.
use Rattle.std.specs.Prelude.{ℕ, List, [], map, unwrap_or}
use Rattle.tree_model.specs.declared.call.Call.{Call}
use Rattle.tree_model.specs.declared.call.Reply.{Reply}
use Rattle.tree_model.specs.Calls.{Tree}
use Rattle.tree_model.specs.Histories.{block_at, tree_after_entries}
use Rattle.volume_steps.specs.Now.{VolumeNow, room_of}
use Rattle.host_machine.specs.State.{Host}
use Rattle.minix_host.specs.Sessions.{Opening}
use Rattle.call_sessions.specs.Sessions.{acting_call}

-- as `tree_behind` of call_sessions has it behind a transaction
abbrev pub tree_at : Opening → Host VolumeNow Call Reply → ℕ → Tree
tree_at s h n = tree_after_entries (room_of s.geometry) s.tree.tree s.first (map acting_call h.history) n

-- the bytes of a block of a file in that tree, none where the tree does not map it
abbrev pub content_at : Opening → Host VolumeNow Call Reply → ℕ → ℕ → ℕ → List ℕ
content_at s h n f i = unwrap_or (block_at (tree_at s h n) f i) []
