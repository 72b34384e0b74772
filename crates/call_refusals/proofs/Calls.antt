-- All calls: each is refused by the first row that holds.
use Rattle.std.specs.Prelude.{◌≡◌, ◌↔◌, ℕ, replicate, Err, IsOk}
use Rattle.tree_model.specs.declared.call.Call.{Call}
use Rattle.tree_model.specs.declared.call.Call.TheVariants as calls
use Rattle.tree_model.specs.declared.call.Reply.{Reply}
use Rattle.tree_model.specs.declared.call.Room.{Room}
use Rattle.tree_model.specs.Plain.{IsPlain, AreBornBefore}
use Rattle.tree_model.specs.Calls.{Tree, row, outcome}
use Rattle.call_refusals.specs.Tables.{table, IsFirst, NoneHolds}
use Rattle.call_refusals.proofs.Told.{Told, told_refused, told_done}
use Rattle.call_refusals.proofs.Names.{mkdir_told, create_told, rmdir_told, unlink_told, link_told}
use Rattle.call_refusals.proofs.Bytes.{write_told, truncate_told, read_told, list_told, stat_told, barrier_told, sync_told}
use Rattle.call_refusals.proofs.Renames.{rename_told}

module _ (room : Room) (tree : Tree) (plain : IsPlain tree) (n : ℕ) (born : AreBornBefore n tree) where
  call_told : (c : Call) → Told room tree (table c) (outcome room tree n c)
  unfolding outcome row
  call_told (calls.Mkdir path) = mkdir_told room tree plain n born path
  call_told (calls.Create path) = create_told room tree plain n born path
  call_told (calls.Rmdir path) = rmdir_told room tree plain n born path
  call_told (calls.Unlink path) = unlink_told room tree plain n born path
  call_told (calls.Link path other) = link_told room tree plain n born path other
  call_told (calls.Rename path other) = rename_told room tree plain path other
  call_told (calls.Write path off len value) = write_told room tree plain path off (replicate len value)
  call_told (calls.Bytes path off bytes) = write_told room tree plain path off bytes
  call_told (calls.Truncate path size) = truncate_told room tree plain path size
  call_told (calls.Read path off len) = read_told room tree plain path off len
  call_told (calls.List path) = list_told room tree plain path
  call_told (calls.Stat path) = stat_told room tree plain path
  call_told (calls.Fsync path) = barrier_told room tree plain path
  call_told (calls.Fdatasync path) = barrier_told room tree plain path
  call_told (calls.Fbarrier path) = barrier_told room tree plain path
  call_told (calls.Fdatabarrier path) = barrier_told room tree plain path
  call_told calls.Sync = sync_told room tree plain

  pub refused_first : (c : Call) (reply : Reply) → (outcome room tree n c ≡ Err reply) ↔ IsFirst room tree (table c) reply
  refused_first c reply = told_refused room tree (table c) (outcome room tree n c) (call_told c) reply

  pub done_where_none : (c : Call) → IsOk (outcome room tree n c) ↔ NoneHolds room tree (table c)
  done_where_none c = told_done room tree (table c) (outcome room tree n c) (call_told c)
