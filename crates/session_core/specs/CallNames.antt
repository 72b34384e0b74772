-- Barrier and sync calls by their names: which wait for the device, and what each is about.
use Rattle.std.specs.Prelude.{Bool, true, false}
use Rattle.tree_model.specs.declared.call.Call.{Call}
use Rattle.tree_model.specs.declared.call.Call.TheVariants.{Fsync, Fdatasync, Fbarrier, Fdatabarrier, Sync}

-- the five calls that promise something of what was written before
abbrev pub is_barrier_or_sync : Call → Bool
is_barrier_or_sync (Fsync path) = true
is_barrier_or_sync (Fdatasync path) = true
is_barrier_or_sync (Fbarrier path) = true
is_barrier_or_sync (Fdatabarrier path) = true
is_barrier_or_sync Sync = true
is_barrier_or_sync other = false

-- what it covers is durable once it was answered
abbrev pub is_sync_call : Call → Bool
is_sync_call (Fsync path) = true
is_sync_call (Fdatasync path) = true
is_sync_call Sync = true
is_sync_call other = false

-- it covers the data of its file alone
abbrev pub covers_data_alone : Call → Bool
covers_data_alone (Fdatasync path) = true
covers_data_alone (Fdatabarrier path) = true
covers_data_alone other = false

-- it covers all files
abbrev pub covers_all_files : Call → Bool
covers_all_files Sync = true
covers_all_files other = false
