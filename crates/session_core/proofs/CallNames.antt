-- The kind of each call is that of its name.
use Rattle.std.proofs.Common.{◌≡◌, refl}
use Rattle.tree_model.specs.declared.call.Call.{Call}
use Rattle.tree_model.specs.declared.call.Call.TheVariants as calls
use Rattle.flush_actor.specs.Kinds.{is_begun, is_data, is_durable, is_whole}
use Rattle.minix_host.specs.Calls.{kind_of}
use Rattle.session_core.specs.CallNames.{is_barrier_or_sync, is_sync_call, covers_data_alone, covers_all_files}

pub begun : (c : Call) → is_begun (kind_of c) ≡ is_barrier_or_sync c
begun (calls.Mkdir path) = refl
begun (calls.Rmdir path) = refl
begun (calls.Create path) = refl
begun (calls.Unlink path) = refl
begun (calls.Link path other) = refl
begun (calls.Rename path other) = refl
begun (calls.Truncate path size) = refl
begun (calls.Write path off len value) = refl
begun (calls.Bytes path off bytes) = refl
begun (calls.Read path off len) = refl
begun (calls.List path) = refl
begun (calls.Stat path) = refl
begun (calls.Fsync path) = refl
begun (calls.Fdatasync path) = refl
begun (calls.Fbarrier path) = refl
begun (calls.Fdatabarrier path) = refl
begun calls.Sync = refl

pub durable : (c : Call) → is_durable (kind_of c) ≡ is_sync_call c
durable (calls.Mkdir path) = refl
durable (calls.Rmdir path) = refl
durable (calls.Create path) = refl
durable (calls.Unlink path) = refl
durable (calls.Link path other) = refl
durable (calls.Rename path other) = refl
durable (calls.Truncate path size) = refl
durable (calls.Write path off len value) = refl
durable (calls.Bytes path off bytes) = refl
durable (calls.Read path off len) = refl
durable (calls.List path) = refl
durable (calls.Stat path) = refl
durable (calls.Fsync path) = refl
durable (calls.Fdatasync path) = refl
durable (calls.Fbarrier path) = refl
durable (calls.Fdatabarrier path) = refl
durable calls.Sync = refl

pub data_alone : (c : Call) → is_data (kind_of c) ≡ covers_data_alone c
data_alone (calls.Mkdir path) = refl
data_alone (calls.Rmdir path) = refl
data_alone (calls.Create path) = refl
data_alone (calls.Unlink path) = refl
data_alone (calls.Link path other) = refl
data_alone (calls.Rename path other) = refl
data_alone (calls.Truncate path size) = refl
data_alone (calls.Write path off len value) = refl
data_alone (calls.Bytes path off bytes) = refl
data_alone (calls.Read path off len) = refl
data_alone (calls.List path) = refl
data_alone (calls.Stat path) = refl
data_alone (calls.Fsync path) = refl
data_alone (calls.Fdatasync path) = refl
data_alone (calls.Fbarrier path) = refl
data_alone (calls.Fdatabarrier path) = refl
data_alone calls.Sync = refl

pub all : (c : Call) → is_whole (kind_of c) ≡ covers_all_files c
all (calls.Mkdir path) = refl
all (calls.Rmdir path) = refl
all (calls.Create path) = refl
all (calls.Unlink path) = refl
all (calls.Link path other) = refl
all (calls.Rename path other) = refl
all (calls.Truncate path size) = refl
all (calls.Write path off len value) = refl
all (calls.Bytes path off bytes) = refl
all (calls.Read path off len) = refl
all (calls.List path) = refl
all (calls.Stat path) = refl
all (calls.Fsync path) = refl
all (calls.Fdatasync path) = refl
all (calls.Fbarrier path) = refl
all (calls.Fdatabarrier path) = refl
all calls.Sync = refl
