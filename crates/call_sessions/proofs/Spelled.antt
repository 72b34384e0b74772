-- Calls that are read from a script write bytes.
use Rattle.tree_model.specs.declared.call.Call.{Call}
use Rattle.tree_model.specs.declared.call.Call.TheVariants as calls
use Rattle.line_grammar.specs.calls.WellFormed.{IsWellFormed}
use Rattle.minix_host.specs.ByteCalls.{HasBytes}

pub well_formed_bytes : (c : Call) → IsWellFormed c → HasBytes c
well_formed_bytes (calls.Write path off len value) h = h.2
well_formed_bytes (calls.Bytes path off bytes) h = h.2.each
well_formed_bytes (calls.Mkdir path) h = tt
well_formed_bytes (calls.Rmdir path) h = tt
well_formed_bytes (calls.Create path) h = tt
well_formed_bytes (calls.Unlink path) h = tt
well_formed_bytes (calls.Link path other) h = tt
well_formed_bytes (calls.Rename path other) h = tt
well_formed_bytes (calls.Truncate path size) h = tt
well_formed_bytes (calls.Read path off len) h = tt
well_formed_bytes (calls.List path) h = tt
well_formed_bytes (calls.Stat path) h = tt
well_formed_bytes (calls.Fsync path) h = tt
well_formed_bytes (calls.Fdatasync path) h = tt
well_formed_bytes (calls.Fbarrier path) h = tt
well_formed_bytes (calls.Fdatabarrier path) h = tt
well_formed_bytes calls.Sync h = tt
