-- Calls as code has them, whose bytes are bytes.
use Rattle.std.specs.Prelude.{◌<◌}
use Rattle.tree_model.specs.declared.call.Call.{Call}
use Rattle.tree_model.specs.declared.call.Call.TheVariants as calls
use Rattle.minix_host.specs.Volumes.{AreBytes}

-- what the call writes is bytes
abbrev pub HasBytes : Call → Type 0
HasBytes (calls.Write path off len value) = value < 256
HasBytes (calls.Bytes path off bytes) = AreBytes bytes
HasBytes other = Unit {0}

-- a call, with the proof that what it writes is bytes
pub record ByteCall : Type 0 where
  pub call : Call
  pub bytes : HasBytes call
