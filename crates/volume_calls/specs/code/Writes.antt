-- The call that writes.
use Rattle.std.specs.Prelude.{ℕ, List}
use Rattle.tree_model.specs.declared.call.Call.{Call}
use Rattle.tree_model.specs.declared.call.Call.TheVariants as calls
use Rattle.volume_in_use.specs.declared.bytes.content.Content.{Content}
use Rattle.volume_in_use.specs.declared.bytes.content.Content.TheVariants as contents

-- a byte over and over, or bytes, from `off` on
abbrev pub write_call : List ℕ → ℕ → Content → Call
write_call path off (contents.Same len value) = calls.Write path off len value
write_call path off (contents.Bytes bytes) = calls.Bytes path off bytes.now
