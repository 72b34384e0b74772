-- The bytes that are written.
use Rattle.std.specs.Prelude.{ℕ, List, replicate}
use Rattle.volume_in_use.specs.declared.bytes.content.Content.{Content}
use Rattle.volume_in_use.specs.declared.bytes.content.Content.TheVariants as contents

abbrev pub bytes_of : Content → List ℕ
bytes_of (contents.Same len value) = replicate len value
bytes_of (contents.Bytes bytes) = bytes.now
