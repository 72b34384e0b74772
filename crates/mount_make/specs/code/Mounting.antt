-- What the steps of mounting leave as it was.
use Rattle.std.specs.Prelude.{◌≡◌, ℕ, ◌<◌, List, length}
use Rattle.order_model.specs.Device.{Seen, IsQuiet}
use Rattle.order_model.specs.Steps.{OnlyReads}
use Rattle.volume_ops.specs.Volume.{disk_of}
use Rattle.volume_ops.specs.laws.DeviceReads.{quiet_after, same_surface}
use Rattle.mount_make.specs.Images.{recovered_from}

-- a quiet device was read, and is quiet still
pub record HasRead (old new : Seen) : Type 0 where
  pub reads : OnlyReads old new
  pub same : new.surface ≡ old.surface
  pub quiet : IsQuiet new

pub has_read : (old new : Seen) → OnlyReads old new → IsQuiet old → HasRead old new
has_read old new reads quiet = record { reads = reads; same = same_surface old new reads; quiet = quiet_after old new reads quiet }

-- the image recovers to the same, and its superblock stays, which stands before the journal
pub record KeepsImage (base : ℕ) (old new : List (List ℕ)) : Type 0 where
  pub size : length new ≡ length old
  pub super_block : 1 < base → disk_of new 1 ≡ disk_of old 1
  pub recovered : recovered_from base new ≡ recovered_from base old
