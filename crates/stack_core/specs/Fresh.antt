-- Fresh devices for a recovery.
use Rattle.std.specs.Prelude.{◌≡◌, ℕ, ◌+◌, ◌≤◌, List, [], ◌∷◌, length, None}
use Rattle.order_model.specs.Device.{Seen, IsUntouched}
use Rattle.device_epochs.specs.declared.device.DeviceSetup.{DeviceSetup}
use Rattle.device_epochs.specs.Device.{DeviceState, opened}
use Rattle.flog_device.specs.Device as flash
use Rattle.flog_device.specs.Device.{FlogState}
use Rattle.flog_device.specs.declared.device.FlogSetup.{FlogSetup}

-- It was made over this image with no power cut and no transfer that fails, and nothing was asked of it yet. It may take so many ids as
-- the image has blocks, and two more: a recovery writes each block once at most, then the journal's superblock, and flushes.
pub record IsFresh (image : List (List ℕ)) (s : Seen) : Type 0 where
  pub base : s.base ≡ image
  pub surface : s.surface ≡ image
  pub untouched : IsUntouched s
  pub cut_at : s.cut_at ≡ None
  pub fail_at : s.fail_at ≡ None
  pub room : length image + 2 ≤ s.limit

-- a model device of this depth over an image, with room for a recovery of it; nothing fails on it, and it stays on
abbrev pub setup_over : ℕ → List (List ℕ) → DeviceSetup
setup_over depth image = record { depth = depth; limit = length image + 2; fail_at = None; bad_read = None; cut_at = None }

-- a new model device with this setup
abbrev pub device_over : ℕ → List (List ℕ) → DeviceState
device_over depth image = opened image (setup_over depth image)

-- the same from a maker's setup, whose one number is the depth
abbrev pub fresh_device : List ℕ → List (List ℕ) → DeviceState
fresh_device [] image = device_over 1 image
fresh_device (depth ∷ others) image = device_over depth image

-- ---- flash logs

-- the numbers of a maker of flash logs
pub record FlogNumbers : Type 0 where
  pub depth : ℕ
  pub segments : ℕ

-- a flash log of this depth and so many segments over an image, with room for a recovery of it; nothing fails on it, and it stays on
abbrev pub flash_setup_over : ℕ → ℕ → List (List ℕ) → FlogSetup
flash_setup_over depth segments image = record { depth = depth; limit = length image + 2; segments = segments; fail_at = None; cut_at = None }

-- a new flash log with this setup
abbrev pub flash_over : ℕ → ℕ → List (List ℕ) → FlogState
flash_over depth segments image = flash.opened image (flash_setup_over depth segments image)

-- the same from a maker's setup, whose two numbers are the depth and the segments
abbrev pub fresh_flash : List ℕ → List (List ℕ) → FlogState
fresh_flash [] image = flash_over 1 3 image
fresh_flash (depth ∷ []) image = flash_over depth 3 image
fresh_flash (depth ∷ segments ∷ others) image = flash_over depth segments image
