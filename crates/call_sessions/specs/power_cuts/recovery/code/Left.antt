-- What attempts of recovery leave as it was.
use Rattle.std.specs.Prelude.{◌≡◌, ℕ, ◌<◌, List, length, None}
use Rattle.journal_replay.specs.Recovered.{recovered, journal_fault}
use Rattle.mount_make.specs.code.Mounting.{KeepsImage}

-- the image that is left has a journal without a fault still, and recovers to the same
pub record IsLeft (base : ℕ) (image left : List (List ℕ)) : Type 0 where
  pub within : base < length left
  pub fine : journal_fault base left ≡ None
  pub recovered : recovered base left ≡ recovered base image
  pub keeps : KeepsImage base image left
