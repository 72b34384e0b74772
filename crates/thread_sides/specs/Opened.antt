-- With what the scheduler and the device of a session are made.
use Rattle.std.specs.Prelude.{ℕ, Option, None}
use Rattle.device_epochs.specs.declared.device.DeviceSetup.{DeviceSetup}
use Rattle.flog_device.specs.declared.device.FlogSetup.{FlogSetup}

-- the numbers of a script's header, whichever scheduler and whichever device it names
pub record PartSetup : Type 0 where
  -- how many requests it has at most, which are the ids that the device may take
  pub limit : ℕ
  -- how many commands may wait in the device, and how many segments it has, where it is a flash log
  pub depth : ℕ
  pub segments : ℕ
  -- the number of the transfer that fails, and the steps at which the power goes off
  pub fail_at : Option ℕ
  pub cut_at : Option ℕ

-- with what a model device is made: no read of it fails
abbrev pub epoch_setup : PartSetup → DeviceSetup
epoch_setup s = record { depth = s.depth; limit = s.limit; fail_at = s.fail_at; bad_read = None; cut_at = s.cut_at }

-- with what a flash log is made
abbrev pub flog_setup : PartSetup → FlogSetup
flog_setup s = record { depth = s.depth; limit = s.limit; segments = s.segments; fail_at = s.fail_at; cut_at = s.cut_at }

-- the numbers of no session
abbrev pub no_setup : PartSetup
no_setup = record { limit = 0; depth = 0; segments = 0; fail_at = None; cut_at = None }
