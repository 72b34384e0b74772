-- A model device on which a journal can be recovered.
use Rattle.std.specs.Prelude.{◌≡◌, ℕ, ◌+◌, ◌≤◌, [], length, None}
use Rattle.order_model.specs.Device.{IsQuiet}
use Rattle.device_epochs.specs.Device.{DeviceState, seen}

pub record IsReady (blocks : ℕ) (s : DeviceState) : Type 0 where
  pub quiet : IsQuiet (seen s)
  pub fresh : s.took ≡ []
  pub on : s.cut_at ≡ None
  pub size : length s.surface ≡ blocks
  pub room : blocks + 2 ≤ s.limit
