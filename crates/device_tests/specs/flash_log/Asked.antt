-- What the tests ask of the flash log: four blocks, and ids up to 64 that are given in order.
use Rattle.std.specs.Prelude.{◌≡◌, ℕ, length, Some, slice_get}
use Rattle.order_model.specs.Received.{all_ids}
use Rattle.flog_device.specs.Device.{FlogState, surface}

-- the ids 0 to n were taken, in order
pub record HasTaken (s : FlogState) (n : ℕ) : Type 0 where
  pub ids : (i id : ℕ) → slice_get (all_ids s.took) i ≡ Some id → id ≡ i
  pub count : length (all_ids s.took) ≡ n
  pub blocks : length (surface s) ≡ 4
  pub limit : s.limit ≡ 64
