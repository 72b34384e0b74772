-- What the tests ask of a device: commands whose ids are given in order, for four blocks, and of the first one sixteen ids.
use Rattle.std.specs.Prelude.{◌≡◌, ℕ, ◌+◌, ◌<◌, ◌==◌, length, All, Some, is_some, slice_get}
use Rattle.order_model.specs.declared.part.Part.{Part}
use Rattle.order_model.specs.declared.command.Command.{Command}
use Rattle.order_model.specs.declared.command.Priority.TheVariants.{Ordered}
use Rattle.order_model.specs.Received.{ids_of, all_ids}
use Rattle.device_epochs.specs.Device.{DeviceState}

-- the ids 0 to n were taken, in order
pub record HasTaken (s : DeviceState) (n : ℕ) : Type 0 where
  pub ids : (i id : ℕ) → slice_get (all_ids s.took) i ≡ Some id → id ≡ i
  pub count : length (all_ids s.took) ≡ n
  pub blocks : length s.surface ≡ 4
  pub limit : s.limit ≡ 16

-- a command with the ids n to m
pub record IsNext (n m : ℕ) (c : Command) : Type 0 where
  pub whole : is_some c.flush ≡ (length c.parts == 0)
  pub ordered : c.priority ≡ Ordered
  pub within : All (λ (p : Part). p.block < 4) c.parts
  pub ids : (i id : ℕ) → slice_get (ids_of c) i ≡ Some id → id ≡ n + i
  pub count : n + length (ids_of c) ≡ m
