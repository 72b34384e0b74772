-- How many zones wait for transactions below one.
use Rattle.std.specs.List.{filter}
use Rattle.std.specs.Prelude.{ℕ, length, nat_lt}
use Rattle.volume_steps.specs.Now.{VolumeNow}
use Rattle.host_machine.specs.Model.{Freed}
use Rattle.minix_host.specs.Volumes.{zones_of}

-- zones that wait for the transaction of this number do not count
abbrev pub waits_below : VolumeNow → ℕ → ℕ
waits_below v number = length (filter (λ (z : Freed). nat_lt z.transaction number) (zones_of v).waiting)
