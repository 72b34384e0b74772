-- A session on an image that was made.
use Rattle.std.specs.Prelude.{◌≡◌, ℕ, ◌≤◌, List, []}
use Rattle.minix_layout.specs.declared.division.Geometry.{Geometry}
use Rattle.order_model.specs.Carrying.{SchedSeen}
use Rattle.order_model.specs.Device.{Seen}
use Rattle.schedulers.specs.reassign.Scheduler.{IsNewScheduler}
use Rattle.tree_model.specs.declared.call.Call.{Call}
use Rattle.call_sessions.specs.Sessions.{made_now, made_ring}
use Rattle.session_core.specs.run.machine.Machine.{Start}

-- a session on a volume that was just made, whose journal is empty
abbrev pub made_start : Geometry → ℕ → ℕ → ℕ → List (List Call) → Start
made_start g journal limit capacity programs = record { volume = made_now g; ring = made_ring journal; limit = limit; capacity = capacity; programs = programs }

-- a scheduler that is new, however many may wait in it, and a device over this image that took nothing, for so many requests
pub record IsNew (base : List (List ℕ)) (limit : ℕ) (p : SchedSeen) (d : Seen) : Type 0 where
  pub image : d.base ≡ base
  pub took : d.took ≡ []
  pub sent : d.sent ≡ []
  pub ids : limit ≤ d.limit
  pub scheduler : IsNewScheduler limit p.capacity p
