-- What the private functions of the code ask, find and answer.
use Rattle.std.specs.Prelude.{◌≡◌, ℕ, ◌<◌, ◌≤◌, Bool, true, false, length, is_some, List, [], ◌∷◌, filter, Option, Some, slice_get, slice_set, if◌then◌else◌}
use Rattle.std.specs.Option.{option_map, option_map_or}
use Rattle.blk_base.specs.Members.{In}
use Rattle.order_model.specs.declared.command.Command.{Command}
use Rattle.device_epochs.specs.queue.Queue.{QueueState, Waiting, eligible, picked}
use Rattle.flog_device.specs.Log.{Page, is_covered, body_at}
use Rattle.flog_device.specs.Device.{fits}

-- ---- the log

-- the oldest page is programmed
abbrev pub can_fold : List Page → Bool
can_fold [] = false
can_fold (p ∷ ps) = p.programmed

-- the page is of a part that was taken, and of a block that is there
pub record IsPageOf (parts blocks : ℕ) (p : Page) : Type 0 where
  pub part : p.place.part < parts
  pub block : p.place.block < blocks

-- the data area, and the parts that it has, once the oldest page of this log was folded
abbrev pub area_folded : List Command → List Page → List (List ℕ) → List (List ℕ)
area_folded took [] area = area
area_folded took (p ∷ ps) area = if is_covered p.place.block ps then area else slice_set area p.place.block (body_at took p.place.part [])

abbrev pub origins_folded : List Page → List (Option ℕ) → List (Option ℕ)
origins_folded [] origins = origins
origins_folded (p ∷ ps) origins = if is_covered p.place.block ps then origins else slice_set origins p.place.block (Some p.place.part)

-- ---- the commands that may go

-- those that the log has places for, and no flush while a page is not programmed
abbrev pub fitting : ℕ → Bool → QueueState → List Waiting
fitting free programmed q = filter (λ (w : Waiting). fits free programmed w.command) (eligible q.waiting)

-- the command at this place of the eligible list is the one at place pick of those that fit
pub record IsChosen (free : ℕ) (programmed : Bool) (q : QueueState) (pick at : ℕ) : Type 0 where
  pub chosen : Waiting
  pub there : picked q at ≡ Some chosen
  pub fits : slice_get (fitting free programmed q) pick ≡ Some chosen

-- the first command of the eligible list is a flush
abbrev pub starts_with_flush : QueueState → Bool
starts_with_flush q = option_map_or (λ (c : Command). is_some c.flush) (option_map (λ (w : Waiting). w.command) (picked q 0)) false

-- each command has at most as many parts as a segment has places, and a flush that is eligible is the first
pub record IsOrderly (q : QueueState) : Type 0 where
  pub small : (w : Waiting) → In w q.waiting → length w.command.parts ≤ 16
  pub first : (w : Waiting) → In w (eligible q.waiting) → is_some w.command.flush ≡ true → starts_with_flush q ≡ true
