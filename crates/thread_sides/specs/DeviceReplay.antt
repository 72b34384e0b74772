-- What the events of the device's side make of the device that a session opens.
use Rattle.std.specs.Prelude.{◌≡◌, ℕ, suc, Bool, false, List, [], ◌∷◌, ◌++◌, length, replicate, Option, Some, None, if◌then◌else◌}
use Rattle.std.specs.Option.{option_to_list}
use Rattle.order_model.specs.declared.command.Command.{Command}
use Rattle.order_model.specs.declared.completion.Completion.{Completion}
use Rattle.order_model.specs.Device.{Seen}
use Rattle.order_model.specs.Machine.{Machine}
use Rattle.order_model.specs.Received.{all_ids}
use Rattle.order_model.specs.Steps.{IsMadeAs}
use Rattle.thread_sides.specs.Admitted.{AreCounted, may_take, flags_behind}
use Rattle.thread_sides.specs.declared.events.DeviceEvent.{DeviceEvent}
use Rattle.thread_sides.specs.declared.events.DeviceEvent.TheVariants as noted

-- the device, which ids it took, the completion that found its queue full, and a command that it may not be given
pub record DeviceNow (S : Type 0) : Type 0 where
  pub dev : S
  pub flags : List Bool
  pub kept : Option Completion
  pub unfit : Option Command

-- it takes this command, transfers or writes that of a pick, or sends the completion that it kept, or the next one
pub data DeviceStep : Type 0 where
  Takes : Command → DeviceStep
  Moves : ℕ → DeviceStep
  Writes : ℕ → DeviceStep
  Sends : Bool → DeviceStep

-- the steps that these events are, where it took these commands, one at each `Receive`
abbrev pub with_commands : List DeviceEvent → List Command → List DeviceStep
with_commands [] cs = []
with_commands (noted.Transfer pick ∷ es) cs = Moves pick ∷ with_commands es cs
with_commands (noted.Persist pick ∷ es) cs = Writes pick ∷ with_commands es cs
with_commands (noted.Answer full ∷ es) cs = Sends full ∷ with_commands es cs
with_commands (noted.Receive ∷ es) [] = with_commands es []
with_commands (noted.Receive ∷ es) (c ∷ cs) = Takes c ∷ with_commands es cs

-- how many commands they took
abbrev pub receives : List DeviceEvent → ℕ
receives [] = 0
receives (noted.Receive ∷ es) = suc (receives es)
receives (noted.Transfer pick ∷ es) = receives es
receives (noted.Persist pick ∷ es) = receives es
receives (noted.Answer full ∷ es) = receives es

module _ {S : Type 0} (m : Machine S) where
  -- a command that it may be given is received; any other one is put aside, and the flags are of no use then
  abbrev pub taken_in : DeviceNow S → Command → DeviceNow S
  taken_in s c =
      if may_take s.flags (length (m.seen s.dev).surface) c then record s { dev = m.received s.dev c; flags = flags_behind s.flags c }
      else record s { unfit = Some c; flags = [] }

  -- what is kept of a completion that was to be sent
  abbrev pub kept_by : Bool → Option Completion → Option Completion
  kept_by full c = if full then c else None

  -- the completion that is kept is sent, or else the next one
  abbrev pub sent_from : DeviceNow S → Bool → Option Completion → DeviceNow S
  sent_from s full (Some c) = record s { kept = kept_by full (Some c) }
  sent_from s full None = record s { dev = m.answered s.dev; kept = kept_by full (m.next_answer s.dev) }

  -- what a step makes of the side
  abbrev pub stepped : DeviceNow S → DeviceStep → DeviceNow S
  stepped s (Takes c) = taken_in s c
  stepped s (Moves pick) = record s { dev = m.transferred s.dev pick }
  stepped s (Writes pick) = record s { dev = m.persisted s.dev pick }
  stepped s (Sends full) = sent_from s full s.kept

  -- what these steps make of it, one after the other
  abbrev pub steps : DeviceNow S → List DeviceStep → DeviceNow S
  steps s [] = s
  steps s (e ∷ es) = steps (stepped s e) es

  -- as the session opens it: no id came
  abbrev pub opened_side : S → DeviceNow S
  opened_side dev = record { dev = dev; flags = replicate (m.seen dev).limit false; kept = None; unfit = None }

-- the side, its events, and what went through its ends of the queues
pub record DeviceSideNow (S : Type 0) : Type 0 where
  pub now : DeviceNow S
  pub events : List DeviceEvent
  pub sent : List Completion
  pub taken : List Command

-- The side is the replay of its events, from what the session opens, over the commands that it took. Its device took what it took, but
-- for the command that is put aside, and it sent what the device handed out, but for the completion that is kept.
pub record IsDeviceReplay {S : Type 0} (m : Machine S) (first : S) (s : DeviceSideNow S) : Type 0 where
  pub replay : s.now ≡ steps m (opened_side m first) (with_commands s.events s.taken)
  -- as many commands were taken as there are `Receive` events
  pub counted : receives s.events ≡ length s.taken
  pub received : s.taken ≡ (m.seen s.now.dev).took ++ option_to_list s.now.unfit
  pub sent : (m.seen s.now.dev).sent ≡ s.sent ++ option_to_list s.now.kept
  -- the device is still made as the one that the session opens
  pub made : IsMadeAs (m.seen first) (m.seen s.now.dev)
  -- while no command is put aside, there is a flag for each id that the device may take
  pub limit_is : s.now.unfit ≡ None → length s.now.flags ≡ (m.seen s.now.dev).limit
  -- and up are those of the ids that it took, which differ
  pub ids : s.now.unfit ≡ None → AreCounted s.now.flags (all_ids (m.seen s.now.dev).took)

-- what contracts see of it
pub record DeviceSideSeen : Type 0 where
  pub seen : Seen
  pub events : List DeviceEvent
  pub sent : List Completion
  pub taken : List Command

-- a device that came out of its side, with the events of that side and what went through its ends
pub record WasInSide {S : Type 0} (m : Machine S) (first dev : S) (events : List DeviceEvent) (sent : List Completion) (taken : List Command) : Type 0 where
  pub flags : List Bool
  pub kept : Option Completion
  pub unfit : Option Command
  pub side : IsDeviceReplay m first (record { now = record { dev = dev; flags = flags; kept = kept; unfit = unfit }; events = events; sent = sent; taken = taken })
