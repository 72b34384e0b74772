-- What the events of the scheduler's side make of the scheduler that a session opens.
use Rattle.std.specs.Prelude.{◌≡◌, ℕ, suc, Bool, true, false, List, [], ◌∷◌, ◌++◌, length, map, set, replicate, Option, Some, None, if◌then◌else◌}
use Rattle.std.specs.Option.{option_to_list}
use Rattle.order_model.specs.declared.command.Command.{Command}
use Rattle.order_model.specs.declared.request.Request.{Request}
use Rattle.order_model.specs.Carrying.{SchedSeen}
use Rattle.schedulers.specs.reassign.Scheduler.{SchedSteps}
use Rattle.thread_sides.specs.Admitted.{AreFlagged, may_accept}
use Rattle.thread_sides.specs.declared.events.SchedEvent.{SchedEvent}
use Rattle.thread_sides.specs.declared.events.SchedEvent.TheVariants as noted

-- the scheduler, which ids it accepted, the command that found the dispatch queue full, and a request that it may not be given
pub record SchedNow (K : Type 0) : Type 0 where
  pub sched : K
  pub flags : List Bool
  pub kept : Option Command
  pub unfit : Option Request

-- it takes this request, or sends the command that it kept, or that of a pick, whether or not the queue is full
pub data SchedStep : Type 0 where
  Takes : Request → SchedStep
  Sends : ℕ → Bool → SchedStep

-- the steps that these events are, where they took these requests, one at each `Accept`
abbrev pub with_requests : List SchedEvent → List Request → List SchedStep
with_requests [] rs = []
with_requests (noted.Dispatch pick full ∷ es) rs = Sends pick full ∷ with_requests es rs
with_requests (noted.Accept ∷ es) [] = with_requests es []
with_requests (noted.Accept ∷ es) (r ∷ rs) = Takes r ∷ with_requests es rs

-- how many requests they took
abbrev pub accepts : List SchedEvent → ℕ
accepts [] = 0
accepts (noted.Accept ∷ es) = suc (accepts es)
accepts (noted.Dispatch pick full ∷ es) = accepts es

module _ {K : Type 0} (k : SchedSteps K) where
  -- a request that it may be given is accepted; any other one is put aside
  abbrev pub taken_in : SchedNow K → Request → SchedNow K
  taken_in s r =
      if may_accept s.flags (length (k.seen s.sched).accepted) r then record s { sched = k.accepted s.sched r; flags = set s.flags r.id true }
      else record s { unfit = Some r }

  -- what is kept of a command that was to be sent
  abbrev pub kept_by : Bool → Option Command → Option Command
  kept_by full c = if full then c else None

  -- the command that is kept is sent, or else that of the pick
  abbrev pub sent_from : SchedNow K → ℕ → Bool → Option Command → SchedNow K
  sent_from s pick full (Some c) = record s { kept = kept_by full (Some c) }
  sent_from s pick full None = record s { sched = k.dispatched s.sched pick; kept = kept_by full (k.command s.sched pick) }

  -- what a step makes of the side
  abbrev pub stepped : SchedNow K → SchedStep → SchedNow K
  stepped s (Takes r) = taken_in s r
  stepped s (Sends pick full) = sent_from s pick full s.kept

  -- what these steps make of it, one after the other
  abbrev pub steps : SchedNow K → List SchedStep → SchedNow K
  steps s [] = s
  steps s (e ∷ es) = steps (stepped s e) es

  -- as the session opens it: no id came
  abbrev pub opened_side : K → SchedNow K
  opened_side sched = record { sched = sched; flags = replicate (k.seen sched).limit false; kept = None; unfit = None }

-- the side, its events, and what went through its ends of the queues
pub record SchedSideNow (K : Type 0) : Type 0 where
  pub now : SchedNow K
  pub events : List SchedEvent
  pub sent : List Command
  pub taken : List Request

-- The side is the replay of its events, from what the session opens, over the requests that it took. Its scheduler accepted what it
-- took, but for the request that is put aside, and it sent what the scheduler sent out, but for the command that is kept.
pub record IsSchedReplay {K : Type 0} (k : SchedSteps K) (first : K) (s : SchedSideNow K) : Type 0 where
  pub replay : s.now ≡ steps k (opened_side k first) (with_requests s.events s.taken)
  -- as many requests were taken as there are `Accept` events
  pub counted : accepts s.events ≡ length s.taken
  pub accepted : s.taken ≡ (k.seen s.now.sched).accepted ++ option_to_list s.now.unfit
  pub sent : (k.seen s.now.sched).sent_out ≡ s.sent ++ option_to_list s.now.kept
  -- there is a flag for each id below the limit
  pub limit_is : length s.now.flags ≡ (k.seen s.now.sched).limit
  -- the flag of each id that was accepted is up
  pub flagged : AreFlagged s.now.flags (map (λ (q : Request). q.id) (k.seen s.now.sched).accepted)

-- what contracts see of it
pub record SchedSideSeen : Type 0 where
  pub seen : SchedSeen
  pub events : List SchedEvent
  pub sent : List Command
  pub taken : List Request

-- a scheduler that came out of its side, with the events of that side and what went through its ends
pub record WasInSide {K : Type 0} (k : SchedSteps K) (first sched : K) (events : List SchedEvent) (sent : List Command) (taken : List Request) : Type 0 where
  pub flags : List Bool
  pub kept : Option Command
  pub unfit : Option Request
  pub side : IsSchedReplay k first (record { now = record { sched = sched; flags = flags; kept = kept; unfit = unfit }; events = events; sent = sent; taken = taken })
