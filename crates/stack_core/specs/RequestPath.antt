-- The request path, on which requests reach the device: each as its own command, or through the block layer.
use Rattle.std.specs.Prelude.{◌≡◌, ℕ, ◌+◌, ◌≤◌, ◌++◌, false, List, [], length, map, take, Option, Some, slice_get}
use Rattle.std.specs.Option.{option_map, option_to_list}
use Rattle.order_model.specs.declared.command.Command.{Command}
use Rattle.order_model.specs.declared.request.Request.{Request}
use Rattle.order_model.specs.Single.{command_for}
use Rattle.order_model.specs.Device.{Seen}
use Rattle.order_model.specs.Carrying.{SchedSeen, sent_alone}
use Rattle.schedulers.specs.declared.reassign.scheduler.TheConstants.{CAPACITY}
use Rattle.schedulers.specs.reassign.Scheduler.{SchedSteps}
use Rattle.script_grammar.specs.declared.script.Script.{Script}
use Rattle.script_grammar.specs.declared.script.Form.{Form}
use Rattle.script_grammar.specs.declared.script.Form.TheVariants.{Device, Blocks}
use Rattle.script_grammar.specs.declared.script.CoreEvent.{CoreEvent}
use Rattle.script_grammar.specs.declared.script.CoreEvent.TheVariants.{Submit, Accept, Dispatch, Receive, Transfer, Persist}
use Rattle.script_grammar.specs.Grammar.{IsRequestOf}
use Rattle.stack_core.specs.declared.request_path.RequestPath.{RequestPath}
use Rattle.stack_core.specs.declared.request_path.RequestPath.TheVariants.{Direct, Scheduled}
use Rattle.stack_core.specs.BlockLayer.{QueuesState, BlockLayer, opened_queues, submitted, layer_accepted, layer_dispatched, given_first}

-- the request path, and the scheduler on it; a `device` script has no use for that
pub record PathState (K : Type 0) : Type 0 where
  pub path : RequestPath
  pub sched : K

-- ---- the steps

-- a `device` script gives its requests to the device; a `blocks` script has the block layer before it
abbrev pub opened_as : Script → Form → RequestPath
opened_as s (Device blocks) = Direct 0
opened_as s (Blocks blocks) = Scheduled (opened_queues s.header.queue)

-- the request path when the script begins
abbrev pub opened_path : Script → RequestPath
opened_path s = opened_as s s.kind

-- how many requests a scheduler may be given; a `device` script gives it none
abbrev pub scheduled_as : Script → Form → ℕ
scheduled_as s (Device blocks) = 0
scheduled_as s (Blocks blocks) = length s.puts

abbrev pub scheduled_count : Script → ℕ
scheduled_count s = scheduled_as s s.kind

-- what is seen of the scheduler when the script begins: `CAPACITY` requests may wait in it
abbrev pub opened_seen : Script → SchedSeen
opened_seen s = record { limit = scheduled_count s; capacity = CAPACITY; accepted = []; waiting = []; blocked = false; sent_out = [] }

-- an event of host or scheduler; those of the device change nothing here
abbrev pub layer_stepped : {K : Type 0} → SchedSteps K → List Request → BlockLayer K → CoreEvent → BlockLayer K
layer_stepped k requests r Submit = record { queues = submitted requests r.queues; sched = r.sched }
layer_stepped k requests r Accept = layer_accepted k r
layer_stepped k requests r (Dispatch pick) = layer_dispatched k r pick
layer_stepped k requests r Receive = r
layer_stepped k requests r (Transfer pick) = r
layer_stepped k requests r (Persist pick) = r

-- the request path through this block layer
abbrev pub scheduled_run : {K : Type 0} → BlockLayer K → PathState K
scheduled_run r = record { path = Scheduled r.queues; sched = r.sched }

-- where there is no block layer, no event of host or scheduler changes anything
abbrev pub stepped_as : {K : Type 0} → SchedSteps K → List Request → RequestPath → K → CoreEvent → PathState K
stepped_as k requests (Direct next) sched event = record { path = Direct next; sched = sched }
stepped_as k requests (Scheduled s) sched event = scheduled_run (layer_stepped k requests (record { queues = s; sched = sched }) event)

-- an event of the host or the scheduler
abbrev pub stepped : {K : Type 0} → SchedSteps K → List Request → PathState K → CoreEvent → PathState K
stepped k requests r event = stepped_as k requests r.path r.sched event

-- the next command for the device, and what is left
abbrev pub given : List Request → RequestPath → Option (Command × RequestPath)
given requests (Direct next) = option_map (λ r. (command_for r, Direct (next + 1))) (slice_get requests next)
given requests (Scheduled s) = option_map (λ g. (g.0, Scheduled g.1)) (given_first s s.dispatched)

-- ---- what a request path shows

-- how many requests the host submitted
abbrev pub submitted_count : RequestPath → ℕ
submitted_count (Direct next) = next
submitted_count (Scheduled s) = s.next

-- which commands carry which requests: each its own, or those of the scheduler
abbrev pub carried : {K : Type 0} → SchedSteps K → List Request → RequestPath → K → SchedSeen
carried k requests (Direct next) sched = sent_alone (take next requests)
carried k requests (Scheduled s) sched = k.seen sched

-- ---- what holds along a run, between a request path and the device behind it

-- the requests are numbered, and their blocks are there
abbrev pub AreRequests : ℕ → List Request → Type 0
AreRequests blocks requests = (i : ℕ) (r : Request) → slice_get requests i ≡ Some r → IsRequestOf blocks i r

-- the device took the first requests, each as its own command, and may take the others
pub record IsDirect (next : ℕ) (requests : List Request) (d : Seen) : Type 0 where
  pub within : next ≤ length requests
  pub took : d.took ≡ map command_for (take next requests)
  pub fitting : AreRequests (length d.base) requests
  pub limit : length requests ≤ d.limit

-- what was submitted was accepted or waits to be; what was sent out was taken, waits to be, or is kept
pub record IsScheduled (s : QueuesState) (sched : SchedSeen) (requests : List Request) (d : Seen) : Type 0 where
  pub within : s.next ≤ length requests
  pub submitted : sched.accepted ++ s.submission ≡ take s.next requests
  pub sent : sched.sent_out ≡ d.took ++ s.dispatched ++ option_to_list s.kept
  pub may_accept : sched.limit ≡ length requests
  pub fitting : AreRequests (length d.base) requests
  pub limit : length requests ≤ d.limit

-- what was submitted and accepted on this path is what the device took, or still comes to it
abbrev pub PathFits : RequestPath → SchedSeen → List Request → Seen → Type 0
PathFits (Direct next) sched requests d = IsDirect next requests d
PathFits (Scheduled s) sched requests d = IsScheduled s sched requests d
