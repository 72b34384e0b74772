-- What the events of the host's side make of the host that a session opens.
use Rattle.std.specs.Prelude.{◌≡◌, ℕ, ◌-◌, suc, false, List, [], ◌∷◌, length, Some, None}
use Rattle.order_model.specs.declared.completion.Completion.{Completion}
use Rattle.order_model.specs.declared.request.Request.{Request}
use Rattle.host_core.specs.Now.{HostNow}
use Rattle.host_machine.specs.runs.Runs.{Event}
use Rattle.host_machine.specs.runs.Runs as runs
use Rattle.host_machine.specs.runs.laws.Written.{AreWritten}
use Rattle.minix_host.specs.Runs.{IsOpenedVolume, HasEmptyJournal}
use Rattle.minix_host.specs.Sessions.{Opening}
use Rattle.call_sessions.specs.Sessions.{WriteBytes}
use Rattle.session_core.specs.run.machine.Machine.{Start}
use Rattle.session_core.specs.run.CodeHosts.{IsInSession}
use Rattle.thread_sides.specs.declared.events.HostEvent.{HostEvent}
use Rattle.thread_sides.specs.declared.events.HostEvent.TheVariants as noted

-- the steps of the host that these events are, where it took these completions, one at each `Take`
abbrev pub with_completions : List HostEvent → List Completion → List Event
with_completions [] cs = []
with_completions (noted.Call thread full ∷ es) cs = runs.Call full (thread - 1) ∷ with_completions es cs
with_completions (noted.Commit ∷ es) cs = runs.Commit false ∷ with_completions es cs
with_completions (noted.Writeback pick ∷ es) cs = runs.WriteBack false pick ∷ with_completions es cs
with_completions (noted.Flush ∷ es) cs = runs.FlushStep false None ∷ with_completions es cs
with_completions (noted.Take ∷ es) [] = with_completions es []
with_completions (noted.Take ∷ es) (c ∷ cs) = runs.TakeStep (Some c) ∷ with_completions es cs

-- how many completions they took
abbrev pub takes : List HostEvent → ℕ
takes [] = 0
takes (noted.Take ∷ es) = suc (takes es)
takes (noted.Call thread full ∷ es) = takes es
takes (noted.Commit ∷ es) = takes es
takes (noted.Writeback pick ∷ es) = takes es
takes (noted.Flush ∷ es) = takes es

-- the host, its events, and what went through its ends of the queues
pub record HostSideNow : Type 0 where
  pub host : HostNow
  pub events : List HostEvent
  pub sent : List Request
  pub taken : List Completion

-- The host is the replay of its events from the one that the session opens, over the completions that it took; it sent what it
-- submitted, and took what came to it.
pub record IsHostReplay (s : Opening) (b : Start) (h : HostSideNow) : Type 0 where
  -- what the session opens: journal blocks that can be read, a volume of the tree that is opened, an empty journal, calls that write bytes
  pub written : AreWritten s.format s.writers
  pub opened : IsOpenedVolume s b.volume
  pub journal : HasEmptyJournal s b.ring b.limit
  pub bytes : WriteBytes b.programs
  pub replay : IsInSession s b.volume b.ring b.limit b.programs (with_completions h.events h.taken) h.host
  -- as many completions were taken as there are `Take` events
  pub counted : takes h.events ≡ length h.taken
  pub sent : h.sent ≡ h.host.host.journal.flush.requests
  pub taken : h.taken ≡ h.host.host.journal.flush.taken
