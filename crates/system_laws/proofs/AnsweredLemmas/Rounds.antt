-- What rounds lower: numbers of a session of which each event leaves all as they are, with the whole state, or lowers one and leaves
-- those before it.
use Rattle.std.specs.Prelude.{ℕ, ◌+◌, ◌-◌, ◌*◌, ◌<◌, ◌≤◌, List, [], ◌∷◌, length, Option, Some, None, if◌then◌else◌}
use Rattle.order_model.specs.Machine.{Machine}
use Rattle.schedulers.specs.reassign.Scheduler.{SchedSteps}
use Rattle.flush_actor.specs.Part.{FlushPart}
use Rattle.flush_actor.specs.declared.wait.Wait.{Wait}
use Rattle.commit_actor.specs.Journal.{Phase, Idle, Closing, Committing, JournalPart}
use Rattle.host_machine.specs.State.{Thread, Host}
use Rattle.session_core.specs.run.machine.Machine.{SessionState}

abbrev pub one_if_none : {X : Type 0} → Option X → ℕ
one_if_none None = 1
one_if_none (Some x) = 0

abbrev pub one_if_some : {X : Type 0} → Option X → ℕ
one_if_some None = 0
one_if_some (Some x) = 1

-- ---- of a host

-- how many more requests there may be
abbrev pub requests_left : FlushPart → ℕ
requests_left f = f.limit - length f.requests

-- of each call of a thread two things are to come, its begin and its end; of one that has begun the end
unfoldable pub steps_of : {C : Type 0} → List (Thread C) → ℕ
steps_of [] = 0
steps_of (th ∷ ths) = 2 * length th.calls + one_if_none th.begun + steps_of ths

-- what calls do not say yet: which transaction they wait for, and which request they need
unfoldable pub unsaid : List Wait → ℕ
unsaid [] = 0
unsaid (w ∷ ws) = one_if_none w.target + one_if_none w.need + unsaid ws

-- how far the commit actor is from sending the blocks of a transaction
abbrev pub phase_left : Phase → ℕ
phase_left Idle = 4
phase_left Closing = 2
phase_left (Committing p) = 0

abbrev pub actor_left : JournalPart → ℕ
actor_left j = phase_left j.phase + (if j.running.wanted then 0 else 1)

abbrev pub host_left : {V C R : Type 0} → Host V C R → ℕ
host_left h = 3 * steps_of h.threads + actor_left h.journal + unsaid h.journal.flush.waits

-- the host submitted a request more; or it submitted none, and less is left
pub data HostLess {V C R : Type 0} (x h : Host V C R) : Type 0 where
  submits : requests_left x.journal.flush < requests_left h.journal.flush → HostLess x h
  less : requests_left x.journal.flush ≤ requests_left h.journal.flush → host_left x < host_left h → HostLess x h

-- ---- of what is below it

module _ {K S : Type 0} (k : SchedSteps K) (m : Machine S) (left : S → ℕ) where
  -- what is on its way to the device
  abbrev pub on_its_way : SessionState K S → ℕ
  on_its_way r = 4 * length r.queues.submission + 3 * length (k.seen r.sched).waiting + 2 * one_if_some r.queues.kept + length r.queues.dispatched

  -- what is on its way back
  abbrev pub on_its_way_back : SessionState K S → ℕ
  on_its_way_back r = 3 * length (m.seen r.dev).waiting + 2 * one_if_some r.kept + length r.completions

  -- less is left, in this order: requests, what the host has left, what is on its way, the device's work, what is on its way back
  pub data Less (x r : SessionState K S) : Type 0 where
    by_host : HostLess x.host r.host → Less x r
    by_way : requests_left x.host.journal.flush ≤ requests_left r.host.journal.flush → host_left x.host ≤ host_left r.host → on_its_way x < on_its_way r → Less x r
    by_work : requests_left x.host.journal.flush ≤ requests_left r.host.journal.flush → host_left x.host ≤ host_left r.host → on_its_way x ≤ on_its_way r → left x.dev < left r.dev → Less x r
    by_back : requests_left x.host.journal.flush ≤ requests_left r.host.journal.flush → host_left x.host ≤ host_left r.host → on_its_way x ≤ on_its_way r → left x.dev ≤ left r.dev → on_its_way_back x < on_its_way_back r → Less x r
