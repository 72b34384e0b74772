-- One step of a thread's call on the parts of the host that calls change, and what the host makes of it.
use Rattle.std.specs.List.{list_any}
use Rattle.std.specs.Option.{option_map}
use Rattle.std.specs.Prelude.{◌≡◌, ℕ, Bool, true, false, List, ◌∷◌, [], ◌++◌, drop, length, set, slice_index_or, Option, Some, None, if◌then◌else◌}
use Rattle.order_model.specs.declared.completion.Completion.{Completion}
use Rattle.tree_model.specs.declared.call.Call.{Call}
use Rattle.tree_model.specs.declared.call.Reply.{Reply}
use Rattle.tree_model.specs.declared.call.Reply.TheVariants as replies
use Rattle.volume_steps.specs.Now.{VolumeNow}
use Rattle.flush_actor.specs.Kinds.{is_begun, is_reading}
use Rattle.flush_actor.specs.Part.{is_cut, first_failed}
use Rattle.flush_actor.specs.Waits.{no_wait}
use Rattle.flush_actor.specs.declared.call_kind.CallKind.{CallKind}
use Rattle.flush_actor.specs.declared.wait.Wait.{Wait}
use Rattle.journal_ring.specs.running.Plan.{Writers}
use Rattle.host_machine.specs.Causes.{Cause}
use Rattle.host_machine.specs.Host.{Stepped}
use Rattle.host_machine.specs.Outcomes as outcomes
use Rattle.host_machine.specs.State.{Ending, Answered, Down, ReadOnly, SessionFull, What, Begins, Ends, Begun, Thread, Host}
use Rattle.minix_host.specs.Calls.{kind_of, node_of, refusal}
use Rattle.host_answers.specs.declared.step.Cause.TheVariants as reasons
use Rattle.host_core.specs.begun.Causes.{cause_is}
use Rattle.host_core.specs.begun.Steps.{Gone, goes_on, listed}
use Rattle.host_core.specs.begun.Steps as begun
use Rattle.host_core.specs.at_once.Steps.{CallParts, steps_plainly}
use Rattle.host_core.specs.at_once.Steps as plain
use Rattle.host_core.specs.declared.call_progress.CallProgress.{CallProgress}
use Rattle.host_core.specs.declared.call_progress.CallProgress.TheVariants as found
use Rattle.host_core.specs.declared.host_parts.HostParts.{HostParts}

-- how far the call came: it is over; it began; it sent a page as this request, with the rest of its list and whether it has
-- sent a barrier; or it waits
pub data Progress : Type 0 where
  Over : Ending Reply → Progress
  Opened : Begun → Progress
  Sent : ℕ → List (ℕ × ℕ) → Bool → Progress
  Waits : Cause → Progress

-- what a step left of the parts, and how far the call came
pub record Went : Type 0 where
  pub parts : CallParts
  pub progress : Progress

-- ---- on the parts

-- what ends every call, or every call but those that read
abbrev pub stop_of : List Completion → CallKind → Option (Ending Reply)
stop_of taken kind =
    if list_any is_cut taken then Some Down
    else if is_reading kind then None
    else option_map ReadOnly (first_failed taken)

-- how far a begun call came, as one of all calls
abbrev pub progress_of_begun : begun.BegunProgress → Progress
progress_of_begun begun.Answered = Over (Answered replies.Ok)
progress_of_begun begun.Full = Over SessionFull
progress_of_begun (begun.Sent id list barrier) = Sent id list barrier
progress_of_begun (begun.Waits cause) = Waits cause

-- the step of a begun call: volume and owners stay
abbrev pub went_on : CallParts → Gone → Went
went_on p g = record {
  parts = record { journal = g.part; volume = p.volume; pages = g.pages; owners = p.owners };
  progress = progress_of_begun g.progress;
}

-- how far a plain call came, as one of all calls
abbrev pub progress_of_plain : plain.PlainProgress → Progress
progress_of_plain (plain.Answered reply) = Over (Answered reply)
progress_of_plain plain.Full = Over SessionFull
progress_of_plain (plain.Waits cause) = Waits cause

-- the step of a plain call, as one of all calls
abbrev pub went_plainly : plain.Went → Went
went_plainly w = record { parts = w.parts; progress = progress_of_plain w.progress }

-- a barrier or sync call that begins as entry n
abbrev pub begins_at : CallParts → ℕ → Call → Begun
begins_at p n c =
    let kind = kind_of c in
    let file = node_of p.volume c in
    record { begin = n; kind = kind; file = file; list = listed p.pages kind file; sent_barrier = false }

-- the first step of a call
abbrev pub starts : Writers → ℕ → ℕ → CallParts → ℕ → Call → Went
starts w zmap most p n c =
    elim (refusal p.volume c) as (λ _. Went) [
      | Some reply ↦ record { parts = p; progress = Over (Answered reply) }
      | None ↦
          if is_begun (kind_of c) then record { parts = p; progress = Opened (begins_at p n c) }
          else went_plainly (steps_plainly w zmap most p n c)
    ]

-- the step of a call that nothing stops
abbrev pub goes_further : Bool → Writers → ℕ → ℕ → CallParts → ℕ → ℕ → Option Begun → Call → Went
goes_further full w zmap most p n t (Some b) c = went_on p (goes_on full p.journal p.pages t (slice_index_or p.journal.flush.waits t no_wait) b)
goes_further full w zmap most p n t None c = starts w zmap most p n c

-- The step of thread t's call, whose entry would be n, on a volume with so many blocks of the zone bitmap whose
-- transactions may have so many log blocks, as these writers make them.
abbrev pub steps_call : Bool → Writers → ℕ → ℕ → CallParts → ℕ → ℕ → Option Begun → Call → Went
steps_call full w zmap most p n t begun c =
    elim (stop_of p.journal.flush.taken (kind_of c)) as (λ _. Went) [
      | Some stop ↦ record { parts = p; progress = Over stop }
      | None ↦ goes_further full w zmap most p n t begun c
    ]

-- ---- what the code found, of a begun call with this list of pages

-- the pages that the call has still to pass; none where it has not begun
abbrev pub list_of : Option Begun → List (ℕ × ℕ)
list_of None = []
list_of (Some b) = b.list

-- how far it came, with this list of pages
abbrev pub progress_is : List (ℕ × ℕ) → CallProgress → Progress
progress_is list (found.Answered answer) = Over (Answered answer)
progress_is list found.Done = Over (Answered replies.Ok)
progress_is list found.Full = Over SessionFull
progress_is list found.Down = Over Down
progress_is list (found.ReadOnly id) = Over (ReadOnly id)
progress_is list (found.Begun begun) = Opened begun
progress_is list (found.Sent id passed barrier) = Sent id (drop passed list) barrier
progress_is list (found.Waiting cause) = Waits (cause_is cause)

abbrev pub is_queue_full : CallProgress → Bool
is_queue_full (found.Waiting reasons.QueueFull) = true
is_queue_full other = false

abbrev pub is_waiting : CallProgress → Bool
is_waiting (found.Waiting cause) = true
is_waiting other = false

-- the parts as the code has them
abbrev pub parts_now : HostParts → CallParts
parts_now p = record { journal = p.journal.part; volume = p.volume; pages = p.pages.pages; owners = p.owners.items }

-- A step leaves what was set when the host was made, and each thread has its wait.
pub record KeepsHost (old new : HostParts) : Type 0 where
  pub made_with : new.journal.made_with ≡ old.journal.made_with
  pub journal : new.journal.journal ≡ old.journal.journal
  pub blocks : new.journal.blocks ≡ old.journal.blocks
  pub geometry : new.volume.geometry ≡ old.volume.geometry
  pub waits : length new.journal.part.flush.waits ≡ length old.journal.part.flush.waits

-- ---- on the host

abbrev pub with_parts : {C : Type 0} → Host VolumeNow C Reply → CallParts → Host VolumeNow C Reply
with_parts s p = record s { journal = p.journal; volume = p.volume; pages = p.pages; owners = p.owners }

-- the thread's call is noted as an entry, and it stands so from now on
abbrev pub noted : {V C R : Type 0} → Host V C R → ℕ → C → What R → Thread C → Wait → Host V C R
noted s t c what th w = record s {
  journal = record s.journal { flush = record s.journal.flush { waits = set s.journal.flush.waits t w } };
  history = s.history ++ record { thread = t; call = c; what = what } ∷ [];
  threads = set s.threads t th;
}

-- what the step answers where this ended the call
abbrev pub answer_of : {R : Type 0} → Ending R → outcomes.Step R
answer_of (Answered r) = outcomes.Done r
answer_of Down = outcomes.Down
answer_of (ReadOnly id) = outcomes.ReadOnly id
answer_of SessionFull = outcomes.SessionFull

-- the begun call with what is left of its list, and whether it has sent a barrier
abbrev pub passed_on : Option Begun → List (ℕ × ℕ) → Bool → Option Begun
passed_on begun list barrier = option_map (λ (b : Begun). record b { list = list; sent_barrier = barrier }) begun

-- what the host notes of a thread's call, whose rest is behind it, and answers
abbrev pub settled : {V C : Type 0} → Host V C Reply → ℕ → C → List C → Option Begun → Progress → Stepped V C Reply
settled s t c rest begun (Over e) = record { host = noted s t c (Ends e) (record { calls = rest; begun = None }) no_wait; step = answer_of e }
settled s t c rest begun (Opened b) = record {
  host = noted s t c Begins (record { calls = c ∷ rest; begun = Some b }) (record { kind = b.kind; target = None; need = None });
  step = outcomes.Begun;
}
settled s t c rest begun (Sent id list barrier) = record {
  host = record s { threads = set s.threads t (record { calls = c ∷ rest; begun = passed_on begun list barrier }) };
  step = outcomes.Sent id;
}
settled s t c rest begun (Waits cause) = record { host = s; step = outcomes.Waiting cause }
