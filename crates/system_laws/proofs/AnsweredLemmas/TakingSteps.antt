-- What a step of the flush actor and a completion that comes back make of a session, as states.
use Rattle.std.specs.Prelude.{◌≡◌, [], ℕ, ◌≤◌, not, Bool, true, false, List, ◌∷◌, ◌++◌, length, drop, Option, Some, None, slice_get, refl, if◌then◌else◌}
use Rattle.std.proofs.Common.{ap, ◌∙◌}
use Rattle.std.proofs.lemmas.Bool.{le-leb, lt-ltb}
use Rattle.order_model.specs.declared.completion.Completion.{Completion}
use Rattle.order_model.specs.Machine.{Machine}
use Rattle.schedulers.specs.reassign.Scheduler.{SchedSteps}
use Rattle.line_grammar.specs.declared.events.event.CoreEvent.TheVariants as events
use Rattle.tree_model.specs.declared.call.Call.{Call}
use Rattle.tree_model.specs.declared.call.Reply.{Reply}
use Rattle.volume_steps.specs.Now.{VolumeNow}
use Rattle.flush_actor.specs.Outcomes.{sent_between}
use Rattle.flush_actor.specs.Part.{FlushPart, at_limit}
use Rattle.flush_actor.specs.Steps.{flush_due, submit_flush, take_completion}
use Rattle.host_machine.specs.Host.{flush_step, with_flush}
use Rattle.host_machine.specs.Model.{Model}
use Rattle.host_machine.specs.State.{Host, Setup}
use Rattle.host_machine.specs.runs.Runs.{stepped}
use Rattle.host_machine.specs.runs.Runs as runs
use Rattle.minix_host.specs.Sessions.{Opening}
use Rattle.call_sessions.specs.Sessions.{call_over}
use Rattle.session_core.specs.run.machine.Machine.{SessionState, is_full, with_submitted, submission_full, flushed, completed, completed_option, answered_from, happens}
use Rattle.session_core.proofs.RunLemmas.MachineLemmas.Sending.{flush_takes}

not_full : {X : Type 0} (capacity : ℕ) (xs : List X) → xs ≡ [] → 1 ≤ capacity → is_full capacity xs ≡ false
not_full {X} capacity xs none room = ap (λ (l : List X). is_full capacity l) none ∙ ap not (lt-ltb 0 capacity room)

flush_goes : {T V C R : Type 0} (M : Model T V C R) (u : Setup) (h : Host V C R) (next : Option Completion) → flush_due h.journal.flush ≡ true → at_limit h.journal.flush ≡ false → (flush_step M u false h next).host ≡ with_flush M u h (submit_flush h.journal.flush)
flush_goes M u h next due free = rw due (rw free refl)

module _ {K S : Type 0} (s : Opening) (k : SchedSteps K) (m : Machine S) where
  abbrev X : Type 0
  X = SessionState K S

  abbrev H : Type 0
  H = Host VolumeNow Call Reply

  -- the flush actor's part is this, and these completions are left
  abbrev pub with_part : X → FlushPart → List Completion → X
  with_part r f cs = record r { host = with_flush (call_over s).model (call_over s).setup r.host f; queues = with_submitted r.queues (sent_between r.host.journal.flush f); completions = cs }

  module _ (r : X) where
    abbrev f : FlushPart
    f = r.host.journal.flush

    -- after a step of the flush actor
    abbrev stepping : H → List Completion → X
    stepping h cs = record r { host = h; queues = with_submitted r.queues (sent_between f h.journal.flush); completions = cs }

    may_step : length f.taken ≤ f.limit → happens s k m r events.FlushStep ≡ flushed s r
    may_step few = ap (λ (b : Bool). if b then flushed s r else r) (le-leb (length f.taken) f.limit few)

    pub takes : (c : Completion) (cs : List Completion) → r.completions ≡ c ∷ cs → flush_due f ≡ false → length f.taken ≤ f.limit → happens s k m r events.FlushStep ≡ with_part r (take_completion c f) cs
    takes c cs first due few =
        may_step few
        ∙ (ap (λ (l : List Completion). stepping (stepped (call_over s) r.host (runs.FlushStep (submission_full r) (slice_get l 0))) (if flush_due f then l else drop 1 l)) first
        ∙ (ap (λ (h : H). stepping h (if flush_due f then c ∷ cs else cs)) (flush_takes (call_over s).model (call_over s).setup (submission_full r) r.host c due)
        ∙ ap (λ (b : Bool). stepping (with_flush (call_over s).model (call_over s).setup r.host (take_completion c f)) (if b then c ∷ cs else cs)) due))

    pub sends_flush : flush_due f ≡ true → at_limit f ≡ false → r.queues.submission ≡ [] → 1 ≤ r.queues.capacity → length f.taken ≤ f.limit → happens s k m r events.FlushStep ≡ with_part r (submit_flush f) r.completions
    sends_flush due free none room few =
        may_step few
        ∙ (ap (λ (full : Bool). stepping (stepped (call_over s) r.host (runs.FlushStep full (slice_get r.completions 0))) (if flush_due f then r.completions else drop 1 r.completions)) (not_full r.queues.capacity r.queues.submission none room)
        ∙ (ap (λ (h : H). stepping h (if flush_due f then r.completions else drop 1 r.completions)) (flush_goes (call_over s).model (call_over s).setup r.host (slice_get r.completions 0) due free)
        ∙ ap (λ (b : Bool). stepping (with_flush (call_over s).model (call_over s).setup r.host (submit_flush f)) (if b then r.completions else drop 1 r.completions)) due))

    completed_in : (c : Completion) → r.completions ≡ [] → 1 ≤ r.queues.capacity → completed r c ≡ record r { completions = c ∷ []; kept = None }
    completed_in c none room =
        ap (λ (b : Bool). if b then record r { kept = Some c } else record r { completions = r.completions ++ c ∷ []; kept = None }) (not_full r.queues.capacity r.completions none room)
        ∙ ap (λ (l : List Completion). record r { completions = l ++ c ∷ []; kept = None }) none

    pub brings_kept : (c : Completion) → r.kept ≡ Some c → r.completions ≡ [] → 1 ≤ r.queues.capacity → happens s k m r events.Answer ≡ record r { completions = c ∷ []; kept = None }
    brings_kept c kept none room = ap (answered_from m r) kept ∙ completed_in c none room

  pub brings_next : (r : X) (c : Completion) → r.kept ≡ None → m.next_answer r.dev ≡ Some c → r.completions ≡ [] → 1 ≤ r.queues.capacity → happens s k m r events.Answer ≡ record r { dev = m.answered r.dev; completions = c ∷ []; kept = None }
  brings_next r c kept next none room =
      ap (answered_from m r) kept
      ∙ (ap (completed_option (record r { dev = m.answered r.dev })) next ∙ completed_in (record r { dev = m.answered r.dev }) c none room)
