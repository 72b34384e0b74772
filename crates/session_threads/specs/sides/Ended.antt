-- That a session has ended.
use Rattle.std.specs.Prelude.{◌≡◌, ◌⊎◌, ℕ, Bool, true, false, [], length, count_by, Option, Some}
use Rattle.std.specs.List.{list_any}
use Rattle.order_model.specs.declared.completion.Completion.{Completion}
use Rattle.order_model.specs.declared.completion.Completion.TheVariants as completions
use Rattle.order_model.specs.Carrying.{SchedSeen}
use Rattle.order_model.specs.Device.{Seen, IsQuiet}
pub use Rattle.crash_laws.specs.Found.{is_commit}
use Rattle.host_core.specs.Done.{is_done}
use Rattle.host_machine.specs.State.{Host}

abbrev pub is_failed : Completion → Bool
is_failed (completions.Failed id) = true
is_failed (completions.Moved id) = false
is_failed (completions.Flushed id) = false
is_failed completions.Cut = false

-- All that was submitted was accepted, sent out, taken and is on the medium, and there are as many commit blocks as closed
-- transactions.
pub record IsAllDone {V C R : Type 0} (h : Host V C R) (p : SchedSeen) (d : Seen) : Type 0 where
  pub accepted : length p.accepted ≡ length h.journal.flush.requests
  pub none_waits : p.waiting ≡ []
  pub taken : length d.took ≡ length p.sent_out
  -- every part is on the medium, and every flush was answered
  pub quiet : IsQuiet d
  -- as many commit blocks were submitted as transactions were closed
  pub closed : count_by is_commit h.journal.flush.notes ≡ length h.cuts

-- Every program is at its end; and the power went at the steps that were asked for, a request failed, as many were submitted as may
-- be, or all is done.
pub record HasEnded {V C R : Type 0} (cut : Option ℕ) (h : Host V C R) (p : SchedSeen) (d : Seen) : Type 0 where
  pub programs : is_done h.threads ≡ true
  pub ended : (cut ≡ Some d.steps) ⊎ ((list_any is_failed d.sent ≡ true) ⊎ ((length h.journal.flush.requests ≡ h.journal.flush.limit) ⊎ IsAllDone h p d))
