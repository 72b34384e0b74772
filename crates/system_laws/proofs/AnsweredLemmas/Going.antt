-- A device that stays on and of which nothing fails, as steps on its states.
use Rattle.std.specs.Prelude.{◌≡◌, ℕ, ◌<◌, None}
use Rattle.blk_base.specs.Members.{In}
use Rattle.order_model.specs.declared.completion.Completion.TheVariants as completions
use Rattle.order_model.specs.Device.{Completes, completed}
use Rattle.order_model.specs.Machine.{Machine}
use Rattle.order_model.specs.Steps.{Progresses}
use Rattle.session_core.specs.run.machine.Fits.{IsDevice}

-- what is known of such a device, where `left` is the work that it has left
pub record GoesOn {S : Type 0} (m : Machine S) (good : S → Type 0) (left : S → ℕ) : Type 0 where
  pub device : IsDevice m good
  pub transferred : (d : S) (pick : ℕ) → good d → pick < m.can_transfer d → left (m.transferred d pick) < left d
  pub persisted : (d : S) (pick : ℕ) → good d → pick < m.can_persist d → left (m.persisted d pick) < left d
  pub answered : (d : S) → good d → left (m.answered d) ≡ left d
  pub unanswered : (d : S) → m.next_answer d ≡ None → m.answered d ≡ d
  pub progress : (d : S) → good d → Progresses (m.seen d) (left d) (m.has_room d) (m.can_transfer d) (m.can_persist d)
  pub completes : (d : S) → good d → Completes (m.seen d)
  pub uncut : (d : S) → good d → In completions.Cut (completed (m.seen d)) → ⊥
  pub unfailed : (d : S) (id : ℕ) → good d → In (completions.Failed id) (completed (m.seen d)) → ⊥
