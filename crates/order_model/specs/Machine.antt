-- The steps of a device, as one value.
use Rattle.std.specs.Prelude.{ℕ, Bool, Option}
use Rattle.order_model.specs.declared.command.Command.{Command}
use Rattle.order_model.specs.declared.completion.Completion.{Completion}
use Rattle.order_model.specs.declared.device.OrderedDev.{Ghosts}
use Rattle.order_model.specs.Device.{Seen}

-- a device by its calls: what is asked of a state S, and the state after each step
pub record Machine (S : Type 0) : Type 0 where
  pub seen : S → Seen
  -- whether a command is taken, and how many may be transferred and blocks written next
  pub has_room : S → Bool
  pub can_transfer : S → ℕ
  pub can_persist : S → ℕ
  pub received : S → Command → S
  pub transferred : S → ℕ → S
  pub persisted : S → ℕ → S
  -- the completion that is handed out next
  pub next_answer : S → Option Completion
  pub answered : S → S
  -- whether the next read fails
  pub read_fails : S → Bool
  pub after_read : S → ℕ → S

-- the steps of a device of the trait
abbrev pub machine_of : {D : Type 0} → (d : Ghosts D) → Machine d.State
machine_of d = record {
  seen = d.seen;
  has_room = d.has_room;
  can_transfer = d.can_transfer;
  can_persist = d.can_persist;
  received = d.received;
  transferred = d.transferred;
  persisted = d.persisted;
  next_answer = d.next_answer;
  answered = d.answered;
  read_fails = d.read_fails;
  after_read = d.after_read;
}
