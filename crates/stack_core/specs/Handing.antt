-- What stands before a device hands it a command.
use Rattle.std.specs.Prelude.{ℕ, ◌+◌, Option, Some, None, if◌then◌else◌}
use Rattle.std.specs.Option.{option_map}
use Rattle.order_model.specs.declared.command.Command.{Command}
use Rattle.order_model.specs.declared.request.Request.{Request}
use Rattle.order_model.specs.Machine.{Machine}
use Rattle.order_model.specs.Single.{command_for}

-- what gives commands, and the device that takes them
pub record Handing (P S : Type 0) : Type 0 where
  pub before : P
  pub dev : S

module _ {P S : Type 0} where
  -- the command that is given goes to the device
  abbrev pub handed_given : Machine S → Handing P S → Option (Command × P) → Handing P S
  handed_given m h None = h
  handed_given m h (Some g) = record { before = g.1; dev = m.received h.dev g.0 }

  -- it does so where there is room
  abbrev pub handed : Machine S → Handing P S → Option (Command × P) → Handing P S
  handed m h given = if m.has_room h.dev then handed_given m h given else h

-- a request behind so many others, as a command of its own
abbrev pub given_alone : ℕ → Option Request → Option (Command × ℕ)
given_alone next request = option_map (λ r. (command_for r, next + 1)) request
