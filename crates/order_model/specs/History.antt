-- Lists that only grow, and how a list of commands is kept.
use Rattle.std.specs.Prelude.{◌≡◌, ℕ, ◌-◌, ◌≤◌, List, [], ◌∷◌, take, drop}
use Rattle.order_model.specs.declared.part.Part.{Part}
use Rattle.order_model.specs.declared.command.Command.{Command}
use Rattle.order_model.specs.declared.history.CommandEnd.{CommandEnd}

-- the items so far, and how many there is room for
pub record HistoryState (T : Type 0) : Type 0 where
  pub items : List T
  pub room : ℕ

-- the commands of which start parts were taken before, and whose parts end at these places
abbrev pub commands_of : ℕ → List CommandEnd → List Part → List Command
commands_of start [] parts = []
commands_of start (e ∷ es) parts =
    record { parts = take (e.end - start) parts; priority = e.priority; barrier = e.barrier; flush = e.flush }
    ∷ commands_of e.end es (drop (e.end - start) parts)

-- the ends never fall, and the last one is n
abbrev pub EndAt : ℕ → List CommandEnd → ℕ → Type 0
EndAt start [] n = start ≡ n
EndAt start (e ∷ es) n = (start ≤ e.end) × EndAt e.end es n
