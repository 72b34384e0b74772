-- The rows of commands, and what is kept of them.
use Rattle.std.specs.Prelude.{ℕ, ◌≤◌, List, length, map, All, vec_len}
use Rattle.std.specs.Vec.{vec_capacity}
use Rattle.order_model.specs.declared.part.Part.{Part}
use Rattle.order_model.specs.declared.command.Command.{Command}
use Rattle.order_model.specs.declared.history.PartRow.{PartRow}
use Rattle.order_model.specs.declared.history.Commands.TheInside.{Inside}
use Rattle.order_model.specs.History.{HistoryState, commands_of, EndAt}
use Rattle.order_model.specs.code.Bodies.{body_of, IsThere}

-- the part of a row
abbrev pub part_of : List (List ℕ) → PartRow → Part
part_of stored row = record { id = row.id; block = row.block; body = body_of stored row.body }

-- the parts of the rows, whose bodies are found among the stored ones
abbrev pub parts_kept : List (List ℕ) → List PartRow → List Part
parts_kept stored rows = map (part_of stored) rows

-- its body is one of so many
abbrev pub IsPartThere : ℕ → PartRow → Type 0
IsPartThere n row = IsThere n row.body

-- the body of each row is one of so many
abbrev pub AreThere : ℕ → List PartRow → Type 0
AreThere n rows = All (IsPartThere n) rows

-- the commands so far, put together from the rows of their parts and the places where each one's parts end
abbrev pub commands_kept : Inside → HistoryState Command
commands_kept c = record { items = commands_of 0 c.ends.items (parts_kept c.stored.items c.rows.items); room = c.room }

-- the ends fit the rows, the body of each row is stored, and there is capacity for all that the room allows
pub record AreCommands (c : Inside) : Type 0 where
  pub few_parts : vec_len c.rows ≤ c.room
  pub room_parts : c.room ≤ vec_capacity c.rows
  pub few : vec_len c.ends ≤ c.room
  pub room : c.room ≤ vec_capacity c.ends
  pub ends : EndAt 0 c.ends.items (vec_len c.rows)
  pub few_bodies : vec_len c.stored ≤ vec_len c.rows
  pub room_bodies : c.room ≤ vec_capacity c.stored
  pub there : AreThere (length c.stored.items) c.rows.items
