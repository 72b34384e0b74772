-- The command that carries one request alone, and the one that carries none.
use Rattle.std.specs.Prelude.{ℕ, Bool, false, List, [], ◌∷◌, Option, Some, None, if◌then◌else◌}
use Rattle.order_model.specs.declared.part.Part.{Part}
use Rattle.order_model.specs.declared.command.Command.{Command}
use Rattle.order_model.specs.declared.command.Priority.TheVariants.{Simple, Ordered}
use Rattle.order_model.specs.declared.request.Kind.{Kind}
use Rattle.order_model.specs.declared.request.Kind.TheVariants.{Put, Flush}
use Rattle.order_model.specs.declared.request.Request.{Request}

-- a command of no parts
abbrev pub blank_command : Command
blank_command = record { parts = []; priority = Simple; barrier = false; flush = None }

-- a put is one part; a flush has none
abbrev pub parts_for : ℕ → Kind → List Part
parts_for id (Put block body) = record { id = id; block = block; body = body } ∷ []
parts_for id Flush = []

-- the id of a flush; a put has none
abbrev pub flush_for : ℕ → Kind → Option ℕ
flush_for id (Put block body) = None
flush_for id Flush = Some id

-- ORDERED and a barrier exactly where it has the flag
abbrev pub command_of_request : Request → Bool → Command
command_of_request r flagged = record {
  parts = parts_for r.id r.kind;
  priority = (if flagged then Ordered else Simple);
  barrier = flagged;
  flush = flush_for r.id r.kind;
}

-- a request as a command of its own: ORDERED exactly where it is a barrier, as a flush is
abbrev pub command_for : Request → Command
command_for r = command_of_request r r.barrier
