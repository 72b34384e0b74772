-- What a command completes with, part by part, and the ids of parts by their places.
use Rattle.std.specs.Prelude.{ℕ, ◌++◌, map, true, Bool, false, List, Option, slice_get}
use Rattle.std.specs.Option.{option_map, option_and_then, option_to_list}
use Rattle.order_model.specs.declared.part.Part.{Part}
use Rattle.order_model.specs.declared.completion.Completion.{Completion}
use Rattle.order_model.specs.declared.completion.Completion.TheVariants.{Moved, Flushed, Failed, Cut}
use Rattle.order_model.specs.declared.command.Command.{Command}

-- it is that of a flush
abbrev pub is_flushed : Completion → Bool
is_flushed (Flushed id) = true
is_flushed (Moved id) = false
is_flushed (Failed id) = false
is_flushed Cut = false

-- what a command that was not done completes with: part by part, and the flush
abbrev pub told_failed : Command → List Completion
told_failed c = map (λ (p : Part). Failed p.id) c.parts ++ map Failed (option_to_list c.flush)

-- the id of the part at this place
abbrev pub id_at : List Part → Option ℕ → Option ℕ
id_at parts place = option_and_then (λ n. option_map (λ (p : Part). p.id) (slice_get parts n)) place
