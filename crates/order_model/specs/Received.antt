-- The commands that a device received, in order. A part is named by its place among all their parts.
use Rattle.std.specs.Prelude.{◌≡◌, ℕ, ◌+◌, ◌-◌, ◌++◌, List, [], ◌∷◌, length, map, take, count_by, Option, Some, IsTrue, IsSomeAnd, slice_get, nat_lt, if◌then◌else◌}
use Rattle.std.specs.Option.{option_to_list}
use Rattle.order_model.specs.declared.part.Part.{Part}
use Rattle.order_model.specs.declared.command.Command.{Command}
use Rattle.order_model.specs.declared.completion.Completion.{Completion}
use Rattle.order_model.specs.declared.completion.Completion.TheVariants.{Moved, Flushed, Failed}
use Rattle.order_model.specs.declared.history.Transfer.{Transfer}

-- all parts, in order of the commands
abbrev pub all_parts : List Command → List Part
all_parts [] = []
all_parts (c ∷ cs) = c.parts ++ all_parts cs

-- the part at this place
abbrev pub part_at : List Command → ℕ → Option Part
part_at took place = slice_get (all_parts took) place

-- how many parts stand before those of command k
abbrev pub first_part : List Command → ℕ → ℕ
first_part took k = length (all_parts (take k took))

-- the place of the command that the part belongs to
abbrev pub command_of_part : List Command → ℕ → ℕ
command_of_part [] place = 0
command_of_part (c ∷ cs) place = if nat_lt place (length c.parts) then 0 else command_of_part cs (place - length c.parts) + 1

-- the ids of a command: those of its parts, or the flush's
abbrev pub ids_of : Command → List ℕ
ids_of c = map (λ p. p.id) c.parts ++ option_to_list c.flush

abbrev pub all_ids : List Command → List ℕ
all_ids [] = []
all_ids (c ∷ cs) = ids_of c ++ all_ids cs

-- how many barriers stand before command k: the epoch of its parts
abbrev pub epoch_of : List Command → ℕ → ℕ
epoch_of took k = count_by (λ c. c.barrier) (take k took)

-- command k has the barrier flag
abbrev pub IsBarrier : List Command → ℕ → Type 0
IsBarrier took k = IsSomeAnd (slice_get took k) (λ c. IsTrue c.barrier)

-- command k is the flush with this id
abbrev pub IsFlush : List Command → ℕ → ℕ → Type 0
IsFlush took k id = IsSomeAnd (slice_get took k) (λ c. c.flush ≡ Some id)

-- what a command completes with, once it is done
abbrev pub completions_of : Command → List Completion
completions_of c = map (λ p. Moved p.id) c.parts ++ map Flushed (option_to_list c.flush)

-- what a command completes with, where it was not done
abbrev pub failures_of : Command → List Completion
failures_of c = map Failed (ids_of c)

-- the transfers of parts that begin at this place
abbrev pub transfers : ℕ → ℕ → List Part → List Transfer
transfers epoch place [] = []
transfers epoch place (p ∷ ps) = record { epoch = epoch; part = place } ∷ transfers epoch (place + 1) ps
