-- What a step did, as it is seen from outside.
use Rattle.std.specs.Prelude.{Bool, true, false, List, length, drop, Option, slice_get}
use Rattle.order_model.specs.declared.request.Request.{Request}
use Rattle.order_model.specs.declared.turn.Turn.TheVariants as turns
use Rattle.order_model.specs.declared.turn.Turn.{Turn}
use Rattle.flush_actor.specs.Part.{FlushPart}

abbrev pub is_queue_full : Turn → Bool
is_queue_full turns.QueueFull = true
is_queue_full other = false

abbrev pub is_did : Turn → Bool
is_did turns.Did = true
is_did other = false

-- what was submitted between two states
abbrev pub sent_between : FlushPart → FlushPart → List Request
sent_between old new = drop (length old.requests) new.requests

-- the first item that came to a list of items
abbrev pub first_since : {X : Type 0} → List X → List X → Option X
first_since old new = slice_get new (length old)
