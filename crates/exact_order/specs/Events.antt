-- The events that leave a medium, worked out from the origins of its blocks.
use Rattle.std.specs.Prelude.{ℕ, ◌+◌, ◌==◌, Bool, true, false, nat_le, nat_lt, List, [], ◌∷◌, length, take, Option, Some, None, slice_get, if◌then◌else◌}
use Rattle.std.specs.List.{list_any}
use Rattle.std.specs.Option.{option_map_or}
use Rattle.order_model.specs.declared.request.Kind.{Kind}
use Rattle.order_model.specs.declared.request.Kind.TheVariants.{Put, Flush}
use Rattle.order_model.specs.declared.request.Request.{Request}
use Rattle.script_grammar.specs.declared.script.EventLine.{EventLine}
use Rattle.script_grammar.specs.declared.script.EventWord.TheVariants.{One}
use Rattle.script_grammar.specs.declared.script.CoreEvent.{CoreEvent}
use Rattle.script_grammar.specs.declared.script.CoreEvent.TheVariants.{Submit, Accept, Dispatch, Receive, Transfer, Persist}

-- a put of a block with this origin and this id is kept
abbrev pub is_kept_under : Option ℕ → ℕ → Bool
is_kept_under origin id = option_map_or (λ top. nat_le id top) origin false

-- the put of this block and id is kept by these origins
abbrev pub is_kept_at : List (Option ℕ) → ℕ → ℕ → Bool
is_kept_at origins block id = option_map_or (λ o. is_kept_under o id) (slice_get origins block) false

-- the request goes to the device: a flush, or a put that is kept
abbrev pub is_wanted : List (Option ℕ) → ℕ → Kind → Bool
is_wanted origins id (Put block body) = is_kept_at origins block id
is_wanted origins id Flush = true

-- The different blocks of the puts that wait for ever. Of each block the first may leave, so as many may leave as there are blocks.
abbrev pub with_block : List ℕ → Kind → List ℕ
with_block held (Put block body) = if list_any (λ b. b == block) held then held else block ∷ held
with_block held Flush = held

abbrev pub once : CoreEvent → EventLine
once event = record { what = One event; count = 1 }

-- a request goes all the way, past those that wait: it is the last one that may leave
abbrev pub sent_through : List ℕ → List EventLine → List EventLine
sent_through held rest = once Submit ∷ once Accept ∷ once (Dispatch (length held)) ∷ once Receive ∷ once (Transfer 0) ∷ once (Persist 0) ∷ rest

-- the request is accepted, and waits
abbrev pub left_waiting : List EventLine → List EventLine
left_waiting rest = once Submit ∷ once Accept ∷ rest

-- the events for these requests, where puts of such blocks wait
abbrev pub events_for : List (Option ℕ) → List ℕ → List Request → List EventLine
events_for origins held [] = []
events_for origins held (r ∷ rs) =
    if is_wanted origins r.id r.kind then sent_through held (events_for origins held rs)
    else left_waiting (events_for origins (with_block held r.kind) rs)

-- the place behind the last put that is kept
abbrev pub places_used : List (Option ℕ) → ℕ
places_used [] = 0
places_used (None ∷ os) = places_used os
places_used (Some top ∷ os) = if nat_lt top (places_used os) then places_used os else top + 1

-- The events that leave the medium with these origins: request by request, as far as the last one that is kept.
abbrev pub events_to : List Request → List (Option ℕ) → List EventLine
events_to requests origins = events_for origins [] (take (places_used origins) requests)
