-- Lists of calls on the map of zones.
use Rattle.std.specs.Prelude.{◌≡◌, ℕ, ⊤, List, [], ◌∷◌, Some}
use Rattle.minix_tables.specs.declared.zones.zone_state.ZoneState.TheVariants as states
use Rattle.minix_tables.specs.zones.Zones.{Zones, state_of, taken, given, released}

-- A zone is taken; this zone is given into quarantine for this transaction; a transaction is released.
pub data ZoneEvent : Type 0 where
  take : ZoneEvent
  give : ℕ → ℕ → ZoneEvent
  release : ℕ → ZoneEvent

abbrev pub step : Zones → ZoneEvent → Zones
step m take = taken m
step m (give zone tx) = given m zone tx
step m (release tx) = released m tx

-- only a zone in use is given
abbrev pub IsAllowed : Zones → ZoneEvent → Type 0
IsAllowed m take = ⊤
IsAllowed m (give zone tx) = state_of m zone ≡ Some states.Used
IsAllowed m (release tx) = ⊤

-- the zones after these calls
abbrev pub after : Zones → List ZoneEvent → Zones
after m [] = m
after m (e ∷ es) = after (step m e) es

-- each call is allowed where it is made
abbrev pub AreAllowed : Zones → List ZoneEvent → Type 0
AreAllowed m [] = ⊤
AreAllowed m (e ∷ es) = IsAllowed m e × AreAllowed (step m e) es
