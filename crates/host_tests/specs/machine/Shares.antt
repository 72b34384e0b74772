-- What a call finds room for: log blocks and zones.
use Rattle.std.specs.Int.{div_ceil}
use Rattle.std.specs.Prelude.{◌<◌, ◌≤◌, ◌+◌, ℕ, suc, nat_lt, List, [], ◌∷◌, length, if◌then◌else◌}
use Rattle.host_machine.specs.Model.{Model, Freed}
use Rattle.host_machine.specs.State.{Host, Setup}
use Rattle.journal_ring.specs.running.Running.{Running}

-- so many bodies and revokes need: revoke blocks, descriptors, the bodies and the commit block
abbrev pub log_blocks : Setup → ℕ → ℕ → ℕ
log_blocks u bodies revokes = div_ceil revokes u.writers.most_revokes + div_ceil bodies u.writers.most_tags + bodies + 1

-- the greatest call touches the map of zones and twelve blocks more, and revokes 520
abbrev pub with_greatest_call : Setup → Running → ℕ
with_greatest_call u r = log_blocks u (length r.touched + u.zmap + 12) (length r.revoked + 520)

abbrev pub FitsQuota : Setup → Running → Type 0
FitsQuota u r = with_greatest_call u r ≤ u.quota

abbrev pub PassesQuota : Setup → Running → Type 0
PassesQuota u r = u.quota < with_greatest_call u r

abbrev pub FindsZones : {T V C R : Type 0} → Model T V C R → Host V C R → C → Type 0
FindsZones m s c = m.needs s.volume c ≤ length (m.zones s.volume).free

abbrev pub LacksZones : {T V C R : Type 0} → Model T V C R → Host V C R → C → Type 0
LacksZones m s c = length (m.zones s.volume).free < m.needs s.volume c

-- freed zones that wait for a transaction before transaction k
abbrev pub freed_before : ℕ → List Freed → ℕ
freed_before k [] = 0
freed_before k (z ∷ zs) = if nat_lt z.transaction k then suc (freed_before k zs) else freed_before k zs
