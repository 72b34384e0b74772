-- What a zone is after another state was written.
use Rattle.std.specs.Prelude.{◌≡◌, ◌≢◌, ℕ, ◌-◌, ◌<◌, ◌≤◌, if◌then◌else◌, Some, None}
use Rattle.std.specs.List.{slice_get}
use Rattle.std.specs.Option.{option_map}
use Rattle.std.proofs.Common.{sym, ap, ◌∙◌, inl, inr, arith}
use Rattle.std.proofs.lemmas.Bool.{cases_lt, lt-ltb, le-ltb}
use Rattle.std.proofs.lemmas.Option.{none-some, slice_get-map}
use Rattle.blk_base.specs.laws.Members.{slice_get-set_same, slice_get-set_other, slice_get-length}
use Rattle.minix_tables.specs.declared.zones.zone_state.ZoneState.{ZoneState}
use Rattle.minix_tables.specs.zones.Zones.{Zones, state_of, with_state, released, let_go}

-- a zone of data, by its place
pub state_above : (m : Zones) (zone : ℕ) → m.first ≤ zone → state_of m zone ≡ slice_get m.states (zone - m.first)
state_above m zone low = ap (λ t. if t then None else slice_get m.states (zone - m.first)) (le-ltb zone m.first low)

-- below the first zone of data there is none
pub state_below : (m : Zones) (zone : ℕ) → zone < m.first → state_of m zone ≡ None
state_below m zone low = ap (λ t. if t then None else slice_get m.states (zone - m.first)) (lt-ltb zone m.first low)

-- a zone that is something is a zone of data
pub above_first : (m : Zones) (zone : ℕ) (z : ZoneState) → state_of m zone ≡ Some z → m.first ≤ zone
above_first m zone z h =
    elim (cases_lt zone m.first) [
      | inl below ↦ absurd (none-some z (sym (state_below m zone below) ∙ h))
      | inr above ↦ above
    ]

pub inside : (m : Zones) (zone : ℕ) (z : ZoneState) → state_of m zone ≡ Some z → slice_get m.states (zone - m.first) ≡ Some z
inside m zone z h = sym (state_above m zone (above_first m zone z h)) ∙ h

pub state_written : (m : Zones) (zone : ℕ) (z old : ZoneState) → state_of m zone ≡ Some old → state_of (with_state m zone z) zone ≡ Some z
state_written m zone z old h =
    state_above (with_state m zone z) zone (above_first m zone old h)
    ∙ slice_get-set_same m.states (zone - m.first) z (slice_get-length m.states (zone - m.first) old (inside m zone old h))

pub state_elsewhere : (m : Zones) (zone other : ℕ) (z old : ZoneState) → state_of m zone ≡ Some old → other ≢ zone → state_of (with_state m zone z) other ≡ state_of m other
state_elsewhere m zone other z old h apart =
    elim (cases_lt other m.first) [
      | inl below ↦ state_below (with_state m zone z) other below ∙ sym (state_below m other below)
      | inr above ↦
          let low = above_first m zone old h in
          state_above (with_state m zone z) other above
          ∙ slice_get-set_other m.states (zone - m.first) (other - m.first) z (λ e. apart (omega arith))
          ∙ sym (state_above m other above)
    ]

-- a release changes each zone by itself
pub state_released : (m : Zones) (zone tx : ℕ) → state_of (released m tx) zone ≡ option_map (let_go tx) (state_of m zone)
state_released m zone tx =
    elim (cases_lt zone m.first) [
      | inl below ↦ state_below (released m tx) zone below ∙ ap (option_map (let_go tx)) (sym (state_below m zone below))
      | inr above ↦
          state_above (released m tx) zone above
          ∙ slice_get-map (let_go tx) m.states (zone - m.first)
          ∙ ap (option_map (let_go tx)) (sym (state_above m zone above))
    ]
