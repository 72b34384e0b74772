-- What a zone stays over any list of calls.
use Rattle.std.specs.Prelude.{◌≡◌, ◌≢◌, ℕ, if◌then◌else◌, List, [], ◌∷◌, Option, Some, None, refl}
use Rattle.std.specs.Option.{option_map}
use Rattle.std.proofs.Common.{sym, ap, ◌∙◌, inl, inr, eq-eqb}
use Rattle.std.proofs.lemmas.Bool.{ne_eqb}
use Rattle.std.proofs.lemmas.Option.{same_Some}
use Rattle.blk_base.specs.Members.{In}
use Rattle.minix_tables.specs.declared.zones.zone_state.ZoneState.{ZoneState}
use Rattle.minix_tables.specs.declared.zones.zone_state.ZoneState.TheVariants as states
use Rattle.minix_tables.specs.zones.Zones.{Zones, state_of, with_state, lowest_free, taken, given, released, let_go}
use Rattle.minix_tables.specs.zones.Events.{ZoneEvent, take, give, release, after, AreAllowed}
use Rattle.minix_tables.specs.zones.laws.States.{state_elsewhere, state_released}
use Rattle.minix_tables.specs.zones.laws.Lowest.{lowest_is}

-- a take changes a free zone only
pub kept_by_take : (m : Zones) (zone : ℕ) (z : ZoneState) → state_of m zone ≡ Some z → (z ≡ states.Free → ⊥) → state_of (taken m) zone ≡ Some z
kept_by_take m zone z h busy = by (lowest_free m) refl
  where
    by : (o : Option ℕ) → lowest_free m ≡ o → state_of (elim o as (λ _. Zones) [ None ↦ m | Some low ↦ with_state m low states.Used ]) zone ≡ Some z
    by None e = h
    by (Some low) e =
        let free = ((lowest_is m low).0 e).free in
        state_elsewhere m low zone states.Used states.Free free (λ same. busy (same_Some z states.Free (sym h ∙ ap (state_of m) same ∙ free))) ∙ h

-- a zone that does not wait for the transaction stays as it is
go_kept : (tx : ℕ) (z : ZoneState) → (z ≡ states.Quarantined tx → ⊥) → let_go tx z ≡ z
go_kept tx states.Free other = refl
go_kept tx states.Used other = refl
go_kept tx (states.Quarantined freed_by) other =
    ap (λ t. if t then states.Free else states.Quarantined freed_by) (ne_eqb freed_by tx (λ e. other (ap states.Quarantined e)))

pub release_frees : (m : Zones) (zone tx : ℕ) → state_of m zone ≡ Some (states.Quarantined tx) → state_of (released m tx) zone ≡ Some states.Free
release_frees m zone tx h =
    state_released m zone tx ∙ ap (option_map (let_go tx)) h
    ∙ ap (λ t. Some (if t then states.Free else states.Quarantined tx)) (eq-eqb tx tx refl)

pub release_keeps : (m : Zones) (zone tx : ℕ) → state_of m zone ≢ Some (states.Quarantined tx) → state_of (released m tx) zone ≡ state_of m zone
release_keeps m zone tx other = state_released m zone tx ∙ by (state_of m zone) refl
  where
    by : (o : Option ZoneState) → state_of m zone ≡ o → option_map (let_go tx) o ≡ o
    by None e = refl
    by (Some z) e = ap Some (go_kept tx z (λ q. other (e ∙ ap Some q)))

-- a zone in use stays in use until it is given
pub used_lasts : (m : Zones) (events : List ZoneEvent) (zone : ℕ) → state_of m zone ≡ Some states.Used → AreAllowed m events
    → ((tx : ℕ) → In (give zone tx) events → ⊥) → state_of (after m events) zone ≡ Some states.Used
used_lasts m [] zone h allowed none = h
used_lasts m (take ∷ es) zone h allowed none = used_lasts (taken m) es zone (kept_by_take m zone states.Used h (λ e. cc)) allowed.1 (λ tx i. none tx (inr i))
used_lasts m (give other freed_by ∷ es) zone h allowed none =
    used_lasts (given m other freed_by) es zone
    (state_elsewhere m other zone (states.Quarantined freed_by) states.Used allowed.0 (λ same. none freed_by (inl (ap (λ z. give z freed_by) (sym same)))) ∙ h)
    allowed.1 (λ tx i. none tx (inr i))
used_lasts m (release tx ∷ es) zone h allowed none =
    used_lasts (released m tx) es zone (release_keeps m zone tx (λ e. used_waits tx (sym h ∙ e)) ∙ h) allowed.1 (λ t i. none t (inr i))
  where
    used_waits : (tx : ℕ) → ◌≡◌ {A = Option ZoneState} (Some states.Used) (Some (states.Quarantined tx)) → ⊥
    used_waits tx e = cc

-- a zone in quarantine stays there until its transaction is released
pub quarantine_lasts : (m : Zones) (events : List ZoneEvent) (zone tx : ℕ) → state_of m zone ≡ Some (states.Quarantined tx) → AreAllowed m events
    → (In (release tx) events → ⊥) → state_of (after m events) zone ≡ Some (states.Quarantined tx)
quarantine_lasts m [] zone tx h allowed none = h
quarantine_lasts m (take ∷ es) zone tx h allowed none =
    quarantine_lasts (taken m) es zone tx (kept_by_take m zone (states.Quarantined tx) h (λ e. cc)) allowed.1 (λ i. none (inr i))
quarantine_lasts m (give other freed_by ∷ es) zone tx h allowed none =
    quarantine_lasts (given m other freed_by) es zone tx
    (state_elsewhere m other zone (states.Quarantined freed_by) states.Used allowed.0 (λ same. waits_used (sym h ∙ ap (state_of m) same ∙ allowed.0)) ∙ h)
    allowed.1 (λ i. none (inr i))
  where
    waits_used : ◌≡◌ {A = Option ZoneState} (Some (states.Quarantined tx)) (Some states.Used) → ⊥
    waits_used e = cc
quarantine_lasts m (release freed_by ∷ es) zone tx h allowed none =
    quarantine_lasts (released m freed_by) es zone tx
    (release_keeps m zone freed_by (λ e. none (inl (ap release (held_by freed_by (sym e ∙ h))))) ∙ h)
    allowed.1 (λ i. none (inr i))
  where
    held_by : (freed_by : ℕ) → ◌≡◌ {A = Option ZoneState} (Some (states.Quarantined freed_by)) (Some (states.Quarantined tx)) → freed_by ≡ tx
    held_by freed_by e = cc
