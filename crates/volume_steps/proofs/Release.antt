-- The zones that waited for a transaction are free, and all else stays.
use Rattle.std.specs.Prelude.{◌≡◌, ℕ, Bool, true, false, ◌==◌, if◌then◌else◌, List, [], ◌∷◌, length, map, count_by, Option, Some, None, refl}
use Rattle.std.specs.Option.{option_map}
use Rattle.std.proofs.Common.{sym, ◌∙◌, arith}
use Rattle.std.proofs.lemmas.List.Sums.{sum_by-cons}
use Rattle.minix_tables.specs.declared.zones.zone_state.ZoneState.{ZoneState}
use Rattle.minix_tables.specs.declared.zones.zone_state.ZoneState.TheVariants as states
use Rattle.minix_tables.specs.zones.Zones.{Zones, state_of, released, let_go, is_used}
use Rattle.minix_tables.specs.zones.laws.Counts.{one_if}
use Rattle.minix_tables.specs.zones.laws.Lasting.{release_keeps}
use Rattle.minix_tables.specs.zones.laws.States.{state_released}
use Rattle.volume_steps.specs.Calls.{after_release}
use Rattle.volume_steps.specs.Now.{VolumeNow}
use Rattle.volume_steps.specs.Plain.{IsInUse, IsPlainNow}

length_released : (tx : ℕ) (zs : List ZoneState) → length (map (let_go tx) zs) ≡ length zs
length_released tx [] = refl
length_released tx (z ∷ zs) = let rest = length_released tx zs in omega arith

used_released : (tx : ℕ) (zs : List ZoneState) → count_by is_used (map (let_go tx) zs) ≡ count_by is_used zs
used_released tx [] = refl
used_released tx (z ∷ zs) =
    let after = sum_by-cons (λ x. one_if (is_used x)) (let_go tx z) (map (let_go tx) zs) in
    let before = sum_by-cons (λ x. one_if (is_used x)) z zs in
    let rest = used_released tx zs in
    let one = here z in
    omega arith
  where
    by : (t : Bool) (freed_by : ℕ) → one_if (is_used (if t then states.Free else states.Quarantined freed_by)) ≡ 0
    by true freed_by = refl
    by false freed_by = refl

    here : (z : ZoneState) → one_if (is_used (let_go tx z)) ≡ one_if (is_used z)
    here states.Free = refl
    here states.Used = refl
    here (states.Quarantined freed_by) = by (freed_by == tx) freed_by

-- a zone is in use after a release just where it was
used_after : (m : Zones) (tx zone : ℕ) → state_of (released m tx) zone ≡ Some states.Used → state_of m zone ≡ Some states.Used
used_after m tx zone h = by (state_of m zone) refl (sym (state_released m zone tx) ∙ h)
  where
    freed : (t : Bool) (freed_by : ℕ) → Some (if t then states.Free else states.Quarantined freed_by) ≡ Some states.Used → ⊥
    freed true freed_by e = cc
    freed false freed_by e = cc

    by : (o : Option ZoneState) → state_of m zone ≡ o → option_map (let_go tx) o ≡ Some states.Used → o ≡ Some states.Used
    by None e q = absurd (cc q)
    by (Some states.Free) e q = q
    by (Some states.Used) e q = q
    by (Some (states.Quarantined freed_by)) e q = absurd (freed (freed_by == tx) freed_by q)

used_waits : (tx : ℕ) → ◌≡◌ {A = Option ZoneState} (Some states.Used) (Some (states.Quarantined tx)) → ⊥
used_waits tx e = cc

release_in_use : (v : VolumeNow) (tx : ℕ) → IsInUse v → IsInUse (after_release v tx)
release_in_use v tx h = record {
  sound = h.sound;
  volume = h.volume;
  first = h.first;
  size = length_released tx v.zones.states ∙ h.size;
  used = λ zone. (
    λ used. (h.used zone).0 (used_after v.zones tx zone used),
    λ has. (let used = (h.used zone).1 has in release_keeps v.zones zone tx (λ e. used_waits tx (sym used ∙ e)) ∙ used),
  );
  counted = used_released tx v.zones.states ∙ h.counted;
}

-- A release keeps a volume plain.
pub release_plain : (v : VolumeNow) (tx : ℕ) → IsPlainNow v → IsPlainNow (after_release v tx)
release_plain v tx h = record { in_use = release_in_use v tx h.in_use; plain = h.plain; path_names = h.path_names }
