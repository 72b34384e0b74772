-- The lowest free zone.
use Rattle.std.specs.Prelude.{◌≡◌, ◌≢◌, ℕ, zero, suc, ◌+◌, ◌-◌, ◌≤◌, ◌↔◌, List, [], ◌∷◌, length, Option, Some, None, refl}
use Rattle.std.specs.List.{slice_get}
use Rattle.std.specs.Option.{option_map}
use Rattle.std.proofs.Common.{sym, ap, subst, ◌∙◌, arith}
use Rattle.std.proofs.lemmas.Option.{none-some, same_Some}
use Rattle.minix_tables.specs.declared.zones.zone_state.ZoneState.{ZoneState}
use Rattle.minix_tables.specs.declared.zones.zone_state.ZoneState.TheVariants as states
use Rattle.minix_tables.specs.zones.Zones.{Zones, state_of, least_free, lowest_free, NoneFreeBelow, IsLowestFree}
use Rattle.minix_tables.specs.zones.laws.States.{state_above, above_first, inside}

pub least_is : (zs : List ZoneState) (at : ℕ) → slice_get zs at ≡ Some states.Free → NoneFreeBelow zs at → least_free zs ≡ Some at
least_is [] at h none = absurd (cc)
least_is (states.Free ∷ zs) zero h none = refl
least_is (states.Free ∷ zs) (suc at) h none = absurd (none 0 (omega arith) refl)
least_is (states.Used ∷ zs) zero h none = absurd (cc)
least_is (states.Used ∷ zs) (suc at) h none = rw (least_is zs at h (λ k low. none (suc k) (omega arith))) refl
least_is (states.Quarantined tx ∷ zs) zero h none = absurd (cc)
least_is (states.Quarantined tx ∷ zs) (suc at) h none = rw (least_is zs at h (λ k low. none (suc k) (omega arith))) refl

pub least_none : (zs : List ZoneState) (low : ℕ) → length zs ≤ low → NoneFreeBelow zs low → least_free zs ≡ None
least_none [] low all none = refl
least_none (states.Free ∷ zs) low all none = absurd (none 0 (omega arith) refl)
least_none (states.Used ∷ zs) zero all none = absurd (omega arith)
least_none (states.Used ∷ zs) (suc low) all none = rw (least_none zs low (omega arith) (λ k below. none (suc k) (omega arith))) refl
least_none (states.Quarantined tx ∷ zs) zero all none = absurd (omega arith)
least_none (states.Quarantined tx ∷ zs) (suc low) all none = rw (least_none zs low (omega arith) (λ k below. none (suc k) (omega arith))) refl

-- a place behind one that is not free
behind : (zs : List ZoneState) (z : ZoneState) → (◌≡◌ {A = Option ZoneState} (Some z) (Some states.Free) → ⊥) → (at : ℕ) → option_map suc (least_free zs) ≡ Some at
    → ((n : ℕ) → least_free zs ≡ Some n → (slice_get zs n ≡ Some states.Free) × NoneFreeBelow zs n)
    → (slice_get (z ∷ zs) at ≡ Some states.Free) × NoneFreeBelow (z ∷ zs) at
behind zs z other at e rest = by (least_free zs) refl e
  where
    below : (n : ℕ) → NoneFreeBelow zs n → NoneFreeBelow (z ∷ zs) (suc n)
    below n none zero low h = other h
    below n none (suc k) low h = none k (omega arith) h

    by : (o : Option ℕ) → least_free zs ≡ o → option_map suc o ≡ Some at → (slice_get (z ∷ zs) at ≡ Some states.Free) × NoneFreeBelow (z ∷ zs) at
    by None q d = absurd (none-some at d)
    by (Some n) q d =
        let r = rest n q in
        subst (λ a. (slice_get (z ∷ zs) a ≡ Some states.Free) × NoneFreeBelow (z ∷ zs) a) (same_Some (suc n) at d) (r.0, below n r.1)

-- what is found is free, and nothing before it is
pub is_least : (zs : List ZoneState) (at : ℕ) → least_free zs ≡ Some at → (slice_get zs at ≡ Some states.Free) × NoneFreeBelow zs at
is_least [] at e = absurd (none-some at e)
is_least (states.Free ∷ zs) at e =
    subst (λ n. (slice_get (states.Free ∷ zs) n ≡ Some states.Free) × NoneFreeBelow (states.Free ∷ zs) n) (same_Some 0 at e) (refl, λ k low. absurd (omega arith))
is_least (states.Used ∷ zs) at e = behind zs states.Used (λ q. cc) at e (is_least zs)
is_least (states.Quarantined tx ∷ zs) at e = behind zs (states.Quarantined tx) (λ q. cc) at e (is_least zs)

mapped_none : (o : Option ℕ) → option_map suc o ≡ None → o ≡ None
mapped_none None e = refl
mapped_none (Some n) e = absurd (none-some (suc n) (sym e))

-- where nothing is found, nothing is free
pub none_least : (zs : List ZoneState) → least_free zs ≡ None → (k : ℕ) → slice_get zs k ≢ Some states.Free
none_least [] e k h = none-some states.Free h
none_least (states.Free ∷ zs) e k h = absurd (none-some 0 (sym e))
none_least (states.Used ∷ zs) e zero h = cc
none_least (states.Used ∷ zs) e (suc k) h = none_least zs (mapped_none (least_free zs) e) k h
none_least (states.Quarantined tx ∷ zs) e zero h = cc
none_least (states.Quarantined tx ∷ zs) e (suc k) h = none_least zs (mapped_none (least_free zs) e) k h

-- the lowest free zone is the free zone below which none is free
pub lowest_is : (m : Zones) (zone : ℕ) → (lowest_free m ≡ Some zone) ↔ IsLowestFree m zone
lowest_is m zone = (λ e. found (least_free m.states) refl e, λ h. is h)
  where
    found : (o : Option ℕ) → least_free m.states ≡ o → option_map (λ at. m.first + at) o ≡ Some zone → IsLowestFree m zone
    found None q e = absurd (none-some zone e)
    found (Some at) q e =
        let place : m.first + at ≡ zone = same_Some (m.first + at) zone e in
        let k : zone - m.first ≡ at = omega arith in
        let r = is_least m.states at q in
        record {
          free = state_above m zone (omega arith) ∙ ap (slice_get m.states) k ∙ r.0;
          lowest = λ lower low h. r.1 (lower - m.first) (let above = above_first m lower states.Free h in omega arith) (inside m lower states.Free h);
        }

    is : IsLowestFree m zone → lowest_free m ≡ Some zone
    is h =
        let above = above_first m zone states.Free h.free in
        let sum : m.first + (zone - m.first) ≡ zone = omega arith in
        ap (option_map (λ at. m.first + at))
        (least_is m.states (zone - m.first) (inside m zone states.Free h.free)
        (λ k low free. h.lowest (m.first + k) (omega arith)
        (state_above m (m.first + k) (omega arith) ∙ ap (slice_get m.states) (let d : m.first + k - m.first ≡ k = omega arith in d) ∙ free)))
        ∙ ap Some sum

-- there is none exactly where no zone is free
pub lowest_none : (m : Zones) → (lowest_free m ≡ None) ↔ ((zone : ℕ) → state_of m zone ≢ Some states.Free)
lowest_none m = (λ e zone h. none_least m.states (shifted (least_free m.states) e) (zone - m.first) (inside m zone states.Free h), λ none. by (least_free m.states) refl none)
  where
    shifted : (o : Option ℕ) → option_map (λ at. m.first + at) o ≡ None → o ≡ None
    shifted None e = refl
    shifted (Some at) e = absurd (none-some (m.first + at) (sym e))

    by : (o : Option ℕ) → least_free m.states ≡ o → ((zone : ℕ) → state_of m zone ≢ Some states.Free) → option_map (λ at. m.first + at) o ≡ None
    by None q none = refl
    by (Some at) q none =
        absurd (none (m.first + at)
        (state_above m (m.first + at) (omega arith)
        ∙ ap (slice_get m.states) (let d : m.first + at - m.first ≡ at = omega arith in d)
        ∙ (is_least m.states at q).0))
