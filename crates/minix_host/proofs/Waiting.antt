-- The lists of free zones and of those that wait say what the states of the zones say.
use Rattle.std.specs.Prelude.{◌≡◌, ◌≢◌, ◌+◌, ◌-◌, ◌<◌, ◌≤◌, ◌↔◌, ℕ, suc, nat_lt, Bool, true, false, if◌then◌else◌, List, [], ◌∷◌, length, Option, Some, None, slice_get, refl}
use Rattle.std.specs.List.{count_by}
use Rattle.std.proofs.Common.{sym, ap, ◌∙◌, arith, inl, inr}
use Rattle.std.proofs.lemmas.Bool.{cases_eq, cases_lt, eq-eqb, ne_eqb}
use Rattle.std.proofs.lemmas.List.Sums.{sum_by-cons}
use Rattle.std.proofs.lemmas.Option.{same_Some, none-some}
use Rattle.blk_base.specs.Members.{In, IsAscending}
use Rattle.minix_tables.specs.declared.zones.zone_state.ZoneState.{ZoneState}
use Rattle.minix_tables.specs.declared.zones.zone_state.ZoneState.TheVariants as states
use Rattle.minix_tables.specs.zones.Zones.{state_of, is_free}
use Rattle.minix_tables.specs.zones.laws.Counts.{one_if}
use Rattle.minix_tables.specs.zones.laws.Lasting.{release_keeps}
use Rattle.volume_steps.specs.Calls.{after_release}
use Rattle.volume_steps.specs.Now.{VolumeNow}
use Rattle.host_machine.specs.Views.{waits_for}
use Rattle.minix_host.specs.Volumes.{free_from, waiting_from, zones_of}

-- the transaction that a zone of this state waits for
abbrev pub holder_of : Option ZoneState → Option ℕ
holder_of (Some (states.Quarantined transaction)) = Some transaction
holder_of other = None

abbrev state_from : ℕ → List ZoneState → ℕ → Option ZoneState
state_from first zs zone = if nat_lt zone first then None else slice_get zs (zone - first)

state_here : (z : ZoneState) (more : List ZoneState) (first zone : ℕ) → first ≡ zone → state_from first (z ∷ more) zone ≡ Some z
state_here z more first zone e =
    let at : zone - first ≡ 0 = omega arith in
    let low : nat_lt zone first ≡ false = grind arith in
    rw low (ap (slice_get (z ∷ more)) at)

state_apart : (z : ZoneState) (more : List ZoneState) (first zone : ℕ) → first ≢ zone → state_from first (z ∷ more) zone ≡ state_from (first + 1) more zone
state_apart z more first zone apart = elim (cases_lt zone first) [
  | inl low ↦
      let one : nat_lt zone first ≡ true = grind arith in
      let two : nat_lt zone (first + 1) ≡ true = grind arith in
      rw one (rw two refl)
  | inr high ↦
      let one : nat_lt zone first ≡ false = grind arith in
      let two : nat_lt zone (first + 1) ≡ false = grind arith in
      let next : zone - first ≡ suc (zone - (first + 1)) = omega arith in
      rw one (rw two (ap (slice_get (z ∷ more)) next))
]

none_from : (first zone : ℕ) → None ≡ holder_of (state_from first [] zone)
none_from first zone = by (nat_lt zone first)
  where
    by : (t : Bool) → None ≡ holder_of (if t then None else slice_get [] (zone - first))
    by true = refl
    by false = refl

waits_from : (first : ℕ) (zs : List ZoneState) (zone : ℕ) → waits_for (waiting_from first zs) zone ≡ holder_of (state_from first zs zone)
waits_from first [] zone = none_from first zone
waits_from first (states.Free ∷ more) zone = elim (cases_eq first zone) [
  | inl e ↦ (let past : nat_lt zone (first + 1) ≡ true = grind arith in waits_from (first + 1) more zone ∙ rw past (sym (ap holder_of (state_here states.Free more first zone e))))
  | inr apart ↦ waits_from (first + 1) more zone ∙ sym (ap holder_of (state_apart states.Free more first zone apart))
]
waits_from first (states.Used ∷ more) zone = elim (cases_eq first zone) [
  | inl e ↦ (let past : nat_lt zone (first + 1) ≡ true = grind arith in waits_from (first + 1) more zone ∙ rw past (sym (ap holder_of (state_here states.Used more first zone e))))
  | inr apart ↦ waits_from (first + 1) more zone ∙ sym (ap holder_of (state_apart states.Used more first zone apart))
]
waits_from first (states.Quarantined freed_by ∷ more) zone = elim (cases_eq first zone) [
  | inl e ↦ ap (λ (b : Bool). if b then Some freed_by else waits_for (waiting_from (first + 1) more) zone) (eq-eqb first zone e) ∙ sym (ap holder_of (state_here (states.Quarantined freed_by) more first zone e))
  | inr apart ↦
      ap (λ (b : Bool). if b then Some freed_by else waits_for (waiting_from (first + 1) more) zone) (ne_eqb first zone apart)
      ∙ (waits_from (first + 1) more zone ∙ sym (ap holder_of (state_apart (states.Quarantined freed_by) more first zone apart)))
]

-- what a zone waits for
pub waits_is : (v : VolumeNow) (zone : ℕ) → waits_for (zones_of v).waiting zone ≡ holder_of (state_of v.zones zone)
unfolding zones_of
waits_is v zone = waits_from v.zones.first v.zones.states zone

free_counted : (first : ℕ) (zs : List ZoneState) → length (free_from first zs) ≡ count_by is_free zs
free_counted first [] = refl
free_counted first (states.Free ∷ more) = (let rest = free_counted (first + 1) more in let all = sum_by-cons (λ x. one_if (is_free x)) states.Free more in omega arith)
free_counted first (states.Used ∷ more) = (let rest = free_counted (first + 1) more in let all = sum_by-cons (λ x. one_if (is_free x)) states.Used more in omega arith)
free_counted first (states.Quarantined freed_by ∷ more) = (let rest = free_counted (first + 1) more in let all = sum_by-cons (λ x. one_if (is_free x)) (states.Quarantined freed_by) more in omega arith)

-- as many zones are free
pub free_is : (v : VolumeNow) → length (zones_of v).free ≡ count_by is_free v.zones.states
unfolding zones_of
free_is v = free_counted v.zones.first v.zones.states

-- ---- where nothing begins or ends to wait

holder_none : (o : Option ZoneState) → ((freed_by : ℕ) → o ≡ Some (states.Quarantined freed_by) → ⊥) → holder_of o ≡ None
holder_none None h = refl
holder_none (Some states.Free) h = refl
holder_none (Some states.Used) h = refl
holder_none (Some (states.Quarantined freed_by)) h = absurd (h freed_by refl)

pub holder_same : (old new : Option ZoneState) → ((freed_by : ℕ) → old ≡ Some (states.Quarantined freed_by) → new ≡ Some (states.Quarantined freed_by)) →
    ((freed_by : ℕ) → new ≡ Some (states.Quarantined freed_by) → old ≡ Some (states.Quarantined freed_by)) → holder_of new ≡ holder_of old
holder_same None new on back = holder_none new (λ freed_by e. (let no = back freed_by e in cc))
holder_same (Some states.Free) new on back = holder_none new (λ freed_by e. (let no = back freed_by e in cc))
holder_same (Some states.Used) new on back = holder_none new (λ freed_by e. (let no = back freed_by e in cc))
holder_same (Some (states.Quarantined freed_by)) new on back = ap holder_of (on freed_by refl)

pub holder_state : (o : Option ZoneState) (freed_by : ℕ) → holder_of o ≡ Some freed_by → o ≡ Some (states.Quarantined freed_by)
holder_state None freed_by e = absurd (cc e)
holder_state (Some states.Free) freed_by e = absurd (cc e)
holder_state (Some states.Used) freed_by e = absurd (cc e)
holder_state (Some (states.Quarantined other)) freed_by e = ap (λ k. Some (states.Quarantined k)) (same_Some other freed_by e)

-- ---- releases

-- what waits for another transaction waits on
pub waits_on : (v : VolumeNow) (k j zone : ℕ) → k < j → waits_for (zones_of v).waiting zone ≡ Some j → waits_for (zones_of (after_release v k)).waiting zone ≡ Some j
waits_on v k j zone later e =
    let state = holder_state (state_of v.zones zone) j (sym (waits_is v zone) ∙ e) in
    waits_is (after_release v k) zone ∙ ap holder_of (release_keeps v.zones zone k (λ other. apart (sym state ∙ other)) ∙ state)
  where
    apart : ◌≡◌ {A = Option ZoneState} (Some (states.Quarantined j)) (Some (states.Quarantined k)) → ⊥
    apart same = (let one : j ≡ k = cc in omega arith)

-- ---- the list of free zones

pub waits_state : (v : VolumeNow) (zone transaction : ℕ) → (waits_for (zones_of v).waiting zone ≡ Some transaction) ↔ (state_of v.zones zone ≡ Some (states.Quarantined transaction))
waits_state v zone transaction = (λ waits. holder_state (state_of v.zones zone) transaction (sym (waits_is v zone) ∙ waits), λ state. waits_is v zone ∙ ap holder_of state)

-- what is listed from a zone on is not below it
free_above : (first : ℕ) (zs : List ZoneState) (zone : ℕ) → In zone (free_from first zs) → first ≤ zone
free_above first [] zone i = absurd i
free_above first (states.Free ∷ more) zone (inl e) = omega arith
free_above first (states.Free ∷ more) zone (inr i) = (let le = free_above (first + 1) more zone i in omega arith)
free_above first (states.Used ∷ more) zone i = (let le = free_above (first + 1) more zone i in omega arith)
free_above first (states.Quarantined freed_by ∷ more) zone i = (let le = free_above (first + 1) more zone i in omega arith)

free_rising : (first : ℕ) (zs : List ZoneState) → IsAscending (λ (zone : ℕ). zone) (free_from first zs)
free_rising first [] = tt
free_rising first (states.Free ∷ more) = ((λ zone i. let le = free_above (first + 1) more zone i in omega arith), free_rising (first + 1) more)
free_rising first (states.Used ∷ more) = free_rising (first + 1) more
free_rising first (states.Quarantined freed_by ∷ more) = free_rising (first + 1) more

pub rising : (v : VolumeNow) → IsAscending (λ (zone : ℕ). zone) (zones_of v).free
unfolding zones_of
rising v = free_rising v.zones.first v.zones.states

free_state : (first : ℕ) (zs : List ZoneState) (zone : ℕ) → In zone (free_from first zs) → state_from first zs zone ≡ Some states.Free
free_state first [] zone i = absurd i
free_state first (states.Free ∷ more) zone (inl e) = state_here states.Free more first zone e
free_state first (states.Free ∷ more) zone (inr i) = (let le = free_above (first + 1) more zone i in state_apart states.Free more first zone (λ e. omega arith) ∙ free_state (first + 1) more zone i)
free_state first (states.Used ∷ more) zone i = (let le = free_above (first + 1) more zone i in state_apart states.Used more first zone (λ e. omega arith) ∙ free_state (first + 1) more zone i)
free_state first (states.Quarantined freed_by ∷ more) zone i = (let le = free_above (first + 1) more zone i in state_apart (states.Quarantined freed_by) more first zone (λ e. omega arith) ∙ free_state (first + 1) more zone i)

none_free : (first zone : ℕ) → state_from first [] zone ≡ Some states.Free → ⊥
none_free first zone = by (nat_lt zone first)
  where
    by : (t : Bool) → ◌≡◌ {A = Option ZoneState} (if t then None else slice_get [] (zone - first)) (Some states.Free) → ⊥
    by true e = none-some _ e
    by false e = none-some _ e

state_free : (first : ℕ) (zs : List ZoneState) (zone : ℕ) → state_from first zs zone ≡ Some states.Free → In zone (free_from first zs)
state_free first [] zone e = absurd (none_free first zone e)
state_free first (states.Free ∷ more) zone e = elim (cases_eq first zone) [
  | inl here ↦ inl here
  | inr apart ↦ inr (state_free (first + 1) more zone (sym (state_apart states.Free more first zone apart) ∙ e))
]
state_free first (states.Used ∷ more) zone e = elim (cases_eq first zone) [
  | inl here ↦ (let no_state : ◌≡◌ {A = Option ZoneState} (Some states.Used) (Some states.Free) = sym (state_here states.Used more first zone here) ∙ e in absurd (cc no_state))
  | inr apart ↦ state_free (first + 1) more zone (sym (state_apart states.Used more first zone apart) ∙ e)
]
state_free first (states.Quarantined freed_by ∷ more) zone e = elim (cases_eq first zone) [
  | inl here ↦ (let no_state : ◌≡◌ {A = Option ZoneState} (Some (states.Quarantined freed_by)) (Some states.Free) = sym (state_here (states.Quarantined freed_by) more first zone here) ∙ e in absurd (cc no_state))
  | inr apart ↦ state_free (first + 1) more zone (sym (state_apart (states.Quarantined freed_by) more first zone apart) ∙ e)
]

-- the free zones, and no others
pub free_listed : (v : VolumeNow) (zone : ℕ) → In zone (zones_of v).free ↔ (state_of v.zones zone ≡ Some states.Free)
unfolding zones_of
free_listed v zone = (free_state v.zones.first v.zones.states zone, state_free v.zones.first v.zones.states zone)
