-- Two steps of a call, one after the other, as one step.
use Rattle.std.specs.Prelude.{◌≡◌, ◌≢◌, ◌≤◌, ◌<◌, ◌-◌, ◌↔◌, ℕ, zero, suc, ◌⊎◌, List, [], ◌∷◌, length, Option, Some, None, refl}
use Rattle.std.proofs.Common.{sym, subst, inl, inr, ⊎_elim, ◌∙◌, arith}
use Rattle.blk_base.specs.Members.{In}
use Rattle.blk_base.specs.laws.Members.{In-append_left, In-append_right, In-append_cases}
use Rattle.minix_layout.specs.declared.division.Geometry.{Geometry}
use Rattle.minix_tables.specs.declared.zones.zone_state.ZoneState.{ZoneState}
use Rattle.minix_tables.specs.declared.zones.zone_state.ZoneState.TheVariants as states
use Rattle.minix_tables.specs.zones.Zones.{state_of}
use Rattle.volume_model.specs.Touched.{Contents, Touched, Page, Tells, Follows, IsMeta, HasPage, and_then}
use Rattle.volume_model.specs.Touched.IsMeta.{of_tables, of_numbers, of_directory}
use Rattle.volume_model.specs.Volume.{block}
use Rattle.volume_model.specs.Plain.{HasZone}
use Rattle.volume_model.specs.laws.Touched.{tells_then}
use Rattle.volume_steps.specs.Now.{VolumeNow, Change}
use Rattle.volume_steps.specs.laws.Steady.{IsSteady, TellsNodes, KeepsMarks}
use Rattle.volume_steps.proofs.Taking.{lowest_then, free_used, in_zones}
use Rattle.volume_steps.proofs.Listed.{nodes_then}
use Rattle.volume_steps.proofs.Marked.{SameNumbers, marks_then}
use Rattle.std.specs.List.{slice_get}
use Rattle.minix_tables.specs.zones.laws.States.{state_above}
use Rattle.volume_steps.specs.Plain.{IsInUse}

-- ---- what is metadata has a zone, or stands before the zones

pub meta_has_zone : (g : Geometry) (v : Contents) (b : ℕ) → IsMeta g v b → g.first ≤ b → HasZone v b
meta_has_zone g v b (of_tables low) high = absurd (omega arith)
meta_has_zone g v b (of_numbers birth p x at numbers is some) high = record { birth = birth; placed = p; place = x; stands = at; zone_is = is; some = some }
meta_has_zone g v b (of_directory birth p d i at part is some) high = record { birth = birth; placed = p; place = block i; stands = at; zone_is = is; some = some }

pub used_waits : (tx : ℕ) → ◌≡◌ {A = Option ZoneState} (Some states.Used) (Some (states.Quarantined tx)) → ⊥
used_waits tx e = cc

-- ---- what is written

-- the same of other words for the pairs that are written
pub tells_as : (g : Geometry) (v w : Contents) (t : Touched) (Writes More : ℕ → ℕ → Type 0) → Tells g v w t Writes →
    ((birth index : ℕ) → Writes birth index → More birth index) → ((birth index : ℕ) → More birth index → Writes birth index) → Tells g v w t More
tells_as g v w t Writes More h there back = record {
  fresh_are_touched = h.fresh_are_touched;
  stays_or_revoked = h.stays_or_revoked;
  revoked_are_left = h.revoked_are_left;
  kept = h.kept;
  touched_are_meta = h.touched_are_meta;
  pages_are_written = λ x i. ((h.pages_are_written x i).0, there x.birth x.index (h.pages_are_written x i).1);
  was_or_written = h.was_or_written;
  written_are_pages = λ birth index w. h.written_are_pages birth index (back birth index w);
  dropped_were_mapped = h.dropped_were_mapped;
  stays_or_dropped = h.stays_or_dropped;
  data_kept = h.data_kept;
}

pub steady_as : (tx : ℕ) (v : VolumeNow) (c : Change) (Writes More : ℕ → ℕ → Type 0) → IsSteady tx v c Writes →
    ((birth index : ℕ) → Writes birth index → More birth index) → ((birth index : ℕ) → More birth index → Writes birth index) → IsSteady tx v c More
steady_as tx v c Writes More h there back = record {
  geometry = h.geometry;
  in_use = h.in_use;
  told = tells_as v.geometry v.contents c.volume.contents c.touched Writes More h.told there back;
  nodes = h.nodes;
  lowest = h.lowest;
  marks = h.marks;
  freed = h.freed;
  was_used = h.was_used;
  waits_on = h.waits_on;
  waited = h.waited;
}

-- ---- states of zones

-- each zone of data of a volume in use has a state
pub zone_state : (v : VolumeNow) → IsInUse v → (zone : ℕ) → v.geometry.first ≤ zone → zone < v.geometry.zones → (s : ZoneState) × (state_of v.zones zone ≡ Some s)
zone_state v h zone low high =
    let first = h.first in
    let size = h.size in
    let w = there v.zones.states (zone - v.zones.first) (omega arith) in
    (w.0, state_above v.zones zone (omega arith) ∙ w.1)
  where
    there : (zs : List ZoneState) (k : ℕ) → k < length zs → (s : ZoneState) × (slice_get zs k ≡ Some s)
    there [] k low = absurd (omega arith)
    there (z ∷ zs) zero low = (z, refl)
    there (z ∷ zs) (suc k) low = there zs k (omega arith)

used_or : (o : Option ZoneState) → (o ≡ Some states.Used) ⊎ (o ≢ Some states.Used)
used_or None = inr (λ e. cc e)
used_or (Some states.Free) = inr (λ e. cc e)
used_or (Some states.Used) = inl refl
used_or (Some (states.Quarantined tx)) = inr (λ e. cc e)

-- ---- one after the other

-- What the second step may not do: drop or write again what the first wrote or dropped, and free what the first took.
pub record ComesAfter (v w : VolumeNow) (s t : Touched) : Type 0 where
  pub not_dropped : (x : Page) → In x s.pages → In x t.dropped → ⊥
  pub not_written : (x y : Page) → In x s.dropped → In y t.pages → y.birth ≡ x.birth → y.index ≡ x.index → ⊥
  pub not_new : (zone : ℕ) → In zone t.freed → state_of w.zones zone ≡ Some states.Used → state_of v.zones zone ≡ Some states.Used

module _ (tx : ℕ) (v : VolumeNow) (c d : Change) (Writes More : ℕ → ℕ → Type 0) (h : IsSteady tx v c Writes) (k : IsSteady tx c.volume d More) (after : ComesAfter v c.volume c.touched d.touched)
    (numbers : SameNumbers v.contents.nodes c.volume.contents.nodes ⊎ SameNumbers c.volume.contents.nodes d.volume.contents.nodes) where
  -- what the first revoked waits, so the second has it nowhere
  not_taken : (b : ℕ) → In b c.touched.revoked → In b d.touched.blocks → ⊥
  not_taken b gone taken =
      let left = h.told.revoked_are_left b gone in
      let waits = k.waits_on b tx (h.freed b left.0) in
      let high : d.volume.geometry.first ≤ b = subst (λ (g : Geometry). g.first ≤ b) (sym (k.geometry ∙ h.geometry)) left.2 in
      ⊎_elim
      (λ revoked. used_waits tx (sym (k.was_used b (k.told.revoked_are_left b revoked).0) ∙ h.freed b left.0))
      (λ meta. used_waits tx (sym ((k.in_use.used b).1
      (meta_has_zone d.volume.geometry d.volume.contents b (subst (λ g. IsMeta g d.volume.contents b) (sym k.geometry) meta.0) high)) ∙ waits))
      (k.told.touched_are_meta b taken)

  page_before : (x : Page) → HasPage d.volume.contents x → ((y : Page) → In y d.touched.pages → y.birth ≡ x.birth → y.index ≡ x.index → ⊥) → HasPage c.volume.contents x
  page_before x page none = ⊎_elim (λ was. was) (λ i. absurd (none x i refl refl)) (k.told.was_or_written x page)

  follows : Follows d.volume.contents c.touched d.touched
  follows = record {
    not_taken = not_taken;
    not_dropped = after.not_dropped;
    not_mapped = λ x zone dropped page.
        (h.told.dropped_were_mapped x dropped).2 zone
        (page_before (record { birth = x.birth; index = x.index; zone = zone }) page (λ y i same also. after.not_written x y dropped i same also));
  }

  -- each zone comes into use or goes at most once
  once : (zone : ℕ) → v.geometry.first ≤ zone → zone < v.geometry.zones → (((state_of c.volume.zones zone ≡ Some states.Used) ↔ (state_of v.zones zone ≡ Some states.Used)) → ⊥) →
      (((state_of d.volume.zones zone ≡ Some states.Used) ↔ (state_of c.volume.zones zone ≡ Some states.Used)) → ⊥) → ⊥
  once zone low high first second =
      let between = zone_state c.volume h.in_use zone (subst (λ (g : Geometry). g.first ≤ zone) (sym h.geometry) low) (subst (λ (g : Geometry). zone < g.zones) (sym h.geometry) high) in
      by between.0 between.1
    where
      by : (s : ZoneState) → state_of c.volume.zones zone ≡ Some s → ⊥
      by states.Free e = ⊎_elim
          (λ used. free_used (sym (h.lowest.was_free zone e) ∙ used))
          (λ other. first ((λ u. absurd (free_used (sym e ∙ u))), (λ u. absurd (other u))))
          (used_or (state_of v.zones zone))
      by (states.Quarantined freed_by) e = ⊎_elim
          (λ used. used_waits freed_by (sym used ∙ k.waits_on zone freed_by e))
          (λ other. second ((λ u. absurd (other u)), (λ u. absurd (used_waits freed_by (sym u ∙ e)))))
          (used_or (state_of d.volume.zones zone))
      by states.Used e =
          let place : d.volume.geometry ≡ v.geometry = k.geometry ∙ h.geometry in
          let last = zone_state d.volume k.in_use zone (subst (λ (g : Geometry). g.first ≤ zone) (sym place) low) (subst (λ (g : Geometry). zone < g.zones) (sym place) high) in
          ⊎_elim
          (λ used. first ((λ u. used), (λ u. e)))
          (λ other. end other last.0 last.1)
          (used_or (state_of v.zones zone))
        where
          end : (state_of v.zones zone ≢ Some states.Used) → (s : ZoneState) → state_of d.volume.zones zone ≡ Some s → ⊥
          end other states.Free f = free_used (sym (k.lowest.was_free zone f) ∙ e)
          end other states.Used f = second ((λ u. e), (λ u. f))
          end other (states.Quarantined freed_by) f = ⊎_elim
              (λ i. other (after.not_new zone i e))
              (λ out. used_waits freed_by (sym e ∙ k.waited zone freed_by out f))
              (in_zones zone d.touched.freed)

  abbrev both : Change
  both = record { volume = d.volume; touched = and_then c.touched d.touched }

  pub steady_then : IsSteady tx v both (λ birth index. Writes birth index ⊎ More birth index)
  steady_then = record {
    geometry = k.geometry ∙ h.geometry;
    in_use = k.in_use;
    told = tells_then v.geometry v.contents c.volume.contents d.volume.contents c.touched d.touched Writes More h.told
        (subst (λ g. Tells g c.volume.contents d.volume.contents d.touched More) h.geometry k.told) follows;
    nodes = nodes_then v.geometry v.contents c.volume.contents d.volume.contents c.touched d.touched h.nodes
        (subst (λ g. TellsNodes g c.volume.contents d.volume.contents d.touched) h.geometry k.nodes);
    lowest = lowest_then v.zones c.volume.zones d.volume.zones h.lowest k.lowest;
    marks = marks_then v.geometry v.contents c.volume.contents d.volume.contents v.zones c.volume.zones d.volume.zones h.marks
        (subst (λ g. KeepsMarks g c.volume.contents d.volume.contents c.volume.zones d.volume.zones) h.geometry k.marks) numbers once;
    freed = λ zone i. ⊎_elim (λ first. k.waits_on zone tx (h.freed zone first)) (λ second. k.freed zone second) (In-append_cases c.touched.freed d.touched.freed zone i);
    was_used = λ zone i. ⊎_elim (λ first. h.was_used zone first) (λ second. after.not_new zone second (k.was_used zone second)) (In-append_cases c.touched.freed d.touched.freed zone i);
    waits_on = λ zone freed_by waits. k.waits_on zone freed_by (h.waits_on zone freed_by waits);
    waited = λ zone freed_by none waits.
        h.waited zone freed_by (λ i. none (In-append_left c.touched.freed d.touched.freed zone i))
        (k.waited zone freed_by (λ i. none (In-append_right c.touched.freed d.touched.freed zone i)) waits);
  }
