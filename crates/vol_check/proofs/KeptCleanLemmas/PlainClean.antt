-- A plain volume is clean where its maps mark what is in use, and calls keep these marks.
use Rattle.std.specs.Prelude.{◌≡◌, ℕ, ◌/◌, ◌<◌, ◌≤◌, ◌↔◌, ◌⊎◌, Bool, true, false, List, codes, Option, Some, None, Ok, refl}
use Rattle.std.proofs.Common.{sym, ap, subst, ◌∙◌, inl, inr, ⊎_elim, arith}
use Rattle.std.proofs.lemmas.Bool.{true≢false, false_from_ne_true}
use Rattle.minix_layout.specs.Widths.{slot_size}
use Rattle.minix_layout.specs.declared.division.Geometry.{Geometry}
use Rattle.minix_layout.specs.declared.slot.Slot.{Slot}
use Rattle.minix_layout.specs.Bits.{inode_bit, zone_bit, has_bit}
use Rattle.tree_model.specs.declared.call.Call.{Call}
use Rattle.tree_model.specs.declared.node.Node.{Node}
use Rattle.tree_model.specs.declared.node.Node.TheVariants as nodes
use Rattle.tree_model.specs.declared.node.Directory.{Directory}
use Rattle.tree_model.specs.Maps.{at_number}
use Rattle.minix_tables.specs.declared.zones.zone_state.ZoneState.{ZoneState}
use Rattle.minix_tables.specs.declared.zones.zone_state.ZoneState.TheVariants as states
use Rattle.minix_tables.specs.zones.Zones.{state_of}
use Rattle.volume_ops.specs.Places.{birth_of, inode_of_birth}
use Rattle.volume_ops.specs.VolumeFields.{inode_at, slot_behind}
use Rattle.volume_ops.specs.VolumeTrees.{IsVolumeTree}
use Rattle.volume_ops.specs.Faultless.{IsReached, IsUsed}
use Rattle.volume_ops.proofs.TreeUnique.{walked_tree}
use Rattle.volume_ops.proofs.WalkTests.{faultless_walked, walked_used}
use Rattle.volume_model.specs.Plain.{HasDots, IsPlainVolume, inode_born, slots_in}
use Rattle.volume_model.proofs.Nodes.{faultless, some_inodes, reached_node as placed_at}
use Rattle.volume_model.proofs.SameTrees.{node_reached as placed_reached}
use Rattle.volume_model.proofs.Images.{read_back, image_plain, zones_met}
use Rattle.volume_model.proofs.ImageSlots.{slot_reads}
use Rattle.volume_steps.specs.Now.{VolumeNow}
use Rattle.volume_steps.specs.Plain.{IsPlainNow}
use Rattle.volume_steps.specs.Calls.{called}
use Rattle.volume_steps.specs.Called.{FindsRoom}
use Rattle.volume_steps.specs.UsedInodes.{IsInodeUsed}
use Rattle.volume_steps.specs.laws.Steady.{Marks}
use Rattle.volume_steps.proofs.AllCalls.{any_call}
use Rattle.vol_check.specs.Clean.{HasOther, IsClean}
use Rattle.vol_check.specs.CleanTrees.{LeadBack, AgreesWith}
use Rattle.vol_check.proofs.CleanTrees.{clean_by_tree}
use Rattle.vol_check.proofs.Reached.{birth_reached, has_other, node_reached, node_says, reached_node, reached_some}
use Rattle.vol_check.specs.kept_clean.Marked.{IsMarked}

used_or_not : (o : Option ZoneState) → (o ≡ Some states.Used) ⊎ (o ≡ Some states.Used → ⊥)
used_or_not (Some states.Used) = inl refl
used_or_not (Some states.Free) = inr (λ e. absurd (let f : ◌≡◌ {A = Option ZoneState} (Some states.Free) (Some states.Used) = e in cc))
used_or_not (Some (states.Quarantined tx)) = inr (λ e. absurd (let f : ◌≡◌ {A = Option ZoneState} (Some (states.Quarantined tx)) (Some states.Used) = e in cc))
used_or_not None = inr (λ e. absurd (let f : ◌≡◌ {A = Option ZoneState} None (Some states.Used) = e in cc))

module _ (v : VolumeNow) (h : IsPlainNow v) where
  abbrev g : Geometry
  g = v.geometry

  abbrev blocks : List (List ℕ)
  blocks = v.contents.blocks

  some : 0 < g.inodes
  some = some_inodes g v.contents h.plain

  abbrev tree : List (ℕ × Node)
  tree = (read_back g v.contents h.plain).0

  stands : IsVolumeTree g blocks tree
  stands = walked_tree g blocks tree some (read_back g v.contents h.plain).1

  image : IsPlainVolume g blocks tree
  image = image_plain g v.contents tree h.plain (read_back g v.contents h.plain).1

  -- ---- inodes and zones in use

  reached_used : (number : ℕ) → IsReached g blocks number → IsInodeUsed v.contents.nodes number
  reached_used number led = let x = placed_at g v.contents h.plain led in record { birth = x.birth; placed = x.node; stands = x.stands; is = x.number_is }

  used_reached : (number : ℕ) → IsInodeUsed v.contents.nodes number → IsReached g blocks number
  used_reached number x = subst (IsReached g blocks) x.is (placed_reached g v.contents h.plain tree stands x.birth x.placed x.stands)

  used_zone : (zone : ℕ) → IsUsed g blocks zone ↔ (state_of v.zones zone ≡ Some states.Used)
  used_zone zone =
      let met = faultless_walked g blocks some (faultless g v.contents h.plain) in
      let has = zones_met g v.contents met.0 h.plain met.1 zone in
      let used = walked_used g blocks met.0 some met.1 zone in
      let state = h.in_use.used zone in
      (λ u. state.1 (has.0 (used.1 u)), λ s. used.0 (has.1 (state.0 s)))

  -- ---- dots

  lead_back : (birth : ℕ) (d : Directory) → at_number tree birth ≡ Some (nodes.Directory d) → LeadBack g blocks (inode_of_birth birth) (inode_of_birth d.parent)
  lead_back birth d at =
      let dots = image.dots birth d at in
      let i = inode_born g blocks birth in
      let each : (k : ℕ) → k < i.size / slot_size g.width → (s : Option Slot) × (slot_behind g blocks i k ≡ Ok s) = λ k low. stands.faultless.slot_read (inode_of_birth birth) k (birth_reached g blocks tree stands birth (nodes.Directory d) at) (stands.fields.each birth (nodes.Directory d) at).kind low in
      let here = slot_reads g blocks i each 0 (Some (record { inode = inode_of_birth birth; name = codes "." })) dots.here in
      let above = slot_reads g blocks i each 1 (Some (record { inode = inode_of_birth d.parent; name = codes ".." })) dots.above in
      let low = above.0 in
      record { two = omega (arith, low); here = here.1; above = above.1 }

  -- ---- clean and marked

  pub marked_clean : IsMarked g v.contents v.zones → IsClean g blocks
  marked_clean marked = (clean_by_tree g blocks tree some stands).1 (record {
    inode_bits = λ inode low high.
        let bit = marked.inodes inode low high in
        (λ t. reached_node g blocks tree stands (used_reached inode (bit.0 t)), λ node. bit.1 (reached_used inode (node_reached g blocks tree stands inode node.0 low node.1)));
    used_zones = λ zone low high used. (marked.zones_used zone low high).1 ((used_zone zone).0 used);
    unused_zones = λ zone low high none _. false_from_ne_true (has_bit blocks (zone_bit g zone)) (λ t. none ((used_zone zone).1 ((marked.zones_used zone low high).0 t)));
    directories = λ birth d at. image.directory_links_are birth d at;
    files = λ birth f at. image.file_links_are birth f at;
    others = λ birth mode at. absurd (image.no_other birth mode at);
    dots = λ birth d at. lead_back birth d at;
  })

  no_other : HasOther g blocks → ⊥
  no_other other = let x = has_other g blocks tree stands other in image.no_other x.0 x.1 x.2

  pub clean_marked : IsClean g blocks → IsMarked g v.contents v.zones
  clean_marked clean = record {
    inodes = λ number low high.
        let bit = clean.inode_bits number low high in
        (λ t. reached_used number (bit.0 t), λ used. bit.1 (used_reached number used));
    zones_used = λ zone low high.
        let bit = clean.zone_bits zone low high in (
          λ t. ⊎_elim (λ used. used) (λ none. absurd (true≢false (sym t ∙ bit.unused (λ used. none ((used_zone zone).0 used)) no_other))) (used_or_not (state_of v.zones zone)),
          λ state. bit.used ((used_zone zone).1 state),
        );
  }

-- ---- calls

marks_then : (bit : Bool) (Used : Type 0) (after : Bool) (Now : Type 0) → (bit ≡ true) ↔ Used → Marks bit Used after Now → (after ≡ true) ↔ Now
marks_then bit Used after Now was (inl same) = (λ t. same.1.1 (was.0 (sym same.0 ∙ t)), λ now. same.0 ∙ was.1 (same.1.0 now))
marks_then bit Used after Now was (inr other) = other.0

pub call_clean : (v : VolumeNow) (n tx : ℕ) (c : Call) → FindsRoom v n c → IsClean v.geometry v.contents.blocks → IsClean v.geometry (called v n tx c).change.volume.contents.blocks
call_clean v n tx c h clean =
    let any = any_call tx v n c h in
    let w = (called v n tx c).change.volume in
    let marks = any.steady.marks in
    let was = clean_marked v h.plain clean in
    let now : IsMarked v.geometry w.contents w.zones = record {
      inodes = λ number low high.
          marks_then (has_bit v.contents.blocks (inode_bit v.geometry number)) (IsInodeUsed v.contents.nodes number) (has_bit w.contents.blocks (inode_bit v.geometry number)) (IsInodeUsed w.contents.nodes number)
          (was.inodes number low high) (marks.inodes number low high);
      zones_used = λ zone low high.
          marks_then (has_bit v.contents.blocks (zone_bit v.geometry zone)) (state_of v.zones zone ≡ Some states.Used) (has_bit w.contents.blocks (zone_bit v.geometry zone)) (state_of w.zones zone ≡ Some states.Used)
          (was.zones_used zone low high) (marks.zones zone low high);
    } in
    subst (λ g. IsClean g w.contents.blocks) any.steady.geometry (marked_clean w any.plain (subst (λ g. IsMarked g w.contents w.zones) (sym any.steady.geometry) now))
