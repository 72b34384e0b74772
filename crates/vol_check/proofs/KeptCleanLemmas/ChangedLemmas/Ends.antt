-- From what two volumes say to blocks that differ.
use Rattle.std.specs.Prelude.{◌≡◌, ◌≢◌, ◌+◌, ◌/◌, ◌<◌, ◌≤◌, ◌↔◌, ℕ, Bool, true, false, List, map, Option, Some}
use Rattle.std.proofs.Common.{sym, ap, subst, ◌∙◌, inl, inr}
use Rattle.blk_base.specs.Members.{In}
use Rattle.blk_base.specs.laws.Members.{In-map}
use Rattle.minix_layout.specs.declared.bits.BitPlace.{BitPlace}
use Rattle.minix_layout.specs.declared.division.Geometry.{Geometry}
use Rattle.minix_layout.specs.declared.inode.Inode.{Inode}
use Rattle.minix_layout.specs.Bits.{bit_of, has_bit, inode_bit as inode_place, zone_bit as zone_place}
use Rattle.tree_model.specs.declared.call.Call.{Call}
use Rattle.tree_model.specs.Maps.{at_number}
use Rattle.minix_tables.specs.declared.zones.zone_state.ZoneState.{ZoneState}
use Rattle.minix_tables.specs.declared.zones.zone_state.ZoneState.TheVariants as states
use Rattle.minix_tables.specs.zones.Zones.{state_of}
use Rattle.volume_ops.specs.Places.{table_block, inode_in_block}
use Rattle.volume_ops.specs.Volume.{disk_of}
use Rattle.volume_ops.specs.VolumeFields.{inode_at}
use Rattle.volume_model.specs.declared.placed.Placed.{Placed}
use Rattle.volume_model.specs.Edits.{touched_by, touched_by_all}
use Rattle.volume_model.specs.Moves.{back_told, inode_told, same_inode}
use Rattle.volume_model.specs.laws.Back.{fields_same}
use Rattle.volume_steps.specs.Now.{VolumeNow, Change}
use Rattle.volume_steps.specs.Calls.{called}
use Rattle.volume_steps.specs.Called.{FindsRoom}
use Rattle.volume_steps.specs.Plain.{IsPlainNow}
use Rattle.volume_steps.specs.laws.Steady.{Marks}
use Rattle.volume_steps.specs.UsedInodes.{IsInodeUsed}
use Rattle.volume_steps.specs.Zones.{zone_bit}
use Rattle.volume_steps.proofs.AllCalls.{any_call}
use Rattle.volume_steps.proofs.TakeZones.{zone_range}
use Rattle.vol_check.specs.kept_clean.Marked.{IsMarked}

-- ---- bytes

pub bit_differs : (blocks after : List (List ℕ)) (p : BitPlace) → has_bit blocks p ≢ has_bit after p → disk_of after p.block ≢ disk_of blocks p.block
bit_differs blocks after p other same = other (ap (λ body. bit_of body p.at) (sym same))

pub inode_differs : (g : Geometry) (blocks after : List (List ℕ)) (number : ℕ) → inode_at g after number ≢ inode_at g blocks number → disk_of after (table_block g number) ≢ disk_of blocks (table_block g number)
inode_differs g blocks after number other same = other (ap (inode_in_block number) same)

-- what is told of an inode that is written back tells that it differs
pub told_differs : (g : Geometry) (p : Placed) (i : Inode) (b : ℕ) → In b (back_told g p i) → i ≢ p.inode
unfolding inode_told
told_differs g p i b j e = by (ap (λ k. same_inode k p.inode) e ∙ fields_same p.inode) j
  where
    by : same_inode i p.inode ≡ true → In b (back_told g p i) → ⊥
    by t j = (rw t at j)

-- whose bits are told
pub bits_told : (g : Geometry) (value : Bool) (zones : List ℕ) (b : ℕ) → In b (touched_by_all g (map (zone_bit g value) zones)) → (z : ℕ) × In z zones × (touched_by g (zone_bit g value z) ≡ b)
bits_told g value zones b i =
    let e = In-map (touched_by g) (map (zone_bit g value) zones) b i in
    let z = In-map (zone_bit g value) zones e.0 e.1 in
    (z.0, z.1, ap (touched_by g) z.2 ∙ e.2)

-- ---- both ends of a call

-- a bit says what was before and what is afterwards
went : (bit after : Bool) (Was Now : Type 0) → (bit ≡ true) ↔ Was → (after ≡ true) ↔ Now → Was → (Now → ⊥) → bit ≢ after
went bit after Was Now b a was none same = none (a.0 (sym same ∙ b.1 was))

came : (bit after : Bool) (Was Now : Type 0) → (bit ≡ true) ↔ Was → (after ≡ true) ↔ Now → (Was → ⊥) → Now → bit ≢ after
came bit after Was Now b a none now same = none (b.0 (same ∙ a.1 now))

waits_not_used : (tx : ℕ) → ◌≡◌ {A = Option ZoneState} (Some (states.Quarantined tx)) (Some states.Used) → ⊥
waits_not_used tx e = cc

-- both volumes are plain, their maps mark what is in use, and what is freed was in use and waits
pub record Ends (tx : ℕ) (v : VolumeNow) (c : Change) : Type 0 where
  pub geometry : c.volume.geometry ≡ v.geometry
  pub before : IsPlainNow v
  pub after : IsPlainNow c.volume
  pub marked : IsMarked v.geometry v.contents v.zones
  pub marks : IsMarked v.geometry c.volume.contents c.volume.zones
  pub waits : (zone : ℕ) → In zone c.touched.freed → state_of c.volume.zones zone ≡ Some (states.Quarantined tx)
  pub was_used : (zone : ℕ) → In zone c.touched.freed → state_of v.zones zone ≡ Some states.Used

-- a bit that says what was says what is
still : (bit : Bool) (Was : Type 0) (after : Bool) (Now : Type 0) → (bit ≡ true) ↔ Was → Marks bit Was after Now → (after ≡ true) ↔ Now
still bit Was after Now was (inl same) = (λ t. same.1.1 (was.0 (sym same.0 ∙ t)), λ now. same.0 ∙ was.1 (same.1.0 now))
still bit Was after Now was (inr other) = other.0

pub ends_of : (tx : ℕ) (v : VolumeNow) (n : ℕ) (c : Call) → FindsRoom v n c → IsMarked v.geometry v.contents v.zones → Ends tx v (called v n tx c).change
ends_of tx v n c h marked =
    let any = any_call tx v n c h in
    let w = (called v n tx c).change.volume in
    record {
      geometry = any.steady.geometry;
      before = h.plain;
      after = any.plain;
      marked = marked;
      marks = record {
        inodes = λ number low high.
            still (has_bit v.contents.blocks (inode_place v.geometry number)) (IsInodeUsed v.contents.nodes number) (has_bit w.contents.blocks (inode_place v.geometry number)) (IsInodeUsed w.contents.nodes number)
            (marked.inodes number low high) (any.steady.marks.inodes number low high);
        zones_used = λ zone low high.
            still (has_bit v.contents.blocks (zone_place v.geometry zone)) (state_of v.zones zone ≡ Some states.Used) (has_bit w.contents.blocks (zone_place v.geometry zone)) (state_of w.zones zone ≡ Some states.Used)
            (marked.zones_used zone low high) (any.steady.marks.zones zone low high);
      };
      waits = any.steady.freed;
      was_used = any.steady.was_used;
    }

module _ (tx : ℕ) (v : VolumeNow) (c : Change) (e : Ends tx v c) where
  -- the bit of a zone that is freed
  pub freed_bit : (z : ℕ) → In z c.touched.freed → (b : ℕ) → touched_by v.geometry (zone_bit v.geometry false z) ≡ b → disk_of c.volume.contents.blocks b ≢ disk_of v.contents.blocks b
  freed_bit z i b same =
      let used = e.was_used z i in
      let range = zone_range v e.before.in_use z states.Used used in
      subst (λ b. disk_of c.volume.contents.blocks b ≢ disk_of v.contents.blocks b) same
      (bit_differs v.contents.blocks c.volume.contents.blocks (zone_place v.geometry z)
      (went _ _ _ _ (e.marked.zones_used z range.0 range.1) (e.marks.zones_used z range.0 range.1) used (λ now. waits_not_used tx (sym (e.waits z i) ∙ now))))

  -- and of one that is taken
  pub taken_bit : (z : ℕ) → (state_of v.zones z ≡ Some states.Used → ⊥) → state_of c.volume.zones z ≡ Some states.Used → v.geometry.first ≤ z → z < v.geometry.zones → (b : ℕ) → touched_by v.geometry (zone_bit v.geometry true z) ≡ b →
      disk_of c.volume.contents.blocks b ≢ disk_of v.contents.blocks b
  taken_bit z free used low high b same =
      subst (λ b. disk_of c.volume.contents.blocks b ≢ disk_of v.contents.blocks b) same
      (bit_differs v.contents.blocks c.volume.contents.blocks (zone_place v.geometry z)
      (came _ _ _ _ (e.marked.zones_used z low high) (e.marks.zones_used z low high) free used))

  -- the bit of an inode whose node goes
  pub gone_bit : (number : ℕ) → 0 < number → number ≤ v.geometry.inodes → IsInodeUsed v.contents.nodes number → (IsInodeUsed c.volume.contents.nodes number → ⊥) →
      disk_of c.volume.contents.blocks (2 + number / 8192) ≢ disk_of v.contents.blocks (2 + number / 8192)
  gone_bit number some high used none =
      bit_differs v.contents.blocks c.volume.contents.blocks (inode_place v.geometry number)
      (went _ _ _ _ (e.marked.inodes number some high) (e.marks.inodes number some high) used none)

  -- and of one whose node comes
  pub come_bit : (number : ℕ) → 0 < number → number ≤ v.geometry.inodes → (IsInodeUsed v.contents.nodes number → ⊥) → IsInodeUsed c.volume.contents.nodes number →
      disk_of c.volume.contents.blocks (2 + number / 8192) ≢ disk_of v.contents.blocks (2 + number / 8192)
  come_bit number some high none used =
      bit_differs v.contents.blocks c.volume.contents.blocks (inode_place v.geometry number)
      (came _ _ _ _ (e.marked.inodes number some high) (e.marks.inodes number some high) none used)

  -- the table, where a node's inode is another
  pub node_differs : (a : ℕ) (p q : Placed) → at_number v.contents.nodes a ≡ Some p → at_number c.volume.contents.nodes a ≡ Some q → q.number ≡ p.number → q.inode ≢ p.inode →
      disk_of c.volume.contents.blocks (table_block v.geometry p.number) ≢ disk_of v.contents.blocks (table_block v.geometry p.number)
  node_differs a p q at now number other =
      let was = (e.before.in_use.volume.0.each a p at).inode in
      let is : inode_at v.geometry c.volume.contents.blocks p.number ≡ q.inode = subst (λ number. inode_at v.geometry c.volume.contents.blocks number ≡ q.inode) number
      (subst (λ g. inode_at g c.volume.contents.blocks q.number ≡ q.inode) e.geometry (e.after.in_use.volume.0.each a q now).inode) in
      inode_differs v.geometry v.contents.blocks c.volume.contents.blocks p.number (λ same. other (sym is ∙ (same ∙ was)))
