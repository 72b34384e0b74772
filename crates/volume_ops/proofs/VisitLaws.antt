-- What the visit of an inode finds: the node that the inode stands for, and the inodes that it names.
use Rattle.std.specs.Prelude.{◌≡◌, ◌≢◌, ℕ, ◌+◌, ◌-◌, ◌/◌, ◌%◌, ◌<◌, ◌==◌, Bool, true, false, not, ◌&&◌, ◌||◌, nat_lt, if◌then◌else◌, List, [], ◌∷◌, length, Option, Some, None, Result, Ok, refl, ◌⊎◌, ◌↔◌}
use Rattle.std.specs.Ordering.{nat_cmp, is_eq}
use Rattle.std.proofs.Common.{sym, ap, subst, ◌∙◌, inl, inr, ⊎_elim, arith}
use Rattle.std.proofs.lemmas.Bool.{true≢false, cases_Bool, cases_eq, or_parts, and_cases, not-false, eq-eqb, ne_eqb}
use Rattle.std.proofs.lemmas.Option.{none-some}
use Rattle.std.proofs.lemmas.List.FromFn.{length-map-range_with_len}
use Rattle.byte_fields.specs.Fields.{record_at}
use Rattle.blk_base.specs.Members.{In}
use Rattle.minix_layout.specs.Widths.{slot_size, slots_a_block}
use Rattle.minix_layout.specs.declared.division.Geometry.{Geometry}
use Rattle.minix_layout.specs.declared.inode.Inode.{Inode}
use Rattle.minix_layout.specs.declared.slot.Slot.{Slot}
use Rattle.minix_layout.specs.declared.fault.LayoutFault.{LayoutFault}
use Rattle.minix_layout.specs.declared.fault.LayoutFault.TheVariants.{BadInode}
use Rattle.minix_layout.specs.Inodes.{zones_of, zone_of}
use Rattle.minix_layout.specs.Slots.{slot_of}
use Rattle.tree_model.specs.declared.node.Node.{Node}
use Rattle.tree_model.specs.declared.node.Node.TheVariants as nodes
use Rattle.tree_model.specs.Maps.{at_number, at_name}
use Rattle.tree_model.specs.Paths.{is_dot}
use Rattle.volume_ops.specs.declared.found.Mapped.{Mapped}
use Rattle.volume_ops.specs.declared.found.Found.{Found}
use Rattle.volume_ops.specs.declared.found.Found.TheVariants as found
use Rattle.volume_ops.specs.Reads.{Ret, answer, if_ok}
use Rattle.volume_ops.specs.laws.ReadsLaws.{if_ok-parts, unless-parts, same_Ok}
use Rattle.volume_ops.specs.Places.{largest_size, table_block, is_directory, is_file, birth_of}
use Rattle.tree_model.specs.laws.MapsLaws.{number_here, number_same}
use Rattle.volume_ops.specs.Zones.{Fault, ZoneScan, scan_zones}
use Rattle.volume_ops.proofs.ZonesLaws.{IsMapTo, block_at, scan_zones-map}
use Rattle.volume_ops.specs.Slots.{SlotScan, scan_slots}
use Rattle.volume_ops.proofs.SlotsLaws.{IsNamed, Goes, IsInBlocks, scan_slots-goes, no_names}
use Rattle.volume_ops.specs.Walk.{WalkState, Pending, Visit, pending_in, met_node, is_bad_inode, visit_file, visit_directory, visit_other, visit_inode, visit}
use Rattle.volume_ops.specs.Volume.{disk_of, bodies_of, node_of}
use Rattle.volume_ops.specs.VolumeFields.{inode_at, zone_behind, block_behind, slot_behind, HasName, IsNodeOf, IsBelow}

number_found : (k : ℕ) (m n : Mapped) → m ≡ n → n.index ≡ k → is_eq (nat_cmp k m.index) ≡ true
number_found k m n q e = subst (λ j. is_eq (nat_cmp k j) ≡ true) (sym (ap (λ m. m.index) q ∙ e)) (number_here k)

-- ---- the slots of a directory, by its map

module _ (g : Geometry) (blocks : List (List ℕ)) (i : Inode) (mapped : List Mapped) (of_map : (end : ℕ) → IsMapTo mapped (zone_behind blocks i) end) where
  slot_at : (place zone : ℕ) (slot : Slot) → zone_behind blocks i (place / slots_a_block g.width) ≡ zone → zone ≢ 0 →
      slot_of g.width (record_at (slot_size g.width) (place % slots_a_block g.width) (disk_of blocks zone)) ≡ Ok (Some slot) → slot_behind g blocks i place ≡ Ok (Some slot)
  slot_at place zone slot e some h = rw (e, ne_eqb zone 0 some) h

  slot_stands : (slots : ℕ) (slot : Slot) → IsInBlocks (disk_of blocks) g slots mapped slot → (place : ℕ) × (place < slots) × (slot_behind g blocks i place ≡ Ok (Some slot))
  slot_stands slots slot q =
      let right = (of_map 0).right q.block q.within in
      (q.stands.place, q.stands.below, slot_at q.stands.place q.block.zone slot (ap (zone_behind blocks i) q.stands.block ∙ right.0) right.1 q.stands.stands)

  stands_by : (slots place zone : ℕ) (slot : Slot) → place < slots → zone_behind blocks i (place / slots_a_block g.width) ≡ zone →
      ◌≡◌ {A = Result (Option Slot) LayoutFault} (if zone == 0 then Ok None else slot_of g.width (record_at (slot_size g.width) (place % slots_a_block g.width) (disk_of blocks zone))) (Ok (Some slot)) →
      IsInBlocks (disk_of blocks) g slots mapped slot
  stands_by slots place zone slot below e h =
      ⊎_elim
      (λ none. absurd (none-some slot (same_Ok None (Some slot) (rw (eq-eqb zone 0 none) at h))))
      (λ some. record {
        block = block_at (place / slots_a_block g.width) zone;
        within = subst (λ zone. In (block_at (place / slots_a_block g.width) zone) mapped) e ((of_map (place / slots_a_block g.width + 1)).full (place / slots_a_block g.width) (omega arith) (λ none. some (sym e ∙ none)));
        stands = record { place = place; below = below; block = refl; stands = rw (ne_eqb zone 0 some) at h };
      })
      (cases_eq zone 0)

  slot_met : (slots place : ℕ) (slot : Slot) → place < slots → slot_behind g blocks i place ≡ Ok (Some slot) → IsInBlocks (disk_of blocks) g slots mapped slot
  slot_met slots place slot below h = stands_by slots place (zone_behind blocks i (place / slots_a_block g.width)) slot below refl h

  -- the names that were found are those of the slots
  pub names_found : (named : List Bool) (s : SlotScan) →
      Goes (disk_of blocks) g (IsInBlocks (disk_of blocks) g (i.size / slot_size g.width) mapped) named (record { named = named; names = [] }) s →
      (name : List ℕ) (birth : ℕ) → (at_name s.names name ≡ Some birth) ↔ HasName g blocks i name birth
  names_found named s h name birth = (
    λ p.
        ⊎_elim
        (λ none. absurd (none-some birth none))
        (λ x.
        let slot = slot_stands (i.size / slot_size g.width) x.0 x.1 in
        record { place = slot.0; slot = x.0; below = slot.1; stands = slot.2; name_is = x.2; no_dot = x.3; birth_is = x.4 })
        (h.right name birth p),
    λ n.
        let free : is_dot n.slot.name ≡ false = subst (λ name. is_dot name ≡ false) (sym n.name_is) n.no_dot in
        let here = h.full n.slot (slot_met (i.size / slot_size g.width) n.place n.slot n.below n.stands) free in
        subst (λ name. at_name s.names name ≡ Some birth) n.name_is (here ∙ ap Some n.birth_is),
  )

-- ---- the blocks of a file, by its map

-- a mapped block has a body, and others have none
abbrev IsBodyAt : List (List ℕ) → List Mapped → ℕ → Type 0
IsBodyAt blocks ms k = (m : Mapped) × In m ms × (m.index ≡ k) × (at_number (bodies_of blocks ms) k ≡ Some (disk_of blocks m.zone))

abbrev IsNoBodyAt : List (List ℕ) → List Mapped → ℕ → Type 0
IsNoBodyAt blocks ms k = (at_number (bodies_of blocks ms) k ≡ None) × ((m : Mapped) → In m ms → m.index ≢ k)

body_found : (blocks : List (List ℕ)) (ms : List Mapped) (k : ℕ) → IsBodyAt blocks ms k ⊎ IsNoBodyAt blocks ms k
body_found blocks [] k = inr (refl, λ m h. absurd h)
body_found blocks (m ∷ ms) k =
    elim (cases_Bool (is_eq (nat_cmp k m.index))) [
      | inl t ↦ inl (m, inl refl, sym (number_same k m.index t), rw t)
      | inr f ↦
          ⊎_elim
          (λ (x : IsBodyAt blocks ms k). inl (x.0, inr x.1, x.2, rw f x.3))
          (λ (x : IsNoBodyAt blocks ms k). inr (rw f x.0, λ n h e. ⊎_elim (λ q. true≢false (sym (number_found k m n q e) ∙ f)) (λ h. x.1 n h e) h))
          (body_found blocks ms k)
    ]

pub bodies_found : (blocks : List (List ℕ)) (i : Inode) (mapped : List Mapped) → ((end : ℕ) → IsMapTo mapped (zone_behind blocks i) end) →
    (index : ℕ) → at_number (bodies_of blocks mapped) index ≡ block_behind blocks i index
bodies_found blocks i mapped of_map index =
    ⊎_elim
    (λ (x : IsBodyAt blocks mapped index).
    let right = (of_map 0).right x.0 x.1 in
    let zone : zone_behind blocks i index ≡ x.0.zone = ap (zone_behind blocks i) (sym x.2) ∙ right.0 in
    x.3 ∙ sym (rw (zone, ne_eqb x.0.zone 0 right.1)))
    (λ (x : IsNoBodyAt blocks mapped index).
    ⊎_elim
    (λ none. x.0 ∙ sym (rw none))
    (λ some. absurd (x.1 (block_at index (zone_behind blocks i index)) ((of_map (index + 1)).full index (omega arith) some) refl))
    (cases_eq (zone_behind blocks i index) 0))
    (body_found blocks mapped index)

-- ---- one visit

-- the names of a directory; other nodes have none
abbrev pub names_in : Node → List (List ℕ × ℕ)
names_in (nodes.Directory d) = d.names
names_in node = []

-- What the visit of e gave, i being its inode: one node more, which says what its inode says, and its names to be met.
pub record IsVisit (g : Geometry) (blocks : List (List ℕ)) (w : WalkState) (e : Pending) (i : Inode) (v : Visit) : Type 0 where
  pub zones : List Bool
  pub named : List Bool
  pub met : Found
  pub is : record { state = met_node w e.inode zones named met; names = pending_in (birth_of e.inode) (names_in (node_of blocks met)) } ≡ v
  pub says : IsNodeOf g blocks i (node_of blocks met)
  pub below : IsBelow e.parent (node_of blocks met)
  pub names : IsNamed (disk_of blocks) g w.named (record { named = named; names = names_in (node_of blocks met) })
  pub root : e.inode ≡ 1 → is_directory i.mode ≡ true

length-zones_of : (bytes : List ℕ) → length (zones_of bytes) ≡ 9
unfolding zones_of
length-zones_of bytes = length-map-range_with_len (zone_of bytes) 0 9

root_by : (number : ℕ) (directory more : Bool) → ((number == 1) && not directory || more) ≡ false → number ≡ 1 → directory ≡ true
root_by number directory more h one =
    ⊎_elim
    (λ apart. absurd (true≢false (sym (eq-eqb number 1 one) ∙ apart)))
    (λ is. not-false directory is)
    (and_cases (number == 1) (not directory) (or_parts ((number == 1) && not directory) more h).0)

module _ (g : Geometry) (blocks : List (List ℕ)) (w : WalkState) (e : Pending) (i : Inode) (v : Visit)
    (size : length w.named ≡ g.inodes + 1) (nine : length i.zones ≡ 9) (root : e.inode ≡ 1 → is_directory i.mode ≡ true) where
  directory_visit : is_directory i.mode ≡ true →
      answer (disk_of blocks) (if_ok (scan_zones g (table_block g e.inode) i.zones w.zones)
      (λ z. if_ok (scan_slots g (i.size / slot_size g.width) z.mapped (record { named = w.named; names = [] })) (λ s. Ret (visit_directory g w e i z s)))) ≡ Ok v →
      IsVisit g blocks w e i v
  directory_visit kind r =
      let first = if_ok-parts (disk_of blocks) (scan_zones g (table_block g e.inode) i.zones w.zones)
      (λ z. if_ok (scan_slots g (i.size / slot_size g.width) z.mapped (record { named = w.named; names = [] })) (λ s. Ret (visit_directory g w e i z s))) v r in
      let z : ZoneScan = first.0 in
      let second = if_ok-parts (disk_of blocks) (scan_slots g (i.size / slot_size g.width) z.mapped (record { named = w.named; names = [] })) (λ s. Ret (visit_directory g w e i z s)) v first.2 in
      let s : SlotScan = second.0 in
      let of_map = scan_zones-map (disk_of blocks) g (table_block g e.inode) i.zones w.zones z nine first.1 in
      let goes = scan_slots-goes (disk_of blocks) g w.named (i.size / slot_size g.width) z.mapped (record { named = w.named; names = [] }) s (no_names (disk_of blocks) g w.named size) second.1 in
      record {
        zones = z.met;
        named = s.named;
        met = found.Directory (record { parent = e.parent; width = g.width; slots = i.size / slot_size g.width; names = s.names });
        is = same_Ok _ v second.2;
        says = record { kind = kind; width = refl; slots = refl; names = names_found g blocks i z.mapped of_map w.named s goes };
        below = refl;
        names = goes.named;
        root = root;
      }

  file_visit : is_file i.mode ≡ true →
      answer (disk_of blocks) (if_ok (scan_zones g (table_block g e.inode) i.zones w.zones) (λ z. Ret (visit_file w e.inode i z))) ≡ Ok v →
      IsVisit g blocks w e i v
  file_visit kind r =
      let first = if_ok-parts (disk_of blocks) (scan_zones g (table_block g e.inode) i.zones w.zones) (λ z. Ret (visit_file w e.inode i z)) v r in
      let z : ZoneScan = first.0 in
      let of_map = scan_zones-map (disk_of blocks) g (table_block g e.inode) i.zones w.zones z nine first.1 in
      record {
        zones = z.met;
        named = w.named;
        met = found.File (record { size = i.size; links = i.links; zones = z.mapped });
        is = same_Ok _ v first.2;
        says = record { kind = kind; size = refl; links = refl; bodies = bodies_found blocks i z.mapped of_map };
        below = tt;
        names = no_names (disk_of blocks) g w.named size;
        root = root;
      }

  other_visit : is_directory i.mode ≡ false → is_file i.mode ≡ false → ◌≡◌ {A = Result Visit Fault} (visit_other w e.inode i) (Ok v) → IsVisit g blocks w e i v
  other_visit no_directory no_file r = record {
    zones = w.zones;
    named = w.named;
    met = found.Other i.mode;
    is = same_Ok _ v r;
    says = record { no_directory = no_directory; no_file = no_file; mode_is = refl };
    below = tt;
    names = no_names (disk_of blocks) g w.named size;
    root = root;
  }

  visit_by : (directory file : Bool) → is_directory i.mode ≡ directory → is_file i.mode ≡ file →
      answer (disk_of blocks) (if directory then
      if_ok (scan_zones g (table_block g e.inode) i.zones w.zones)
      (λ z. if_ok (scan_slots g (i.size / slot_size g.width) z.mapped (record { named = w.named; names = [] }))
      (λ s. Ret (visit_directory g w e i z s)))
      else if file then
      if_ok (scan_zones g (table_block g e.inode) i.zones w.zones) (λ z. Ret (visit_file w e.inode i z))
      else Ret (visit_other w e.inode i)) ≡ Ok v →
      IsVisit g blocks w e i v
  visit_by true file d f r = directory_visit d r
  visit_by false true d f r = file_visit f r
  visit_by false false d f r = other_visit d f r

inode_visit : (g : Geometry) (blocks : List (List ℕ)) (w : WalkState) (e : Pending) (i : Inode) (v : Visit) →
    length w.named ≡ g.inodes + 1 → length i.zones ≡ 9 → answer (disk_of blocks) (visit_inode g w e i) ≡ Ok v → IsVisit g blocks w e i v
inode_visit g blocks w e i v size nine r =
    let parts = unless-parts (disk_of blocks) (is_bad_inode g e.inode i) (BadInode, table_block g e.inode)
    (if is_directory i.mode then
    if_ok (scan_zones g (table_block g e.inode) i.zones w.zones)
    (λ z. if_ok (scan_slots g (i.size / slot_size g.width) z.mapped (record { named = w.named; names = [] }))
    (λ s. Ret (visit_directory g w e i z s)))
    else if is_file i.mode then
    if_ok (scan_zones g (table_block g e.inode) i.zones w.zones) (λ z. Ret (visit_file w e.inode i z))
    else Ret (visit_other w e.inode i)) v r in
    let root : e.inode ≡ 1 → is_directory i.mode ≡ true = root_by e.inode (is_directory i.mode)
    ((nat_lt largest_size i.size && (is_directory i.mode || is_file i.mode)) || (is_directory i.mode && not (i.size % slot_size g.width == 0))) parts.0 in
    visit_by g blocks w e i v size nine root (is_directory i.mode) (is_file i.mode) refl refl parts.1

pub visit_is : (g : Geometry) (blocks : List (List ℕ)) (w : WalkState) (e : Pending) (v : Visit) →
    length w.named ≡ g.inodes + 1 → answer (disk_of blocks) (visit g w e) ≡ Ok v → IsVisit g blocks w e (inode_at g blocks e.inode) v
unfolding visit
visit_is g blocks w e v size r =
    inode_visit g blocks w e (inode_at g blocks e.inode) v size
    (length-zones_of (record_at 32 ((e.inode - 1) % 32) (disk_of blocks (table_block g e.inode)))) r
