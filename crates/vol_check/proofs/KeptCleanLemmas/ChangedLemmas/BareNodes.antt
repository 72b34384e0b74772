-- Steps that keep a volume bare: nodes come and go.
use Rattle.std.specs.Prelude.{◌≡◌, ◌≢◌, ◌*◌, ◌/◌, ◌%◌, ◌<◌, ◌≤◌, ℕ, true, false, List, [], codes, length, Option, Some, None, Ok, refl}
use Rattle.std.proofs.Common.{sym, ap, subst, ◌∙◌, inl, inr, arith}
use Rattle.std.proofs.lemmas.Bool.{cases_eq}
use Rattle.std.proofs.lemmas.Option.{none-some}
use Rattle.byte_fields.specs.Fields.{record_at, put_record, zeros}
use Rattle.byte_fields.specs.laws.ReadLaws.{length-zeros, length-put_bytes}
use Rattle.minix_layout.specs.declared.division.Geometry.{Geometry}
use Rattle.minix_layout.specs.declared.inode.Inode.{Inode}
use Rattle.minix_layout.specs.declared.slot.Slot.{Slot}
use Rattle.minix_layout.specs.Inodes.{FitInode, zero_inode, new_directory_inode}
use Rattle.minix_layout.specs.Slots.{slot_of, slot_bytes}
use Rattle.minix_layout.specs.Widths.{IsWidth, of_14, of_30, slot_size, slots_a_block}
use Rattle.minix_layout.specs.laws.Places.{form_is, place_low, some_slots, IsForm, narrow, wide}
use Rattle.minix_layout.specs.laws.SlotLaws.{other_slot, length-slot_bytes, slot_within}
use Rattle.tree_model.specs.Maps.{at_number}
use Rattle.tree_model.specs.laws.MapOrder.{at_without_apart, at_without_here}
use Rattle.volume_ops.specs.Volume.{disk_of}
use Rattle.volume_ops.specs.VolumeFields.{inode_at}
use Rattle.volume_model.specs.declared.placed.DirectoryPart.{DirectoryPart}
use Rattle.volume_model.specs.declared.placed.Part.TheVariants as parts
use Rattle.volume_model.specs.declared.placed.Placed.{Placed}
use Rattle.volume_model.specs.Edits.{Edit, put_inode, put_slot, put_body, edited}
use Rattle.volume_model.specs.Moves.{node_removed}
use Rattle.volume_model.specs.Touched.{Contents}
use Rattle.volume_model.specs.Volume.{Place, block, zone_in}
use Rattle.volume_model.specs.laws.Changes.{changes_bit, changes_inode, changes_then, table_below}
use Rattle.volume_model.specs.laws.Edits.{edited_here, edited_elsewhere, length-edited, inode_elsewhere}
use Rattle.volume_model.specs.laws.FirstZone.{first_of, own_first}
use Rattle.volume_model.specs.laws.MapBlock.{changes_wider}
use Rattle.volume_model.specs.laws.Written.{zone_kept}
use Rattle.volume_steps.specs.Now.{VolumeNow, written}
use Rattle.volume_steps.specs.Plain.{IsInUse}
use Rattle.volume_steps.specs.Steps.{make_file, new_file_inode, drop_edits}
use Rattle.volume_steps.specs.UsedInodes.{IsInodeUsed}
use Rattle.volume_steps.specs.Zones.{inode_bit, zone_bit, new_number, next_zone}
use Rattle.volume_steps.proofs.Bits.{ChangesNone, AreZones, bits_change}
use Rattle.volume_steps.proofs.Comes.{MayCome}
use Rattle.volume_steps.proofs.NewDirectories.{q, may, directory_made}
use Rattle.volume_steps.proofs.NewNumbers.{IsNewNumber, number_is_new}
use Rattle.volume_steps.proofs.Taking.{frees}
use Rattle.vol_check.proofs.KeptCleanLemmas.ChangedLemmas.BareFrames.{AreFreeFrom, IsBare, free_stays, come_bare}
use Rattle.vol_check.proofs.KeptCleanLemmas.ChangedLemmas.BareZones.{zero_slot}
use Rattle.vol_check.proofs.KeptCleanLemmas.ChangedLemmas.Drops.{drop_zero, drop_high}

-- ---- a file comes

pub file_bare : (v : VolumeNow) (h : IsInUse v) (n : ℕ) (none : at_number v.contents.nodes n ≡ None) (few : length v.contents.nodes < v.geometry.inodes) (fits : FitInode new_file_inode) → IsBare v.geometry v.contents →
    IsBare v.geometry (make_file v n).volume.contents
file_bare v h n none few fits =
    let g = v.geometry in
    let number = new_number g v.contents.nodes in
    let new = number_is_new g v.contents.nodes few in
    let high = new.within in
    let room = h.sound.inode_bits in
    let bits = changes_bit g v.contents.blocks 2 number true h.sound h.volume.0.whole h.volume.0.size (omega arith) in
    let table = changes_inode g (edited g v.contents.blocks (inode_bit number true)) number new_file_inode h.sound bits.whole (bits.size ∙ h.volume.0.size) new.some new.within fits in
    come_bare g v.contents _ n (record { number = number; inode = new_file_inode; part = parts.File [] }) (λ _. ⊥) h.volume.0 none
    (changes_wider g (λ j i. elim i [ inl w ↦ absurd w | inr e ↦ e ]) (λ b i. elim i [ inl w ↦ w | inr w ↦ w ]) (changes_then g bits table))
    (λ a r x found some z. z) (λ d is. absurd (cc is))

-- ---- a directory comes

-- behind two slots that are written over zeros each slot is free
pub two_slots_only : (width : ℕ) → IsWidth width → (s t : Slot) → length s.name ≤ width → length t.name ≤ width → (body : List ℕ) → body ≡ zeros 1024 → (place : ℕ) → 2 ≤ place → place < slots_a_block width →
    slot_of width (record_at (slot_size width) place (put_record (slot_size width) 1 (slot_bytes width (Some t)) (put_record (slot_size width) 0 (slot_bytes width (Some s)) body))) ≡ Ok None
two_slots_only width is s t short brief body empty place far low =
    let two = (some_slots (slot_size width) (slots_a_block width) (form_is width)).0 in
    let size : length body ≡ 1024 = ap (λ (xs : List ℕ). length xs) empty ∙ length-zeros 1024 in
    let bytes = length-slot_bytes width (Some s) is short in
    let within = slot_within width 0 is (omega arith) in
    let once : length (put_record (slot_size width) 0 (slot_bytes width (Some s)) body) ≡ 1024 = length-put_bytes (slot_size width * 0) (slot_bytes width (Some s)) body (omega arith) ∙ size in
    other_slot width (put_record (slot_size width) 0 (slot_bytes width (Some s)) body) 1 place (Some t) is once (omega arith) low (λ e. (omega arith)) brief
    ∙ (other_slot width body 0 place (Some s) is size (omega arith) low (λ e. (omega arith)) short
    ∙ (ap (λ body. slot_of width (record_at (slot_size width) place body)) empty ∙ zero_slot width (slot_size width) place))

first_only : (size per : ℕ) → IsForm size per → (k : ℕ) → 2 ≤ k → k / per ≡ 0 → 2 ≤ k % per
first_only size per narrow k far first = omega arith
first_only size per wide k far first = omega arith

module _ (tx : ℕ) (v : VolumeNow) (h : IsInUse v) (n : ℕ) (none : at_number v.contents.nodes n ≡ None) (few : length v.contents.nodes < v.geometry.inodes)
    (parent : ℕ) (p : Placed) (at : at_number v.contents.nodes parent ≡ Some p) (enough : 1 ≤ frees v.zones) where
  abbrev g : Geometry
  g = v.geometry

  abbrev number : ℕ
  number = new_number g v.contents.nodes

  abbrev zone : ℕ
  zone = next_zone v.zones

  abbrev inode : Inode
  inode = new_directory_inode g.width zone

  abbrev new : Placed
  new = q tx v h n none few parent p at enough

  abbrev b2 : List (List ℕ)
  b2 = edited g (edited g v.contents.blocks (inode_bit number true)) (zone_bit g true zone)

  abbrev b3 : List (List ℕ)
  b3 = edited g b2 (put_body zone (zeros 1024))

  abbrev b4 : List (List ℕ)
  b4 = edited g b3 (put_slot zone 0 (Some (record { inode = number; name = codes "." })))

  abbrev b5 : List (List ℕ)
  b5 = edited g b4 (put_slot zone 1 (Some (record { inode = p.number; name = codes ".." })))

  abbrev after : List (List ℕ)
  after = edited g b5 (put_inode number inode)

  comes : MayCome g v.contents after n new (λ b. b ≡ zone)
  comes = may tx v h n none few parent p at enough

  is_new : IsNewNumber g v.contents.nodes number
  is_new = number_is_new g v.contents.nodes few

  long2 : length b2 ≡ g.zones
  long2 = length-edited g (edited g v.contents.blocks (inode_bit number true)) (zone_bit g true zone) ∙ (length-edited g v.contents.blocks (inode_bit number true) ∙ h.volume.0.size)

  own_block : zone_in after inode (block 0) ≡ zone
  own_block = own_first after comes.changes.whole inode zone refl

  only_block : (index : ℕ) → zone_in after inode (block index) ≢ 0 → index ≡ 0
  only_block index some = first (first_of after comes.changes.whole inode zone refl (block index) some)
    where
      first : block index ≡ block 0 → index ≡ 0
      first e = cc e

  abbrev body_of : List ℕ
  body_of = put_record (slot_size g.width) 1 (slot_bytes g.width (Some (record { inode = p.number; name = codes ".." }))) (put_record (slot_size g.width) 0 (slot_bytes g.width (Some (record { inode = number; name = codes "." }))) (zeros 1024))

  module _ (some : zone_in after inode (block 0) ≢ 0) where
    range : (g.first ≤ zone) × (zone < g.zones)
    range = subst (λ z. (g.first ≤ z) × (z < g.zones)) own_block (comes.stored.zones (block 0) some)

    body : disk_of after zone ≡ body_of
    body =
        let table = table_below g number h.sound is_new.some is_new.within in
        let below = table.1 in
        let r = range in
        let low = r.0 in
        let high = r.1 in
        let two = long2 in
        let three = length-edited g b2 (put_body zone (zeros 1024)) in
        let four = length-edited g b3 (put_slot zone 0 (Some (record { inode = number; name = codes "." }))) in
        edited_elsewhere g b5 (put_inode number inode) zone (λ e. (omega arith))
        ∙ (edited_here g b4 (put_slot zone 1 (Some (record { inode = p.number; name = codes ".." }))) (omega arith)
        ∙ ap (put_record (slot_size g.width) 1 (slot_bytes g.width (Some (record { inode = p.number; name = codes ".." }))))
        (edited_here g b3 (put_slot zone 0 (Some (record { inode = number; name = codes "." }))) (omega arith)
        ∙ ap (put_record (slot_size g.width) 0 (slot_bytes g.width (Some (record { inode = number; name = codes "." })))) (edited_here g b2 (put_body zone (zeros 1024)) (omega arith))))

    dot_short : (width : ℕ) → IsWidth width → 2 ≤ width
    dot_short width of_14 = omega arith
    dot_short width of_30 = omega arith

    new_slot : (k : ℕ) → 2 ≤ k → k / slots_a_block g.width ≡ 0 → slot_of g.width (record_at (slot_size g.width) (k % slots_a_block g.width) (disk_of after (zone_in after inode (block (k / slots_a_block g.width))))) ≡ Ok None
    new_slot k far first =
        let wide_enough = dot_short g.width h.sound.width in
        ap (λ index. slot_of g.width (record_at (slot_size g.width) (k % slots_a_block g.width) (disk_of after (zone_in after inode (block index))))) first
        ∙ (ap (λ z. slot_of g.width (record_at (slot_size g.width) (k % slots_a_block g.width) (disk_of after z))) own_block
        ∙ (ap (λ body. slot_of g.width (record_at (slot_size g.width) (k % slots_a_block g.width) body)) body
        ∙ two_slots_only g.width h.sound.width (record { inode = number; name = codes "." }) (record { inode = p.number; name = codes ".." }) (omega arith) wide_enough (zeros 1024) refl (k % slots_a_block g.width)
        (first_only (slot_size g.width) (slots_a_block g.width) (form_is g.width) k far first) (place_low (slot_size g.width) (slots_a_block g.width) (form_is g.width) k)))

  new_free : AreFreeFrom g after inode 2
  new_free k far some =
      let first = only_block (k / slots_a_block g.width) some in
      record { mapped = some; stands = new_slot (subst (λ index. zone_in after inode (block index) ≢ 0) first some) k far first }

  pub directory_bare : IsBare g v.contents → IsBare g (directory_made tx v h n none few parent p at enough).volume.contents
  directory_bare = come_bare g v.contents after n new (λ b. b ≡ zone) h.volume.0 none comes.changes comes.not_theirs
      (λ d is. subst (λ (d : DirectoryPart). AreFreeFrom g after inode (length d.slots)) (same_directory _ d is) new_free)
    where
      same_directory : (d e : DirectoryPart) → parts.Directory d ≡ parts.Directory e → d ≡ e
      same_directory d e same = cc

-- ---- a node goes

module _ (v : VolumeNow) (h : IsInUse v) (n : ℕ) (p : Placed) (at : at_number v.contents.nodes n ≡ Some p) (gone : List ℕ) (within : AreZones v.geometry gone) where
  abbrev es : List Edit
  es = drop_edits v.geometry p gone

  abbrev c : Contents
  c = written v.geometry v.contents es

  abbrev w : Contents
  w = node_removed v.geometry c n p

  bits : ChangesNone v.geometry v.contents.blocks c.blocks
  bits =
      let told = h.volume.0.each n p at in
      let high = told.within in
      let room = h.sound.inode_bits in
      let one = changes_bit v.geometry v.contents.blocks 2 p.number false h.sound h.volume.0.whole h.volume.0.size (omega arith) in
      let rest = bits_change v.geometry h.sound _ gone (edited v.geometry v.contents.blocks (inode_bit p.number false)) one.whole (one.size ∙ h.volume.0.size) within in
      changes_wider v.geometry (λ j i. elim i [ inl z ↦ z | inr z ↦ z ]) (λ b i. elim i [ inl z ↦ z | inr z ↦ z ]) (changes_then v.geometry one rest)

  left : (a : ℕ) (r : Placed) → at_number w.nodes a ≡ Some r → at_number v.contents.nodes a ≡ Some r
  left a r found = elim (cases_eq a n) [
    | inl e ↦ absurd (none-some r (sym (at_without_here v.contents.nodes n h.volume.0.in_order) ∙ subst (λ a. at_number w.nodes a ≡ Some r) e found))
    | inr far ↦ sym (at_without_apart v.contents.nodes n a h.volume.0.in_order far) ∙ found
  ]

  still_used : (m : ℕ) → m ≢ p.number → IsInodeUsed v.contents.nodes m → IsInodeUsed w.nodes m
  still_used m other u = elim (cases_eq u.birth n) [
    | inl e ↦ absurd (other (sym u.is ∙ sym (ap (λ (p : Placed). p.number) (same_node (sym at ∙ (ap (at_number v.contents.nodes) (sym e) ∙ u.stands))))))
    | inr far ↦ record { birth = u.birth; placed = u.placed; stands = at_without_apart v.contents.nodes n u.birth h.volume.0.in_order far ∙ u.stands; is = u.is }
  ]
    where
      same_node : ◌≡◌ {A = Option Placed} (Some p) (Some u.placed) → p ≡ u.placed
      same_node e = cc

  bytes : (a : ℕ) (r : Placed) → at_number v.contents.nodes a ≡ Some r → (x : Place) → zone_in v.contents.blocks r.inode x ≢ 0 → disk_of w.blocks (zone_in v.contents.blocks r.inode x) ≡ disk_of v.contents.blocks (zone_in v.contents.blocks r.inode x)
  bytes a r found x some = drop_high v h n p at gone within (zone_in v.contents.blocks r.inode x) ((h.volume.0.each a r found).zones x some).0

  pub drop_bare : IsBare v.geometry v.contents → IsBare v.geometry w
  drop_bare bare = record {
    unused = λ m some high none. elim (cases_eq m p.number) [
      | inl e ↦ subst (λ m. inode_at v.geometry w.blocks m ≡ zero_inode) (sym e) (drop_zero v h n p at gone within)
      | inr other ↦
          let told = h.volume.0.each n p at in
          let table = table_below v.geometry p.number h.sound told.some told.within in
          let below = table.1 in
          let zones = h.sound.some_zone in
          let size = bits.size ∙ h.volume.0.size in
          inode_elsewhere v.geometry c.blocks p.number m zero_inode bits.whole (omega arith) told.some some other
          ∙ (bits.inodes m some high (λ z. z) ∙ bare.unused m some high (λ u. none (still_used m other u)))
    ];
    behind = λ a r d found is.
        let was = left a r found in
        free_stays v.geometry v.contents.blocks w.blocks r.inode r.inode (zone_kept v.contents.blocks w.blocks r.inode (bytes a r was)) (λ index some. bytes a r was (block index) some) (length d.slots) (bare.behind a r d was is);
  }
