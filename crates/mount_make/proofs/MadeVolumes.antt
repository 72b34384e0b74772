-- A volume that was made is a new one: plain, with its root alone.
use Rattle.std.specs.Prelude.{◌≡◌, ◌≢◌, ℕ, zero, suc, ◌+◌, ◌-◌, ◌*◌, ◌/◌, ◌<◌, ◌≤◌, ◌==◌, ◌&&◌, Bool, true, false, nat_lt, nat_le, if◌then◌else◌, List, [], ◌∷◌, length, Option, Some, Result, Ok, refl}
use Rattle.std.specs.List.{slice_get}
use Rattle.std.proofs.Common.{sym, ap, subst, ◌∙◌, ⊎_elim, arith}
use Rattle.std.proofs.lemmas.Bool.{cases_lt, ne_eqb, true≢false}
use Rattle.std.proofs.lemmas.List.{get_or_past, length-replicate}
use Rattle.std.proofs.lemmas.List.FromFn.{length-map-range_with_len}
use Rattle.std.proofs.lemmas.Option.{none-some}
use Rattle.blk_base.specs.Block.{filled}
use Rattle.byte_fields.specs.Fields.{zeros}
use Rattle.byte_fields.specs.Fields.Order.{little}
use Rattle.byte_fields.specs.laws.ReadLaws.{length-written, length-zeros}
use Rattle.minix_layout.specs.laws.Places.{form_is, bytes_of_slots}
use Rattle.minix_layout.specs.Widths.{slot_size, slots_a_block}
use Rattle.minix_layout.specs.declared.division.Geometry.{Geometry}
use Rattle.minix_layout.specs.declared.slot.Slot.{Slot}
use Rattle.minix_layout.specs.declared.fault.LayoutFault.{LayoutFault}
use Rattle.minix_layout.specs.Geometry.{IsSound}
use Rattle.minix_layout.specs.Super.{super_fields, super_block as volume_super}
use Rattle.journal_replay.specs.laws.Attempts.{body_at-some}
use Rattle.tree_model.specs.declared.node.Node.{Node}
use Rattle.tree_model.specs.declared.node.Node.TheVariants as nodes
use Rattle.tree_model.specs.Maps.{at_number}
use Rattle.tree_model.specs.Paths.{is_dot}
use Rattle.tree_model.specs.Rooted.{HasEntry, IsRooted}
use Rattle.tree_model.specs.Trees.{directory_links}
use Rattle.tree_model.specs.Plain.{names_to}
use Rattle.volume_ops.specs.Places.{inode_in_block, inode_of_birth, table_block}
use Rattle.volume_ops.specs.Volume.{disk_of}
use Rattle.volume_ops.specs.VolumeFields.{inode_at, zone_behind, slot_behind, IsDirectoryOf, IsNodeOf, IsTreeOf}
use Rattle.volume_ops.specs.Faultless.{IsFaultless}
use Rattle.volume_ops.specs.VolumeTrees.{IsVolumeTree}
use Rattle.volume_model.specs.declared.placed.Placed.{Placed}
use Rattle.volume_model.specs.Volume.{Place, block, zone_in, IsWhole, IsDirectoryPart, IsStored, IsVolumeOf}
use Rattle.volume_model.specs.Ways.{IsJust}
use Rattle.volume_model.specs.Trees.{directory_from, tree_now}
use Rattle.volume_model.specs.Touched.{Contents}
use Rattle.volume_model.specs.Plain.{IsPlainContents}
use Rattle.volume_model.specs.NewVolume.{dot_slot, dots_slot, root_inode, root_placed, new_blocks, new_volume, root_directory, root_alone}
use Rattle.volume_model.specs.laws.Zones.{zones_kept}
use Rattle.volume_model.specs.laws.Written.{stored_kept}
use Rattle.volume_model.proofs.NewVolumes.{only_placed, only_node, no_name}
use Rattle.mount_make.specs.Made.{map_byte, map_block, made_block, made_volume}
use Rattle.mount_make.proofs.NewBlocks.{new_other, made_behind}
use Rattle.mount_make.proofs.Filling.{length-made, get_made}

length_blank : length (filled 0) ≡ 1024
unfolding filled
length_blank = length-replicate {A = ℕ} 1024 0

length_map : (last n : ℕ) → length (map_block last n) ≡ 1024
unfolding map_block
length_map last n = length-map-range_with_len (λ k. map_byte last (n + 8 * k)) 0 1024

length_super : (g : Geometry) → length (volume_super g) ≡ 1024
unfolding volume_super
length_super g = length-written little 1024 (super_fields g) (zeros 1024) refl (length-zeros 1024)

-- one of four
length_one : (first second third : Bool) (a b c d : List ℕ) → length a ≡ 1024 → length b ≡ 1024 → length c ≡ 1024 → length d ≡ 1024 → length (if first then a else if second then b else if third then c else d) ≡ 1024
length_one true second third a b c d e f g h = e
length_one false true third a b c d e f g h = f
length_one false false true a b c d e f g h = g
length_one false false false a b c d e f g h = h

abbrev placed : Geometry → List (ℕ × Placed)
placed g = (0, root_placed g) ∷ []

-- the volume, as one that can change
abbrev pub made_contents : Geometry → Contents
made_contents g = record { blocks = made_volume g; nodes = placed g }

tree_of_root : (blocks : List (List ℕ)) (g : Geometry) → tree_now blocks (placed g) ≡ (root_alone g.width)
unfolding tree_now
tree_of_root blocks g = refl

module _ (g : Geometry) (sound : IsSound g) (new : IsPlainContents g (new_volume g)) where
  old_whole : IsWhole (new_blocks g)
  old_whole = new.volume.0.whole

  length_block : (b : ℕ) → length (made_block g b) ≡ 1024
  unfolding made_block
  length_block b =
      length_one (b == 1) (nat_le 2 b && nat_lt b (2 + g.imap)) (nat_le (2 + g.imap) b && nat_lt b (2 + g.imap + g.zmap)) (volume_super g) (map_block g.inodes (8192 * (b - 2))) (map_block (g.zones - g.first) (8192 * (b - (2 + g.imap)))) (disk_of (new_blocks g) b)
      (length_super g) (length_map g.inodes (8192 * (b - 2))) (length_map (g.zones - g.first) (8192 * (b - (2 + g.imap)))) (old_whole b)

  past : (b : ℕ) → g.zones ≤ b → disk_of (made_volume g) b ≡ filled 0
  past b high = get_or_past (made_volume g) b (filled 0) (let size = length-made g in omega (arith, size, high))

  here : (b : ℕ) → b < g.zones → disk_of (made_volume g) b ≡ made_block g b
  here b low = body_at-some (made_volume g) b (made_block g b) (get_made g b low)

  whole : IsWhole (made_volume g)
  whole b = ⊎_elim (λ low. ap (λ (body : List ℕ). length body) (here b low) ∙ length_block b) (λ high. ap (λ (body : List ℕ). length body) (past b high) ∙ length_blank) (cases_lt b g.zones)

  -- from the table of the inodes on it is the new volume
  pub same : (b : ℕ) → 2 + g.imap + g.zmap ≤ b → disk_of (made_volume g) b ≡ disk_of (new_blocks g) b
  same b behind =
      ⊎_elim
      (λ low. here b low ∙ made_behind g sound b behind)
      (λ high.
      let below = sound.tables_below in
      let some = sound.some_zone in
      let inode = sound.some_inode in
      past b high ∙ sym (new_other g sound b (λ e. omega (arith, high, below, some, inode, e)) (λ e. omega (arith, high, some, e))))
      (cases_lt b g.zones)

  stored_before : IsStored g (new_blocks g) (root_placed g)
  stored_before = new.volume.0.each 0 (root_placed g) refl

  zone_same : (x : Place) → zone_in (new_blocks g) (root_inode g) x ≢ 0 → disk_of (made_volume g) (zone_in (new_blocks g) (root_inode g) x) ≡ disk_of (new_blocks g) (zone_in (new_blocks g) (root_inode g) x)
  zone_same x some =
      let high = (stored_before.zones x some).0 in
      let below = sound.tables_below in
      same (zone_in (new_blocks g) (root_inode g) x) (omega (arith, high, below))

  zones_are : (x : Place) → zone_in (made_volume g) (root_inode g) x ≡ zone_in (new_blocks g) (root_inode g) x
  zones_are = zones_kept (new_blocks g) (made_volume g) (root_inode g) (λ x numbers some. zone_same x some)

  inode_is : inode_at g (made_volume g) 1 ≡ inode_at g (new_blocks g) 1
  inode_is = ap (inode_in_block 1) (same (table_block g 1) (omega arith))

  stored : IsStored g (made_volume g) (root_placed g)
  stored = stored_kept g (new_blocks g) (made_volume g) (root_placed g) stored_before inode_is zone_same

  zones_of : (b : ℕ) (p : Placed) → at_number (placed g) b ≡ Some p → (x : Place) → zone_in (made_volume g) p.inode x ≡ zone_in (new_blocks g) p.inode x
  zones_of b p at = subst (λ (p : Placed). (x : Place) → zone_in (made_volume g) p.inode x ≡ zone_in (new_blocks g) p.inode x) (only_placed g b p at).1 zones_are

  volume_of : IsVolumeOf g (made_volume g) (placed g)
  volume_of = record {
    whole = whole;
    size = length-made g;
    in_order = new.volume.0.in_order;
    each = λ b p at. subst (IsStored g (made_volume g)) (only_placed g b p at).1 stored;
    names = new.volume.0.names;
    numbers = new.volume.0.numbers;
    zones = λ a b p q x y at to e some.
        let first = zones_of a p at x in
        let second = zones_of b q to y in
        new.volume.0.zones a b p q x y at to (sym first ∙ (e ∙ second)) (λ none. some (first ∙ none));
  }

  just : (b : ℕ) (p : Placed) → at_number (placed g) b ≡ Some p → IsJust (λ x. zone_in (made_volume g) p.inode x)
  just b p at x some =
      let z = zones_of b p at in
      let k = new.volume.1 b p at x (λ none. some (z x ∙ none)) in
      (k.0, (λ none. k.1 (sym (z (block k.0)) ∙ none)), k.2)

  trees : tree_now (made_volume g) (placed g) ≡ tree_now (new_blocks g) (placed g)
  trees = tree_of_root (made_volume g) g ∙ sym (tree_of_root (new_blocks g) g)

  pub made_plain : IsPlainContents g (made_contents g)
  made_plain = record {
    volume = (volume_of, just);
    rooted = subst IsRooted (sym trees) new.rooted;
    root_number = new.root_number;
    root_parent = λ d at. new.root_parent d (subst (λ (t : List (ℕ × Node)). at_number t 0 ≡ Some (nodes.Directory d)) trees at);
    parents = λ parent name b d gives at. new.parents parent name b d (subst (λ (t : List (ℕ × Node)). HasEntry t parent name b) trees gives) (subst (λ (t : List (ℕ × Node)). at_number t b ≡ Some (nodes.Directory d)) trees at);
    sizes = new.sizes;
    dots = new.dots;
    slot_zones = λ b p d at is.
        let z = zones_of b p at in
        let h = new.slot_zones b p d at is in
        record { few = h.few; no_hole = λ index low none. h.no_hole index low (sym (z (block index)) ∙ none); no_more = λ index some. h.no_more index (λ none. some (z (block index) ∙ none)) };
    directory_links_are = λ b p d at is. new.directory_links_are b p d at is ∙ ap (λ (t : List (ℕ × Node)). directory_links t (directory_from d)) (sym trees);
    file_links_are = λ b p zones at is. new.file_links_are b p zones at is ∙ ap (λ (t : List (ℕ × Node)). names_to t b) (sym trees);
    few_links = new.few_links;
  }

  -- ---- its tree

  slot_at : (k : ℕ) (s : Option Slot) → slice_get (Some dot_slot ∷ Some dots_slot ∷ []) k ≡ Some s → slot_behind g (made_volume g) (root_inode g) k ≡ Ok s
  slot_at k s at =
      let part : IsDirectoryPart g (made_volume g) (root_inode g) (record { parent = 0; width = g.width; names = []; slots = Some dot_slot ∷ Some dots_slot ∷ [] }) = stored.part in
      let slot = part.slots k s at in
      rw (ne_eqb (zone_behind (made_volume g) (root_inode g) (k / slots_a_block g.width)) 0 slot.mapped) slot.stands

  same_slot : (s t : Slot) → ◌≡◌ {A = Result (Option Slot) LayoutFault} (Ok (Some s)) (Ok (Some t)) → s ≡ t
  same_slot s t e = cc

  slot_names : (k : ℕ) (s : Slot) → k < 2 → slot_behind g (made_volume g) (root_inode g) k ≡ Ok (Some s) → is_dot s.name ≡ true
  slot_names zero s low is = ap (λ (s : Slot). is_dot s.name) (sym (same_slot dot_slot s (sym (slot_at 0 (Some dot_slot) refl) ∙ is)))
  slot_names (suc zero) s low is = ap (λ (s : Slot). is_dot s.name) (sym (same_slot dots_slot s (sym (slot_at 1 (Some dots_slot) refl) ∙ is)))
  slot_names (suc (suc k)) s low is = absurd (omega (arith, low))

  root_is : IsDirectoryOf g (made_volume g) (root_inode g) (root_directory g.width)
  root_is = record {
    kind = refl;
    width = refl;
    slots = sym (bytes_of_slots (slot_size g.width) (slots_a_block g.width) (form_is g.width) 2);
    names = λ name birth. (
      λ e. absurd (none-some birth e),
      λ h. absurd (true≢false (sym (slot_names h.place h.slot (let low = h.below in let two = bytes_of_slots (slot_size g.width) (slots_a_block g.width) (form_is g.width) 2 in omega (arith, low, two)) h.stands) ∙ (ap is_dot h.name_is ∙ h.no_dot))),
    );
  }

  node_is : (b : ℕ) (n : Node) → at_number (root_alone g.width) b ≡ Some n → IsNodeOf g (made_volume g) (inode_at g (made_volume g) 1) n
  node_is b n at =
      subst (λ (n : Node). IsNodeOf g (made_volume g) (inode_at g (made_volume g) 1) n) (only_node g.width b n at).1
      (subst (λ i. IsDirectoryOf g (made_volume g) i (root_directory g.width)) (sym stored.inode) root_is)

  fields : IsTreeOf g (made_volume g) (root_alone g.width)
  fields = record {
    each = λ b n at. subst (λ (k : ℕ). IsNodeOf g (made_volume g) (inode_at g (made_volume g) (inode_of_birth k)) n) (sym (only_node g.width b n at).0) (node_is b n at);
    root = ((root_directory g.width), refl, refl);
    leads = λ parent name b gives. absurd (no_name g.width parent name b gives);
    has_name = λ b n at some. absurd (some (only_node g.width b n at).0);
    one_name = λ parent other name more b d gives given at. absurd (no_name g.width parent name b gives);
  }

  pub made_tree : IsFaultless g (made_volume g) → IsVolumeTree g (made_volume g) (root_alone g.width)
  made_tree faultless = record {
    faultless = faultless;
    fields = fields;
    rooted = subst IsRooted (tree_of_root (made_volume g) g) made_plain.rooted;
    blocks_in_order = λ b f at. absurd (let e : nodes.Directory (root_directory g.width) ≡ nodes.File f = (only_node g.width b (nodes.File f) at).1 in cc);
  }
