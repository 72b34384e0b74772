-- A directory comes, in the lowest inode and the lowest zone that are free.
use Rattle.std.specs.Prelude.{◌≡◌, ◌≢◌, ◌≤◌, ◌<◌, ◌+◌, ◌*◌, ◌-◌, ◌/◌, ◌%◌, ◌^◌, ℕ, zero, suc, ◌⊎◌, true, false, List, [], ◌∷◌, codes, length, slice_index, Option, Some, None, Ok, refl}
use Rattle.std.specs.List.{slice_get}
use Rattle.std.proofs.Common.{sym, ap, subst, inl, inr, ⊎_elim, ◌∙◌, arith}
use Rattle.std.proofs.lemmas.Bool.{true≢false}
use Rattle.std.proofs.lemmas.Option.{same_Some, none-some}
use Rattle.byte_fields.specs.Fields.{record_at, zeros}
use Rattle.minix_layout.specs.Widths.{IsWidth, of_14, of_30, slot_size, slots_a_block}
use Rattle.minix_layout.specs.laws.Places.{IsForm, narrow, wide, form_is, some_slots, slot_zero_stands, slot_one_stands}
use Rattle.minix_layout.specs.declared.division.Geometry.{Geometry}
use Rattle.minix_layout.specs.declared.inode.Inode.{Inode}
use Rattle.minix_layout.specs.declared.slot.Slot.{Slot}
use Rattle.minix_layout.specs.Geometry.{IsSound}
use Rattle.minix_layout.specs.Inodes.{FitInode, new_directory_inode}
use Rattle.minix_layout.specs.Slots.{slot_of, IsEntry}
use Rattle.tree_model.specs.Maps.{at_number, put_number}
use Rattle.tree_model.specs.Paths.{is_dot}
use Rattle.tree_model.specs.Calls.{new_directory, node_zones, used_zones}
use Rattle.volume_ops.specs.Volume.{disk_of}
use Rattle.volume_ops.specs.VolumeFields.{inode_at}
use Rattle.byte_fields.specs.laws.ReadLaws.{length-zeros}
use Rattle.minix_tables.specs.declared.zones.zone_state.ZoneState.{ZoneState}
use Rattle.minix_tables.specs.declared.zones.zone_state.ZoneState.TheVariants as states
use Rattle.minix_tables.specs.zones.Zones.{Zones, taken}
use Rattle.volume_model.specs.declared.placed.Placed.{Placed}
use Rattle.volume_model.specs.declared.placed.Part.TheVariants as parts
use Rattle.volume_model.specs.declared.placed.DirectoryPart.{DirectoryPart}
use Rattle.volume_model.specs.Changes.{Changes}
use Rattle.volume_model.specs.Edits.{put_inode, put_slot, put_body, edited, edited_all, touched_by_all, Edit}
use Rattle.volume_model.specs.laws.FirstZone.{no_number, first_index, own_first, first_of, first_zone}
use Rattle.volume_model.specs.laws.Edits.{length-edited, edited_elsewhere, untouched, inode_here, inode_kept, slot_here, slot_elsewhere, whole_edited}
use Rattle.volume_model.specs.laws.Changes.{changes_then, changes_bit, changes_inode, changes_slot, table_below}
use Rattle.volume_model.specs.laws.MapBlock.{changes_wider}
use Rattle.volume_model.specs.Volume.{Place, block, zone_in, IsWhole, HasSlot, HasNames}
use Rattle.volume_model.specs.Ways.{OnWay}
use Rattle.volume_model.specs.Moves.{IsVolume}
use Rattle.volume_model.specs.Touched.{Contents}
use Rattle.volume_model.specs.Plain.{HasDots, HasSlotZones}
use Rattle.volume_steps.specs.Now.{VolumeNow, Change, tree_of_now}
use Rattle.volume_steps.specs.Zones.{inode_bit, zone_bit, new_number, next_zone}
use Rattle.volume_steps.specs.Steps.{new_directory_edits, dot_slots, make_directory}
use Rattle.volume_steps.specs.Plain.{IsInUse}
use Rattle.volume_steps.specs.laws.Steady.{IsSteady, KeepsMarks}
use Rattle.volume_steps.specs.UsedInodes.{IsInodeUsed}
use Rattle.volume_steps.proofs.Together.{used_waits}
use Rattle.volume_steps.proofs.Grows.{GrowsTo, TakesTo, grown_steady}
use Rattle.volume_steps.proofs.NodeSteps.{IsSettled, AreSlotted}
use Rattle.volume_steps.proofs.NewNumbers.{IsNewNumber, number_is_new}
use Rattle.volume_steps.proofs.Comes.{MayCome, ComesTold, come, come_stands, come_grows, come_settled, come_slotted}
use Rattle.volume_steps.proofs.QuietSteps.{at_node_is}
use Rattle.volume_steps.proofs.Taking.{AreTaken, frees, in_zones, one_taken}
use Rattle.volume_steps.proofs.TakeZones.{zone_range, free_is_none}
use Rattle.volume_steps.proofs.TreeSteps.{new_zones, grown_pages, tree_put, tree_none, tree_in_order, used_put_new}
use Rattle.volume_steps.proofs.Listed.{put_told}
use Rattle.volume_steps.proofs.Marked.{marks_then, marks_inode, marks_taken, number_comes, numbers_come, numbers_same}
use Rattle.blk_base.specs.Members.{In}

-- ---- its dots

dots_differ : codes "." ≡ codes ".." → ⊥
dots_differ e = let n : length (codes ".") ≡ length (codes "..") = ap length e in omega arith

dot_entry : (width number : ℕ) → IsWidth width → 0 < number → number < 2 ^ 16 → IsEntry width (record { inode = number; name = codes "." })
dot_entry width number of_14 some fits = record { used = some; fits = fits; name = refl; short = omega arith; no_slash = refl }
dot_entry width number of_30 some fits = record { used = some; fits = fits; name = refl; short = omega arith; no_slash = refl }

dots_entry : (width number : ℕ) → IsWidth width → 0 < number → number < 2 ^ 16 → IsEntry width (record { inode = number; name = codes ".." })
dots_entry width number of_14 some fits = record { used = some; fits = fits; name = refl; short = omega arith; no_slash = refl }
dots_entry width number of_30 some fits = record { used = some; fits = fits; name = refl; short = omega arith; no_slash = refl }

-- one of two slots
two_by : (own parent : ℕ) (P : ℕ → Option Slot → Type 0) → P 0 (Some (record { inode = own; name = codes "." })) → P 1 (Some (record { inode = parent; name = codes ".." })) →
    (k : ℕ) (s : Option Slot) → slice_get (dot_slots own parent) k ≡ Some s → P k s
two_by own parent P first second zero s at = subst (P 0) (same_Some (Some (record { inode = own; name = codes "." })) s at) first
two_by own parent P first second (suc zero) s at = subst (P 1) (same_Some (Some (record { inode = parent; name = codes ".." })) s at) second
two_by own parent P first second (suc (suc k)) s at = absurd (none-some s at)

two_slots : (size per : ℕ) → IsForm size per → size * 2 < 2 ^ 32
two_slots size per narrow = omega arith
two_slots size per wide = omega arith

two_few : (size per : ℕ) → IsForm size per → 2 ≤ 519 * per
two_few size per narrow = omega arith
two_few size per wide = omega arith

-- two slots stand in the first block
pub first_block : (size per : ℕ) → IsForm size per → (index : ℕ) → per * index < 2 → index ≡ 0
first_block size per narrow index low = omega arith
first_block size per wide index low = omega arith

first_begins : (size per : ℕ) → IsForm size per → (index : ℕ) → index ≡ 0 → per * index < 2
first_begins size per narrow index first = omega arith
first_begins size per wide index first = omega arith

-- a directory of its dots alone has no names
pub dots_names : (width : ℕ) (placed : List (ℕ × Placed)) (own above parent : ℕ) → HasNames placed (record { parent = parent; width = width; names = []; slots = dot_slots own above })
dots_names width placed own above parent = record {
  named = λ name b at. absurd (none-some b at);
  full = λ k s at no_dot.
      absurd (two_by own above (λ k o. (s : Slot) → o ≡ Some s → is_dot s.name ≡ false → ⊥)
      (λ s e no. true≢false (ap (λ (s : Slot). is_dot s.name) (same_Some (record { inode = own; name = codes "." }) s e) ∙ no))
      (λ s e no. true≢false (ap (λ (s : Slot). is_dot s.name) (same_Some (record { inode = above; name = codes ".." }) s e) ∙ no))
      k (Some s) at s refl no_dot);
  count = refl;
  once = λ j k s t at to same.
      two_by own above (λ j o. (s : Slot) → o ≡ Some s → s.name ≡ t.name → j ≡ k)
      (λ s e same. two_by own above (λ k o. (t : Slot) → o ≡ Some t → codes "." ≡ t.name → 0 ≡ k) (λ t f same. refl)
      (λ t f same. absurd (dots_differ (same ∙ sym (ap (λ (s : Slot). s.name) (same_Some (record { inode = above; name = codes ".." }) t f))))) k (Some t) to t refl
      (ap (λ (s : Slot). s.name) (same_Some (record { inode = own; name = codes "." }) s e) ∙ same))
      (λ s e same. two_by own above (λ k o. (t : Slot) → o ≡ Some t → codes ".." ≡ t.name → 1 ≡ k)
      (λ t f same. absurd (dots_differ (ap (λ (s : Slot). s.name) (same_Some (record { inode = own; name = codes "." }) t f) ∙ sym same))) (λ t f same. refl) k (Some t) to t refl
      (ap (λ (s : Slot). s.name) (same_Some (record { inode = above; name = codes ".." }) s e) ∙ same))
      j (Some s) at s refl same;
}

-- zones that were taken are in use, and others stay
pub takes_of_taken : (m o : Zones) (zs : List ℕ) → AreTaken m o zs → TakesTo m o zs
takes_of_taken m o zs h = record {
  first = h.first;
  size = h.size;
  was = λ zone used. ⊎_elim (λ i. inr i) (λ out. inl (sym (h.others zone out) ∙ used)) (in_zones zone zs);
  stays = λ zone used. ⊎_elim (λ i. h.now zone i) (λ out. h.others zone out ∙ used) (in_zones zone zs);
  taken = h.now;
  waits_on = λ zone freed_by waits. ⊎_elim (λ i. absurd (free_waits freed_by (sym (h.was zone i) ∙ waits))) (λ out. h.others zone out ∙ waits) (in_zones zone zs);
  waited = λ zone freed_by waits. ⊎_elim (λ i. absurd (used_waits freed_by (sym (h.now zone i) ∙ waits))) (λ out. sym (h.others zone out) ∙ waits) (in_zones zone zs);
  lowest = h.lowest;
}
  where
    free_waits : (freed_by : ℕ) → ◌≡◌ {A = Option ZoneState} (Some states.Free) (Some (states.Quarantined freed_by)) → ⊥
    free_waits freed_by e = cc

changes_body : (g : Geometry) (blocks : List (List ℕ)) (zone : ℕ) → IsSound g → IsWhole blocks → length blocks ≡ g.zones → g.first ≤ zone → zone < g.zones →
    Changes g (λ _. ⊥) (λ b. b ≡ zone) blocks (edited g blocks (put_body zone (zeros 1024)))
changes_body g blocks zone sound whole size low high =
    let inside : zone < length blocks = omega arith in
    record {
      whole = whole_edited g blocks (put_body zone (zeros 1024)) whole (length-zeros 1024) inside;
      size = length-edited g blocks (put_body zone (zeros 1024));
      inodes = λ j more below none. inode_kept g blocks (put_body zone (zeros 1024)) j (let t = table_below g j sound more below in let up = t.1 in omega arith);
      zones = λ b from none. edited_elsewhere g blocks (put_body zone (zeros 1024)) b none;
    }

module _ (tx : ℕ) (v : VolumeNow) (in_use : IsInUse v) (n : ℕ) (none : at_number v.contents.nodes n ≡ None) (few : length v.contents.nodes < v.geometry.inodes)
    (parent : ℕ) (p : Placed) (at : at_number v.contents.nodes parent ≡ Some p) (enough : 1 ≤ frees v.zones) where
  abbrev g : Geometry
  g = v.geometry

  abbrev number : ℕ
  number = new_number g v.contents.nodes

  abbrev zone : ℕ
  zone = next_zone v.zones

  abbrev inode : Inode
  inode = new_directory_inode v.geometry.width zone

  abbrev dot : Option Slot
  dot = Some (record { inode = number; name = codes "." })

  abbrev dots : Option Slot
  dots = Some (record { inode = p.number; name = codes ".." })

  new : IsNewNumber g v.contents.nodes number
  new = number_is_new g v.contents.nodes few

  take : AreTaken v.zones (taken v.zones) (zone ∷ [])
  take = one_taken v.zones enough

  range : (g.first ≤ zone) × (zone < g.zones)
  range = zone_range v in_use zone states.Free (take.was zone (inl refl))

  zone_some : zone ≢ 0
  zone_some e = let low = range.0 in let tables = in_use.sound.tables_below in omega arith

  fits : FitInode inode
  fits = record {
    mode = omega arith;
    uid = omega arith;
    size = two_slots (slot_size v.geometry.width) (slots_a_block v.geometry.width) (form_is v.geometry.width);
    time = omega arith;
    gid = omega arith;
    links = omega arith;
    nine = refl;
    zones = zones_fit;
  }
    where
      zones_fit : (k : ℕ) → slice_index inode.zones k < 2 ^ 16
      zones_fit zero = let high = range.1 in let fit = in_use.sound.fits.zones in omega arith
      zones_fit (suc k) = subst (λ z. z < 2 ^ 16) (sym (no_number 8 k)) (omega arith)

  abbrev b1 : List (List ℕ)
  b1 = edited g v.contents.blocks (inode_bit number true)

  abbrev b2 : List (List ℕ)
  b2 = edited g b1 (zone_bit g true zone)

  abbrev b3 : List (List ℕ)
  b3 = edited g b2 (put_body zone (zeros 1024))

  abbrev b4 : List (List ℕ)
  b4 = edited g b3 (put_slot zone 0 dot)

  abbrev b5 : List (List ℕ)
  b5 = edited g b4 (put_slot zone 1 dots)

  abbrev after : List (List ℕ)
  after = edited g b5 (put_inode number inode)

  c1 : Changes g (λ _. ⊥) (λ _. ⊥) v.contents.blocks b1
  c1 =
      let high = new.within in
      let room = in_use.sound.inode_bits in
      changes_bit g v.contents.blocks 2 number true in_use.sound in_use.volume.0.whole in_use.volume.0.size (omega arith)

  c2 : Changes g (λ _. ⊥) (λ _. ⊥) b1 b2
  c2 =
      let r = range in
      let low = r.0 in
      let high = r.1 in
      let room = in_use.sound.zone_bits in
      changes_bit g b1 (2 + g.imap) (zone - g.first + 1) true in_use.sound c1.whole (c1.size ∙ in_use.volume.0.size) (omega arith)

  c3 : Changes g (λ _. ⊥) (λ b. b ≡ zone) b2 b3
  c3 = changes_body g b2 zone in_use.sound c2.whole (c2.size ∙ (c1.size ∙ in_use.volume.0.size)) range.0 range.1

  own_entry : IsEntry v.geometry.width (record { inode = number; name = codes "." })
  own_entry = dot_entry v.geometry.width number in_use.sound.width new.some (let within = new.within in let fit = in_use.sound.fits.inodes in omega arith)

  above_entry : IsEntry v.geometry.width (record { inode = p.number; name = codes ".." })
  above_entry = let told = in_use.volume.0.each parent p at in dots_entry v.geometry.width p.number in_use.sound.width told.some (let within = told.within in let fit = in_use.sound.fits.inodes in omega arith)

  zero_place : 0 < slots_a_block v.geometry.width
  zero_place = let two = (some_slots (slot_size v.geometry.width) (slots_a_block v.geometry.width) (form_is v.geometry.width)).0 in omega arith

  one_place : 1 < slots_a_block v.geometry.width
  one_place = let two = (some_slots (slot_size v.geometry.width) (slots_a_block v.geometry.width) (form_is v.geometry.width)).0 in omega arith

  c4 : Changes g (λ _. ⊥) (λ b. b ≡ zone) b3 b4
  c4 = changes_slot g b3 zone 0 dot in_use.sound c3.whole (c3.size ∙ (c2.size ∙ (c1.size ∙ in_use.volume.0.size))) range.0 range.1 zero_place own_entry

  c5 : Changes g (λ _. ⊥) (λ b. b ≡ zone) b4 b5
  c5 = changes_slot g b4 zone 1 dots in_use.sound c4.whole (c4.size ∙ (c3.size ∙ (c2.size ∙ (c1.size ∙ in_use.volume.0.size)))) range.0 range.1 one_place above_entry

  size5 : length b5 ≡ g.zones
  size5 = c5.size ∙ (c4.size ∙ (c3.size ∙ (c2.size ∙ (c1.size ∙ in_use.volume.0.size))))

  c6 : Changes g (λ j. j ≡ number) (λ _. ⊥) b5 after
  c6 = changes_inode g b5 number inode in_use.sound c5.whole size5 new.some new.within fits

  changes : Changes g (λ j. j ≡ number) (λ b. b ≡ zone) v.contents.blocks after
  changes = changes_wider g
      (λ j i. inodes_of j i) (λ b i. zones_of b i)
      (changes_then g c1 (changes_then g c2 (changes_then g c3 (changes_then g c4 (changes_then g c5 c6)))))
    where
      inodes_of : (j : ℕ) → ⊥ ⊎ (⊥ ⊎ (⊥ ⊎ (⊥ ⊎ (⊥ ⊎ (j ≡ number))))) → j ≡ number
      inodes_of j i = grind arith

      zones_of : (b : ℕ) → ⊥ ⊎ (⊥ ⊎ ((b ≡ zone) ⊎ ((b ≡ zone) ⊎ ((b ≡ zone) ⊎ ⊥)))) → b ≡ zone
      zones_of b i = grind arith

  abbrev pub q : Placed
  q = record { number = number; inode = inode; part = parts.Directory (record { parent = parent; width = v.geometry.width; names = []; slots = dot_slots number p.number }) }

  table_here : inode_at g after number ≡ inode
  table_here =
      let t = table_below g number in_use.sound new.some new.within in
      let low = t.1 in
      let some = in_use.sound.some_zone in
      let size = size5 in
      inode_here g b5 number inode c5.whole (omega arith) fits

  zone_bytes : disk_of after zone ≡ disk_of b5 zone
  zone_bytes = c6.zones zone range.0 (λ z. z)

  inside : zone < length b5
  inside = let high = range.1 in let size = size5 in omega arith

  inside_too : zone < length b4
  inside_too = let high = range.1 in let size = size5 in let more = c5.size in omega arith

  inside_first : zone < length b3
  inside_first = let high = range.1 in let size = size5 in let more = c5.size in let less = c4.size in omega arith

  first_slot : slot_of v.geometry.width (record_at (slot_size v.geometry.width) 0 (disk_of after zone)) ≡ Ok dot
  first_slot =
      ap (λ body. slot_of v.geometry.width (record_at (slot_size v.geometry.width) 0 body)) zone_bytes
      ∙ (slot_elsewhere g in_use.sound.width b4 zone 1 zone 0 dots c4.whole inside_too one_place zero_place above_entry (λ e same. (omega arith))
      ∙ slot_here g in_use.sound.width b3 zone 0 dot c3.whole inside_first zero_place own_entry)

  second_slot : slot_of v.geometry.width (record_at (slot_size v.geometry.width) 1 (disk_of after zone)) ≡ Ok dots
  second_slot = ap (λ body. slot_of v.geometry.width (record_at (slot_size v.geometry.width) 1 body)) zone_bytes ∙ slot_here g in_use.sound.width b4 zone 1 dots c4.whole inside_too one_place above_entry

  here : zone_in after inode (block 0) ≡ zone
  here = own_first after changes.whole inode zone refl

  here_some : zone_in after inode (block 0) ≢ 0
  here_some e = zone_some (sym here ∙ e)

  slot_stands : (k : ℕ) (s : Option Slot) → k / slots_a_block v.geometry.width ≡ 0 → k % slots_a_block v.geometry.width ≡ k →
      slot_of v.geometry.width (record_at (slot_size v.geometry.width) k (disk_of after zone)) ≡ Ok s → HasSlot v.geometry after inode k s
  slot_stands k s block_is place_is stands = record {
    mapped = λ none. here_some (ap (λ b. zone_in after inode (block b)) (sym block_is) ∙ none);
    stands = ap (λ b. slot_of v.geometry.width (record_at (slot_size v.geometry.width) (k % slots_a_block v.geometry.width) (disk_of after (zone_in after inode (block b))))) block_is
        ∙ (ap (λ a. slot_of v.geometry.width (record_at (slot_size v.geometry.width) a (disk_of after (zone_in after inode (block 0))))) place_is
        ∙ (ap (λ z. slot_of v.geometry.width (record_at (slot_size v.geometry.width) k (disk_of after z))) here ∙ stands));
  }

  zone_of : (x : Place) → zone_in after inode x ≢ 0 → zone_in after inode x ≡ zone
  zone_of x some = first_zone after changes.whole inode zone refl x some

  place_of : (x : Place) → zone_in after inode x ≢ 0 → x ≡ block 0
  place_of x some = first_of after changes.whole inode zone refl x some

  not_theirs : (a : ℕ) (r : Placed) (x : Place) → at_number v.contents.nodes a ≡ Some r → zone_in v.contents.blocks r.inode x ≡ zone → ⊥
  not_theirs a r x found same =
      free_is_none v in_use zone (take.was zone (inl refl)) (record { birth = a; placed = r; place = x; stands = found; zone_is = same; some = zone_some })

  pub may : MayCome g v.contents after n q (λ b. b ≡ zone)
  may = record {
    birth = none;
    unused = new.unused;
    changes = changes;
    not_theirs = λ a r x found some same. not_theirs a r x found same;
    stored = record {
      some = new.some;
      within = new.within;
      fits = fits;
      inode = table_here;
      zones = λ x some. subst (λ z. (g.first ≤ z) × (z < g.zones)) (sym (zone_of x some)) range;
      part = record {
        kind = refl;
        width = refl;
        size = refl;
        slots = two_by number p.number (HasSlot v.geometry after inode)
            (slot_stands 0 dot (slot_zero_stands (slot_size v.geometry.width) (slots_a_block v.geometry.width) (form_is v.geometry.width)).0 (slot_zero_stands (slot_size v.geometry.width) (slots_a_block v.geometry.width) (form_is v.geometry.width)).1 first_slot)
            (slot_stands 1 dots (slot_one_stands (slot_size v.geometry.width) (slots_a_block v.geometry.width) (form_is v.geometry.width)).0 (slot_one_stands (slot_size v.geometry.width) (slots_a_block v.geometry.width) (form_is v.geometry.width)).1 second_slot);
      };
    };
    apart = λ x y same some. place_of x some ∙ sym (place_of y (λ zero_zone. some (same ∙ zero_zone)));
    none_of_theirs = λ a r x y found same some. not_theirs a r y found (sym same ∙ zone_of x some);
    names = λ d is. subst (HasNames (put_number v.contents.nodes n q)) (same_directory _ d is) (dots_names v.geometry.width (put_number v.contents.nodes n q) number p.number parent);
    just = λ x some. (0, here_some, subst (λ x. OnWay x 0) (sym (place_of x some)) (refl, (omega arith)));
  }
    where
      same_directory : (e f : DirectoryPart) → parts.Directory e ≡ parts.Directory f → e ≡ f
      same_directory e f same = cc

  abbrev blocks : List ℕ
  blocks = touched_by_all g (new_directory_edits g number zone p.number)

  told : ComesTold g v.contents after n q (λ b. b ≡ zone) in_use.volume may in_use.sound blocks (zone ∷ [])
  told = record {
    zones = λ x some. (inl (sym (zone_of x some)), refl);
    bytes = λ b out. untouched g (new_directory_edits g number zone p.number) v.contents.blocks b out;
    meta = λ b i.
        let t = table_below g number in_use.sound new.some new.within in
        let low = t.0 in
        let high = t.1 in
        let within = new.within in
        let room = in_use.sound.inode_bits in
        let more = in_use.sound.zone_bits in
        let r = range in
        let from = r.0 in
        let to = r.1 in
        let tables = in_use.sound.tables_below in
        elim i [
          | inl e ↦ inl ((omega arith), (omega arith))
          | inr i ↦ elim i [
            | inl e ↦ inl ((omega arith), (omega arith))
            | inr i ↦ elim i [
              | inl e ↦ inr (inl e)
              | inr i ↦ elim i [
                | inl e ↦ inr (inl e)
                | inr i ↦ elim i [
                  | inl e ↦ inr (inl e)
                  | inr i ↦ elim i [ inl e ↦ inl ((omega arith), (omega arith)) | inr w ↦ absurd w ]
                ]
              ]
            ]
          ]
        ];
    mapped = λ z i. elim i [ inl e ↦ (inr (inr (inl e)), (block 0, here_some, here ∙ e)) | inr w ↦ absurd w ];
  }

  abbrev w : Contents
  w = come g v.contents after n q (λ b. b ≡ zone) in_use.volume may

  grows : GrowsTo g v.contents w blocks (zone ∷ [])
  grows = come_grows g v.contents after n q (λ b. b ≡ zone) in_use.volume may in_use.sound blocks (zone ∷ []) told

  stands : IsVolume g w
  stands = come_stands g v.contents after n q (λ b. b ≡ zone) in_use.volume may

  -- the volume with the directory
  abbrev pub directory_made : Change
  directory_made = record {
    volume = record { geometry = g; contents = w; zones = taken v.zones };
    touched = record { blocks = blocks; freed = []; revoked = []; pages = []; dropped = []; nodes = n ∷ [] };
  }

  pub make_directory_is : make_directory v n parent ≡ directory_made
  make_directory_is = at_node_is v parent p (λ p. record {
    volume = record {
      geometry = v.geometry;
      contents = record {
        blocks = edited_all g v.contents.blocks (new_directory_edits v.geometry number zone p.number);
        nodes = put_number v.contents.nodes n (record {
          number = number;
          inode = new_directory_inode v.geometry.width zone;
          part = parts.Directory (record { parent = parent; width = v.geometry.width; names = []; slots = dot_slots number p.number });
        });
      };
      zones = taken v.zones;
    };
    touched = record { blocks = touched_by_all g (new_directory_edits g number zone p.number); freed = []; revoked = []; pages = []; dropped = []; nodes = n ∷ [] };
  }) at

  pub directory_made_tree : tree_of_now directory_made.volume ≡ put_number (tree_of_now v) n (new_directory v.geometry.width parent)
  directory_made_tree = tree_put v.contents.blocks after v.contents.nodes in_use.volume.0.in_order
      (grown_pages g v.contents w blocks (zone ∷ []) [] grows in_use.volume.0 stands.0) n q

  -- the inode's bit is written first, and then that of the zone
  abbrev with_inode : Contents
  with_inode = record { blocks = edited g v.contents.blocks (inode_bit number true); nodes = w.nodes }

  abbrev writes_after : List Edit
  writes_after = put_body zone (zeros 1024) ∷ put_slot zone 0 (Some (record { inode = number; name = codes "." })) ∷ put_slot zone 1 (Some (record { inode = p.number; name = codes ".." })) ∷ put_inode number (new_directory_inode v.geometry.width zone) ∷ []

  behind_maps : (b : ℕ) → b < 2 + g.imap + g.zmap → In b (touched_by_all g writes_after) → ⊥
  behind_maps b high i =
      let from = range.0 in
      let far = (table_below g number in_use.sound new.some new.within).0 in
      let tables = in_use.sound.tables_below in
      elim i [
        | inl e ↦ omega arith
        | inr i ↦ elim i [
          | inl e ↦ omega arith
          | inr i ↦ elim i [
            | inl e ↦ omega arith
            | inr i ↦ elim i [ inl e ↦ omega arith | inr z ↦ absurd z ]
          ]
        ]
      ]

  not_before : IsInodeUsed v.contents.nodes number → ⊥
  not_before has = new.unused has.birth has.placed has.stands has.is

  made_marks : KeepsMarks g v.contents w v.zones (taken v.zones)
  made_marks = marks_then g v.contents with_inode w v.zones v.zones (taken v.zones)
      (marks_inode g in_use.sound v.contents with_inode v.zones number true in_use.volume.0.whole in_use.volume.0.size new.some new.within (λ b low high. refl)
      ((λ t. number_comes v.contents.nodes n q), (λ has. refl)) (λ alike. not_before (alike.0 (number_comes v.contents.nodes n q))) (λ other apart. numbers_come v.contents.nodes n q none other apart))
      (marks_taken g in_use.sound with_inode w v.zones (taken v.zones) (zone ∷ []) c1.whole (c1.size ∙ in_use.volume.0.size) (λ z i. elim i [ inl e ↦ subst (λ z. (g.first ≤ z) × (z < g.zones)) e range | inr z ↦ absurd z ]) take
      (λ b low high. untouched g writes_after (edited g (edited g v.contents.blocks (inode_bit number true)) (zone_bit g true zone)) b (behind_maps b high))
      (numbers_same w.nodes w.nodes refl))
      (inr (numbers_same w.nodes w.nodes refl)) (λ zone low high first second. first ((λ u. u), (λ u. u)))

  pub directory_made_steady : IsSteady tx v directory_made (λ birth index. ⊥)
  directory_made_steady = grown_steady tx v w (taken v.zones) blocks (zone ∷ []) (n ∷ []) in_use stands grows (takes_of_taken v.zones (taken v.zones) (zone ∷ []) take)
      (let all = used_put_new (tree_of_now v) n (new_directory v.geometry.width parent) (tree_in_order v.contents.blocks v.contents.nodes in_use.volume.0.in_order) (tree_none v.contents.blocks v.contents.nodes n none) in
      let same = ap used_zones directory_made_tree in
      let one : node_zones (new_directory v.geometry.width parent) ≡ 1 = new_zones v.geometry.width parent in
      let more = take.more in
      let was = in_use.counted in
      omega arith)
      (put_told g v.contents w directory_made.touched n q refl (inl refl) (λ b i. elim i [ inl e ↦ sym e | inr z ↦ absurd z ]) (λ zones is. absurd (cc is)))
      made_marks

  pub directory_made_settled : IsSettled v.contents → (n ≡ 0 → ⊥) → IsSettled directory_made.volume.contents
  directory_made_settled old apart = come_settled g v.contents after n q (λ b. b ≡ zone) in_use.volume may old apart (λ zones is. absurd (cc is)) (omega arith)
      (λ d is. subst (λ (d : DirectoryPart). (r : Placed) × (at_number v.contents.nodes d.parent ≡ Some r) × HasDots d.slots number r.number) (same_directory _ d is)
      (p, at, record { here = refl; above = refl; no_later = no_later }))
    where
      same_directory : (e f : DirectoryPart) → parts.Directory e ≡ parts.Directory f → e ≡ f
      same_directory e f same = cc

      no_later : (k : ℕ) (s : Slot) → 1 < k → slice_get (dot_slots number p.number) k ≡ Some (Some s) → is_dot s.name ≡ false
      no_later zero s late found = absurd (omega arith)
      no_later (suc zero) s late found = absurd (omega arith)
      no_later (suc (suc k)) s late found = absurd (none-some (Some s) found)

  pub directory_made_slotted : AreSlotted v.geometry (λ a. ⊥) v.contents → AreSlotted directory_made.volume.geometry (λ a. ⊥) directory_made.volume.contents
  directory_made_slotted old = come_slotted g v.contents after n q (λ b. b ≡ zone) in_use.volume may old
      (λ d is. subst (λ (d : DirectoryPart). HasSlotZones v.geometry after inode (length d.slots)) (same_directory _ d is) (record {
        few = two_few (slot_size v.geometry.width) (slots_a_block v.geometry.width) (form_is v.geometry.width);
        no_hole = λ index low none. (let e = first_block (slot_size v.geometry.width) (slots_a_block v.geometry.width) (form_is v.geometry.width) index low in here_some (ap (λ index. zone_in after inode (block index)) (sym e) ∙ none));
        no_more = λ index some. first_begins (slot_size v.geometry.width) (slots_a_block v.geometry.width) (form_is v.geometry.width) index (first_index index (place_of (block index) some));
      }))
    where
      same_directory : (e f : DirectoryPart) → parts.Directory e ≡ parts.Directory f → e ≡ f
      same_directory e f same = cc
