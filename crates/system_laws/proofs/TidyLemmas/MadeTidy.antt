-- The volume of an image that was made is tidy.
use Rattle.std.specs.Prelude.{◌≡◌, ◌≢◌, ◌+◌, ◌-◌, ◌*◌, ◌/◌, ◌%◌, ◌<◌, ◌≤◌, ℕ, zero, suc, List, [], ◌∷◌, length, map, replicate, Some, None, Ok, refl}
use Rattle.std.specs.List.{range_with_len}
use Rattle.std.proofs.Common.{sym, ap, subst, ◌∙◌, arith}
use Rattle.std.proofs.lemmas.List.{length-replicate, drop-replicate}
use Rattle.blk_base.specs.Block.{filled}
use Rattle.byte_fields.specs.Fields.{record_at, put_record, zeros, number_at, number_of}
use Rattle.byte_fields.specs.Fields.Order.{little}
use Rattle.byte_fields.specs.laws.ReadLaws.{length-zeros}
use Rattle.byteorder.specs.Endian.{little_number}
use Rattle.minix_layout.specs.declared.division.Geometry.{Geometry}
use Rattle.minix_layout.specs.Geometry.{IsSound}
use Rattle.minix_layout.specs.Inodes.{inode_of, zones_of, zone_of, zero_inode}
use Rattle.minix_layout.specs.Slots.{slot_of, slot_bytes}
use Rattle.minix_layout.specs.Widths.{IsWidth, of_14, of_30, slot_size, slots_a_block}
use Rattle.minix_layout.specs.laws.Places.{IsForm, narrow, wide, form_is, place_low}
use Rattle.volume_ops.specs.Places.{table_block, inode_in_block}
use Rattle.volume_ops.specs.Volume.{disk_of}
use Rattle.volume_ops.specs.VolumeFields.{inode_at}
use Rattle.volume_model.specs.declared.placed.DirectoryPart.{DirectoryPart}
use Rattle.volume_model.specs.declared.placed.Part.TheVariants as parts
use Rattle.volume_model.specs.declared.placed.Placed.{Placed}
use Rattle.volume_model.specs.Edits.{put_inode, put_slot, edited}
use Rattle.volume_model.specs.NewVolume.{dot_slot, dots_slot, root_inode, root_placed}
use Rattle.volume_model.specs.Volume.{block, zone_in, HasSlot, IsWhole}
use Rattle.volume_model.specs.laws.Changes.{table_below}
use Rattle.volume_model.specs.laws.Edits.{edited_here, edited_elsewhere, length-edited, inode_elsewhere, inode_kept}
use Rattle.volume_model.specs.laws.FirstZone.{own_first, first_of, same_blank}
use Rattle.volume_model.proofs.NewVolumes.{only_placed, new_plain}
use Rattle.volume_steps.specs.Plain.{IsPlainNow}
use Rattle.volume_steps.specs.UsedInodes.{IsInodeUsed}
use Rattle.mount_make.specs.Made.{made_volume}
use Rattle.mount_make.proofs.MadeVolumes.{same}
use Rattle.call_sessions.specs.made.MadeSessions.{made_now}
use Rattle.vol_check.specs.kept_clean.Marked.{IsMarked}
use Rattle.vol_check.specs.kept_clean.changed.Tidy.{IsTidy}
use Rattle.vol_check.proofs.KeptCleanLemmas.ChangedLemmas.BareNodes.{two_slots_only}
use Rattle.vol_check.proofs.KeptCleanLemmas.ChangedLemmas.BareZones.{zero_record}

-- ---- an inode of zeros

one_zero : (m : ℕ) → little_number 1 (replicate m 0) ≡ 0
one_zero zero = refl
one_zero (suc m) = refl

two_zeros : (m : ℕ) → little_number 2 (replicate m 0) ≡ 0
two_zeros zero = refl
two_zeros (suc zero) = refl
two_zeros (suc (suc m)) = refl

four_zeros : (m : ℕ) → little_number 4 (replicate m 0) ≡ 0
four_zeros zero = refl
four_zeros (suc zero) = refl
four_zeros (suc (suc zero)) = refl
four_zeros (suc (suc (suc zero))) = refl
four_zeros (suc (suc (suc (suc m)))) = refl

read_one : (k at : ℕ) → number_at little 1 at (replicate k 0) ≡ 0
unfolding number_at number_of
read_one k at = ap (little_number 1) (drop-replicate at k 0) ∙ one_zero (k - at)

read_two : (k at : ℕ) → number_at little 2 at (replicate k 0) ≡ 0
unfolding number_at number_of
read_two k at = ap (little_number 2) (drop-replicate at k 0) ∙ two_zeros (k - at)

read_four : (k at : ℕ) → number_at little 4 at (replicate k 0) ≡ 0
unfolding number_at number_of
read_four k at = ap (little_number 4) (drop-replicate at k 0) ∙ four_zeros (k - at)

all_zero : (f : ℕ → ℕ) → ((k : ℕ) → f k ≡ 0) → (n a : ℕ) → map f (range_with_len a n) ≡ replicate n 0
all_zero f none zero a = refl
all_zero f none (suc n) a = ap (λ x. x ∷ map f (range_with_len (a + 1) n)) (none a) ∙ ap (λ (xs : List ℕ). 0 ∷ xs) (all_zero f none n (a + 1))

read_zones : (k : ℕ) → zones_of (replicate k 0) ≡ replicate 9 0
unfolding zones_of
read_zones k = all_zero (zone_of (replicate k 0)) (λ j. read_two k (14 + 2 * j)) 9 0

read_inode : (k : ℕ) → inode_of (replicate k 0) ≡ zero_inode
read_inode k = λ i. record { mode = read_two k 0 i; uid = read_two k 2 i; size = read_four k 4 i; time = read_four k 8 i; gid = read_one k 12 i; links = read_one k 13 i; zones = read_zones k i }

blank_zeros : filled 0 ≡ zeros 1024
unfolding filled zeros
blank_zeros = refl

blank_inode : (number : ℕ) → inode_in_block number (filled 0) ≡ zero_inode
blank_inode number =
    let some = zero_record 32 ((number - 1) % 32) in
    ap (inode_in_block number) blank_zeros ∙ (ap inode_of some.1 ∙ read_inode some.0)

-- ---- the volume

behind_first : (size per : ℕ) → IsForm size per → (k : ℕ) → 2 ≤ k → k / per ≡ 0 → 2 ≤ k % per
behind_first size per narrow k far first = omega arith
behind_first size per wide k far first = omega arith

two_fit : (width : ℕ) → IsWidth width → 2 ≤ width
two_fit width of_14 = omega arith
two_fit width of_30 = omega arith

module _ (g : Geometry) (sound : IsSound g) (plain : IsPlainNow (made_now g)) (marked : IsMarked g (made_now g).contents (made_now g).zones) where
  abbrev blank : List (List ℕ)
  blank = replicate g.zones (filled 0)

  abbrev with_inode : List (List ℕ)
  with_inode = edited g blank (put_inode 1 (root_inode g))

  abbrev with_dot : List (List ℕ)
  with_dot = edited g with_inode (put_slot g.first 0 (Some dot_slot))

  blank_at : (b : ℕ) → disk_of blank b ≡ filled 0
  blank_at b = same_blank g.zones b (filled 0)

  whole_blank : IsWhole blank
  whole_blank b = ap (λ (xs : List ℕ). length xs) (blank_at b ∙ blank_zeros) ∙ length-zeros 1024

  -- an inode that is not the root's
  other_inode : (number : ℕ) → 0 < number → number ≤ g.inodes → number ≢ 1 → inode_at g (made_volume g) number ≡ zero_inode
  other_inode number some within other =
      let t = table_below g number sound some within in
      let low = t.0 in
      let high = t.1 in
      let one = table_below g 1 sound (omega arith) sound.some_inode in
      let below = one.1 in
      let zones = sound.some_zone in
      let size = length-replicate g.zones (filled 0) in
      ap (inode_in_block number) (same g sound (new_plain g sound) (table_block g number) (omega arith))
      ∙ (inode_kept g with_dot (put_slot g.first 1 (Some dots_slot)) number (λ e. (omega arith))
      ∙ (inode_kept g with_inode (put_slot g.first 0 (Some dot_slot)) number (λ e. (omega arith))
      ∙ (inode_elsewhere g blank 1 number (root_inode g) whole_blank (omega arith) (omega arith) some other
      ∙ (ap (inode_in_block number) (blank_at (table_block g number)) ∙ blank_inode number))))

  -- a slot of the root behind the second one
  abbrev root_zone : List ℕ
  root_zone = put_record (slot_size g.width) 1 (slot_bytes g.width (Some dots_slot)) (put_record (slot_size g.width) 0 (slot_bytes g.width (Some dot_slot)) (filled 0))

  root_body : disk_of (made_volume g) g.first ≡ root_zone
  root_body =
      let low = sound.tables_below in
      let high = sound.some_zone in
      let size = length-replicate g.zones (filled 0) in
      let more = length-edited g blank (put_inode 1 (root_inode g)) in
      let all = length-edited g with_inode (put_slot g.first 0 (Some dot_slot)) in
      let one = table_below g 1 sound (omega arith) sound.some_inode in
      let below = one.1 in
      same g sound (new_plain g sound) g.first (omega arith)
      ∙ (edited_here g with_dot (put_slot g.first 1 (Some dots_slot)) (omega arith)
      ∙ ap (put_record (slot_size g.width) 1 (slot_bytes g.width (Some dots_slot)))
      (edited_here g with_inode (put_slot g.first 0 (Some dot_slot)) (omega arith)
      ∙ ap (put_record (slot_size g.width) 0 (slot_bytes g.width (Some dot_slot))) (edited_elsewhere g blank (put_inode 1 (root_inode g)) g.first (λ e. (omega arith)) ∙ blank_at g.first)))

  whole : IsWhole (made_volume g)
  whole = plain.in_use.volume.0.whole

  root_slot : (k : ℕ) → 2 ≤ k → k / slots_a_block g.width ≡ 0 → slot_of g.width (record_at (slot_size g.width) (k % slots_a_block g.width) (disk_of (made_volume g) g.first)) ≡ Ok None
  root_slot k far first =
      let fit = two_fit g.width sound.width in
      ap (λ body. slot_of g.width (record_at (slot_size g.width) (k % slots_a_block g.width) body)) root_body
      ∙ two_slots_only g.width sound.width dot_slot dots_slot (omega arith) fit (filled 0) blank_zeros (k % slots_a_block g.width)
      (behind_first (slot_size g.width) (slots_a_block g.width) (form_is g.width) k far first) (place_low (slot_size g.width) (slots_a_block g.width) (form_is g.width) k)

  root_free : (k : ℕ) → 2 ≤ k → zone_in (made_volume g) (root_inode g) (block (k / slots_a_block g.width)) ≢ 0 → HasSlot g (made_volume g) (root_inode g) k None
  root_free k far some =
      let at = first_of (made_volume g) whole (root_inode g) g.first refl (block (k / slots_a_block g.width)) some in
      let zone : zone_in (made_volume g) (root_inode g) (block (k / slots_a_block g.width)) ≡ g.first = ap (zone_in (made_volume g) (root_inode g)) at ∙ own_first (made_volume g) whole (root_inode g) g.first refl in
      record {
        mapped = some;
        stands = ap (λ z. slot_of g.width (record_at (slot_size g.width) (k % slots_a_block g.width) (disk_of (made_volume g) z))) zone ∙ root_slot k far (first_index at);
      }
    where
      first_index : block (k / slots_a_block g.width) ≡ block 0 → k / slots_a_block g.width ≡ 0
      first_index e = cc e

  root_used : (number : ℕ) → number ≡ 1 → IsInodeUsed (made_now g).contents.nodes number
  root_used number is = record { birth = 0; placed = root_placed g; stands = refl; is = sym is }

  abbrev root_part : DirectoryPart
  root_part = record { parent = 0; width = g.width; names = []; slots = Some dot_slot ∷ Some dots_slot ∷ [] }

  pub made_tidy : IsTidy g (made_now g).contents (made_now g).zones
  made_tidy = record {
    marked = marked;
    unused = λ number some within none. other_inode number some within (λ is. none (root_used number is));
    behind = λ birth p d k at is far some.
        let one = (only_placed g birth p at).1 in
        let part : root_part ≡ d = same_directory d (ap (λ (p : Placed). p.part) one ∙ is) in
        let two : length root_part.slots ≤ k = subst (λ (d : DirectoryPart). length d.slots ≤ k) (sym part) far in
        subst (λ (p : Placed). HasSlot g (made_volume g) p.inode k None) one
        (root_free k two (subst (λ (p : Placed). zone_in (made_volume g) p.inode (block (k / slots_a_block g.width)) ≢ 0) (sym one) some));
  }
    where
      same_directory : (d : DirectoryPart) → parts.Directory root_part ≡ parts.Directory d → root_part ≡ d
      same_directory d e = cc
