-- The blocks of a new volume, one by one.
use Rattle.std.specs.Prelude.{◌≡◌, ◌≢◌, ℕ, zero, suc, ◌+◌, ◌-◌, ◌*◌, ◌<◌, ◌≤◌, List, replicate, Some, refl}
use Rattle.std.proofs.Common.{sym, ap, ◌∙◌, arith}
use Rattle.std.proofs.lemmas.Bool.{ne_eqb, lt-ltb, le-ltb, lt-leb, le-leb}
use Rattle.std.proofs.lemmas.List.{length-replicate}
use Rattle.blk_base.specs.Block.{filled}
use Rattle.byte_fields.specs.Fields.{put_record}
use Rattle.minix_layout.specs.declared.division.Geometry.{Geometry}
use Rattle.minix_layout.specs.Geometry.{IsSound}
use Rattle.minix_layout.specs.Inodes.{inode_bytes}
use Rattle.minix_layout.specs.Widths.{slot_size}
use Rattle.minix_layout.specs.Slots.{slot_bytes}
use Rattle.minix_layout.specs.Super.{super_block as volume_super}
use Rattle.volume_ops.specs.Volume.{disk_of}
use Rattle.volume_ops.specs.Places.{table_block}
use Rattle.volume_model.specs.Edits.{put_inode, put_slot, edited}
use Rattle.volume_model.specs.NewVolume.{dot_slot, dots_slot, root_inode, new_blocks}
use Rattle.volume_model.specs.laws.Edits.{length-edited, edited_here, edited_elsewhere}
use Rattle.mount_make.specs.Made.{map_block, made_block}
use Rattle.mount_make.specs.code.Making.{root_table, root_zone}

pub blank_at : (n b : ℕ) → disk_of (replicate n (filled 0)) b ≡ filled 0
blank_at zero b = refl
blank_at (suc n) zero = refl
blank_at (suc n) (suc b) = blank_at n b

module _ (g : Geometry) (sound : IsSound g) where
  abbrev blank : List (List ℕ)
  blank = replicate g.zones (filled 0)

  abbrev with_inode : List (List ℕ)
  with_inode = edited g blank (put_inode 1 (root_inode g))

  abbrev with_dot : List (List ℕ)
  with_dot = edited g with_inode (put_slot g.first 0 (Some dot_slot))

  table_differs : table_block g 1 ≢ g.first
  table_differs e = let low = sound.tables_below in let some = sound.some_inode in omega (arith, low, some, e)

  pub new_table : disk_of (new_blocks g) (table_block g 1) ≡ root_table g
  unfolding root_table
  new_table =
      let low = sound.tables_below in
      let high = sound.some_zone in
      let size = length-replicate g.zones (filled 0) in
      edited_elsewhere g with_dot (put_slot g.first 1 (Some dots_slot)) (table_block g 1) table_differs
      ∙ (edited_elsewhere g with_inode (put_slot g.first 0 (Some dot_slot)) (table_block g 1) table_differs
      ∙ (edited_here g blank (put_inode 1 (root_inode g)) (omega (arith, low, high, size))
      ∙ ap (put_record 32 0 (inode_bytes (root_inode g))) (blank_at g.zones (table_block g 1))))

  pub new_first : disk_of (new_blocks g) g.first ≡ root_zone g
  unfolding root_zone
  new_first =
      let high = sound.some_zone in
      let size = length-replicate g.zones (filled 0) in
      let more = length-edited g blank (put_inode 1 (root_inode g)) in
      let all = length-edited g with_inode (put_slot g.first 0 (Some dot_slot)) in
      edited_here g with_dot (put_slot g.first 1 (Some dots_slot)) (omega (arith, high, size, more, all))
      ∙ ap (put_record (slot_size g.width) 1 (slot_bytes g.width (Some dots_slot)))
      (edited_here g with_inode (put_slot g.first 0 (Some dot_slot)) (omega (arith, high, size, more))
      ∙ ap (put_record (slot_size g.width) 0 (slot_bytes g.width (Some dot_slot)))
      (edited_elsewhere g blank (put_inode 1 (root_inode g)) g.first (λ e. table_differs (sym e)) ∙ blank_at g.zones g.first))

  pub new_other : (b : ℕ) → b ≢ table_block g 1 → b ≢ g.first → disk_of (new_blocks g) b ≡ filled 0
  new_other b no_table no_first =
      edited_elsewhere g with_dot (put_slot g.first 1 (Some dots_slot)) b no_first
      ∙ (edited_elsewhere g with_inode (put_slot g.first 0 (Some dot_slot)) b no_first
      ∙ (edited_elsewhere g blank (put_inode 1 (root_inode g)) b no_table ∙ blank_at g.zones b))

  -- ---- each block that is made

  pub made_super : made_block g 1 ≡ volume_super g
  unfolding made_block
  made_super = refl

  pub made_inodes : (b : ℕ) → 2 ≤ b → b < 2 + g.imap → made_block g b ≡ map_block g.inodes (8192 * (b - 2))
  unfolding made_block
  made_inodes b low high = rw (ne_eqb b 1 (λ e. omega (arith, low, e)), le-leb 2 b low, lt-ltb b (2 + g.imap) high) refl

  pub made_zones : (b : ℕ) → 2 + g.imap ≤ b → b < 2 + g.imap + g.zmap → made_block g b ≡ map_block (g.zones - g.first) (8192 * (b - (2 + g.imap)))
  unfolding made_block
  made_zones b low high =
      rw (ne_eqb b 1 (λ e. omega (arith, low, e)), le-leb 2 b (omega (arith, low)), le-ltb b (2 + g.imap) low, le-leb (2 + g.imap) b low, lt-ltb b (2 + g.imap + g.zmap) high) refl

  pub made_behind : (b : ℕ) → 2 + g.imap + g.zmap ≤ b → made_block g b ≡ disk_of (new_blocks g) b
  unfolding made_block
  made_behind b low =
      rw (ne_eqb b 1 (λ e. omega (arith, low, e)), le-leb 2 b (omega (arith, low)), le-ltb b (2 + g.imap) (omega (arith, low)), le-leb (2 + g.imap) b (omega (arith, low)), le-ltb b (2 + g.imap + g.zmap) low) refl

  pub made_boot : (b : ℕ) → b ≢ 1 → b < 2 → made_block g b ≡ filled 0
  unfolding made_block
  made_boot b differ low =
      let low_table = sound.tables_below in
      rw (ne_eqb b 1 differ, lt-leb 2 b low, lt-leb (2 + g.imap) b (omega (arith, low)))
      (new_other b (λ e. omega (arith, low, e)) (λ e. omega (arith, low, e, low_table)))

  pub made_table : (b : ℕ) → b ≡ 2 + g.imap + g.zmap → made_block g b ≡ root_table g
  made_table b e =
      let here : b ≡ table_block g 1 = omega (arith, e) in
      made_behind b (omega (arith, e)) ∙ (ap (λ (n : ℕ). disk_of (new_blocks g) n) here ∙ new_table)

  pub made_first : (b : ℕ) → b ≡ g.first → made_block g b ≡ root_zone g
  made_first b e =
      let low = sound.tables_below in
      made_behind b (omega (arith, e, low)) ∙ (ap (λ (n : ℕ). disk_of (new_blocks g) n) e ∙ new_first)

  pub made_other : (b : ℕ) → 2 + g.imap + g.zmap ≤ b → b ≢ 2 + g.imap + g.zmap → b ≢ g.first → made_block g b ≡ filled 0
  made_other b low no_table no_first = made_behind b low ∙ new_other b (λ e. no_table (omega (arith, e))) no_first
