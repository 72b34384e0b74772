-- What writes of metadata change, told by inodes and zones in place of bytes.
use Rattle.std.specs.Prelude.{◌≡◌, ℕ, ◌+◌, ◌/◌, ◌<◌, ◌≤◌, Bool, List, length, Option, IfSome, refl, ◌⊎◌}
use Rattle.std.proofs.Common.{◌∙◌, inl, inr, arith}
use Rattle.std.proofs.lemmas.List.{length-set}
use Rattle.std.proofs.lemmas.Grind.{div_ceil_times}
use Rattle.byte_fields.specs.laws.ReadLaws.{length-put_bytes}
use Rattle.minix_layout.specs.Widths.{slots_a_block}
use Rattle.minix_layout.specs.declared.division.Geometry.{Geometry}
use Rattle.minix_layout.specs.declared.inode.Inode.{Inode}
use Rattle.minix_layout.specs.declared.slot.Slot.{Slot}
use Rattle.minix_layout.specs.Geometry.{IsSound}
use Rattle.minix_layout.specs.Inodes.{FitInode}
use Rattle.minix_layout.specs.Slots.{IsEntry}
use Rattle.minix_layout.specs.laws.InodeLaws.{length-inode_bytes}
use Rattle.minix_layout.specs.laws.SlotLaws.{length-slot_bytes, entries_short, slot_within}
use Rattle.volume_ops.specs.Places.{table_block}
use Rattle.volume_model.specs.Edits.{put_inode, put_slot, set_bit, edited}
use Rattle.volume_model.specs.Volume.{IsWhole}
use Rattle.volume_model.specs.laws.Edits.{length-edited, edited_elsewhere, inode_elsewhere, inode_kept, whole_edited}
use Rattle.volume_model.specs.Changes.{Changes}

module _ (g : Geometry) where
  pub changes_then : {I Z J W : ℕ → Type 0} {a b c : List (List ℕ)} → Changes g I Z a b → Changes g J W b c → Changes g (λ j. I j ⊎ J j) (λ z. Z z ⊎ W z) a c
  changes_then h k = record {
    whole = k.whole;
    size = k.size ∙ h.size;
    inodes = λ j some within none. k.inodes j some within (λ y. none (inr y)) ∙ h.inodes j some within (λ y. none (inl y));
    zones = λ b low none. k.zones b low (λ y. none (inr y)) ∙ h.zones b low (λ y. none (inl y));
  }

  pub changes_none : (blocks : List (List ℕ)) → IsWhole blocks → Changes g (λ _. ⊥) (λ _. ⊥) blocks blocks
  changes_none blocks whole = record { whole = whole; size = refl; inodes = λ j some within none. refl; zones = λ b low none. refl }

  -- where the table lies
  pub table_below : (n : ℕ) → IsSound g → 0 < n → n ≤ g.inodes → (2 + g.imap + g.zmap ≤ table_block g n) × (table_block g n < g.first)
  table_below n sound some within =
      let low = sound.tables_below in
      let ceil = div_ceil_times g.inodes 32 (omega arith) in
      (omega arith, omega arith)

  pub changes_inode : (blocks : List (List ℕ)) (n : ℕ) (i : Inode) → IsSound g → IsWhole blocks → length blocks ≡ g.zones → 0 < n → n ≤ g.inodes → FitInode i →
      Changes g (λ j. j ≡ n) (λ _. ⊥) blocks (edited g blocks (put_inode n i))
  changes_inode blocks n i sound whole size some within fit =
      let t = table_below n sound some within in
      let some_zone = sound.some_zone in
      let inside : table_block g n < length blocks = omega arith in
      let bytes = length-inode_bytes i in
      let body = whole (table_block g n) in
      record {
        whole = whole_edited g blocks (put_inode n i) whole (length-put_bytes _ _ _ (omega arith) ∙ body) inside;
        size = length-edited g blocks (put_inode n i);
        inodes = λ j more below none. inode_elsewhere g blocks n j i whole inside some more none;
        zones = λ b low none. edited_elsewhere g blocks (put_inode n i) b (omega arith);
      }

  pub changes_slot : (blocks : List (List ℕ)) (zone at : ℕ) (s : Option Slot) → IsSound g → IsWhole blocks → length blocks ≡ g.zones → g.first ≤ zone → zone < g.zones → at < slots_a_block g.width → IfSome s (λ e. IsEntry g.width e) →
      Changes g (λ _. ⊥) (λ b. b ≡ zone) blocks (edited g blocks (put_slot zone at s))
  changes_slot blocks zone at s sound whole size low high place entry =
      let inside : zone < length blocks = omega arith in
      let bytes = length-slot_bytes g.width s sound.width (entries_short g.width s entry) in
      let fits = slot_within g.width at sound.width place in
      let body = whole zone in
      record {
        whole = whole_edited g blocks (put_slot zone at s) whole (length-put_bytes _ _ _ (omega arith) ∙ body) inside;
        size = length-edited g blocks (put_slot zone at s);
        inodes = λ j more below none. inode_kept g blocks (put_slot zone at s) j (let t = table_below j sound more below in omega arith);
        zones = λ b from none. edited_elsewhere g blocks (put_slot zone at s) b none;
      }

  -- a bit of a map that lies before the table
  pub changes_bit : (blocks : List (List ℕ)) (first number : ℕ) (value : Bool) → IsSound g → IsWhole blocks → length blocks ≡ g.zones → first + number / 8192 < 2 + g.imap + g.zmap →
      Changes g (λ _. ⊥) (λ _. ⊥) blocks (edited g blocks (set_bit first number value))
  changes_bit blocks first number value sound whole size before =
      let t = table_below 1 sound (omega arith) sound.some_inode in
      let some_zone = sound.some_zone in
      let inside : first + number / 8192 < length blocks = omega arith in
      record {
        whole = whole_edited g blocks (set_bit first number value) whole (length-set _ _ _ ∙ whole _) inside;
        size = length-edited g blocks (set_bit first number value);
        inodes = λ j more below none. inode_kept g blocks (set_bit first number value) j (let t = table_below j sound more below in omega arith);
        zones = λ b low none. edited_elsewhere g blocks (set_bit first number value) b (omega arith);
      }
