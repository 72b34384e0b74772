-- An image that was made: its journal is empty, and its tree is the root alone.
use Rattle.std.specs.Prelude.{◌≡◌, ℕ, ◌+◌, ◌-◌, ◌^◌, ◌<◌, ◌==◌, Bool, true, false, if◌then◌else◌, List, ◌∷◌, take, length, replicate, Some, None, Ok, refl}
use Rattle.std.proofs.Common.{ap, ◌∙◌, arith}
use Rattle.std.proofs.lemmas.Bool.{lt-ltb, le-ltb}
use Rattle.std.proofs.lemmas.List.{take_at}
use Rattle.blk_base.specs.Block.{filled}
use Rattle.byte_fields.specs.Fields.{number_at}
use Rattle.byte_fields.specs.Fields.Order.{big}
use Rattle.journal_blocks.specs.declared.super_block.JournalSuper.{JournalSuper}
use Rattle.minix_layout.specs.declared.division.Geometry.{Geometry}
use Rattle.minix_layout.specs.Geometry.{IsSound}
use Rattle.minix_layout.specs.Super.{super_of, super_block as volume_super}
use Rattle.minix_layout.specs.laws.SuperLaws.{super_read as volume_read}
use Rattle.journal_blocks.specs.Super.{super_of as journal_super_of, super_block as journal_super, numbers_of, unknown_bits, is_wide, is_journal, IsSound as IsJournal}
use Rattle.journal_blocks.specs.laws.Supers.{super_read as journal_read, read_parts}
use Rattle.journal_replay.specs.Recovered.{journal_fault}
use Rattle.journal_replay.specs.laws.Attempts.{body_at-some, recovered-empty}
use Rattle.journal_replay.specs.laws.Recoveries.{fault-log, fault-empty}
use Rattle.volume_ops.specs.Volume.{disk_of}
use Rattle.mount_make.specs.Images.{divided, fault_in_journal, recovered_from, volume_in, read_or_none, journal_at, recovered_by, recovered_image}
use Rattle.mount_make.specs.Made.{new_journal, made_block, made_volume, made_image}
use Rattle.mount_make.specs.laws.Recovering.{is_super, has_super, found_fine, found_recovered}
use Rattle.mount_make.proofs.NewBlocks.{made_super}
use Rattle.mount_make.proofs.Filling.{length-made, length-image, get_volume, get_journal}

few_bits : (wide : Bool) → (if wide then 3 else 1) < 2 ^ 32
few_bits true = omega arith
few_bits false = omega arith

known_bits : (wide : Bool) → (unknown_bits (if wide then 3 else 1) == 0) ≡ true
known_bits true = refl
known_bits false = refl

-- its kind is the one that was asked for
pub made_kind : (journal : ℕ) (wide : Bool) → is_wide (new_journal journal wide) ≡ wide
made_kind journal true = refl
made_kind journal false = refl

pub sound_journal : (journal : ℕ) (wide : Bool) → 1 < journal → journal < 2 ^ 32 → IsJournal (new_journal journal wide)
sound_journal journal wide some few = record {
  fits = record { maxlen = few; first = omega arith; sequence = omega arith; start = omega arith; incompat = few_bits wide };
  known = known_bits wide;
  places = rw (lt-ltb 1 journal some) refl;
}

module _ (g : Geometry) (journal : ℕ) (wide : Bool) (sound : IsSound g) (low : 1 < journal) (high : journal < 2 ^ 32) where
  abbrev image : List (List ℕ)
  image = made_image g journal wide

  long : length image ≡ g.zones + journal
  long = length-image g journal wide (omega (arith, low))

  within : g.zones < length image
  within = let size = long in omega (arith, size, low)

  more : 1 < g.zones
  more = let a = sound.some_zone in let b = sound.tables_below in omega (arith, a, b)

  read : journal_super_of (disk_of image g.zones) ≡ Ok (new_journal journal wide)
  read = ap journal_super_of (body_at-some image g.zones (journal_super (new_journal journal wide)) (get_journal g journal wide)) ∙ journal_read (new_journal journal wide) (sound_journal journal wide low high)

  found : is_journal (disk_of image g.zones) ≡ true
  found = is_super (disk_of image g.zones) (new_journal journal wide) read

  no_fault : journal_fault g.zones image ≡ None
  no_fault =
      let size = long in
      fault-log g.zones image (new_journal journal wide) None read (omega (arith, size)) (fault-empty g.zones (new_journal journal wide) image refl)

  pub image_fine : fault_in_journal g.zones image ≡ None
  image_fine = found_fine g.zones image within found no_fault

  stays : recovered_from g.zones image ≡ image
  stays = found_recovered g.zones image within found ∙ recovered-empty g.zones image (new_journal journal wide) read refl

  pub image_journal : journal_at g.zones image ≡ Some (new_journal journal wide)
  image_journal =
      ap (λ (b : Bool). if b then read_or_none (journal_super_of (disk_of image g.zones)) else None) (has_super g.zones image within found)
      ∙ ap read_or_none read

  -- the feature bits are those of revoke blocks, and of wide tags where it has these
  pub image_features : number_at big 4 0x28 (disk_of image g.zones) ≡ (if wide then 3 else 1)
  image_features = ap (λ (s : JournalSuper). s.incompat) (read_parts (disk_of image g.zones) (new_journal journal wide) read).3

  first : disk_of image 1 ≡ volume_super g
  first = body_at-some image 1 (made_block g 1) (get_volume g journal wide 1 more) ∙ made_super g sound

  pub image_divided : divided image ≡ Ok g
  unfolding divided
  image_divided =
      let size = long in
      rw (le-ltb (length image) 2 (omega (arith, size, low, more)), ap super_of first ∙ volume_read g sound, le-ltb (length image) g.zones (omega (arith, size))) refl

  pub image_stays : recovered_image image ≡ image
  image_stays = ap (recovered_by image) image_divided ∙ stays

  pub image_volume : volume_in g image ≡ made_volume g
  image_volume = ap (take g.zones) stays ∙ take_at (made_volume g) (journal_super (new_journal journal wide) ∷ replicate (journal - 1) (filled 0)) g.zones (length-made g)
