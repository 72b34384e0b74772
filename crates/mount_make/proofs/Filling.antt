-- Images that are filled block by block.
use Rattle.std.specs.Prelude.{◌≡◌, ℕ, Bool, suc, ◌+◌, ◌-◌, ◌<◌, ◌≤◌, List, ◌∷◌, map, replicate, length, slice_get, slice_set, Some}
use Rattle.std.specs.List.{range_with_len}
use Rattle.std.proofs.Common.{sym, ap, subst, ◌∙◌, ⊎_elim, arith, length-set, length-append}
use Rattle.std.proofs.lemmas.Bool.{cases_order}
use Rattle.std.proofs.lemmas.List.{length-replicate}
use Rattle.std.proofs.lemmas.List.FromFn.{get_or-map-range_with_len, length-map-range_with_len}
use Rattle.blk_base.specs.Block.{filled}
use Rattle.blk_base.specs.Image.{zeros}
use Rattle.blk_base.specs.laws.Members.{slice_get-in_range, slice_get-set_same, slice_get-set_other, slice_get-append_left, slice_get-append_right, slice_get-replicate, same_by_slice_get}
use Rattle.minix_layout.specs.declared.division.Geometry.{Geometry}
use Rattle.minix_layout.specs.Geometry.{IsSound}
use Rattle.journal_blocks.specs.Super.{super_block as journal_super}
use Rattle.journal_replay.specs.laws.Attempts.{body_at-some}
use Rattle.mount_make.specs.Made.{new_journal, made_block, made_volume, made_image}
use Rattle.mount_make.specs.code.Making.{IsFilled}
use Rattle.mount_make.proofs.NewBlocks.{made_other}

get_mapped : (f : ℕ → List ℕ) (n i : ℕ) → i < n → slice_get (map f (range_with_len 0 n)) i ≡ Some (f i)
get_mapped f n i low =
    let size = length-map-range_with_len f 0 n in
    let x = slice_get-in_range (map f (range_with_len 0 n)) i (omega (arith, size, low)) in
    x.1 ∙ ap Some (sym (body_at-some (map f (range_with_len 0 n)) i x.0 x.1) ∙ get_or-map-range_with_len f 0 n i i (filled 0) low (omega arith))

pub length-made : (g : Geometry) → length (made_volume g) ≡ g.zones
unfolding made_volume
length-made g = length-map-range_with_len (made_block g) 0 g.zones

pub get_made : (g : Geometry) (b : ℕ) → b < g.zones → slice_get (made_volume g) b ≡ Some (made_block g b)
unfolding made_volume
get_made g b low = get_mapped (made_block g) g.zones b low

pub length-image : (g : Geometry) (journal : ℕ) (wide : Bool) → 0 < journal → length (made_image g journal wide) ≡ g.zones + journal
length-image g journal wide some =
    let size = length-made g in
    let rest = length-replicate (journal - 1) (filled 0) in
    let all = length-append (made_volume g) (journal_super (new_journal journal wide) ∷ replicate (journal - 1) (filled 0)) in
    omega (arith, size, rest, all, some)

-- the blocks of the volume, and then the superblock of the journal
pub get_volume : (g : Geometry) (journal : ℕ) (wide : Bool) (b : ℕ) → b < g.zones → slice_get (made_image g journal wide) b ≡ Some (made_block g b)
get_volume g journal wide b low =
    let size = length-made g in
    slice_get-append_left (made_volume g) (journal_super (new_journal journal wide) ∷ replicate (journal - 1) (filled 0)) b (omega (arith, size, low)) ∙ get_made g b low

pub get_journal : (g : Geometry) (journal : ℕ) (wide : Bool) → slice_get (made_image g journal wide) g.zones ≡ Some (journal_super (new_journal journal wide))
get_journal g journal wide =
    let size = length-made g in
    let rest = journal_super (new_journal journal wide) ∷ replicate (journal - 1) (filled 0) in
    let here : g.zones - length (made_volume g) ≡ 0 = omega (arith, size) in
    slice_get-append_right (made_volume g) rest g.zones (omega (arith, size)) ∙ ap (λ (k : ℕ). slice_get rest k) here

get_blank : (g : Geometry) (journal : ℕ) (wide : Bool) (b : ℕ) → g.zones < b → b < g.zones + journal → slice_get (made_image g journal wide) b ≡ Some (filled 0)
get_blank g journal wide b low high =
    let size = length-made g in
    let rest = journal_super (new_journal journal wide) ∷ replicate (journal - 1) (filled 0) in
    let k = b - (g.zones + 1) in
    let here : b - length (made_volume g) ≡ suc k = omega (arith, size, low) in
    slice_get-append_right (made_volume g) rest b (omega (arith, size, low)) ∙ (ap (λ (k : ℕ). slice_get rest k) here ∙ slice_get-replicate (journal - 1) k (filled 0) (omega (arith, low, high)))

-- behind the root's zone all are zeros
pub filled_on : (g : Geometry) → IsSound g → (n : ℕ) (image : List (List ℕ)) → g.zones ≤ n → IsFilled (made_block g) (g.first + 1) (zeros n) image → IsFilled (made_block g) g.zones (zeros n) image
filled_on g sound n image room is =
    let some = sound.some_zone in
    let tables = sound.tables_below in
    record {
      size = is.size;
      filled = λ b low.
          ⊎_elim
          (λ here. is.filled b (omega (arith, here)))
          (λ apart.
          ⊎_elim
          (λ less. is.filled b (omega (arith, less)))
          (λ more.
          is.others b (omega (arith, more)) ∙ (slice_get-replicate n b (filled 0) (omega (arith, low, room))
          ∙ ap Some (sym (made_other g sound b (omega (arith, more, tables)) (λ e. omega (arith, more, tables, e)) (λ e. omega (arith, more, e))))))
          apart)
          (cases_order b g.first);
      others = λ b high. is.others b (omega (arith, high, some));
    }

pub made_is : (g : Geometry) (journal : ℕ) (wide : Bool) (image : List (List ℕ)) → 0 < journal → IsFilled (made_block g) g.zones (zeros (g.zones + journal)) image → slice_set image g.zones (journal_super (new_journal journal wide)) ≡ made_image g journal wide
made_is g journal wide image some is =
    let first = journal_super (new_journal journal wide) in
    let long : length image ≡ g.zones + journal = is.size ∙ length-replicate (g.zones + journal) (filled 0) in
    let size = length-set image g.zones first in
    same_by_slice_get (slice_set image g.zones first) (made_image g journal wide) (size ∙ (long ∙ sym (length-image g journal wide some)))
    (λ b low.
    ⊎_elim
    (λ here. subst (λ (k : ℕ). slice_get (slice_set image g.zones first) k ≡ slice_get (made_image g journal wide) k) (sym here) (slice_get-set_same image g.zones first (omega (arith, long, some)) ∙ sym (get_journal g journal wide)))
    (λ apart.
    ⊎_elim
    (λ less. slice_get-set_other image g.zones b first (λ e. omega (arith, less, e)) ∙ (is.filled b less ∙ sym (get_volume g journal wide b less)))
    (λ more.
    slice_get-set_other image g.zones b first (λ e. omega (arith, more, e)) ∙ (is.others b (omega (arith, more))
    ∙ (slice_get-replicate (g.zones + journal) b (filled 0) (omega (arith, low, size, long)) ∙ sym (get_blank g journal wide b more (omega (arith, low, size, long))))))
    apart)
    (cases_order b g.zones))
