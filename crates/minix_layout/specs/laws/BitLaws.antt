-- What is read of a bit that was written.
use Rattle.std.specs.Prelude.{◌≡◌, ◌≢◌, ℕ, zero, suc, ◌-◌, ◌*◌, ◌/◌, ◌%◌, ◌^◌, ◌<◌, ◌≤◌, ◌==◌, bit_or, bit_and, Bool, true, false, List, length, slice_index, slice_index_or, refl}
use Rattle.std.specs.Int.{bit_at}
use Rattle.std.proofs.Common.{sym, ap, ◌∙◌, inl, inr, arith, w8}
use Rattle.std.proofs.Math.Path.{ap₂}
use Rattle.std.proofs.lemmas.Bool.{cases_eq}
use Rattle.std.proofs.lemmas.List.{get_or-set_same, get_or-set_other}
use Rattle.std.proofs.lemmas.Nat.Bits.{bit_at_set_same, bit_at_set_other, bit_at_clear_same, bit_at_clear_other}
use Rattle.blk_base.specs.Block.{filled}
use Rattle.minix_layout.specs.declared.division.Geometry.{Geometry}
use Rattle.minix_layout.specs.declared.bits.BitPlace.{BitPlace}
use Rattle.minix_layout.specs.Geometry.{IsSound}
use Rattle.minix_layout.specs.Bits.{bit_of, byte_with, put_bit, inode_bit, zone_bit, has_bit, with_bit}

-- one of the eight bits of a byte, as a shift computes it
power : (k : ℕ) → k < 8 → 1 * 2 ^ k % 2 ^ 8 ≡ 2 ^ k
power zero low = refl
power (suc zero) low = refl
power (suc (suc zero)) low = refl
power (suc (suc (suc zero))) low = refl
power (suc (suc (suc (suc zero)))) low = refl
power (suc (suc (suc (suc (suc zero))))) low = refl
power (suc (suc (suc (suc (suc (suc zero)))))) low = refl
power (suc (suc (suc (suc (suc (suc (suc zero))))))) low = refl
power (suc (suc (suc (suc (suc (suc (suc (suc k)))))))) low = absurd (omega arith)

byte_read : (byte k : ℕ) (value : Bool) → k < 8 → (bit_at (byte_with byte k value) k == 1) ≡ value
byte_read byte k true low = ap (λ p. bit_at (bit_or byte p) k == 1) (sym (power k low)) ∙ rw (bit_at_set_same w8 byte k low) refl
byte_read byte k false low = ap (λ p. bit_at (bit_and byte (255 - p)) k == 1) (sym (power k low)) ∙ rw (bit_at_clear_same w8 byte k low) refl

byte_other : (byte k other : ℕ) (value : Bool) → k < 8 → other < 8 → k ≢ other → bit_at (byte_with byte k value) other ≡ bit_at byte other
byte_other byte k other true low small apart = ap (λ p. bit_at (bit_or byte p) other) (sym (power k low)) ∙ bit_at_set_other w8 byte k low other (λ e. apart (sym e))
byte_other byte k other false low small apart = ap (λ p. bit_at (bit_and byte (255 - p)) other) (sym (power k low)) ∙ bit_at_clear_other w8 byte k low other small (λ e. apart (sym e))

-- a bit that was written to a block is read there
pub bit_read_back : (b : List ℕ) (at : ℕ) (value : Bool) → length b ≡ 1024 → at < 8192 → bit_of (put_bit b at value) at ≡ value
bit_read_back b at value size within =
    ap (λ byte. bit_at byte (at % 8) == 1) (get_or-set_same b (at / 8) _ 0 (omega arith))
    ∙ byte_read (slice_index b (at / 8)) (at % 8) value (omega arith)

-- another bit of the block is read as before
pub other_bit : (b : List ℕ) (at other : ℕ) (value : Bool) → length b ≡ 1024 → at < 8192 → at ≢ other → bit_of (put_bit b at value) other ≡ bit_of b other
other_bit b at other value size within apart =
    elim (cases_eq (other / 8) (at / 8)) [
      | inl same ↦
          ap (λ k. bit_at (slice_index (put_bit b at value) k) (other % 8) == 1) same
          ∙ ap (λ byte. bit_at byte (other % 8) == 1) (get_or-set_same b (at / 8) _ 0 (omega arith))
          ∙ ap (λ bit. bit == 1) (byte_other (slice_index b (at / 8)) (at % 8) (other % 8) value (omega arith) (omega arith) (λ e. apart (omega arith)))
          ∙ ap (λ k. bit_at (slice_index b k) (other % 8) == 1) (sym same)
      | inr differ ↦ ap (λ byte. bit_at byte (other % 8) == 1) (get_or-set_other b (at / 8) (other / 8) _ 0 differ)
    ]

-- another byte is as it was
pub byte_beside_bit : (b : List ℕ) (at k : ℕ) (value : Bool) → k ≢ at / 8 → slice_index (put_bit b at value) k ≡ slice_index b k
byte_beside_bit b at k value apart = get_or-set_other b (at / 8) k _ 0 apart

-- a bit of a map that was written is read there
pub place_read_back : (blocks : List (List ℕ)) (p : BitPlace) (value : Bool) → p.block < length blocks →
    length (slice_index_or blocks p.block (filled 0)) ≡ 1024 → p.at < 8192 → has_bit (with_bit blocks p value) p ≡ value
place_read_back blocks p value inside size within =
    ap (λ body. bit_of body p.at) (get_or-set_same blocks p.block _ (filled 0) inside)
    ∙ bit_read_back (slice_index_or blocks p.block (filled 0)) p.at value size within

same_place : (p q : BitPlace) → p.block ≡ q.block → p.at ≡ q.at → p ≡ q
same_place p q block at = ap₂ (λ b a. let made : BitPlace = record { block = b; at = a } in made) block at

-- any other bit is read as before, be it in this block or in another one
pub other_place : (blocks : List (List ℕ)) (p q : BitPlace) (value : Bool) → p.block < length blocks →
    length (slice_index_or blocks p.block (filled 0)) ≡ 1024 → p.at < 8192 → p ≢ q → has_bit (with_bit blocks p value) q ≡ has_bit blocks q
other_place blocks p q value inside size within apart =
    elim (cases_eq q.block p.block) [
      | inl same ↦
          ap (λ b. bit_of (slice_index_or (with_bit blocks p value) b (filled 0)) q.at) same
          ∙ ap (λ body. bit_of body q.at) (get_or-set_same blocks p.block _ (filled 0) inside)
          ∙ other_bit (slice_index_or blocks p.block (filled 0)) p.at q.at value size within
          (λ e. apart (same_place p q (sym same) e))
          ∙ ap (λ b. bit_of (slice_index_or blocks b (filled 0)) q.at) (sym same)
      | inr differ ↦ ap (λ body. bit_of body q.at) (get_or-set_other blocks p.block q.block _ (filled 0) differ)
    ]

block_is : (p q : BitPlace) → p ≡ q → p.block ≡ q.block
block_is p q e = ap (λ (x : BitPlace). x.block) e

at_is : (p q : BitPlace) → p ≡ q → p.at ≡ q.at
at_is p q e = ap (λ (x : BitPlace). x.at) e

-- two inodes have two bits
pub inode_bits_apart : (g : Geometry) (n m : ℕ) → inode_bit g n ≡ inode_bit g m → n ≡ m
inode_bits_apart g n m e =
    let block = block_is (inode_bit g n) (inode_bit g m) e in
    let at = at_is (inode_bit g n) (inode_bit g m) e in
    omega arith

-- two zones of data have two bits
pub zone_bits_apart : (g : Geometry) (z w : ℕ) → g.first ≤ z → g.first ≤ w → zone_bit g z ≡ zone_bit g w → z ≡ w
zone_bits_apart g z w low more e =
    let block = block_is (zone_bit g z) (zone_bit g w) e in
    let at = at_is (zone_bit g z) (zone_bit g w) e in
    omega arith

-- an inode's bit is no zone's
pub maps_apart : (g : Geometry) (n z : ℕ) → IsSound g → n ≤ g.inodes → inode_bit g n ≢ zone_bit g z
maps_apart g n z sound within e =
    let block = block_is (inode_bit g n) (zone_bit g z) e in
    let bits = sound.inode_bits in
    omega arith
