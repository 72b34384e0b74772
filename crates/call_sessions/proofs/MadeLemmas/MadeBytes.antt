-- The blocks of a volume that was made have bytes.
use Rattle.std.specs.Prelude.{◌≡◌, ◌<◌, ◌≤◌, ◌+◌, ◌-◌, ◌*◌, ◌^◌, ◌==◌, ◌&&◌, ℕ, zero, suc, min, nat_lt, nat_le, Bool, true, false, if◌then◌else◌, List, map, slice_index_or, refl}
use Rattle.std.specs.List.{range_with_len}
use Rattle.std.proofs.Common.{subst, arith, eqb-true}
use Rattle.std.proofs.lemmas.Nat.{one_shl}
use Rattle.blk_base.specs.Block.{filled}
use Rattle.byte_fields.specs.Fields.{zeros}
use Rattle.minix_layout.specs.declared.division.Geometry.{Geometry}
use Rattle.minix_layout.specs.Geometry.{IsSound}
use Rattle.minix_layout.specs.Super.{super_fields, super_block}
use Rattle.volume_ops.specs.Volume.{disk_of}
use Rattle.volume_model.specs.NewVolume.{new_blocks}
use Rattle.mount_make.specs.Made.{map_byte, map_block, made_block, made_volume}
use Rattle.mount_make.proofs.MapBytes.{power, powers}
use Rattle.minix_host.specs.Volumes.{AreBytes, HaveBytes}
use Rattle.minix_host.proofs.BytesKept.{none_bytes, cons_bytes, filled_block, zero_bytes, fields_bytes, new_bytes}

-- ---- the maps

-- a power of two up to the eighth
power_is : (f : ℕ) → f ≤ 8 → power f ≡ 2 ^ f
power_is f most = one_shl f 32 (omega arith)

byte_by : (p first : ℕ) → 1 ≤ p → (1 ≤ first → 4 ≤ p) → first ≤ 3 → 256 - p + first < 256
byte_by p zero some more few = omega arith
byte_by p (suc first) some more few = (let four = more (omega arith) in omega arith)

min_most : (a : ℕ) → min a 8 ≤ 8
min_most a = grind arith

min_two : (a : ℕ) → 2 ≤ a → 2 ≤ min a 8
min_two a two = grind arith

map_byte_low : (last n : ℕ) → 1 ≤ last → map_byte last n < 256
map_byte_low last n some = by (n == 0) refl
  where
    f : ℕ
    f = min (last + 1 - n) 8

    by : (t : Bool) → (n == 0) ≡ t → 256 - 2 ^ min (last + 1 - n) 8 + (if t then 3 else 0) < 256
    by true t =
        let none = eqb-true n 0 t in
        let p = powers (min (last + 1 - n) 8) (min_most (last + 1 - n)) in
        let same = power_is (min (last + 1 - n) 8) (min_most (last + 1 - n)) in
        byte_by (2 ^ min (last + 1 - n) 8) 3 (subst (λ q. 1 ≤ q) same p.0) (λ first. subst (λ q. 4 ≤ q) same (p.1 (min_two (last + 1 - n) (omega arith)))) (omega arith)
    by false t =
        let p = powers (min (last + 1 - n) 8) (min_most (last + 1 - n)) in
        let same = power_is (min (last + 1 - n) 8) (min_most (last + 1 - n)) in
        byte_by (2 ^ min (last + 1 - n) 8) 0 (subst (λ q. 1 ≤ q) same p.0) (λ first. absurd (omega arith)) (omega arith)

mapped_bytes : (f : ℕ → ℕ) (n a : ℕ) → ((k : ℕ) → f k < 256) → AreBytes (map f (range_with_len a n))
mapped_bytes f zero a h = none_bytes
mapped_bytes f (suc n) a h = cons_bytes (f a) (map f (range_with_len (a + 1) n)) (h a) (mapped_bytes f n (a + 1) h)

map_bytes : (last n : ℕ) → 1 ≤ last → AreBytes (map_block last n)
unfolding map_block
map_bytes last n some = mapped_bytes (λ k. map_byte last (n + 8 * k)) 1024 0 (λ k. map_byte_low last (n + 8 * k) some)

-- ---- all blocks

super_bytes : (g : Geometry) → AreBytes (super_block g)
unfolding super_block
super_bytes g = fields_bytes (super_fields g) (zeros 1024) (zero_bytes 1024)

one_of_four : (a b c : Bool) (w x y z : List ℕ) → AreBytes w → AreBytes x → AreBytes y → AreBytes z → AreBytes (if a then w else if b then x else if c then y else z)
one_of_four true b c w x y z h i j k = h
one_of_four false true c w x y z h i j k = i
one_of_four false false true w x y z h i j k = j
one_of_four false false false w x y z h i j k = k

each_block : (f : ℕ → List ℕ) (n a c : ℕ) → ((b : ℕ) → AreBytes (f b)) → AreBytes (slice_index_or (map f (range_with_len a n)) c (filled 0))
each_block f zero a c h = filled_block
each_block f (suc n) a zero h = h a
each_block f (suc n) a (suc c) h = each_block f n (a + 1) c h

module _ (g : Geometry) (sound : IsSound g) where
  block_bytes : (b : ℕ) → AreBytes (made_block g b)
  unfolding made_block
  block_bytes b =
      one_of_four (b == 1) (nat_le 2 b && nat_lt b (2 + g.imap)) (nat_le (2 + g.imap) b && nat_lt b (2 + g.imap + g.zmap))
      (super_block g) (map_block g.inodes (8192 * (b - 2))) (map_block (g.zones - g.first) (8192 * (b - (2 + g.imap)))) (disk_of (new_blocks g) b)
      (super_bytes g) (map_bytes g.inodes (8192 * (b - 2)) (let some = sound.some_inode in omega arith))
      (map_bytes (g.zones - g.first) (8192 * (b - (2 + g.imap))) (let some = sound.some_zone in omega arith)) (new_bytes g b)

  pub made_bytes : HaveBytes (made_volume g)
  unfolding made_volume
  made_bytes b = each_block (made_block g) g.zones 0 b block_bytes
