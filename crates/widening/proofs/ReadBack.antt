-- A directory is read back from the zones that were written: its zones, and its slots.
use Rattle.std.specs.Prelude.{◌≡◌, ◌≢◌, ℕ, zero, suc, ◌+◌, ◌-◌, ◌*◌, ◌/◌, ◌%◌, ◌^◌, ◌<◌, ◌≤◌, ◌⊎◌, ◌==◌, nat_lt, Bool, true, false, if◌then◌else◌, List, [], ◌∷◌, ◌++◌, map, length, take, drop, replicate, slice_index, Some, None, Ok, refl}
use Rattle.std.specs.List.{slice_get, range_with_len}
use Rattle.std.proofs.Common.{sym, ap, subst, ◌∙◌, inl, inr, ⊎_elim, arith}
use Rattle.std.proofs.lemmas.Bool.{cases_lt, ne_eqb}
use Rattle.std.proofs.lemmas.List.{length-take, length-drop, drop-replicate}
use Rattle.blk_base.specs.Members.{In}
use Rattle.blk_base.specs.Block.{filled}
use Rattle.blk_base.specs.laws.Members.{slice_get-take, slice_get-length, In-take}
use Rattle.byte_fields.specs.Fields.{number_at, number_of, record_at}
use Rattle.byte_fields.specs.Fields.Order.{little}
use Rattle.minix_layout.specs.declared.division.Geometry.{Geometry}
use Rattle.minix_layout.specs.declared.inode.Inode.{Inode}
use Rattle.minix_layout.specs.declared.slot.Slot.{Slot}
use Rattle.minix_layout.specs.Slots.{slot_of, IsEntry}
use Rattle.minix_tables.specs.inodes.laws.MapLaws.{zone_at-direct, zone_at-indirect, zone_at-no_indirect, zone_at-no_double, zone_at-past}
use Rattle.volume_ops.specs.Places.{zone_number}
use Rattle.volume_ops.specs.Volume.{disk_of}
use Rattle.volume_ops.specs.VolumeFields.{zone_behind, slot_behind}
use Rattle.volume_ops.specs.ZonePlaces.{ZonePlace, block, indirect, double, inner, zone_in}
use Rattle.widening.specs.Written.{put_slots, put_numbers}
use Rattle.widening.specs.Directories.{wide_inode}
use Rattle.widening.specs.Widened.{wide}
use Rattle.widening.proofs.ZoneLists.{AreApart, one_index, index_in, index_past, index_drop}
use Rattle.widening.proofs.ReadBodies.{slot_there, number_there, number_behind}

-- ---- parts of lists

pub get_drop : {X : Type 0} (n : ℕ) (xs : List X) (k : ℕ) → slice_get (drop n xs) k ≡ slice_get xs (n + k)
get_drop zero xs k = let e : k ≡ 0 + k = omega arith in ap (slice_get xs) e
get_drop (suc n) [] k = refl
get_drop (suc n) (x ∷ xs) k = let e : suc (n + k) ≡ suc n + k = omega arith in get_drop n xs k ∙ ap (slice_get (x ∷ xs)) e

pub In-dropped : {X : Type 0} (n : ℕ) (xs : List X) (x : X) → In x (drop n xs) → In x xs
In-dropped zero xs x i = i
In-dropped (suc n) [] x i = absurd i
In-dropped (suc n) (y ∷ xs) x i = inr (In-dropped n xs x i)

-- ---- numbers of zeros

two_zeros : (n m : ℕ) → n ≡ suc (suc m) → number_of little 2 (replicate n 0) ≡ 0
unfolding number_of
two_zeros n m e = ap (λ k. number_of little 2 (replicate k 0)) e

no_number : (at : ℕ) → at < 512 → zone_number (filled 0) at ≡ 0
unfolding number_at number_of filled
no_number at low = ap (number_of little 2) (drop-replicate (2 * at) 1024 0) ∙ two_zeros (1024 - 2 * at) (1022 - 2 * at) (omega (arith, low))

pub length-filled : length (filled 0) ≡ 1024
unfolding filled
length-filled = refl

-- ---- the nine numbers of the inode

pub direct_index : (zones rest : List ℕ) (k : ℕ) → k < 7 → slice_index (map (slice_index zones) (range_with_len 0 7) ++ rest) k ≡ slice_index zones k
direct_index zones rest zero low = refl
direct_index zones rest (suc zero) low = refl
direct_index zones rest (suc (suc zero)) low = refl
direct_index zones rest (suc (suc (suc zero))) low = refl
direct_index zones rest (suc (suc (suc (suc zero)))) low = refl
direct_index zones rest (suc (suc (suc (suc (suc zero))))) low = refl
direct_index zones rest (suc (suc (suc (suc (suc (suc zero)))))) low = refl
direct_index zones rest (suc (suc (suc (suc (suc (suc (suc k))))))) low = absurd (omega (arith, low))

module _ (g : Geometry) (after : List (List ℕ)) (old : Inode) (entries : List Slot) (zones : List ℕ) (top : ℕ)
    (apart : AreApart zones) (some : (z : ℕ) → In z zones → z ≢ 0) (small : (z : ℕ) → In z zones → z < 2 ^ 16) (few : length zones ≤ 519)
    (no_top : length zones ≤ 7 → top ≡ 0) (has_top : 7 < length zones → (top ≢ 0) × (In top zones → ⊥))
    (bodies : (j : ℕ) → j < length zones → disk_of after (slice_index zones j) ≡ put_slots 0 (take 32 (drop (32 * j) entries)) (filled 0))
    (numbers : 7 < length zones → disk_of after top ≡ put_numbers 0 (drop 7 zones) (filled 0)) where
  abbrev new : Inode
  new = wide_inode old (length entries) zones top

  abbrev read : ℕ → ℕ → ℕ
  read = λ zone at. zone_number (disk_of after zone) at

  -- ---- its zones

  number_read : 7 < length zones → (k : ℕ) → k < 512 → zone_number (disk_of after top) k ≡ slice_index zones (7 + k)
  number_read many k low =
      let rest = length-drop 7 zones in
      ap (λ body. zone_number body k) (numbers many)
      ∙ ⊎_elim
      (λ below.
      let e : k ≡ 0 + k = omega arith in
      ap (λ j. zone_number (put_numbers 0 (drop 7 zones) (filled 0)) j) e ∙ (number_there 0 (drop 7 zones) (filled 0) (omega (arith, rest, few)) length-filled (λ z y. small z (In-dropped 7 zones z y)) k below ∙ index_drop 7 zones k))
      (λ past. number_behind 0 (drop 7 zones) (filled 0) (omega (arith, rest, few)) length-filled k (omega (arith, past)) low ∙ (no_number k low ∙ sym (index_past zones (7 + k) (omega (arith, rest, past)))))
      (cases_lt k (length (drop 7 zones)))

  middle : (k : ℕ) → 7 ≤ k → k < 519 → zone_behind after new k ≡ slice_index zones k
  middle k high low =
      ⊎_elim
      (λ many.
      let t = has_top many in
      let e : 7 + (k - 7) ≡ k = omega (arith, high) in
      subst (λ n. zone_behind after new n ≡ slice_index zones n) e
      (zone_at-indirect read new.zones (k - 7) t.0 (omega (arith, low, high)) ∙ number_read many (k - 7) (omega (arith, low, high))))
      (λ least. zone_at-no_indirect read new.zones k (no_top least) high (omega (arith, low)) ∙ sym (index_past zones k (omega (arith, least, high))))
      (cases_lt 7 (length zones))

  last : (k : ℕ) → 519 ≤ k → zone_behind after new k ≡ 0
  last k high =
      ⊎_elim
      (λ below.
      let e : 519 + 512 * ((k - 519) / 512) + (k - 519) % 512 ≡ k = omega (arith, high) in
      subst (λ n. zone_behind after new n ≡ 0) e (zone_at-no_double read new.zones ((k - 519) / 512) ((k - 519) % 512) refl (omega (arith, below, high)) (omega arith)))
      (λ past. zone_at-past read new.zones k past)
      (cases_lt k 262663)

  -- block k stands in zone k
  pub zone_is : (k : ℕ) → zone_behind after new k ≡ slice_index zones k
  zone_is k =
      ⊎_elim
      (λ low. zone_at-direct read new.zones k low ∙ direct_index zones (top ∷ 0 ∷ []) k low)
      (λ seven.
      ⊎_elim (λ low. middle k seven low) (λ high. last k high ∙ sym (index_past zones k (omega (arith, few, high)))) (cases_lt k 519))
      (cases_lt k 7)

  no_inner : (t : Bool) (k : ℕ) → ◌≡◌ {A = ℕ} (if t then 0 else 0) 0
  no_inner true k = refl
  no_inner false k = refl

  within : (k : ℕ) → zone_in after new (block k) ≢ 0 → k < length zones
  within k there = ⊎_elim (λ low. low) (λ past. absurd (there (zone_is k ∙ index_past zones k past))) (cases_lt k (length zones))

  has_numbers : top ≢ 0 → 7 < length zones
  has_numbers there = ⊎_elim (λ many. many) (λ least. absurd (there (no_top least))) (cases_lt 7 (length zones))

  -- each is one of these zones, or the indirect one
  pub zone_among : (x : ZonePlace) → zone_in after new x ≢ 0 → In (zone_in after new x) zones ⊎ ((zone_in after new x ≡ top) × (7 < length zones))
  zone_among (block k) there = inl (subst (λ z. In z zones) (sym (zone_is k)) (index_in zones k (within k there)))
  zone_among indirect there = inr (refl, has_numbers there)
  zone_among double there = absurd (there refl)
  zone_among (inner k) there = absurd (there (no_inner (nat_lt k 512) k))

  top_apart : (k : ℕ) → zone_in after new (block k) ≢ 0 → zone_in after new (block k) ≡ top → ⊥
  top_apart k there same =
      let t = has_top (has_numbers (λ none. there (same ∙ none))) in
      t.1 (subst (λ z. In z zones) (sym (zone_is k) ∙ same) (index_in zones k (within k there)))

  pub zone_once : (x y : ZonePlace) → zone_in after new x ≢ 0 → zone_in after new x ≡ zone_in after new y → x ≡ y
  zone_once (block j) (block k) there same =
      ap block (one_index zones j k apart (within j there) (within k (λ none. there (same ∙ none))) (sym (zone_is j) ∙ (same ∙ zone_is k)))
  zone_once (block j) indirect there same = absurd (top_apart j there same)
  zone_once (block j) double there same = absurd (there same)
  zone_once (block j) (inner k) there same = absurd (there (same ∙ no_inner (nat_lt k 512) k))
  zone_once indirect (block k) there same = absurd (top_apart k (λ none. there (same ∙ none)) (sym same))
  zone_once indirect indirect there same = refl
  zone_once indirect double there same = absurd (there same)
  zone_once indirect (inner k) there same = absurd (there (same ∙ no_inner (nat_lt k 512) k))
  zone_once double y there same = absurd (there refl)
  zone_once (inner k) y there same = absurd (there (no_inner (nat_lt k 512) k))

  -- ---- its slots

  module _ (each : (s : Slot) → In s entries → IsEntry 30 s) (enough : length entries ≤ 32 * length zones) where
    pub slot_read : (k : ℕ) (s : Slot) → slice_get entries k ≡ Some s → slot_behind (wide g) after new k ≡ Ok (Some s)
    slot_read k s got =
        let low = slice_get-length entries k s got in
        let zone : k / 32 < length zones = omega (arith, low, enough) in
        let is = zone_is (k / 32) in
        let there : slice_index zones (k / 32) ≢ 0 = some (slice_index zones (k / 32)) (index_in zones (k / 32) zone) in
        let part = length-take 32 (drop (32 * (k / 32)) entries) in
        let at : slice_get (take 32 (drop (32 * (k / 32)) entries)) (k % 32) ≡ Some s =
        slice_get-take 32 (drop (32 * (k / 32)) entries) (k % 32) (omega arith) ∙ (get_drop (32 * (k / 32)) entries (k % 32) ∙ ((let e : 32 * (k / 32) + k % 32 ≡ k = omega arith in ap (slice_get entries) e) ∙ got)) in
        let slot : slot_of 30 (record_at 32 (k % 32) (disk_of after (slice_index zones (k / 32)))) ≡ Ok (Some s) =
        ap (λ body. slot_of 30 (record_at 32 (k % 32) body)) (bodies (k / 32) zone)
        ∙ ((let e : k % 32 ≡ 0 + k % 32 = omega arith in ap (λ j. slot_of 30 (record_at 32 j (put_slots 0 (take 32 (drop (32 * (k / 32)) entries)) (filled 0)))) e)
        ∙ slot_there 0 (take 32 (drop (32 * (k / 32)) entries)) (filled 0) (omega (arith, part)) (λ t y. each t (In-dropped (32 * (k / 32)) entries t (In-take 32 (drop (32 * (k / 32)) entries) t y))) length-filled (k % 32) s at) in
        ap (λ z. if z == 0 then Ok None else slot_of 30 (record_at 32 (k % 32) (disk_of after z))) is
        ∙ (ap (λ b. if b then Ok None else slot_of 30 (record_at 32 (k % 32) (disk_of after (slice_index zones (k / 32))))) (ne_eqb (slice_index zones (k / 32)) 0 there) ∙ slot)
