-- The numbers of an inode that was read fit its fields.
use Rattle.std.specs.Prelude.{◌≡◌, ℕ, zero, suc, ◌+◌, ◌*◌, ◌^◌, ◌<◌, ◌≤◌, nat_lt, List, [], ◌∷◌, length, take, drop, slice_index, refl}
use Rattle.std.proofs.Common.{sym, subst, inl, inr, arith}
use Rattle.std.proofs.lemmas.Bool.{cases_Bool, ltb-true, ltb-false}
use Rattle.std.proofs.lemmas.List.FromFn.{length-map-range_with_len, get_or-map-range_with_len}
use Rattle.byteorder.specs.Numbers.{little_from-lt}
use Rattle.byte_fields.specs.Fields.{number_at, number_of, bytes_at, record_at}
use Rattle.byte_fields.specs.Fields.Order.{little}
use Rattle.minix_layout.specs.Inodes.{inode_of, zone_of, zones_of, FitInode}

abbrev pub AreBytes : List ℕ → Type 0
AreBytes xs = (k : ℕ) → slice_index xs k < 256

bytes_drop : (n : ℕ) (xs : List ℕ) → AreBytes xs → AreBytes (drop n xs)
bytes_drop zero xs h = h
bytes_drop (suc n) [] h = h
bytes_drop (suc n) (x ∷ xs) h = bytes_drop n xs (λ k. h (suc k))

bytes_take : (n : ℕ) (xs : List ℕ) → AreBytes xs → AreBytes (take n xs)
bytes_take zero xs h k = omega arith
bytes_take (suc n) [] h k = h k
bytes_take (suc n) (x ∷ xs) h zero = h 0
bytes_take (suc n) (x ∷ xs) h (suc k) = bytes_take n xs (λ k. h (suc k)) k

pub number_fits : (n at : ℕ) (xs : List ℕ) → AreBytes xs → number_at little n at xs < 256 ^ n
unfolding number_at number_of
number_fits n at xs h = little_from-lt 0 n (drop at xs) (bytes_drop at xs h)

zone_fits : (xs : List ℕ) → AreBytes xs → (k : ℕ) → slice_index (zones_of xs) k < 2 ^ 16
unfolding zones_of
zone_fits xs h k =
    elim (cases_Bool (nat_lt k 9)) [
      | inl t ↦ (let fits = number_fits 2 (14 + 2 * k) xs h in
          subst (λ z. z < 2 ^ 16) (sym (get_or-map-range_with_len (zone_of xs) 0 9 k k 0 (ltb-true _ _ t) (omega arith))) (omega arith))
      | inr f ↦ (let nine = length-map-range_with_len (zone_of xs) 0 9 in
          subst (λ z. z < 2 ^ 16) (sym (past (zones_of xs) k (let far = ltb-false _ _ f in omega arith))) (omega arith))
    ]
  where
    past : (zs : List ℕ) (k : ℕ) → length zs ≤ k → slice_index zs k ≡ 0
    past [] k far = refl
    past (z ∷ zs) zero far = absurd (omega arith)
    past (z ∷ zs) (suc k) far = past zs k (omega arith)

inode_fits_by : (xs : List ℕ) → AreBytes xs → FitInode (inode_of xs)
unfolding zones_of
inode_fits_by xs h = record {
  mode = number_fits 2 0 xs h;
  uid = number_fits 2 2 xs h;
  size = number_fits 4 4 xs h;
  time = number_fits 4 8 xs h;
  gid = number_fits 1 12 xs h;
  links = number_fits 1 13 xs h;
  nine = length-map-range_with_len (zone_of xs) 0 9;
  zones = zone_fits xs h;
}

pub inode_fits : (at : ℕ) (body : List ℕ) → AreBytes body → FitInode (inode_of (record_at 32 at body))
unfolding bytes_at
inode_fits at body h = inode_fits_by (record_at 32 at body) (bytes_take 32 (drop (32 * at) body) (bytes_drop (32 * at) body h))
