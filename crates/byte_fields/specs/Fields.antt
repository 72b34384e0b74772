-- Fields of a fixed width in a list of bytes, and records of one size that lie one after the other.
use Rattle.std.specs.Prelude.{◌≡◌, ℕ, ◌+◌, ◌*◌, ◌^◌, ◌<◌, Bool, true, ◌&&◌, ◌||◌, nat_le, List, [], ◌∷◌, ◌++◌, length, take, drop, replicate, ◌≤◌, ◌⊎◌}
use Rattle.std.specs.List.{list_all}
use Rattle.byteorder.specs.Endian.{little_number, little_bytes, big_number, big_bytes}

-- which byte of a number stands first: the lowest or the highest
pub data Order : Type 0 where
  little : Order
  big : Order

-- n bytes of 0
unfoldable pub zeros : ℕ → List ℕ
zeros n = replicate n 0

-- the n bytes of b from place at
unfoldable pub bytes_at : ℕ → ℕ → List ℕ → List ℕ
bytes_at n at b = take n (drop at b)

-- b with ys written over its bytes from place at
unfoldable pub put_bytes : ℕ → List ℕ → List ℕ → List ℕ
put_bytes at ys b = take at b ++ (ys ++ drop (at + length ys) b)

-- the number in the first n bytes
unfoldable pub number_of : Order → ℕ → List ℕ → ℕ
number_of little n ys = little_number n ys
number_of big n ys = big_number n ys

-- the lowest n bytes of a number
unfoldable pub bytes_of : Order → ℕ → ℕ → List ℕ
bytes_of little n x = little_bytes n x
bytes_of big n x = big_bytes n x

-- the number in the n bytes of b from place at
unfoldable pub number_at : Order → ℕ → ℕ → List ℕ → ℕ
number_at order n at b = number_of order n (drop at b)

-- b with the number x in its n bytes from place at
unfoldable pub put : Order → ℕ → ℕ → ℕ → List ℕ → List ℕ
put order n at x b = put_bytes at (bytes_of order n x) b

-- the k bytes from place m have none of the n from place at
abbrev pub Apart : ℕ → ℕ → ℕ → ℕ → Type 0
Apart k m n at = (m + k ≤ at) ⊎ (at + n ≤ m)

-- a number in width bytes from place at
pub record Field : Type 0 where
  pub width : ℕ
  pub at : ℕ
  pub value : ℕ

abbrev pub field : ℕ → ℕ → ℕ → Field
field width at value = record { width = width; at = at; value = value }

-- b with each field of the table written
abbrev pub written : Order → List Field → List ℕ → List ℕ
written order [] b = b
written order (f ∷ fs) b = put order f.width f.at f.value (written order fs b)

-- the two have no byte in common
abbrev pub are_apart : Field → Field → Bool
are_apart f g = nat_le (f.at + f.width) g.at || nat_le (g.at + g.width) f.at

-- the fields lie in so many bytes, and no two have a byte in common
abbrev pub are_laid_out : ℕ → List Field → Bool
are_laid_out size [] = true
are_laid_out size (f ∷ fs) =
    nat_le (f.at + f.width) size && (list_all (are_apart f) fs && are_laid_out size fs)

-- each field of the table is read from b, where its value fits its width
abbrev pub HaveFields : Order → List ℕ → List Field → Type 0
HaveFields order b [] = Unit {0}
HaveFields order b (f ∷ fs) =
    (f.value < 256 ^ f.width → number_at order f.width f.at b ≡ f.value) × HaveFields order b fs

-- the record of n bytes at this index
abbrev pub record_at : ℕ → ℕ → List ℕ → List ℕ
record_at n index b = bytes_at n (n * index) b

-- b with ys as the record of n bytes at this index
abbrev pub put_record : ℕ → ℕ → List ℕ → List ℕ → List ℕ
put_record n index ys b = put_bytes (n * index) ys b
