-- What is read of bytes, fields and records after a write.
use Rattle.std.specs.Prelude.{◌≡◌, ◌≢◌, ℕ, ◌+◌, ◌-◌, ◌*◌, ◌^◌, ◌<◌, ◌≤◌, true, ◌&&◌, nat_le, List, [], ◌∷◌, ◌++◌, length, take, drop, get_or, refl}
use Rattle.std.specs.List.{list_all}
use Rattle.std.proofs.Common.{sym, ap, ◌∙◌, inl, inr, arith}
use Rattle.std.proofs.Math.Nat.{mul-le-mul_left}
use Rattle.std.proofs.lemmas.Bool.{and_parts, and_from, or_cases, leb-true, cases_order}
use Rattle.std.proofs.lemmas.List.{same_lists, append-nil, drop_at, take_at, length-append, length-take-le, length-drop, length-replicate, get_or-take, get_or-drop, get_or_append_left, get_or-append_right}
use Rattle.byteorder.specs.Numbers.{little_from-take, big_from-take, little_number-reads_back, big_number-reads_back, length-bytes_low_first, length-bytes_high_first}
use Rattle.byteorder.specs.Endian.{little_number, big_number}
use Rattle.byte_fields.specs.Fields.{Apart, Order, zeros, bytes_at, put_bytes, number_of, bytes_of, number_at, put, Field, written, are_apart, are_laid_out, HaveFields, record_at, put_record}
use Rattle.byte_fields.specs.Fields.Order.{little, big}

pub length-zeros : (n : ℕ) → length (zeros n) ≡ n
unfolding zeros
length-zeros n = length-replicate n 0

-- a write of bytes that lie within the list keeps its length
pub length-put_bytes : (at : ℕ) (ys b : List ℕ) → at + length ys ≤ length b → length (put_bytes at ys b) ≡ length b
unfolding put_bytes
length-put_bytes at ys b within =
    omega (arith, length-append (take at b) (ys ++ drop (at + length ys) b), length-append ys (drop (at + length ys) b), length-take-le at b (omega arith), length-drop (at + length ys) b)

-- the bytes that were written are read
pub bytes_at-put_same : (n at : ℕ) (ys b : List ℕ) → length ys ≡ n → at ≤ length b → bytes_at n at (put_bytes at ys b) ≡ ys
unfolding bytes_at put_bytes
bytes_at-put_same n at ys b size within =
    ap (take n) (drop_at (take at b) (ys ++ drop (at + length ys) b) at (length-take-le at b within))
    ∙ take_at ys (drop (at + length ys) b) n size

-- a byte before the write is as it was
get_or-put_before : (at : ℕ) (ys b : List ℕ) (i d : ℕ) → at ≤ length b → i < at → get_or (put_bytes at ys b) i d ≡ get_or b i d
unfolding put_bytes
get_or-put_before at ys b i d within before =
    get_or_append_left (take at b) (ys ++ drop (at + length ys) b) d i (omega (arith, length-take-le at b within))
    ∙ get_or-take at b i d before

-- a byte after the write is as it was
get_or-put_after : (at : ℕ) (ys b : List ℕ) (i d : ℕ) → at ≤ length b → at + length ys ≤ i → get_or (put_bytes at ys b) i d ≡ get_or b i d
unfolding put_bytes
get_or-put_after at ys b i d within after =
    get_or-append_right (take at b) (ys ++ drop (at + length ys) b) at i d (length-take-le at b within) (omega arith)
    ∙ get_or-append_right ys (drop (at + length ys) b) (length ys) (i - at) d refl (omega arith)
    ∙ get_or-drop (at + length ys) b (i - at - length ys) d
    ∙ ap (λ (k : ℕ). get_or b k d) (omega arith)

-- a byte that was not written is as it was
pub get_or-put_other : (at : ℕ) (ys b : List ℕ) (i d : ℕ) → at ≤ length b → Apart 1 i (length ys) at → get_or (put_bytes at ys b) i d ≡ get_or b i d
get_or-put_other at ys b i d within (inl before) = get_or-put_before at ys b i d within (omega arith)
get_or-put_other at ys b i d within (inr after) = get_or-put_after at ys b i d within after

-- each byte of a part that has none of those that were written
part-put_other : (k m at : ℕ) (ys b : List ℕ) → at ≤ length b → Apart k m (length ys) at → (i d : ℕ) → i < k → get_or (put_bytes at ys b) (m + i) d ≡ get_or b (m + i) d
part-put_other k m at ys b within (inl before) i d in_part = get_or-put_before at ys b (m + i) d within (omega arith)
part-put_other k m at ys b within (inr after) i d in_part = get_or-put_after at ys b (m + i) d within (omega arith)

length-bytes_at : (n at : ℕ) (b : List ℕ) → at + n ≤ length b → length (bytes_at n at b) ≡ n
unfolding bytes_at
length-bytes_at n at b within = length-take-le n (drop at b) (omega (arith, length-drop at b))

get_or-bytes_at : (n at : ℕ) (b : List ℕ) (i d : ℕ) → i < n → get_or (bytes_at n at b) i d ≡ get_or b (at + i) d
unfolding bytes_at
get_or-bytes_at n at b i d in_part = get_or-take n (drop at b) i d in_part ∙ get_or-drop at b i d

-- bytes that were not written are read as before
pub bytes_at-put_other : (k m at : ℕ) (ys b : List ℕ) → m + k ≤ length b → at + length ys ≤ length b → Apart k m (length ys) at → bytes_at k m (put_bytes at ys b) ≡ bytes_at k m b
bytes_at-put_other k m at ys b read_within within apart =
    let same_length = length-put_bytes at ys b within in
    let new_length = length-bytes_at k m (put_bytes at ys b) (omega arith) in
    let old_length = length-bytes_at k m b read_within in
    same_lists _ _ (new_length ∙ sym old_length)
    (λ i d h.
    let in_part : i < k = omega arith in
    get_or-bytes_at k m (put_bytes at ys b) i d in_part ∙ part-put_other k m at ys b (omega arith) apart i d in_part ∙ sym (get_or-bytes_at k m b i d in_part))

pub length-bytes_of : (order : Order) (n x : ℕ) → length (bytes_of order n x) ≡ n
unfolding bytes_of
length-bytes_of little n x = length-bytes_low_first 0 n x
length-bytes_of big n x = length-bytes_high_first n x

-- a number reads its own bytes alone
number_of-take : (order : Order) (n : ℕ) (ys : List ℕ) → number_of order n (take n ys) ≡ number_of order n ys
unfolding number_of
number_of-take little n ys = little_from-take 0 n n ys (omega arith)
number_of-take big n ys = big_from-take 0 n n ys (omega arith)

number_at-bytes : (order : Order) (n at : ℕ) (b : List ℕ) → number_at order n at b ≡ number_of order n (bytes_at n at b)
unfolding number_at bytes_at
number_at-bytes order n at b = sym (number_of-take order n (drop at b))

-- the bytes of a number that fits them make that number
number_of-bytes_of : (order : Order) (n x : ℕ) → x < 256 ^ n → number_of order n (bytes_of order n x) ≡ x
unfolding number_of bytes_of
number_of-bytes_of little n x fits =
    ap (little_number n) (sym (append-nil _)) ∙ little_number-reads_back n x [] fits
number_of-bytes_of big n x fits =
    ap (big_number n) (sym (append-nil _)) ∙ big_number-reads_back n x [] fits

-- a number is read as it was written
pub number_at-put_same : (order : Order) (n at x : ℕ) (b : List ℕ) → at ≤ length b → x < 256 ^ n → number_at order n at (put order n at x b) ≡ x
unfolding put
number_at-put_same order n at x b within fits =
    number_at-bytes order n at (put order n at x b)
    ∙ ap (number_of order n) (bytes_at-put_same n at (bytes_of order n x) b (length-bytes_of order n x) within)
    ∙ number_of-bytes_of order n x fits

-- a number is read as before, where bytes are written elsewhere
pub number_at-put_bytes : (order : Order) (k m at : ℕ) (ys b : List ℕ) → m + k ≤ length b → at + length ys ≤ length b → Apart k m (length ys) at → number_at order k m (put_bytes at ys b) ≡ number_at order k m b
number_at-put_bytes order k m at ys b read_within within apart =
    number_at-bytes order k m (put_bytes at ys b)
    ∙ ap (number_of order k) (bytes_at-put_other k m at ys b read_within within apart)
    ∙ sym (number_at-bytes order k m b)

pub length-put : (order : Order) (n at x : ℕ) (b : List ℕ) → at + n ≤ length b → length (put order n at x b) ≡ length b
unfolding put
length-put order n at x b within =
    length-put_bytes at (bytes_of order n x) b (omega (arith, length-bytes_of order n x))

-- bytes are read as before, where a number is written elsewhere
pub bytes_at-put : (order : Order) (k m n at x : ℕ) (b : List ℕ) → m + k ≤ length b → at + n ≤ length b → Apart k m n at → bytes_at k m (put order n at x b) ≡ bytes_at k m b
unfolding put
bytes_at-put order k m n at x b read_within within apart =
    let size = length-bytes_of order n x in
    bytes_at-put_other k m at (bytes_of order n x) b read_within (omega arith) (rw size apart)

-- a number is read as before, where a number is written elsewhere
pub number_at-put_other : (order : Order) (k m n at x : ℕ) (b : List ℕ) → m + k ≤ length b → at + n ≤ length b → Apart k m n at → number_at order k m (put order n at x b) ≡ number_at order k m b
number_at-put_other order k m n at x b read_within within apart =
    number_at-bytes order k m (put order n at x b)
    ∙ ap (number_of order k) (bytes_at-put order k m n at x b read_within within apart)
    ∙ sym (number_at-bytes order k m b)

apart_from : (f g : Field) → are_apart f g ≡ true → Apart g.width g.at f.width f.at
apart_from f g h =
    elim (or_cases (nat_le (f.at + f.width) g.at) (nat_le (g.at + g.width) f.at) h) [
      | inl before ↦ inr (leb-true _ _ before)
      | inr after ↦ inl (leb-true _ _ after)
    ]

fields_apart : (f g : Field) → are_apart f g ≡ true → Apart f.width f.at g.width g.at
fields_apart f g h =
    elim (or_cases (nat_le (f.at + f.width) g.at) (nat_le (g.at + g.width) f.at) h) [
      | inl before ↦ inl (leb-true _ _ before)
      | inr after ↦ inr (leb-true _ _ after)
    ]

-- writes of fields that lie within the list keep its length
pub length-written : (order : Order) (size : ℕ) (fs : List Field) (b : List ℕ) → are_laid_out size fs ≡ true → length b ≡ size → length (written order fs b) ≡ size
length-written order size [] b laid_out is_size = is_size
length-written order size (f ∷ fs) b laid_out is_size =
    let parts = and_parts (nat_le (f.at + f.width) size) (list_all (are_apart f) fs && are_laid_out size fs) laid_out in
    let rest = and_parts (list_all (are_apart f) fs) (are_laid_out size fs) parts.1 in
    let ih = length-written order size fs b rest.1 is_size in
    let fits : f.at + f.width ≤ size = leb-true _ _ parts.0 in
    length-put order f.width f.at f.value (written order fs b) (omega arith) ∙ ih

-- a write of a field leaves those that are apart from it
HaveFields-put : (order : Order) (size : ℕ) (f : Field) (fs : List Field) (b : List ℕ) → length b ≡ size → f.at + f.width ≤ size → list_all (are_apart f) fs ≡ true → are_laid_out size fs ≡ true → HaveFields order b fs → HaveFields order (put order f.width f.at f.value b) fs
HaveFields-put order size f [] b is_size fits apart laid_out have = tt
HaveFields-put order size f (g ∷ gs) b is_size fits apart laid_out have =
    let parts = and_parts (nat_le (g.at + g.width) size) (list_all (are_apart g) gs && are_laid_out size gs) laid_out in
    let rest = and_parts (list_all (are_apart g) gs) (are_laid_out size gs) parts.1 in
    let aparts = and_parts (are_apart f g) (list_all (are_apart f) gs) apart in
    let g_fits : g.at + g.width ≤ size = leb-true _ _ parts.0 in (
      λ h. number_at-put_other order g.width g.at f.width f.at f.value b (omega arith) (omega arith) (apart_from f g aparts.0) ∙ have.0 h,
      HaveFields-put order size f gs b is_size fits aparts.1 rest.1 have.1,
    )

-- each field of a table is read as it was written
pub fields_read : (order : Order) (size : ℕ) (fs : List Field) (b : List ℕ) → are_laid_out size fs ≡ true → length b ≡ size → HaveFields order (written order fs b) fs
fields_read order size [] b laid_out is_size = tt
fields_read order size (f ∷ fs) b laid_out is_size =
    let parts = and_parts (nat_le (f.at + f.width) size) (list_all (are_apart f) fs && are_laid_out size fs) laid_out in
    let rest = and_parts (list_all (are_apart f) fs) (are_laid_out size fs) parts.1 in
    let fits : f.at + f.width ≤ size = leb-true _ _ parts.0 in
    let same_length = length-written order size fs b rest.1 is_size in (
      λ h. number_at-put_same order f.width f.at f.value (written order fs b) (omega arith) h,
      HaveFields-put order size f fs (written order fs b) same_length fits rest.0 rest.1 (fields_read order size fs b rest.1 is_size),
    )

-- a number is read as before, where a table of fields is written that are apart from it
pub number_at-written : (order : Order) (size : ℕ) (f : Field) (fs : List Field) (b : List ℕ) → are_laid_out size (f ∷ fs) ≡ true → length b ≡ size → number_at order f.width f.at (written order fs b) ≡ number_at order f.width f.at b
number_at-written order size f [] b laid_out is_size = refl
number_at-written order size f (g ∷ gs) b laid_out is_size =
    let parts = and_parts (nat_le (f.at + f.width) size) (list_all (are_apart f) (g ∷ gs) && are_laid_out size (g ∷ gs)) laid_out in
    let rest = and_parts (list_all (are_apart f) (g ∷ gs)) (are_laid_out size (g ∷ gs)) parts.1 in
    let aparts = and_parts (are_apart f g) (list_all (are_apart f) gs) rest.0 in
    let inner = and_parts (nat_le (g.at + g.width) size) (list_all (are_apart g) gs && are_laid_out size gs) rest.1 in
    let deep = and_parts (list_all (are_apart g) gs) (are_laid_out size gs) inner.1 in
    let f_fits : f.at + f.width ≤ size = leb-true _ _ parts.0 in
    let g_fits : g.at + g.width ≤ size = leb-true _ _ inner.0 in
    let same_length = length-written order size gs b deep.1 is_size in
    number_at-put_other order f.width f.at g.width g.at g.value (written order gs b) (omega arith) (omega arith) (fields_apart f g aparts.0)
    ∙ number_at-written order size f gs b (and_from _ _ parts.0 (and_from _ _ aparts.1 deep.1)) is_size

-- the record that was written is read
pub record_at-put_same : (n index : ℕ) (ys b : List ℕ) → length ys ≡ n → n * index + n ≤ length b → record_at n index (put_record n index ys b) ≡ ys
record_at-put_same n index ys b size within = bytes_at-put_same n (n * index) ys b size (omega arith)

-- a record ends where the next begins, or before a later one
next_record : (n i j : ℕ) → i < j → n * i + n ≤ n * j
next_record n i j below =
    let step : n * (i + 1) ≤ n * j = mul-le-mul_left n (omega arith) in
    omega arith

records_apart : (n i j : ℕ) → i ≢ j → Apart n (n * j) n (n * i)
records_apart n i j differ =
    elim (cases_order i j) [
      | inl same ↦ absurd (differ same)
      | inr (inl below) ↦ inr (next_record n i j below)
      | inr (inr above) ↦ inl (next_record n j i above)
    ]

-- another record is read as before
pub record_at-put_other : (n i j : ℕ) (ys b : List ℕ) → length ys ≡ n → n * i + n ≤ length b → n * j + n ≤ length b → i ≢ j → record_at n j (put_record n i ys b) ≡ record_at n j b
record_at-put_other n i j ys b size within read_within differ =
    bytes_at-put_other n (n * j) (n * i) ys b read_within (omega arith) (rw size (records_apart n i j differ))
