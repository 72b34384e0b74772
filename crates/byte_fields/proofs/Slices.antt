-- What a read of a part of a slice, and a write to one, are in the words of `specs/Fields.antt`.
use Rattle.std.proofs.Common.{◌≡◌, ℕ, ◌+◌, ◌-◌, ◌%◌, ◌<◌, ◌≤◌, get_or, set, add-one, List, [], ◌++◌, length, take, drop, refl, sym, ap, ◌∙◌, arith}
use Rattle.std.proofs.lemmas.List.{take_rest, drop_all, drop-drop, append-nil, length-take-le, length-drop, get_or-drop, set_split}
use Rattle.std.proofs.Math.Nat.{mod-eq_of_lt}
use borrow.Rule.Slice.PartMut.{put_mid}
use Rattle.byte_fields.specs.Fields.{Order, number_of, bytes_of, put_bytes, number_at, put}
use Rattle.byte_fields.specs.Fields.Order.{little, big}
use Rattle.byte_fields.specs.laws.ReadLaws.{length-bytes_of}

-- a number that is read from the rest of a slice
pub read_slice : (order : Order) (n at : ℕ) (b : List ℕ) {x : ℕ} → x ≡ number_of order n (take (length b - at) (drop at b)) → x ≡ number_at order n at b
unfolding number_at
read_slice order n at b read = read ∙ ap (number_of order n) (take_rest b at)

-- a number that is written to a part of a slice
pub put_slice : (order : Order) (n at x : ℕ) (b new : List ℕ) → at + n ≤ length b → new ≡ bytes_of order n x ++ drop n (take (at + n - at) (drop at b)) → put_mid at (at + n - at) b new ≡ put order n at x b
unfolding put put_bytes
put_slice order n at x b new within wrote =
    let same : at + n - at ≡ n = omega arith in
    let part : length (take n (drop at b)) ≡ n = length-take-le n (drop at b) (omega (arith, length-drop at b)) in
    let nothing : drop n (take n (drop at b)) ≡ [] = drop_all n (take n (drop at b)) (omega arith) in
    rw (same, wrote, same, nothing, append-nil, drop-drop n at b, length-bytes_of order n x) refl

-- a byte is a number of one byte
pub read_byte : (order : Order) (at : ℕ) (b : List ℕ) → get_or b at 0 ≡ number_at order 1 at b
unfolding number_at number_of
read_byte little at b =
    let e = get_or-drop at b 0 0 in
    let same : at + 0 ≡ at = omega arith in
    sym (ap (λ (k : ℕ). get_or b k 0) same) ∙ sym e ∙ omega arith
read_byte big at b =
    let e = get_or-drop at b 0 0 in
    let same : at + 0 ≡ at = omega arith in
    sym (ap (λ (k : ℕ). get_or b k 0) same) ∙ sym e ∙ omega arith

-- a byte that is written is a number of one byte
pub put_byte : (order : Order) (at x : ℕ) (b : List ℕ) → at < length b → x < 256 → set b at x ≡ put order 1 at x b
unfolding put put_bytes bytes_of
put_byte little at x b within fits =
    let low : x % 256 ≡ x = mod-eq_of_lt fits in
    rw (set_split b at x within, low, add-one) refl
put_byte big at x b within fits =
    let low : x % 256 ≡ x = mod-eq_of_lt fits in
    rw (set_split b at x within, low, add-one) refl
