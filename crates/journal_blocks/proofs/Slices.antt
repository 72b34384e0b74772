-- What a read of a part of a slice, and a write to one, are in the words of `byte_fields`.
use Rattle.std.proofs.Common.{◌≡◌, ℕ, ◌+◌, ◌-◌, ◌≤◌, List, [], ◌++◌, length, take, drop, refl, ap, ◌∙◌, arith}
use Rattle.std.proofs.lemmas.List.{take_rest, drop_all, drop-drop, append-nil, length-take-le, length-drop}
use borrow.Rule.Slice.PartMut.{put_mid}
use Rattle.byte_fields.specs.Fields.{Order, number_of, bytes_of, put_bytes, number_at, put}
use Rattle.byte_fields.specs.laws.ReadLaws.{length-bytes_of}

-- a number that is read from the rest of a slice
pub read_slice : (order : Order) (n at : ℕ) (b : List ℕ) {x : ℕ} → x ≡ number_of order n (take (length b - at) (drop at b)) → x ≡ number_at order n at b
unfolding number_at
read_slice order n at b read = read ∙ ap (number_of order n) (take_rest b at)

-- a number that is written to a part of a slice
pub put_slice : (order : Order) (n at x : ℕ) (b new : List ℕ) → at + n ≤ length b → new ≡ bytes_of order n x ++ drop n (take (at + n - at) (drop at b)) → put_mid at (at + n - at) b new ≡ put order n at x b
unfolding put put_bytes
put_slice order n at x b new within wrote =
    let same : at + n - at ≡ n = omega arith in
    let part : length (take n (drop at b)) ≡ n = length-take-le n (drop at b) (omega (arith, length-drop at b)) in
    let nothing : drop n (take n (drop at b)) ≡ [] = drop_all n (take n (drop at b)) (omega arith) in
    rw (same, wrote, same, nothing, append-nil, drop-drop n at b, length-bytes_of order n x) refl
