-- What a write to a part of a slice is in the words of `byte_fields`.
use Rattle.std.proofs.Common.{◌≡◌, ℕ, ◌+◌, ◌-◌, List, length, refl, arith}
use Rattle.std.proofs.lemmas.List.{drop-drop}
use borrow.Rule.Slice.PartMut.{put_mid}
use Rattle.byte_fields.specs.Fields.{put_bytes}

pub put_middle : (at : ℕ) (b ys : List ℕ) → put_mid at (at + length ys - at) b ys ≡ put_bytes at ys b
unfolding put_bytes
put_middle at b ys =
    let same : at + length ys - at ≡ length ys = omega arith in
    rw (same, drop-drop (length ys) at b) refl
