-- The bytes of a file, a piece of a block more.
use Rattle.std.proofs.Common.{◌≡◌, ℕ, ◌+◌, ◌-◌, ◌/◌, ◌%◌, ◌<◌, ◌≤◌, List, ◌++◌, length, map, take, drop, get_or, refl, sym, ap, ◌∙◌, ⊎_elim, arith}
use Rattle.std.specs.List.{range_with_len}
use Rattle.std.proofs.lemmas.Bool.{cases_lt}
use Rattle.std.proofs.lemmas.List.{ext_get_or, length-append, length-take, length-drop, get_or-take, get_or-drop, get_or_append_left, get_or-append_right}
use Rattle.std.proofs.lemmas.List.FromFn.{length-map-range_with_len, get_or-map-range_with_len}
use Rattle.tree_model.specs.Calls.{block_or_zeros}
use Rattle.tree_model.specs.Maps.{at_number}
use Rattle.volume_in_use.specs.reads.code.Pieces.{byte_of}

module _ (bodies : List (ℕ × List ℕ)) (off at from len : ℕ) (body : List ℕ) (before : off ≤ at) (from_is : from ≡ at % 1024) (within : from + len ≤ 1024)
    (whole : length body ≡ 1024) (body_is : body ≡ block_or_zeros (at_number bodies (at / 1024))) where
  abbrev Piece : List ℕ
  Piece = take len (drop from body)

  abbrev First : List ℕ
  First = map (byte_of bodies) (range_with_len off (at - off))

  abbrev Next : List ℕ
  Next = map (byte_of bodies) (range_with_len off (at + len - off))

  piece_length : length Piece ≡ len
  piece_length = let t = length-take len (drop from body) in let d = length-drop from body in omega arith

  first_length : length First ≡ at - off
  first_length = length-map-range_with_len (byte_of bodies) off (at - off)

  next_length : length Next ≡ at + len - off
  next_length = length-map-range_with_len (byte_of bodies) off (at + len - off)

  lengths : length (First ++ Piece) ≡ length Next
  lengths = let a = length-append First Piece in let f = first_length in let p = piece_length in let n = next_length in omega arith

  next_byte : (i : ℕ) → i < at + len - off → get_or Next i 0 ≡ byte_of bodies (off + i)
  next_byte i less = get_or-map-range_with_len (byte_of bodies) off (at + len - off) i (off + i) 0 less refl

  low : (i : ℕ) → i < at - off → get_or (First ++ Piece) i 0 ≡ get_or Next i 0
  low i less =
      let f = first_length in
      let within : i < length First = omega arith in
      let in_next : i < at + len - off = omega arith in
      get_or_append_left First Piece 0 i within
      ∙ (get_or-map-range_with_len (byte_of bodies) off (at - off) i (off + i) 0 less refl ∙ sym (next_byte i in_next))

  high : (i : ℕ) → at - off ≤ i → i < at + len - off → get_or (First ++ Piece) i 0 ≡ get_or Next i 0
  high i from_there in_next =
      let k : ℕ = i - (at - off) in
      let in_piece : i - (at - off) < len = omega arith in
      let block_same : at / 1024 ≡ (off + i) / 1024 = omega arith in
      let place_same : from + (i - (at - off)) ≡ (off + i) % 1024 = omega arith in
      get_or-append_right First Piece (at - off) i 0 first_length from_there
      ∙ (get_or-take len (drop from body) (i - (at - off)) 0 in_piece
      ∙ (get_or-drop from body (i - (at - off)) 0
      ∙ (ap (λ b. get_or b (from + (i - (at - off))) 0) (body_is ∙ ap (λ k. block_or_zeros (at_number bodies k)) block_same)
      ∙ (ap (λ k. get_or (block_or_zeros (at_number bodies ((off + i) / 1024))) k 0) place_same ∙ sym (next_byte i in_next)))))

  pub piece_more : First ++ Piece ≡ Next
  piece_more =
      let l = lengths in
      let n = next_length in
      ext_get_or 0 (First ++ Piece) Next lengths (λ i less. let in_next : i < at + len - off = omega arith in ⊎_elim (λ a. low i a) (λ b. high i b in_next) (cases_lt i (at - off)))
