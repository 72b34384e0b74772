-- What is written is read back.
use Rattle.std.specs.Prelude.{◌≡◌, ◌<◌, ◌≤◌, ℕ, zero, suc, ◌+◌, ◌-◌, ◌*◌, ◌/◌, ◌%◌, ◌==◌, ◌⊎◌, min, Bool, true, false, if◌then◌else◌, nat_le, List, [], ◌++◌, length, take, drop, replicate, slice_index, Option, Some, None, refl}
use Rattle.std.proofs.Common.{sym, ap, ◌∙◌, inl, inr, ⊎_elim, arith}
use Rattle.std.specs.List.{list_any, range_with_len}
use Rattle.std.proofs.lemmas.Bool.{cases_Bool, cases_eq, cases_lt, false≢true, lt-ltb, le-ltb, leb-true, leb-false, eqb-true, eqb-false, or_parts, or_cases}
use Rattle.std.proofs.lemmas.List.{length-take, length-drop, length-append, length-replicate, get_or_append_left, get_or-append_right, get_or-take, get_or-drop}
use Rattle.std.proofs.lemmas.Option.{none-some, same_Some}
use Rattle.tree_model.specs.declared.node.File.{File}
use Rattle.tree_model.specs.Maps.{at_number, put_number}
use Rattle.tree_model.specs.laws.MapsLaws.{at_put_number, at_put_number_apart}
use Rattle.tree_model.specs.Calls.{block_or_zeros, patched, touched_blocks, written_blocks, written_file, cut_body, cut_file, byte_at}
use Rattle.tree_model.specs.Histories.{is_touched}
use Rattle.tree_model.specs.Plain.{HasWholeBlocks}
use Rattle.tree_model.proofs.Blocks.{written_untouched, left_of, cut_out, cut_in}

-- ---- one block

module _ (index off : ℕ) (bytes old : List ℕ) (whole : length old ≡ 1024) (reaches : off < 1024 * index + 1024) (begins : 1024 * index < off + length bytes) where
  abbrev Part : List ℕ
  Part = take (1024 - (off - 1024 * index)) (drop (1024 * index - off) bytes)

  part_length : length Part ≡ min (1024 - (off - 1024 * index)) (length bytes - (1024 * index - off))
  part_length = length-take (1024 - (off - 1024 * index)) (drop (1024 * index - off) bytes) ∙ ap (min (1024 - (off - 1024 * index))) (length-drop (1024 * index - off) bytes)

  front_length : length (take (off - 1024 * index) old) ≡ off - 1024 * index
  front_length = let l = length-take (off - 1024 * index) old in omega arith

  pub patched_length : length (patched index off bytes old) ≡ 1024
  patched_length =
      let a = length-append (take (off - 1024 * index) old) (Part ++ drop (off - 1024 * index + length Part) old) in
      let b = length-append Part (drop (off - 1024 * index + length Part) old) in
      let c = length-drop (off - 1024 * index + length Part) old in
      let d = front_length in
      let e = part_length in
      omega arith

  -- before the bytes
  patched_before : (j : ℕ) → 1024 * index + j < off → j < 1024 → slice_index (patched index off bytes old) j ≡ slice_index old j
  patched_before j lt within =
      let d = front_length in
      let low : j < length (take (off - 1024 * index) old) = omega arith in
      let from : j < off - 1024 * index = omega arith in
      get_or_append_left (take (off - 1024 * index) old) (Part ++ drop (off - 1024 * index + length Part) old) 0 j low
      ∙ get_or-take (off - 1024 * index) old j 0 from

  -- the bytes
  patched_here : (j : ℕ) → off ≤ 1024 * index + j → 1024 * index + j < off + length bytes → j < 1024 → slice_index (patched index off bytes old) j ≡ slice_index bytes (1024 * index + j - off)
  patched_here j low high within =
      let d = front_length in
      let e = part_length in
      let from : off - 1024 * index ≤ j = omega arith in
      let in_part : j - (off - 1024 * index) < length Part = omega arith in
      let in_take : j - (off - 1024 * index) < 1024 - (off - 1024 * index) = omega arith in
      let place : 1024 * index - off + (j - (off - 1024 * index)) ≡ 1024 * index + j - off = omega arith in
      get_or-append_right (take (off - 1024 * index) old) (Part ++ drop (off - 1024 * index + length Part) old) (off - 1024 * index) j 0 d from
      ∙ (get_or_append_left Part (drop (off - 1024 * index + length Part) old) 0 (j - (off - 1024 * index)) in_part
      ∙ (get_or-take (1024 - (off - 1024 * index)) (drop (1024 * index - off) bytes) (j - (off - 1024 * index)) 0 in_take
      ∙ (get_or-drop (1024 * index - off) bytes (j - (off - 1024 * index)) 0 ∙ ap (slice_index bytes) place)))

  -- behind the bytes
  patched_behind : (j : ℕ) → off + length bytes ≤ 1024 * index + j → j < 1024 → slice_index (patched index off bytes old) j ≡ slice_index old j
  patched_behind j high within =
      let d = front_length in
      let e = part_length in
      let from : off - 1024 * index ≤ j = omega arith in
      let past : length Part ≤ j - (off - 1024 * index) = omega arith in
      let place : off - 1024 * index + length Part + (j - (off - 1024 * index) - length Part) ≡ j = omega arith in
      get_or-append_right (take (off - 1024 * index) old) (Part ++ drop (off - 1024 * index + length Part) old) (off - 1024 * index) j 0 d from
      ∙ (get_or-append_right Part (drop (off - 1024 * index + length Part) old) (length Part) (j - (off - 1024 * index)) 0 refl past
      ∙ (get_or-drop (off - 1024 * index + length Part) old (j - (off - 1024 * index) - length Part) 0 ∙ ap (slice_index old) place))

-- ---- all blocks

in_range : (index a n : ℕ) → list_any (λ i. i == index) (range_with_len a n) ≡ true → (a ≤ index) × (index < a + n)
in_range index a zero t = absurd (false≢true t)
in_range index a (suc n) t =
    ⊎_elim
    (λ here. let e = eqb-true a index here in (omega arith, omega arith))
    (λ later. let x = in_range index (a + 1) n later in let l = x.0 in let u = x.1 in (omega arith, omega arith))
    (or_cases (a == index) (list_any (λ i. i == index) (range_with_len (a + 1) n)) t)

out_of_range : (index a n : ℕ) → list_any (λ i. i == index) (range_with_len a n) ≡ false → (index < a) ⊎ (a + n ≤ index)
out_of_range index a zero f = ⊎_elim inl (λ ge. inr (omega arith)) (cases_lt index a)
out_of_range index a (suc n) f =
    let parts = or_parts (a == index) (list_any (λ i. i == index) (range_with_len (a + 1) n)) f in
    let apart = eqb-false a index parts.0 in
    ⊎_elim
    (λ lt. inl (omega arith))
    (λ ge. inr (omega arith))
    (out_of_range index (a + 1) n parts.1)

below_range : (index a n : ℕ) → index < a → list_any (λ i. i == index) (range_with_len a n) ≡ false
below_range index a n lt =
    elim (cases_Bool (list_any (λ i. i == index) (range_with_len a n))) [
      | inl t ↦ absurd (let x = (in_range index a n t).0 in omega arith)
      | inr f ↦ f
    ]

module _ (off : ℕ) (bytes : List ℕ) where
  written_in : (blocks : List (ℕ × List ℕ)) (index a n : ℕ) → list_any (λ i. i == index) (range_with_len a n) ≡ true →
      at_number (written_blocks off bytes (range_with_len a n) blocks) index ≡ Some (patched index off bytes (block_or_zeros (at_number blocks index)))
  written_in blocks index a zero t = absurd (false≢true t)
  written_in blocks index a (suc n) t =
      let next = put_number blocks a (patched a off bytes (block_or_zeros (at_number blocks a))) in
      ⊎_elim
      (λ same.
      written_untouched off bytes (range_with_len (a + 1) n) next index (below_range index (a + 1) n (omega arith))
      ∙ (ap (at_number next) (sym same)
      ∙ (at_put_number blocks a (patched a off bytes (block_or_zeros (at_number blocks a)))
      ∙ ap (λ i. Some (patched i off bytes (block_or_zeros (at_number blocks i)))) same)))
      (λ apart.
      ⊎_elim
      (λ here. absurd (apart (eqb-true a index here)))
      (λ later.
      written_in next index (a + 1) n later
      ∙ ap (λ o. Some (patched index off bytes (block_or_zeros o))) (at_put_number_apart blocks a (patched a off bytes (block_or_zeros (at_number blocks a))) index (λ e. apart (sym e))))
      (or_cases (a == index) (list_any (λ i. i == index) (range_with_len (a + 1) n)) t))
      (cases_eq a index)

-- ---- writes

zeros_or_whole : (o : Option (List ℕ)) → ((body : List ℕ) → o ≡ Some body → length body ≡ 1024) → length (block_or_zeros o) ≡ 1024
zeros_or_whole None whole = length-replicate {A = ℕ} 1024 0
zeros_or_whole (Some body) whole = whole body refl

-- where the touched blocks lie
pub touched_in : (off len index : ℕ) → is_touched off len index ≡ true → (off < 1024 * index + 1024) × (1024 * index < off + len) × (touched_blocks off len ≡ range_with_len (off / 1024) ((off + len - 1) / 1024 - off / 1024 + 1))
touched_in off len index = by (len == 0) refl
  where
    by : (b : Bool) → (len == 0) ≡ b → list_any (λ i. i == index) (if b then [] else range_with_len (off / 1024) ((off + len - 1) / 1024 - off / 1024 + 1)) ≡ true →
        (off < 1024 * index + 1024) × (1024 * index < off + len) × ((if b then [] else range_with_len (off / 1024) ((off + len - 1) / 1024 - off / 1024 + 1)) ≡ range_with_len (off / 1024) ((off + len - 1) / 1024 - off / 1024 + 1))
    by true e t = absurd (false≢true t)
    by false e t =
        let some = eqb-false len 0 e in
        let x = in_range index (off / 1024) ((off + len - 1) / 1024 - off / 1024 + 1) t in
        let l = x.0 in
        let u = x.1 in
        let ends : (off + len - 1) / 1024 ≤ (off + len - 1) / 1024 - off / 1024 + off / 1024 = omega arith in
        let up : index ≤ (off + len - 1) / 1024 = (let m : off / 1024 ≤ (off + len - 1) / 1024 = omega arith in omega arith) in
        (omega arith, omega arith, refl)

pub touched_out : (off len index j : ℕ) → is_touched off len index ≡ false → j < 1024 → (1024 * index + j < off) ⊎ (off + len ≤ 1024 * index + j)
touched_out off len index j = by (len == 0) refl
  where
    by : (b : Bool) → (len == 0) ≡ b → list_any (λ i. i == index) (if b then [] else range_with_len (off / 1024) ((off + len - 1) / 1024 - off / 1024 + 1)) ≡ false → j < 1024 → (1024 * index + j < off) ⊎ (off + len ≤ 1024 * index + j)
    by true e f within =
        let none = eqb-true len 0 e in
        ⊎_elim inl (λ ge. inr (omega arith)) (cases_lt (1024 * index + j) off)
    by false e f within =
        let some = eqb-false len 0 e in
        let m : off / 1024 ≤ (off + len - 1) / 1024 = omega arith in
        ⊎_elim
        (λ lt. inl (omega arith))
        (λ ge. inr (omega arith))
        (out_of_range index (off / 1024) ((off + len - 1) / 1024 - off / 1024 + 1) f)

module _ (f : File) (off : ℕ) (bytes : List ℕ) (whole : HasWholeBlocks f) where
  old_whole : (index : ℕ) → length (block_or_zeros (at_number f.blocks index)) ≡ 1024
  old_whole index = zeros_or_whole (at_number f.blocks index) (whole index)

  pub new_block : (index : ℕ) → is_touched off (length bytes) index ≡ true → at_number (written_file f off bytes).blocks index ≡ Some (patched index off bytes (block_or_zeros (at_number f.blocks index)))
  new_block index t =
      let x = touched_in off (length bytes) index t in
      ap (λ indices. at_number (written_blocks off bytes indices f.blocks) index) x.2
      ∙ written_in off bytes f.blocks index (off / 1024) ((off + length bytes - 1) / 1024 - off / 1024 + 1) (sym (ap (list_any (λ i. i == index)) x.2) ∙ t)

  pub same_block : (index : ℕ) → is_touched off (length bytes) index ≡ false → at_number (written_file f off bytes).blocks index ≡ at_number f.blocks index
  same_block index t = written_untouched off bytes (touched_blocks off (length bytes)) f.blocks index t

  byte_touched : (at : ℕ) → is_touched off (length bytes) (at / 1024) ≡ true → byte_at (written_file f off bytes) at ≡ slice_index (patched (at / 1024) off bytes (block_or_zeros (at_number f.blocks (at / 1024)))) (at % 1024)
  byte_touched at t = ap (λ o. slice_index (block_or_zeros o) (at % 1024)) (new_block (at / 1024) t)

  byte_untouched : (at : ℕ) → is_touched off (length bytes) (at / 1024) ≡ false → byte_at (written_file f off bytes) at ≡ byte_at f at
  byte_untouched at t = ap (λ o. slice_index (block_or_zeros o) (at % 1024)) (same_block (at / 1024) t)

  -- the bytes are read back
  pub byte_written : (at : ℕ) → off ≤ at → at < off + length bytes → byte_at (written_file f off bytes) at ≡ slice_index bytes (at - off)
  byte_written at low high =
      let parts : 1024 * (at / 1024) + at % 1024 ≡ at = omega arith in
      let within : at % 1024 < 1024 = omega arith in
      ⊎_elim
      (λ t.
      let x = touched_in off (length bytes) (at / 1024) t in
      byte_touched at t
      ∙ (patched_here (at / 1024) off bytes (block_or_zeros (at_number f.blocks (at / 1024))) (old_whole (at / 1024)) x.0 x.1 (at % 1024) (omega arith) (omega arith) within
      ∙ ap (λ k. slice_index bytes (k - off)) parts))
      (λ t. absurd (⊎_elim (λ lt. omega arith) (λ ge. omega arith) (touched_out off (length bytes) (at / 1024) (at % 1024) t within)))
      (cases_Bool (is_touched off (length bytes) (at / 1024)))

  -- and all others stay
  pub byte_kept : (at : ℕ) → (at < off) ⊎ (off + length bytes ≤ at) → byte_at (written_file f off bytes) at ≡ byte_at f at
  byte_kept at out =
      let parts : 1024 * (at / 1024) + at % 1024 ≡ at = omega arith in
      let within : at % 1024 < 1024 = omega arith in
      ⊎_elim
      (λ t.
      let x = touched_in off (length bytes) (at / 1024) t in
      byte_touched at t
      ∙ ⊎_elim
      (λ lt. patched_before (at / 1024) off bytes (block_or_zeros (at_number f.blocks (at / 1024))) (old_whole (at / 1024)) x.0 x.1 (at % 1024) (omega arith) within)
      (λ ge. patched_behind (at / 1024) off bytes (block_or_zeros (at_number f.blocks (at / 1024))) (old_whole (at / 1024)) x.0 x.1 (at % 1024) (omega arith) within)
      out)
      (λ t. byte_untouched at t)
      (cases_Bool (is_touched off (length bytes) (at / 1024)))

  pub written_whole : HasWholeBlocks (written_file f off bytes)
  written_whole index body e =
      ⊎_elim
      (λ t.
      let x = touched_in off (length bytes) index t in
      let same : patched index off bytes (block_or_zeros (at_number f.blocks index)) ≡ body = same_Some _ body (sym (new_block index t) ∙ e) in
      sym (ap length same) ∙ patched_length index off bytes (block_or_zeros (at_number f.blocks index)) (old_whole index) x.0 x.1)
      (λ t. whole index body (sym (same_block index t) ∙ e))
      (cases_Bool (is_touched off (length bytes) index))

-- ---- cuts

pub zero_at : (n j : ℕ) → slice_index (replicate n 0) j ≡ 0
zero_at zero j = refl
zero_at (suc n) zero = refl
zero_at (suc n) (suc j) = zero_at n j

zeros_length : (n : ℕ) → length (replicate {A = ℕ} n 0) ≡ n
zeros_length n = length-replicate {A = ℕ} n 0

module _ (f : File) (size : ℕ) (whole : HasWholeBlocks f) where
  cut_length : (index : ℕ) (body : List ℕ) → length body ≡ 1024 → 1024 * index < size → length (cut_body size index body) ≡ 1024
  cut_length index body e low = by (nat_le (1024 * index + 1024) size) refl
    where
      by : (b : Bool) → nat_le (1024 * index + 1024) size ≡ b → length (if b then body else take (size - 1024 * index) body ++ replicate (1024 - (size - 1024 * index)) 0) ≡ 1024
      by true t = e
      by false t =
          let above = leb-false (1024 * index + 1024) size t in
          let b = length-take (size - 1024 * index) body in
          let c = zeros_length (1024 - (size - 1024 * index)) in
          length-append (take (size - 1024 * index) body) (replicate (1024 - (size - 1024 * index)) 0) ∙ omega arith

  cut_byte : (index j : ℕ) (body : List ℕ) → length body ≡ 1024 → 1024 * index < size → j < 1024 → 1024 * index + j < size → slice_index (cut_body size index body) j ≡ slice_index body j
  cut_byte index j body e low within lt = by (nat_le (1024 * index + 1024) size) refl
    where
      by : (b : Bool) → nat_le (1024 * index + 1024) size ≡ b → slice_index (if b then body else take (size - 1024 * index) body ++ replicate (1024 - (size - 1024 * index)) 0) j ≡ slice_index body j
      by true t = refl
      by false t =
          let above = leb-false (1024 * index + 1024) size t in
          let b = length-take (size - 1024 * index) body in
          let first : j < length (take (size - 1024 * index) body) = omega arith in
          get_or_append_left (take (size - 1024 * index) body) (replicate (1024 - (size - 1024 * index)) 0) 0 j first ∙ get_or-take (size - 1024 * index) body j 0 (omega arith)

  cut_zero : (index j : ℕ) (body : List ℕ) → length body ≡ 1024 → 1024 * index < size → j < 1024 → size ≤ 1024 * index + j → slice_index (cut_body size index body) j ≡ 0
  cut_zero index j body e low within ge = by (nat_le (1024 * index + 1024) size) refl
    where
      by : (b : Bool) → nat_le (1024 * index + 1024) size ≡ b → slice_index (if b then body else take (size - 1024 * index) body ++ replicate (1024 - (size - 1024 * index)) 0) j ≡ 0
      by true t = absurd (let below = leb-true (1024 * index + 1024) size t in omega arith)
      by false t =
          let above = leb-false (1024 * index + 1024) size t in
          let b = length-take (size - 1024 * index) body in
          let len : length (take (size - 1024 * index) body) ≡ size - 1024 * index = omega arith in
          get_or-append_right (take (size - 1024 * index) body) (replicate (1024 - (size - 1024 * index)) 0) (size - 1024 * index) j 0 len (omega arith)
          ∙ zero_at (1024 - (size - 1024 * index)) (j - (size - 1024 * index))

  left_byte : (index j : ℕ) (o : Option (List ℕ)) → at_number f.blocks index ≡ o → 1024 * index < size → j < 1024 → 1024 * index + j < size → slice_index (block_or_zeros (left_of size index o)) j ≡ slice_index (block_or_zeros o) j
  left_byte index j None e low within lt = refl
  left_byte index j (Some body) e low within lt = cut_byte index j body (whole index body e) low within lt

  left_zero : (index j : ℕ) (o : Option (List ℕ)) → at_number f.blocks index ≡ o → 1024 * index < size → j < 1024 → size ≤ 1024 * index + j → slice_index (block_or_zeros (left_of size index o)) j ≡ 0
  left_zero index j None e low within ge = zero_at 1024 j
  left_zero index j (Some body) e low within ge = cut_zero index j body (whole index body e) low within ge

  -- bytes below the size stay
  pub byte_below : (at : ℕ) → at < size → byte_at (cut_file f size) at ≡ byte_at f at
  byte_below at lt =
      let parts : 1024 * (at / 1024) + at % 1024 ≡ at = omega arith in
      let low : 1024 * (at / 1024) < size = omega arith in
      ap (λ o. slice_index (block_or_zeros o) (at % 1024)) (cut_in size f.blocks (at / 1024) (lt-ltb (1024 * (at / 1024)) size low))
      ∙ left_byte (at / 1024) (at % 1024) (at_number f.blocks (at / 1024)) refl low (omega arith) (omega arith)

  -- and those from the size on are 0
  pub byte_past : (at : ℕ) → size ≤ at → byte_at (cut_file f size) at ≡ 0
  byte_past at ge =
      let parts : 1024 * (at / 1024) + at % 1024 ≡ at = omega arith in
      ⊎_elim
      (λ low.
      ap (λ o. slice_index (block_or_zeros o) (at % 1024)) (cut_in size f.blocks (at / 1024) (lt-ltb (1024 * (at / 1024)) size low))
      ∙ left_zero (at / 1024) (at % 1024) (at_number f.blocks (at / 1024)) refl low (omega arith) (omega arith))
      (λ high.
      ap (λ o. slice_index (block_or_zeros o) (at % 1024)) (cut_out size f.blocks (at / 1024) (le-ltb (1024 * (at / 1024)) size high))
      ∙ zero_at 1024 (at % 1024))
      (cases_lt (1024 * (at / 1024)) size)

  left_whole : (index : ℕ) (o : Option (List ℕ)) (body : List ℕ) → at_number f.blocks index ≡ o → 1024 * index < size → left_of size index o ≡ Some body → length body ≡ 1024
  left_whole index None body e low h = absurd (none-some body h)
  left_whole index (Some old) body e low h = sym (ap length (same_Some (cut_body size index old) body h)) ∙ cut_length index old (whole index old e) low

  pub cut_whole_blocks : HasWholeBlocks (cut_file f size)
  cut_whole_blocks index body e =
      ⊎_elim
      (λ low. left_whole index (at_number f.blocks index) body refl low (sym (cut_in size f.blocks index (lt-ltb (1024 * index) size low)) ∙ e))
      (λ high. absurd (none-some body (sym (cut_out size f.blocks index (le-ltb (1024 * index) size high)) ∙ e)))
      (cases_lt (1024 * index) size)
