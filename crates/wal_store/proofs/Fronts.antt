-- A block that is written from its front: what is written, and the zeros behind it.
use Rattle.std.specs.Prelude.{◌≡◌, ℕ, ◌+◌, ◌-◌, ◌≤◌, List, ◌++◌, length, take, drop}
use Rattle.std.proofs.Common.{sym, ap, ◌∙◌, arith, append_assoc}
use Rattle.std.proofs.lemmas.List.{take_at, drop_at, drop-drop, drop-replicate, length-drop, length-take-le, length-append, take-append-drop}
use borrow.Rule.Slice.PartMut.{put_mid}
use Rattle.byte_fields.specs.Fields.{zeros}
use Rattle.wal_store.specs.code.{IsFront}

drop-zeros : (n m : ℕ) → drop n (zeros m) ≡ zeros (m - n)
unfolding zeros
drop-zeros n m = drop-replicate n m 0

later : (at n : ℕ) (b : List ℕ) → drop at b ≡ zeros (1024 - at) → drop (at + n) b ≡ zeros (1024 - (at + n))
later at n b rest =
    let less : 1024 - at - n ≡ 1024 - (at + n) = omega arith in
    sym (drop-drop n at b) ∙ (ap (drop n) rest ∙ (drop-zeros n (1024 - at) ∙ ap zeros less))

-- how long what is written is
pub length-front : (at : ℕ) (b : List ℕ) → IsFront at b → length (take at b) ≡ at
length-front at b k = let size = k.size in let within = k.within in length-take-le at b (omega arith)

-- the whole block
pub front-whole : (at : ℕ) (b : List ℕ) → IsFront at b → b ≡ take at b ++ zeros (1024 - at)
front-whole at b k = sym (take-append-drop at b) ∙ ap (λ xs. take at b ++ xs) k.rest

module _ (at : ℕ) (ys b : List ℕ) (k : IsFront at b) (fits : at + length ys ≤ 1024) where
  abbrev end : ℕ
  end = at + length ys

  split : put_mid at (end - at) b ys ≡ (take at b ++ ys) ++ drop end b
  split =
      let same : end - at ≡ length ys = omega arith in
      ap (λ (n : ℕ). take at b ++ (ys ++ drop n (drop at b))) same
      ∙ ap (λ r. take at b ++ (ys ++ r)) (drop-drop (length ys) at b)
      ∙ sym (append_assoc (take at b) ys (drop end b))

  front_size : length (take at b ++ ys) ≡ end
  front_size =
      let a = length-append (take at b) ys in
      let c = length-front at b k in
      omega arith

  -- bytes behind what is written
  pub written-more : take end (put_mid at (end - at) b ys) ≡ take at b ++ ys
  written-more = ap (take end) split ∙ take_at (take at b ++ ys) (drop end b) end front_size

  rest_size : length (drop end b) ≡ 1024 - end
  rest_size = let e = length-drop end b in let size = k.size in omega arith

  pub front-more : IsFront end (put_mid at (end - at) b ys)
  front-more = record {
    size =
        let whole = ap length split in
        let two = length-append (take at b ++ ys) (drop end b) in
        let one = front_size in
        let rest = rest_size in
        omega arith;
    within = fits;
    rest = ap (drop end) split ∙ (drop_at (take at b ++ ys) (drop end b) end front_size ∙ later at (length ys) b k.rest);
  }
