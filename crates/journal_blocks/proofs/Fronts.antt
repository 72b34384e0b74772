-- A block that is written from its front: what is written, and the zeros behind it.
use Rattle.std.specs.Prelude.{◌≡◌, ℕ, ◌+◌, ◌-◌, ◌≤◌, List, ◌++◌, length, take, drop, replicate}
use Rattle.std.proofs.Common.{sym, ap, ◌∙◌, arith, append_assoc}
use Rattle.std.proofs.lemmas.List.{take_at, drop_at, drop-drop, drop-replicate, replicate-append-replicate, length-take-le, length-append, take-append-drop}
use Rattle.byte_fields.specs.Fields.{zeros, bytes_of, put, put_bytes}
use Rattle.byte_fields.specs.Fields.Order.{big}
use Rattle.byte_fields.specs.laws.ReadLaws.{length-bytes_of, length-zeros, length-put}
use Rattle.journal_blocks.specs.code.{IsFront}

drop-zeros : (n m : ℕ) → drop n (zeros m) ≡ zeros (m - n)
unfolding zeros
drop-zeros n m = drop-replicate n m 0

more-zeros : (n m k : ℕ) → m ≡ n + k → zeros m ≡ zeros n ++ zeros k
unfolding zeros
more-zeros n m k e = ap (λ (q : ℕ). replicate q 0) e ∙ sym (replicate-append-replicate n k 0)

later : (at n : ℕ) (b : List ℕ) → drop at b ≡ zeros (1024 - at) → drop (at + n) b ≡ zeros (1024 - (at + n))
later at n b rest =
    let less : 1024 - at - n ≡ 1024 - (at + n) = omega arith in
    sym (drop-drop n at b) ∙ (ap (drop n) rest ∙ (drop-zeros n (1024 - at) ∙ ap zeros less))

-- how long what is written is
pub length-front : (at : ℕ) (b : List ℕ) → IsFront at b → length (take at b) ≡ at
length-front at b k = let size = k.size in let within = k.within in length-take-le at b (omega arith)

module _ (at n x : ℕ) (b : List ℕ) (k : IsFront at b) (fits : at + n ≤ 1024) where
  split : put big n at x b ≡ (take at b ++ bytes_of big n x) ++ drop (at + n) b
  unfolding put put_bytes
  split =
      ap (λ (m : ℕ). take at b ++ (bytes_of big n x ++ drop (at + m) b)) (length-bytes_of big n x)
      ∙ sym (append_assoc (take at b) (bytes_of big n x) (drop (at + n) b))

  front_size : length (take at b ++ bytes_of big n x) ≡ at + n
  front_size =
      let a = length-append (take at b) (bytes_of big n x) in
      let c = length-front at b k in
      let d = length-bytes_of big n x in
      omega arith

  -- a number behind what is written
  pub front-put : IsFront (at + n) (put big n at x b)
  front-put = record {
    size = let size = k.size in length-put big n at x b (omega arith) ∙ size;
    within = fits;
    rest = ap (drop (at + n)) split ∙ (drop_at (take at b ++ bytes_of big n x) (drop (at + n) b) (at + n) front_size ∙ later at n b k.rest);
  }

  pub written-put : take (at + n) (put big n at x b) ≡ take at b ++ bytes_of big n x
  written-put = ap (take (at + n)) split ∙ take_at (take at b ++ bytes_of big n x) (drop (at + n) b) (at + n) front_size

-- zeros behind what is written
pub front-skip : (at n : ℕ) (b : List ℕ) → IsFront at b → at + n ≤ 1024 → IsFront (at + n) b
front-skip at n b k fits = record { size = k.size; within = fits; rest = later at n b k.rest }

-- the whole block
pub front-whole : (at : ℕ) (b : List ℕ) → IsFront at b → b ≡ take at b ++ zeros (1024 - at)
front-whole at b k = sym (take-append-drop at b) ∙ ap (λ xs. take at b ++ xs) k.rest

pub written-skip : (at n : ℕ) (b : List ℕ) → IsFront at b → at + n ≤ 1024 → take (at + n) b ≡ take at b ++ zeros n
written-skip at n b k fits =
    let size : length (take at b ++ zeros n) ≡ at + n = (let a = length-append (take at b) (zeros n) in let c = length-front at b k in let d = length-zeros n in omega arith) in
    let parts : b ≡ (take at b ++ zeros n) ++ zeros (1024 - at - n) =
    front-whole at b k
    ∙ (ap (λ xs. take at b ++ xs) (more-zeros n (1024 - at) (1024 - at - n) (omega arith))
    ∙ sym (append_assoc (take at b) (zeros n) (zeros (1024 - at - n)))) in
    ap (take (at + n)) parts ∙ take_at (take at b ++ zeros n) (zeros (1024 - at - n)) (at + n) size
