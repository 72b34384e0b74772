-- Laws of revoke blocks and commit blocks: what is read of one that was written.
use Rattle.std.specs.Prelude.{◌≡◌, ◌≢◌, ℕ, Bool, not, ◌+◌, ◌-◌, ◌*◌, ◌/◌, ◌%◌, ◌^◌, ◌<◌, ◌≤◌, true, false, List, [], ◌∷◌, ◌++◌, map, length, All, Ok, refl}
use Rattle.std.specs.List.{range_with_len}
use Rattle.std.proofs.Common.{sym, ap, ◌∙◌, lit<, arith, append_assoc, length-append}
use Rattle.std.proofs.lemmas.Bool.{le-leb, and_from, eq-eqb}
use Rattle.std.proofs.lemmas.List.{length-map}
use Rattle.std.proofs.lemmas.List.FromFn.{length-range_with_len}
use Rattle.std.proofs.lemmas.List.Elements.{All-head, All-tail}
use Rattle.byte_fields.specs.Fields.{zeros, bytes_of, number_at}
use Rattle.byte_fields.specs.Fields.Order.{big}
use Rattle.byte_fields.specs.laws.ReadLaws.{length-bytes_of}
use Rattle.journal_blocks.specs.declared.log_block.LogBlock.TheVariants.{Commit, Revoke}
use Rattle.journal_blocks.specs.Header.{magic_of, kind_of, sequence_of}
use Rattle.journal_blocks.specs.Blocks.{count_of, is_count, number_size, revoked_at, revoked_of, log_block_of}
use Rattle.journal_blocks.specs.Written.{header_bytes, numbers_bytes, revoke_block, commit_block, most_revokes}
use Rattle.journal_blocks.specs.laws.Numbers.{read_there}
use Rattle.journal_blocks.specs.laws.Headers.{header_there, length-header}
use Rattle.journal_blocks.specs.laws.Kinds.{is_commit, is_revoke}
use Rattle.journal_blocks.specs.laws.Faults.{revoked_told}

module _ (wide : Bool) where
  abbrev s : ℕ
  s = number_size wide

  -- numbers that stand one behind the other from place 16 + s * k on
  numbers_there : (k : ℕ) (ns front rest b : List ℕ) → b ≡ front ++ (numbers_bytes wide ns ++ rest) → length front ≡ 16 + s * k → All (λ n. n < 256 ^ s) ns
      → map (revoked_at wide b) (range_with_len k (length ns)) ≡ ns
  numbers_there k [] front rest b is size fit = refl
  numbers_there k (n ∷ ns) front rest b is size fit =
      let split : b ≡ front ++ (bytes_of big s n ++ (numbers_bytes wide ns ++ rest)) = is ∙ ap (λ xs. front ++ xs) (append_assoc (bytes_of big s n) (numbers_bytes wide ns) rest) in
      let here : revoked_at wide b k ≡ n = ap (number_at big s (16 + s * k)) split ∙ read_there s n (16 + s * k) front (numbers_bytes wide ns ++ rest) size (All-head (λ m. m < 256 ^ s) n ns fit) in
      let next : length (front ++ bytes_of big s n) ≡ 16 + s * (k + 1) = (let a = length-append front (bytes_of big s n) in let c = length-bytes_of big s n in omega (arith, a, c, size)) in
      let more = numbers_there (k + 1) ns (front ++ bytes_of big s n) rest b (split ∙ sym (append_assoc front (bytes_of big s n) (numbers_bytes wide ns ++ rest))) next (All-tail (λ m. m < 256 ^ s) n ns fit) in
      ap (λ m. m ∷ map (revoked_at wide b) (range_with_len (k + 1) (length ns))) here ∙ ap (λ ms. n ∷ ms) more

  -- header and count, and then the numbers
  abbrev front_bytes : ℕ → ℕ → List ℕ
  front_bytes sequence count = header_bytes 5 sequence ++ bytes_of big 4 count

  abbrev bytes_left : List ℕ → List ℕ
  bytes_left held = zeros (1012 - length held)

  revoke_split : (sequence : ℕ) (blocks : List ℕ) → revoke_block wide sequence blocks
      ≡ header_bytes 5 sequence ++ (bytes_of big 4 (16 + s * length blocks) ++ (numbers_bytes wide blocks ++ bytes_left (bytes_of big 4 (16 + s * length blocks) ++ numbers_bytes wide blocks)))
  unfolding revoke_block
  revoke_split sequence blocks = ap (λ xs. header_bytes 5 sequence ++ xs) (append_assoc (bytes_of big 4 (16 + s * length blocks)) (numbers_bytes wide blocks) _)

count_small : (wide : Bool) (n : ℕ) → n ≤ most_revokes wide → 16 + number_size wide * n ≤ 1024
count_small true n few = omega arith
count_small false n few = omega arith

how_many : (wide : Bool) (n : ℕ) → (16 + number_size wide * n - 16) / number_size wide ≡ n
how_many true n = omega arith
how_many false n = omega arith

count_there : (wide : Bool) (sequence : ℕ) (blocks : List ℕ) → length blocks ≤ most_revokes wide → count_of (revoke_block wide sequence blocks) ≡ 16 + number_size wide * length blocks
count_there wide sequence blocks few =
    let small = count_small wide (length blocks) few in
    ap (count_of) (revoke_split wide sequence blocks)
    ∙ read_there 4 (16 + number_size wide * length blocks) 12 (header_bytes 5 sequence) _ (length-header 5 sequence) (omega (arith, small, lit<))

right_count : (wide : Bool) (n : ℕ) → n ≤ most_revokes wide → is_count wide (16 + number_size wide * n) ≡ true
right_count wide n few =
    let small = count_small wide n few in
    and_from _ _ (le-leb 16 (16 + number_size wide * n) (omega arith)) (and_from _ _ (le-leb (16 + number_size wide * n) 1024 (omega arith)) (eq-eqb ((16 + number_size wide * n) % number_size wide) 0 (whole wide n)))
  where
    whole : (w : Bool) (n : ℕ) → (16 + number_size w * n) % number_size w ≡ 0
    whole true n = omega arith
    whole false n = omega arith

numbers_read : (wide : Bool) (sequence : ℕ) (blocks : List ℕ) → length blocks ≤ most_revokes wide → All (λ n. n < 256 ^ number_size wide) blocks → revoked_of wide (revoke_block wide sequence blocks) ≡ blocks
unfolding revoked_of
numbers_read wide sequence blocks few fit =
    let count = 16 + number_size wide * length blocks in
    let b = revoke_block wide sequence blocks in
    let a = length-append (header_bytes 5 sequence) (bytes_of big 4 count) in
    let h = length-header 5 sequence in
    let f = length-bytes_of big 4 count in
    let size : length (front_bytes wide sequence count) ≡ 16 + number_size wide * 0 = omega (arith, a, h, f) in
    ap (λ (c : ℕ). map (revoked_at wide b) (range_with_len 0 ((c - 16) / number_size wide))) (count_there wide sequence blocks few)
    ∙ (ap (λ (n : ℕ). map (revoked_at wide b) (range_with_len 0 n)) (how_many wide (length blocks))
    ∙ numbers_there wide 0 blocks (front_bytes wide sequence count) _ b (revoke_split wide sequence blocks ∙ sym (append_assoc (header_bytes 5 sequence) (bytes_of big 4 count) _)) size fit)

revoke_header : (wide : Bool) (sequence : ℕ) (blocks : List ℕ) → sequence < 256 ^ 4
    → (magic_of (revoke_block wide sequence blocks) ≡ 0xC03B3998) × (kind_of (revoke_block wide sequence blocks) ≡ 5) × (sequence_of (revoke_block wide sequence blocks) ≡ sequence)
unfolding revoke_block
revoke_header wide sequence blocks fits = header_there 5 sequence _ (lit< tt) fits

-- a revoke block that was written is read as its sequence and its blocks
pub revoke_read : (wide : Bool) (sequence : ℕ) (blocks : List ℕ) → sequence < 256 ^ 4 → length blocks ≤ most_revokes wide → All (λ n. n < 256 ^ number_size wide) blocks
    → log_block_of wide (revoke_block wide sequence blocks) ≡ Ok (Revoke sequence blocks)
revoke_read wide sequence blocks fits few fit =
    let h = revoke_header wide sequence blocks fits in
    is_revoke wide (revoke_block wide sequence blocks) sequence blocks h.0 h.1 h.2
    (ap (is_count wide) (count_there wide sequence blocks few) ∙ right_count wide (length blocks) few) (numbers_read wide sequence blocks few fit)

-- how many blocks are read of a revoke block, in a journal of either kind
length-revoked : (wide : Bool) (b : List ℕ) → length (revoked_of wide b) ≡ (count_of b - 16) / number_size wide
unfolding revoked_of
length-revoked wide b =
    let n = (count_of b - 16) / number_size wide in
    length-map (range_with_len 0 n) (revoked_at wide b) ∙ length-range_with_len 0 n

other_many : (wide : Bool) (n : ℕ) → 0 < n → (16 + number_size wide * n - 16) / number_size (not wide) ≢ n
other_many true n some e = omega (arith, e, some)
other_many false n some e = omega (arith, e, some)

-- a revoke block that was written is read as another one in a journal of the other kind
pub other_read : (wide : Bool) (sequence : ℕ) (blocks : List ℕ) → 0 < length blocks → length blocks ≤ most_revokes wide → log_block_of (not wide) (revoke_block wide sequence blocks) ≢ Ok (Revoke sequence blocks)
other_read wide sequence blocks some few e =
    let b = revoke_block wide sequence blocks in
    let many = length-revoked (not wide) b ∙ ap (λ (c : ℕ). (c - 16) / number_size (not wide)) (count_there wide sequence blocks few) in
    other_many wide (length blocks) some (sym many ∙ ap length (revoked_told (not wide) b sequence blocks e))

commit_header : (sequence : ℕ) → sequence < 256 ^ 4
    → (magic_of (commit_block sequence) ≡ 0xC03B3998) × (kind_of (commit_block sequence) ≡ 2) × (sequence_of (commit_block sequence) ≡ sequence)
unfolding commit_block
commit_header sequence fits = header_there 2 sequence _ (lit< tt) fits

-- a commit block that was written is read as its sequence
pub commit_read : (wide : Bool) (sequence : ℕ) → sequence < 256 ^ 4 → log_block_of wide (commit_block sequence) ≡ Ok (Commit sequence)
commit_read wide sequence fits = let h = commit_header sequence fits in is_commit wide (commit_block sequence) sequence h.0 h.1 h.2
