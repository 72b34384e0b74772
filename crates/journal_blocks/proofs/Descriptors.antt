-- Laws of descriptors: what is read of one that was written.
use Rattle.std.specs.Prelude.{◌≡◌, ℕ, zero, suc, ◌+◌, ◌-◌, ◌*◌, ◌/◌, ◌%◌, ◌^◌, ◌<◌, ◌≤◌, ◌==◌, not, Bool, true, false, nat_le, ◌&&◌, if◌then◌else◌, List, [], ◌∷◌, ◌++◌, length, drop, All, Ok, refl}
use Rattle.std.proofs.Common.{sym, ap, ◌∙◌, lit<, arith, append_assoc, length-append}
use Rattle.std.proofs.lemmas.Bool.{le-leb, and_from, ne_eqb}
use Rattle.std.proofs.lemmas.List.{drop_at}
use Rattle.std.proofs.lemmas.List.Elements.{All-head, All-tail}
use Rattle.byte_fields.specs.Fields.{zeros, bytes_of, number_at}
use Rattle.byte_fields.specs.Fields.Order.{big}
use Rattle.byte_fields.specs.laws.ReadLaws.{length-zeros, length-bytes_of}
use Rattle.journal_blocks.specs.declared.tag.Tag.{Tag}
use Rattle.journal_blocks.specs.declared.log_block.LogBlock.TheVariants.{Descriptor}
use Rattle.journal_blocks.specs.Header.{magic_of, kind_of, sequence_of}
use Rattle.journal_blocks.specs.Blocks.{has_flag, flags_in, front_size, block_number, number_size, tag_size, is_whole, tag_in, tags_in, tags_of, log_block_of}
use Rattle.journal_blocks.specs.Written.{flags_of, high_half, tag_bytes, tags_bytes, descriptor_block, most_tags}
use Rattle.journal_blocks.specs.laws.Numbers.{read_there, read_first}
use Rattle.journal_blocks.specs.laws.Headers.{header_there, held_there}
use Rattle.journal_blocks.specs.laws.Kinds.{is_descriptor}

flags_small : (escaped first last : Bool) → flags_of escaped first last < 256 ^ 2
flags_small true true true = lit< tt
flags_small true true false = lit< tt
flags_small true false true = lit< tt
flags_small true false false = lit< tt
flags_small false true true = lit< tt
flags_small false true false = lit< tt
flags_small false false true = lit< tt
flags_small false false false = lit< tt

-- each flag is the one that was written
flag_escaped : (escaped first last : Bool) → has_flag 1 (flags_of escaped first last) ≡ escaped
flag_escaped true true true = refl
flag_escaped true true false = refl
flag_escaped true false true = refl
flag_escaped true false false = refl
flag_escaped false true true = refl
flag_escaped false true false = refl
flag_escaped false false true = refl
flag_escaped false false false = refl

flag_same : (escaped first last : Bool) → has_flag 2 (flags_of escaped first last) ≡ not first
flag_same true true true = refl
flag_same true true false = refl
flag_same true false true = refl
flag_same true false false = refl
flag_same false true true = refl
flag_same false true false = refl
flag_same false false true = refl
flag_same false false false = refl

flag_last : (escaped first last : Bool) → has_flag 8 (flags_of escaped first last) ≡ last
flag_last true true true = refl
flag_last true true false = refl
flag_last true false true = refl
flag_last true false false = refl
flag_last false true true = refl
flag_last false true false = refl
flag_last false false true = refl
flag_last false false false = refl

half_small : (n : ℕ) → n % 2 ^ 32 < 256 ^ 4
half_small n = omega arith

-- the front of a tag, of six bytes, before its flags
abbrev front : Tag → List ℕ
front t = bytes_of big 4 (t.block % 2 ^ 32) ++ bytes_of big 2 0

rest_by : (ends : Bool) (ts more : List Tag) → ends ≡ (length ts == 0) → (0 < length ts → more ≡ ts) → (if ends then [] else more) ≡ ts
rest_by ends [] more e same = rw e refl
rest_by ends (u ∷ us) more e same = rw (e ∙ ne_eqb (suc (length us)) 0 (λ z. omega (arith, z))) (same (omega arith))

module _ (wide : Bool) where
  -- what stands behind the flags
  abbrev behind : Bool → Tag → List ℕ
  behind first t = high_half wide t ++ zeros (if first then 16 else 0)

  -- the bytes of a tag
  abbrev pub tag_length : Bool → ℕ
  tag_length first = front_size wide + (if first then 16 else 0)

  length-high : (t : Tag) → length (high_half wide t) ≡ (if wide then 4 else 0)
  length-high t = by wide
    where
      by : (w : Bool) → length (high_half w t) ≡ (if w then 4 else 0)
      by true = length-bytes_of big 4 (t.block / 2 ^ 32)
      by false = refl

  split_flags : (first last : Bool) (t : Tag) (rest : List ℕ) → tag_bytes wide first last t ++ rest ≡ front t ++ (bytes_of big 2 (flags_of t.escaped first last) ++ (behind first t ++ rest))
  split_flags first last t rest =
      let a = bytes_of big 4 (t.block % 2 ^ 32) in
      let b = bytes_of big 2 0 in
      let f = bytes_of big 2 (flags_of t.escaped first last) in
      let z = behind first t in
      append_assoc a (b ++ (f ++ z)) rest
      ∙ (ap (λ xs. a ++ xs) (append_assoc b (f ++ z) rest ∙ ap (λ xs. b ++ xs) (append_assoc f z rest))
      ∙ sym (append_assoc a b (f ++ (z ++ rest))))

  flags_there : (first last : Bool) (t : Tag) (rest : List ℕ) → flags_in (tag_bytes wide first last t ++ rest) ≡ flags_of t.escaped first last
  flags_there first last t rest =
      let size = length-append (bytes_of big 4 (t.block % 2 ^ 32)) (bytes_of big 2 0) in
      let four = length-bytes_of big 4 (t.block % 2 ^ 32) in
      let two = length-bytes_of big 2 0 in
      ap flags_in (split_flags first last t rest)
      ∙ read_there 2 (flags_of t.escaped first last) 6 (front t) (behind first t ++ rest) (omega arith) (flags_small t.escaped first last)

  low_there : (first last : Bool) (t : Tag) (rest : List ℕ) → number_at big 4 0 (tag_bytes wide first last t ++ rest) ≡ t.block % 2 ^ 32
  low_there first last t rest =
      ap (number_at big 4 0) (append_assoc (bytes_of big 4 (t.block % 2 ^ 32)) _ rest)
      ∙ read_first 4 (t.block % 2 ^ 32) ((bytes_of big 2 0 ++ (bytes_of big 2 (flags_of t.escaped first last) ++ behind first t)) ++ rest) (half_small t.block)

  pub length-tag : (first last : Bool) (t : Tag) → length (tag_bytes wide first last t) ≡ tag_length first
  length-tag first last t =
      let fs = bytes_of big 2 (flags_of t.escaped first last) in
      let zs = zeros (if first then 16 else 0) in
      let a = length-append (bytes_of big 4 (t.block % 2 ^ 32)) (bytes_of big 2 0 ++ (fs ++ (high_half wide t ++ zs))) in
      let b = length-append (bytes_of big 2 0) (fs ++ (high_half wide t ++ zs)) in
      let c = length-append fs (high_half wide t ++ zs) in
      let d = length-append (high_half wide t) zs in
      let e = length-bytes_of big 4 (t.block % 2 ^ 32) in
      let f = length-bytes_of big 2 0 in
      let h = length-bytes_of big 2 (flags_of t.escaped first last) in
      let k = length-high t in
      let z = length-zeros (if first then 16 else 0) in
      sizes wide first (length (tag_bytes wide first last t)) (length (high_half wide t)) (length zs) (omega (arith, a, b, c, d, e, f, h)) k z
    where
      sizes : (w first : Bool) (n hs zs : ℕ) → n ≡ 8 + hs + zs → hs ≡ (if w then 4 else 0) → zs ≡ (if first then 16 else 0) → n ≡ (if w then 12 else 8) + (if first then 16 else 0)
      sizes true first n hs zs a b c = omega arith
      sizes false first n hs zs a b c = omega arith

  size_there : (first last : Bool) (t : Tag) (rest : List ℕ) → tag_size wide (tag_bytes wide first last t ++ rest) ≡ tag_length first
  size_there first last t rest =
      ap (λ (f : ℕ). if has_flag 2 f then front_size wide else front_size wide + 16) (flags_there first last t rest)
      ∙ (ap (λ (b : Bool). if b then front_size wide else front_size wide + 16) (flag_same t.escaped first last) ∙ by first (front_size wide))
    where
      by : (first : Bool) (n : ℕ) → ◌≡◌ {A = ℕ} (if not first then n else n + 16) (n + (if first then 16 else 0))
      by true n = refl
      by false n = omega arith

-- the block of a tag, in both halves
block_there : (wide first last : Bool) (t : Tag) (rest : List ℕ) → t.block < 256 ^ number_size wide → block_number wide (tag_bytes wide first last t ++ rest) ≡ t.block
block_there false first last t rest fits = low_there false first last t rest ∙ omega arith
block_there true first last t rest fits =
    let f = bytes_of big 2 (flags_of t.escaped first last) in
    let h = bytes_of big 4 (t.block / 2 ^ 32) in
    let z = zeros (if first then 16 else 0) in
    let size = length-append (front t) f in
    let six = length-append (bytes_of big 4 (t.block % 2 ^ 32)) (bytes_of big 2 0) in
    let four = length-bytes_of big 4 (t.block % 2 ^ 32) in
    let two = length-bytes_of big 2 0 in
    let more = length-bytes_of big 2 (flags_of t.escaped first last) in
    let parts = split_flags true first last t rest ∙ (ap (λ xs. front t ++ (f ++ xs)) (append_assoc h z rest) ∙ sym (append_assoc (front t) f (h ++ (z ++ rest)))) in
    let high : number_at big 4 8 (tag_bytes true first last t ++ rest) ≡ t.block / 2 ^ 32 =
    ap (number_at big 4 8) parts ∙ read_there 4 (t.block / 2 ^ 32) 8 (front t ++ f) (z ++ rest) (omega arith) (omega arith) in
    let low = low_there true first last t rest in
    rw (high, low) (omega arith)

whole_by : (wide first : Bool) (size long rest : ℕ) → size ≡ tag_length wide first → long ≡ tag_length wide first + rest → (nat_le (front_size wide) long && nat_le size long) ≡ true
whole_by wide first size long rest a b = and_from _ _ (le-leb (front_size wide) long (omega arith)) (le-leb size long (omega arith))

module _ (wide : Bool) where
  -- one tag, and then the others
  one_read : (most : ℕ) (first : Bool) (t : Tag) (ts : List Tag) (rest : List ℕ) → t.block < 256 ^ number_size wide → (0 < length ts → tags_in wide most rest ≡ ts)
      → tags_in wide (suc most) (tag_bytes wide first (length ts == 0) t ++ rest) ≡ t ∷ ts
  one_read most first t ts rest fits more =
      let last = length ts == 0 in
      let b = tag_bytes wide first last t ++ rest in
      let size = size_there wide first last t rest in
      let long = length-tag wide first last t in
      let total = length-append (tag_bytes wide first last t) rest in
      let whole : is_whole wide b ≡ true = whole_by wide first (tag_size wide b) (length b) (length rest) size (total ∙ ap (λ (n : ℕ). n + length rest) long) in
      let block = block_there wide first last t rest fits in
      let escaped = ap (has_flag 1) (flags_there wide first last t rest) ∙ flag_escaped t.escaped first last in
      let tag : tag_in wide b ≡ t = rw (block, escaped) refl in
      let ends : has_flag 8 (flags_in b) ≡ last = ap (has_flag 8) (flags_there wide first last t rest) ∙ flag_last t.escaped first last in
      let back : drop (tag_size wide b) b ≡ rest = ap (λ (n : ℕ). drop n b) (size ∙ sym long) ∙ drop_at (tag_bytes wide first last t) rest (length (tag_bytes wide first last t)) refl in
      rw (whole, tag, ends, back) (ap (λ us. t ∷ us) (rest_by (length ts == 0) ts (tags_in wide most rest) refl more))

  -- tags that were written are read, whatever stands behind them
  pub tags_read : (most : ℕ) (first : Bool) (tags : List Tag) (rest : List ℕ) → length tags ≤ most → All (λ (t : Tag). t.block < 256 ^ number_size wide) tags → 0 < length tags
      → tags_in wide most (tags_bytes wide first tags ++ rest) ≡ tags
  tags_read zero first tags rest few fit some = absurd (omega arith)
  tags_read (suc most) first [] rest few fit some = absurd (omega arith)
  tags_read (suc most) first (t ∷ ts) rest few fit some =
      ap (tags_in wide (suc most)) (append_assoc (tag_bytes wide first (length ts == 0) t) (tags_bytes wide false ts) rest)
      ∙ one_read most first t ts (tags_bytes wide false ts ++ rest) (All-head (λ (u : Tag). u.block < 256 ^ number_size wide) t ts fit)
      (λ more. tags_read most false ts rest (omega arith) (All-tail (λ (u : Tag). u.block < 256 ^ number_size wide) t ts fit) more)

-- tags take at most so many bytes
pub length-tags : (wide first : Bool) (tags : List Tag) → length (tags_bytes wide first tags) ≤ front_size wide * length tags + (if first then 16 else 0)
length-tags wide first [] = omega arith
length-tags wide first (t ∷ ts) =
    let a = length-append (tag_bytes wide first (length ts == 0) t) (tags_bytes wide false ts) in
    let b = length-tag wide first (length ts == 0) t in
    let c = length-tags wide false ts in
    by wide first _ _ _ _ a b c
  where
    by : (w first : Bool) (n a b k : ℕ) → n ≡ a + b → a ≡ front_size w + (if first then 16 else 0) → b ≤ front_size w * k + 0 → n ≤ front_size w * suc k + (if first then 16 else 0)
    by true first n a b k h p q = omega arith
    by false first n a b k h p q = omega arith

-- so a descriptor has room for them behind its header
pub tags_fit : (wide : Bool) (tags : List Tag) → length tags ≤ most_tags wide → length (tags_bytes wide true tags) ≤ 1012
tags_fit true tags few = (let n = length-tags true true tags in omega arith)
tags_fit false tags few = (let n = length-tags false true tags in omega arith)

tags_there : (wide : Bool) (sequence : ℕ) (tags : List Tag) → 0 < length tags → length tags ≤ most_tags wide → All (λ (t : Tag). t.block < 256 ^ number_size wide) tags → tags_of wide (descriptor_block wide sequence tags) ≡ tags
unfolding descriptor_block tags_of
tags_there wide sequence tags some few fit =
    ap (tags_in wide 126) (held_there 1 sequence (tags_bytes wide true tags))
    ∙ tags_read wide 126 true tags (zeros (1012 - length (tags_bytes wide true tags))) (most wide few) fit some
  where
    most : (w : Bool) → length tags ≤ most_tags w → length tags ≤ 126
    most true few = omega arith
    most false few = omega arith

descriptor_header : (wide : Bool) (sequence : ℕ) (tags : List Tag) → sequence < 256 ^ 4
    → (magic_of (descriptor_block wide sequence tags) ≡ 0xC03B3998) × (kind_of (descriptor_block wide sequence tags) ≡ 1) × (sequence_of (descriptor_block wide sequence tags) ≡ sequence)
unfolding descriptor_block
descriptor_header wide sequence tags fits = header_there 1 sequence (tags_bytes wide true tags ++ zeros (1012 - length (tags_bytes wide true tags))) (lit< tt) fits

-- a descriptor that was written is read as its sequence and its tags
pub descriptor_read : (wide : Bool) (sequence : ℕ) (tags : List Tag) → sequence < 256 ^ 4 → 0 < length tags → length tags ≤ most_tags wide → All (λ (t : Tag). t.block < 256 ^ number_size wide) tags
    → log_block_of wide (descriptor_block wide sequence tags) ≡ Ok (Descriptor sequence tags)
descriptor_read wide sequence tags fits some few fit =
    let h = descriptor_header wide sequence tags fits in
    is_descriptor wide (descriptor_block wide sequence tags) sequence tags h.0 h.1 h.2 (tags_there wide sequence tags some few fit)
