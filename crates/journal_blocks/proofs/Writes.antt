-- Tags and numbers that are written one behind the other.
use Rattle.std.specs.Prelude.{◌≡◌, ℕ, ◌+◌, ◌-◌, ◌%◌, ◌^◌, ◌<◌, ◌≤◌, ◌==◌, Bool, true, false, if◌then◌else◌, List, [], ◌∷◌, ◌++◌, length, drop, get_or, All}
use Rattle.std.proofs.Common.{sym, ap, ◌∙◌, inl, inr, arith, append_assoc, length-append, refl}
use Rattle.std.proofs.lemmas.Bool.{cases_Bool, eqb-true, eqb-false, eq-eqb, ne_eqb}
use Rattle.std.proofs.lemmas.List.{append-nil, drop_more, drop_all, length-drop}
use Rattle.std.proofs.lemmas.List.Elements.{All-weaker}
use Rattle.byte_fields.specs.Fields.{zeros, bytes_of}
use Rattle.byte_fields.specs.Fields.Order.{big}
use Rattle.journal_blocks.specs.declared.tag.Tag.{Tag}
use Rattle.journal_blocks.specs.Blocks.{front_size, number_size}
use Rattle.journal_blocks.specs.Written.{flags_of, high_half, tag_bytes, tags_bytes, numbers_bytes, header_bytes, block_with, most_tags}
use Rattle.journal_blocks.specs.laws.Headers.{length-header}
use Rattle.journal_blocks.proofs.Descriptors.{length-tag, tags_fit}

-- a block that was written up to here, and zeros
pub whole_block : (kind sequence : ℕ) (held b : List ℕ) → b ≡ header_bytes kind sequence ++ held → b ++ zeros (1024 - length b) ≡ block_with kind sequence held
whole_block kind sequence held b is =
    let size = length-append (header_bytes kind sequence) held in
    let twelve = length-header kind sequence in
    let same = ap length is in
    let left : 1024 - length b ≡ 1012 - length held = omega (arith, size, twelve, same) in
    ap (λ (n : ℕ). b ++ zeros n) left
    ∙ (ap (λ (xs : List ℕ). xs ++ zeros (1012 - length held)) is
    ∙ append_assoc (header_bytes kind sequence) held (zeros (1012 - length held)))

no_zeros : zeros 0 ≡ []
unfolding zeros
no_zeros = refl

pub no_uuid : (old : List ℕ) (first : Bool) → first ≡ false → old ≡ old ++ zeros (if first then 16 else 0)
no_uuid old first none = sym (append-nil old) ∙ (ap (λ (xs : List ℕ). old ++ xs) (sym no_zeros) ∙ ap (λ (f : Bool). old ++ zeros (if f then 16 else 0)) (sym none))

-- the parts of a tag, one behind the other
pub tag_whole : (wide : Bool) (t : Tag) (first last : Bool) (old one two three four five : List ℕ) → t.block < 2 ^ 32 → one ≡ old ++ bytes_of big 4 t.block → two ≡ one ++ bytes_of big 2 0
    → three ≡ two ++ bytes_of big 2 (flags_of t.escaped first last) → four ≡ three ++ high_half wide t → five ≡ four ++ zeros (if first then 16 else 0) → five ≡ old ++ tag_bytes wide first last t
tag_whole wide t first last old one two three four five small a b c d e =
    let whole : t.block ≡ t.block % 2 ^ 32 = omega (arith, small) in
    let low = bytes_of big 4 (t.block % 2 ^ 32) in
    let sum = bytes_of big 2 0 in
    let flags = bytes_of big 2 (flags_of t.escaped first last) in
    let high = high_half wide t in
    let uuid = zeros (if first then 16 else 0) in
    e ∙ (ap (λ (xs : List ℕ). xs ++ uuid) (d ∙ ap (λ (xs : List ℕ). xs ++ high) (c ∙ ap (λ (xs : List ℕ). xs ++ flags) (b ∙ ap (λ (xs : List ℕ). xs ++ sum) (a ∙ ap (λ (n : ℕ). old ++ bytes_of big 4 n) whole))))
    ∙ (append_assoc (((old ++ low) ++ sum) ++ flags) high uuid
    ∙ (append_assoc ((old ++ low) ++ sum) flags (high ++ uuid)
    ∙ (append_assoc (old ++ low) sum (flags ++ (high ++ uuid))
    ∙ append_assoc old low (sum ++ (flags ++ (high ++ uuid)))))))

last_is : (i n : ℕ) → i < n → (n - (i + 1) == 0) ≡ (i + 1 == n)
last_is i n lt =
    elim (cases_Bool (i + 1 == n)) [
      | inl e ↦ let same = eqb-true (i + 1) n e in let none : n - (i + 1) ≡ 0 = omega (arith, same) in eq-eqb (n - (i + 1)) 0 none ∙ sym e
      | inr e ↦ ne_eqb (n - (i + 1)) 0 (λ z. eqb-false (i + 1) n e (omega (arith, z, lt))) ∙ sym e
    ]

-- the next tag is written
pub tags_step : (wide : Bool) (front all new : List ℕ) (tags : List Tag) (i : ℕ) (d : Tag) → i < length tags → front ++ tags_bytes wide (i == 0) (drop i tags) ≡ all
    → new ≡ front ++ tag_bytes wide (i == 0) (i + 1 == length tags) (get_or tags i d) → new ++ tags_bytes wide (i + 1 == 0) (drop (i + 1) tags) ≡ all
tags_step wide front all new tags i d lt told is =
    let t = get_or tags i d in
    let rest = drop (i + 1) tags in
    let size : length rest ≡ length tags - (i + 1) = length-drop (i + 1) tags in
    let last : (length rest == 0) ≡ (i + 1 == length tags) = ap (λ (n : ℕ). n == 0) size ∙ last_is i (length tags) lt in
    let more : (i + 1 == 0) ≡ false = ne_eqb (i + 1) 0 (λ z. omega (arith, z)) in
    ap (λ (xs : List ℕ). xs ++ tags_bytes wide (i + 1 == 0) rest) is
    ∙ (ap (λ (f : Bool). (front ++ tag_bytes wide (i == 0) (i + 1 == length tags) t) ++ tags_bytes wide f rest) more
    ∙ (append_assoc front (tag_bytes wide (i == 0) (i + 1 == length tags) t) (tags_bytes wide false rest)
    ∙ (ap (λ (l : Bool). front ++ (tag_bytes wide (i == 0) l t ++ tags_bytes wide false rest)) (sym last)
    ∙ (ap (λ (ts : List Tag). front ++ tags_bytes wide (i == 0) ts) (sym (drop_more tags i d lt)) ∙ told))))

tags_long : (wide first : Bool) (t : Tag) (ts : List Tag) → front_size wide + (if first then 16 else 0) ≤ length (tags_bytes wide first (t ∷ ts))
tags_long wide first t ts =
    let a = length-append (tag_bytes wide first (length ts == 0) t) (tags_bytes wide false ts) in
    let b = length-tag wide first (length ts == 0) t in
    omega (arith, a, b)

-- there is room for the next tag
pub tags_room : (wide : Bool) (front : List ℕ) (sequence : ℕ) (tags : List Tag) (i : ℕ) (d : Tag) → i < length tags → length tags ≤ most_tags wide
    → front ++ tags_bytes wide (i == 0) (drop i tags) ≡ header_bytes 1 sequence ++ tags_bytes wide true tags → length front + (front_size wide + (if i == 0 then 16 else 0)) ≤ 1024
tags_room wide front sequence tags i d lt few told =
    let total = ap length told in
    let a = length-append front (tags_bytes wide (i == 0) (drop i tags)) in
    let b = length-append (header_bytes 1 sequence) (tags_bytes wide true tags) in
    let c = length-header 1 sequence in
    let e = tags_fit wide tags few in
    let long = tags_long wide (i == 0) (get_or tags i d) (drop (i + 1) tags) in
    let same = ap (λ (ts : List Tag). length (tags_bytes wide (i == 0) ts)) (drop_more tags i d lt) in
    omega (arith, total, a, b, c, e, long, same)

pub tags_done : (wide : Bool) (front all : List ℕ) (first : Bool) (tags : List Tag) (i : ℕ) → length tags ≤ i → front ++ tags_bytes wide first (drop i tags) ≡ all → front ≡ all
tags_done wide front all first tags i le told = sym (append-nil front) ∙ (ap (λ (ts : List Tag). front ++ tags_bytes wide first ts) (sym (drop_all i tags le)) ∙ told)

pub numbers_done : (wide : Bool) (front all : List ℕ) (numbers : List ℕ) (i : ℕ) → length numbers ≤ i → front ++ numbers_bytes wide (drop i numbers) ≡ all → front ≡ all
numbers_done wide front all numbers i le told = sym (append-nil front) ∙ (ap (λ (ns : List ℕ). front ++ numbers_bytes wide ns) (sym (drop_all i numbers le)) ∙ told)

-- a number of 32 bits fits into the bytes that it is written in
low_fits : (wide : Bool) (n : ℕ) → n < 2 ^ 32 → n < 256 ^ number_size wide
low_fits true n low = omega (arith, low)
low_fits false n low = low

pub low_fit : (wide : Bool) (tags : List Tag) → All (λ (t : Tag). t.block < 2 ^ 32) tags → All (λ (t : Tag). t.block < 256 ^ number_size wide) tags
low_fit wide tags low = All-weaker (λ (t : Tag). t.block < 2 ^ 32) (λ (t : Tag). t.block < 256 ^ number_size wide) (λ t h. low_fits wide t.block h) tags low

pub numbers_fit : (wide : Bool) (ns : List ℕ) → All (λ n. n < 2 ^ 32) ns → All (λ n. n < 256 ^ number_size wide) ns
numbers_fit wide ns low = All-weaker (λ n. n < 2 ^ 32) (λ n. n < 256 ^ number_size wide) (low_fits wide) ns low
