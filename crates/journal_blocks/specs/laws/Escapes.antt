-- Laws of escapes: a body that stands in the log is not like a block of the journal's own, and is restored as it was.
use Rattle.std.specs.Prelude.{◌≡◌, ◌≢◌, ℕ, ◌+◌, ◌<◌, ◌≤◌, ◌==◌, Bool, true, false, if◌then◌else◌, List, [], ◌∷◌, ◌++◌, length, drop, slice_index, refl}
use Rattle.std.proofs.Common.{sym, ap, ◌∙◌, lit<, arith}
use Rattle.std.proofs.lemmas.Bool.{eqb-true, eqb-false}
use Rattle.std.proofs.lemmas.List.{drop_at}
use Rattle.byte_fields.specs.Fields.{bytes_of, number_of, number_at, put, put_bytes}
use Rattle.byte_fields.specs.Fields.Order.{big}
use Rattle.byte_fields.specs.laws.ReadLaws.{length-bytes_of, number_at-put_same}
use Rattle.journal_blocks.specs.Header.{magic_of}
use Rattle.journal_blocks.specs.Blocks.{escaped, restored}

-- a number in the first four bytes
put_front : (x : ℕ) (b : List ℕ) → put big 4 0 x b ≡ bytes_of big 4 x ++ drop 4 b
unfolding put put_bytes
put_front x b =
    let size = length-bytes_of big 4 x in
    let four : 0 + length (bytes_of big 4 x) ≡ 4 = omega (arith, size) in
    ap (λ (n : ℕ). bytes_of big 4 x ++ drop n b) four

drop_front : (x : ℕ) (b : List ℕ) → drop 4 (put big 4 0 x b) ≡ drop 4 b
drop_front x b = ap (drop 4) (put_front x b) ∙ drop_at (bytes_of big 4 x) (drop 4 b) 4 (length-bytes_of big 4 x)

-- the later of two writes stays
put_twice : (x y : ℕ) (b : List ℕ) → put big 4 0 x (put big 4 0 y b) ≡ bytes_of big 4 x ++ drop 4 b
put_twice x y b = put_front x (put big 4 0 y b) ∙ ap (λ xs. bytes_of big 4 x ++ xs) (drop_front y b)

-- four bytes that read as the magic number are its bytes
magic_bytes : (p q r s : ℕ) (rest : List ℕ) → p < 256 → q < 256 → r < 256 → s < 256 → magic_of (p ∷ q ∷ r ∷ s ∷ rest) ≡ 0xC03B3998
    → bytes_of big 4 0xC03B3998 ++ rest ≡ p ∷ q ∷ r ∷ s ∷ rest
unfolding number_at number_of bytes_of
magic_bytes p q r s rest a b c d e =
    let first : 0xC0 ≡ p = omega (arith, e) in
    let second : 0x3B ≡ q = omega (arith, e) in
    let third : 0x39 ≡ r = omega (arith, e) in
    let fourth : 0x98 ≡ s = omega (arith, e) in
    rw (sym first, sym second, sym third, sym fourth) refl

front_is : (b : List ℕ) → 4 ≤ length b → ((i : ℕ) → slice_index b i < 256) → magic_of b ≡ 0xC03B3998 → bytes_of big 4 0xC03B3998 ++ drop 4 b ≡ b
front_is [] size fits magic = absurd (omega (arith, size))
front_is (p ∷ []) size fits magic = absurd (omega (arith, size))
front_is (p ∷ q ∷ []) size fits magic = absurd (omega (arith, size))
front_is (p ∷ q ∷ r ∷ []) size fits magic = absurd (omega (arith, size))
front_is (p ∷ q ∷ r ∷ s ∷ rest) size fits magic = magic_bytes p q r s rest (fits 0) (fits 1) (fits 2) (fits 3) magic

pub back_put : (b : List ℕ) → magic_of b ≡ 0xC03B3998 → 4 ≤ length b → ((i : ℕ) → slice_index b i < 256) → restored true (put big 4 0 0 b) ≡ b
unfolding restored
back_put b magic size fits = put_twice 0xC03B3998 0 b ∙ front_is b size fits magic

pub unlike_put : (b : List ℕ) → magic_of (put big 4 0 0 b) ≢ 0xC03B3998
unlike_put b h = let nothing : magic_of (put big 4 0 0 b) ≡ 0 = number_at-put_same big 4 0 0 b (omega arith) (lit< tt) in absurd (omega (arith, h, nothing))

back_by : (b : List ℕ) (same : Bool) (e : List ℕ × Bool) → (magic_of b == 0xC03B3998) ≡ same → e ≡ (if same then (put big 4 0 0 b, true) else (b, false)) → 4 ≤ length b → ((i : ℕ) → slice_index b i < 256)
    → restored e.1 e.0 ≡ b
unfolding restored
back_by b true e is made size fits = ap (λ (q : List ℕ × Bool). restored q.1 q.0) made ∙ back_put b (eqb-true _ _ is) size fits
back_by b false e is made size fits = ap (λ (q : List ℕ × Bool). restored q.1 q.0) made

-- the body that stands in the log is restored as it was
pub restored-escaped : (b : List ℕ) → 4 ≤ length b → ((i : ℕ) → slice_index b i < 256) → restored (escaped b).1 (escaped b).0 ≡ b
restored-escaped b size fits = back_by b (magic_of b == 0xC03B3998) (escaped b) refl refl size fits

unlike_by : (b : List ℕ) (same : Bool) (e : List ℕ × Bool) → (magic_of b == 0xC03B3998) ≡ same → e ≡ (if same then (put big 4 0 0 b, true) else (b, false)) → magic_of e.0 ≢ 0xC03B3998
unlike_by b true e is made h = unlike_put b (sym (ap (λ (q : List ℕ × Bool). magic_of q.0) made) ∙ h)
unlike_by b false e is made h = eqb-false _ _ is (sym (ap (λ (q : List ℕ × Bool). magic_of q.0) made) ∙ h)

-- and it does not begin with the magic number
pub unlike-escaped : (b : List ℕ) → magic_of (escaped b).0 ≢ 0xC03B3998
unlike-escaped b = unlike_by b (magic_of b == 0xC03B3998) (escaped b) refl refl
