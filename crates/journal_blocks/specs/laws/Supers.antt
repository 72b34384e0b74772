-- Laws of the superblock of a journal: what is read of one that was written.
use Rattle.std.specs.Prelude.{◌≡◌, ℕ, ◌^◌, ◌<◌, ◌==◌, Bool, true, false, not, ◌&&◌, nat_lt, if◌then◌else◌, IfOk, List, [], ◌∷◌, length, slice_index, Result, Ok, Err, refl}
use Rattle.std.proofs.Common.{sym, ap, ◌∙◌, subst, inl, inr, lit<, arith}
use Rattle.std.proofs.lemmas.Bool.{and_parts, and_from, eqb-true}
use Rattle.byte_fields.specs.Fields.{Apart, zeros, bytes_of, number_at, put, Field, field, are_laid_out, HaveFields}
use Rattle.byte_fields.specs.Fields.Order.{big}
use Rattle.byte_fields.specs.laws.ReadLaws.{fields_read, get_or-put_other, length-put, length-bytes_of, length-zeros, number_at-written}
use Rattle.journal_blocks.specs.declared.super_block.JournalSuper.{JournalSuper}
use Rattle.journal_blocks.specs.declared.fault.JournalFault.{JournalFault}
use Rattle.journal_blocks.specs.declared.fault.JournalFault.TheVariants.{NotMagic, BadKind, BadCount, Feature}
use Rattle.journal_blocks.specs.Header.{magic_of, kind_of}
use Rattle.journal_blocks.specs.Super.{super_fields, super_block, size_of, numbers_of, unknown_bits, has_places, super_of, with_tail, FitSuper, IsSound}

-- what a reader says, by its four tests
abbrev pub said : Bool → Bool → ℕ → Bool → JournalSuper → Result JournalSuper JournalFault
said magic kind unknown counts s =
    if not magic then Err NotMagic
    else if not kind then Err BadKind
    else if not (unknown == 0) then Err (Feature unknown)
    else if not counts then Err BadCount
    else Ok s

-- a block with the fields of a sound superblock is read
pub read_from : (b : List ℕ) (s : JournalSuper) → magic_of b ≡ 0xC03B3998 → kind_of b ≡ 4 → size_of b ≡ 1024 → numbers_of b ≡ s → (unknown_bits s.incompat == 0) ≡ true → has_places s ≡ true → super_of b ≡ Ok s
unfolding super_of
read_from b s magic kind size same known places =
    ap (λ (m : ℕ). said (m == 0xC03B3998) (kind_of b == 4) (unknown_bits (numbers_of b).incompat) ((size_of b == 1024) && has_places (numbers_of b)) (numbers_of b)) magic
    ∙ (ap (λ (k : ℕ). said true (k == 4) (unknown_bits (numbers_of b).incompat) ((size_of b == 1024) && has_places (numbers_of b)) (numbers_of b)) kind
    ∙ (ap (λ (n : ℕ). said true true (unknown_bits (numbers_of b).incompat) ((n == 1024) && has_places (numbers_of b)) (numbers_of b)) size
    ∙ (ap (λ (q : JournalSuper). said true true (unknown_bits q.incompat) (has_places q) q) same
    ∙ rw (known, places) refl)))

super_has : (s : JournalSuper) → HaveFields big (super_block s) (super_fields s)
unfolding super_block
super_has s = fields_read big 1024 (super_fields s) (zeros 1024) refl (length-zeros 1024)

same_numbers : (s : JournalSuper) → FitSuper s → numbers_of (super_block s) ≡ s
same_numbers s fits =
    let have = super_has s in
    let maxlen : number_at big 4 0x10 (super_block s) ≡ s.maxlen = have.1.1.1.1.0 fits.maxlen in
    let first : number_at big 4 0x14 (super_block s) ≡ s.first = have.1.1.1.1.1.0 fits.first in
    let sequence : number_at big 4 0x18 (super_block s) ≡ s.sequence = have.1.1.1.1.1.1.0 fits.sequence in
    let start : number_at big 4 0x1C (super_block s) ≡ s.start = have.1.1.1.1.1.1.1.0 fits.start in
    let incompat : number_at big 4 0x28 (super_block s) ≡ s.incompat = have.1.1.1.1.1.1.1.1.0 fits.incompat in
    rw (maxlen, first, sequence, start, incompat) refl

-- what was written of a sound superblock is read back
pub super_read : (s : JournalSuper) → IsSound s → super_of (super_block s) ≡ Ok s
super_read s sound =
    let have = super_has s in
    read_from (super_block s) s (have.0 (lit< tt)) (have.1.0 (lit< tt)) (have.1.1.1.0 (lit< tt)) (same_numbers s sound.fits) sound.known sound.places

said_ok_by : (magic kind known counts : Bool) (unknown : ℕ) (s q : JournalSuper) → (unknown == 0) ≡ known → said magic kind unknown counts s ≡ Ok q → (magic ≡ true) × (kind ≡ true) × (known ≡ true) × (counts ≡ true) × (s ≡ q)
said_ok_by false kind known counts unknown s q e h = absurd (cc)
said_ok_by true false known counts unknown s q e h = absurd (cc)
said_ok_by true true false counts unknown s q e h = absurd (let k = rw e at h in cc)
said_ok_by true true true false unknown s q e h = absurd (let k = rw e at h in cc)
said_ok_by true true true true unknown s q e h = (refl, refl, refl, refl, let k = rw e at h in cc)

said_ok : (magic kind counts : Bool) (unknown : ℕ) (s q : JournalSuper) → said magic kind unknown counts s ≡ Ok q → (magic ≡ true) × (kind ≡ true) × ((unknown == 0) ≡ true) × (counts ≡ true) × (s ≡ q)
said_ok magic kind counts unknown s q h = said_ok_by magic kind (unknown == 0) counts unknown s q refl h

-- what was read of a superblock
pub read_parts : (b : List ℕ) (s : JournalSuper) → super_of b ≡ Ok s → (magic_of b ≡ 0xC03B3998) × (kind_of b ≡ 4) × (size_of b ≡ 1024) × (numbers_of b ≡ s) × ((unknown_bits s.incompat == 0) ≡ true) × (has_places s ≡ true)
unfolding super_of
read_parts b s h =
    let parts = said_ok (magic_of b == 0xC03B3998) (kind_of b == 4) ((size_of b == 1024) && has_places (numbers_of b)) (unknown_bits (numbers_of b).incompat) (numbers_of b) s h in
    let counts = and_parts (size_of b == 1024) (has_places (numbers_of b)) parts.3 in
    (eqb-true _ _ parts.0, eqb-true _ _ parts.1, eqb-true _ _ counts.0, parts.4, subst (λ (q : JournalSuper). (unknown_bits q.incompat == 0) ≡ true) parts.4 parts.2, subst (λ (q : JournalSuper). has_places q ≡ true) parts.4 counts.1)

abbrev tail_fields : ℕ → ℕ → List Field
tail_fields sequence start = field 4 0x18 sequence ∷ field 4 0x1C start ∷ []

-- a number beside the tail is read as before
beside_tail : (at sequence start : ℕ) (b : List ℕ) → length b ≡ 1024 → are_laid_out 1024 (field 4 at 0 ∷ tail_fields sequence start) ≡ true → number_at big 4 at (with_tail sequence start b) ≡ number_at big 4 at b
unfolding with_tail
beside_tail at sequence start b size apart = number_at-written big 1024 (field 4 at 0) (tail_fields sequence start) b apart size

tail_has : (sequence start : ℕ) (b : List ℕ) → length b ≡ 1024 → HaveFields big (with_tail sequence start b) (tail_fields sequence start)
unfolding with_tail
tail_has sequence start b size = fields_read big 1024 (tail_fields sequence start) b refl size

-- the log is empty, and its places are as before
empty_places : (s : JournalSuper) (sequence : ℕ) → has_places s ≡ true → has_places (record s { sequence = sequence; start = 0 }) ≡ true
empty_places s sequence h =
    let a = and_parts (nat_lt 0 s.first) _ h in
    let b = and_parts (nat_lt s.first s.maxlen) _ a.1 in
    and_from _ _ a.0 (and_from _ _ b.0 refl)

-- another tail in a superblock leaves its other numbers
pub tail_read : (b : List ℕ) (s : JournalSuper) (sequence : ℕ) → length b ≡ 1024 → super_of b ≡ Ok s → sequence < 2 ^ 32 → super_of (with_tail sequence 0 b) ≡ Ok (record s { sequence = sequence; start = 0 })
tail_read b s sequence size h fits =
    let parts = read_parts b s h in
    let have = tail_has sequence 0 b size in
    let is_next : number_at big 4 0x18 (with_tail sequence 0 b) ≡ sequence = have.0 fits in
    let is_empty : number_at big 4 0x1C (with_tail sequence 0 b) ≡ 0 = have.1.0 (lit< tt) in
    let maxlen = beside_tail 0x10 sequence 0 b size refl in
    let first = beside_tail 0x14 sequence 0 b size refl in
    let incompat = beside_tail 0x28 sequence 0 b size refl in
    let same : numbers_of (with_tail sequence 0 b) ≡ record s { sequence = sequence; start = 0 } =
    rw (is_next, is_empty, maxlen, first, incompat) (ap (λ (q : JournalSuper). let made : JournalSuper = record q { sequence = sequence; start = 0 } in made) parts.3) in
    read_from (with_tail sequence 0 b) (record s { sequence = sequence; start = 0 })
    (beside_tail 0 sequence 0 b size refl ∙ parts.0) (beside_tail 4 sequence 0 b size refl ∙ parts.1) (beside_tail 0x0C sequence 0 b size refl ∙ parts.2) same
    parts.4 (empty_places s sequence parts.5)

-- what is read is sound, where its numbers fit
pub super_sound : (b : List ℕ) (r : Result JournalSuper JournalFault) → r ≡ super_of b → IfOk r (λ s. FitSuper s) → IfOk r (λ s. IsSound s)
super_sound b (Ok s) e fits = let parts = read_parts b s (sym e) in record { fits = fits; known = parts.4; places = parts.5 }
super_sound b (Err f) e fits = tt

apart_front : (k n : ℕ) → n ≡ 4 → Apart 1 k 8 0x18 → Apart 1 k n 0x18
apart_front k n e (inl before) = inl before
apart_front k n e (inr after) = inr (omega arith)

apart_back : (k n : ℕ) → n ≡ 4 → Apart 1 k 8 0x18 → Apart 1 k n 0x1C
apart_back k n e (inl before) = inl (omega arith)
apart_back k n e (inr after) = inr (omega arith)

-- no byte outside the tail changes
pub tail_bytes : (b : List ℕ) (sequence start k : ℕ) → length b ≡ 1024 → Apart 1 k 8 0x18 → slice_index (with_tail sequence start b) k ≡ slice_index b k
unfolding with_tail put
tail_bytes b sequence start k size apart =
    let inner = length-put big 4 0x1C start b (omega arith) in
    get_or-put_other 0x18 (bytes_of big 4 sequence) (put big 4 0x1C start b) k 0 (omega arith) (apart_front k (length (bytes_of big 4 sequence)) (length-bytes_of big 4 sequence) apart)
    ∙ get_or-put_other 0x1C (bytes_of big 4 start) b k 0 (omega arith) (apart_back k (length (bytes_of big 4 start)) (length-bytes_of big 4 start) apart)
