-- The reader of `log_model` has the same transactions as the log, as long as sequences do not wrap.
use Rattle.std.specs.Prelude.{◌≡◌, ℕ, zero, suc, ◌+◌, ◌-◌, ◌^◌, ◌%◌, ◌<◌, ◌≤◌, ◌==◌, Bool, true, false, if◌then◌else◌, List, [], ◌∷◌, ◌++◌, length, map, Result, Ok, Err, refl}
use Rattle.std.specs.List.{range_with_len}
use Rattle.std.proofs.Common.{sym, ap, ◌∙◌, arith, length-append}
use Rattle.std.proofs.lemmas.List.{append-nil, length-map}
use Rattle.std.proofs.lemmas.List.FromFn.{length-range_with_len}
use Rattle.std.proofs.lemmas.Bool.{eq-eqb, ne_eqb}
use Rattle.log_model.specs.Marks.{Logged, Transaction}
use Rattle.log_model.specs.Log as model
use Rattle.log_model.specs.Log.{Reader, Reading as Waiting, Stopped, done, take_header, take_block, take_blocks, from_sequence}
use Rattle.log_model.specs.Ring.{Ring, place_after, places_from}
use Rattle.journal_blocks.specs.declared.super_block.JournalSuper.{JournalSuper}
use Rattle.journal_blocks.specs.declared.tag.Tag.{Tag}
use Rattle.journal_blocks.specs.declared.log_block.LogBlock.{LogBlock}
use Rattle.journal_blocks.specs.declared.log_block.LogBlock.TheVariants.{Descriptor, Commit, Revoke}
use Rattle.journal_blocks.specs.declared.fault.JournalFault.{JournalFault}
use Rattle.journal_blocks.specs.declared.fault.JournalFault.TheVariants.{NotMagic, BadKind, BadCount, Feature, NoMemory}
use Rattle.journal_blocks.specs.Header.{sequence_of}
use Rattle.journal_blocks.specs.Super.{super_of, numbers_of, is_wide}
use Rattle.journal_blocks.specs.Blocks.{log_block_of}
use Rattle.journal_blocks.specs.Log.{Said, Tags, Ends, Revokes, BadRevoke, Nothing, said_by, said, Entry, Reading, Log, GoesOn, HasEnded, found, by_said, by_tags, read_log, beginning, body_at, places, entry_at, log_of}
use Rattle.journal_blocks.specs.Readers.{tag_of, header_by, header_of, tail_of, format, ring_of}
use Rattle.journal_blocks.specs.laws.Supers.{read_parts}

abbrev reader_of : Log → Reader
reader_of (GoesOn r) = Waiting r.sequence (map tag_of r.tags) r.bodies r.revokes r.done
reader_of (HasEnded r) = Stopped r.done

no_wrap : (n : ℕ) → n + 1 < 2 ^ 32 → (n + 1) % 2 ^ 32 ≡ n + 1
no_wrap n lt = omega arith

none_wait : (r : Reading) (bs : List ℕ) → r.tags ≡ [] → Waiting r.sequence (map tag_of r.tags) r.bodies bs r.done ≡ Waiting r.sequence [] r.bodies bs r.done
none_wait r bs none = ap (λ (ts : List Tag). Waiting r.sequence (map tag_of ts) r.bodies bs r.done) none

-- a block of the sequence that is expected, where no body is due
own_same : (zones at : ℕ) (r : Reading) (n : ℕ) (w : Result LogBlock JournalFault) → r.tags ≡ [] → r.sequence + 1 < 2 ^ 32 → (n == r.sequence) ≡ true
    → reader_of (by_said zones r at (said_by w)) ≡ take_header r.sequence r.bodies r.revokes r.done (header_by n w)
own_same zones at r n (Ok (Descriptor m tags)) none fits own = rw own refl
own_same zones at r n (Ok (Commit m)) none fits own = rw own (ap (λ (k : ℕ). Waiting k [] [] [] (r.done ++ record { bodies = r.bodies; revokes = r.revokes } ∷ [])) (no_wrap r.sequence fits))
own_same zones at r n (Ok (Revoke m blocks)) none fits own = rw own (none_wait r (r.revokes ++ blocks) none)
own_same zones at r n (Err BadCount) none fits own = rw own (none_wait r r.revokes none ∙ ap (λ (bs : List ℕ). Waiting r.sequence [] r.bodies bs r.done) (sym (append-nil r.revokes)))
own_same zones at r n (Err NotMagic) none fits own = refl
own_same zones at r n (Err BadKind) none fits own = refl
own_same zones at r n (Err (Feature bits)) none fits own = refl
own_same zones at r n (Err NoMemory) none fits own = refl

other_seq : (seq n : ℕ) (bodies : List Logged) (revokes : List ℕ) (txs : List Transaction) (w : Result LogBlock JournalFault) → (n == seq) ≡ false → take_header seq bodies revokes txs (header_by n w) ≡ Stopped txs
other_seq seq n bodies revokes txs (Ok (Descriptor m tags)) other = rw other refl
other_seq seq n bodies revokes txs (Ok (Commit m)) other = rw other refl
other_seq seq n bodies revokes txs (Ok (Revoke m blocks)) other = rw other refl
other_seq seq n bodies revokes txs (Err BadCount) other = rw other refl
other_seq seq n bodies revokes txs (Err NotMagic) other = refl
other_seq seq n bodies revokes txs (Err BadKind) other = refl
other_seq seq n bodies revokes txs (Err (Feature bits)) other = refl
other_seq seq n bodies revokes txs (Err NoMemory) other = refl

due_by : (own : Bool) (zones at : ℕ) (r : Reading) (n : ℕ) (w : Result LogBlock JournalFault) → r.tags ≡ [] → r.sequence + 1 < 2 ^ 32 → (n == r.sequence) ≡ own
    → reader_of (by_said zones r at (if own then said_by w else Nothing)) ≡ take_header r.sequence r.bodies r.revokes r.done (header_by n w)
due_by true zones at r n w none fits is = own_same zones at r n w none fits is
due_by false zones at r n w none fits is = sym (other_seq r.sequence n r.bodies r.revokes r.done w is)

due : (wide : Bool) (zones at : ℕ) (r : Reading) (b : List ℕ) → r.tags ≡ [] → r.sequence + 1 < 2 ^ 32 → reader_of (by_said zones r at (said wide r.sequence b)) ≡ take_header r.sequence r.bodies r.revokes r.done (header_of wide b)
unfolding said header_of
due wide zones at r b none fits = due_by (sequence_of b == r.sequence) zones at r (sequence_of b) (log_block_of wide b) none fits refl

one_by : (wide : Bool) (zones : ℕ) (r : Reading) (e : Entry) (ts : List Tag) → r.tags ≡ ts → r.sequence + 1 < 2 ^ 32 → reader_of (by_tags wide zones r e ts) ≡ take_block (format wide) (Waiting r.sequence (map tag_of ts) r.bodies r.revokes r.done) e.body
one_by wide zones r e [] same fits = due wide zones e.at r e.body same fits
one_by wide zones r e (t ∷ ts) same fits = refl

said_rises : (zones : ℕ) (r : Reading) (at : ℕ) (w : Said) → (found (by_said zones r at w)).sequence ≤ r.sequence + 1
said_rises zones r at (Tags ts) = omega arith
said_rises zones r at Ends = omega arith
said_rises zones r at (Revokes blocks) = omega arith
said_rises zones r at BadRevoke = omega arith
said_rises zones r at Nothing = omega arith

-- the sequence rises by at most one a block
rises : (wide : Bool) (zones : ℕ) (r : Reading) (e : Entry) (ts : List Tag) → (found (by_tags wide zones r e ts)).sequence ≤ r.sequence + 1
rises wide zones r e (t ∷ ts) = omega arith
rises wide zones r e [] = said_rises zones r e.at (said wide r.sequence e.body)

abbrev bodies_in : List Entry → List (List ℕ)
bodies_in es = map (λ (e : Entry). e.body) es

-- the reader has read the same transactions
same_done : (wide : Bool) (zones : ℕ) (l : Log) (es : List Entry) → (found l).sequence + length es < 2 ^ 32 → done (take_blocks (format wide) (reader_of l) (bodies_in es)) ≡ (found (read_log wide zones l es)).done
same_done wide zones (GoesOn r) [] fits = refl
same_done wide zones (HasEnded r) [] fits = refl
same_done wide zones (HasEnded r) (e ∷ es) fits = same_done wide zones (HasEnded r) es (omega arith)
same_done wide zones (GoesOn r) (e ∷ es) fits =
    let up = rises wide zones r e r.tags in
    ap (λ (q : Reader). done (take_blocks (format wide) q (bodies_in es))) (sym (one_by wide zones r e r.tags refl (omega arith)))
    ∙ same_done wide zones (by_tags wide zones r e r.tags) es (omega arith)

-- ---- the ring: the places from the log's start round to before it

place_next : (r : Ring) (p : ℕ) → p + 1 < r.past → place_after r p ≡ p + 1
place_next r p lt = rw (ne_eqb (p + 1) r.past (λ e. omega (arith, e, lt))) refl

place_round : (r : Ring) (p : ℕ) → p + 1 ≡ r.past → place_after r p ≡ r.first
place_round r p e = rw (eq-eqb (p + 1) r.past e) refl

-- before the end they rise
rising : (r : Ring) (k p : ℕ) → p + k < r.past → places_from r k p ≡ range_with_len p k
rising r zero p lt = refl
rising r (suc k) p lt =
    ap (λ xs. p ∷ xs) (ap (places_from r k) (place_next r p (omega arith)) ∙ rising r k (p + 1) (omega arith))

-- up to the end, and on from the first
up_to_end : (r : Ring) (m n k p : ℕ) → p + suc m ≡ r.past → n ≡ m + k → places_from r (suc n) p ≡ range_with_len p (suc m) ++ places_from r k r.first
up_to_end r zero n k p e f =
    let round : p + 1 ≡ r.past = omega arith in
    let same : n ≡ k = omega arith in
    ap (λ q. p ∷ places_from r n q) (place_round r p round) ∙ ap (λ (j : ℕ). p ∷ places_from r j r.first) same
up_to_end r (suc m) zero k p e f = absurd (omega arith)
up_to_end r (suc m) (suc n) k p e f =
    ap (λ q. p ∷ places_from r (suc n) q) (place_next r p (omega arith)) ∙ ap (λ xs. p ∷ xs) (up_to_end r m n k (p + 1) (omega arith) (omega arith))

same_places : (r : Ring) (start : ℕ) → r.first ≤ start → start < r.past → places_from r (r.past - r.first) start ≡ range_with_len start (r.past - start) ++ range_with_len r.first (start - r.first)
same_places r start low high =
    let all : r.past - r.first ≡ suc (r.past - r.first - 1) = omega arith in
    let front : r.past - start ≡ suc (r.past - start - 1) = omega arith in
    ap (λ (n : ℕ). places_from r n start) all
    ∙ (up_to_end r (r.past - start - 1) (r.past - r.first - 1) (start - r.first) start (omega arith) (omega arith)
    ∙ (ap (λ (n : ℕ). range_with_len start n ++ places_from r (start - r.first) r.first) (sym front)
    ∙ ap (λ xs. range_with_len start (r.past - start) ++ xs) (rising r (start - r.first) r.first (omega arith))))

-- ---- the log of an image

bodies_there : (base : ℕ) (image : List (List ℕ)) (ps : List ℕ) → bodies_in (map (entry_at base image) ps) ≡ map (λ p. body_at image (base + p)) ps
bodies_there base image [] = refl
bodies_there base image (p ∷ ps) = ap (λ xs. body_at image (base + p) ∷ xs) (bodies_there base image ps)

-- how many places there are
pub length-places : (s : JournalSuper) → s.first ≤ s.start → s.start < s.maxlen → length (places s) ≡ s.maxlen - s.first
length-places s low high =
    let p = length-append (range_with_len s.start (s.maxlen - s.start)) (range_with_len s.first (s.start - s.first)) in
    let a = length-range_with_len s.start (s.maxlen - s.start) in
    let b = length-range_with_len s.first (s.start - s.first) in
    omega (arith, p, a, b)

-- both readers take the same blocks and have the same transactions
same_read : (base : ℕ) (s : JournalSuper) (image : List (List ℕ)) → s.first ≤ s.start → s.start < s.maxlen → s.sequence + s.maxlen < 2 ^ 32
    → done (take_blocks (format (is_wide s)) (from_sequence s.sequence) (map (λ p. body_at image (base + p)) (places_from (ring_of s) (s.maxlen - s.first) s.start))) ≡ (log_of base s image).done
unfolding log_of
same_read base s image low high fits =
    let size = length-map (places s) (entry_at base image) in
    let many = length-places s low high in
    ap (λ ps. done (take_blocks (format (is_wide s)) (from_sequence s.sequence) (map (λ p. body_at image (base + p)) ps))) (same_places (ring_of s) s.start low high)
    ∙ (ap (λ bs. done (take_blocks (format (is_wide s)) (from_sequence s.sequence) bs)) (sym (bodies_there base image (places s)))
    ∙ same_done (is_wide s) base (GoesOn (beginning s.sequence)) (map (entry_at base image) (places s)) (omega (arith, size, many, fits)))

tail_is : (b : List ℕ) (s : JournalSuper) → numbers_of b ≡ s → tail_of b ≡ record { sequence = s.sequence; start = s.start }
tail_is b s e = ap (λ (q : JournalSuper). let t : model.Tail = record { sequence = q.sequence; start = q.start } in t) e

-- the log that `log_model` reads of an image is the log of the image
pub same_log : (base : ℕ) (s : JournalSuper) (image : List (List ℕ)) → super_of (body_at image base) ≡ Ok s → s.first ≤ s.start → s.start < s.maxlen → 0 < s.start → s.sequence + s.maxlen < 2 ^ 32
    → model.log_of (format (is_wide s)) (ring_of s) base (body_at image) ≡ (log_of base s image).done
same_log base s image read low high some fits =
    let parts = read_parts (body_at image base) s read in
    let full : (s.start == 0) ≡ false = ne_eqb s.start 0 (λ e. omega (arith, e, some)) in
    ap (λ (t : model.Tail). if t.start == 0 then [] else done (take_blocks (format (is_wide s)) (from_sequence t.sequence) (map (λ p. body_at image (base + p)) (places_from (ring_of s) (s.maxlen - s.first) t.start)))) (tail_is (body_at image base) s parts.3)
    ∙ (ap (λ (b : Bool). if b then [] else done (take_blocks (format (is_wide s)) (from_sequence s.sequence) (map (λ p. body_at image (base + p)) (places_from (ring_of s) (s.maxlen - s.first) s.start)))) full
    ∙ same_read base s image low high fits)
