-- Superblocks of a journal by their tail, and blocks of a log that have no fault.
use Rattle.std.specs.Prelude.{◌≡◌, ◌≢◌, ℕ, zero, suc, ◌+◌, ◌^◌, ◌<◌, ◌≤◌, ◌==◌, ◌&&◌, ◌||◌, nat_lt, nat_le, Bool, true, false, List, [], length, map, Some, Ok, refl}
use Rattle.std.specs.List.{range_with_len}
use Rattle.std.proofs.Common.{sym, ap, subst, ◌∙◌, inl, inr, lit<, arith, leb-true, le-leb, lt-ltb, eq-eqb}
use Rattle.std.proofs.lemmas.Bool.{and_from, false≢true, true≢false, ltb-true}
use Rattle.std.proofs.lemmas.Option.{none-some}
use Rattle.blk_base.specs.Members.{In}
use Rattle.blk_base.specs.laws.Members.{In-list_any, map-In}
use Rattle.byte_fields.specs.Fields.{number_at}
use Rattle.byte_fields.specs.Fields.Order.{big}
use Rattle.order_model.specs.declared.note.Note.{Note}
use Rattle.order_model.specs.declared.note.Note.TheVariants as notes
use Rattle.log_model.specs.Log as model
use Rattle.log_model.specs.Log.{Header, Plain, Describes, Revokes, Commits, Tail}
use Rattle.log_model.specs.Ring.{Ring}
use Rattle.journal_blocks.specs.declared.super_block.JournalSuper.{JournalSuper}
use Rattle.journal_blocks.specs.declared.tag.Tag.{Tag}
use Rattle.journal_blocks.specs.Header.{sequence_of}
use Rattle.journal_blocks.specs.Log.{is_outside, IsFaulty}
use Rattle.journal_blocks.specs.Readers.{tag_of, header_by, header_of, tail_of, format}
use Rattle.journal_blocks.specs.Super.{super_block, super_of, numbers_of, unknown_bits, has_places}
use Rattle.journal_blocks.specs.laws.Supers.{read_from}
use Rattle.journal_ring.specs.running.Plan.{Writers}
use Rattle.crash_laws.specs.Rules.{HasHeader}
use Rattle.crash_laws.specs.Session.{log_transaction}
use Rattle.minix_host.proofs.RealJournal.{super_has}
use Rattle.call_sessions.specs.power_cuts.images.Requests.{IsLoggable, IsReadable}

-- ---- superblocks

has_place : (t : Bool) (first start past : ℕ) → (t ≡ false → (first ≤ start) × (start < past)) → (t || (nat_le first start && nat_lt start past)) ≡ true
has_place true first start past h = refl
has_place false first start past h = (let p = h refl in and_from (nat_le first start) (nat_lt start past) (le-leb first start p.0) (lt-ltb start past p.1))

pub places_fit : (s : JournalSuper) → 0 < s.first → s.first < s.maxlen → (s.start ≢ 0 → (s.first ≤ s.start) × (s.start < s.maxlen)) → has_places s ≡ true
places_fit s some more place =
    and_from _ _ (lt-ltb 0 s.first some)
    (and_from _ _ (lt-ltb s.first s.maxlen more) (has_place (s.start == 0) s.first s.start s.maxlen (λ e. place (λ z. true≢false (sym (eq-eqb s.start 0 z) ∙ e)))))

-- A superblock that was written is read with the tail that it has, whatever numbers that was written from.
pub super_as : (s : JournalSuper) (sequence start : ℕ) → s.maxlen < 2 ^ 32 → s.first < 2 ^ 32 → s.incompat < 2 ^ 32 → tail_of (super_block s) ≡ record { sequence = sequence; start = start } → (unknown_bits s.incompat == 0) ≡ true
    → has_places (record s { sequence = sequence; start = start }) ≡ true → super_of (super_block s) ≡ Ok (record s { sequence = sequence; start = start })
super_as s sequence start a b c tail known places =
    let have = super_has s in
    let maxlen : number_at big 4 0x10 (super_block s) ≡ s.maxlen = have.1.1.1.1.0 a in
    let first : number_at big 4 0x14 (super_block s) ≡ s.first = have.1.1.1.1.1.0 b in
    let next : number_at big 4 0x18 (super_block s) ≡ sequence = ap (λ (t : Tail). t.sequence) tail in
    let begins : number_at big 4 0x1C (super_block s) ≡ start = ap (λ (t : Tail). t.start) tail in
    let incompat : number_at big 4 0x28 (super_block s) ≡ s.incompat = have.1.1.1.1.1.1.1.1.0 c in
    let same : numbers_of (super_block s) ≡ record s { sequence = sequence; start = start } = rw (maxlen, first, next, begins, incompat) refl in
    read_from (super_block s) (record s { sequence = sequence; start = start }) (have.0 (lit< tt)) (have.1.0 (lit< tt)) (have.1.1.1.0 (lit< tt)) same known places

pub tail_is : (wide : Bool) (b : List ℕ) (s : JournalSuper) → numbers_of b ≡ s → (format wide).tail b ≡ record { sequence = s.sequence; start = s.start }
tail_is wide b s e = ap (λ (q : JournalSuper). let t : model.Tail = record { sequence = q.sequence; start = q.start } in t) e

pub ring_by : (a b c d : ℕ) → a ≡ c → b ≡ d → ◌≡◌ {A = Ring} (record { first = a; past = b }) (record { first = c; past = d })
ring_by a b c d p q = ap (λ (x : ℕ). let r : Ring = record { first = x; past = b } in r) p ∙ ap (λ (x : ℕ). let r : Ring = record { first = c; past = x } in r) q

pub range_in : (a n k : ℕ) → In k (range_with_len a n) → (a ≤ k) × (k < a + n)
range_in a zero k i = absurd i
range_in a (suc n) k (inl e) = (omega arith, omega arith)
range_in a (suc n) k (inr i) = (let r = range_in (a + 1) n k i in let lo = r.0 in let hi = r.1 in (omega arith, omega arith))

-- ---- blocks of the log

-- a header with which no reader finds a fault
abbrev pub IsClean : ℕ → Header → Type 0
IsClean zones (Describes sequence tags) = (t : model.Tag) → In t tags → IsLoggable zones t.block
IsClean zones (Revokes sequence blocks) = 1 ≤ length blocks
IsClean zones other = Unit {0}

inside : (zones : ℕ) (t : Tag) → is_outside zones t ≡ true → IsLoggable zones t.block → ⊥
inside zones t e good = by (nat_lt t.block 2) (nat_le zones t.block) refl refl e
  where
    by : (a b : Bool) → nat_lt t.block 2 ≡ a → nat_le zones t.block ≡ b → (a || b) ≡ true → ⊥
    by true b p q e = (let lt = ltb-true t.block 2 p in let lo = good.0 in omega arith)
    by false true p q e = (let le = leb-true zones t.block q in let hi = good.1 in omega arith)
    by false false p q e = false≢true e

pub not_faulty : (wide : Bool) (zones : ℕ) (b : List ℕ) → IsClean zones (header_of wide b) → IsFaulty wide zones b → ⊥
unfolding header_of
not_faulty wide zones b clean (inl e) =
    let some : 1 ≤ length {A = ℕ} [] = subst (λ r. IsClean zones (header_by (sequence_of b) r)) e clean in
    omega arith
not_faulty wide zones b clean (inr x) =
    let all : (t : model.Tag) → In t (map tag_of x.1) → IsLoggable zones t.block = subst (λ r. IsClean zones (header_by (sequence_of b) r)) x.2 clean in
    let t = In-list_any (is_outside zones) x.1 x.3 in
    inside zones t.0 t.2 (all (tag_of t.0) (map-In tag_of x.1 t.0 t.1))

pub clean_by : (wide : Bool) (w : Writers) (zones sequence k : ℕ) (n : Note) (b : List ℕ) → log_transaction n ≡ Some k → HasHeader sequence n (header_of wide b) → IsReadable (format wide) w zones n b → IsClean zones (header_of wide b)
clean_by wide w zones sequence k (notes.Descriptor l) b e head good = subst (IsClean zones) (sym good.2) good.3
clean_by wide w zones sequence k (notes.Revoke l) b e head good = subst (IsClean zones) (sym good.2) good.3
clean_by wide w zones sequence k (notes.Body l c) b e head good = subst (IsClean zones) (sym head) tt
clean_by wide w zones sequence k (notes.Commit l) b e head good = subst (IsClean zones) (sym head) tt
clean_by wide w zones sequence k (notes.Page f x v) b e head good = absurd (none-some k e)
clean_by wide w zones sequence k notes.Super b e head good = absurd (none-some k e)
clean_by wide w zones sequence k (notes.Home c) b e head good = absurd (none-some k e)
clean_by wide w zones sequence k notes.Flush b e head good = absurd (none-some k e)
clean_by wide w zones sequence k notes.Raw b e head good = absurd (none-some k e)
