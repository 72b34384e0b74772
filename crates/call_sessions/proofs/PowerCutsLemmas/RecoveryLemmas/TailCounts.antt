-- How many transactions a medium has, by the tail and the length of the log that recovery reads of it.
use Rattle.std.specs.Prelude.{◌≡◌, ◌≢◌, ℕ, zero, suc, ◌+◌, ◌-◌, ◌≤◌, ◌==◌, if◌then◌else◌, Bool, true, false, List, [], ◌∷◌, map, length, refl}
use Rattle.std.proofs.Common.{sym, ap, subst, ◌∙◌, inl, inr, ⊎_elim, arith, length-append}
use Rattle.std.proofs.lemmas.Bool.{cases_lt, eqb-true, cond-true, cond-false, eq-eqb, ne_eqb}
use Rattle.blk_base.specs.Members.{In}
use Rattle.blk_base.specs.laws.Members.{In-map}
use Rattle.order_model.specs.OrderClosed.{HasOrigin, IsOrderClosed}
use Rattle.log_model.specs.Log.{Header, Plain, Describes, Revokes, Commits, Format, Tail, Reader, Reading, Stopped, done, take_header, take_block, take_blocks, from_sequence, log_of}
use Rattle.log_model.specs.Marks.{Logged, Transaction, transactions_from}
use Rattle.log_model.specs.Ring.{IsPlace, places_in, places_from}
use Rattle.log_model.proofs.Ring.{places_on-place, places_from-place}
use Rattle.volume_ops.specs.Reads.{Reads}
use Rattle.volume_ops.specs.Volume.{disk_of}
use Rattle.crash_laws.specs.Found.{IsFound}
use Rattle.crash_laws.specs.Recovery.{IsLogFrom}
use Rattle.crash_laws.specs.Rules.{OrderRules}
use Rattle.crash_laws.specs.Session.{Session, Medium, IsSuperOf, log_blocks, log_blocks_below, first_place}
use Rattle.crash_laws.proofs.LogReads.{log_of_cut_is_tail_to_found}
use Rattle.crash_laws.proofs.Ordering.{same_origin, origin_or_base, body_of_origin}
use Rattle.crash_laws.proofs.Superblocks.{one_tail, tail_within_found, no_next_commit_header, written_body}

pub length-transactions_from : (tx : ℕ → Transaction) (first n : ℕ) → length (transactions_from tx first n) ≡ n
length-transactions_from tx first zero = refl
length-transactions_from tx first (suc n) =
    let before = length-transactions_from tx first n in
    let all = length-append (transactions_from tx first n) (tx (first + n) ∷ []) in
    omega (arith, before, all)

-- ---- a log without the commit block of this sequence

-- the reader is not past that sequence, and no more than n transactions are done until it is there; or it stopped
abbrev IsWithin : ℕ → ℕ → Reader → Type 0
IsWithin q n (Reading seq tags bodies revokes txs) = (seq ≤ q) × (length txs + (q - seq) ≤ n)
IsWithin q n (Stopped txs) = length txs ≤ n

by_test : (q n : ℕ) (t : Bool) (r : Reader) (txs : List Transaction) → (t ≡ true → IsWithin q n r) → length txs ≤ n → IsWithin q n (if t then r else Stopped txs)
by_test q n true r txs goes_on stops = goes_on refl
by_test q n false r txs goes_on stops = stops

header_within : (q n seq : ℕ) (bodies : List Logged) (revokes : List ℕ) (txs : List Transaction) (h : Header) → h ≢ Commits q → (seq ≤ q) × (length txs + (q - seq) ≤ n) → IsWithin q n (take_header seq bodies revokes txs h)
header_within q n seq bodies revokes txs Plain other w = let b = w.1 in omega (arith, b)
header_within q n seq bodies revokes txs (Describes s tags) other w = by_test q n (s == seq) _ txs (λ e. w) (let b = w.1 in omega (arith, b))
header_within q n seq bodies revokes txs (Revokes s blocks) other w = by_test q n (s == seq) _ txs (λ e. w) (let b = w.1 in omega (arith, b))
header_within q n seq bodies revokes txs (Commits s) other w =
    by_test q n (s == seq) _ txs
    (λ e.
    let here = eqb-true s seq e in
    let differ : s ≢ q = λ same. other (ap Commits same) in
    let low = w.0 in
    let few = w.1 in
    let all = length-append txs (record { bodies = bodies; revokes = revokes } ∷ []) in
    ⊎_elim
    (λ less. (omega (arith, less), omega (arith, less, few, all)))
    (λ past. absurd (differ (omega (arith, past, low, here))))
    (cases_lt seq q))
    (let few = w.1 in omega (arith, few))

block_within : (f : Format) (q n : ℕ) (r : Reader) (b : List ℕ) → f.header b ≢ Commits q → IsWithin q n r → IsWithin q n (take_block f r b)
block_within f q n (Stopped txs) b other w = w
block_within f q n (Reading seq (tag ∷ tags) bodies revokes txs) b other w = w
block_within f q n (Reading seq [] bodies revokes txs) b other w = header_within q n seq bodies revokes txs (f.header b) other w

blocks_within : (f : Format) (q n : ℕ) (r : Reader) (bs : List (List ℕ)) → ((b : List ℕ) → In b bs → f.header b ≢ Commits q) → IsWithin q n r → length (done (take_blocks f r bs)) ≤ n
blocks_within f q n (Reading seq tags bodies revokes txs) [] other w = let few = w.1 in omega (arith, few)
blocks_within f q n (Stopped txs) [] other w = w
blocks_within f q n r (b ∷ bs) other w = blocks_within f q n (take_block f r b) bs (λ c i. other c (inr i)) (block_within f q n r b (other b (inl refl)) w)

-- ---- the medium of a session

module _ {A : Type 0} {program : Reads A} {s : Session} {m : Medium} {F : ℕ} (rules : OrderRules program s) (closed : IsOrderClosed s.base s.requests m.image m.origins) (is_found : IsFound s m F) (t : Tail)
    (tail : s.format.tail (disk_of m.image s.journal) ≡ t) where
  abbrev log : List Transaction
  log = log_of s.format s.ring s.journal (disk_of m.image)

  -- the superblock that was written last
  written_tail : (o freed : ℕ) → HasOrigin m.origins s.journal o → IsSuperOf s o freed → t ≡ record { sequence = s.sequence + freed; start = first_place s (freed + 1) }
  written_tail o freed held super =
      sym tail ∙ (ap s.format.tail (sym (written_body s o (disk_of m.image s.journal) (body_of_origin closed s.journal o held))) ∙ super.fields)

  place_of_tail : (freed : ℕ) → IsPlace s.ring (first_place s (freed + 1))
  place_of_tail freed = places_on-place s.ring (length (log_blocks_below (freed + 1) (log_blocks s))) s.head rules.log.head

  started : (o freed : ℕ) → HasOrigin m.origins s.journal o → IsSuperOf s o freed → t.start ≢ 0
  started o freed held super none =
      let at = ap (λ (u : Tail). u.start) (written_tail o freed held super) in
      let low = (place_of_tail freed).0 in
      let one = rules.fits.journal in
      omega (arith, at, low, one, none)

  log_by : log ≡ (if t.start == 0 then [] else done (take_blocks s.format (from_sequence t.sequence) (map (λ p. disk_of m.image (s.journal + p)) (places_from s.ring (places_in s.ring) t.start))))
  log_by =
      ap (λ (u : Tail). if u.start == 0 then [] else done (take_blocks s.format (from_sequence u.sequence) (map (λ p. disk_of m.image (s.journal + p)) (places_from s.ring (places_in s.ring) u.start)))) tail

  -- behind a tail there are no more than the found ones
  few : (o freed : ℕ) → HasOrigin m.origins s.journal o → IsSuperOf s o freed → freed ≤ F → length log ≤ F - freed
  few o freed held super within =
      let written = written_tail o freed held super in
      let sequence = ap (λ (u : Tail). u.sequence) written in
      let start = ap (λ (u : Tail). u.start) written in
      let place : IsPlace s.ring t.start = subst (IsPlace s.ring) (sym start) (place_of_tail freed) in
      let read = log_by ∙ cond-false (t.start == 0) [] _ (ne_eqb t.start 0 (started o freed held super)) in
      subst (λ (txs : List Transaction). length txs ≤ F - freed) (sym read)
      (blocks_within s.format (s.sequence + F) (F - freed) (from_sequence t.sequence) (map (λ p. disk_of m.image (s.journal + p)) (places_from s.ring (places_in s.ring) t.start))
      (λ b i.
      let p = In-map (λ p. disk_of m.image (s.journal + p)) (places_from s.ring (places_in s.ring) t.start) b i in
      λ reads.
      no_next_commit_header closed rules.fits rules.commits rules.log rules.checkpoints rules.images rules.base is_found p.0 (places_from-place s.ring (places_in s.ring) t.start p.0 place p.1) (ap s.format.header p.2 ∙ reads))
      (omega (arith, sequence, within), omega (arith, sequence, within)))

  from : (freed : ℕ) × IsLogFrom s m F freed
  from = log_of_cut_is_tail_to_found rules closed is_found

  size : length log ≡ F - from.0
  size = ap (λ (txs : List Transaction). length txs) from.1.log ∙ length-transactions_from s.transactions (1 + from.0) (F - from.0)

  -- where the journal was written, its tail and its log are all of them
  counted_from : (o freed : ℕ) → HasOrigin m.origins s.journal o → IsSuperOf s o freed → freed ≤ F → freed + length log ≡ F
  counted_from o freed held super within =
      ⊎_elim
      (λ some.
      let there = from.1.tail some in
      let same = same_origin m.origins s.journal there.place o there.held held in
      let e = one_tail s o freed from.0 super (subst (λ (i : ℕ). IsSuperOf s i from.0) same there.super) in
      let n = size in
      omega (arith, e, n, within))
      (λ none.
      let n = size in
      let most = few o freed held super within in
      omega (arith, none, n, most, within))
      (cases_lt 0 from.0)

  unwritten : disk_of m.image s.journal ≡ disk_of s.base s.journal → t.start ≡ 0
  unwritten same = ap (λ (u : Tail). u.start) (sym tail) ∙ (ap (λ (b : List ℕ). (s.format.tail b).start) same ∙ rules.base.start)

  -- without a start there are none
  pub none_found : t.start ≡ 0 → F ≡ 0
  none_found none =
      ⊎_elim
      (λ some. let there = from.1.tail some in absurd (started there.place from.0 there.held there.super none))
      (λ first.
      let n = size in
      let empty = ap (λ (txs : List Transaction). length txs) (log_by ∙ cond-true (t.start == 0) [] _ (eq-eqb t.start 0 none)) in
      omega (arith, first, n, empty))
      (cases_lt 0 from.0)

  -- else those before the tail, and those of the log
  pub all_found : t.start ≢ 0 → t.sequence + length log ≡ s.sequence + F
  all_found some =
      ⊎_elim
      (λ o.
      let last = tail_within_found closed rules.fits rules.commits rules.log rules.checkpoints rules.images rules.base is_found o.0 o.1 in
      let same = same_origin m.origins s.journal last.1.place o.0 last.1.held o.1 in
      let super : IsSuperOf s o.0 last.0 = subst (λ (i : ℕ). IsSuperOf s i last.0) same last.1.super in
      let sequence = ap (λ (u : Tail). u.sequence) (written_tail o.0 last.0 o.1 super) in
      let all = counted_from o.0 last.0 o.1 super last.1.within in
      omega (arith, sequence, all))
      (λ same. absurd (some (unwritten same)))
      (origin_or_base closed s.journal)
