-- Laws of a scan.
use Rattle.std.specs.Prelude.{◌≡◌, ◌≢◌, ℕ, suc, ◌+◌, ◌-◌, ◌<◌, Bool, true, false, List, [], ◌∷◌, map, length, nat_lt, if◌then◌else◌, Result, Ok, Err, IfOk, refl}
use Rattle.std.specs.List.{range_with_len}
use Rattle.std.proofs.Common.{sym, ap, ◌∙◌, subst, arith}
use Rattle.std.proofs.lemmas.Bool.{lt-ltb, eq-eqb, ne_eqb, true≢false}
use Rattle.std.proofs.lemmas.List.{map-append}
use Rattle.journal_blocks.specs.declared.super_block.JournalSuper.{JournalSuper}
use Rattle.journal_blocks.specs.Super.{is_wide}
use Rattle.journal_blocks.specs.Log.{Reading, Entry, Log, said, said_by, by_said, Nothing, Said, read_log, by_tags, entry_at, body_at, places, found, beginning, log_of}
use Rattle.journal_blocks.specs.laws.Logs.{stopped-stays, read_log-append}
use Rattle.order_model.specs.Device.{Seen, IsQuiet}
use Rattle.order_model.specs.Steps.{OnlyReads}
use Rattle.journal_blocks.specs.declared.tag.Tag.{Tag}
use Rattle.journal_blocks.specs.declared.log_block.LogBlock.{LogBlock}
use Rattle.journal_blocks.specs.declared.fault.JournalFault.{JournalFault}
use Rattle.journal_blocks.specs.Header.{sequence_of}
use Rattle.journal_blocks.specs.Blocks.{log_block_of}
use Rattle.journal_replay.specs.code.Scans.{after, HasRead}

range_next : (place to : ℕ) → place < to → range_with_len place (to - place) ≡ place ∷ range_with_len (place + 1) (to - (place + 1))
range_next place to lt = let e : to - place ≡ suc (to - (place + 1)) = omega arith in rw e refl

-- the entries of a range of places
abbrev pub entries : ℕ → List (List ℕ) → ℕ → ℕ → List Entry
entries base image from to = map (entry_at base image) (range_with_len from (to - from))

-- one block more was read
pub scan_step : (wide : Bool) (base place to : ℕ) (image : List (List ℕ)) (r q : Reading) (goes : Bool) (body : List ℕ) → place < to → body_at image (base + place) ≡ body
    → by_tags wide base r (record { at = base + place; body = body }) r.tags ≡ after goes q
    → read_log wide base (after goes q) (entries base image (place + 1) to) ≡ read_log wide base (after true r) (entries base image place to)
scan_step wide base place to image r q goes body lt is step =
    let rest = entries base image (place + 1) to in
    sym (ap (λ (ps : List ℕ). read_log wide base (after true r) (map (entry_at base image) ps)) (range_next place to lt)
    ∙ (ap (λ (b : List ℕ). let e : Entry = record { at = base + place; body = b } in read_log wide base (by_tags wide base r e r.tags) rest) is
    ∙ ap (λ (l : Log). read_log wide base l rest) step))

-- where it ended, nothing more is read
pub scan_ended : (wide : Bool) (base : ℕ) (es : List Entry) (q : Reading) → read_log wide base (after false q) es ≡ after false q
scan_ended wide base es q = stopped-stays wide base q es

-- both parts of the ring
pub scan_both : (wide : Bool) (base : ℕ) (s : JournalSuper) (image : List (List ℕ)) (l : Log) → read_log wide base l (map (entry_at base image) (places s)) ≡ read_log wide base (read_log wide base l (entries base image s.start s.maxlen)) (entries base image s.first s.start)
scan_both wide base s image l =
    ap (read_log wide base l) (map-append (entry_at base image) (range_with_len s.start (s.maxlen - s.start)) (range_with_len s.first (s.start - s.first)))
    ∙ read_log-append wide base l (entries base image s.start s.maxlen) (entries base image s.first s.start)

pub ring_ended : (wide : Bool) (base : ℕ) (s : JournalSuper) (image : List (List ℕ)) (l : Log) (q : Reading) → read_log wide base l (entries base image s.start s.maxlen) ≡ after false q → read_log wide base l (map (entry_at base image) (places s)) ≡ after false q
ring_ended wide base s image l q e = scan_both wide base s image l ∙ (ap (λ (x : Log). read_log wide base x (entries base image s.first s.start)) e ∙ scan_ended wide base (entries base image s.first s.start) q)

pub ring_goes : (wide : Bool) (base : ℕ) (s : JournalSuper) (image : List (List ℕ)) (l m : Log) (q : Reading) → read_log wide base l (entries base image s.start s.maxlen) ≡ after true q → read_log wide base (after true q) (entries base image s.first s.start) ≡ m → read_log wide base l (map (entry_at base image) (places s)) ≡ m
ring_goes wide base s image l m q e f = scan_both wide base s image l ∙ (ap (λ (x : Log). read_log wide base x (entries base image s.first s.start)) e ∙ f)

found-after : (goes : Bool) (q : Reading) → found (after goes q) ≡ q
found-after true q = refl
found-after false q = refl

pub log_is : (base : ℕ) (s : JournalSuper) (image : List (List ℕ)) (goes : Bool) (q : Reading) → read_log (is_wide s) base (after true (beginning s.sequence)) (map (entry_at base image) (places s)) ≡ after goes q → q ≡ log_of base s image
unfolding log_of
log_is base s image goes q e = sym (ap found e ∙ found-after goes q)

-- the answer of the second part is that of both
pub ring_result : {E : Type 0} (wide : Bool) (base : ℕ) (s : JournalSuper) (image now : List (List ℕ)) (l : Log) (q p : Reading) (r : Result Bool E) → now ≡ image → read_log wide base l (entries base image s.start s.maxlen) ≡ after true q
    → IfOk r (λ goes. read_log wide base (after true q) (entries base now s.first s.start) ≡ after goes p)
    → IfOk r (λ goes. read_log wide base l (map (entry_at base image) (places s)) ≡ after goes p)
ring_result wide base s image now l q p (Ok goes) same e f = ring_goes wide base s image l (after goes p) q e (subst (λ i. read_log wide base (after true q) (entries base i s.first s.start) ≡ after goes p) same f)
ring_result wide base s image now l q p (Err fault) same e f = tt

-- ---- what one block is

no_tags : (tags : List Tag) → nat_lt 0 (length tags) ≡ false → tags ≡ []
no_tags [] e = refl
no_tags (t ∷ ts) e = absurd (true≢false (sym (lt-ltb 0 (suc (length ts)) (omega arith)) ∙ e))

other_said : (wide : Bool) (sequence : ℕ) (b : List ℕ) → sequence_of b ≢ sequence → said wide sequence b ≡ Nothing
unfolding said
other_said wide sequence b other = ap (λ (own : Bool). if own then said_by (log_block_of wide b) else Nothing) (ne_eqb (sequence_of b) sequence other)

own_said : (wide : Bool) (sequence : ℕ) (b : List ℕ) → sequence_of b ≡ sequence → said wide sequence b ≡ said_by (log_block_of wide b)
unfolding said
own_said wide sequence b own = ap (λ (is : Bool). if is then said_by (log_block_of wide b) else Nothing) (eq-eqb (sequence_of b) sequence own)

-- a block of another sequence ends the log
pub read_other : (wide : Bool) (zones at : ℕ) (r : Reading) (b : List ℕ) → nat_lt 0 (length r.tags) ≡ false → sequence_of b ≢ r.sequence → by_tags wide zones r (record { at = at; body = b }) r.tags ≡ after false r
read_other wide zones at r b none other =
    ap (λ (ts : List Tag). by_tags wide zones r (record { at = at; body = b }) ts) (no_tags r.tags none) ∙ ap (λ (w : Said). by_said zones r at w) (other_said wide r.sequence b other)

-- a block of the sequence that is expected is what it says
pub read_own : (wide : Bool) (zones at : ℕ) (r : Reading) (b : List ℕ) (w : Result LogBlock JournalFault) → nat_lt 0 (length r.tags) ≡ false → sequence_of b ≡ r.sequence → w ≡ log_block_of wide b
    → by_tags wide zones r (record { at = at; body = b }) r.tags ≡ by_said zones r at (said_by w)
read_own wide zones at r b w none own is =
    ap (λ (ts : List Tag). by_tags wide zones r (record { at = at; body = b }) ts) (no_tags r.tags none)
    ∙ (ap (λ (v : Said). by_said zones r at v) (own_said wide r.sequence b own) ∙ ap (λ (v : Result LogBlock JournalFault). by_said zones r at (said_by v)) (sym is))

-- ---- a device that is read

counted_quiet : (s : Seen) (n : ℕ) → IsQuiet s → IsQuiet (record s { faults = n })
counted_quiet s n q = record {
  kept = λ place lt. let k = q.kept place lt in record { part = k.part; taken = k.taken; origin = k.origin; held = k.held; later = k.later };
  flushed = q.flushed;
}

pub has_read : (old new : Seen) → OnlyReads old new → IsQuiet old → HasRead old new
has_read old new r quiet = record { reads = r; quiet = subst IsQuiet (sym r.0) (counted_quiet old new.faults quiet) }

pub read_more : (a b c : Seen) → HasRead a b → HasRead b c → HasRead a c
read_more a b c r s = record { reads = (s.reads.0 ∙ ap (λ (x : Seen). record x { faults = c.faults }) r.reads.0, let h = r.reads.1 in let k = s.reads.1 in omega (arith, h, k)); quiet = s.quiet }
