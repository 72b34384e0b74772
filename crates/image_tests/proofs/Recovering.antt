-- What logs and recoveries have, from their definitions.
use Rattle.std.specs.Prelude.{◌≡◌, ◌≢◌, ◌⊎◌, ◌<◌, ◌≤◌, ℕ, ◌+◌, ◌^◌, ◌%◌, ◌==◌, nat_lt, nat_le, Bool, true, false, ◌&&◌, ◌||◌, if◌then◌else◌, List, [], ◌∷◌, ◌++◌, length, slice_index, Some, None, Ok, Err, Result, refl}
use Rattle.std.proofs.Common.{ap, ◌∙◌, inl, inr, arith}
use Rattle.std.proofs.lemmas.Bool.{cases_Bool, and_parts, and_from, or_left, or_right, eqb-true, eq-eqb, ne_eqb, ltb-true, lt-ltb, leb-true, le-leb}
use Rattle.byte_fields.specs.Fields.{Apart}
use Rattle.order_model.specs.declared.command.Command.{Command}
use Rattle.order_model.specs.declared.command.Priority.TheVariants.{Ordered}
use Rattle.blk_base.specs.laws.Members.{slice_get-set_same}
use Rattle.journal_blocks.specs.declared.super_block.JournalSuper.{JournalSuper}
use Rattle.journal_blocks.specs.declared.fault.JournalFault.{JournalFault}
use Rattle.journal_blocks.specs.declared.fault.JournalFault.TheVariants.{BadKind, NotMagic}
use Rattle.journal_blocks.specs.Header.{sequence_of}
use Rattle.journal_blocks.specs.Super.{super_of, super_block, unknown_bits, FitSuper}
use Rattle.journal_blocks.specs.Blocks.{log_block_of}
use Rattle.journal_blocks.specs.Log.{Said, Nothing, said, said_by, Reading, Entry, GoesOn, found, by_said, by_tags, read_log, body_at, log_of}
use Rattle.journal_blocks.specs.laws.Logs.{stopped-stays, log_counts}
use Rattle.journal_blocks.specs.laws.Supers.{read_parts, super_read, tail_read, tail_bytes}
use Rattle.journal_replay.specs.Recovered.{recovered, healed, log_mark, emptied_super, next_sequence}
use Rattle.journal_replay.specs.Commands.{commands, homes, home_writes}
use Rattle.journal_replay.specs.laws.Attempts.{length-healed, recovered-full, body_at-some, below_power, commands-full}

-- ---- where a log ends

ends_here : (wide : Bool) (zones : ℕ) (r : Reading) (e : Entry) (rest : List Entry) → r.tags ≡ [] → said wide r.sequence e.body ≡ Nothing → found (read_log wide zones (GoesOn r) (e ∷ rest)) ≡ r
ends_here wide zones r e rest none nothing =
    ap (λ ts. found (read_log wide zones (by_tags wide zones r e ts) rest)) none
    ∙ (ap (λ (w : Said). found (read_log wide zones (by_said zones r e.at w) rest)) nothing
    ∙ ap found (stopped-stays wide zones r rest))

says_nothing : (wide : Bool) (sequence : ℕ) (b : List ℕ) → said_by (log_block_of wide b) ≡ Nothing → said wide sequence b ≡ Nothing
unfolding said
says_nothing wide sequence b e = by (sequence_of b == sequence)
  where
    by : (same : Bool) → (if same then said_by (log_block_of wide b) else Nothing) ≡ Nothing
    by true = e
    by false = refl

pub ends_without_magic : (wide : Bool) (zones : ℕ) (r : Reading) (e : Entry) (rest : List Entry) → r.tags ≡ [] → log_block_of wide e.body ≡ Err NotMagic → found (read_log wide zones (GoesOn r) (e ∷ rest)) ≡ r
ends_without_magic wide zones r e rest none bad = ends_here wide zones r e rest none (says_nothing wide r.sequence e.body (ap said_by bad))

pub ends_at_other_type : (wide : Bool) (zones : ℕ) (r : Reading) (e : Entry) (rest : List Entry) → r.tags ≡ [] → log_block_of wide e.body ≡ Err BadKind → found (read_log wide zones (GoesOn r) (e ∷ rest)) ≡ r
ends_at_other_type wide zones r e rest none bad = ends_here wide zones r e rest none (says_nothing wide r.sequence e.body (ap said_by bad))

other_says_nothing : (wide : Bool) (sequence : ℕ) (b : List ℕ) → sequence_of b ≢ sequence → said wide sequence b ≡ Nothing
unfolding said
other_says_nothing wide sequence b other = rw (ne_eqb (sequence_of b) sequence other) refl

pub ends_at_other_sequence : (wide : Bool) (zones : ℕ) (r : Reading) (e : Entry) (rest : List Entry) → r.tags ≡ [] → sequence_of e.body ≢ r.sequence → found (read_log wide zones (GoesOn r) (e ∷ rest)) ≡ r
ends_at_other_sequence wide zones r e rest none other = ends_here wide zones r e rest none (other_says_nothing wide r.sequence e.body other)

-- ---- the numbers of a superblock

abbrev pub HasStart : JournalSuper → Type 0
HasStart s = (s.start ≡ 0) ⊎ ((s.first ≤ s.start) × (s.start < s.maxlen))

has_start : (s : JournalSuper) → ((s.start == 0) || (nat_le s.first s.start && nat_lt s.start s.maxlen)) ≡ true → HasStart s
has_start s h = elim (cases_Bool (s.start == 0)) [
  | inl zero ↦ inl (eqb-true s.start 0 zero)
  | inr some ↦ (let both = and_parts (nat_le s.first s.start) (nat_lt s.start s.maxlen) (rw some at h) in inr (leb-true s.first s.start both.0, ltb-true s.start s.maxlen both.1))
]

pub read_has_log : (b : List ℕ) (s : JournalSuper) → super_of b ≡ Ok s → (0 < s.first) × (s.first < s.maxlen) × HasStart s
read_has_log b s e =
    let places = (read_parts b s e).5 in
    let one = and_parts (nat_lt 0 s.first) (nat_lt s.first s.maxlen && ((s.start == 0) || (nat_le s.first s.start && nat_lt s.start s.maxlen))) places in
    let two = and_parts (nat_lt s.first s.maxlen) ((s.start == 0) || (nat_le s.first s.start && nat_lt s.start s.maxlen)) one.1 in
    (ltb-true 0 s.first one.0, ltb-true s.first s.maxlen two.0, has_start s two.1)

starts : (s : JournalSuper) → HasStart s → ((s.start == 0) || (nat_le s.first s.start && nat_lt s.start s.maxlen)) ≡ true
starts s (inl zero) = or_left (s.start == 0) (nat_le s.first s.start && nat_lt s.start s.maxlen) (eq-eqb s.start 0 zero)
starts s (inr some) = or_right (s.start == 0) (nat_le s.first s.start && nat_lt s.start s.maxlen) (and_from (nat_le s.first s.start) (nat_lt s.start s.maxlen) (le-leb s.first s.start some.0) (lt-ltb s.start s.maxlen some.1))

pub written_is_read : (s : JournalSuper) → FitSuper s → s.incompat < 4 → 0 < s.first → s.first < s.maxlen → HasStart s → super_of (super_block s) ≡ Ok s
written_is_read s fits few low high start = super_read s (record {
  fits = fits;
  known = eq-eqb (unknown_bits s.incompat) 0 (omega (arith, few));
  places = and_from _ _ (lt-ltb 0 s.first low) (and_from _ _ (lt-ltb s.first s.maxlen high) (starts s start));
})

-- ---- the superblock of a recovered image

tail_there : (base : ℕ) (image : List (List ℕ)) (s : JournalSuper) → base < length image → super_of (body_at image base) ≡ Ok s → s.start ≢ 0 → body_at (recovered base image) base ≡ emptied_super base s image
tail_there base image s within e some =
    let size_healed = length-healed (log_mark base s image) 0 image in
    ap (λ (i : List (List ℕ)). body_at i base) (recovered-full base image s e (ne_eqb s.start 0 some))
    ∙ body_at-some _ base (emptied_super base s image) (slice_get-set_same (healed (log_mark base s image) 0 image) base (emptied_super base s image) (omega (arith, within, size_healed)))

pub tail_numbers : (base : ℕ) (image : List (List ℕ)) (s : JournalSuper) → base < length image → length (body_at image base) ≡ 1024 → super_of (body_at image base) ≡ Ok s → s.sequence < 2 ^ 32 → s.start ≢ 0
    → super_of (body_at (recovered base image) base) ≡ Ok (record s { sequence = ((s.sequence + length (log_of base s image).done) % 2 ^ 32 + 1) % 2 ^ 32; start = 0 })
tail_numbers base image s within size e fits some =
    let r = log_of base s image in
    ap super_of (tail_there base image s within e some)
    ∙ (tail_read (body_at image base) s (next_sequence r) size e (below_power (r.sequence + 1))
    ∙ ap (λ (k : ℕ). let made : JournalSuper = record s { sequence = (k + 1) % 2 ^ 32; start = 0 } in let told : Result JournalSuper JournalFault = Ok made in told) (log_counts base s image fits))

pub tail_others : (base : ℕ) (image : List (List ℕ)) (s : JournalSuper) → base < length image → length (body_at image base) ≡ 1024 → super_of (body_at image base) ≡ Ok s → s.start ≢ 0
    → (at : ℕ) → Apart 1 at 8 0x18 → slice_index (body_at (recovered base image) base) at ≡ slice_index (body_at image base) at
tail_others base image s within size e some at apart =
    ap (λ (b : List ℕ). slice_index b at) (tail_there base image s within e some)
    ∙ tail_bytes (body_at image base) (next_sequence (log_of base s image)) 0 at size apart

-- ---- the end of what is sent

pub sent_last : (base : ℕ) (image : List (List ℕ)) (s : JournalSuper) → super_of (body_at image base) ≡ Ok s → s.start ≢ 0
    → (homes : List Command) × (id : ℕ) × (body : List ℕ) × (commands base image ≡ homes
    ++ record { parts = record { id = id; block = base; body = body } ∷ []; priority = Ordered; barrier = true; flush = None }
    ∷ record { parts = []; priority = Ordered; barrier = true; flush = Some (id + 1) } ∷ [])
sent_last base image s e some =
    let hs = homes (log_mark base s image) 0 base in
    (home_writes 0 hs, length hs, emptied_super base s image, commands-full base image s e (ne_eqb s.start 0 some))
