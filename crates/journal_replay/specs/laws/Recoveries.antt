-- Laws of what a recovery knows before it sends.
use Rattle.std.specs.Prelude.{◌≡◌, ℕ, ◌+◌, ◌-◌, ◌^◌, ◌%◌, Bool, false, if◌then◌else◌, [], ◌<◌, ◌≤◌, ◌==◌, ◌≢◌, ◌&&◌, nat_lt, nat_le, true, replicate, List, length, Option, Some, None, Result, Ok, Err, IfOk, refl}
use Rattle.std.proofs.Common.{sym, ap, ◌∙◌, subst, inl, inr, arith}
use Rattle.std.proofs.lemmas.Bool.{lt-ltb, le-ltb, eq-eqb, ne_eqb, and_parts, or_cases, eqb-true, leb-true, ltb-true}
use Rattle.journal_blocks.specs.declared.super_block.JournalSuper.{JournalSuper}
use Rattle.journal_blocks.specs.declared.fault.JournalFault.{JournalFault}
use Rattle.journal_blocks.specs.Super.{super_of, has_places}
use Rattle.journal_blocks.specs.Log.{log_of, body_at}
use Rattle.std.specs.Option.{option_map}
use Rattle.blk_base.specs.laws.Members.{slice_get-set_same}
use Rattle.journal_blocks.specs.declared.fault.JournalFault.TheVariants.{BadCount}
use Rattle.journal_blocks.specs.Super.{IsSound}
use Rattle.journal_blocks.specs.laws.Supers.{tail_read}
use Rattle.journal_blocks.specs.laws.Logs.{mark-inside, done_few, log_counts}
use Rattle.journal_replay.specs.laws.Attempts.{length-healed, recovered-full, recovered-empty, body_at-some, below_power}
use Rattle.log_model.specs.Marks.{Logged, Transaction, mark_in}
use Rattle.journal_blocks.specs.Super.{with_tail}
use Rattle.journal_replay.specs.declared.journal.Journal.{Journal}
use Rattle.journal_replay.specs.declared.recovery.Recovered.{Recovered}
use Rattle.journal_replay.specs.Commands.{homes, commands}
use Rattle.journal_replay.specs.Endings.{HasNoLog}
use Rattle.journal_replay.specs.laws.Reads.{reads_on}
use Rattle.journal_replay.specs.code.Runs.{HasLog}
use Rattle.journal_replay.specs.code.Journals.{IsJournalOf}
use Rattle.order_model.specs.declared.command.Command.{Command}
use Rattle.order_model.specs.Device.{Seen}
use Rattle.order_model.specs.Steps.{OnlyReads}
use Rattle.order_model.specs.Machine.{Machine}
use Rattle.journal_replay.specs.declared.choice.Choice.{Choice}
use Rattle.journal_replay.specs.declared.choice.Choice.TheVariants as choices
use Rattle.journal_replay.specs.Driving.{driven, end_of, is_running, IsRun, WereRead}
use Rattle.journal_replay.specs.Recovered.{healed, emptied_super, next_sequence, recovered, transactions_of, fault_of, fault_by, journal_fault, IsRecoverable, log_mark}
use Rattle.log_model.specs.Marks.{Set}

pub none_from : (o : Option ℕ) → ((x : ℕ) → o ≡ Some x → ⊥) → o ≡ None
none_from None h = refl
none_from (Some x) h = absurd (h x refl)

same_ok : (a b : JournalSuper) → ◌≡◌ {A = Result JournalSuper JournalFault} (Ok a) (Ok b) → a ≡ b
same_ok a b e = cc

-- a journal whose log has no fault can be recovered
pub recoverable_from : (base : ℕ) (image : List (List ℕ)) (s : JournalSuper) → base < length image → length (body_at image base) ≡ 1024 → super_of (body_at image base) ≡ Ok s → (log_of base s image).fault ≡ None → IsRecoverable base image
recoverable_from base image s within size read fine = record {
  within = within;
  size = size;
  below = λ j e b x set.
      let same = same_ok s j (sym read ∙ e) in
      (mark-inside base s image b x fine (subst (λ (k : JournalSuper). log_mark base k image b ≡ Set x) (sym same) set)).1;
}

-- a log that is not empty begins at one of its places
pub start_within : (s : JournalSuper) → has_places s ≡ true → s.start ≢ 0 → (s.first ≤ s.start) × (s.start < s.maxlen)
start_within s places some =
    let a = and_parts (nat_lt 0 s.first) _ places in
    let b = and_parts (nat_lt s.first s.maxlen) _ a.1 in
    elim (or_cases (s.start == 0) (nat_le s.first s.start && nat_lt s.start s.maxlen) b.1) [
      | inl none ↦ absurd (some (eqb-true s.start 0 none))
      | inr there ↦ let p = and_parts (nat_le s.first s.start) (nat_lt s.start s.maxlen) there in (leb-true s.first s.start p.0, ltb-true s.start s.maxlen p.1)
    ]

-- ---- faults of a journal

-- the superblock cannot be read
pub fault-super : (base : ℕ) (image : List (List ℕ)) (f : JournalFault) → super_of (body_at image base) ≡ Err f → journal_fault base image ≡ Some (f, base)
unfolding journal_fault
fault-super base image f e = ap (fault_by base image) e

-- the journal has more blocks than there are
pub fault-long : (base : ℕ) (image : List (List ℕ)) (s : JournalSuper) → super_of (body_at image base) ≡ Ok s → length image - base < s.maxlen → journal_fault base image ≡ Some (BadCount, base)
unfolding journal_fault
fault-long base image s e long =
    ap (fault_by base image) e
    ∙ ap (λ (b : Bool). if b then Some (BadCount, base) else option_map (λ at. (BadCount, at)) (fault_of base s image)) (lt-ltb (length image - base) s.maxlen long)

-- what is wrong with the log
pub fault-log : (base : ℕ) (image : List (List ℕ)) (s : JournalSuper) (o : Option ℕ) → super_of (body_at image base) ≡ Ok s → s.maxlen ≤ length image - base → fault_of base s image ≡ o
    → journal_fault base image ≡ option_map (λ at. (BadCount, at)) o
unfolding journal_fault
fault-log base image s o e short is =
    ap (fault_by base image) e
    ∙ (ap (λ (b : Bool). if b then Some (BadCount, base) else option_map (λ at. (BadCount, at)) (fault_of base s image)) (le-ltb (length image - base) s.maxlen short)
    ∙ ap (option_map (λ at. (BadCount, at))) is)

-- ---- the log that is not empty

by_start : (base : ℕ) (s : JournalSuper) (image : List (List ℕ)) → s.start ≢ 0 → (s.start == 0) ≡ false
by_start base s image some = ne_eqb s.start 0 some

pub transactions-full : (base : ℕ) (s : JournalSuper) (image : List (List ℕ)) → s.start ≢ 0 → transactions_of base s image ≡ (log_of base s image).done
transactions-full base s image some = ap (λ (b : Bool). if b then [] else (log_of base s image).done) (by_start base s image some)

pub fault-full : (base : ℕ) (s : JournalSuper) (image : List (List ℕ)) → s.start ≢ 0 → fault_of base s image ≡ (log_of base s image).fault
fault-full base s image some = ap (λ (b : Bool). if b then None else (log_of base s image).fault) (by_start base s image some)

pub transactions-empty : (base : ℕ) (s : JournalSuper) (image : List (List ℕ)) → s.start ≡ 0 → transactions_of base s image ≡ []
transactions-empty base s image none = ap (λ (b : Bool). if b then [] else (log_of base s image).done) (eq-eqb s.start 0 none)

pub fault-empty : (base : ℕ) (s : JournalSuper) (image : List (List ℕ)) → s.start ≡ 0 → fault_of base s image ≡ None
fault-empty base s image none = ap (λ (b : Bool). if b then None else (log_of base s image).fault) (eq-eqb s.start 0 none)

none_by : (long : Bool) (base : ℕ) (o : Option ℕ) → ◌≡◌ {A = Option (JournalFault × ℕ)} (if long then Some (BadCount, base) else option_map (λ at. (BadCount, at)) o) None → o ≡ None
none_by true base o h = absurd (cc)
none_by false base None h = refl
none_by false base (Some at) h = absurd (cc)

-- a journal without a fault has none in its log
pub fine_log : (base : ℕ) (image : List (List ℕ)) (s : JournalSuper) → super_of (body_at image base) ≡ Ok s → s.start ≢ 0 → journal_fault base image ≡ None → (log_of base s image).fault ≡ None
unfolding journal_fault
fine_log base image s e some fine = sym (fault-full base s image some) ∙ none_by (nat_lt (length image - base) s.maxlen) base (fault_of base s image) (sym (ap (fault_by base image) e) ∙ fine)

-- it has at most one transaction for each block of the journal
pub few_transactions : (base : ℕ) (s : JournalSuper) (image : List (List ℕ)) → IsSound s → s.start ≢ 0 → length (transactions_of base s image) < 2 ^ 32
few_transactions base s image sound some =
    let at = start_within s sound.places some in
    let few = done_few base s image at.0 at.1 in
    let top = sound.fits.maxlen in
    let same = ap (λ (ts : List Transaction). length ts) (transactions-full base s image some) in
    omega (arith, few, top, same)

-- the sequence past the first missing one
pub next_is : (base : ℕ) (s : JournalSuper) (image : List (List ℕ)) (n : ℕ) → IsSound s → s.start ≢ 0 → n ≡ length (transactions_of base s image) → ((s.sequence + n) % 2 ^ 32 + 1) % 2 ^ 32 ≡ next_sequence (log_of base s image)
next_is base s image n sound some is =
    ap (λ (k : ℕ). ((s.sequence + k) % 2 ^ 32 + 1) % 2 ^ 32) (is ∙ ap (λ (ts : List Transaction). length ts) (transactions-full base s image some))
    ∙ ap (λ (k : ℕ). (k + 1) % 2 ^ 32) (sym (log_counts base s image sound.fits.sequence))

-- ---- the superblock of the recovered image

pub recovered_super : (base : ℕ) (image : List (List ℕ)) (s t : JournalSuper) → base < length image → length (body_at image base) ≡ 1024 → super_of (body_at image base) ≡ Ok s → s.start ≢ 0
    → super_of (body_at (recovered base image) base) ≡ Ok t → (t.sequence ≡ next_sequence (log_of base s image)) × (t.start ≡ 0)
recovered_super base image s t within size e some f =
    let r = log_of base s image in
    let size_healed = length-healed (log_mark base s image) 0 image in
    let there : body_at (recovered base image) base ≡ emptied_super base s image =
    ap (λ (i : List (List ℕ)). body_at i base) (recovered-full base image s e (by_start base s image some))
    ∙ body_at-some _ base (emptied_super base s image) (slice_get-set_same (healed (log_mark base s image) 0 image) base (emptied_super base s image) (omega (arith, within, size_healed))) in
    let read = tail_read (body_at image base) s (next_sequence r) size e (below_power (r.sequence + 1)) in
    let made : JournalSuper = record s { sequence = next_sequence r; start = 0 } in
    let same = same_ok made t (sym read ∙ (ap super_of (sym there) ∙ f)) in
    (ap (λ (q : JournalSuper). q.sequence) (sym same), ap (λ (q : JournalSuper). q.start) (sym same))

-- and nothing of the log is left in it
pub emptied_log : (base : ℕ) (image : List (List ℕ)) (s : JournalSuper) → base < length image → length (body_at image base) ≡ 1024 → super_of (body_at image base) ≡ Ok s → s.start ≢ 0
    → HasNoLog base (recovered base image)
emptied_log base image s within size e some =
    let r = log_of base s image in
    let size_healed = length-healed (log_mark base s image) 0 image in
    let there : body_at (recovered base image) base ≡ emptied_super base s image =
    ap (λ (i : List (List ℕ)). body_at i base) (recovered-full base image s e (by_start base s image some))
    ∙ body_at-some _ base (emptied_super base s image) (slice_get-set_same (healed (log_mark base s image) 0 image) base (emptied_super base s image) (omega (arith, within, size_healed))) in
    let read = tail_read (body_at image base) s (next_sequence r) size e (below_power (r.sequence + 1)) in
    let made : JournalSuper = record s { sequence = next_sequence r; start = 0 } in
    let says : super_of (body_at (recovered base image) base) ≡ Ok made = ap super_of there ∙ read in
    record { says = made; read = says; empty = refl; stays = recovered-empty base (recovered base image) made says refl }

-- as nothing is where there was none
pub no_log : (base : ℕ) (image now : List (List ℕ)) (s : JournalSuper) → super_of (body_at image base) ≡ Ok s → s.start ≡ 0 → now ≡ image → HasNoLog base now
no_log base image now s e none same =
    let says = ap (λ (i : List (List ℕ)). super_of (body_at i base)) same ∙ e in
    record { says = s; read = says; empty = none; stays = recovered-empty base now s says (eq-eqb s.start 0 none) }

-- an empty log, of which it is said that it is not
pub not_empty : (base : ℕ) (image : List (List ℕ)) (s t : JournalSuper) → super_of (body_at image base) ≡ Ok s → super_of (body_at image base) ≡ Ok t → s.start ≢ 0 → t.start ≡ 0 → ⊥
not_empty base image s t e f some none = some (ap (λ (q : JournalSuper). q.start) (same_ok s t (sym e ∙ f)) ∙ none)

pub ok_not_empty : {X E : Type 0} (P : Type 0) (base : ℕ) (image : List (List ℕ)) (t : JournalSuper) (r : Result X E) → super_of (body_at image base) ≡ Ok t → t.start ≢ 0
    → IfOk r (λ x. (s : JournalSuper) → super_of (body_at image base) ≡ Ok s → s.start ≡ 0 → P)
ok_not_empty P base image t (Ok x) e some = λ s f none. absurd (not_empty base image t s e f some none)
ok_not_empty P base image t (Err f) e some = tt

pub recovered_super-empty : (base : ℕ) (image : List (List ℕ)) (s t : JournalSuper) → super_of (body_at image base) ≡ Ok s → s.start ≡ 0 → super_of (body_at (recovered base image) base) ≡ Ok t → s ≡ t
recovered_super-empty base image s t e none f =
    same_ok s t (sym e ∙ (sym (ap (λ (i : List (List ℕ)). super_of (body_at i base)) (recovered-empty base image s e (eq-eqb s.start 0 none))) ∙ f))

-- ---- what a replay has of a journal

pub has_log : (base : ℕ) (image : List (List ℕ)) (j : Journal) (hs : List Logged) (n : ℕ) (b : List ℕ) → IsJournalOf base image j → j.fields.start ≢ 0
    → hs ≡ homes (mark_in j.log) 0 base → n ≡ length j.log → b ≡ with_tail (((j.fields.sequence + n) % 2 ^ 32 + 1) % 2 ^ 32) 0 j.superblock → HasLog base image hs b
has_log base image j hs n b is full listed count tail =
    let all : j.log ≡ (log_of base j.fields image).done = is.log ∙ transactions-full base j.fields image full in
    let next = next_is base j.fields image n is.sound full (count ∙ ap (λ (ts : List Transaction). length ts) is.log) in
    record {
      journal = j.fields;
      read = is.read;
      full = ne_eqb j.fields.start 0 full;
      homes = listed ∙ ap (λ (ts : List Transaction). homes (mark_in ts) 0 base) all;
      super = tail ∙ (ap (λ (k : ℕ). with_tail k 0 j.superblock) next ∙ ap (with_tail (next_sequence (log_of base j.fields image)) 0) (sym is.superblock));
    }

-- ---- a run that was made

pub run_from : {S : Type 0} (m : Machine S) {xs ys : List Command} → xs ≡ ys → (steer : List Choice) (cut : Bool) (old new : S)
    → (cut ≡ true → new ≡ (driven m steer (record { dev = old; rest = xs })).dev)
    → (cut ≡ false → (turns : ℕ) × (new ≡ (driven m (replicate turns choices.Default) (driven m steer (record { dev = old; rest = xs }))).dev))
    → (cut ≡ false → is_running (end_of (m.seen new)) ≡ false) → IsRun m ys steer cut old new
run_from m {xs = xs} {ys = ys} same steer cut old new cut_run whole_run over = record {
  start = old;
  reads = (refl, omega arith);
  from = ([], refl, refl);
  cut_run = λ e. cut_run e ∙ ap (λ (cs : List Command). (driven m steer (record { dev = old; rest = cs })).dev) same;
  whole_run = λ e. let w = whole_run e in (w.0, w.1 ∙ ap (λ (cs : List Command). (driven m (replicate w.0 choices.Default) (driven m steer (record { dev = old; rest = cs }))).dev) same);
  over = over;
}

-- what was read before a run is read before it still
pub run_behind : {S : Type 0} (m : Machine S) {xs ys : List Command} → xs ≡ ys → (steer : List Choice) (cut : Bool) (first old new : S)
    → OnlyReads (m.seen first) (m.seen old) → WereRead m first old → IsRun m xs steer cut old new → IsRun m ys steer cut first new
run_behind m same steer cut first old new read from run = record {
  start = run.start;
  reads = (run.reads.0 ∙ ap (λ (x : Seen). let made : Seen = record x { faults = (m.seen run.start).faults } in made) read.0, let a = read.1 in let b = run.reads.1 in omega (arith, a, b));
  from = reads_on m first old run.start from run.from;
  cut_run = λ e. run.cut_run e ∙ ap (λ (cs : List Command). (driven m steer (record { dev = run.start; rest = cs })).dev) same;
  whole_run = λ e. let w = run.whole_run e in (w.0, w.1 ∙ ap (λ (cs : List Command). (driven m (replicate w.0 choices.Default) (driven m steer (record { dev = run.start; rest = cs }))).dev) same);
  over = run.over;
}

-- so where it comes to an end, of the image that was read before
pub run_read : {S E : Type 0} (m : Machine S) (base : ℕ) (image : List (List ℕ)) (r : Result Recovered E) {xs : List Command} → xs ≡ commands base image → (steer : List Choice) (cut : Bool) (first old new : S)
    → OnlyReads (m.seen first) (m.seen old) → WereRead m first old → IfOk r (λ x. IsRun m xs steer cut old new)
    → IfOk r (λ x. (s : JournalSuper) → super_of (body_at image base) ≡ Ok s → s.start ≢ 0 → IsRun m (commands base image) steer cut first new)
run_read m base image (Ok x) same steer cut first old new read from run = λ s is some. run_behind m same steer cut first old new read from run
run_read m base image (Err e) same steer cut first old new read from run = tt

-- what a replay says of the next sequence, of the image that was read before
pub next_from : {E : Type 0} (base : ℕ) (image now : List (List ℕ)) (j : Journal) (r : Result Recovered E) → IsJournalOf base image j → j.fields.start ≢ 0 → base < length image → now ≡ image
    → IfOk r (λ x. x.next ≡ next_sequence (log_of base j.fields now))
    → IfOk r (λ x. (t : JournalSuper) → super_of (body_at (recovered base image) base) ≡ Ok t → (t.sequence ≡ x.next) × (t.start ≡ 0))
next_from base image now j (Ok x) is full within same next = λ t read.
    let there = recovered_super base image j.fields t within is.size is.read full read in
    (there.0 ∙ (ap (λ (i : List (List ℕ)). next_sequence (log_of base j.fields i)) (sym same) ∙ sym next), there.1)
next_from base image now j (Err e) is full within same next = tt
