-- What may be transferred and written, and what each step does to what is seen.
use Rattle.std.specs.Prelude.{◌≡◌, ℕ, ◌+◌, ◌<◌, ◌≤◌, ◌++◌, not, true, false, List, [], ◌∷◌, length, Bool, Option, Some, None, slice_get, refl, if◌then◌else◌}
use Rattle.std.proofs.Common.{sym, ap, subst, ◌∙◌, inl, inr, arith}
use Rattle.std.proofs.lemmas.Bool.{cases_Bool, and_parts, or_parts, both_ways, not-true, false_from_ne_true, false≢true}
use Rattle.std.proofs.lemmas.List.{append-nil}
use Rattle.std.proofs.lemmas.Option.{none-some}
use Rattle.blk_base.specs.Members.{In}
use Rattle.blk_base.specs.laws.Members.{In-append_right, In-append_cases, In-filter, filter-In, slice_get-In, slice_get-in_range, slice_get-out}
use Rattle.order_model.specs.declared.command.Command.{Command}
use Rattle.order_model.specs.declared.completion.Completion.{Completion}
use Rattle.order_model.specs.declared.completion.Completion.TheVariants.{Cut}
use Rattle.order_model.specs.Received.{transfers as moved_parts, epoch_of, all_parts, first_part, completions_of, failures_of}
use Rattle.order_model.specs.Steps.{Receives, Tells, Transfers, Persists, Answers}
use Rattle.device_epochs.specs.queue.Queue.{Waiting, eligible}
use Rattle.flog_device.specs.Log.{Place, Page, prefix, places, pages, laid, laid_origins}
use Rattle.flog_device.specs.laws.LogFacts.{prefix-unprogrammed}
use Rattle.flog_device.specs.laws.LogSteps.{pages-unprogrammed, laid-received, given-lt, In-kept_given}
use Rattle.flog_device.specs.Device.{Write, Program, Fold, programs, folds, folded_from, FlogState, fails_next, is_off, received, may_transfer, has_stopped, transferable, performed, failed_on, tried, transferred, persistable, written, persisted, tells_cut, answers_left, next_answer, answered, answered_from, seen}
use Rattle.flog_device.specs.laws.StateLaws.{waits, pending-is}
use Rattle.device_epochs.specs.queue.laws.EpochLaws.{epoch_of_eligible}
use Rattle.device_epochs.specs.queue.laws.PendingLaws.{number-is, not-number}
use Rattle.device_epochs.specs.queue.laws.QueueLaws.{eligible-waits}
use Rattle.flog_device.specs.laws.Valid.{with_waiting, IsValid}

-- ---- which steps can be taken

-- the cut is not told while the power is on
pub untold : (s : FlogState) → IsValid s → is_off s ≡ false → s.told ≡ false
untold s v on = false_from_ne_true s.told (λ t. both_ways (is_off s) on (v.completions.told_off t))

pub transferable-In : (s : FlogState) (w : Waiting) → In w (transferable s) → (is_off s ≡ false) × In w (eligible s.queue.waiting) × (may_transfer s w ≡ true) × (s.failed ≡ false)
transferable-In s w h =
    elim (cases_Bool (has_stopped s)) [
      | inl t ↦ absurd (rw t at h)
      | inr n ↦
          let i = In-filter (may_transfer s) (eligible s.queue.waiting) w (rw n at h) in
          let p = or_parts (is_off s) s.failed n in
          (p.0, i.0, i.1, p.1)
    ]

pub transferable-waits : (s : FlogState) (w : Waiting) → In w (transferable s) → In w s.queue.waiting
transferable-waits s w h = eligible-waits s.queue.waiting w (transferable-In s w h).1

pub is-transferable : (s : FlogState) (w : Waiting) → is_off s ≡ false → s.failed ≡ false → In w (eligible s.queue.waiting) → may_transfer s w ≡ true → In w (transferable s)
is-transferable s w n f h m =
    let goes : has_stopped s ≡ false = rw (n, f) refl in
    rw goes (filter-In (may_transfer s) (eligible s.queue.waiting) w h m)

-- ---- a transfer that is performed, and one that fails

pub tried-fails : (s : FlogState) (w : Waiting) → fails_next s ≡ true → tried s (Some w) ≡ failed_on s w
tried-fails s w t = rw t refl

pub tried-moves : (s : FlogState) (w : Waiting) → fails_next s ≡ false → tried s (Some w) ≡ performed s w
tried-moves s w n = rw n refl

-- what holds of the old state, of one in which the command failed and of one in which it was moved holds after the transfer
pub tried-all : (P : FlogState → Type 0) (s : FlogState) (o : Option Waiting) → P s
    → ((w : Waiting) → o ≡ Some w → fails_next s ≡ true → P (failed_on s w))
    → ((w : Waiting) → o ≡ Some w → fails_next s ≡ false → P (performed s w)) → P (tried s o)
tried-all P s None same fails moves = same
tried-all P s (Some w) same fails moves =
    elim (cases_Bool (fails_next s)) [
      | inl t ↦ subst P (sym (tried-fails s w t)) (fails w refl t)
      | inr n ↦ subst P (sym (tried-moves s w n)) (moves w refl n)
    ]

pub persistable-In : (s : FlogState) (e : Write) → In e (persistable s) → (is_off s ≡ false) × In e (programs 0 s.log ++ folds s.log)
persistable-In s e h =
    elim (cases_Bool (is_off s)) [
      | inl t ↦ absurd (rw t at h)
      | inr n ↦ let i : In e (programs 0 s.log ++ folds s.log) = rw n at h in (n, i)
    ]

-- a fold is there only where the oldest page is programmed
no_fold : (i : ℕ) (log : List Page) → In Fold (programs i log) → ⊥
no_fold i [] h = h
no_fold i (p ∷ ps) h =
    elim (cases_Bool p.programmed) [
      | inl t ↦ no_fold (i + 1) ps (rw t at h)
      | inr n ↦
          let j : In Fold (Program i ∷ programs (i + 1) ps) = rw n at h in
          elim j [ inl e ↦ program_no_fold i e | inr k ↦ no_fold (i + 1) ps k ]
    ]
  where
    is_fold : Write → Bool
    is_fold Fold = true
    is_fold (Program i) = false

    program_no_fold : (i : ℕ) → Program i ≡ Fold → ⊥
    program_no_fold i e = false≢true (ap is_fold e)

folds-first : (log : List Page) → In Fold (folds log) → (p : Page) × (ps : List Page) × (log ≡ p ∷ ps) × (p.programmed ≡ true)
folds-first [] h = absurd h
folds-first (p ∷ ps) h =
    elim (cases_Bool p.programmed) [
      | inl t ↦ (p, ps, refl, t)
      | inr n ↦ absurd (rw n at h)
    ]

pub fold-first : (log : List Page) → In Fold (programs 0 log ++ folds log) → (p : Page) × (ps : List Page) × (log ≡ p ∷ ps) × (p.programmed ≡ true)
fold-first log h =
    elim (In-append_cases (programs 0 log) (folds log) Fold h) [
      | inl i ↦ absurd (no_fold 0 log i)
      | inr j ↦ folds-first log j
    ]

-- ---- the shape of each step

kept_low : (s : FlogState) (v : IsValid s) (p : Place) → In p (places (prefix s.log)) → p.part < length (all_parts s.took)
kept_low s v p i =
    given-lt s.base s.took v.pending s.moved v.gone s.log s.data_area s.origins p v.log
    (In-kept_given v.gone s.log p (In-append_right v.gone (places (prefix s.log)) p i))

pub Receives-received : (s : FlogState) (c : Command) → IsValid s → Receives (seen s) c (seen (received s c))
Receives-received s c v =
    ap (λ (a : List (List ℕ)). record (seen s) { took = s.took ++ c ∷ []; surface = a }) (laid-received s.took c (places (prefix s.log)) s.data_area (kept_low s v))

-- completions go behind those that wait, and behind them that the power went off
Tells-new : (s new : FlogState) (done : List Completion) → IsValid s → is_off s ≡ false → new.told ≡ s.told → new.waiting ≡ s.waiting ++ done → Tells (seen s) done (seen new)
Tells-new s new done v on same added =
    let not_told : new.told ≡ false = same ∙ untold s v on in
    let old : answers_left s ≡ s.waiting ++ [] = rw on refl in
    let before = sym (old ∙ append-nil s.waiting) in
    elim (cases_Bool (is_off new)) [
      | inl t ↦
          let after : answers_left new ≡ new.waiting ++ Cut ∷ [] = rw (t, not_told) refl in
          inr (on, t, after ∙ ap (λ (l : List Completion). l ++ Cut ∷ []) (added ∙ ap (λ (l : List Completion). l ++ done) before))
      | inr n ↦
          let after : answers_left new ≡ new.waiting ++ [] = rw n refl in
          inl (after ∙ append-nil new.waiting ∙ added ∙ ap (λ (l : List Completion). l ++ done) before)
    ]

-- the new pages are not programmed, so the prefix stays
pub prefix-performed : (s : FlogState) (w : Waiting) → prefix (s.log ++ pages (first_part s.took w.number) w.command.parts) ≡ prefix s.log
prefix-performed s w = prefix-unprogrammed s.log (pages (first_part s.took w.number) w.command.parts) (pages-unprogrammed (first_part s.took w.number) w.command.parts)

transfer-epoch : (s : FlogState) (w : Waiting) (v : IsValid s) → In w (transferable s) → epoch_of s.took w.number ≡ s.epoch
transfer-epoch s w v h =
    let may = transferable-In s w h in
    let free : In w (eligible v.pending) = subst (λ ws. In w (eligible ws)) (sym (pending-is s v may.3)) may.1 in
    epoch_of_eligible (length s.base) s.limit s.took (with_waiting s.queue v.pending) s.epoch w v.commands v.queue v.present free

Transfers-performed : (s : FlogState) (w : Waiting) → IsValid s → is_off s ≡ false → slice_get s.took w.number ≡ Some w.command → epoch_of s.took w.number ≡ s.epoch → fails_next s ≡ false → Transfers (seen s) (seen (performed s w))
Transfers-performed s w v on taken now other = record {
  given = record { base = refl; limit = refl; depth = refl; cut_at = refl; fail_at = refl; took = refl; sent = refl };
  surface = ap (λ (l : List Page). laid s.took (places l) s.data_area) (prefix-performed s w);
  origins = ap (λ (l : List Page). laid_origins (places l) s.origins) (prefix-performed s w);
  steps = refl;
  transfers_made = refl;
  number = w.number;
  command = w.command;
  taken = taken;
  outcome = inl (record { cause = not-number s.fail_at (s.transfers_made + 1) other; moved = ap (λ epoch. s.moved ++ moved_parts epoch (first_part s.took w.number) w.command.parts) (sym now); told = Tells-new s (performed s w) (completions_of w.command) v on refl refl; failed = refl; faults = refl });
}

Transfers-failed_on : (s : FlogState) (w : Waiting) → IsValid s → is_off s ≡ false → slice_get s.took w.number ≡ Some w.command → fails_next s ≡ true → Transfers (seen s) (seen (failed_on s w))
Transfers-failed_on s w v on taken this = record {
  given = record { base = refl; limit = refl; depth = refl; cut_at = refl; fail_at = refl; took = refl; sent = refl };
  surface = refl;
  origins = refl;
  steps = refl;
  transfers_made = refl;
  number = w.number;
  command = w.command;
  taken = taken;
  outcome = inr (record { cause = number-is s.fail_at (s.transfers_made + 1) this; moved = refl; told = Tells-new s (failed_on s w) (failures_of w.command) v on refl refl; failed = refl; faults = λ lt. omega arith });
}

pub Transfers-transferred : (s : FlogState) (pick : ℕ) → IsValid s → pick < length (transferable s) → Transfers (seen s) (seen (transferred s pick))
Transfers-transferred s pick v lt =
    let w = slice_get-in_range (transferable s) pick lt in
    let h = slice_get-In (transferable s) pick w.0 w.1 in
    let on = (transferable-In s w.0 h).0 in
    let taken = v.queue.queued w.0 (waits s v w.0 (transferable-waits s w.0 h)) in
    elim (cases_Bool (fails_next s)) [
      | inl t ↦ subst (λ (n : FlogState). Transfers (seen s) (seen n)) (sym (ap (tried s) w.1 ∙ tried-fails s w.0 t)) (Transfers-failed_on s w.0 v on taken t)
      | inr n ↦ subst (λ (n : FlogState). Transfers (seen s) (seen n)) (sym (ap (tried s) w.1 ∙ tried-moves s w.0 n)) (Transfers-performed s w.0 v on taken (transfer-epoch s w.0 v h) n)
    ]

pub no_transfer : (s : FlogState) (pick : ℕ) → length (transferable s) ≤ pick → transferred s pick ≡ s
no_transfer s pick le = ap (tried s) (slice_get-out (transferable s) pick le)

pub no_persist : (s : FlogState) (pick : ℕ) → length (persistable s) ≤ pick → persisted s pick ≡ s
no_persist s pick le = ap (written s) (slice_get-out (persistable s) pick le)

-- what a write changes, while the power is on
Persists-by : (s new : FlogState) → IsValid s → is_off s ≡ false → new.base ≡ s.base → new.limit ≡ s.limit → new.took ≡ s.took → new.sent ≡ s.sent → new.moved ≡ s.moved → new.waiting ≡ s.waiting → new.told ≡ s.told
    → new.failed ≡ s.failed → new.faults ≡ s.faults → new.steps ≡ s.steps + 1 → (new.queue.depth ≡ s.queue.depth) × (new.cut_at ≡ s.cut_at) × (new.fail_at ≡ s.fail_at) × (new.transfers_made ≡ s.transfers_made) → Persists (seen s) (seen new)
Persists-by s new v on base limit took sent moved waiting told failed faults steps same =
    let not_told : new.told ≡ false = told ∙ untold s v on in
    let before : answers_left s ≡ s.waiting ++ [] = rw on refl in
    record {
      given = record { base = base; limit = limit; depth = same.0; cut_at = same.1; fail_at = same.2; took = took; sent = sent };
      moved = moved;
      waiting =
          elim (cases_Bool (is_off new)) [
            | inl t ↦
                let after : answers_left new ≡ new.waiting ++ Cut ∷ [] = rw (t, not_told) refl in
                inr (on, t, after ∙ ap (λ (l : List Completion). l ++ Cut ∷ []) (waiting ∙ sym (before ∙ append-nil s.waiting)))
            | inr n ↦
                let after : answers_left new ≡ new.waiting ++ [] = rw n refl in
                inl (after ∙ ap (λ (l : List Completion). l ++ []) waiting ∙ sym before)
          ];
      failed = failed;
      faults = faults;
      steps = steps;
      transfers_made = same.3;
    }

Persists-fold : (s : FlogState) → IsValid s → is_off s ≡ false → (p : Page) (ps : List Page) → Persists (seen s) (seen (folded_from s (p ∷ ps)))
Persists-fold s v on p ps = Persists-by s (folded_from s (p ∷ ps)) v on refl refl refl refl refl refl refl refl refl refl (refl, refl, refl, refl)

Persists-written : (s : FlogState) → IsValid s → (e : Write) → In e (persistable s) → Persists (seen s) (seen (written s (Some e)))
Persists-written s v (Program i) h =
    Persists-by s (written s (Some (Program i))) v (persistable-In s (Program i) h).0 refl refl refl refl refl refl refl refl refl refl (refl, refl, refl, refl)
Persists-written s v Fold h =
    let may = persistable-In s Fold h in
    let first = fold-first s.log may.1 in
    subst (λ (l : List Page). Persists (seen s) (seen (folded_from s l))) (sym first.2) (Persists-fold s v may.0 first.0 first.1)

pub Persists-persisted : (s : FlogState) → IsValid s → (pick : ℕ) → pick < length (persistable s) → Persists (seen s) (seen (persisted s pick))
Persists-persisted s v pick lt =
    let e = slice_get-in_range (persistable s) pick lt in
    subst (λ o. Persists (seen s) (seen (written s o))) (sym e.1) (Persists-written s v e.0 (slice_get-In (persistable s) pick e.0 e.1))

nil_from_none : (cs : List Completion) → slice_get cs 0 ≡ None → cs ≡ []
nil_from_none [] e = refl
nil_from_none (c ∷ cs) e = absurd (none-some c (sym e))

Answers-none : (s : FlogState) → s.waiting ≡ [] → tells_cut s ≡ false → Answers (seen s) (next_answer s) (seen s)
Answers-none s e n =
    let nothing : answers_left s ≡ [] = rw (e, n) refl in
    record {
      rest = refl;
      sent = rw nothing (sym (append-nil s.sent));
      waiting = rw nothing refl;
      none = λ z. nothing;
    }

Answers-from : (s : FlogState) (cs : List Completion) → s.waiting ≡ cs → Answers (seen s) (next_answer s) (seen (answered_from s cs))
Answers-from s (c ∷ cs) e =
    record {
      rest = refl;
      sent = rw e refl;
      waiting = rw e refl;
      none = nil_from_none (answers_left s);
    }
Answers-from s [] e =
    elim (cases_Bool (tells_cut s)) [
      | inl t ↦
          let p = and_parts (is_off s) (not s.told) t in
          let untold : s.told ≡ false = not-true s.told p.1 in
          rw t (record {
            rest = refl;
            sent = rw e refl;
            waiting = rw (e, p.0) refl;
            none = nil_from_none (s.waiting ++ Cut ∷ []);
          })
      | inr n ↦
          subst
          (λ b. Answers (seen s) (next_answer s) (seen (if b then record s { sent = s.sent ++ Cut ∷ []; told = true } else s)))
          (sym n) (Answers-none s e n)
    ]

nothing_left : (s : FlogState) (b : Bool) → tells_cut s ≡ b → slice_get (if b then Cut ∷ [] else []) 0 ≡ None → (if b then record s { sent = s.sent ++ Cut ∷ []; told = true } else s) ≡ s
nothing_left s true e none = absurd (none-some Cut (sym none))
nothing_left s false e none = refl

no_answer-from : (s : FlogState) (cs : List Completion) → slice_get (cs ++ (if tells_cut s then Cut ∷ [] else [])) 0 ≡ None → answered_from s cs ≡ s
no_answer-from s (c ∷ cs) none = absurd (none-some c (sym none))
no_answer-from s [] none = nothing_left s (tells_cut s) refl none

-- where nothing is handed out, nothing changes
pub no_answer : (s : FlogState) → next_answer s ≡ None → answered s ≡ s
no_answer s none = no_answer-from s s.waiting none

pub Answers-answered : (s : FlogState) → Answers (seen s) (next_answer s) (seen (answered s))
Answers-answered s = Answers-from s s.waiting refl
