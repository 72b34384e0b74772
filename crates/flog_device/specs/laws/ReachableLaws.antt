-- Each call of the device leads from a state that can be reached to another.
use Rattle.std.specs.Prelude.{◌≡◌, ℕ, ◌<◌, true, false, not, List, [], ◌∷◌, ◌++◌, length, Option, Some, None, slice_get, nat_le, refl, ◌||◌, ◌≤◌, is_some}
use Rattle.std.proofs.Common.{sym, ap, subst, ◌∙◌, inl, inr, ⊎_elim, arith, append_assoc}
use Rattle.std.proofs.lemmas.Bool.{not-true, cases_Bool, and_parts, false≢true}
use Rattle.std.proofs.lemmas.List.{length-replicate, length_push, append-nil}
use Rattle.std.proofs.lemmas.Option.{none-some}
use Rattle.blk_base.specs.Members.{In}
use Rattle.blk_base.specs.laws.Members.{In-push_cases, slice_get-replicate, slice_get-In}
use Rattle.order_model.specs.declared.command.Command.{Command}
use Rattle.order_model.specs.declared.completion.Completion.{Completion}
use Rattle.order_model.specs.declared.completion.Completion.TheVariants.{Cut}
use Rattle.order_model.specs.Received.{epoch_of, completions_of, failures_of}
use Rattle.order_model.specs.Device.{IsReceivable}
use Rattle.device_epochs.specs.queue.Queue.{Waiting, eligible, without}
use Rattle.flog_device.specs.Log.{Page}
use Rattle.flog_device.specs.laws.LogSteps.{LogFacts-received, LogFacts-performed, LogFacts-programmed, LogFacts-folded}
use Rattle.device_epochs.specs.queue.laws.CompletionLaws.{completions-received, completions-moved, completions-failed, completions-persisted, completions-told}
use Rattle.device_epochs.specs.queue.Faults.{is_number}
use Rattle.device_epochs.specs.queue.laws.QueueLaws.{length-without}
use Rattle.std.specs.Prelude.{◌+◌}
use Rattle.std.proofs.Common.{◌∙◌}
use Rattle.std.proofs.lemmas.Bool.{cases_eq}
use Rattle.flog_device.specs.Device.{FlogState, FlogSetup, free_places, all_programmed, Write, Program, Fold, folded_from, opened, fails_next, is_off, received, transferable, performed, failed_on, transferred, persistable, written, persisted, tells_cut, answered_from, answered, seen}
use Rattle.device_epochs.specs.queue.laws.EpochLaws.{present-received, present-moved, moved-received, moved-moved, epoch_of_eligible}
use Rattle.device_epochs.specs.queue.laws.PendingLaws.{pending-received, pending-moved, pending-failed, lost-lt, faults-moved, faults-failed, not-number}
use Rattle.flog_device.specs.laws.OrderLaws.{surface_blocks}
use Rattle.flog_device.specs.Device.{programs, folds}
use Rattle.flog_device.specs.laws.CountLaws.{counts-received, counts-moved, counts-failed, counts-programmed, counts-folded, counts-answered_from}
use Rattle.flog_device.specs.laws.StateLaws.{lost-none, pending-is, waits, numbered}
use Rattle.device_epochs.specs.queue.laws.QueueLaws.{commands-received, queue-received, queue-moved, eligible-waits}
use Rattle.flog_device.specs.laws.StepLaws.{untold, transferable-In, tried-all, persistable-In, fold-first}
use Rattle.device_epochs.specs.queue.Facts.{CompletionFacts}
use Rattle.flog_device.specs.laws.Valid.{LogFacts, with_waiting, IsValid}

-- the completions where no transfer failed
pub unlost : (s : FlogState) (v : IsValid s) → s.failed ≡ false → CompletionFacts s.took v.pending None (s.sent ++ s.waiting) (is_off s) s.told
unlost s v n = subst (λ o. CompletionFacts s.took v.pending o (s.sent ++ s.waiting) (is_off s) s.told) (lost-none s v n) v.completions

-- ---- a new device

pub opened-valid : (image : List (List ℕ)) (setup : FlogSetup) → 0 < setup.depth → 3 ≤ setup.segments → IsValid (opened image setup)
opened-valid image setup some segments = record {
  pending = [];
  lost = None;
  gone = [];
  counted = refl;
  some_segments = segments;
  small = λ c i. absurd i;
  losses = record { queue = refl; known = refl; there = λ n e. absurd (none-some n e) };
  queued = refl;
  cut = λ n e. omega arith;
  faults = record {
    number = λ t. absurd (false≢true t);
    made = λ n e lt. absurd (omega arith);
    few = omega arith;
  };
  commands = record {
    whole = λ c i. absurd i;
    ordered = λ c i. absurd i;
    within = λ p i. absurd i;
    fresh = λ i j id e. absurd (none-some id e);
    few = omega arith;
  };
  queue = record {
    some_depth = some;
    next = refl;
    numbered = record { rising = tt; below = λ w i. absurd i };
    queued = λ w i. absurd i;
    passed = λ w k c i. absurd i;
  };
  present = λ k ahead clear. ⊎_elim (λ e. ap (epoch_of []) e) (λ w. absurd w.1) ahead;
  moved = record {
    place = λ t i. absurd i;
    done = λ t i. absurd i;
    epoch = λ t i. absurd i;
    all = λ x lt. absurd (omega arith);
  };
  log = record {
    blocks = refl;
    origin_blocks = length-replicate (length image) None;
    parts = refl;
    taken = λ p i. absurd i;
    rising = tt;
    epochs = tt;
    held = λ b lt none. slice_get-replicate (length image) b None lt;
    bodies = λ b lt none. refl;
    flushed = λ k id x p f d e. absurd (none-some p e);
  };
  completions = record {
    once = λ i j id e. absurd (none-some id e);
    source = λ x i. absurd i;
    all = λ k c x i. absurd (none-some c i.taken);
    cut_once = λ i j e. absurd (none-some Cut e);
    told_off = λ t. absurd (false≢true t);
    told_there = λ t. absurd (false≢true t);
  };
  counts = record {
    steps = omega arith;
    epochs = omega arith;
    moved = omega arith;
    completions = omega arith;
  };
}

pub later : (at : Option ℕ) (steps : ℕ) → is_number at steps ≡ false → ((n : ℕ) → at ≡ Some n → steps ≤ n) → (n : ℕ) → at ≡ Some n → steps + 1 ≤ n
later at steps on le n e =
    elim (cases_eq steps n) [
      | inl same ↦ absurd (not-number at steps on (e ∙ ap Some (sym same)))
      | inr ne ↦ let b = le n e in omega (arith, ne, b)
    ]

-- ---- a command is received

-- a command that may be given, of at most 16 parts
pub received-valid : (s : FlogState) (c : Command) → IsValid s → IsReceivable (seen s) c → length c.parts ≤ 16 → IsValid (received s c)
received-valid s c v r few =
    let w : Waiting = record { number = s.queue.next; command = c } in
    let last : w.number ≡ length s.took = v.queue.next in
    let q = with_waiting s.queue v.pending in
    record {
      pending = v.pending ++ w ∷ [];
      lost = v.lost;
      gone = v.gone;
      counted = v.counted;
      some_segments = v.some_segments;
      small = λ d i. ⊎_elim (v.small d) (λ e. subst (λ (x : Command). length x.parts ≤ 16) e few) (In-push_cases s.took c d i);
      losses = pending-received s.queue.next s.queue.waiting v.pending v.lost s.failed w v.losses v.queue.numbered refl;
      queued = let a = v.queued in let b = length_push s.took c in let d = length_push s.queue.waiting w in omega (arith, a, b, d);
      cut = v.cut;
      faults = v.faults;
      commands = commands-received (length s.base) s.limit (seen s) c v.commands r (surface_blocks s v) refl;
      queue = queue-received s.took q c v.queue;
      present = present-received s.took q s.epoch c w v.queue v.present last refl;
      moved = moved-received s.took v.pending s.moved c w v.moved last refl;
      log = LogFacts-received s.base s.took v.pending s.moved v.gone s.log s.data_area s.origins c w last v.log;
      completions =
          completions-received s.took v.pending v.lost (s.sent ++ s.waiting) (is_off s) s.told c w v.completions
          (λ n e. let lt = lost-lt s.queue.next s.queue.waiting v.pending v.lost s.failed v.losses v.queue.numbered n e in omega arith)
          last;
      counts = counts-received s v.pending c v.counts;
    }

-- ---- a command is transferred

abbrev pub performed-valid : (s : FlogState) (w : Waiting) → IsValid s → In w (transferable s) → fails_next s ≡ false → IsValid (performed s w)
performed-valid s w v h n =
    let may = transferable-In s w h in
    let q = with_waiting s.queue v.pending in
    let free : In w (eligible v.pending) = subst (λ ws. In w (eligible ws)) (sym (pending-is s v may.3)) may.1 in
    let inside = eligible-waits v.pending w free in
    let present = epoch_of_eligible (length s.base) s.limit s.took q s.epoch w v.commands v.queue v.present free in
    record {
      pending = without w.number v.pending;
      lost = None;
      gone = v.gone;
      counted = v.counted;
      some_segments = v.some_segments;
      small = v.small;
      losses = pending-moved s.queue.waiting v.pending v.lost s.failed w.number v.losses may.3;
      queued = let one = length-without s.queue.next s.queue.waiting w (numbered s v) (eligible-waits s.queue.waiting w may.1) in let a = v.queued in omega (arith, one, a);
      cut = later s.cut_at s.steps may.0 v.cut;
      faults = faults-moved s.fail_at s.transfers_made None s.failed s.faults v.faults may.3 n;
      commands = v.commands;
      queue = queue-moved s.took q w v.queue free;
      present = present-moved (length s.base) s.limit s.took q s.epoch w v.commands v.queue v.present free;
      moved = moved-moved s.took q s.moved s.epoch w v.queue v.moved inside present;
      log =
          LogFacts-performed s.base (length s.base) s.limit s.took q s.epoch s.moved v.gone s.log s.data_area s.origins w v.commands v.queue v.present v.moved v.log free
          (and_parts (nat_le (length w.command.parts) (free_places s)) (not (is_some w.command.flush) || all_programmed s.log) may.2).1;
      completions =
          subst (λ cs. CompletionFacts s.took (without w.number v.pending) None cs (is_off (performed s w)) s.told)
          (append_assoc s.sent s.waiting (completions_of w.command))
          (completions-moved s.took q (s.sent ++ s.waiting) (is_off s) (is_off (performed s w)) s.told w v.commands.fresh v.queue (unlost s v may.3) inside (untold s v may.0));
      counts = counts-moved s v.pending w (numbered s v) v.queue.numbered (eligible-waits s.queue.waiting w may.1) inside v.counts;
    }

-- a command whose transfer fails counts as one that still waits
pub failed_on-valid : (s : FlogState) (w : Waiting) → IsValid s → In w (transferable s) → fails_next s ≡ true → IsValid (failed_on s w)
failed_on-valid s w v h t =
    let may = transferable-In s w h in
    let q = with_waiting s.queue v.pending in
    let there = eligible-waits s.queue.waiting w may.1 in
    let inside = waits s v w there in
    record {
      pending = v.pending;
      lost = Some w.number;
      gone = v.gone;
      counted = v.counted;
      some_segments = v.some_segments;
      small = v.small;
      losses = pending-failed s.queue.waiting v.pending v.lost s.failed w v.losses may.3 inside;
      queued = let one = length-without s.queue.next s.queue.waiting w (numbered s v) there in let a = v.queued in omega (arith, one, a);
      cut = later s.cut_at s.steps may.0 v.cut;
      faults = faults-failed s.fail_at s.transfers_made None s.failed s.faults v.faults may.3 t;
      commands = v.commands;
      queue = v.queue;
      present = v.present;
      moved = v.moved;
      log = v.log;
      completions =
          subst (λ cs. CompletionFacts s.took v.pending (Some w.number) cs (is_off (failed_on s w)) s.told)
          (append_assoc s.sent s.waiting (failures_of w.command))
          (completions-failed s.took q (s.sent ++ s.waiting) (is_off s) (is_off (failed_on s w)) s.told w v.commands.fresh v.queue (unlost s v may.3) inside (untold s v may.0));
      counts = counts-failed s v.pending w (numbered s v) there v.counts;
    }

pub transferred-valid : (s : FlogState) (pick : ℕ) → IsValid s → IsValid (transferred s pick)
transferred-valid s pick v =
    tried-all IsValid s (slice_get (transferable s) pick) v
    (λ w e t. failed_on-valid s w v (slice_get-In (transferable s) pick w e) t)
    (λ w e n. performed-valid s w v (slice_get-In (transferable s) pick w e) n)

-- ---- a page is programmed, or folded

abbrev pub programmed-valid : (s : FlogState) (i : ℕ) (v : IsValid s) → is_off s ≡ false → In (Program i) (programs 0 s.log ++ folds s.log) → IsValid (written s (Some (Program i)))
programmed-valid s i v on may = record {
  pending = v.pending;
  lost = v.lost;
  gone = v.gone;
  counted = v.counted;
  some_segments = v.some_segments;
  small = v.small;
  losses = v.losses;
  queued = v.queued;
  cut = later s.cut_at s.steps on v.cut;
  faults = v.faults;
  commands = v.commands;
  queue = v.queue;
  present = v.present;
  moved = v.moved;
  log = LogFacts-programmed s.base s.took v.pending s.moved v.gone s.log s.data_area s.origins i v.log;
  completions = completions-persisted s.took v.pending v.lost (s.sent ++ s.waiting) (is_off s) (is_off (written s (Some (Program i)))) s.told v.completions (untold s v on);
  counts = counts-programmed s v.pending i may v.counts;
}

abbrev pub folded-valid : (s : FlogState) (p : Page) (ps : List Page) (v : IsValid s) → is_off s ≡ false → s.log ≡ p ∷ ps → p.programmed ≡ true → IsValid (folded_from s (p ∷ ps))
folded-valid s p ps v on e t = record {
  pending = v.pending;
  lost = v.lost;
  gone = v.gone ++ p.place ∷ [];
  counted = let n = length_push v.gone p.place in let m = v.counted in omega (arith, n, m);
  some_segments = v.some_segments;
  small = v.small;
  losses = v.losses;
  queued = v.queued;
  cut = later s.cut_at s.steps on v.cut;
  faults = v.faults;
  commands = v.commands;
  queue = v.queue;
  present = v.present;
  moved = v.moved;
  log = LogFacts-folded s.base s.took v.pending s.moved v.gone p ps s.data_area s.origins t (subst (λ (l : List Page). LogFacts s.base s.took v.pending s.moved v.gone l s.data_area s.origins) e v.log);
  completions = completions-persisted s.took v.pending v.lost (s.sent ++ s.waiting) (is_off s) (is_off (folded_from s (p ∷ ps))) s.told v.completions (untold s v on);
  counts = counts-folded s v.pending p ps e v.counts;
}

written-valid : (s : FlogState) (e : Write) → IsValid s → In e (persistable s) → IsValid (written s (Some e))
written-valid s (Program i) v h = let may = persistable-In s (Program i) h in programmed-valid s i v may.0 may.1
written-valid s Fold v h =
    let may = persistable-In s Fold h in
    let first = fold-first s.log may.1 in
    subst (λ (l : List Page). IsValid (folded_from s l)) (sym first.2) (folded-valid s first.0 first.1 v may.0 first.2 first.3)

written_from-valid : (s : FlogState) (o : Option Write) → IsValid s → ((e : Write) → o ≡ Some e → In e (persistable s)) → IsValid (written s o)
written_from-valid s None v h = v
written_from-valid s (Some e) v h = written-valid s e v (h e refl)

pub persisted-valid : (s : FlogState) (pick : ℕ) → IsValid s → IsValid (persisted s pick)
persisted-valid s pick v =
    written_from-valid s (slice_get (persistable s) pick) v (λ e q. slice_get-In (persistable s) pick e q)

-- ---- a completion is handed out

abbrev HasCompletions : FlogState → List Waiting → Option ℕ → Type 0
HasCompletions s ws lost = CompletionFacts s.took ws lost (s.sent ++ s.waiting) (is_off s) s.told

completions-answered_from : (s : FlogState) (ws : List Waiting) (lost : Option ℕ) (cs : List Completion) → s.waiting ≡ cs → HasCompletions s ws lost → HasCompletions (answered_from s cs) ws lost
completions-answered_from s ws lost (c ∷ cs) e f =
    let same : s.sent ++ s.waiting ≡ (s.sent ++ c ∷ []) ++ cs = ap (λ l. s.sent ++ l) e ∙ sym (append_assoc s.sent (c ∷ []) cs) in
    subst (λ l. CompletionFacts s.took ws lost l (is_off s) s.told) same f
completions-answered_from s ws lost [] e f =
    elim (cases_Bool (tells_cut s)) [
      | inl t ↦
          let p = and_parts (is_off s) (not s.told) t in
          let none : s.sent ++ s.waiting ≡ s.sent = ap (λ l. s.sent ++ l) e ∙ append-nil s.sent in
          let g = completions-told s.took ws lost s.sent (is_off s) s.told (subst (λ l. CompletionFacts s.took ws lost l (is_off s) s.told) none f) (not-true s.told p.1) p.0 in
          let after : s.sent ++ Cut ∷ [] ≡ (s.sent ++ Cut ∷ []) ++ s.waiting = sym (ap (λ l. (s.sent ++ Cut ∷ []) ++ l) e ∙ append-nil (s.sent ++ Cut ∷ [])) in
          rw t (subst (λ l. CompletionFacts s.took ws lost l (is_off s) true) after g)
      | inr n ↦ rw n f
    ]

handed-valid : (s : FlogState) (cs : List Completion) → s.waiting ≡ cs → IsValid s → IsValid (answered_from s cs)
handed-valid s (c ∷ cs) e v = record {
  pending = v.pending;
  lost = v.lost;
  gone = v.gone;
  counted = v.counted;
  some_segments = v.some_segments;
  small = v.small;
  losses = v.losses;
  queued = v.queued;
  cut = v.cut;
  faults = v.faults;
  commands = v.commands;
  queue = v.queue;
  present = v.present;
  moved = v.moved;
  log = v.log;
  completions = completions-answered_from s v.pending v.lost (c ∷ cs) e v.completions;
  counts = counts-answered_from s v.pending (c ∷ cs) e v.counts;
}
handed-valid s [] e v =
    elim (cases_Bool (tells_cut s)) [
      | inl t ↦
          let completions = rw t at (completions-answered_from s v.pending v.lost [] e v.completions) in
          let counts = rw t at (counts-answered_from s v.pending [] e v.counts) in
          rw t (record {
            pending = v.pending;
            lost = v.lost;
            gone = v.gone;
            counted = v.counted;
            some_segments = v.some_segments;
            small = v.small;
            losses = v.losses;
            queued = v.queued;
            cut = v.cut;
            faults = v.faults;
            commands = v.commands;
            queue = v.queue;
            present = v.present;
            moved = v.moved;
            log = v.log;
            completions = completions;
            counts = counts;
          })
      | inr n ↦ rw n v
    ]

pub answered-valid : (s : FlogState) → IsValid s → IsValid (answered s)
answered-valid s v = handed-valid s s.waiting refl v
