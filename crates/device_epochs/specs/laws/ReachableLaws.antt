-- Each call of the device leads from a state that can be reached to another.
use Rattle.std.specs.Prelude.{◌≡◌, ℕ, ◌<◌, true, false, not, List, [], ◌∷◌, ◌++◌, length, Option, Some, None, slice_get, nat_lt, replicate, refl}
use Rattle.std.proofs.Common.{sym, ap, subst, inl, inr, ⊎_elim, arith, append_assoc, ◌∙◌}
use Rattle.std.proofs.lemmas.Bool.{cases_Bool, and_parts, not-true, ltb-true, false≢true}
use Rattle.std.proofs.lemmas.List.{append-nil, length-replicate}
use Rattle.std.proofs.lemmas.Option.{none-some}
use Rattle.blk_base.specs.Members.{In}
use Rattle.blk_base.specs.laws.Members.{In-replicate, slice_get-In}
use Rattle.order_model.specs.declared.command.Command.{Command}
use Rattle.order_model.specs.declared.completion.Completion.{Completion}
use Rattle.order_model.specs.declared.completion.Completion.TheVariants.{Cut}
use Rattle.order_model.specs.Received.{epoch_of, completions_of, failures_of}
use Rattle.order_model.specs.Device.{IsReceivable}
use Rattle.device_epochs.specs.queue.Queue.{Waiting, eligible, without}
use Rattle.device_epochs.specs.declared.cache.Entry.{Entry}
use Rattle.device_epochs.specs.declared.device.DeviceSetup.{DeviceSetup}
use Rattle.device_epochs.specs.laws.CacheSteps.{CacheFacts-received, MediumFacts-received, CacheFacts-moved, MediumFacts-moved, CacheFacts-written, MediumFacts-written}
use Rattle.device_epochs.specs.queue.laws.CompletionLaws.{completions-received, completions-moved, completions-failed, completions-persisted, completions-told}
use Rattle.device_epochs.specs.laws.CountLaws.{counts-received, counts-moved, counts-failed, counts-written, counts-answered_from}
use Rattle.device_epochs.specs.Device.{DeviceState, opened, is_off, fails_next, has_room, received, transferable, performed, failed_on, transferred, after_read, persistable, written, persisted, tells_cut, answered_from, answered, seen}
use Rattle.device_epochs.specs.queue.laws.EpochLaws.{present-received, present-moved, moved-received, moved-moved, epoch_of_eligible}
use Rattle.device_epochs.specs.queue.laws.PendingLaws.{pending-received, pending-moved, pending-failed, lost-lt, faults-moved, faults-failed, faults-read, to_come-le}
use Rattle.device_epochs.specs.laws.StateLaws.{lost-none, pending-is, waits, numbered}
use Rattle.device_epochs.specs.queue.laws.QueueLaws.{commands-received, queue-received, queue-moved, eligible-waits}
use Rattle.device_epochs.specs.laws.StepLaws.{untold, transferable-In, tried-all, persistable-In}
use Rattle.device_epochs.specs.queue.Facts.{CompletionFacts, with_waiting}
use Rattle.device_epochs.specs.laws.Valid.{IsValid}

-- the completions where no transfer failed
unlost : (s : DeviceState) (v : IsValid s) → s.failed ≡ false → CompletionFacts s.took v.pending None (s.sent ++ s.waiting) (is_off s) s.told
unlost s v n = subst (λ o. CompletionFacts s.took v.pending o (s.sent ++ s.waiting) (is_off s) s.told) (lost-none s v n) v.completions

-- ---- a new device

pub opened-valid : (image : List (List ℕ)) (setup : DeviceSetup) → 0 < setup.depth → IsValid (opened image setup)
opened-valid image setup some = record {
  pending = [];
  lost = None;
  losses = record { queue = refl; known = refl; there = λ n e. absurd (none-some n e) };
  faults = record {
    number = λ t. absurd (false≢true t);
    made = λ n e lt. absurd (omega arith);
    few = let b = to_come-le setup.bad_read in omega (arith, b);
  };
  commands = record {
    whole = λ c i. absurd i;
    ordered = λ c i. absurd i;
    within = λ p i. absurd i;
    fresh = λ i j id e. absurd (none-some id e);
    few = omega arith;
  };
  queue = record {
    some_depth = some;
    next = refl;
    numbered = record { rising = tt; below = λ w i. absurd i };
    queued = λ w i. absurd i;
    passed = λ w k c i. absurd i;
  };
  present = λ k ahead clear. ⊎_elim (λ e. ap (epoch_of []) e) (λ w. absurd w.1) ahead;
  moved = record {
    place = λ t i. absurd i;
    done = λ t i. absurd i;
    epoch = λ t i. absurd i;
    all = λ x lt. absurd (omega arith);
  };
  cache = record { entries = λ e i. absurd i; unique = tt; sorted = tt };
  medium = record {
    blocks = refl;
    places = length-replicate (length image) None;
    written = λ b x e. absurd (none-some x (In-replicate (length image) None (Some x) (slice_get-In (replicate (length image) None) b (Some x) e)));
    untouched = λ b e. refl;
    older = λ b x e o i. absurd i;
    newer = λ x e o i. absurd i;
    covered = λ x p e. absurd (none-some p e);
    flushed = λ k id x p f d e. absurd (none-some p e);
  };
  completions = record {
    once = λ i j id e. absurd (none-some id e);
    source = λ x i. absurd i;
    all = λ k c x i. absurd (none-some c i.taken);
    cut_once = λ i j e. absurd (none-some Cut e);
    told_off = λ t. absurd (false≢true t);
    told_there = λ t. absurd (false≢true t);
  };
  counts = record {
    fits = omega arith;
    queued = refl;
    steps = omega arith;
    epochs = omega arith;
    moved = refl;
    completions = refl;
    cut = λ n e. omega arith;
  };
}

-- ---- a command is received

pub received-valid : (s : DeviceState) (c : Command) → IsValid s → IsReceivable (seen s) c → has_room s ≡ true → IsValid (received s c)
received-valid s c v r room =
    let w : Waiting = record { number = s.queue.next; command = c } in
    let last : w.number ≡ length s.took = v.queue.next in
    let fits = ltb-true (length s.queue.waiting) s.queue.depth (and_parts (not (is_off s)) (nat_lt (length s.queue.waiting) s.queue.depth) room).1 in
    let q = with_waiting s.queue v.pending in
    record {
      pending = v.pending ++ w ∷ [];
      lost = v.lost;
      losses = pending-received s.queue.next s.queue.waiting v.pending v.lost s.failed w v.losses v.queue.numbered refl;
      faults = v.faults;
      commands = commands-received (length s.base) s.limit (seen s) c v.commands r v.medium.blocks refl;
      queue = queue-received s.took q c v.queue;
      present = present-received s.took q s.epoch c w v.queue v.present last refl;
      moved = moved-received s.took v.pending s.moved c w v.moved last refl;
      cache = CacheFacts-received s.took v.pending s.epoch s.cache c w last v.cache;
      medium = MediumFacts-received s.base s.took v.pending s.cache s.surface s.origins c w last v.medium;
      completions =
          completions-received s.took v.pending v.lost (s.sent ++ s.waiting) (is_off s) s.told c w v.completions
          (λ n e. let lt = lost-lt s.queue.next s.queue.waiting v.pending v.lost s.failed v.losses v.queue.numbered n e in omega arith)
          last;
      counts = counts-received s v.pending c v.counts fits;
    }

-- ---- a command is transferred

pub performed-valid : (s : DeviceState) (w : Waiting) → IsValid s → In w (transferable s) → fails_next s ≡ false → IsValid (performed s w)
performed-valid s w v h n =
    let may = transferable-In s w h in
    let q = with_waiting s.queue v.pending in
    let free : In w (eligible v.pending) = subst (λ ws. In w (eligible ws)) (sym (pending-is s v may.3)) may.1 in
    let inside = eligible-waits v.pending w free in
    let present = epoch_of_eligible (length s.base) s.limit s.took q s.epoch w v.commands v.queue v.present free in
    record {
      pending = without w.number v.pending;
      lost = None;
      losses = pending-moved s.queue.waiting v.pending v.lost s.failed w.number v.losses may.3;
      faults = faults-moved s.fail_at s.transfers_made s.bad_read s.failed s.faults v.faults may.3 n;
      commands = v.commands;
      queue = queue-moved s.took q w v.queue free;
      present = present-moved (length s.base) s.limit s.took q s.epoch w v.commands v.queue v.present free;
      moved = moved-moved s.took q s.moved s.epoch w v.queue v.moved inside present;
      cache = CacheFacts-moved s.took q s.epoch s.cache w v.queue inside present v.cache;
      medium = MediumFacts-moved s.base (length s.base) s.limit s.took q s.epoch s.cache s.surface s.origins w v.commands v.queue v.present v.cache v.medium free may.2;
      completions =
          subst (λ cs. CompletionFacts s.took (without w.number v.pending) None cs (is_off (performed s w)) s.told)
          (append_assoc s.sent s.waiting (completions_of w.command))
          (completions-moved s.took q (s.sent ++ s.waiting) (is_off s) (is_off (performed s w)) s.told w v.commands.fresh v.queue (unlost s v may.3) inside (untold s v may.0));
      counts = counts-moved s v.pending w (numbered s v) v.queue.numbered (eligible-waits s.queue.waiting w may.1) inside may.0 v.counts;
    }

-- a command whose transfer fails counts as one that still waits
pub failed_on-valid : (s : DeviceState) (w : Waiting) → IsValid s → In w (transferable s) → fails_next s ≡ true → IsValid (failed_on s w)
failed_on-valid s w v h t =
    let may = transferable-In s w h in
    let q = with_waiting s.queue v.pending in
    let there = eligible-waits s.queue.waiting w may.1 in
    let inside = waits s v w there in
    record {
      pending = v.pending;
      lost = Some w.number;
      losses = pending-failed s.queue.waiting v.pending v.lost s.failed w v.losses may.3 inside;
      faults = faults-failed s.fail_at s.transfers_made s.bad_read s.failed s.faults v.faults may.3 t;
      commands = v.commands;
      queue = v.queue;
      present = v.present;
      moved = v.moved;
      cache = v.cache;
      medium = v.medium;
      completions =
          subst (λ cs. CompletionFacts s.took v.pending (Some w.number) cs (is_off (failed_on s w)) s.told)
          (append_assoc s.sent s.waiting (failures_of w.command))
          (completions-failed s.took q (s.sent ++ s.waiting) (is_off s) (is_off (failed_on s w)) s.told w v.commands.fresh v.queue (unlost s v may.3) inside (untold s v may.0));
      counts = counts-failed s v.pending w (numbered s v) there may.0 v.counts;
    }

pub transferred-valid : (s : DeviceState) (pick : ℕ) → IsValid s → IsValid (transferred s pick)
transferred-valid s pick v =
    tried-all IsValid s (slice_get (transferable s) pick) v
    (λ w e t. failed_on-valid s w v (slice_get-In (transferable s) pick w e) t)
    (λ w e n. performed-valid s w v (slice_get-In (transferable s) pick w e) n)

-- ---- an entry goes to the medium

pub written-valid : (s : DeviceState) (e : Entry) → IsValid s → In e (persistable s) → IsValid (written s (Some e))
written-valid s e v h =
    let may = persistable-In s e h in
    record {
      pending = v.pending;
      lost = v.lost;
      losses = v.losses;
      faults = v.faults;
      commands = v.commands;
      queue = v.queue;
      present = v.present;
      moved = v.moved;
      cache = CacheFacts-written s.took v.pending s.epoch s.cache e v.cache;
      medium = MediumFacts-written s.base s.limit s.took v.pending s.epoch s.cache s.surface s.origins e v.commands v.cache v.medium may.1;
      completions = completions-persisted s.took v.pending v.lost (s.sent ++ s.waiting) (is_off s) (is_off (written s (Some e))) s.told v.completions (untold s v may.0);
      counts = counts-written s v.pending e may.2 may.0 v.counts;
    }

written_from-valid : (s : DeviceState) (o : Option Entry) → IsValid s → ((e : Entry) → o ≡ Some e → In e (persistable s)) → IsValid (written s o)
written_from-valid s None v h = v
written_from-valid s (Some e) v h = written-valid s e v (h e refl)

pub persisted-valid : (s : DeviceState) (pick : ℕ) → IsValid s → IsValid (persisted s pick)
persisted-valid s pick v =
    written_from-valid s (slice_get (persistable s) pick) v (λ e q. slice_get-In (persistable s) pick e q)

-- ---- a completion is handed out

-- the completions' facts of a state
abbrev HasCompletions : DeviceState → List Waiting → Option ℕ → Type 0
HasCompletions s ws lost = CompletionFacts s.took ws lost (s.sent ++ s.waiting) (is_off s) s.told

completions-answered_from : (s : DeviceState) (ws : List Waiting) (lost : Option ℕ) (cs : List Completion) → s.waiting ≡ cs → HasCompletions s ws lost → HasCompletions (answered_from s cs) ws lost
completions-answered_from s ws lost (c ∷ cs) e f =
    let same : s.sent ++ s.waiting ≡ (s.sent ++ c ∷ []) ++ cs = ap (λ l. s.sent ++ l) e ∙ sym (append_assoc s.sent (c ∷ []) cs) in
    subst (λ l. CompletionFacts s.took ws lost l (is_off s) s.told) same f
completions-answered_from s ws lost [] e f =
    elim (cases_Bool (tells_cut s)) [
      | inl t ↦
          let p = and_parts (is_off s) (not s.told) t in
          let none : s.sent ++ s.waiting ≡ s.sent = ap (λ l. s.sent ++ l) e ∙ append-nil s.sent in
          let g = completions-told s.took ws lost s.sent (is_off s) s.told (subst (λ l. CompletionFacts s.took ws lost l (is_off s) s.told) none f) (not-true s.told p.1) p.0 in
          let after : s.sent ++ Cut ∷ [] ≡ (s.sent ++ Cut ∷ []) ++ s.waiting = sym (ap (λ l. (s.sent ++ Cut ∷ []) ++ l) e ∙ append-nil (s.sent ++ Cut ∷ [])) in
          rw t (subst (λ l. CompletionFacts s.took ws lost l (is_off s) true) after g)
      | inr n ↦ rw n f
    ]

handed-valid : (s : DeviceState) (cs : List Completion) → s.waiting ≡ cs → IsValid s → IsValid (answered_from s cs)
handed-valid s (c ∷ cs) e v = record {
  pending = v.pending;
  lost = v.lost;
  losses = v.losses;
  faults = v.faults;
  commands = v.commands;
  queue = v.queue;
  present = v.present;
  moved = v.moved;
  cache = v.cache;
  medium = v.medium;
  completions = completions-answered_from s v.pending v.lost (c ∷ cs) e v.completions;
  counts = counts-answered_from s v.pending (c ∷ cs) e v.counts;
}
handed-valid s [] e v =
    elim (cases_Bool (tells_cut s)) [
      | inl t ↦
          let completions = rw t at (completions-answered_from s v.pending v.lost [] e v.completions) in
          let counts = rw t at (counts-answered_from s v.pending [] e v.counts) in
          rw t (record {
            pending = v.pending;
            lost = v.lost;
            losses = v.losses;
            faults = v.faults;
            commands = v.commands;
            queue = v.queue;
            present = v.present;
            moved = v.moved;
            cache = v.cache;
            medium = v.medium;
            completions = completions;
            counts = counts;
          })
      | inr n ↦ rw n v
    ]

pub answered-valid : (s : DeviceState) → IsValid s → IsValid (answered s)
answered-valid s v = handed-valid s s.waiting refl v

-- ---- a block is read

pub after_read-valid : (s : DeviceState) → IsValid s → IsValid (after_read s)
after_read-valid s v =
    let f = v.counts in
    record {
      pending = v.pending;
      lost = v.lost;
      losses = v.losses;
      faults = faults-read s.fail_at s.transfers_made s.bad_read s.failed s.faults v.faults;
      commands = v.commands;
      queue = v.queue;
      present = v.present;
      moved = v.moved;
      cache = v.cache;
      medium = v.medium;
      completions = v.completions;
      counts = record { fits = f.fits; queued = f.queued; steps = f.steps; epochs = f.epochs; moved = f.moved; completions = f.completions; cut = f.cut };
    }
