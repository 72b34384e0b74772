-- What a completed flush says, that what is kept stays so, and when a device is quiet.
use Rattle.std.specs.Prelude.{◌≡◌, ℕ, ◌+◌, ◌-◌, ◌<◌, ◌==◌, false, List, [], ◌∷◌, ◌++◌, length, Option, Some, None, slice_get, refl}
use Rattle.std.proofs.Common.{sym, ap, subst, ◌∙◌, inl, inr, arith}
use Rattle.std.proofs.lemmas.Bool.{eqb-false}
use Rattle.std.proofs.lemmas.Option.{same_Some}
use Rattle.blk_base.specs.Members.{In}
use Rattle.blk_base.specs.laws.Members.{In-append_left, In-append_right, In-append_cases, In-slice_get, slice_get-In, slice_get-length, slice_get-in_range, slice_get-append_left, slice_get-append_right}
use Rattle.order_model.specs.declared.part.Part.{Part}
use Rattle.order_model.specs.declared.completion.Completion.TheVariants.{Flushed}
use Rattle.order_model.specs.Received.{all_parts, command_of_part, first_part, IsFlush}
use Rattle.order_model.specs.Device.{IsQuiet, KeepsFlush, Grows}
use Rattle.order_model.proofs.Received.{command_of_part-lt, flush-is, is-flush, id_once, In-flush-id}
use Rattle.device_epochs.specs.queue.Queue.{Waiting}
use Rattle.device_epochs.specs.declared.cache.Entry.{Entry}
use Rattle.device_epochs.specs.laws.CacheSteps.{IsHeld-written}
use Rattle.device_epochs.specs.queue.laws.QueueLaws.{part_at-lt, parts_of-waiting}
use Rattle.device_epochs.specs.queue.laws.CompletionLaws.{flush-completes, completions-seen, flushed-seen}
use Rattle.device_epochs.specs.Device.{DeviceState, is_off, answers_left, transferable, performed, failed_on, transferred, persistable, written, persisted, seen}
use Rattle.device_epochs.specs.laws.StepLaws.{tried-all, persistable-In}
use Rattle.device_epochs.specs.queue.Facts.{IsDone, with_waiting}
use Rattle.device_epochs.specs.laws.Valid.{IsValid}
use Rattle.device_epochs.specs.laws.EpochOrder.{kept, kept_is_done}

-- ---- the flush law

-- a flush completes only where it was done
pub flushed_source : (s : DeviceState) (v : IsValid s) → (id : ℕ) → In (Flushed id) (s.sent ++ s.waiting) → (k : ℕ) × IsFlush s.took k id × IsDone s.took v.pending k
flushed_source s v id h =
    let r = flushed-seen s.took v.pending v.lost (s.sent ++ s.waiting) (is_off s) s.told id v.completions h in
    (r.0, r.2, r.1)

pub same_flush : (s : DeviceState) → IsValid s → (j k id : ℕ) → IsFlush s.took j id → IsFlush s.took k id → j ≡ k
same_flush s v j k id a b =
    let c = flush-is s.took j id a in
    let d = flush-is s.took k id b in
    id_once s.took j k c.0 d.0 id v.commands.fresh c.1 d.1 (In-flush-id c.0 id c.2) (In-flush-id d.0 id d.2)

pub flush_law : (s : DeviceState) → IsValid s → KeepsFlush (seen s)
flush_law s v k id x told h lt before =
    let f = completions-seen s.took v.pending v.lost s.sent s.waiting (is_off s) s.told v.completions in
    let r = flushed-seen s.took v.pending v.lost (s.sent ++ answers_left s) (is_off s) f.0 id f.1 told in
    let done = subst (IsDone s.took v.pending) (same_flush s v r.0 k id r.2 h) r.1 in
    let p = slice_get-in_range (all_parts s.took) x lt in
    kept s x p.0 p.1 (v.medium.flushed k id x p.0 h done p.1 before)

-- ---- the monotone law

Grows-same : (s : DeviceState) → Grows (seen s) (seen s)
Grows-same s = record { kept = λ x k. k; steps = omega arith; faults = omega arith }

Grows-performed : (s : DeviceState) (w : Waiting) → Grows (seen s) (seen (performed s w))
Grows-performed s w = record {
  kept = λ x k. record { part = k.part; taken = k.taken; origin = k.origin; held = k.held; later = k.later };
  steps = omega arith;
  faults = omega arith;
}

Grows-failed_on : (s : DeviceState) (w : Waiting) → Grows (seen s) (seen (failed_on s w))
Grows-failed_on s w = record {
  kept = λ x k. record { part = k.part; taken = k.taken; origin = k.origin; held = k.held; later = k.later };
  steps = omega arith;
  faults = omega arith;
}

pub Grows-transferred : (s : DeviceState) (pick : ℕ) → Grows (seen s) (seen (transferred s pick))
Grows-transferred s pick =
    tried-all (λ n. Grows (seen s) (seen n)) s (slice_get (transferable s) pick) (Grows-same s)
    (λ w e t. Grows-failed_on s w)
    (λ w e n. Grows-performed s w)

Grows-written : (s : DeviceState) → IsValid s → (o : Option Entry) → ((e : Entry) → o ≡ Some e → In e s.cache) → Grows (seen s) (seen (written s o))
Grows-written s v None h = Grows-same s
Grows-written s v (Some e) h = record {
  kept = λ x k.
      let held = IsHeld-written s.origins e k.part.block x (λ o q. v.medium.newer o e q (h e refl)) (k.origin, k.held, k.later) in
      record { part = k.part; taken = k.taken; origin = held.0; held = held.1; later = held.2 };
  steps = omega arith;
  faults = omega arith;
}

pub Grows-persisted : (s : DeviceState) → IsValid s → (pick : ℕ) → Grows (seen s) (seen (persisted s pick))
Grows-persisted s v pick =
    Grows-written s v (slice_get (persistable s) pick)
    (λ e q. (persistable-In s e (slice_get-In (persistable s) pick e q)).2)

-- ---- where all is done

none_in : {X : Type 0} (xs : List X) → ((x : X) → In x xs → ⊥) → xs ≡ []
none_in [] h = refl
none_in (x ∷ xs) h = absurd (h x (inl refl))

-- nothing waits where all is kept and each flush was answered
quiet_waits : (s : DeviceState) (v : IsValid s) → IsQuiet (seen s) → (w : Waiting) → In w v.pending → ⊥
quiet_waits s v q w h = at_flush w.command.flush refl
  where
    at_flush : (o : Option ℕ) → w.command.flush ≡ o → ⊥
    at_flush (Some id) e =
        let here = is-flush s.took w.number id w.command (v.queue.queued w h) e in
        let r = flushed_source s v id (In-append_left s.sent s.waiting (Flushed id) (q.flushed w.number id here)) in
        r.2.gone w h (same_flush s v w.number r.0 id here r.1)
    at_flush None e =
        let at = v.queue.queued w h in
        let whole = v.commands.whole w.command (slice_get-In s.took w.number w.command at) in
        let some : (length w.command.parts == 0) ≡ false = rw e at (sym whole) in
        let ne = eqb-false (length w.command.parts) 0 some in
        let p = slice_get-in_range w.command.parts 0 (omega arith) in
        let there = parts_of-waiting s.took (with_waiting s.queue v.pending) w 0 p.0 v.queue h p.1 in
        let d = kept_is_done s v (first_part s.took w.number + 0) (q.kept (first_part s.took w.number + 0) (part_at-lt s.took (first_part s.took w.number + 0) p.0 there.0)) in
        d.gone w h (sym there.1)

-- nor does the cache hold anything
quiet_caches : (s : DeviceState) → IsValid s → IsQuiet (seen s) → (e : Entry) → In e s.cache → ⊥
quiet_caches s v q e h =
    let entry = v.cache.entries e h in
    let k = q.kept e.part (part_at-lt s.took e.part entry.part entry.taken) in
    let same : k.part ≡ entry.part = same_Some k.part entry.part (sym k.taken ∙ entry.taken) in
    let block : e.block ≡ k.part.block = sym entry.block ∙ ap (λ (p : Part). p.block) (sym same) in
    let lt = v.medium.newer k.origin e (ap (slice_get s.origins) block ∙ k.held) h in
    let le = k.later in
    omega (arith, lt, le)

-- a completion stands once
sent_or_waiting : (s : DeviceState) → IsValid s → (id : ℕ) → In (Flushed id) s.sent → In (Flushed id) s.waiting → ⊥
sent_or_waiting s v id a b =
    let i = In-slice_get s.sent (Flushed id) a in
    let j = In-slice_get s.waiting (Flushed id) b in
    let first : slice_get (s.sent ++ s.waiting) i.0 ≡ Some (Flushed id) = slice_get-append_left s.sent s.waiting i.0 i.1 ∙ i.2 in
    let n : (length s.sent + j.0) - length s.sent ≡ j.0 = omega arith in
    let second : slice_get (s.sent ++ s.waiting) (length s.sent + j.0) ≡ Some (Flushed id) =
    slice_get-append_right s.sent s.waiting (length s.sent + j.0) (omega arith) ∙ ap (slice_get s.waiting) n ∙ j.2 in
    let same = v.completions.once i.0 (length s.sent + j.0) id (rw first refl) (rw second refl) in
    let lt = i.1 in
    omega (arith, lt, same)

-- the device is quiet where nothing waits, the cache is empty, and each flush was handed out
pub quiet_is_empty : (s : DeviceState) (v : IsValid s) → IsQuiet (seen s) → (v.pending ≡ []) × (s.cache ≡ []) × ((id : ℕ) → In (Flushed id) s.waiting → ⊥)
quiet_is_empty s v q = (
  none_in v.pending (quiet_waits s v q),
  none_in s.cache (quiet_caches s v q),
  λ id i.
      let r = flushed_source s v id (In-append_right s.sent s.waiting (Flushed id) i) in
      sent_or_waiting s v id (q.flushed r.0 id r.1) i,
)

pub empty_is_quiet : (s : DeviceState) (v : IsValid s) → (v.pending ≡ []) × (s.cache ≡ []) × ((id : ℕ) → In (Flushed id) s.waiting → ⊥) → IsQuiet (seen s)
empty_is_quiet s v h =
    record {
      kept = λ x lt.
          let p = slice_get-in_range (all_parts s.took) x lt in
          elim (v.medium.covered x p.0 p.1 (all_done (command_of_part s.took x) (command_of_part-lt s.took x lt))) [
            | inl cached ↦ absurd (subst (In cached.entry) h.1 cached.there)
            | inr held ↦ kept s x p.0 p.1 held
          ];
      flushed = λ k id f.
          let c = flush-is s.took k id f in
          let i = v.completions.all k c.0 (Flushed id) (record { taken = c.1; cause = inl (all_done k (slice_get-length s.took k c.0 c.1), flush-completes c.0 id c.2) }) in
          elim (In-append_cases s.sent s.waiting (Flushed id) i) [ inl sent ↦ sent | inr waits ↦ absurd (h.2 id waits) ];
    }
  where
    all_done : (k : ℕ) → k < length s.took → IsDone s.took v.pending k
    all_done k lt = record { taken = lt; gone = λ w i e. subst (In w) h.0 i }
