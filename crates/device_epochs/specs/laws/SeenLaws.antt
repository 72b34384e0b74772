-- What the device shows: completions, the power, and that work goes on until all is answered.
use Rattle.std.specs.Prelude.{◌≡◌, ℕ, ◌<◌, ◌≤◌, ◌++◌, ◌||◌, ◌==◌, ◌⊎◌, not, Bool, true, false, List, [], ◌∷◌, length, nat_lt, sum_by, Some, is_some, refl}
use Rattle.std.proofs.Common.{sym, ap, subst, ◌∙◌, inl, inr, ⊎_elim, arith}
use Rattle.std.proofs.lemmas.Bool.{cases_Bool, cases_lt, and_from, and_left, lt-ltb, le-ltb, not_from_true, not_from_false, or_right}
use Rattle.std.proofs.lemmas.List.{nil_from_length}
use Rattle.std.proofs.lemmas.List.Sums.{sum_by-cons}
use Rattle.blk_base.specs.Members.{In}
use Rattle.blk_base.specs.laws.Members.{map-In, filter-In, list_all-In, In-slice_get, slice_get-In, slice_get-in_range, slice_get-length}
use Rattle.order_model.specs.declared.completion.Completion.{Completion}
use Rattle.order_model.specs.declared.completion.Completion.TheVariants.{Failed}
use Rattle.order_model.specs.Received.{all_parts, ids_of, all_ids}
use Rattle.order_model.specs.declared.history.Transfer.{Transfer}
use Rattle.order_model.specs.Device.{IsSettled, is_ordered, Completes, TellsCut, IsUnmoved, TellsFailure, completion_id}
use Rattle.order_model.specs.Steps.{Progresses}
use Rattle.order_model.proofs.Received.{all_ids-In}
use Rattle.device_epochs.specs.queue.Queue.{Waiting, have_common_block, stands_in_way, is_free, eligible, AreNumbered}
use Rattle.device_epochs.specs.Cache.{oldest}
use Rattle.device_epochs.specs.Device.{DeviceState, is_off, fails_next, has_room, may_transfer, has_stopped, transferable, tried, transferred, persistable, written, persisted, answers_left, answered, after_read, seen}
use Rattle.device_epochs.specs.queue.Facts.{IsDone, CompletionFacts}
use Rattle.device_epochs.specs.laws.Valid.{work_left, IsValid}
use Rattle.device_epochs.specs.queue.laws.QueueLaws.{some_ids}
use Rattle.device_epochs.specs.queue.laws.PendingLaws.{lost-some, number-is, is-number}
use Rattle.device_epochs.specs.laws.StateLaws.{pending-is, numbered}
use Rattle.device_epochs.specs.laws.CacheLaws.{oldest_some}
use Rattle.device_epochs.specs.laws.StepLaws.{transferable-waits, is-transferable, tried-fails, tried-moves, persistable-In}
use Rattle.device_epochs.specs.laws.EpochOrder.{kept, kept_is_moved}
use Rattle.device_epochs.specs.queue.laws.CompletionLaws.{id-In_completions, cut-told, cut-seen, completions-seen, moved-seen, flushed-seen, failed-seen}
use Rattle.device_epochs.specs.laws.CountLaws.{work, work_left-moved, work_left-failed, work_left-written, work_left-answered}

-- ---- completions, the power and failed transfers

pub completions-all : (s : DeviceState) (v : IsValid s) → (t : Bool) × CompletionFacts s.took v.pending v.lost (s.sent ++ answers_left s) (is_off s) t
completions-all s v = completions-seen s.took v.pending v.lost s.sent s.waiting (is_off s) s.told v.completions

pub completion_law : (s : DeviceState) → IsValid s → Completes (seen s)
completion_law s v =
    let f = completions-all s v in
    record {
      once = f.1.once;
      moved = λ id h. moved-seen s.took v.pending s.moved v.lost (s.sent ++ answers_left s) (is_off s) f.0 id v.moved f.1 h;
      flushed = λ id h. let q = flushed-seen s.took v.pending v.lost (s.sent ++ answers_left s) (is_off s) f.0 id f.1 h in (q.0, q.2);
      kept = kept_is_moved s v;
    }

pub power_cut_law : (s : DeviceState) → IsValid s → TellsCut (seen s)
power_cut_law s v =
    let f = completions-all s v in
    record {
      told = (
        λ h. f.1.told_off (cut-told s.took v.pending v.lost (s.sent ++ answers_left s) (is_off s) f.0 f.1 h),
        λ off. cut-seen s.took v.pending v.lost s.sent s.waiting (is_off s) s.told v.completions off,
      );
      once = f.1.cut_once;
      cause = (number-is s.cut_at s.steps, is-number s.cut_at s.steps);
      steps = v.counts.cut;
    }

-- the lost command completed as failed
lost-told : (s : DeviceState) (v : IsValid s) → s.failed ≡ true → (id : ℕ) × In (Failed id) (s.sent ++ answers_left s)
lost-told s v e =
    let n = lost-some s.queue.waiting v.pending v.lost s.failed v.losses e in
    let w = v.losses.there n.0 n.1 in
    let taken = v.queue.queued w.0 w.1 in
    let some = some_ids w.0.command (v.commands.whole w.0.command (slice_get-In s.took w.0.number w.0.command taken)) in
    let id = slice_get-in_range (ids_of w.0.command) 0 some in
    let there = map-In Failed (ids_of w.0.command) id.0 (slice_get-In (ids_of w.0.command) 0 id.0 id.1) in
    let lost : v.lost ≡ Some w.0.number = n.1 ∙ ap Some (sym w.2) in
    (id.0, (completions-all s v).1.all w.0.number w.0.command (Failed id.0) (record { taken = taken; cause = inr (lost, there) }))

-- and none of its parts was moved
lost-unmoved : (s : DeviceState) (v : IsValid s) (id : ℕ) → In (Failed id) (s.sent ++ answers_left s) → (s.failed ≡ true) × IsUnmoved (seen s) id
lost-unmoved s v id h =
    let f = completions-all s v in
    let l = failed-seen s.took v.pending v.lost (s.sent ++ answers_left s) (is_off s) f.0 id f.1 h in
    let w = v.losses.there l.0 l.3 in (
      v.losses.known ∙ ap is_some l.3,
      record {
        number = l.0;
        command = l.1;
        taken = l.2;
        named = l.4;
        unmoved = λ place e m. (v.moved.done (record { epoch = m.0; part = place }) m.1).gone w.0 w.1 (w.2 ∙ sym e);
      },
    )

pub failure_law : (s : DeviceState) → IsValid s → TellsFailure (seen s)
failure_law s v = record { told = lost-told s v; known = lost-unmoved s v; number = v.faults.number; made = v.faults.made }

-- while the power is on and nothing can be written, nothing is in the cache, so all that was moved is on the medium
pub settled_law : (s : DeviceState) → IsValid s → is_off s ≡ false → length (persistable s) ≡ 0 → IsSettled (seen s)
settled_law s v on none place moved =
    let front : length (oldest s.cache) ≡ 0 = rw on at none in
    let empty : s.cache ≡ [] = elim (cases_lt 0 (length s.cache)) [
      | inl some ↦ let first = oldest_some s.cache some in absurd (omega (arith, front, first))
      | inr few ↦ nil_from_length s.cache (omega (arith, few))
    ] in
    let t : Transfer = record { epoch = moved.0; part = place } in
    let p = slice_get-in_range (all_parts s.took) place (v.moved.place t moved.1) in
    elim (v.medium.covered place p.0 p.1 (v.moved.done t moved.1)) [
      | inl cached ↦ absurd (subst (In cached.entry) empty cached.there)
      | inr held ↦ kept s place p.0 p.1 held
    ]

pub off-nothing : (s : DeviceState) → is_off s ≡ true → (has_room s ≡ false) × (length (transferable s) ≡ 0) × (length (persistable s) ≡ 0)
off-nothing s off = (and_left (not (is_off s)) (nat_lt (length s.queue.waiting) s.queue.depth) (not_from_true (is_off s) off), rw off refl, rw off refl)

-- once a transfer failed, nothing is transferred
pub failed-stops : (s : DeviceState) → s.failed ≡ true → length (transferable s) ≡ 0
failed-stops s f = let stopped : has_stopped s ≡ true = or_right (is_off s) s.failed f in rw stopped refl

-- ---- progress

not_in_way : (v w : Waiting) → w.number ≤ v.number → not (stands_in_way v w) ≡ true
not_in_way v w le =
    not_from_false (stands_in_way v w)
    (and_left (nat_lt v.number w.number) (is_ordered v.command.priority || (is_ordered w.command.priority || have_common_block v.command.parts w.command.parts)) (le-ltb v.number w.number le))

-- the first that waits may go
some-eligible : (n : ℕ) (ws : List Waiting) → AreNumbered n ws → ((w : Waiting) × In w (eligible ws)) ⊎ (ws ≡ [])
some-eligible n [] a = inr refl
some-eligible n (w ∷ ws) a =
    let free : is_free (w ∷ ws) w ≡ true =
    list_all-In (λ v. not (stands_in_way v w)) (w ∷ ws)
    (λ v h.
    ⊎_elim
    (λ e. let same = ap (λ (x : Waiting). x.number) e in not_in_way v w (omega arith))
    (λ i. let lt = a.rising.0 v i in not_in_way v w (omega arith))
    h) in
    inl (w, filter-In (is_free (w ∷ ws)) (w ∷ ws) w (inl refl) free)

some-length : {X : Type 0} (xs : List X) (x : X) → In x xs → 0 < length xs
some-length xs x h = let i = In-slice_get xs x h in let lt = i.1 in omega arith

waiting-le : (ws : List Waiting) → length ws ≤ sum_by work ws
waiting-le [] = omega arith
waiting-le (w ∷ ws) = let n = sum_by-cons work w ws in let rest = waiting-le ws in omega arith

none-waits : (s : DeviceState) → work_left s ≡ 0 → s.queue.waiting ≡ []
none-waits s e = let n = waiting-le s.queue.waiting in nil_from_length s.queue.waiting (omega arith)

pub works : (s : DeviceState) → IsValid s → is_off s ≡ false → s.failed ≡ false → 0 < work_left s → (0 < length (transferable s)) ⊎ (0 < length (persistable s))
works s v on fine some =
    ⊎_elim
    (λ cached. let front = oldest_some s.cache cached in inr (rw on front))
    (λ few.
    let none : s.cache ≡ [] = nil_from_length s.cache (omega arith) in
    ⊎_elim
    (λ t.
    let may : may_transfer s t.0 ≡ true = or_right (not (is_some t.0.command.flush)) (length s.cache == 0) (rw none refl) in
    inl (some-length (transferable s) t.0 (is-transferable s t.0 on fine t.1 may)))
    (λ nil.
    let empty = ap length none in
    let zero_work = ap (sum_by work) nil in
    absurd (omega arith))
    (some-eligible s.queue.next s.queue.waiting (numbered s v)))
    (cases_lt 0 (length s.cache))

pub has_room-quiet : (s : DeviceState) → IsValid s → is_off s ≡ false → work_left s ≡ 0 → has_room s ≡ true
has_room-quiet s v on e =
    let none = ap length (none-waits s e) in
    let some = v.queue.some_depth in
    and_from (not (is_off s)) (nat_lt (length s.queue.waiting) s.queue.depth) (not_from_false (is_off s) on) (lt-ltb (length s.queue.waiting) s.queue.depth (omega arith))

pub all-completed : (s : DeviceState) → IsValid s → s.failed ≡ false → work_left s ≡ 0 → (id : ℕ) → In id (all_ids s.took) → (c : Completion) × In c (s.sent ++ answers_left s) × (completion_id c ≡ Some id)
all-completed s v fine e id h =
    let at = all_ids-In s.took id h in
    let x = id-In_completions at.1 id at.3 in
    let done : IsDone s.took v.pending at.0 =
    record {
      taken = slice_get-length s.took at.0 at.1 at.2;
      gone = λ w i n. subst (In w) (pending-is s v fine ∙ none-waits s e) i;
    } in
    (x.0, (completions-all s v).1.all at.0 at.1 x.0 (record { taken = at.2; cause = inl (done, x.1) }), x.2)

pub progress_law : (s : DeviceState) → IsValid s → is_off s ≡ false → s.failed ≡ false → Progresses (seen s) (work_left s) (has_room s) (length (transferable s)) (length (persistable s))
progress_law s v on fine =
    record { works = works s v on fine; room = has_room-quiet s v on; done = all-completed s v fine }

pub falls-transferred : (s : DeviceState) (pick : ℕ) → IsValid s → pick < length (transferable s) → work_left (transferred s pick) < work_left s
falls-transferred s pick v lt =
    let w = slice_get-in_range (transferable s) pick lt in
    let there = transferable-waits s w.0 (slice_get-In (transferable s) pick w.0 w.1) in
    elim (cases_Bool (fails_next s)) [
      | inl t ↦ subst (λ (n : DeviceState). work_left n < work_left s) (sym (ap (tried s) w.1 ∙ tried-fails s w.0 t)) (work_left-failed s w.0 (numbered s v) there)
      | inr n ↦ subst (λ (n : DeviceState). work_left n < work_left s) (sym (ap (tried s) w.1 ∙ tried-moves s w.0 n)) (work_left-moved s w.0 (numbered s v) there)
    ]

pub falls-persisted : (s : DeviceState) (pick : ℕ) → pick < length (persistable s) → work_left (persisted s pick) < work_left s
falls-persisted s pick lt =
    let e = slice_get-in_range (persistable s) pick lt in
    subst (λ o. work_left (written s o) < work_left s) (sym e.1) (work_left-written s e.0 (persistable-In s e.0 (slice_get-In (persistable s) pick e.0 e.1)).2)

pub falls : (s : DeviceState) (pick : ℕ) → IsValid s
    → (pick < length (transferable s) → work_left (transferred s pick) < work_left s) × (pick < length (persistable s) → work_left (persisted s pick) < work_left s) × (work_left (answered s) ≡ work_left s) × (work_left (after_read s) ≡ work_left s)
falls s pick v = (falls-transferred s pick v, falls-persisted s pick, work_left-answered s, refl)
