-- The laws of `OrderedDev` as the device has them, each in the shape of the trait's member.
use Rattle.std.specs.Prelude.{◌≡◌, ℕ, ◌+◌, ◌-◌, ◌<◌, ◌≤◌, ◌++◌, ◌==◌, Bool, true, false, List, [], ◌∷◌, length, Option, None, Some, refl, slice_get, if◌then◌else◌}
use Rattle.std.specs.List.{list_all}
use Rattle.std.proofs.Common.{append_assoc, ap, sym, subst, arith, ◌∙◌, inl, inr}
use Rattle.std.proofs.lemmas.Bool.{both_ways, false_from_ne_true, eqb-false, cases_Bool, and_from}
use Rattle.std.proofs.lemmas.Option.{same_Some}
use Rattle.std.proofs.lemmas.List.{append-nil}
use Rattle.blk_base.specs.Members.{In}
use Rattle.blk_base.specs.laws.Members.{map-In, slice_get-In, In-append_left, In-append_right, In-append_cases, In-slice_get, slice_get-in_range, slice_get-length, slice_get-append_left, slice_get-append_right}
use Rattle.order_model.specs.declared.part.Part.{Part}
use Rattle.order_model.specs.declared.completion.Completion.{Completion}
use Rattle.order_model.specs.declared.completion.Completion.TheVariants.{Flushed, Cut}
use Rattle.order_model.specs.declared.command.Command.{Command}
use Rattle.order_model.specs.Received.{all_parts, command_of_part, first_part}
use Rattle.order_model.specs.Device.{IsReceivable, IsQuiet, TellsCut, Grows}
use Rattle.order_model.specs.Steps.{Receives, Transfers, Persists, Answers, OnlyReads, Progresses}
use Rattle.order_model.proofs.Received.{flush-is, is-flush, command_of_part-lt}
use Rattle.device_epochs.specs.queue.Queue.{Waiting}
use Rattle.device_epochs.specs.queue.laws.QueueLaws.{part_at-lt, parts_of-waiting}
use Rattle.device_epochs.specs.queue.laws.CompletionLaws.{flush-completes}
use Rattle.device_epochs.specs.queue.Facts.{IsDone}
use Rattle.flog_device.specs.Log.{Place, Page, prefix, place_of, places, programmed_at}
use Rattle.device_epochs.specs.queue.Faults.{is_number}
use Rattle.device_epochs.specs.queue.laws.QueueLaws.{room-counted}
use Rattle.std.proofs.lemmas.Option.{none-some}
use Rattle.std.proofs.lemmas.List.{length-append}
use Rattle.order_model.specs.declared.history.Transfer.{Transfer}
use Rattle.order_model.specs.Device.{IsSettled, has_free_slot}
use Rattle.flog_device.specs.Device.{programs, folds}
use Rattle.flog_device.specs.Device.{FlogState, Write, Program, Fold, folded_from, fails_next, is_off, has_room, received, transferable, performed, tried, transferred, persistable, persisted, next_answer, answered, answered_from, written, tells_cut, all_programmed, seen}
use Rattle.flog_device.specs.laws.LogFacts.{InOrder, InOrder-across, Rises, prefix-rest, prefix-all, prefix-yes, prefix-no, places-append, prefix-programmed_at}
use Rattle.flog_device.specs.laws.LogSteps.{kept-given, done-given, kept-folded}
use Rattle.flog_device.specs.laws.Valid.{work_left, with_waiting, kept_places, IsValid}
use Rattle.flog_device.specs.laws.StepLaws.{tried-all, persistable-In, fold-first, prefix-performed, Receives-received, Transfers-transferred, Persists-persisted, Answers-answered}
use Rattle.flog_device.specs.laws.CountLaws.{never_off}
use Rattle.flog_device.specs.laws.SeenLaws.{power_cut_law, off-nothing, progress_law, falls}
use Rattle.flog_device.specs.laws.OrderLaws.{kept_of, given_of, kept_grows, kept_place, place_kept, kept_is_done, flushed_source, same_flush}
use Rattle.flog_device.specs.laws.ReachableLaws.{received-valid, performed-valid, programmed-valid, folded-valid, transferred-valid, persisted-valid, answered-valid}

-- no transfer fails
abbrev pub IsSound : FlogState → Type 0
IsSound s = s.fail_at ≡ None

-- ---- what is kept stays kept

Grows-same : (s : FlogState) → Grows (seen s) (seen s)
Grows-same s = record { kept = λ x k. k; steps = omega arith; faults = omega arith }

grown_kept : (s : FlogState) (v : IsValid s) (log : List Page) → (more : List Page) × (prefix log ≡ prefix s.log ++ more) → (p : Place) → In p (kept_of s v) → In p (kept_places v.gone log)
grown_kept s v log m p i =
    let longer : places (prefix log) ≡ places (prefix s.log) ++ places m.0 = ap places m.1 ∙ places-append (prefix s.log) m.0 in
    elim (In-append_cases v.gone (places (prefix s.log)) p i) [
      | inl g ↦ In-append_left v.gone (places (prefix log)) p g
      | inr g ↦ In-append_right v.gone (places (prefix log)) p (subst (In p) (sym longer) (In-append_left (places (prefix s.log)) (places m.0) p g))
    ]

-- a state whose validity has the places that were kept
record HasKept (s new : FlogState) (v : IsValid s) : Type 0 where
  valid : IsValid new
  took : new.took ≡ s.took
  kept : (p : Place) → In p (kept_of s v) → In p (kept_of new valid)
  steps : s.steps ≤ new.steps
  faults : s.faults ≤ new.faults

grows-by : (s new : FlogState) (v : IsValid s) → HasKept s new v → Grows (seen s) (seen new)
grows-by s new v h = record { kept = kept_grows s new v h.valid h.took h.kept; steps = h.steps; faults = h.faults }

pub Grows-transferred : (s : FlogState) (pick : ℕ) → IsValid s → Grows (seen s) (seen (transferred s pick))
Grows-transferred s pick v =
    tried-all (λ n. Grows (seen s) (seen n)) s (slice_get (transferable s) pick) (Grows-same s)
    (λ w e t. record { kept = λ x k. record { part = k.part; taken = k.taken; origin = k.origin; held = k.held; later = k.later }; steps = omega arith; faults = omega arith })
    (λ w e n.
    let nv = performed-valid s w v (slice_get-In (transferable s) pick w e) n in
    grows-by s (performed s w) v
    (record { valid = nv; took = refl; kept = λ p i. subst (λ (l : List Page). In p (v.gone ++ places l)) (sym (prefix-performed s w)) i; steps = omega arith; faults = omega arith }))

Grows-programmed : (s : FlogState) (v : IsValid s) (i : ℕ) → is_off s ≡ false → In (Program i) (programs 0 s.log ++ folds s.log) → Grows (seen s) (seen (written s (Some (Program i))))
Grows-programmed s v i on may =
    grows-by s (written s (Some (Program i))) v
    (record { valid = programmed-valid s i v on may; took = refl; kept = grown_kept s v (programmed_at i s.log) (prefix-programmed_at i s.log); steps = omega arith; faults = omega arith })

Grows-folded : (s : FlogState) (v : IsValid s) (p : Page) (ps : List Page) → is_off s ≡ false → s.log ≡ p ∷ ps → p.programmed ≡ true → Grows (seen s) (seen (folded_from s (p ∷ ps)))
Grows-folded s v p ps on e t =
    grows-by s (folded_from s (p ∷ ps)) v
    (record {
      valid = folded-valid s p ps v on e t;
      took = refl;
      kept = λ x i. subst (In x) (ap (λ (l : List Page). kept_places v.gone l) e ∙ sym (kept-folded v.gone p ps t)) i;
      steps = omega arith;
      faults = omega arith;
    })

Grows-written : (s : FlogState) (v : IsValid s) (e : Write) → In e (persistable s) → Grows (seen s) (seen (written s (Some e)))
Grows-written s v (Program i) h = let may = persistable-In s (Program i) h in Grows-programmed s v i may.0 may.1
Grows-written s v Fold h =
    let may = persistable-In s Fold h in
    let first = fold-first s.log may.1 in
    subst (λ (l : List Page). Grows (seen s) (seen (folded_from s l))) (sym first.2) (Grows-folded s v first.0 first.1 may.0 first.2 first.3)

Grows-any : (s : FlogState) (v : IsValid s) (o : Option Write) → ((e : Write) → o ≡ Some e → In e (persistable s)) → Grows (seen s) (seen (written s o))
Grows-any s v None h = Grows-same s
Grows-any s v (Some e) h = Grows-written s v e (h e refl)

pub Grows-persisted : (s : FlogState) (pick : ℕ) → IsValid s → Grows (seen s) (seen (persisted s pick))
Grows-persisted s pick v = Grows-any s v (slice_get (persistable s) pick) (λ e q. slice_get-In (persistable s) pick e q)

-- ---- where all is done

none_in : {X : Type 0} (xs : List X) → ((x : X) → In x xs → ⊥) → xs ≡ []
none_in [] h = refl
none_in (x ∷ xs) h = absurd (h x (inl refl))

quiet_waits : (s : FlogState) (v : IsValid s) → IsQuiet (seen s) → (w : Waiting) → In w v.pending → ⊥
quiet_waits s v q w h = at_flush w.command.flush refl
  where
    at_flush : (o : Option ℕ) → w.command.flush ≡ o → ⊥
    at_flush (Some id) e =
        let here = is-flush s.took w.number id w.command (v.queue.queued w h) e in
        let r = flushed_source s v id (In-append_left s.sent s.waiting (Flushed id) (q.flushed w.number id here)) in
        r.2.gone w h (same_flush s v w.number r.0 id here r.1)
    at_flush None e =
        let at = v.queue.queued w h in
        let whole = v.commands.whole w.command (slice_get-In s.took w.number w.command at) in
        let some : (length w.command.parts == 0) ≡ false = rw e at (sym whole) in
        let ne = eqb-false (length w.command.parts) 0 some in
        let p = slice_get-in_range w.command.parts 0 (omega arith) in
        let there = parts_of-waiting s.took (with_waiting s.queue v.pending) w 0 p.0 v.queue h p.1 in
        let d = kept_is_done s v (first_part s.took w.number + 0) (q.kept (first_part s.took w.number + 0) (part_at-lt s.took (first_part s.took w.number + 0) p.0 there.0)) in
        d.gone w h (sym there.1)

abbrev tail : List Page → List Page
tail [] = []
tail (p ∷ ps) = ps

all-programmed_prefix : (log : List Page) → (rest : List Page) → log ≡ prefix log ++ rest → rest ≡ [] → list_all (λ (p : Page). p.programmed) log ≡ true
all-programmed_prefix log rest e none = go log (e ∙ ap (λ (l : List Page). prefix log ++ l) none ∙ append-nil (prefix log))
  where
    go : (log : List Page) → log ≡ prefix log → list_all (λ (p : Page). p.programmed) log ≡ true
    go [] e = refl
    go (p ∷ log) e =
        elim (cases_Bool p.programmed) [
          | inl t ↦
              and_from p.programmed (list_all (λ (x : Page). x.programmed) log) t
              (go log (ap tail (e ∙ prefix-yes p log t)))
          | inr n ↦ let short = ap length (e ∙ prefix-no p log n) in absurd (omega (arith, short))
        ]

quiet_programmed : (s : FlogState) (v : IsValid s) → IsQuiet (seen s) → all_programmed s.log ≡ true
quiet_programmed s v q =
    let r = prefix-rest s.log in
    let k = kept-given v.gone s.log in
    let none : r.0 ≡ [] =
    none_in r.0
    (λ page i.
    let p = page.place in
    let in_rest : In p (places r.0) = map-In place_of r.0 page i in
    let given_is : given_of s v ≡ kept_of s v ++ places r.0 =
    ap (λ (l : List Page). v.gone ++ places l) r.1 ∙ ap (λ (l : List Place). v.gone ++ l) (places-append (prefix s.log) r.0) ∙ sym (append_assoc v.gone (places (prefix s.log)) (places r.0)) in
    let there : In p (given_of s v) = subst (In p) (sym given_is) (In-append_right (kept_of s v) (places r.0) p in_rest) in
    let t = v.log.taken p there in
    let kept = q.kept p.part (part_at-lt s.took p.part t.0 t.1) in
    let part : kept.part ≡ t.0 = same_Some kept.part t.0 (sym kept.taken ∙ t.1) in
    let block : p.block ≡ kept.part.block = sym t.2 ∙ ap (λ (x : Part). x.block) (sym part) in
    let lt = InOrder-across Rises (kept_of s v) (places r.0) (record { block = kept.part.block; part = p.part }) p (subst (InOrder Rises) given_is v.log.rising) (kept_place s v p.part kept) in_rest block in
    omega (arith, lt)) in
    all-programmed_prefix s.log r.0 r.1 none

sent_or_waiting : (s : FlogState) → IsValid s → (id : ℕ) → In (Flushed id) s.sent → In (Flushed id) s.waiting → ⊥
sent_or_waiting s v id a b =
    let i = In-slice_get s.sent (Flushed id) a in
    let j = In-slice_get s.waiting (Flushed id) b in
    let first : slice_get (s.sent ++ s.waiting) i.0 ≡ Some (Flushed id) = slice_get-append_left s.sent s.waiting i.0 i.1 ∙ i.2 in
    let n : (length s.sent + j.0) - length s.sent ≡ j.0 = omega arith in
    let second : slice_get (s.sent ++ s.waiting) (length s.sent + j.0) ≡ Some (Flushed id) =
    slice_get-append_right s.sent s.waiting (length s.sent + j.0) (omega arith) ∙ ap (slice_get s.waiting) n ∙ j.2 in
    let same = v.completions.once i.0 (length s.sent + j.0) id (rw first refl) (rw second refl) in
    let lt = i.1 in
    omega (arith, lt, same)

-- the device is quiet just where nothing waits, each page is programmed, and each flush was handed out
pub quiet_is_empty : (s : FlogState) (v : IsValid s) → IsQuiet (seen s) → (v.pending ≡ []) × (all_programmed s.log ≡ true) × ((id : ℕ) → In (Flushed id) s.waiting → ⊥)
quiet_is_empty s v q = (
  none_in v.pending (quiet_waits s v q),
  quiet_programmed s v q,
  λ id i.
      let r = flushed_source s v id (In-append_right s.sent s.waiting (Flushed id) i) in
      sent_or_waiting s v id (q.flushed r.0 id r.1) i,
)

pub empty_is_quiet : (s : FlogState) (v : IsValid s) → (v.pending ≡ []) × (all_programmed s.log ≡ true) × ((id : ℕ) → In (Flushed id) s.waiting → ⊥) → IsQuiet (seen s)
empty_is_quiet s v h =
    let all_done : (k : ℕ) → k < length s.took → IsDone s.took v.pending k = λ k lt. record { taken = lt; gone = λ w i e. subst (In w) h.0 i } in
    record {
      kept = λ x lt.
          let p = slice_get-in_range (all_parts s.took) x lt in
          let i = done-given s.base s.took v.pending s.moved v.gone s.log s.data_area s.origins x p.0 v.moved v.log p.1 (all_done (command_of_part s.took x) (command_of_part-lt s.took x lt)) in
          place_kept s v x p.0 p.1 (subst (λ (l : List Page). In (record { block = p.0.block; part = x }) (v.gone ++ places l)) (sym (prefix-all s.log h.1)) i);
      flushed = λ k id f.
          let c = flush-is s.took k id f in
          let i = v.completions.all k c.0 (Flushed id) (record { taken = c.1; cause = inl (all_done k (slice_get-length s.took k c.0 c.1), flush-completes c.0 id c.2) }) in
          elim (In-append_cases s.sent s.waiting (Flushed id) i) [ inl sent ↦ sent | inr waits ↦ absurd (h.2 id waits) ];
    }

-- ---- the members

pub receives : (s : FlogState) (c : Command) → IsValid s → IsReceivable (seen s) c → has_room s ≡ true → IsValid (received s c) × Receives (seen s) c (seen (received s c))
receives s c v r room = (received-valid s c v r r.small, Receives-received s c v)

pub transfers : (s : FlogState) (pick : ℕ) → IsValid s → pick < length (transferable s) → IsValid (transferred s pick) × Transfers (seen s) (seen (transferred s pick))
transfers s pick v lt = (transferred-valid s pick v, Transfers-transferred s pick v lt)

pub persists : (s : FlogState) (pick : ℕ) → IsValid s → pick < length (persistable s) → IsValid (persisted s pick) × Persists (seen s) (seen (persisted s pick))
persists s pick v lt = (persisted-valid s pick v, Persists-persisted s v pick lt)

pub answers : (s : FlogState) → IsValid s → IsValid (answered s) × Answers (seen s) (next_answer s) (seen (answered s))
answers s v = (answered-valid s v, Answers-answered s)

pub reads : (s : FlogState) (block : ℕ) → IsValid s → IsValid s × OnlyReads (seen s) (seen s)
reads s block v = (v, (refl, omega arith))

pub power_cut : (s : FlogState) → IsValid s → TellsCut (seen s) × ((seen s).off ≡ true → (has_room s ≡ false) × (length (transferable s) ≡ 0) × (length (persistable s) ≡ 0))
power_cut s v = (power_cut_law s v, off-nothing s)

pub monotone : (s : FlogState) (pick : ℕ) → IsValid s → Grows (seen s) (seen (transferred s pick)) × Grows (seen s) (seen (persisted s pick))
monotone s pick v = (Grows-transferred s pick v, Grows-persisted s pick v)

pub progress : (s : FlogState) → IsValid s → (seen s).off ≡ false → (seen s).failed ≡ false → Progresses (seen s) (work_left s) (has_room s) (length (transferable s)) (length (persistable s))
progress s v on fine = progress_law s v on fine

pub on : (s : FlogState) → IsValid s → s.cut_at ≡ None → (seen s).off ≡ false
on s v never = never_off s never

-- ---- no call changes when the power goes off, nor what fails

cut_at-tried : (s : FlogState) (o : Option Waiting) → (tried s o).cut_at ≡ s.cut_at
cut_at-tried s o = tried-all (λ n. n.cut_at ≡ s.cut_at) s o refl (λ w e t. refl) (λ w e n. refl)

same-folded : (s : FlogState) (log : List Page) → ((folded_from s log).cut_at ≡ s.cut_at) × ((folded_from s log).fail_at ≡ s.fail_at)
same-folded s [] = (refl, refl)
same-folded s (p ∷ ps) = (refl, refl)

same-written : (s : FlogState) (o : Option Write) → ((written s o).cut_at ≡ s.cut_at) × ((written s o).fail_at ≡ s.fail_at)
same-written s None = (refl, refl)
same-written s (Some (Program i)) = (refl, refl)
same-written s (Some Fold) = same-folded s s.log

same-told : (s : FlogState) (b : Bool) → ((if b then record s { sent = s.sent ++ Cut ∷ []; told = true } else s).cut_at ≡ s.cut_at) × ((if b then record s { sent = s.sent ++ Cut ∷ []; told = true } else s).fail_at ≡ s.fail_at)
same-told s true = (refl, refl)
same-told s false = (refl, refl)

same-answered : (s : FlogState) (cs : List Completion) → ((answered_from s cs).cut_at ≡ s.cut_at) × ((answered_from s cs).fail_at ≡ s.fail_at)
same-answered s [] = same-told s (tells_cut s)
same-answered s (c ∷ cs) = (refl, refl)

pub stays_received : (s : FlogState) (c : Command) → s.cut_at ≡ None → (received s c).cut_at ≡ None
stays_received s c never = never

pub stays : (s : FlogState) (n : ℕ) → s.cut_at ≡ None → ((transferred s n).cut_at ≡ None) × ((persisted s n).cut_at ≡ None) × ((answered s).cut_at ≡ None) × (s.cut_at ≡ None)
stays s n never =
    (cut_at-tried s (slice_get (transferable s) n) ∙ never, (same-written s (slice_get (persistable s) n)).0 ∙ never, (same-answered s s.waiting).0 ∙ never, never)

pub works : (s : FlogState) → IsValid s → IsSound s → (s.failed ≡ false) × (false ≡ false)
works s v sound = (false_from_ne_true s.failed (λ t. none-some s.transfers_made (sym sound ∙ v.faults.number t)), refl)

pub sound_received : (s : FlogState) (c : Command) → IsSound s → IsSound (received s c)
sound_received s c sound = sound

sound_transferred : (s : FlogState) (n : ℕ) → IsSound s → IsSound (transferred s n)
sound_transferred s n sound =
    tried-all IsSound s (slice_get (transferable s) n) sound (λ w e t. sound) (λ w e f. sound)

pub stays_sound : (s : FlogState) (n : ℕ) → IsSound s → IsSound (transferred s n) × IsSound (persisted s n) × IsSound (answered s) × IsSound s
stays_sound s n sound =
    (sound_transferred s n sound, (same-written s (slice_get (persistable s) n)).1 ∙ sound, (same-answered s s.waiting).1 ∙ sound, sound)

pub no_fault : (s : FlogState) (n : ℕ) → IsValid s → IsSound s → ((seen (transferred s n)).faults ≡ (seen s).faults) × ((seen s).faults ≡ (seen s).faults)
no_fault s n v sound = (
  tried-all (λ m. (seen m).faults ≡ s.faults) s (slice_get (transferable s) n) refl
      (λ w e t. absurd (both_ways (fails_next s) (ap (λ at. is_number at (s.transfers_made + 1)) sound) t))
      (λ w e f. refl),
  refl,
)

-- ---- while nothing can be written

no_pages : (log : List Page) → length (programs 0 log ++ folds log) ≡ 0 → log ≡ []
no_pages [] e = refl
no_pages (p ∷ ps) e =
    elim (cases_Bool p.programmed) [
      | inl t ↦
          let n : length (programs 1 ps ++ Fold ∷ []) ≡ 0 = rw t at e in
          let m = length-append (programs 1 ps) (Fold ∷ []) in
          absurd (omega (arith, n, m))
      | inr f ↦ let n : length ((Program 0 ∷ programs 1 ps) ++ []) ≡ 0 = rw f at e in absurd (omega (arith, n))
    ]

pub settled : (s : FlogState) → IsValid s → is_off s ≡ false → length (persistable s) ≡ 0 → IsSettled (seen s)
settled s v on none place moved =
    let front : length (programs 0 s.log ++ folds s.log) ≡ 0 = rw on at none in
    let empty : s.log ≡ [] = no_pages s.log front in
    let t : Transfer = record { epoch = moved.0; part = place } in
    let p = slice_get-in_range (all_parts s.took) place (v.moved.place t moved.1) in
    let i = done-given s.base s.took v.pending s.moved v.gone s.log s.data_area s.origins place p.0 v.moved v.log p.1 (v.moved.done t moved.1) in
    place_kept s v place p.0 p.1 (subst (λ (l : List Page). In (record { block = p.0.block; part = place }) (v.gone ++ places l)) (empty ∙ sym (ap prefix empty)) i)

-- ---- room, and what is left

pub free_slot : (s : FlogState) → IsValid s → has_room s ≡ has_free_slot (seen s)
free_slot s v = room-counted (is_off s) (length s.queue.waiting) s.queue.depth s.transfers_made (length s.took) v.queued

pub falls_all : (s : FlogState) (pick : ℕ) → IsValid s
    → (pick < length (transferable s) → work_left (transferred s pick) < work_left s) × (pick < length (persistable s) → work_left (persisted s pick) < work_left s) × (work_left (answered s) ≡ work_left s) × (work_left s ≡ work_left s)
falls_all s pick v = let f = falls s pick v in (f.0, f.1, f.2, refl)
