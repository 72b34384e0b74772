-- What is left to do, and the counts: how each call changes them.
use Rattle.std.specs.Prelude.{◌≡◌, ℕ, ◌+◌, ◌<◌, ◌≤◌, ◌++◌, ◌==◌, not, Bool, true, false, List, [], ◌∷◌, length, Some, None, refl, if◌then◌else◌}
use Rattle.std.proofs.Common.{ap, inl, inr, arith, length-append}
use Rattle.std.proofs.lemmas.Bool.{cases_Bool, both_ways, eq-eqb, not-true, and_parts}
use Rattle.std.proofs.lemmas.List.{length_push}
use Rattle.std.proofs.lemmas.List.Sums.{sum_by_push}
use Rattle.blk_base.specs.Members.{In}
use Rattle.order_model.specs.declared.command.Command.{Command}
use Rattle.order_model.specs.declared.completion.Completion.{Completion}
use Rattle.order_model.specs.declared.completion.Completion.TheVariants.{Cut}
use Rattle.order_model.specs.Received.{ids_of, first_part, completions_of, failures_of, transfers}
use Rattle.order_model.proofs.Received.{length-all_parts-push, length-all_ids-push}
use Rattle.device_epochs.specs.queue.Queue.{Waiting, AreNumbered, without}
use Rattle.device_epochs.specs.declared.cache.Entry.{Entry}
use Rattle.device_epochs.specs.Cache.{same_place, entries, without_entry}
use Rattle.device_epochs.specs.Device.{DeviceState, is_off, tells_cut, received, performed, failed_on, written, answered, answered_from}
use Rattle.device_epochs.specs.laws.Valid.{work_left, CountFacts}
use Rattle.device_epochs.specs.laws.CacheLaws.{length-put_all, length-entries}
use Rattle.device_epochs.specs.queue.laws.QueueLaws.{sum_by-without, length-without, length-filter-le, length-filter-lt}
use Rattle.device_epochs.specs.queue.laws.EpochLaws.{length-transfers}
use Rattle.device_epochs.specs.queue.laws.CompletionLaws.{length-completions, length-failures}

-- ---- the cache's length

-- an entry that is taken out leaves fewer
without_entry-shorter : (e : Entry) (cache : List Entry) → In e cache → length (without_entry e cache) < length cache
without_entry-shorter e cache h =
    let epochs : (e.epoch == e.epoch) ≡ true = eq-eqb e.epoch e.epoch refl in
    let blocks : (e.block == e.block) ≡ true = eq-eqb e.block e.block refl in
    length-filter-lt (λ f. not (same_place e f)) cache e h (rw (epochs, blocks) refl)

-- ---- the power

-- before the power goes off its steps are not yet done
pub on-steps : (s : DeviceState) (n : ℕ) → is_off s ≡ false → s.cut_at ≡ Some n → s.steps ≡ n → ⊥
on-steps s n on cut e =
    let test : (s.steps == n) ≡ false = rw cut at on in
    both_ways (s.steps == n) test (eq-eqb s.steps n e)

pub never_off : (s : DeviceState) → s.cut_at ≡ None → is_off s ≡ false
never_off s e = rw e refl

-- ---- what is left

abbrev pub work : Waiting → ℕ
work w = length w.command.parts + 1

pub work_left-received : (s : DeviceState) (c : Command) → work_left (received s c) ≡ work_left s + length c.parts + 1
work_left-received s c =
    let n = sum_by_push work s.queue.waiting (record { number = s.queue.next; command = c }) in
    omega arith

pub work_left-moved : (s : DeviceState) (w : Waiting) → AreNumbered s.queue.next s.queue.waiting → In w s.queue.waiting → work_left (performed s w) < work_left s
work_left-moved s w a h =
    let n = sum_by-without work s.queue.next s.queue.waiting w a h in
    let new = entries s.epoch (first_part s.took w.number) w.command.parts in
    let m = length-put_all new s.cache in
    let k = length-entries s.epoch (first_part s.took w.number) w.command.parts in
    omega arith

pub work_left-failed : (s : DeviceState) (w : Waiting) → AreNumbered s.queue.next s.queue.waiting → In w s.queue.waiting → work_left (failed_on s w) < work_left s
work_left-failed s w a h = let n = sum_by-without work s.queue.next s.queue.waiting w a h in omega arith

pub work_left-written : (s : DeviceState) (e : Entry) → In e s.cache → work_left (written s (Some e)) < work_left s
work_left-written s e h = let n = without_entry-shorter e s.cache h in omega arith

work_left-answered_from : (s : DeviceState) (cs : List Completion) → work_left (answered_from s cs) ≡ work_left s
work_left-answered_from s (c ∷ cs) = refl
work_left-answered_from s [] =
    elim (cases_Bool (tells_cut s)) [
      | inl t ↦ rw t refl
      | inr f ↦ rw f refl
    ]

pub work_left-answered : (s : DeviceState) → work_left (answered s) ≡ work_left s
work_left-answered s = work_left-answered_from s s.waiting

-- ---- the counts

pub counts-received : (s : DeviceState) (pending : List Waiting) (c : Command) → CountFacts s pending → length s.queue.waiting < s.queue.depth → CountFacts (received s c) (pending ++ record { number = s.queue.next; command = c } ∷ [])
counts-received s pending c f fits =
    let w : Waiting = record { number = s.queue.next; command = c } in
    let commands = length_push s.took c in
    let parts = length-all_parts-push s.took c in
    let ids = length-all_ids-push s.took c in
    record {
      fits = let n = length_push s.queue.waiting w in omega arith;
      queued = let n = length_push s.queue.waiting w in let old = f.queued in omega arith;
      steps = let n = work_left-received s c in let old = f.steps in omega arith;
      epochs = f.epochs;
      moved = let n = sum_by_push (λ (x : Waiting). length x.command.parts) pending w in let old = f.moved in omega arith;
      completions = let n = sum_by_push (λ (x : Waiting). length (ids_of x.command)) s.queue.waiting w in let old = f.completions in omega arith;
      cut = f.cut;
    }

epoch-after : (b : Bool) (epoch : ℕ) → (if b then epoch + 1 else epoch) ≤ epoch + 1
epoch-after true epoch = omega arith
epoch-after false epoch = omega arith

fits-without : (n depth : ℕ) (ws : List Waiting) → length ws ≤ depth → length (without n ws) ≤ depth
fits-without n depth ws le = let k = length-filter-le (λ (w : Waiting). not (w.number == n)) ws in omega arith

pub counts-moved : (s : DeviceState) (pending : List Waiting) (w : Waiting) → AreNumbered s.queue.next s.queue.waiting → AreNumbered s.queue.next pending → In w s.queue.waiting → In w pending → is_off s ≡ false → CountFacts s pending → CountFacts (performed s w) (without w.number pending)
counts-moved s pending w a b h i on f =
    record {
      fits = fits-without w.number s.queue.depth s.queue.waiting f.fits;
      queued = let n = length-without s.queue.next s.queue.waiting w a h in let old = f.queued in omega arith;
      steps = let n = work_left-moved s w a h in let old = f.steps in omega arith;
      epochs = let n = epoch-after w.command.barrier s.epoch in let old = f.epochs in omega arith;
      moved =
          let n = sum_by-without (λ (x : Waiting). length x.command.parts) s.queue.next pending w b i in
          let new = length-append s.moved (transfers s.epoch (first_part s.took w.number) w.command.parts) in
          let k = length-transfers s.epoch (first_part s.took w.number) w.command.parts in
          let old = f.moved in
          omega arith;
      completions =
          let n = sum_by-without (λ (x : Waiting). length (ids_of x.command)) s.queue.next s.queue.waiting w a h in
          let new = length-append s.waiting (completions_of w.command) in
          let k = length-completions w.command in
          let old = f.completions in
          omega arith;
      cut = λ n e. let ne = on-steps s n on e in let old = f.cut n e in omega arith;
    }

pub counts-failed : (s : DeviceState) (pending : List Waiting) (w : Waiting) → AreNumbered s.queue.next s.queue.waiting → In w s.queue.waiting → is_off s ≡ false → CountFacts s pending → CountFacts (failed_on s w) pending
counts-failed s pending w a h on f =
    record {
      fits = fits-without w.number s.queue.depth s.queue.waiting f.fits;
      queued = let n = length-without s.queue.next s.queue.waiting w a h in let old = f.queued in omega arith;
      steps = let n = work_left-failed s w a h in let old = f.steps in omega arith;
      epochs = let old = f.epochs in omega arith;
      moved = f.moved;
      completions =
          let n = sum_by-without (λ (x : Waiting). length (ids_of x.command)) s.queue.next s.queue.waiting w a h in
          let new = length-append s.waiting (failures_of w.command) in
          let k = length-failures w.command in
          let old = f.completions in
          omega arith;
      cut = λ n e. let ne = on-steps s n on e in let old = f.cut n e in omega arith;
    }

pub counts-written : (s : DeviceState) (pending : List Waiting) (e : Entry) → In e s.cache → is_off s ≡ false → CountFacts s pending → CountFacts (written s (Some e)) pending
counts-written s pending e h on f =
    record {
      fits = f.fits;
      queued = f.queued;
      steps = let n = work_left-written s e h in let old = f.steps in omega arith;
      epochs = let old = f.epochs in omega arith;
      moved = f.moved;
      completions = f.completions;
      cut = λ n c. let ne = on-steps s n on c in let old = f.cut n c in omega arith;
    }

pub counts-answered_from : (s : DeviceState) (pending : List Waiting) (cs : List Completion) → s.waiting ≡ cs → CountFacts s pending → CountFacts (answered_from s cs) pending
counts-answered_from s pending (c ∷ cs) e f =
    record {
      fits = f.fits;
      queued = f.queued;
      steps = f.steps;
      epochs = f.epochs;
      moved = f.moved;
      completions = let n = length_push s.sent c in let m = ap length e in let old = f.completions in omega arith;
      cut = f.cut;
    }
counts-answered_from s pending [] e f =
    elim (cases_Bool (tells_cut s)) [
      | inl t ↦
          let untold : s.told ≡ false = not-true s.told (and_parts (is_off s) (not s.told) t).1 in
          let old = rw untold at f.completions in
          rw t (record {
            fits = f.fits;
            queued = f.queued;
            steps = f.steps;
            epochs = f.epochs;
            moved = f.moved;
            completions = let n = length_push s.sent Cut in omega arith;
            cut = f.cut;
          })
      | inr n ↦ rw n f
    ]
