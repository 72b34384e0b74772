-- What is left to do: how each call changes it.
use Rattle.std.specs.Prelude.{◌≡◌, ℕ, suc, Bool, ◌+◌, ◌*◌, ◌<◌, ◌≤◌, ◌++◌, true, false, List, [], ◌∷◌, length, sum_by, Some, None, refl, if◌then◌else◌}
use Rattle.std.proofs.Common.{ap, sym, subst, inl, inr, arith}
use Rattle.std.proofs.lemmas.Bool.{cases_Bool, false≢true}
use Rattle.std.proofs.lemmas.List.Sums.{sum_by-cons, sum_by-append}
use Rattle.blk_base.specs.Members.{In}
use Rattle.blk_base.specs.laws.Members.{In-append_cases}
use Rattle.order_model.specs.declared.part.Part.{Part}
use Rattle.order_model.specs.declared.completion.Completion.{Completion}
use Rattle.order_model.specs.declared.completion.Completion.TheVariants.{Cut}
use Rattle.order_model.specs.Received.{first_part, ids_of, completions_of, failures_of, transfers}
use Rattle.order_model.specs.declared.command.Command.{Command}
use Rattle.order_model.proofs.Received.{length-all_parts-push, length-all_ids-push}
use Rattle.std.proofs.lemmas.List.{length_push}
use Rattle.std.proofs.lemmas.List.Sums.{sum_by_push}
use Rattle.std.proofs.Common.{length-append}
use Rattle.std.proofs.lemmas.Bool.{not-true, and_parts}
use Rattle.std.specs.Prelude.{not}
use Rattle.device_epochs.specs.queue.Queue.{without}
use Rattle.device_epochs.specs.queue.laws.EpochLaws.{length-transfers}
use Rattle.device_epochs.specs.queue.laws.CompletionLaws.{length-completions, length-failures}
use Rattle.device_epochs.specs.queue.Queue.{Waiting, AreNumbered}
use Rattle.device_epochs.specs.queue.laws.QueueLaws.{sum_by-without}
use Rattle.flog_device.specs.Log.{Page, pages, programmed_at}
use Rattle.flog_device.specs.Device.{FlogState, Write, Program, Fold, programs, folds, folded_from, is_off, tells_cut, received, performed, failed_on, written, answered, answered_from}
use Rattle.flog_device.specs.laws.Valid.{work, page_work, work_left, CountFacts}
use Rattle.flog_device.specs.laws.StepLaws.{fold-first}

pub never_off : (s : FlogState) → s.cut_at ≡ None → is_off s ≡ false
never_off s e = rw e refl

-- two for each new page
work-pages : (first : ℕ) (ps : List Part) → sum_by page_work (pages first ps) ≡ 2 * length ps
work-pages first [] = refl
work-pages first (p ∷ ps) =
    let n = sum_by-cons page_work (record { place = record { block = p.block; part = first }; programmed = false }) (pages (first + 1) ps) in
    let rest = work-pages (first + 1) ps in
    omega arith

pub work_left-moved : (s : FlogState) (w : Waiting) → AreNumbered s.queue.next s.queue.waiting → In w s.queue.waiting → work_left (performed s w) < work_left s
work_left-moved s w a h =
    let n = sum_by-without work s.queue.next s.queue.waiting w a h in
    let new = work-pages (first_part s.took w.number) w.command.parts in
    let both = sum_by-append page_work s.log (pages (first_part s.took w.number) w.command.parts) in
    omega arith

pub work_left-failed : (s : FlogState) (w : Waiting) → AreNumbered s.queue.next s.queue.waiting → In w s.queue.waiting → work_left (failed_on s w) < work_left s
work_left-failed s w a h = let n = sum_by-without work s.queue.next s.queue.waiting w a h in omega arith

-- a page that is programmed has one step less
-- the numbers of programs begin with the first page's
programs-from : (from : ℕ) (log : List Page) (k : ℕ) → In (Program k) (programs from log) → (i : ℕ) × (k ≡ from + i) × (sum_by page_work (programmed_at i log) < sum_by page_work log)
programs-from from [] k h = absurd h
programs-from from (p ∷ ps) k h =
    let later : In (Program k) (programs (from + 1) ps) → (i : ℕ) × (k ≡ from + i) × (sum_by page_work (programmed_at i (p ∷ ps)) < sum_by page_work (p ∷ ps)) =
    λ j.
    let r = programs-from (from + 1) ps k j in
    let n = sum_by-cons page_work p ps in
    let m = sum_by-cons page_work p (programmed_at r.0 ps) in
    let less = r.2 in
    let at = r.1 in
    (suc r.0, omega (arith, at), omega (arith, n, m, less)) in
    elim (cases_Bool p.programmed) [
      | inl t ↦ later (rw t at h)
      | inr n ↦
          let j : In (Program k) (Program from ∷ programs (from + 1) ps) = rw n at h in
          elim j [
            | inl e ↦
                let one : Page = record { place = p.place; programmed = true } in
                let a = sum_by-cons page_work p ps in
                let b = sum_by-cons page_work one ps in
                let two : page_work p ≡ 2 = ap (λ t. if t then 1 else 2) n in
                let k_at : from ≡ k = ap number e in
                (0, omega (arith, k_at), omega (arith, a, b, two))
            | inr i ↦ later i
          ]
    ]
  where
    number : Write → ℕ
    number (Program i) = i
    number Fold = 0

no_program : (log : List Page) (k : ℕ) → In (Program k) (folds log) → ⊥
no_program [] k h = h
no_program (p ∷ ps) k h =
    elim (cases_Bool p.programmed) [
      | inl t ↦
          let j : In (Program k) (Fold ∷ []) = rw t at h in
          elim j [ inl e ↦ false≢true (ap is_program e) | inr i ↦ i ]
      | inr n ↦ rw n at h
    ]
  where
    is_program : Write → Bool
    is_program Fold = false
    is_program (Program i) = true

some-work : (p : Page) → 0 < page_work p
some-work p = elim (cases_Bool p.programmed) [ inl t ↦ rw t (omega arith) | inr n ↦ rw n (omega arith) ]

pub work_left-folded : (s : FlogState) (p : Page) (ps : List Page) → s.log ≡ p ∷ ps → work_left (folded_from s (p ∷ ps)) < work_left s
work_left-folded s p ps e =
    let n = sum_by-cons page_work p ps in
    let old = ap (sum_by page_work) e in
    let some = some-work p in
    omega arith

pub work_left-written : (s : FlogState) (e : Write) → In e (programs 0 s.log ++ folds s.log) → work_left (written s (Some e)) < work_left s
work_left-written s (Program k) h =
    elim (In-append_cases (programs 0 s.log) (folds s.log) (Program k) h) [
      | inl i ↦
          let r = programs-from 0 s.log k i in
          let at = r.1 in
          let same : r.0 ≡ k = omega (arith, at) in
          let less = r.2 in
          let less_at : sum_by page_work (programmed_at k s.log) < sum_by page_work s.log = subst (λ n. sum_by page_work (programmed_at n s.log) < sum_by page_work s.log) same less in
          omega (arith, less_at)
      | inr j ↦ absurd (no_program s.log k j)
    ]
work_left-written s Fold h =
    let first = fold-first s.log h in
    subst (λ (l : List Page). work_left (folded_from s l) < work_left s) (sym first.2) (work_left-folded s first.0 first.1 first.2)

work_left-answered_from : (s : FlogState) (cs : List Completion) → work_left (answered_from s cs) ≡ work_left s
work_left-answered_from s (c ∷ cs) = refl
work_left-answered_from s [] =
    elim (cases_Bool (tells_cut s)) [
      | inl t ↦ rw t refl
      | inr f ↦ rw f refl
    ]

pub work_left-answered : (s : FlogState) → work_left (answered s) ≡ work_left s
work_left-answered s = work_left-answered_from s s.waiting

-- ---- the counts

work_left-received : (s : FlogState) (c : Command) → work_left (received s c) ≡ work_left s + 2 * length c.parts + 1
work_left-received s c =
    let n = sum_by_push work s.queue.waiting (record { number = s.queue.next; command = c }) in
    omega arith

pub counts-received : (s : FlogState) (pending : List Waiting) (c : Command) → CountFacts s pending → CountFacts (received s c) (pending ++ record { number = s.queue.next; command = c } ∷ [])
counts-received s pending c f =
    let w : Waiting = record { number = s.queue.next; command = c } in
    let commands = length_push s.took c in
    let parts = length-all_parts-push s.took c in
    let ids = length-all_ids-push s.took c in
    record {
      steps = let n = work_left-received s c in let old = f.steps in omega arith;
      epochs = f.epochs;
      moved = let n = sum_by_push (λ (x : Waiting). length x.command.parts) pending w in let old = f.moved in omega arith;
      completions = let n = sum_by_push (λ (x : Waiting). length (ids_of x.command)) s.queue.waiting w in let old = f.completions in omega arith;
    }

epoch-after : (b : Bool) (epoch : ℕ) → (if b then epoch + 1 else epoch) ≤ epoch + 1
epoch-after true epoch = omega arith
epoch-after false epoch = omega arith

pub counts-moved : (s : FlogState) (pending : List Waiting) (w : Waiting) → AreNumbered s.queue.next s.queue.waiting → AreNumbered s.queue.next pending → In w s.queue.waiting → In w pending → CountFacts s pending → CountFacts (performed s w) (without w.number pending)
counts-moved s pending w a b h i f =
    record {
      steps = let n = work_left-moved s w a h in let old = f.steps in omega arith;
      epochs = let n = epoch-after w.command.barrier s.epoch in let old = f.epochs in omega arith;
      moved =
          let n = sum_by-without (λ (x : Waiting). length x.command.parts) s.queue.next pending w b i in
          let new = length-append s.moved (transfers s.epoch (first_part s.took w.number) w.command.parts) in
          let k = length-transfers s.epoch (first_part s.took w.number) w.command.parts in
          let old = f.moved in
          omega arith;
      completions =
          let n = sum_by-without (λ (x : Waiting). length (ids_of x.command)) s.queue.next s.queue.waiting w a h in
          let new = length-append s.waiting (completions_of w.command) in
          let k = length-completions w.command in
          let old = f.completions in
          omega arith;
    }

pub counts-failed : (s : FlogState) (pending : List Waiting) (w : Waiting) → AreNumbered s.queue.next s.queue.waiting → In w s.queue.waiting → CountFacts s pending → CountFacts (failed_on s w) pending
counts-failed s pending w a h f =
    record {
      steps = let n = work_left-failed s w a h in let old = f.steps in omega arith;
      epochs = let old = f.epochs in omega arith;
      moved = f.moved;
      completions =
          let n = sum_by-without (λ (x : Waiting). length (ids_of x.command)) s.queue.next s.queue.waiting w a h in
          let new = length-append s.waiting (failures_of w.command) in
          let k = length-failures w.command in
          let old = f.completions in
          omega arith;
    }

pub counts-programmed : (s : FlogState) (pending : List Waiting) (i : ℕ) → In (Program i) (programs 0 s.log ++ folds s.log) → CountFacts s pending → CountFacts (written s (Some (Program i))) pending
counts-programmed s pending i h f =
    record {
      steps = let n = work_left-written s (Program i) h in let old = f.steps in omega arith;
      epochs = let old = f.epochs in omega arith;
      moved = f.moved;
      completions = f.completions;
    }

pub counts-folded : (s : FlogState) (pending : List Waiting) (p : Page) (ps : List Page) → s.log ≡ p ∷ ps → CountFacts s pending → CountFacts (folded_from s (p ∷ ps)) pending
counts-folded s pending p ps e f =
    record {
      steps = let n = work_left-folded s p ps e in let old = f.steps in omega arith;
      epochs = let old = f.epochs in omega arith;
      moved = f.moved;
      completions = f.completions;
    }

pub counts-answered_from : (s : FlogState) (pending : List Waiting) (cs : List Completion) → s.waiting ≡ cs → CountFacts s pending → CountFacts (answered_from s cs) pending
counts-answered_from s pending (c ∷ cs) e f =
    record {
      steps = f.steps;
      epochs = f.epochs;
      moved = f.moved;
      completions = let n = length_push s.sent c in let m = ap length e in let old = f.completions in omega arith;
    }
counts-answered_from s pending [] e f =
    elim (cases_Bool (tells_cut s)) [
      | inl t ↦
          let untold : s.told ≡ false = not-true s.told (and_parts (is_off s) (not s.told) t).1 in
          let old = rw untold at f.completions in
          rw t (record {
            steps = f.steps;
            epochs = f.epochs;
            moved = f.moved;
            completions = let n = length_push s.sent Cut in omega arith;
          })
      | inr n ↦ rw n f
    ]
