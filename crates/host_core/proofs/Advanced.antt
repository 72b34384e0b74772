-- A caller's step is the machine's: the thread is found, its call takes a step, and that is noted.
use Rattle.std.proofs.Common.{◌≡◌, ◌<◌, ◌≤◌, ◌+◌, ℕ, suc, zero, Bool, List, [], ◌∷◌, length, map, set, drop, get_or, Option, Some, None, slice_get, refl, sym, ap, subst, arith, ◌∙◌}
use Rattle.std.proofs.lemmas.List.{length-map}
use Rattle.blk_base.specs.laws.Members.{slice_get-map_some, slice_get-In}
use Rattle.page_cache.specs.Pages.{Cache}
use Rattle.tree_model.specs.declared.call.Call.{Call}
use Rattle.tree_model.specs.declared.call.Reply.{Reply}
use Rattle.journal_blocks.specs.declared.super_block.JournalSuper.{JournalSuper}
use Rattle.journal_ring.specs.running.Closing.{writers}
use Rattle.journal_ring.specs.running.Open.{quota}
use Rattle.volume_steps.specs.Now.{VolumeNow}
use Rattle.commit_actor.specs.Actor.{CommitActor}
use Rattle.host_answers.specs.declared.step.Step.{Step}
use Rattle.host_answers.specs.declared.step.Step.TheVariants as answers
use Rattle.host_machine.specs.Host as machine
use Rattle.host_machine.specs.Host.{Stepped}
use Rattle.host_machine.specs.Outcomes as outcomes
use Rattle.host_machine.specs.State as state
use Rattle.host_core.specs.at_once.Steps.{CallParts}
use Rattle.host_core.specs.Answers.{IfStepped, found_queue_full}
use Rattle.host_core.specs.Entries.{entry_in}
use Rattle.host_core.specs.Now.{HostNow, model_now, setup_now, with_host}
use Rattle.host_core.specs.code.Fields.{IsNext, IsWithin, AreWithin, host_of, program_of, thread_of}
use Rattle.host_core.specs.code.Progress.{Went, steps_call, settled, with_parts, progress_is, list_of, is_queue_full}
use Rattle.host_answers.specs.declared.entry.Entry.{Entry}
use Rattle.host_core.specs.declared.call_progress.CallProgress.{CallProgress}
use Rattle.host_core.specs.declared.thread.Thread.{Thread}
use Rattle.host_core.proofs.Steps.{IsPlainLaw, IsBegunLaw, step_is}

-- ---- lists

pub found_at : {X : Type 0} (xs : List X) (i : ℕ) (x : X) → i < length xs → x ≡ get_or xs i x → slice_get xs i ≡ Some x
found_at [] i x h e = absurd (omega arith)
found_at (y ∷ ys) zero x h e = ap Some (sym e)
found_at (y ∷ ys) (suc i) x h e = found_at ys i x (omega arith) e

pub found_there : {X : Type 0} (read xs : List X) (i : ℕ) (x : X) → read ≡ xs → i < length read → x ≡ get_or read i x → slice_get xs i ≡ Some x
found_there read xs i x e low is = ap (λ ys. slice_get ys i) (sym e) ∙ found_at read i x low is

same_found : {X : Type 0} (o : Option X) (x y : X) → o ≡ Some x → o ≡ Some y → x ≡ y
same_found o x y e f = cc

-- what is read twice is the same
pub read_again : {X : Type 0} (read xs : List X) (i : ℕ) (x y : X) → read ≡ xs → i < length read → x ≡ get_or read i x → y ≡ get_or xs i y → y ≡ x
read_again read xs i x y e low first second =
    same_found (slice_get xs i) y x (found_at xs i y (let same = ap length e in omega arith) second) (found_there read xs i x e low first)

drop_at : {X : Type 0} (xs : List X) (i : ℕ) (x : X) → slice_get xs i ≡ Some x → drop i xs ≡ x ∷ drop (suc i) xs
drop_at [] i x e = cc
drop_at (y ∷ ys) zero x e = cc
drop_at (y ∷ ys) (suc i) x e = drop_at ys i x e

drop_past : {X : Type 0} (xs : List X) (i : ℕ) → length xs ≤ i → drop i xs ≡ []
drop_past [] zero h = refl
drop_past [] (suc i) h = refl
drop_past (y ∷ ys) zero h = absurd (omega arith)
drop_past (y ∷ ys) (suc i) h = drop_past ys i (omega arith)

pub next_call : (ts : List Thread) (at : ℕ) (th : Thread) (c : Call) → slice_get ts at ≡ Some th → slice_get th.program.items th.ended ≡ Some c → IsNext ts at th c (drop (suc th.ended) th.program.items)
next_call ts at th c there call = record { there = there; calls = drop_at th.program.items th.ended c call }

pub within_at : (ts : List Thread) (at : ℕ) (th : Thread) → AreWithin ts → at < length ts → th ≡ get_or ts at th → IsWithin th
within_at ts at th all low e = all th (slice_get-In ts at th (found_at ts at th low e))

-- ---- the machine's step

stepped_weaker : (answer : Step) (P Q : outcomes.Step Reply → Type 0) → ((a : outcomes.Step Reply) → P a → Q a) → IfStepped answer P → IfStepped answer Q
stepped_weaker (answers.Done reply) P Q h p = h _ p
stepped_weaker answers.Begun P Q h p = h _ p
stepped_weaker (answers.Sent id) P Q h p = h _ p
stepped_weaker (answers.Waiting cause) P Q h p = h _ p
stepped_weaker answers.Ended P Q h p = h _ p
stepped_weaker (answers.ReadOnly id) P Q h p = h _ p
stepped_weaker answers.Down P Q h p = h _ p
stepped_weaker answers.SessionFull P Q h p = h _ p
stepped_weaker answers.NoMemory P Q h p = tt

module _ (j : CommitActor) (v : VolumeNow) (ps : Cache) (owners cuts : List ℕ) (h : List Entry) (ts : List Thread) (at : ℕ) (th : Thread) (there : slice_get ts at ≡ Some th) where
  abbrev now : HostNow
  now = host_of j v ps owners h cuts ts

  abbrev advanced : Bool → Option (state.Thread Call) → Stepped VolumeNow Call Reply
  advanced full o = elim o as (λ _. Stepped VolumeNow Call Reply) [
    | None ↦ record { host = now.host; step = outcomes.Ended }
    | Some x ↦ machine.step_thread (model_now now) (setup_now now) full now.host at x.begun x.calls
  ]

  -- the thread has no call left
  pub ended_is : (full : Bool) → length th.program.items ≤ th.ended → (let x : Stepped VolumeNow Call Reply = record { host = now.host; step = outcomes.Ended } in x) ≡ machine.advance (model_now now) (setup_now now) full now.host at
  ended_is full none = sym (
      ap (advanced full) (slice_get-map_some thread_of ts at th there)
      ∙ ap (λ (cs : List Call). machine.step_thread (model_now now) (setup_now now) full now.host at th.begun cs) (drop_past th.program.items th.ended none)
      )

  thread_is : (full : Bool) (c : Call) (rest : List Call) → drop th.ended th.program.items ≡ c ∷ rest
      → machine.step_thread (model_now now) (setup_now now) full now.host at th.begun (c ∷ rest) ≡ machine.advance (model_now now) (setup_now now) full now.host at
  thread_is full c rest calls = sym (
      ap (advanced full) (slice_get-map_some thread_of ts at th there)
      ∙ ap (λ (cs : List Call). machine.step_thread (model_now now) (setup_now now) full now.host at th.begun cs) calls
      )

  abbrev parts : CallParts
  parts = record { journal = j.part; volume = v; pages = ps.pages; owners = owners }

  -- what is noted in the end, of a thread as it was found
  abbrev Settles : CommitActor → CommitActor → VolumeNow → Cache → List ℕ → List Entry → Thread → CallProgress → Step → Thread → Type 0
  Settles k l w qs taken entries new f answer x = (c : Call) (rest : List Call) → IsNext ts at x c rest → IfStepped answer (λ a.
      (let y : Stepped VolumeNow Call Reply = record { host = (host_of l w qs taken entries cuts (set ts at new)).host; step = a } in y)
      ≡ settled (host_of k w qs taken h cuts ts).host at c rest x.begun (progress_is (list_of x.begun) f))

  pub advanced_is : IsPlainLaw → IsBegunLaw → (k l : CommitActor) (w : VolumeNow) (qs : Cache) (taken : List ℕ) (entries : List Entry) (old new : Thread) (c : Call) (n : ℕ) (f : CallProgress) (answer : Step)
      → slice_get th.program.items th.ended ≡ Some c → n ≡ length h + 1 → old ≡ th
      → (let x : Went = record { parts = record { journal = k.part; volume = w; pages = qs.pages; owners = taken }; progress = progress_is (list_of th.begun) f } in x)
      ≡ steps_call (is_queue_full f) (writers j.made_with) v.geometry.zmap (quota j.made_with) parts n at th.begun c
      → found_queue_full answer ≡ is_queue_full f → Settles k l w qs taken entries new f answer old
      → IfStepped answer (λ a. (let y : Stepped VolumeNow Call Reply = record { host = (host_of l w qs taken entries cuts (set ts at new)).host; step = a } in y)
      ≡ machine.advance (model_now now) (setup_now now) (found_queue_full answer) now.host at)
  advanced_is law begun_law k l w qs taken entries old new c n f answer call number same step full done =
      let next = next_call ts at th c there call in
      let rest = drop (suc th.ended) th.program.items in
      let count : n ≡ length now.host.history + 1 = number ∙ ap (λ x. x + 1) (sym (length-map h (entry_in (map program_of ts)))) in
      let after = λ (x : Went). settled (with_parts now.host x.parts) at c rest th.begun x.progress in
      stepped_weaker answer _ _ (λ a e.
      e
      ∙ ap after step
      ∙ ap (λ x. after (steps_call (is_queue_full f) (writers j.made_with) v.geometry.zmap (quota j.made_with) parts x at th.begun c)) count
      ∙ ap (λ x. after (steps_call x (writers j.made_with) v.geometry.zmap (quota j.made_with) parts (length now.host.history + 1) at th.begun c)) (sym full)
      ∙ step_is law begun_law v.geometry (setup_now now) (found_queue_full answer) now.host at c rest th.begun
      ∙ thread_is (found_queue_full answer) c rest next.calls) (subst (Settles k l w qs taken entries new f answer) same done c rest next)

-- ---- what is set when the host is made stays

pub same_is : (j k : CommitActor) (v w : VolumeNow) (ps qs : Cache) (owners taken : List ℕ) (h entries : List Entry) (cuts more : List ℕ) (ts us : List Thread)
    → k.made_with ≡ j.made_with → k.journal ≡ j.journal → map program_of us ≡ map program_of ts
    → host_of k w qs taken entries more us ≡ with_host (host_of j v ps owners h cuts ts) (host_of k w qs taken entries more us).host
same_is j k v w ps qs owners taken h entries cuts more ts us made journal programs =
    let new = (host_of k w qs taken entries more us).host in
    let at = λ (m : JournalSuper) (n : ℕ) (x : List (List Call)). let y : HostNow = record { made_with = m; journal = n; programs = x; host = new } in y in
    ap (λ m. at m k.journal (map program_of us)) made
    ∙ ap (λ n. at j.made_with n (map program_of us)) journal
    ∙ ap (λ x. at j.made_with j.journal x) programs
