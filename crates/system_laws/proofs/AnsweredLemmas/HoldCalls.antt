-- The facts of holds and of needs are kept by a step of a thread's call.
use Rattle.std.specs.List.{list_any}
use Rattle.std.specs.Prelude.{◌≡◌, ℕ, ◌+◌, ◌<◌, ◌==◌, ◌&&◌, Bool, true, false, not, List, [], ◌∷◌, length, set, Option, Some, None, slice_get, slice_index_or, refl, if◌then◌else◌}
use Rattle.std.proofs.Common.{sym, ap, subst, ◌∙◌, inl, inr, arith}
use Rattle.std.proofs.lemmas.Bool.{cases_Bool, and_parts, or_parts, false≢true, ltb-true, eqb-true}
use Rattle.std.proofs.lemmas.Option.{none-some, same_Some}
use Rattle.blk_base.specs.Members.{In}
use Rattle.blk_base.specs.laws.Members.{In-list_any}
use Rattle.number_sets.specs.Sets.{without_all}
use Rattle.order_model.specs.declared.completion.Completion.TheVariants as completions
use Rattle.order_model.specs.declared.completion.Completion.{Completion}
use Rattle.order_model.specs.declared.note.Note.TheVariants as notes
use Rattle.order_model.specs.declared.note.Note.{Note}
use Rattle.page_cache.specs.declared.cached_page.CachedPage.{CachedPage}
use Rattle.flush_actor.specs.Kinds.{is_durable, is_reading}
use Rattle.flush_actor.specs.Part.{FlushPart, is_cut, first_failed, is_over, at_limit, is_flush_note, is_flushed_after, flush_above, last_put}
use Rattle.flush_actor.specs.Waits.{no_wait, awaits}
use Rattle.flush_actor.specs.declared.call_kind.CallKind.{CallKind}
use Rattle.flush_actor.specs.declared.conflicts.held.Held.{Held}
use Rattle.flush_actor.specs.declared.wait.Wait.{Wait}
use Rattle.commit_actor.specs.Journal.{is_submitted}
use Rattle.host_machine.specs.Host.{Stepped, Goal, AwaitCommit, AnswerOk, AwaitLastPut, unsent_on, goal_of, set_wait, end_with, await_durable, await_last_put, await_commit, pursue, walk_pages, continue_begun, stop_of, step_call, step_thread, advance, wanting}
use Rattle.host_machine.specs.Model.{Model}
use Rattle.host_machine.specs.Outcomes as outcomes
use Rattle.host_machine.specs.State.{Ending, Answered, SessionFull, Begun, Thread, Host, Setup}
use Rattle.host_machine.specs.laws.Choices.{either}
use Rattle.host_machine.proofs.RunsLemmas.Walks.{FreshEnds, call_walk}
use Rattle.system_laws.proofs.AnsweredLemmas.HoldParts.{NeedFacts, KeepsHolds, no_need, sent}
use Rattle.system_laws.proofs.AnsweredLemmas.HoldChanges.{StaysWaiting, now_wanted, now_waits}
use Rattle.system_laws.proofs.AnsweredLemmas.HoldNotes.{commit_before, last_is, last_behind}

-- ---- waits

awaits_target : (k : ℕ) (w : Wait) → awaits k w ≡ true → w.target ≡ Some k
awaits_target k w e = by w.target (and_parts (is_durable w.kind) _ e).1
  where
    by : (o : Option ℕ) → elim o as (λ _. Bool) [ Some t ↦ t == k | None ↦ false ] ≡ true → o ≡ Some k
    by None e = absurd (false≢true e)
    by (Some t) e = ap Some (eqb-true t k e)

flushed_after : (id : ℕ) (c : Completion) → is_flushed_after id c ≡ true → (f : ℕ) × (c ≡ completions.Flushed f) × (id < f)
flushed_after id (completions.Flushed f) e = (f, refl, ltb-true id f e)
flushed_after id (completions.Moved i) e = absurd (false≢true e)
flushed_after id (completions.Failed i) e = absurd (false≢true e)
flushed_after id completions.Cut e = absurd (false≢true e)

abbrev is_commit_note : Note → Bool
is_commit_note (notes.Commit k) = true
is_commit_note other = false

-- a note that is none of a commit block
pub no_commit : (n : Note) → is_commit_note n ≡ false → (k : ℕ) → n ≡ notes.Commit k → ⊥
no_commit n e k same = false≢true (sym e ∙ ap is_commit_note same)

module _ {T V C R : Type 0} (M : Model T V C R) (u : Setup) where
  -- nothing stops a call while the session goes on
  unstopped : (f : FlushPart) → is_over f ≡ false → (kind : CallKind) → stop_of M u f.taken kind ≡ None
  unstopped f going kind =
      let both = or_parts (list_any is_cut f.taken) _ going in
      by (first_failed f.taken) refl both.0 both.1
    where
      by : (o : Option ℕ) → first_failed f.taken ≡ o → list_any is_cut f.taken ≡ false → (elim (first_failed f.taken) as (λ _. Bool) [ None ↦ false | Some id ↦ true ]) ≡ false → stop_of M u f.taken kind ≡ None
      by (Some id) at uncut unfailed = absurd (false≢true (sym unfailed ∙ ap (λ o. elim o as (λ _. Bool) [ None ↦ false | Some id ↦ true ]) at))
      by None at uncut unfailed = elim (cases_Bool (is_reading kind)) [ inl reads ↦ rw (uncut, reads) refl | inr other ↦ rw (uncut, other, at) refl ]

  module _ (full : Bool) (s : Host V C R) (kept : KeepsHolds s.journal) where
    abbrev n : ℕ
    n = s.journal.running.number

    abbrev f : FlushPart
    f = s.journal.flush

    abbrev After : Stepped V C R → Type 0
    After x = KeepsHolds x.host.journal

    -- ---- a thread's first call

    module _ (t : ℕ) (c : C) (rest : List C) where
      abbrev w : Wait
      w = slice_index_or s.journal.flush.waits t no_wait

      -- the thread may stop waiting: while the session goes on, it awaits no transaction that holds a block though its commit block moved
      abbrev MayEnd : Type 0
      MayEnd = is_over s.journal.flush ≡ false → at_limit s.journal.flush ≡ false → (x : Held) (id : ℕ) → In x s.journal.flush.conflicts.held → slice_get s.journal.flush.notes id ≡ Some (notes.Commit x.transaction)
          → In (completions.Moved id) s.journal.flush.taken → awaits x.transaction (slice_index_or s.journal.flush.waits t no_wait) ≡ true → ⊥

      ends : (e : Ending R) → MayEnd → After (end_with M u s t c rest e)
      ends e may = now_waits f t no_wait (is_submitted s.journal) n (no_need f.notes (is_submitted s.journal) no_wait refl) (λ going free x id i at j a. absurd (may going free x id i at j a)) kept

      waits : (v : Wait) → NeedFacts f.notes (is_submitted s.journal) v → StaysWaiting f w v → KeepsHolds (set_wait M u s t v).journal
      waits v one stays = now_waits f t v (is_submitted s.journal) n one stays kept

      at_end : at_limit s.journal.flush ≡ true → MayEnd
      at_end limit going free x id i at j a = false≢true (sym free ∙ limit)

      untargeted : w.target ≡ None → MayEnd
      untargeted none going free x id i at j a = none-some x.transaction (sym none ∙ awaits_target x.transaction w a)

      idles : w ≡ no_wait → MayEnd
      idles none = untargeted (ap (λ (w : Wait). w.target) none)

      stopped : (e : Ending R) → stop_of M u s.journal.flush.taken (M.kind c) ≡ Some e → MayEnd
      stopped e stop going free x id i at j a = none-some e (sym (unstopped f going (M.kind c)) ∙ stop)

      -- it may need request id
      abbrev Needs : ℕ → Type 0
      Needs id = NeedFacts s.journal.flush.notes (is_submitted s.journal) (record (slice_index_or s.journal.flush.waits t no_wait) { need = Some id })

      answered : (id : ℕ) → Needs id → list_any (is_flushed_after id) s.journal.flush.taken ≡ true → MayEnd
      answered id need e going free x place i at j a =
          let some = In-list_any (is_flushed_after id) f.taken e in
          let flush = flushed_after id some.0 some.2 in
          let low = flush.2 in
          let before = need.behind x.transaction id place (awaits_target x.transaction w a) refl at in
          false≢true (sym (kept.blocks.unflushed x flush.0 i (subst (λ d. In d f.taken) flush.1 some.1)) ∙ commit_before x.transaction flush.0 0 place f.notes at (omega (arith, low, before)))

      durably : (id : ℕ) → Needs id → After (await_durable M u s t c rest w id)
      durably id need =
          either After (list_any (is_flushed_after id) s.journal.flush.taken) _ _ (λ e. ends (Answered M.ok) (answered id need e))
          (λ e. either After (at_limit s.journal.flush && not (flush_above id 0 s.journal.flush.notes)) _ _ (λ e. ends SessionFull (at_end (and_parts (at_limit s.journal.flush) _ e).0)) (λ e. waits (record w { need = Some id }) need (λ going free x id i at j a. a)))

      last : ((k : ℕ) → w.target ≡ Some k → is_submitted s.journal k ≡ true) → After (await_last_put M u s t c rest w)
      last settled = by (last_put 0 s.journal.flush.notes None) refl
        where
          by : (x : Option ℕ) → last_put 0 s.journal.flush.notes None ≡ x → After (elim x as (λ _. Stepped V C R) [ None ↦ end_with M u s t c rest (Answered M.ok) | Some id ↦ await_durable M u s t c rest w id ])
          by None is = ends (Answered M.ok) (λ going free x id i at j a. let r = last_behind 0 id (notes.Commit x.transaction) f.notes None at refl in none-some r.0 (sym is ∙ r.1))
          by (Some id) is = durably id (record {
            put = λ i e. subst (λ i. (m : Note) × (slice_get f.notes i ≡ Some m) × (is_flush_note m ≡ false)) (same_Some id i e) (last_is f.notes id is);
            behind = λ k i place t e at.
                let r = last_behind 0 place (notes.Commit k) f.notes None at refl in
                let high = r.2 in
                let same : r.0 ≡ id = same_Some r.0 id (sym r.1 ∙ is) in
                let also : id ≡ i = same_Some id i e in
                omega (arith, high, same, also);
            settled = λ k i t e. settled k t;
          })

      commits : (k : ℕ) → w.target ≡ Some k → After (await_commit M u s t c rest w k)
      commits k target =
          either After (is_submitted s.journal k) _ _
          (λ through. either After (is_durable w.kind) _ _
          (λ durable. last (λ j e. subst (λ j. is_submitted s.journal j ≡ true) (same_Some k j (sym target ∙ e)) through))
          (λ barrier. ends (Answered M.ok) (λ going free x id i at j a. false≢true (sym barrier ∙ (and_parts (is_durable w.kind) _ a).0))))
          (λ e. either After (at_limit s.journal.flush) _ _ (λ e. ends SessionFull (at_end e)) (λ e. kept))

      -- it waits for nothing yet
      module _ (needless : (slice_index_or s.journal.flush.waits t no_wait).need ≡ None) (aimless : (slice_index_or s.journal.flush.waits t no_wait).target ≡ None) where
        goal : (g : Goal) → After (pursue M u s t c rest w g)
        goal AnswerOk = ends (Answered M.ok) (untargeted aimless)
        goal AwaitLastPut = last (λ k e. absurd (none-some k (sym aimless ∙ e)))
        goal (AwaitCommit k) = either After (at_limit s.journal.flush) _ _ (λ e. ends SessionFull (at_end e)) (λ e. by (k == n))
          where
            now : KeepsHolds (set_wait M u s t (record w { target = Some k })).journal
            now = waits (record w { target = Some k }) (no_need f.notes (is_submitted s.journal) (record w { target = Some k }) needless) (λ going free x id i at j a. absurd (untargeted aimless going free x id i at j a))

            by : (x : Bool) → KeepsHolds (if x then wanting M u (set_wait M u s t (record w { target = Some k })) else set_wait M u s t (record w { target = Some k })).journal
            by true = now
            by false = now

        sends : (b : Begun) → After (walk_pages M u full s t c rest w b)
        sends b = by (unsent_on s.pages b.list) refl
          where
            by : (x : Option (CachedPage × List (ℕ × ℕ))) → unsent_on s.pages b.list ≡ x → After (walk_pages M u full s t c rest w b)
            by None is = rw (is, walk_pages) (goal (goal_of s.journal b))
            by (Some next) is = rw (is, walk_pages) (either After (at_limit s.journal.flush) _ _ (λ e. ends SessionFull (at_end e)) (λ d. either After full _ _ (λ e. kept) (λ e. sent f _ (notes.Page next.0.birth next.0.index next.0.version) (is_submitted s.journal) n (no_commit _ refl) kept)))

      goes_on : (b : Begun) → After (continue_begun M u full s t c rest w b)
      goes_on b = by w.need refl
        where
          second : w.need ≡ None → (x : Option ℕ) → w.target ≡ x → After (elim x as (λ _. Stepped V C R) [ Some k ↦ await_commit M u s t c rest w k | None ↦ walk_pages M u full s t c rest w b ])
          second none None e = sends none e b
          second none (Some k) e = commits k e

          by : (x : Option ℕ) → w.need ≡ x → After (elim x as (λ _. Stepped V C R) [
            | Some id ↦ await_durable M u s t c rest w id
            | None ↦ elim w.target as (λ _. Stepped V C R) [ Some k ↦ await_commit M u s t c rest w k | None ↦ walk_pages M u full s t c rest w b ]
          ])
          by None e = second e w.target refl
          by (Some id) e = durably id (record { put = λ i d. (kept.needs t).put i (e ∙ d); behind = λ k i place a d at. (kept.needs t).behind k i place a (e ∙ d) at; settled = λ k i a d. (kept.needs t).settled k i a (e ∙ d) })

      fresh_ends : w ≡ no_wait → FreshEnds M u s t c rest After
      fresh_ends none = record {
        refused = λ why e. ends (Answered why) (idles none);
        begins = λ accepted kind. waits (record { kind = M.kind c; target = None; need = None }) (no_need f.notes (is_submitted s.journal) (record { kind = M.kind c; target = None; need = None }) refl) (λ going free x id i at j a. absurd (idles none going free x id i at j a));
        full_up = λ why e limit. ends SessionFull (at_end limit);
        rests = λ why. kept;
        wants = λ why. kept;
        acts = λ accepted kind free.
            let a = M.apply s.volume (length s.history + 1) n c in
            now_wanted (record s.journal.flush { waits = set s.journal.flush.waits t no_wait }) (without_all a.touched.blocks a.touched.revoked) (is_submitted s.journal) n (ends (Answered a.reply) (idles none));
      }

      called : (begun : Option Begun) → (begun ≡ None → w ≡ no_wait) → After (step_thread M u full s t begun (c ∷ rest))
      called None idle = call_walk M u full s t c rest After None (record {
        stopped = λ e stop. ends e (stopped e stop);
        goes_on = λ b going e. absurd (none-some b e);
        starts = λ going e. fresh_ends (idle refl);
      })
      called (Some b) idle = by (stop_of M u s.journal.flush.taken (M.kind c)) refl
        where
          by : (x : Option (Ending R)) → stop_of M u s.journal.flush.taken (M.kind c) ≡ x → After (elim x as (λ _. Stepped V C R) [ Some stop ↦ end_with M u s t c rest stop | None ↦ step_call M u full s t (Some b) c rest ])
          by None e = goes_on b
          by (Some stop) e = ends stop (stopped stop e)

    -- a step of thread t, where one whose call has not begun waits for nothing
    pub call_holds : ((t : ℕ) (th : Thread C) → slice_get s.threads t ≡ Some th → th.begun ≡ None → slice_index_or s.journal.flush.waits t no_wait ≡ no_wait) → (t : ℕ) → After (advance M u full s t)
    call_holds idle t = by (slice_get s.threads t) refl
      where
        of_calls : (th : Thread C) → slice_get s.threads t ≡ Some th → (calls : List C) → After (step_thread M u full s t th.begun calls)
        of_calls th at [] = kept
        of_calls th at (c ∷ rest) = called t c rest th.begun (λ e. idle t th at e)

        by : (x : Option (Thread C)) → slice_get s.threads t ≡ x → After (elim x as (λ _. Stepped V C R) [ None ↦ record { host = s; step = outcomes.Ended } | Some th ↦ step_thread M u full s t th.begun th.calls ])
        by None e = kept
        by (Some th) e = of_calls th e th.calls
