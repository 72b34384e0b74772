-- Two sync calls share a flush, and behind that nobody waits for one.
use Rattle.std.proofs.Common.{sym, ap, ◌∙◌, inl, inr, ⊎_elim, arith}
use Rattle.std.proofs.lemmas.Bool.{true≢false, cases_eq, cases_lt}
use Rattle.std.proofs.lemmas.Option.{none-some, same_Some}
use Rattle.blk_base.specs.laws.Members.{slice_get-out}
use Rattle.std.specs.Prelude.{◌≡◌, ◌≢◌, ℕ, zero, suc, ◌<◌, ◌≤◌, false, List, [], ◌∷◌, length, Some, None, slice_get, refl}
use Rattle.flush_actor.specs.Part.{flush_above}
use Rattle.flush_actor.specs.declared.call_kind.CallKind.TheVariants.{FileBarrier, FileSync}
use Rattle.flush_actor.specs.declared.call_kind.CallKind.{CallKind}
use Rattle.flush_actor.specs.Waits.{no_wait}
use Rattle.flush_actor.specs.declared.wait.Wait.{Wait}
use Rattle.host_machine.specs.State.{Begins, Entry, What}
use Rattle.host_machine.specs.laws.Rows.{Call, State, model, ok, changing, begun, notes_of, shared_moved, shared_flushing, shared_end, needing, with_one_more}
use Rattle.host_machine.specs.runs.Flushes.{is_sync_begin, WaitsForFlush, AreWaitedFor}
use Rattle.host_machine.specs.runs.Runs.{Event}

pub first_waits : (w : WaitsForFlush model.kind shared_moved) × (w.thread ≡ 0)
first_waits = (
  record {
    thread = 0;
    call = begun FileSync 1;
    sync = refl;
    place = 1;
    began = refl;
    last = last;
    wait = record { kind = FileSync; target = Some 1; need = Some 5 };
    waits = refl;
    request = 5;
    needs = refl;
    sent = omega arith;
    unserved = refl;
  },
  refl,
)
  where
    last : (i : ℕ) (e : Entry Call ℕ) → 1 < i → slice_get shared_moved.history i ≡ Some e → e.thread ≢ 0
    last zero e lt at = absurd (omega arith)
    last (suc zero) e lt at = absurd (omega arith)
    last (suc (suc zero)) e lt at = λ same. (let other : 1 ≡ e.thread = ap (λ (x : Entry Call ℕ). x.thread) (same_Some _ e at) in omega arith)
    last (suc (suc (suc i))) e lt at = absurd (none-some e at)

pub second_waits : (w : WaitsForFlush model.kind shared_moved) × (w.thread ≡ 1)
second_waits = (
  record {
    thread = 1;
    call = begun FileSync 1;
    sync = refl;
    place = 2;
    began = refl;
    last = last;
    wait = record { kind = FileSync; target = Some 1; need = Some 5 };
    waits = refl;
    request = 5;
    needs = refl;
    sent = omega arith;
    unserved = refl;
  },
  refl,
)
  where
    last : (i : ℕ) (e : Entry Call ℕ) → 2 < i → slice_get shared_moved.history i ≡ Some e → e.thread ≢ 1
    last zero e lt at = absurd (omega arith)
    last (suc zero) e lt at = absurd (omega arith)
    last (suc (suc zero)) e lt at = absurd (omega arith)
    last (suc (suc (suc i))) e lt at = absurd (none-some e at)

-- the flush stands behind request 5
pub both_are_served : WaitsForFlush model.kind shared_flushing → ⊥
both_are_served w = by w.thread w.waits
  where
    served : 5 ≡ w.request → ⊥
    served is = true≢false (ap (λ id. flush_above id 0 (notes_of shared_flushing)) is ∙ w.unserved)

    by : (t : ℕ) → slice_get shared_flushing.journal.flush.waits t ≡ Some w.wait → ⊥
    by zero at = served (same_Some 5 w.request (ap (λ (x : Wait). x.need) (same_Some _ w.wait at) ∙ w.needs))
    by (suc zero) at = served (same_Some 5 w.request (ap (λ (x : Wait). x.need) (same_Some _ w.wait at) ∙ w.needs))
    by (suc (suc t)) at = none-some w.wait at

-- the fsyncs have ended, and the fbarrier needs nothing durable
pub nobody_waits : WaitsForFlush model.kind shared_end → ⊥
nobody_waits w = by w.thread w.waits
  where
    by : (t : ℕ) → slice_get shared_end.journal.flush.waits t ≡ Some w.wait → ⊥
    by zero at = none-some w.request (ap (λ (x : Wait). x.need) (same_Some _ w.wait at) ∙ w.needs)
    by (suc zero) at = none-some w.request (ap (λ (x : Wait). x.need) (same_Some _ w.wait at) ∙ w.needs)
    by (suc (suc t)) at = none-some w.wait at

-- A thread's last entry is at place i. Where that begins no sync call, and nothing else of the thread stands behind, the thread
-- does not wait.
module _ (s : State) (t i : ℕ) (e : Entry Call ℕ) (at : slice_get s.history i ≡ Some e) (of_t : e.thread ≡ t) (other : is_sync_begin model.kind e ≡ false)
    (last : (k : ℕ) (x : Entry Call ℕ) → i < k → slice_get s.history k ≡ Some x → x.thread ≢ t) where
  thread_is_done : (w : WaitsForFlush model.kind s) → w.thread ≡ t → ⊥
  thread_is_done w same = ⊎_elim (λ lt. w.last i e lt at (of_t ∙ sym same)) (λ le. elim (cases_eq w.place i) [ inl here ↦ at_i here | inr other_place ↦ last w.place _ (behind le other_place) w.began same ]) (cases_lt w.place i)
    where
      behind : i ≤ w.place → w.place ≢ i → i < w.place
      behind le apart = ⊎_elim (λ lt. lt) (λ ge. absurd (apart (omega arith))) (cases_lt i w.place)

      at_i : w.place ≡ i → ⊥
      at_i here =
          let it = same_Some _ e (sym w.began ∙ ap (slice_get s.history) here ∙ at) in
          true≢false (sym w.sync ∙ ap (is_sync_begin model.kind) it ∙ other)

abbrev entry : ℕ → CallKind → What ℕ → Entry Call ℕ
entry t kind what = record { thread = t; call = begun kind 1; what = what }

-- what the two threads did: behind place 3 there are entries of thread 1 alone
abbrev entries : List (Entry Call ℕ)
entries = record { thread = 0; call = changing [] (2 ∷ 4 ∷ 5 ∷ []) [] (0 ∷ 1 ∷ []); what = ok } ∷ entry 0 FileSync Begins ∷ entry 1 FileSync Begins ∷ entry 0 FileSync ok ∷ entry 1 FileSync ok ∷ entry 1 FileBarrier Begins ∷ []

of_thread_1 : (k : ℕ) (x : Entry Call ℕ) → slice_get (entry 1 FileSync ok ∷ entry 1 FileBarrier Begins ∷ []) k ≡ Some x → 1 ≡ x.thread
of_thread_1 zero x at = ap (λ (y : Entry Call ℕ). y.thread) (same_Some (entry 1 FileSync ok) x at)
of_thread_1 (suc zero) x at = ap (λ (y : Entry Call ℕ). y.thread) (same_Some (entry 1 FileBarrier Begins) x at)
of_thread_1 (suc (suc k)) x at = absurd (none-some x at)

behind_3 : (k : ℕ) (x : Entry Call ℕ) → 3 < k → slice_get entries k ≡ Some x → x.thread ≢ 0
behind_3 zero x lt at = absurd (omega arith)
behind_3 (suc zero) x lt at = absurd (omega arith)
behind_3 (suc (suc zero)) x lt at = absurd (omega arith)
behind_3 (suc (suc (suc zero))) x lt at = absurd (omega arith)
behind_3 (suc (suc (suc (suc k)))) x lt at = λ same. (let one = of_thread_1 k x at in omega (arith, one, same))

behind_5 : (k : ℕ) (x : Entry Call ℕ) → 5 < k → slice_get entries k ≡ Some x → x.thread ≢ 1
behind_5 k x lt at = absurd (none-some x (sym (slice_get-out entries k (omega arith)) ∙ at))

barrier_entries : (needing 1 FileBarrier).history ≡ entries
barrier_entries = refl

ended_entries : (needing 0 FileSync).history ≡ entries
ended_entries = refl

-- the fbarrier has begun as the last entry of thread 1
pub no_barrier_waits : WaitsForFlush model.kind (needing 1 FileBarrier) → ⊥
no_barrier_waits w = by w.thread refl w.waits
  where
    by : (t : ℕ) → w.thread ≡ t → slice_get (needing 1 FileBarrier).journal.flush.waits t ≡ Some w.wait → ⊥
    by zero same at = none-some w.request (ap (λ (x : Wait). x.need) (same_Some no_wait w.wait at) ∙ w.needs)
    by (suc zero) same at =
        thread_is_done (needing 1 FileBarrier) 1 5 (entry 1 FileBarrier Begins) refl refl refl
        (λ k x lt there. behind_5 k x lt (ap (λ (es : List (Entry Call ℕ)). slice_get es k) (sym barrier_entries) ∙ there)) w same
    by (suc (suc t)) same at = none-some w.wait at

-- and the fsync of thread 0 has ended
pub no_ended_call_waits : WaitsForFlush model.kind (needing 0 FileSync) → ⊥
no_ended_call_waits w = by w.thread refl w.waits
  where
    by : (t : ℕ) → w.thread ≡ t → slice_get (needing 0 FileSync).journal.flush.waits t ≡ Some w.wait → ⊥
    by zero same at =
        thread_is_done (needing 0 FileSync) 0 3 (entry 0 FileSync ok) refl refl refl
        (λ k x lt there. behind_3 k x lt (ap (λ (es : List (Entry Call ℕ)). slice_get es k) (sym ended_entries) ∙ there)) w same
    by (suc zero) same at = none-some w.request (ap (λ (x : Wait). x.need) (same_Some (record { kind = FileBarrier; target = Some 2; need = None }) w.wait at) ∙ w.needs)
    by (suc (suc t)) same at = none-some w.wait at

pub one_more_is_refused : (e : Event) → AreWaitedFor model.kind with_one_more (e ∷ []) → ⊥
one_more_is_refused e all = (let w = all 7 refl in by w.before w.sent w.waited)
  where
    by : (before : List Event) → length (with_one_more before).journal.flush.requests ≡ 7 → WaitsForFlush model.kind (with_one_more before) → ⊥
    by [] sent waited = nobody_waits waited
    by (x ∷ xs) sent waited = omega (arith, sent)
