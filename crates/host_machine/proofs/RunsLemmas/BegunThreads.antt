-- What a host knows of its threads: which call of each has begun and where, and what that call needs.
use Rattle.std.proofs.Common.{sym, ap, subst, ◌∙◌, inl, inr, ⊎_elim, arith, length-append}
use Rattle.std.proofs.lemmas.Bool.{cases_eq}
use Rattle.std.proofs.lemmas.List.{length-set, length-map}
use Rattle.std.proofs.lemmas.Option.{none-some, same_Some}
use Rattle.std.specs.Prelude.{◌≡◌, ◌≢◌, ℕ, ◌<◌, ◌≤◌, ◌⊎◌, Bool, true, false, List, [], ◌∷◌, ◌++◌, length, map, set, Some, None, slice_get, refl, if◌then◌else◌}
use Rattle.blk_base.specs.laws.Members.{map_some-slice_get, slice_get-length, slice_get-map_some, slice_get-push, slice_get-push_left, slice_get-push_cases, slice_get-set_same, slice_get-set_other}
use Rattle.flush_actor.specs.Kinds.{is_durable}
use Rattle.flush_actor.specs.Waits.{no_wait, need_commit}
use Rattle.flush_actor.specs.declared.call_kind.CallKind.{CallKind}
use Rattle.flush_actor.specs.declared.wait.Wait.{Wait}
use Rattle.host_machine.specs.State.{Begins, Begun, Entry, Thread}

-- it is in no call that begins, and waits for nothing
pub record IsIdle {C : Type 0} (threads : List (Thread C)) (waits : List Wait) (t : ℕ) : Type 0 where
  pub none : (th : Thread C) → slice_get threads t ≡ Some th → th.begun ≡ None
  pub waits_none : (w : Wait) → slice_get waits t ≡ Some w → w ≡ no_wait

-- Its first call has begun, as the last entry of the thread; and what it needs was submitted, and is needed of a sync call.
pub record IsInCall {C R : Type 0} (kind : C → CallKind) (threads : List (Thread C)) (waits : List Wait) (history : List (Entry C R)) (sent t : ℕ) : Type 0 where
  pub call : C
  pub rest : List C
  pub begun : Begun
  pub there : slice_get threads t ≡ Some (record { calls = call ∷ rest; begun = Some begun })
  pub kind_is : begun.kind ≡ kind call
  pub place : ℕ
  pub began : slice_get history place ≡ Some (record { thread = t; call = call; what = Begins })
  pub last : (i : ℕ) (e : Entry C R) → place < i → slice_get history i ≡ Some e → e.thread ≢ t
  pub wait : Wait
  pub waits_so : slice_get waits t ≡ Some wait
  pub wait_is : wait.kind ≡ kind call
  pub needs : (id : ℕ) → wait.need ≡ Some id → (id < sent) × (is_durable wait.kind ≡ true)

pub record KnowsThreads {C R : Type 0} (kind : C → CallKind) (threads : List (Thread C)) (waits : List Wait) (history : List (Entry C R)) (sent : ℕ) : Type 0 where
  pub counted : length threads ≡ length waits
  pub each : (t : ℕ) → IsIdle threads waits t ⊎ IsInCall kind threads waits history sent t

-- ---- one thread changes

-- only the element at t is another one
pub record ChangesAt {X : Type 0} (t : ℕ) (old new : List X) : Type 0 where
  pub long : length new ≡ length old
  pub others : (u : ℕ) → u ≢ t → slice_get new u ≡ slice_get old u

-- the history grows by entries of thread t
pub record GrowsFor {C R : Type 0} (t : ℕ) (old new : List (Entry C R)) : Type 0 where
  pub stays : (i : ℕ) (e : Entry C R) → slice_get old i ≡ Some e → slice_get new i ≡ Some e
  pub comes : (i : ℕ) (e : Entry C R) → slice_get new i ≡ Some e → (slice_get old i ≡ Some e) ⊎ (e.thread ≡ t)

pub same_at : {X : Type 0} (t : ℕ) (xs : List X) → ChangesAt t xs xs
same_at t xs = record { long = refl; others = λ u ne. refl }

pub set_at : {X : Type 0} (t : ℕ) (xs : List X) (x : X) → ChangesAt t xs (set xs t x)
set_at t xs x = record { long = length-set xs t x; others = λ u ne. slice_get-set_other xs t u x ne }

pub same_history : {C R : Type 0} (t : ℕ) (es : List (Entry C R)) → GrowsFor t es es
same_history t es = record { stays = λ i e x. x; comes = λ i e x. inl x }

pub entry_comes : {C R : Type 0} (t : ℕ) (es : List (Entry C R)) (new : Entry C R) → new.thread ≡ t → GrowsFor t es (es ++ new ∷ [])
entry_comes {C = C} {R = R} t es new of_t = record {
  stays = λ i e x. slice_get-push_left es new i (slice_get-length es i e x) ∙ x;
  comes = λ i e x. ⊎_elim (λ old. inl old) (λ here. inr (ap (λ (y : Entry C R). y.thread) (sym here.1) ∙ of_t)) (slice_get-push_cases es new i e x);
}

-- a thread that nothing was done to is in its call as before
in_call_still : {C R : Type 0} {kind : C → CallKind} {threads threads' : List (Thread C)} {waits waits' : List Wait} {history history' : List (Entry C R)} {sent sent' u : ℕ}
    → slice_get threads' u ≡ slice_get threads u → slice_get waits' u ≡ slice_get waits u
    → ((i : ℕ) (e : Entry C R) → slice_get history i ≡ Some e → slice_get history' i ≡ Some e) → ((i : ℕ) (e : Entry C R) → slice_get history' i ≡ Some e → (slice_get history i ≡ Some e) ⊎ (e.thread ≢ u))
    → sent ≤ sent' → IsInCall kind threads waits history sent u → IsInCall kind threads' waits' history' sent' u
in_call_still same_thread same_wait stays comes more x = record {
  call = x.call;
  rest = x.rest;
  begun = x.begun;
  there = same_thread ∙ x.there;
  kind_is = x.kind_is;
  place = x.place;
  began = stays x.place _ x.began;
  last = λ i e behind at. ⊎_elim (λ was. x.last i e behind was) (λ other. other) (comes i e at);
  wait = x.wait;
  waits_so = same_wait ∙ x.waits_so;
  wait_is = x.wait_is;
  needs = λ id e. let n = x.needs id e in let low = n.0 in (omega (arith, low, more), n.1);
}

module _ {C R : Type 0} {kind : C → CallKind} {threads : List (Thread C)} {waits : List Wait} {history : List (Entry C R)} {sent : ℕ} (old : KnowsThreads kind threads waits history sent) where
  pub thread_changes : (t : ℕ) (threads' : List (Thread C)) (waits' : List Wait) (history' : List (Entry C R)) (sent' : ℕ)
      → ChangesAt t threads threads' → ChangesAt t waits waits' → GrowsFor t history history' → sent ≤ sent'
      → IsIdle threads' waits' t ⊎ IsInCall kind threads' waits' history' sent' t → KnowsThreads kind threads' waits' history' sent'
  thread_changes t threads' waits' history' sent' at_threads at_waits grows more now = record {
    counted = at_threads.long ∙ old.counted ∙ sym at_waits.long;
    each = λ u. elim (cases_eq u t) [
      | inl same ↦ subst (λ v. IsIdle threads' waits' v ⊎ IsInCall kind threads' waits' history' sent' v) (sym same) now
      | inr other ↦ ⊎_elim (λ x. inl (still_idle u other x)) (λ x. inr (still_in_call u other x)) (old.each u)
    ];
  }
    where
      still_idle : (u : ℕ) → u ≢ t → IsIdle threads waits u → IsIdle threads' waits' u
      still_idle u other x = record {
        none = λ th e. x.none th (sym (at_threads.others u other) ∙ e);
        waits_none = λ w e. x.waits_none w (sym (at_waits.others u other) ∙ e);
      }

      still_in_call : (u : ℕ) → u ≢ t → IsInCall kind threads waits history sent u → IsInCall kind threads' waits' history' sent' u
      still_in_call u other x =
          in_call_still (at_threads.others u other) (at_waits.others u other) grows.stays
          (λ i e at. ⊎_elim (λ was. inl was) (λ of_t. inr (λ same. other (sym same ∙ of_t))) (grows.comes i e at)) more x

  -- more requests are submitted
  pub more_sent : (sent' : ℕ) → sent ≤ sent' → KnowsThreads kind threads waits history sent'
  more_sent sent' more = record { counted = old.counted; each = λ u. ⊎_elim (λ x. inl x) (λ x. inr (in_call_still refl refl (λ i e at. at) (λ i e at. inl at) more x)) (old.each u) }

  -- ---- the commit block of transaction k is request id

  pub commit_needs : (k id : ℕ)
      → ((w : Wait) → ((i : ℕ) → w.need ≡ Some i → (i < sent) × (is_durable w.kind ≡ true)) → (i : ℕ) → (need_commit k id w).need ≡ Some i → (i < sent) × (is_durable (need_commit k id w).kind ≡ true))
      → KnowsThreads kind threads (map (need_commit k id) waits) history sent
  commit_needs k id needs = record { counted = old.counted ∙ sym (length-map waits (need_commit k id)); each = λ u. ⊎_elim (λ x. inl (idle u x)) (λ x. inr (in_call u x)) (old.each u) }
    where
      same_kind : (w : Wait) → (need_commit k id w).kind ≡ w.kind
      same_kind w = by _
        where
          by : (y : Bool) → (if y then record w { need = Some id } else w).kind ≡ w.kind
          by true = refl
          by false = refl

      idle : (u : ℕ) → IsIdle threads waits u → IsIdle threads (map (need_commit k id) waits) u
      idle u x = record {
        none = x.none;
        waits_none = λ w e. let m = map_some-slice_get (need_commit k id) waits u w e in sym m.2 ∙ ap (need_commit k id) (x.waits_none m.0 m.1);
      }

      in_call : (u : ℕ) → IsInCall kind threads waits history sent u → IsInCall kind threads (map (need_commit k id) waits) history sent u
      in_call u x = record {
        call = x.call;
        rest = x.rest;
        begun = x.begun;
        there = x.there;
        kind_is = x.kind_is;
        place = x.place;
        began = x.began;
        last = x.last;
        wait = need_commit k id x.wait;
        waits_so = slice_get-map_some (need_commit k id) waits u x.wait x.waits_so;
        wait_is = same_kind x.wait ∙ x.wait_is;
        needs = needs x.wait x.needs;
      }

-- ---- the thread itself

module _ {C R : Type 0} {kind : C → CallKind} {threads : List (Thread C)} {waits : List Wait} {history : List (Entry C R)} {sent : ℕ} (old : KnowsThreads kind threads waits history sent) (t : ℕ) (th : Thread C) (at : slice_get threads t ≡ Some th) where
  in_threads : t < length threads
  in_threads = slice_get-length threads t th at

  in_waits : t < length waits
  in_waits = let same = old.counted in let low = in_threads in omega (arith, same, low)

  -- its call ends
  pub call_ends : (calls : List C) (e : Entry C R) → e.thread ≡ t → KnowsThreads kind (set threads t (record { calls = calls; begun = None })) (set waits t no_wait) (history ++ e ∷ []) sent
  call_ends calls e of_t =
      thread_changes old t _ _ _ sent (set_at t threads _) (set_at t waits no_wait) (entry_comes t history e of_t) (omega arith)
      (inl (record {
        none = λ x k. ap (λ (y : Thread C). y.begun) (sym (same_Some _ x (sym (slice_get-set_same threads t (record { calls = calls; begun = None }) in_threads) ∙ k)));
        waits_none = λ w k. sym (same_Some no_wait w (sym (slice_get-set_same waits t no_wait in_waits) ∙ k));
      }))

  -- its call begins
  pub call_begins : (c : C) (rest : List C) (b : Begun) → b.kind ≡ kind c
      → KnowsThreads kind (set threads t (record { calls = c ∷ rest; begun = Some b })) (set waits t (record { kind = kind c; target = None; need = None })) (history ++ record { thread = t; call = c; what = Begins } ∷ []) sent
  call_begins c rest b same =
      thread_changes old t _ _ _ sent (set_at t threads _) (set_at t waits _) (entry_comes t history _ refl) (omega arith)
      (inr (record {
        call = c;
        rest = rest;
        begun = b;
        there = slice_get-set_same threads t _ in_threads;
        kind_is = same;
        place = length history;
        began = slice_get-push history (record { thread = t; call = c; what = Begins });
        last = λ i e behind x. let low = slice_get-length (history ++ record { thread = t; call = c; what = Begins } ∷ []) i e x in let long = length-append history (record { thread = t; call = c; what = Begins } ∷ []) in absurd (omega (arith, behind, low, long));
        wait = record { kind = kind c; target = None; need = None };
        waits_so = slice_get-set_same waits t _ in_waits;
        wait_is = refl;
        needs = λ id e. absurd (none-some id e);
      }))

  -- ---- it is in a call

  module _ (x : IsInCall kind threads waits history sent t) where
    -- it waits for something else
    pub wait_changes : (v : Wait) → v.kind ≡ x.wait.kind → ((id : ℕ) → v.need ≡ Some id → (id < sent) × (is_durable v.kind ≡ true)) → KnowsThreads kind threads (set waits t v) history sent
    wait_changes v same needs =
        thread_changes old t threads (set waits t v) history sent (same_at t threads) (set_at t waits v) (same_history t history) (omega arith)
        (inr (record {
          call = x.call;
          rest = x.rest;
          begun = x.begun;
          there = x.there;
          kind_is = x.kind_is;
          place = x.place;
          began = x.began;
          last = x.last;
          wait = v;
          waits_so = slice_get-set_same waits t v in_waits;
          wait_is = same ∙ x.wait_is;
          needs = needs;
        }))

    -- it sent a page
    pub page_goes : (b : Begun) → b.kind ≡ x.begun.kind → (sent' : ℕ) → sent ≤ sent' → KnowsThreads kind (set threads t (record { calls = x.call ∷ x.rest; begun = Some b })) waits history sent'
    page_goes b same sent' more =
        thread_changes old t (set threads t (record { calls = x.call ∷ x.rest; begun = Some b })) waits history sent' (set_at t threads _) (same_at t waits) (same_history t history) more
        (inr (record {
          call = x.call;
          rest = x.rest;
          begun = b;
          there = slice_get-set_same threads t _ in_threads;
          kind_is = same ∙ x.kind_is;
          place = x.place;
          began = x.began;
          last = x.last;
          wait = x.wait;
          waits_so = x.waits_so;
          wait_is = x.wait_is;
          needs = λ id e. let n = x.needs id e in let low = n.0 in (omega (arith, low, more), n.1);
        }))

-- ---- a session that is opened

pub opened_threads : {C R : Type 0} (kind : C → CallKind) (programs : List (List C))
    → KnowsThreads {R = R} kind (map (λ (p : List C). record { calls = p; begun = None }) programs) (map (λ (p : List C). no_wait) programs) [] 0
opened_threads {C = C} kind programs = record {
  counted = length-map programs (λ (p : List C). record { calls = p; begun = None }) ∙ sym (length-map programs (λ (p : List C). no_wait));
  each = λ t. inl (record {
    none = λ th e. let m = map_some-slice_get (λ (p : List C). record { calls = p; begun = None }) programs t th e in ap (λ (x : Thread C). x.begun) (sym m.2);
    waits_none = λ w e. sym (map_some-slice_get (λ (p : List C). no_wait) programs t w e).2;
  });
}
