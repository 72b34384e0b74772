-- All begun calls at once, over the host's threads and waits: what each step of the host does to them.
use Rattle.std.proofs.Common.{sym, ap, subst, ◌∙◌, inl, inr, ⊎_elim, arith, eqb-true, false-eqb}
use Rattle.std.proofs.lemmas.Bool.{cases_Bool}
use Rattle.std.proofs.lemmas.Option.{none-some, same_Some}
use Rattle.std.specs.Prelude.{◌≡◌, ◌≢◌, ℕ, zero, suc, ◌+◌, ◌-◌, ◌<◌, ◌==◌, ◌&&◌, ◌⊎◌, Bool, true, false, List, [], ◌∷◌, length, map, set, Option, Some, None, slice_get, IsTrue, if◌then◌else◌, refl}
use Rattle.blk_base.specs.Members.{In}
use Rattle.blk_base.specs.laws.Members.{slice_get-length, slice_get-set_same, slice_get-set_other}
use Rattle.order_model.specs.declared.note.Note.TheVariants.{Page}
use Rattle.log_model.specs.Marks.{Transaction}
use Rattle.volume_ops.specs.Reads.{Reads}
use Rattle.page_cache.specs.Pages.{page_at, put_page, marked, is_unsent}
use Rattle.page_cache.specs.declared.cached_page.CachedPage.{CachedPage}
use Rattle.page_cache.specs.declared.cached_page.PageState.{PageState}
use Rattle.crash_laws.specs.laws.CallFacts.{IsDone}
use Rattle.crash_laws.specs.History.{History, IsUnmapped, HasTrees}
use Rattle.crash_laws.specs.PromiseRules.{AreHeld}
use Rattle.crash_laws.specs.Session.{Session, IsCommit}
use Rattle.crash_laws.specs.laws.Submitting.{Submitting, after}
use Rattle.host_machine.proofs.ChangeSteps.{IsEntry, last_write_stays}
use Rattle.host_machine.proofs.PageMaps.{dropped-left, written-cases}
use Rattle.host_machine.specs.Host.{dropped_pages, written_pages}
use Rattle.host_machine.specs.Model.{Model, FileBlock}
use Rattle.host_machine.specs.State.{Begun, Thread, Setup}
use Rattle.flush_actor.specs.Waits.{no_wait, need_commit}
use Rattle.flush_actor.specs.declared.call_kind.CallKind.TheVariants.{FileSync, WholeSync}
use Rattle.flush_actor.specs.declared.wait.Wait.{Wait}
use Rattle.host_machine.specs.laws.Facts.{View, IsPlain, Numbers, PagesMapped}
use Rattle.host_machine.proofs.RunsLemmas.CallMoves.{call_sent}
use Rattle.host_machine.proofs.RunsLemmas.CallSteps.{KeepsUnsent, call_pushed, call_grows}
use Rattle.host_machine.proofs.RunsLemmas.CallTargets.{call_closes, call_needs}
use Rattle.host_machine.specs.runs.laws.CallFacts.{wait_of, AllCalls, CallFacts}

-- ---- what a changing call makes of pages that are to do

-- An unsent page stays unsent, or the call unmapped it.
module _ {T V C R : Type 0} (M : Model T V C R) (u : Setup) {A : Type 0} {program : Reads A} {h more : History A} {s : Session} {now r N : ℕ} (entry : IsEntry h more now r) (numbers : Numbers h s now r N) {old new : View}
    (before : IsPlain program h s now old) (behind : IsPlain program more s (now + 1) new) (pages : List CachedPage) (v : V) (ds ws : List FileBlock) where
  abbrev pages_now : List CachedPage
  pages_now = written_pages M u v (now + 1) (dropped_pages M u pages ds) ws

  pub change_keeps_unsent : PagesMapped h now old pages → PagesMapped more (now + 1) new pages_now → KeepsUnsent entry numbers pages pages_now
  change_keeps_unsent mapped mapped_now = record { stays = λ f i p there unsent. by f i p there unsent (new.zone f i) refl }
    where
      of_written : (f i : ℕ) (p q : CachedPage) → page_at pages f i ≡ Some p → is_unsent p.state ≡ true → page_at pages_now f i ≡ Some q → is_unsent q.state ≡ true
      of_written f i p q there unsent found =
          ⊎_elim
          (λ w. ap (λ (x : CachedPage). is_unsent x.state) (sym w.4))
          (λ r.
          let o = (dropped-left M u pages ds f i q r.0).0 in
          ap (λ (x : CachedPage). is_unsent x.state) (same_Some q p (sym o ∙ there)) ∙ unsent)
          (written-cases M u v (now + 1) (dropped_pages M u pages ds) ws f i q found)

      by : (f i : ℕ) (p : CachedPage) → page_at pages f i ≡ Some p → is_unsent p.state ≡ true → (z : Option ℕ) → new.zone f i ≡ z
          → ((q : CachedPage) × (page_at pages_now f i ≡ Some q) × (is_unsent q.state ≡ true)) ⊎ IsUnmapped more f i (now + 1)
      by f i p there unsent (Some z) at = let was = mapped.cached f i p there in let version = was.version in let pos = was.written in let q = mapped_now.all f i z at (last_write_stays entry numbers f i (omega arith)) in inl (q.0, q.1, of_written f i p q.0 there unsent q.1)
      by f i p there unsent None at =
          let was = before.mapped f i p.block (mapped.cached f i p there).zone in
          let e : now + 1 - 1 ≡ now = omega arith in
          inr (record {
            before = ap (λ n. more.maps n f i) e ∙ entry.maps now f i (omega arith) ∙ was;
            after =
                ⊎_elim
                (λ still. let z = behind.there f i still in absurd (none-some z.0 (sym at ∙ z.1)))
                (λ gone. gone)
                (cases_Bool (more.maps (now + 1) f i));
          })

-- ---- waits by their thread

wait_set_same : (waits : List Wait) (t : ℕ) (w : Wait) → t < length waits → wait_of (set waits t w) t ≡ w
wait_set_same [] t w lt = absurd (omega arith)
wait_set_same (x ∷ xs) zero w lt = refl
wait_set_same (x ∷ xs) (suc t) w lt = wait_set_same xs t w (omega arith)

wait_set_other : (waits : List Wait) (t o : ℕ) (w : Wait) → o ≢ t → wait_of (set waits t w) o ≡ wait_of waits o
wait_set_other [] t o w ne = refl
wait_set_other (x ∷ xs) zero zero w ne = absurd (ne refl)
wait_set_other (x ∷ xs) zero (suc o) w ne = refl
wait_set_other (x ∷ xs) (suc t) zero w ne = refl
wait_set_other (x ∷ xs) (suc t) (suc o) w ne = wait_set_other xs t o w (λ e. ne (ap suc e))

wait_map : (g : Wait → Wait) (waits : List Wait) (t : ℕ) → t < length waits → wait_of (map g waits) t ≡ g (wait_of waits t)
wait_map g [] t lt = absurd (omega arith)
wait_map g (x ∷ xs) zero lt = refl
wait_map g (x ∷ xs) (suc t) lt = wait_map g xs t (omega arith)

length_set : {X : Type 0} (xs : List X) (t : ℕ) (x : X) → length (set xs t x) ≡ length xs
length_set [] t x = refl
length_set (y ∷ ys) zero x = refl
length_set (y ∷ ys) (suc t) x = ap suc (length_set ys t x)

length_map : {X Y : Type 0} (g : X → Y) (xs : List X) → length (map g xs) ≡ length xs
length_map g [] = refl
length_map g (x ∷ xs) = ap suc (length_map g xs)

-- ---- all calls

module _ {A C : Type 0} {threads : List (Thread C)} {waits : List Wait} where
  -- a step that changes no call and no wait
  pub all_kept : {h more : History A} {s other : Session} {pages ps : List CachedPage} {now later r next : ℕ}
      → ((b : Begun) (w : Wait) → CallFacts h s pages now r b w → CallFacts more other ps later next b w) → AllCalls h s pages now r threads waits → AllCalls more other ps later next threads waits
  all_kept step old = record { counted = old.counted; each = λ t th b e k. step b (wait_of waits t) (old.each t th b e k); idle = old.idle }

  -- any request
  pub all_pushed : {h : History A} {pages : List CachedPage} {now r : ℕ} (p : Submitting) → AllCalls h p.session pages now r threads waits → AllCalls h (after p) pages now r threads waits
  all_pushed p old = all_kept (λ b w f. call_pushed p f) old

  -- a page, by the write-back, in Closing, or by another call
  pub all_sent : {h : History A} {pages : List CachedPage} {now r : ℕ} {v : View} (p : Submitting) → PagesMapped h now v pages → (q : CachedPage) → page_at pages q.birth q.index ≡ Some q → p.note ≡ Page q.birth q.index q.version
      → (st : PageState) → (is_unsent st ≡ false → IsTrue p.request.ordered) → AllCalls h p.session pages now r threads waits → AllCalls h (after p) (put_page pages (marked q st)) now r threads waits
  all_sent {pages = pages} {r = r} p mapped q here note st ordered old = all_kept (λ b w f. call_sent p pages mapped q here note r b w st ordered f) old

  -- an entry
  pub all_grow : {h more : History A} {s : Session} {pages other : List CachedPage} {now r N : ℕ} (entry : IsEntry h more now r) (numbers : Numbers h s now r N) → KeepsUnsent entry numbers pages other
      → AllCalls h s pages now r threads waits → AllCalls more s other (now + 1) r threads waits
  all_grow entry numbers keeps old = all_kept (λ b w f. call_grows entry numbers keeps f) old

  -- the plan is built
  pub all_close : {h : History A} {s : Session} {pages : List CachedPage} {now r N : ℕ} → HasTrees h → Numbers h s now r N → AllCalls h s pages now r threads waits → AllCalls h s pages now (r + 1) threads waits
  all_close trees numbers old = all_kept (λ b w f. call_closes trees numbers f) old

  -- thread t goes on: its call has new facts, or it has ended
  pub all_set : {h : History A} {s : Session} {pages : List CachedPage} {now r : ℕ} (t : ℕ) (th : Thread C) (w : Wait) → t < length threads → ((b : Begun) → th.begun ≡ Some b → CallFacts h s pages now r b w) → (th.begun ≡ None → w ≡ no_wait)
      → AllCalls h s pages now r threads waits → AllCalls h s pages now r (set threads t th) (set waits t w)
  all_set {h = h} {s = s} {pages = pages} {now = now} {r = r} t th w lt new none old = record {
    counted = length_set threads t th ∙ old.counted ∙ sym (length_set waits t w);
    each = λ o x b e k. ⊎_elim (λ same. own o x b e k same) (λ apart. other o x b e k apart) (same_or_not o);
    idle = λ o x e k.
        ⊎_elim
        (λ same.
        let this = same_Some th x (sym (slice_get-set_same threads t th lt) ∙ ap (slice_get (set threads t th)) (sym same) ∙ e) in
        ap (wait_of (set waits t w)) same ∙ wait_set_same waits t w within ∙ none (ap (λ (y : Thread C). y.begun) this ∙ k))
        (λ apart. wait_set_other waits t o w apart ∙ old.idle o x (sym (slice_get-set_other threads t o th apart) ∙ e) k)
        (same_or_not o);
  }
    where
      same_or_not : (o : ℕ) → (o ≡ t) ⊎ (o ≢ t)
      same_or_not o = ⊎_elim (λ e. inl (eqb-true o t e)) (λ e. inr (false-eqb o t (sym e))) (cases_Bool (o == t))

      within : t < length waits
      within = let c = old.counted in omega arith

      own : (o : ℕ) (x : Thread C) (b : Begun) → slice_get (set threads t th) o ≡ Some x → x.begun ≡ Some b → o ≡ t → CallFacts h s pages now r b (wait_of (set waits t w) o)
      own o x b e k same =
          let this = same_Some th x (sym (slice_get-set_same threads t th lt) ∙ ap (slice_get (set threads t th)) (sym same) ∙ e) in
          subst (CallFacts h s pages now r b) (sym (ap (wait_of (set waits t w)) same ∙ wait_set_same waits t w within)) (new b (ap (λ (y : Thread C). y.begun) this ∙ k))

      other : (o : ℕ) (x : Thread C) (b : Begun) → slice_get (set threads t th) o ≡ Some x → x.begun ≡ Some b → o ≢ t → CallFacts h s pages now r b (wait_of (set waits t w) o)
      other o x b e k apart =
          subst (CallFacts h s pages now r b) (sym (wait_set_other waits t o w apart)) (old.each o x b (sym (slice_get-set_other threads t o th apart) ∙ e) k)

  -- The commit block of transaction k is request id: calls that cover metadata and have it as their target need it.
  pub all_need : {h : History A} {s : Session} {pages : List CachedPage} {now r N : ℕ} (k id : ℕ) → HasTrees h → Numbers h s now r N → IsCommit s k id → AllCalls h s pages now r threads waits → AllCalls h s pages now r threads (map (need_commit k id) waits)
  all_need {h = h} {s = s} {pages = pages} {now = now} {r = r} k id trees numbers commit old = record {
    counted = old.counted ∙ sym (length_map (need_commit k id) waits);
    each = λ t th b e x.
        let lt = slice_get-length threads t th e in
        let c = old.counted in
        subst (CallFacts h s pages now r b) (sym (wait_map (need_commit k id) waits t (omega arith))) (one b (wait_of waits t) (old.each t th b e x));
    idle = λ t th e x.
        let lt = slice_get-length threads t th e in
        let c = old.counted in
        wait_map (need_commit k id) waits t (omega arith) ∙ ap (need_commit k id) (old.idle t th e x);
  }
    where
      needs : (b : Begun) (w : Wait) → CallFacts h s pages now r b w → (x : Bool) → (g : Option ℕ) → w.target ≡ g
          → CallFacts h s pages now r b (if x && elim g as (λ _. Bool) [ Some t ↦ t == k | None ↦ false ] then record w { need = Some id } else w)
      needs b w facts true (Some T) e = by (T == k) refl
        where
          by : (y : Bool) → (T == k) ≡ y → CallFacts h s pages now r b (if y then record w { need = Some id } else w)
          by true q = call_needs trees numbers facts T id id e (subst (λ j. IsCommit s j id) (sym (eqb-true T k q)) commit) (omega arith)
          by false q = facts
      needs b w facts true None e = facts
      needs b w facts false g e = facts

      one : (b : Begun) (w : Wait) → CallFacts h s pages now r b w → CallFacts h s pages now r b (need_commit k id w)
      one b w facts = needs b w facts (elim w.kind as (λ _. Bool) [ FileSync ↦ true | WholeSync ↦ true | other ↦ false ]) w.target refl

  -- thread t goes on in the same place of its program, with another wait
  pub all_wait : {h : History A} {s : Session} {pages : List CachedPage} {now r : ℕ} (t : ℕ) (w : Wait) → t < length threads → ((th : Thread C) (b : Begun) → slice_get threads t ≡ Some th → th.begun ≡ Some b → CallFacts h s pages now r b w)
      → ((th : Thread C) → slice_get threads t ≡ Some th → th.begun ≡ None → w ≡ no_wait) → AllCalls h s pages now r threads waits → AllCalls h s pages now r threads (set waits t w)
  all_wait {h = h} {s = s} {pages = pages} {now = now} {r = r} t w lt new none old = record {
    counted = old.counted ∙ sym (length_set waits t w);
    each = λ o x b e k. ⊎_elim (λ same. own o x b e k same) (λ apart. subst (CallFacts h s pages now r b) (sym (wait_set_other waits t o w apart)) (old.each o x b e k)) (same_or_not o);
    idle = λ o x e k.
        let c = old.counted in
        ⊎_elim
        (λ same. ap (wait_of (set waits t w)) same ∙ wait_set_same waits t w (omega arith) ∙ none x (ap (slice_get threads) (sym same) ∙ e) k)
        (λ apart. wait_set_other waits t o w apart ∙ old.idle o x e k)
        (same_or_not o);
  }
    where
      same_or_not : (o : ℕ) → (o ≡ t) ⊎ (o ≢ t)
      same_or_not o = ⊎_elim (λ e. inl (eqb-true o t e)) (λ e. inr (false-eqb o t (sym e))) (cases_Bool (o == t))

      own : (o : ℕ) (x : Thread C) (b : Begun) → slice_get threads o ≡ Some x → x.begun ≡ Some b → o ≡ t → CallFacts h s pages now r b (wait_of (set waits t w) o)
      own o x b e k same =
          let c = old.counted in
          subst (CallFacts h s pages now r b) (sym (ap (wait_of (set waits t w)) same ∙ wait_set_same waits t w (omega arith))) (new x b (ap (slice_get threads) (sym same) ∙ e) k)

  -- thread t goes on, with the same wait
  pub all_thread : {h : History A} {s : Session} {pages : List CachedPage} {now r : ℕ} (t : ℕ) (th : Thread C) → t < length threads → ((b : Begun) → th.begun ≡ Some b → CallFacts h s pages now r b (wait_of waits t)) → (th.begun ≡ None → ⊥)
      → AllCalls h s pages now r threads waits → AllCalls h s pages now r (set threads t th) waits
  all_thread {h = h} {s = s} {pages = pages} {now = now} {r = r} t th lt new none old = record {
    counted = length_set threads t th ∙ old.counted;
    each = λ o x b e k. ⊎_elim (λ same. own o x b e k same) (λ apart. old.each o x b (sym (slice_get-set_other threads t o th apart) ∙ e) k) (same_or_not o);
    idle = λ o x e k.
        ⊎_elim
        (λ same. absurd (none (ap (λ (y : Thread C). y.begun) (same_Some th x (sym (slice_get-set_same threads t th lt) ∙ ap (slice_get (set threads t th)) (sym same) ∙ e)) ∙ k)))
        (λ apart. old.idle o x (sym (slice_get-set_other threads t o th apart) ∙ e) k)
        (same_or_not o);
  }
    where
      same_or_not : (o : ℕ) → (o ≡ t) ⊎ (o ≢ t)
      same_or_not o = ⊎_elim (λ e. inl (eqb-true o t e)) (λ e. inr (false-eqb o t (sym e))) (cases_Bool (o == t))

      own : (o : ℕ) (x : Thread C) (b : Begun) → slice_get (set threads t th) o ≡ Some x → x.begun ≡ Some b → o ≡ t → CallFacts h s pages now r b (wait_of waits o)
      own o x b e k same =
          let this = same_Some th x (sym (slice_get-set_same threads t th lt) ∙ ap (slice_get (set threads t th)) (sym same) ∙ e) in
          subst (CallFacts h s pages now r b) (ap (wait_of waits) (sym same)) (new b (ap (λ (y : Thread C). y.begun) this ∙ k))

-- ---- transactions told anew: calls speak of requests and notes alone

module _ {A : Type 0} {h : History A} {s : Session} (transactions : ℕ → Transaction) where
  done_told : {Good : ℕ → Type 0} {now f i n : ℕ} → IsDone h s Good now f i n → IsDone h (record s { transactions = transactions }) Good now f i n
  done_told d = ⊎_elim (λ x. inl (record { place = x.place; version = x.version; note = x.note; ordered = x.ordered; good = x.good; later = x.later })) (λ g. inr g) d

  pub held_told : {Good : ℕ → Type 0} {Pair : ℕ → ℕ → ℕ → Type 0} {Metadata : ℕ → Type 0} → AreHeld h s Good Pair Metadata → AreHeld h (record s { transactions = transactions }) Good Pair Metadata
  held_told x = record {
    K = x.K;
    commit = x.commit;
    pairs = λ f i n c.
        ⊎_elim (λ g. inl g)
        (λ y. inr (record { place = y.place; version = y.version; note = y.note; ordered = y.ordered; good = y.good; later = y.later; mapped = y.mapped; calm = y.calm }))
        (x.pairs f i n c);
    metadata = x.metadata;
  }

  pub call_told : {pages : List CachedPage} {now r : ℕ} {b : Begun} {w : Wait} → CallFacts h s pages now r b w → CallFacts h (record s { transactions = transactions }) pages now r b w
  call_told old = record {
    begun = old.begun;
    kind = old.kind;
    pairs = λ t u f i n c. ⊎_elim (λ d. inl (done_told d)) (λ d. inr d) (old.pairs t u f i n c);
    barrier = λ e. let x = old.barrier e in record { barrier = x.barrier; fence = x.fence; pairs = λ f i n c. done_told (x.pairs f i n c) };
    target = λ T e.
        let g = old.target T e in
        record {
          positive = g.positive;
          within = g.within;
          pairs = λ f i n c.
              ⊎_elim (λ x. inl x)
              (λ x. inr (record { place = x.place; version = x.version; note = x.note; ordered = x.ordered; later = x.later; before = x.before; mapped = x.mapped; calm = x.calm }))
              (g.pairs f i n c);
          metadata = g.metadata;
        };
    need = λ id e. held_told (old.need id e);
    cause = λ id e u. let x = old.cause id e u in record { T = x.T; c = x.c; target = x.target; commit = x.commit; before = x.before };
  }

pub wait_In : (waits : List Wait) (t : ℕ) → t < length waits → In (wait_of waits t) waits
wait_In [] t lt = absurd (omega arith)
wait_In (x ∷ xs) zero lt = inl refl
wait_In (x ∷ xs) (suc t) lt = inr (wait_In xs t (omega arith))

pub In_wait : (waits : List Wait) (w : Wait) → In w waits → (t : ℕ) × (t < length waits) × (wait_of waits t ≡ w)
In_wait [] w i = absurd i
In_wait (x ∷ xs) w (inl e) = (zero, omega arith, e)
In_wait (x ∷ xs) w (inr i) = let r = In_wait xs w i in let lt = r.1 in (suc r.0, omega arith, r.2)

pub wait_at : (waits : List Wait) (t : ℕ) (w : Wait) → slice_get waits t ≡ Some w → wait_of waits t ≡ w
wait_at [] t w e = absurd (none-some w e)
wait_at (x ∷ xs) zero w e = same_Some x w e
wait_at (x ∷ xs) (suc t) w e = wait_at xs t w e
