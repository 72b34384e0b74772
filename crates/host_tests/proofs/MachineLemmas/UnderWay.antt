-- What a call that has begun waits for.
use Rattle.std.specs.List.{list_any}
use Rattle.std.proofs.Common.{◌≡◌, ◌⊎◌, ◌<◌, ◌+◌, ℕ, zero, suc, Bool, true, false, ◌&&◌, not, List, [], ◌∷◌, ◌++◌, length, Option, Some, None, slice_get, nat_lt, nat_le, refl, ap, ◌∙◌, inl, inr, arith, lt-ltb, le-ltb, le-leb, eq-eqb}
use Rattle.std.proofs.lemmas.Bool.{lt-leb, ne_eqb, ltb-true, or_right}
use Rattle.std.proofs.lemmas.Option.{none-some, same_Some}
use Rattle.std.proofs.Math.Bool.{and-false}
use Rattle.std.specs.Prelude.{◌≢◌}
use Rattle.blk_base.specs.Members.{In}
use Rattle.blk_base.specs.laws.Members.{list_any-In}
use Rattle.order_model.specs.declared.completion.Completion.{Completion}
use Rattle.order_model.specs.declared.completion.Completion.TheVariants.{Moved, Flushed, Failed, Cut}
use Rattle.order_model.specs.declared.note.Note.{Note}
use Rattle.order_model.specs.declared.note.Note.TheVariants as notes
use Rattle.commit_actor.specs.Journal.{Phase, Idle, Closing, Committing, is_submitted}
use Rattle.flush_actor.specs.conflicts.Conflicts.{holder, least}
use Rattle.flush_actor.specs.Kinds.{is_begun}
use Rattle.flush_actor.specs.Part.{is_flushed_after, flush_above, is_flush_note}
use Rattle.flush_actor.specs.declared.call_kind.CallKind.{CallKind}
use Rattle.flush_actor.specs.declared.call_kind.CallKind.TheVariants.{Reading, Changing, FileBarrier, DataBarrier, FileSync, DataSync, WholeSync}
use Rattle.flush_actor.specs.declared.wait.Wait.{Wait}
use Rattle.host_machine.specs.Causes as causes
use Rattle.host_machine.specs.Causes.{Cause}
use Rattle.host_machine.specs.Host.{cause_of, step_call, step_thread, advance, begin, continue_begun, await_commit, await_durable}
use Rattle.host_machine.specs.Model.{Model}
use Rattle.host_machine.specs.Outcomes as outcomes
use Rattle.host_machine.specs.State.{Answered, SessionFull, Begins, Begun, Host, Setup}
use Rattle.host_tests.specs.machine.Asking.{AsksFor, GoesOn, HasRoom, HasNoRoom, IsUnderWay, IsOut, IsNotOut, FlushBehind, NoFlushBehind, ended}
use Rattle.host_tests.proofs.MachineLemmas.Answering.{goes}

-- ---- kinds

begins_kind : (k : CallKind) → k ≢ Reading → k ≢ Changing → is_begun k ≡ true
begins_kind Reading a b = absurd (a refl)
begins_kind Changing a b = absurd (b refl)
begins_kind FileBarrier a b = refl
begins_kind DataBarrier a b = refl
begins_kind FileSync a b = refl
begins_kind DataSync a b = refl
begins_kind WholeSync a b = refl

-- ---- flushes

pub some_flush : (ns : List Note) (id n i : ℕ) → slice_get ns i ≡ Some notes.Flush → id < n + i → flush_above id n ns ≡ true
some_flush [] id n i e lt = absurd (none-some notes.Flush e)
some_flush (x ∷ xs) id n zero e lt = (let same : x ≡ notes.Flush = same_Some x notes.Flush e in let past : nat_lt id n ≡ true = lt-ltb id n (omega arith) in rw (same, past) refl)
some_flush (x ∷ xs) id n (suc i) e lt = or_right (is_flush_note x && nat_lt id n) (flush_above id (n + 1) xs) (some_flush xs id (n + 1) i e (omega arith))

pub no_flush : (ns : List Note) (id n : ℕ) → ((i : ℕ) → id < n + i → slice_get ns i ≡ Some notes.Flush → ⊥) → flush_above id n ns ≡ false
no_flush [] id n h = refl
no_flush (x ∷ xs) id n h = rw (head x (λ lt e. h zero (omega arith) (ap Some e))) (no_flush xs id (n + 1) (λ i lt e. h (suc i) (omega arith) e))
  where
    by : (b : Bool) → nat_lt id n ≡ b → (id < n → ⊥) → (true && nat_lt id n) ≡ false
    by true e g = absurd (g (ltb-true id n e))
    by false e g = e

    head : (y : Note) → (id < n → y ≡ notes.Flush → ⊥) → (is_flush_note y && nat_lt id n) ≡ false
    head notes.Flush g = by (nat_lt id n) refl (λ lt. g lt refl)
    head (notes.Page b i v) g = refl
    head notes.Super g = refl
    head (notes.Revoke k) g = refl
    head (notes.Descriptor k) g = refl
    head (notes.Body k b) g = refl
    head (notes.Commit k) g = refl
    head (notes.Home b) g = refl
    head notes.Raw g = refl

none_flushed : (cs : List Completion) (id : ℕ) → ((f : ℕ) → id < f → In (Flushed f) cs → ⊥) → list_any (is_flushed_after id) cs ≡ false
none_flushed [] id h = refl
none_flushed (Moved i ∷ cs) id h = none_flushed cs id (λ f lt i. h f lt (inr i))
none_flushed (Failed i ∷ cs) id h = none_flushed cs id (λ f lt i. h f lt (inr i))
none_flushed (Cut ∷ cs) id h = none_flushed cs id (λ f lt i. h f lt (inr i))
none_flushed (Flushed n ∷ cs) id h = (let low : nat_lt id n ≡ false = by (nat_lt id n) refl in rw low (none_flushed cs id (λ f lt i. h f lt (inr i))))
  where
    by : (b : Bool) → nat_lt id n ≡ b → nat_lt id n ≡ false
    by true e = absurd (h n (ltb-true id n e) (inl refl))
    by false e = e

some_flushed : (cs : List Completion) (id f : ℕ) → In (Flushed f) cs → id < f → list_any (is_flushed_after id) cs ≡ true
some_flushed cs id f i lt = list_any-In (is_flushed_after id) cs (Flushed f) i (lt-ltb id f lt)

-- ---- whether a commit block is submitted

module _ {V C R : Type 0} (s : Host V C R) where
  pub is_out : (k : ℕ) → IsOut s k → is_submitted s.journal k ≡ true
  is_out k o = by s.journal.phase refl
    where
      by : (p : Phase) → s.journal.phase ≡ p → is_submitted s.journal k ≡ true
      by Idle e = rw (is_submitted, e) (lt-ltb k s.journal.running.number o.closed)
      by Closing e = rw (is_submitted, e) (lt-ltb k s.journal.running.number o.closed)
      by (Committing p) e = rw (is_submitted, e) (lt-ltb (k + 1) s.journal.running.number (o.sent p e))

  pub is_not_out : (k : ℕ) → IsNotOut s k → is_submitted s.journal k ≡ false
  is_not_out k (inr (p, e, most)) = rw (is_submitted, e) (le-ltb (k + 1) s.journal.running.number most)
  is_not_out k (inl most) = by s.journal.phase refl
    where
      by : (p : Phase) → s.journal.phase ≡ p → is_submitted s.journal k ≡ false
      by Idle e = rw (is_submitted, e) (le-ltb k s.journal.running.number most)
      by Closing e = rw (is_submitted, e) (le-ltb k s.journal.running.number most)
      by (Committing p) e = rw (is_submitted, e) (le-ltb (k + 1) s.journal.running.number (omega arith))

module _ {T V C R : Type 0} (m : Model T V C R) (u : Setup) (full : Bool) (s : Host V C R) (t : ℕ) (c : C) (rest : List C) where
  -- ---- it begins

  module _ (e : AsksFor s t c rest) (g : GoesOn s) (allowed : m.reply s.volume c ≡ None) (a : m.kind c ≢ Reading) (b : m.kind c ≢ Changing) where
    begins_so : advance m u full s t ≡ begin m u s t c rest
    begins_so = rw (advance, e) (rw (step_thread, goes m u full s t (m.kind c) g) (rw (step_call, allowed) (rw (step_call, begins_kind (m.kind c) a b) refl)))

    pub begins : (advance m u full s t).step ≡ outcomes.Begun
    begins = rw begins_so refl

    pub entry : (advance m u full s t).host.history ≡ s.history ++ record { thread = t; call = c; what = Begins } ∷ []
    entry = rw begins_so refl

    pub nothing_sent : (advance m u full s t).host.journal.flush.requests ≡ s.journal.flush.requests
    nothing_sent = rw begins_so refl

  -- ---- it goes on

  module _ (b : Begun) where
    pub on_way : (w : Wait) → IsUnderWay s t c rest b w → advance m u full s t ≡ continue_begun m u full s t c rest w b
    on_way w i = rw (advance, i.begun) (rw (step_thread, goes m u full s t (m.kind c) i.goes_on) (rw (step_call, i.waits) refl))

    module _ (kind : CallKind) where
      abbrev toward : ℕ → Wait
      toward k = record { kind = kind; target = Some k; need = None }

      pub done : (k : ℕ) → IsUnderWay s t c rest b (toward k) → (kind ≡ FileBarrier) ⊎ (kind ≡ DataBarrier) → IsOut s k
          → advance m u full s t ≡ record { host = ended s t c rest (Answered m.ok); step = outcomes.Done m.ok }
      done k i (inl e) o = on_way (toward k) i ∙ rw (continue_begun, await_commit, is_out s k o) (rw e refl)
      done k i (inr e) o = on_way (toward k) i ∙ rw (continue_begun, await_commit, is_out s k o) (rw e refl)

      below : HasRoom s → nat_le s.journal.flush.limit (length s.journal.flush.requests) ≡ false
      below room = lt-leb s.journal.flush.limit (length s.journal.flush.requests) room

      past : HasNoRoom s → nat_le s.journal.flush.limit (length s.journal.flush.requests) ≡ true
      past most = le-leb s.journal.flush.limit (length s.journal.flush.requests) most

      pub earlier : (k : ℕ) → IsUnderWay s t c rest b (toward k) → IsNotOut s k → HasRoom s → k ≢ s.journal.running.number
          → advance m u full s t ≡ record { host = s; step = outcomes.Waiting (causes.Commit k) }
      earlier k i o room apart = on_way (toward k) i ∙ rw (continue_begun, await_commit, is_not_out s k o) (rw (below room) (rw (cause_of, ne_eqb k s.journal.running.number apart) refl))

      pub running : IsUnderWay s t c rest b (toward s.journal.running.number) → HasRoom s → s.journal.flush.conflicts.wanted ≡ []
          → advance m u full s t ≡ record { host = s; step = outcomes.Waiting (causes.Commit s.journal.running.number) }
      running i room none =
          let k = s.journal.running.number in
          on_way (toward k) i ∙ rw (continue_begun, await_commit, is_not_out s k (inl (omega arith))) (rw (below room) (rw (cause_of, eq-eqb k k refl) (rw (cause_of, least, none) refl)))

      pub held : (block : ℕ) (more : List ℕ) → IsUnderWay s t c rest b (toward s.journal.running.number) → HasRoom s → s.journal.flush.conflicts.wanted ≡ block ∷ more
          → advance m u full s t ≡ record { host = s; step = outcomes.Waiting (causes.Conflict block (holder s.journal.flush.conflicts.held block)) }
      held block more i room some =
          let k = s.journal.running.number in
          on_way (toward k) i ∙ rw (continue_begun, await_commit, is_not_out s k (inl (omega arith))) (rw (below room) (rw (cause_of, eq-eqb k k refl) (rw (cause_of, least, some) refl)))

      pub limit : (k : ℕ) → IsUnderWay s t c rest b (toward k) → IsNotOut s k → HasNoRoom s → advance m u full s t ≡ record { host = ended s t c rest SessionFull; step = outcomes.SessionFull }
      limit k i o most = on_way (toward k) i ∙ rw (continue_begun, await_commit, is_not_out s k o) (rw (past most) refl)

      module _ (target : Option ℕ) (id : ℕ) (i : IsUnderWay s t c rest b (record { kind = kind; target = target; need = Some id })) where
        pub flushed : (f : ℕ) → In (Flushed f) s.journal.flush.taken → id < f → advance m u full s t ≡ record { host = ended s t c rest (Answered m.ok); step = outcomes.Done m.ok }
        flushed f x lt = on_way _ i ∙ rw (continue_begun, await_durable, some_flushed s.journal.flush.taken id f x lt) refl

        module _ (none : (f : ℕ) → id < f → In (Flushed f) s.journal.flush.taken → ⊥) where
          pub waits : HasRoom s ⊎ FlushBehind s id → (advance m u full s t).step ≡ outcomes.Waiting (causes.Durable id)
          waits (inl room) = rw (on_way _ i) (rw (continue_begun, await_durable, none_flushed s.journal.flush.taken id none) (rw (below room) refl))
          waits (inr (f, lt, e)) =
              let above : (nat_le s.journal.flush.limit (length s.journal.flush.requests) && not (flush_above id 0 s.journal.flush.notes)) ≡ false = rw (some_flush s.journal.flush.notes id zero f e (omega arith)) (and-false (nat_le s.journal.flush.limit (length s.journal.flush.requests))) in
              rw (on_way _ i) (rw (continue_begun, await_durable, none_flushed s.journal.flush.taken id none) (rw above refl))

          pub no_more : HasNoRoom s → NoFlushBehind s id → advance m u full s t ≡ record { host = ended s t c rest SessionFull; step = outcomes.SessionFull }
          no_more most h = on_way _ i ∙ rw (continue_begun, await_durable, none_flushed s.journal.flush.taken id none) (rw (past most) (rw (no_flush s.journal.flush.notes id zero (λ f lt e. h f (omega arith) e)) refl))
