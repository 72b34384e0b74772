-- What an answered call keeps it keeps for good: with one request more, one completion more, and a longer history.
use Rattle.std.proofs.Common.{inl, inr, ⊎_elim, arith}
use Rattle.std.specs.Prelude.{ℕ, ◌<◌, ◌≤◌, ◌++◌, ◌∷◌, [], List}
use Rattle.blk_base.specs.laws.Members.{In-push_left}
use Rattle.order_model.specs.declared.completion.Completion.TheVariants.{Flushed}
use Rattle.order_model.specs.declared.completion.Completion.{Completion}
use Rattle.order_model.specs.declared.note.Note.TheVariants.{Commit}
use Rattle.crash_laws.proofs.Growing.{note_old}
use Rattle.crash_laws.proofs.PromiseSteps.{held_for, held_grows, barrier_pushed, sync_pushed, barrier_grows, covers_old}
use Rattle.crash_laws.specs.laws.Extending.{Extends}
use Rattle.crash_laws.specs.History.{History}
use Rattle.crash_laws.specs.PromiseRules.{Covers, CoversEntry}
use Rattle.crash_laws.specs.Session.{Session, Submitted}
use Rattle.crash_laws.specs.laws.Submitting.{Submitting, after}
use Rattle.host_machine.specs.State.{Begun}
use Rattle.host_machine.specs.runs.Promises.{call_of, KeepsOk}

-- one request more
pub ok_pushed : {A : Type 0} {h : History A} {taken : List Completion} {e : ℕ} {b : Begun} (p : Submitting) → KeepsOk h p.session taken e b → KeepsOk h (after p) taken e b
ok_pushed p old = record {
  barrier = λ d. barrier_pushed p (old.barrier d);
  sync = λ d. ⊎_elim (λ k. inl (sync_pushed p k)) (λ n. inr n) (old.sync d);
  cause = λ d. let x = old.cause d in record { k = x.k; c = x.c; commit = note_old p x.c (Commit x.k) x.commit; begun = x.begun; ended = x.ended; flushed = x.flushed };
}

-- one completion more
pub ok_taken : {A : Type 0} {h : History A} {s : Session} {taken : List Completion} {e : ℕ} {b : Begun} (c : Completion) → KeepsOk h s taken e b → KeepsOk h s (taken ++ c ∷ []) e b
ok_taken {taken = taken} c old = record {
  barrier = old.barrier;
  sync = λ d. ⊎_elim (λ k. inl (record { flush = k.flush; flushed = In-push_left taken c (Flushed k.flush) k.flushed; held = k.held })) (λ n. inr n) (old.sync d);
  cause = λ d. let x = old.cause d in record { k = x.k; c = x.c; commit = x.commit; begun = x.begun; ended = x.ended; flushed = λ u. let f = x.flushed u in (f.0, In-push_left taken c (Flushed f.0) f.1, f.2) };
}

-- a longer history
pub ok_grows : {A : Type 0} {h more : History A} {s : Session} {now : ℕ} {taken : List Completion} {e : ℕ} {b : Begun} (ext : Extends h more s now) → b.begin ≤ now → KeepsOk h s taken e b → KeepsOk more s taken e b
ok_grows {h = h} {more = more} {s = s} {b = b} ext begun old = record {
  barrier = λ d.
      let x = barrier_grows ext (old.barrier d) in
      record {
        barrier = x.barrier;
        fence = x.fence;
        held = held_for more s (λ i. i ≤ x.barrier) (Covers h (call_of b)) (Covers more (call_of b)) (CoversEntry (call_of b)) (λ f i n c. covers_old ext (call_of b) f i n begun c) x.held;
        pages = x.pages;
        commits = x.commits;
      };
  sync = λ d.
      ⊎_elim
      (λ k. inl (record {
        flush = k.flush;
        flushed = k.flushed;
        held = held_for more s (λ i. i < k.flush) (Covers h (call_of b)) (Covers more (call_of b)) (CoversEntry (call_of b)) (λ f i n c. covers_old ext (call_of b) f i n begun c) (held_grows ext k.held);
      }))
      (λ n. inr (record { pages = λ f i m c. n.pages f i m (covers_old ext (call_of b) f i m begun c); metadata = n.metadata }))
      (old.sync d);
  cause = λ d.
      let x = old.cause d in
      let same = ext.cuts x.k (Submitted x.c x.commit) in
      let lo = x.begun in
      let hi = x.ended in
      record { k = x.k; c = x.c; commit = x.commit; begun = omega arith; ended = omega arith; flushed = x.flushed };
}
