-- What was kept when a barrier or sync call answered stays kept: with one request more, and with a longer
-- history.
use Rattle.std.specs.Prelude.{ℕ, ◌<◌, ◌≤◌, List}
use Rattle.std.proofs.Common.{sym, ap, ◌∙◌, inl, inr, ⊎_elim, arith}
use Rattle.order_model.specs.declared.completion.Completion.{Completion}
use Rattle.order_model.specs.declared.note.Note.TheVariants.{Page, Commit}
use Rattle.order_model.specs.OrderClosed.{IsFence}
use Rattle.crash_laws.specs.laws.Extending.{Extends}
use Rattle.crash_laws.specs.History.{History}
use Rattle.crash_laws.specs.PromiseRules.{AreHeld, KeepsBarrier, KeepsSync, BegunCall, Covers, CoversEntry}
use Rattle.crash_laws.specs.Session.{Session, HasNote, IsCommit, IsSubmitted, Before, Submitted}
use Rattle.crash_laws.specs.laws.Submitting.{Submitting, after}
use Rattle.crash_laws.proofs.Growing.{note_old, note_cases, fence_old, fence_within, ordered_old}
use Rattle.crash_laws.proofs.Growth.{unmapped_old, unmapped_new}

-- ---- when the call answers

-- No page of a later call and no commit block of a later cut is there yet, so none stands before the barrier.
pub barrier_at_end : {A : Type 0} (h : History A) (s : Session) (e b : ℕ) (Pair : ℕ → ℕ → ℕ → Type 0) (Metadata : ℕ → Type 0)
    → IsFence s.requests b → AreHeld h s (λ i. i ≤ b) Pair Metadata
    → ((o f i v : ℕ) → HasNote s o (Page f i v) → v ≤ e) → ((k c : ℕ) → IsCommit s k c → h.cut k ≤ e) → KeepsBarrier h s e Pair Metadata
barrier_at_end h s e b Pair Metadata fence held versions cuts = record {
  barrier = b;
  fence = fence;
  held = held;
  pages = λ o f i v note later. let le = versions o f i v note in absurd (omega arith);
  commits = λ k c commit later. let le = cuts k c commit in absurd (omega arith);
}

-- fewer pairs
pub held_for : {A : Type 0} (h : History A) (s : Session) (Good : ℕ → Type 0) (Pair Fewer : ℕ → ℕ → ℕ → Type 0) (Metadata : ℕ → Type 0)
    → ((f i n : ℕ) → Fewer f i n → Pair f i n) → AreHeld h s Good Pair Metadata → AreHeld h s Good Fewer Metadata
held_for h s Good Pair Fewer Metadata of held = record { K = held.K; commit = held.commit; pairs = λ f i n x. held.pairs f i n (of f i n x); metadata = held.metadata }

-- ---- one request more

module _ {A : Type 0} {h : History A} (p : Submitting) where
  pub held_pushed : {Good : ℕ → Type 0} {Pair : ℕ → ℕ → ℕ → Type 0} {Metadata : ℕ → Type 0} → AreHeld h p.session Good Pair Metadata → AreHeld h (after p) Good Pair Metadata
  held_pushed held = record {
    K = held.K;
    commit = ⊎_elim inl (λ c. inr (c.0, note_old p c.0 (Commit held.K) c.1, c.2)) held.commit;
    pairs = λ f i n pair.
        ⊎_elim inl
        (λ c. inr (record {
          place = c.place;
          version = c.version;
          note = note_old p c.place (Page f i c.version) c.note;
          ordered = ordered_old p.session.requests p.request c.place c.ordered;
          good = c.good;
          later = c.later;
          mapped = c.mapped;
          calm = c.calm;
        }))
        (held.pairs f i n pair);
    metadata = λ n x. let c = held.metadata n x in (c.0, c.1, note_old p c.1 (Commit c.0) c.2, c.3, c.4);
  }

  pub barrier_pushed : {e : ℕ} {Pair : ℕ → ℕ → ℕ → Type 0} {Metadata : ℕ → Type 0} → KeepsBarrier h p.session e Pair Metadata → KeepsBarrier h (after p) e Pair Metadata
  barrier_pushed old =
      let within = fence_within p old.barrier old.fence in
      record {
        barrier = old.barrier;
        fence = fence_old p.session.requests p.request old.barrier old.fence;
        held = held_pushed old.held;
        pages = λ o f i v note later. ⊎_elim (λ n. old.pages o f i v n later) (λ n. let at = n.0 in omega arith) (note_cases p o (Page f i v) note);
        commits = λ k c commit later. ⊎_elim (λ n. old.commits k c n later) (λ n. let at = n.0 in omega arith) (note_cases p c (Commit k) commit);
      }

  pub sync_pushed : {taken : List Completion} {Pair : ℕ → ℕ → ℕ → Type 0} {Metadata : ℕ → Type 0} → KeepsSync h p.session taken Pair Metadata → KeepsSync h (after p) taken Pair Metadata
  sync_pushed old = record { flush = old.flush; flushed = old.flushed; held = held_pushed old.held }

-- ---- a longer history

module _ {A : Type 0} {h more : History A} {s : Session} {now : ℕ} (ext : Extends h more s now) where
  pub held_grows : {Good : ℕ → Type 0} {Pair : ℕ → ℕ → ℕ → Type 0} {Metadata : ℕ → Type 0} → AreHeld h s Good Pair Metadata → AreHeld more s Good Pair Metadata
  held_grows held =
      let sub : IsSubmitted s held.K = ⊎_elim Before (λ c. Submitted c.0 c.1) held.commit in
      let cut = ext.cuts held.K sub in
      let in_time = ext.within held.K sub in
      record {
        K = held.K;
        commit = held.commit;
        pairs = λ f i n pair.
            ⊎_elim
            (λ g. let hi = g.within in inl (record { entry = g.entry; later = g.later; within = omega arith; unmapped = unmapped_new ext f i g.entry (omega arith) g.unmapped }))
            (λ c.
            let le = ext.versions c.place f i c.version c.note in
            inr (record {
              place = c.place;
              version = c.version;
              note = c.note;
              ordered = c.ordered;
              good = c.good;
              later = c.later;
              mapped = ap (λ n. more.maps n f i) cut ∙ ext.maps (h.cut held.K) f i in_time ∙ c.mapped;
              calm = λ m lo hi un. c.calm m (omega arith) hi (unmapped_old ext f i m (omega arith) un);
            }))
            (held.pairs f i n pair);
        metadata = λ n x. let c = held.metadata n x in let same = ext.cuts c.0 (Submitted c.1 c.2) in let le = c.4 in (c.0, c.1, c.2, c.3, omega arith);
      }

  pub barrier_grows : {e : ℕ} {Pair : ℕ → ℕ → ℕ → Type 0} {Metadata : ℕ → Type 0} → KeepsBarrier h s e Pair Metadata → KeepsBarrier more s e Pair Metadata
  barrier_grows old = record {
    barrier = old.barrier;
    fence = old.fence;
    held = held_grows old.held;
    pages = old.pages;
    commits = λ k c commit later. let same = ext.cuts k (Submitted c commit) in old.commits k c commit (omega arith);
  }

  -- a call covers no more pairs with a longer history
  pub covers_old : (c : BegunCall) (f i n : ℕ) → c.begin ≤ now → Covers more c f i n → Covers h c f i n
  covers_old c f i n le x = let lt = x.1 in (x.0, x.1, sym (ext.writes n f i (omega arith)) ∙ x.2)

  pub barrier_covers : (c : BegunCall) (e : ℕ) → c.begin ≤ now → KeepsBarrier h s e (Covers h c) (CoversEntry c) → KeepsBarrier more s e (Covers more c) (CoversEntry c)
  barrier_covers c e begun old =
      let b = barrier_grows old in
      record {
        barrier = b.barrier;
        fence = b.fence;
        held = held_for more s (λ i. i ≤ b.barrier) (Covers h c) (Covers more c) (CoversEntry c) (λ f i n x. covers_old c f i n begun x) b.held;
        pages = b.pages;
        commits = b.commits;
      }

  pub sync_covers : (c : BegunCall) (taken : List Completion) → c.begin ≤ now → KeepsSync h s taken (Covers h c) (CoversEntry c) → KeepsSync more s taken (Covers more c) (CoversEntry c)
  sync_covers c taken begun old = record {
    flush = old.flush;
    flushed = old.flushed;
    held = held_for more s (λ i. i < old.flush) (Covers h c) (Covers more c) (CoversEntry c) (λ f i n x. covers_old c f i n begun x) (held_grows old.held);
  }
