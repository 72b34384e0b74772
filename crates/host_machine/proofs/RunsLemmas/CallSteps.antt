-- What becomes of a begun call's facts when one request more is submitted, and when the history grows.
use Rattle.std.proofs.Common.{sym, ap, subst, ◌∙◌, inl, inr, ⊎_elim, arith}
use Rattle.std.proofs.lemmas.Bool.{cases_Bool, cases_lt, cond-true, cond-false, false≢true}
use Rattle.std.specs.Prelude.{◌≡◌, ℕ, zero, suc, ◌+◌, ◌≤◌, ◌⊎◌, true, List, Some}
use Rattle.blk_base.specs.laws.Members.{slice_get-length}
use Rattle.order_model.specs.declared.note.Note.TheVariants.{Page, Commit}
use Rattle.page_cache.specs.Pages.{page_at, is_unsent}
use Rattle.page_cache.specs.declared.cached_page.CachedPage.{CachedPage}
use Rattle.crash_laws.proofs.Growing.{note_old, note_cases, fence_old, ordered_old}
use Rattle.crash_laws.proofs.Growth.{unmapped_old, unmapped_new}
use Rattle.crash_laws.proofs.Histories.{stays_mapped}
use Rattle.crash_laws.proofs.Promises.{superseded_or_calm}
use Rattle.crash_laws.proofs.PromiseSteps.{held_pushed, held_grows, held_for, covers_old}
use Rattle.crash_laws.specs.laws.CallFacts.{IsSent, IsDone}
use Rattle.crash_laws.specs.laws.Extending.{Extends}
use Rattle.crash_laws.specs.History.{History, IsUnmapped, last_write, HasTrees}
use Rattle.crash_laws.specs.PromiseRules.{IsSuperseded, Covers, CoversEntry}
use Rattle.crash_laws.specs.Session.{Session}
use Rattle.crash_laws.specs.laws.Submitting.{Submitting, after}
use Rattle.host_machine.proofs.ChangeSteps.{IsEntry, extends}
use Rattle.host_machine.specs.State.{Begun}
use Rattle.flush_actor.specs.declared.wait.Wait.{Wait}
use Rattle.host_machine.specs.laws.Facts.{Numbers}
use Rattle.host_machine.specs.runs.Promises.{call_of}
use Rattle.host_machine.specs.runs.laws.CallFacts.{IsGoodFor, HasSentBarrier, CallFacts}

-- ---- the history alone

-- a written block is mapped later, or was unmapped between
pub mapped_or_gone : {A : Type 0} (h : History A) → HasTrees h → (f i n b : ℕ) → h.writes n f i ≡ true → n ≤ b → IsSuperseded h f i n b ⊎ (h.maps b f i ≡ true)
mapped_or_gone h trees f i n b w le =
    ⊎_elim (λ s. inl s) (λ calm. inr (stays_mapped f i n b le calm (trees.written f i n w))) (superseded_or_calm h f i n b)

-- the last write is no earlier than any write
pub last_write_above : {A : Type 0} (h : History A) (f i n b : ℕ) → h.writes n f i ≡ true → n ≤ b → n ≤ last_write h f i b
last_write_above h f i n zero w le = omega arith
last_write_above h f i n (suc b) w le =
    elim (cases_Bool (h.writes (suc b) f i)) [
      | inl t ↦ let e = cond-true (h.writes (suc b) f i) (suc b) (last_write h f i b) t in omega arith
      | inr t ↦
          let e = cond-false (h.writes (suc b) f i) (suc b) (last_write h f i b) t in
          ⊎_elim
          (λ lt. let rest = last_write_above h f i n b w (omega arith) in omega arith)
          (λ ge. let same : n ≡ suc b = omega arith in absurd (false≢true (sym t ∙ subst (λ k. h.writes k f i ≡ true) same w)))
          (cases_lt n (suc b))
    ]

pub later_bound : {A : Type 0} {h : History A} {f i n a b : ℕ} → a ≤ b → IsSuperseded h f i n a → IsSuperseded h f i n b
later_bound le s = let hi = s.within in record { entry = s.entry; later = s.later; within = omega arith; unmapped = s.unmapped }

-- ---- one request more

module _ (p : Submitting) where
  pub sent_old : {Good : ℕ → Type 0} {f i n : ℕ} → IsSent p.session Good f i n → IsSent (after p) Good f i n
  sent_old {f = f} {i = i} x = record {
    place = x.place;
    version = x.version;
    note = note_old p x.place (Page f i x.version) x.note;
    ordered = ordered_old p.session.requests p.request x.place x.ordered;
    good = x.good;
    later = x.later;
  }

module _ {A : Type 0} {h : History A} (p : Submitting) where
  pub done_old : {Good : ℕ → Type 0} {now f i n : ℕ} → IsDone h p.session Good now f i n → IsDone h (after p) Good now f i n
  done_old d = ⊎_elim (λ x. inl (sent_old p x)) (λ s. inr s) d

  good_old : {now r T : ℕ} {b : Begun} → IsGoodFor h p.session now r T b → IsGoodFor h (after p) now r T b
  good_old {T = T} g = record {
    positive = g.positive;
    within = g.within;
    pairs = λ f i n c.
        ⊎_elim (λ s. inl s)
        (λ x.
        let at = slice_get-length p.session.notes x.place (Page f i x.version) x.note in
        inr (record {
          place = x.place;
          version = x.version;
          note = note_old p x.place (Page f i x.version) x.note;
          ordered = ordered_old p.session.requests p.request x.place x.ordered;
          later = x.later;
          before = λ k commit. ⊎_elim (λ o. x.before k o) (λ n. let new = n.0 in omega arith) (note_cases p k (Commit T) commit);
          mapped = x.mapped;
          calm = x.calm;
        }))
        (g.pairs f i n c);
    metadata = g.metadata;
  }

  barrier_old : {now : ℕ} {b : Begun} → HasSentBarrier h p.session now b → HasSentBarrier h (after p) now b
  barrier_old x = record { barrier = x.barrier; fence = fence_old p.session.requests p.request x.barrier x.fence; pairs = λ f i n c. done_old (x.pairs f i n c) }

  -- Whatever it is: the facts stay.
  pub call_pushed : {pages : List CachedPage} {now r : ℕ} {b : Begun} {w : Wait} → CallFacts h p.session pages now r b w → CallFacts h (after p) pages now r b w
  call_pushed old = record {
    begun = old.begun;
    kind = old.kind;
    pairs = λ t u f i n c. ⊎_elim (λ d. inl (done_old d)) (λ d. inr d) (old.pairs t u f i n c);
    barrier = λ e. barrier_old (old.barrier e);
    target = λ T e. good_old (old.target T e);
    need = λ id e. held_pushed p (old.need id e);
    cause = λ id e u. let x = old.cause id e u in record { T = x.T; c = x.c; target = x.target; commit = note_old p x.c (Commit x.T) x.commit; before = x.before };
  }

-- ---- a longer history

module _ {A : Type 0} {h more : History A} {s : Session} {now r N : ℕ} (entry : IsEntry h more now r) (numbers : Numbers h s now r N) where
  abbrev ext : Extends h more s now
  ext = extends entry numbers

  pub gone_grows : {f i n a b : ℕ} → a ≤ now → a ≤ b → IsSuperseded h f i n a → IsSuperseded more f i n b
  gone_grows {f = f} {i = i} le up s = let hi = s.within in record { entry = s.entry; later = s.later; within = omega arith; unmapped = unmapped_new ext f i s.entry (omega arith) s.unmapped }

  pub done_grows : {Good : ℕ → Type 0} {f i n : ℕ} → IsDone h s Good now f i n → IsDone more s Good (now + 1) f i n
  done_grows d = ⊎_elim (λ x. inl x) (λ g. inr (gone_grows (omega arith) (omega arith) g)) d

  cut_grows : (T : ℕ) → T ≤ r → h.cut T ≤ more.cut T
  cut_grows T le =
      ⊎_elim
      (λ lt. let e = entry.cuts T lt in omega arith)
      (λ ge. let e = entry.running T ge in let at = numbers.cuts T in omega arith)
      (cases_lt T r)

  good_grows : {T : ℕ} {b : Begun} → b.begin ≤ now → IsGoodFor h s now r T b → IsGoodFor more s (now + 1) r T b
  good_grows {T = T} {b = b} begun g =
      let up = cut_grows T g.within in
      let old_cut = numbers.cuts T in
      record {
        positive = g.positive;
        within = g.within;
        pairs = λ f i n c.
            ⊎_elim (λ x. inl (gone_grows old_cut up x))
            (λ x.
            let version = numbers.versions x.place f i x.version x.note in
            inr (record {
              place = x.place;
              version = x.version;
              note = x.note;
              ordered = x.ordered;
              later = x.later;
              before = x.before;
              mapped = λ lt. ap (λ k. more.maps k f i) (entry.cuts T lt) ∙ entry.maps (h.cut T) f i old_cut ∙ x.mapped lt;
              calm = λ lt m lo hi un. let e = entry.cuts T lt in x.calm lt m (omega arith) hi (unmapped_old ext f i m (omega arith) un);
            }))
            (g.pairs f i n (covers_old ext (call_of b) f i n begun c));
        metadata = λ e. let m = g.metadata e in omega arith;
      }

  -- pages stay to do, or an entry unmapped them
  pub record KeepsUnsent (pages other : List CachedPage) : Type 0 where
    pub stays : (f i : ℕ) (p : CachedPage) → page_at pages f i ≡ Some p → is_unsent p.state ≡ true
        → ((q : CachedPage) × (page_at other f i ≡ Some q) × (is_unsent q.state ≡ true)) ⊎ IsUnmapped more f i (now + 1)

  pub call_grows : {pages other : List CachedPage} {b : Begun} {w : Wait} → KeepsUnsent pages other → CallFacts h s pages now r b w → CallFacts more s other (now + 1) r b w
  call_grows {pages = pages} {other = other} {b = b} {w = w} keeps old =
      let begun = old.begun in
      record {
        begun = omega arith;
        kind = old.kind;
        pairs = λ t u f i n c.
            ⊎_elim
            (λ d. inl (done_grows d))
            (λ d.
            ⊎_elim
            (λ q. inr (record { listed = d.listed; page = q.0; there = q.1; unsent = q.2 }))
            (λ un. let lt = c.1 in inl (inr (record { entry = now + 1; later = omega arith; within = omega arith; unmapped = un })))
            (keeps.stays f i d.page d.there d.unsent))
            (old.pairs t u f i n (covers_old ext (call_of b) f i n begun c));
        barrier = λ e. let x = old.barrier e in record { barrier = x.barrier; fence = x.fence; pairs = λ f i n c. done_grows (x.pairs f i n (covers_old ext (call_of b) f i n begun c)) };
        target = λ T e. good_grows begun (old.target T e);
        need = λ id e.
            held_for more s (λ o. o ≤ id) (Covers h (call_of b)) (Covers more (call_of b)) (CoversEntry (call_of b)) (λ f i n c. covers_old ext (call_of b) f i n begun c)
            (held_grows ext (old.need id e));
        cause = old.cause;
      }

  -- where the entry changed no page
  pub same_pages : (pages : List CachedPage) → KeepsUnsent pages pages
  same_pages pages = record { stays = λ f i p e u. inl (p, e, u) }
